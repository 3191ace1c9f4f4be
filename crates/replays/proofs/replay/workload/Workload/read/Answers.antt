use Rattle.trace.specs.View.{tables_of}
use Rattle.replays.proofs.Accepting.{judged_of}
use Rattle.replays.proofs.replay.workload.Workload.read.Goals as goal

pub invariant_of-result : goal.invariant_of-result
invariant_of-result c = judged_of (tables_of c.in_ok-trace.trace) c.args.bytes.now c.in_ok-trace.ensures.rewritten
