use Rattle.std.proofs.Common.{◌+◌}
use Rattle.replays.specs.Asked.{members}
use Rattle.replays.specs.Credits.{sums_of}
use Rattle.replays.proofs.Sharing.{Sharing}
use Rattle.replays.proofs.replay.shares.put_shares.Given as goal

abbrev pub invariant-loop-index : goal.invariant-loop-index
invariant-loop-index l = Sharing (sums_of l.sent) (members l.workload.applications) l.fn.out l.at (l.index + 1) l.end l.out
