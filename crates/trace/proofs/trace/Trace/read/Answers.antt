use Rattle.std.proofs.Common.{arith}
use Rattle.std.proofs.lemmas.List.Elements.{All-from_get_or}
use Rattle.records.proofs.RecordTrips.{Byte}
use Rattle.trace.proofs.Calls.{rewritten}
use Rattle.trace.proofs.trace.Trace.read.Goals as goal

pub returns-clause-rewritten : goal.returns-clause-rewritten
returns-clause-rewritten c =
    let bs = c.args.bytes.now in
    rewritten bs c.open.result (All-from_get_or Byte bs 0 (λ i h. omega (arith, c.type_inv.bytes i))) c.open.ensures
