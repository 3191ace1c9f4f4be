use Rattle.std.proofs.Common.{[], ◌∷◌, arith}
use Rattle.fields.specs.Numbers.{bytes}
use Rattle.fields.proofs.Puts.{put_twice}
use Rattle.records.proofs.layouts.application.ApplicationRecordRecord.put.Goals as goal

pub returns-clause-after : goal.returns-clause-after
returns-clause-after c =
    put_twice _ _ (c.args.self.weight ∷ 0 ∷ 0 ∷ 0 ∷ []) (bytes 4 c.args.self.limit) _ c.put_bytes-end.ensures.after c.put.ensures.after
    c.put_bytes-end.ensures.end (omega arith)
