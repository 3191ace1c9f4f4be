use Rattle.std.proofs.Common.{[], ◌∷◌, ◌++◌, arith}
use Rattle.fields.specs.Numbers.{bytes}
use Rattle.fields.proofs.Puts.{put_twice}
use Rattle.records.proofs.layouts.event.EventRecordRecord.put.Goals as goal

pub returns-clause-after : goal.returns-clause-after
returns-clause-after c =
    let code = c.code.result ∷ 0 ∷ 0 ∷ 0 ∷ [] in
    let front =
    put_twice _ _ (bytes 8 c.args.self.time) code _ c.put-end.ensures.after c.put_bytes-end.ensures.after c.put-end.ensures.end
    (omega arith) in
    let all =
    put_twice _ _ (bytes 8 c.args.self.time ++ code) (bytes 4 c.argument.result) _ front c.put.ensures.after (omega arith)
    (omega arith) in
    cc
