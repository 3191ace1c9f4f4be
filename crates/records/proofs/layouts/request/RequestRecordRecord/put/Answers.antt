use Rattle.std.proofs.Common.{[], ◌∷◌, ◌++◌, arith}
use Rattle.fields.specs.Numbers.{bytes}
use Rattle.fields.proofs.Puts.{put_twice}
use Rattle.records.proofs.layouts.request.RequestRecordRecord.put.Goals as goal

pub returns-clause-after : goal.returns-clause-after
returns-clause-after c =
    let codes = c.args.self.application ∷ c.from.result ∷ 0 ∷ 0 ∷ 0 ∷ 0 ∷ [] in
    let numbers =
    put_twice _ _ (bytes 8 c.args.self.first) (bytes 2 c.args.self.size) _ c.put-end.ensures.after c.put-end-2.ensures.after
    c.put-end.ensures.end (omega arith) in
    let all =
    put_twice _ _ (bytes 8 c.args.self.first ++ bytes 2 c.args.self.size) codes _ numbers c.put_bytes.ensures.after (omega arith)
    (omega arith) in
    cc
