use Rattle.std.proofs.Common.{[], ◌∷◌, arith}
use Rattle.fields.specs.Numbers.{bytes}
use Rattle.fields.proofs.Puts.{put_twice}
use Rattle.records.proofs.layouts.settings.SettingsRecord.put.Goals as goal

pub returns-clause-after : goal.returns-clause-after
returns-clause-after c =
    let codes = c.from.result ∷ c.from-2.result ∷ 0 ∷ 0 ∷ [] in
    let both =
    put_twice _ _ (bytes 4 c.args.self.hold) codes _ c.put-end.ensures.after c.put_bytes.ensures.after c.put-end.ensures.end
    (omega arith) in
    cc
