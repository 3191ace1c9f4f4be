-- A new table is sound.
use Rattle.std.proofs.Common.{List, None, sym, subst, rules}
use Rattle.rosters.specs.Rosters.{line_up}
use Rattle.stamps.specs.Tables.{Sound}
use Rattle.rosters.specs.declared.stamp.Stamp.{Stamp}
use Rattle.stamps.proofs.Beginning.{initial_sound}
use Rattle.stamps.proofs.table.StampTable.new.Goals as goal

pub invariant_of-result : goal.invariant_of-result
invariant_of-result c =
    let roster = c.args.roster in
    let fits : (xs : List Stamp) → Type 0 = λ xs. Sound (record { virtual = 0; sent = 0; serving = None; stamps = xs }) in
    record { sound = ∣ subst fits (sym c.into_stamps.ensures) (initial_sound (line_up roster) (search rules) roster.each) ∣₁ }
