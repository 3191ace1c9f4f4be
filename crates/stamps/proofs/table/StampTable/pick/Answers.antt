use Rattle.std.proofs.Common.{rules}
use Rattle.stamps.specs.Steps.{picked}
use Rattle.stamps.specs.View.{table}
use Rattle.stamps.proofs.Soundness.{kept_by, picked_sound}
use Rattle.stamps.proofs.table.StampTable.pick.Goals as goal

pub invariant_of-self : goal.invariant_of-self
invariant_of-self c = let old = c.args.self.now in record { sound = kept_by picked picked_sound (table old) _ (search rules) old.sound }
