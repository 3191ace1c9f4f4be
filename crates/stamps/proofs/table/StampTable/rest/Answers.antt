use Rattle.std.proofs.Common.{rules}
use Rattle.stamps.specs.Steps.{rested}
use Rattle.stamps.specs.View.{table}
use Rattle.stamps.proofs.Soundness.{kept_by, rested_sound}
use Rattle.stamps.proofs.table.StampTable.rest.Goals as goal

pub invariant_of-self : goal.invariant_of-self
invariant_of-self c = let old = c.args.self.now in record { sound = kept_by (rested c.args.budget) (rested_sound c.args.budget) (table old) _ (search rules) old.sound }
