use Rattle.std.proofs.Common.{rules}
use Rattle.stamps.specs.Steps.{allotted}
use Rattle.stamps.specs.View.{table}
use Rattle.stamps.proofs.Soundness.{kept_by, allotted_sound}
use Rattle.stamps.proofs.table.StampTable.allot.Goals as goal

pub invariant_of-self : goal.invariant_of-self
invariant_of-self c = let old = c.args.self.now in record { sound = kept_by (allotted c.args.application c.args.budget) (allotted_sound c.args.application c.args.budget) (table old) _ (search rules) old.sound }
