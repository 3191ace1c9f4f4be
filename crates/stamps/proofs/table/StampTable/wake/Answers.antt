use Rattle.std.proofs.Common.{rules}
use Rattle.stamps.specs.Steps.{woken}
use Rattle.stamps.specs.View.{table}
use Rattle.stamps.proofs.Soundness.{kept_by, woken_sound}
use Rattle.stamps.proofs.table.StampTable.wake.Goals as goal

pub invariant_of-self : goal.invariant_of-self
invariant_of-self c = let old = c.args.self.now in record { sound = kept_by (woken c.args.application) (woken_sound c.args.application) (table old) _ (search rules) old.sound }
