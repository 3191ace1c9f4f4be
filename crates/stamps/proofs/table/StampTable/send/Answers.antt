use Rattle.std.proofs.Common.{rules}
use Rattle.stamps.specs.Steps.{charged}
use Rattle.stamps.specs.View.{table}
use Rattle.stamps.proofs.Soundness.{kept_by, charged_sound}
use Rattle.stamps.proofs.table.StampTable.send.Goals as goal

pub invariant_of-self : goal.invariant_of-self
invariant_of-self c = let old = c.args.self.now in record { sound = kept_by (charged c.args.size) (charged_sound c.args.size) (table old) _ (search rules) old.sound }
