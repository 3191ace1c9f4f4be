use Rattle.std.proofs.Common.{rules}
use Rattle.stamps.specs.Steps.{requeued}
use Rattle.stamps.specs.View.{table}
use Rattle.stamps.proofs.Soundness.{kept_by, requeued_sound}
use Rattle.stamps.proofs.table.StampTable.requeue.Goals as goal

pub invariant_of-self : goal.invariant_of-self
invariant_of-self c = let old = c.args.self.now in record { sound = kept_by (requeued c.args.budget) (requeued_sound c.args.budget) (table old) _ (search rules) old.sound }
