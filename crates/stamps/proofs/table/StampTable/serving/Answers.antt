-- The table is sound, so who is served has a row, and there are sixteen at most.
use Rattle.std.proofs.Common.{arith}
use Rattle.stamps.specs.View.{table}
use Rattle.stamps.proofs.Soundness.{the_sound}
use Rattle.stamps.proofs.table.StampTable.serving.Goals as goal

pub returns-clause-small : goal.returns-clause-small
returns-clause-small c = let sound = the_sound (table c.args.self.now) c.args.self.now.sound in grind (arith, sound.within, sound.few)
