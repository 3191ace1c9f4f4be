use Rattle.std.proofs.Common.{arith}
use Rattle.bodies.proofs.judges.SoundJudgeArrayU8.judge.Goals as goal

pub overflow_mul-index : goal.overflow_mul-index
overflow_mul-index g c = grind (arith, g.met.R.FixedRecord.width.1)

pub overflow_add-self : goal.overflow_add-self
overflow_add-self g c = grind (arith, g.met.R.FixedRecord.width.1)
