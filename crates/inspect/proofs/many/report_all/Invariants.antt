use Rattle.std.proofs.Common.{length}
use Rattle.inspect.proofs.many.report_all.Given as goal

abbrev pub decreases-loop-file : goal.decreases-loop-file
decreases-loop-file g l = length l.rest
