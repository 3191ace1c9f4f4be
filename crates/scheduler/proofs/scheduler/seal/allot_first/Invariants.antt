use Rattle.std.proofs.Common.{◌≡◌}
use Rattle.stamps.specs.View.{table}
use Rattle.scheduler.proofs.Firsts.{so_far}
use Rattle.scheduler.proofs.scheduler.seal.allot_first.Given as goal

abbrev pub invariant-loop-k : goal.invariant-loop-k
invariant-loop-k g l = table l.stamps ≡ so_far g.R.BudgetRule.first_budget (table l.initial.stamps) l.k
