use Rattle.std.proofs.Common.{◌≡◌, ◌++◌, drop, vec_items}
use Rattle.order.specs.Budgets.{budgets_from}
use Rattle.order.proofs.budgets.budgets.Given as goal

abbrev pub invariant-loop-reason : goal.invariant-loop-reason
invariant-loop-reason g l = vec_items l.all ++ budgets_from (g.R.BudgetRule.next_budget l.limit) l.last (drop l.reason-index l.reasons) ≡ budgets_from (g.R.BudgetRule.next_budget l.limit) (g.R.BudgetRule.first_budget l.limit) l.reasons
