-- The budgets that a rule gives, one after the other.
use Rattle.std.specs.Prelude.{ℕ, List, [], ◌∷◌}
use Rattle.pools.specs.declared.rule.Reason.{Reason}

-- from the budget b on, by the rule's next one
abbrev pub budgets_from : (ℕ → ℕ → Reason → ℕ) → ℕ → List Reason → List ℕ
budgets_from next b [] = b ∷ []
budgets_from next b (why ∷ whys) = b ∷ budgets_from next (next b b why) whys
