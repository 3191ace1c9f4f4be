-- What a budget rule may answer.
use Rattle.std.specs.Prelude.{ℕ, ◌≤◌}

-- a budget of at least 256 sectors, so that every request fits it, and at most the limit
abbrev pub Fits : ℕ → ℕ → Type 0
Fits limit b = (256 ≤ b) × (b ≤ limit)
