-- The two budget rules.
use Rattle.std.specs.Prelude.{ℕ, ◌-◌, ◌*◌, ◌/◌, min, max}
use Rattle.pools.specs.declared.rule.Reason.{Reason}
use Rattle.pools.specs.declared.rule.Reason.TheVariants.{Exhausted, HoldRanOut, RanDry}

-- steady: always the limit
abbrev pub steady_first : ℕ → ℕ
steady_first limit = limit

abbrev pub steady_next : ℕ → ℕ → ℕ → Reason → ℕ
steady_next limit last served why = limit

-- feedback: four times as much for one that used its budget up, less by an eighth of the limit for one
-- that kept the disk waiting
abbrev pub feedback_first : ℕ → ℕ
feedback_first limit = 256

abbrev pub feedback_next : ℕ → ℕ → ℕ → Reason → ℕ
feedback_next limit last served Exhausted = min (4 * last) limit
feedback_next limit last served HoldRanOut = max (last - limit / 8) 256
feedback_next limit last served RanDry = last
