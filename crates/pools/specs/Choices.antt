-- The two ways to choose.
use Rattle.std.specs.Prelude.{ℕ, Bool, true, ◌⊎◌, List, Some, None, Option, nat_le, nat_lt}
use Rattle.least.specs.Choice.{FirstLeast, NoneEligible, place}
use Rattle.pools.specs.declared.request.Request.{Request}

-- the oldest stands first
abbrev pub oldest : List Request → ℕ → ℕ
oldest xs head = 0

abbrev pub lower : Request → Request → Bool
lower x y = nat_lt x.first y.first

abbrev pub ahead : ℕ → Request → Bool
ahead head x = nat_le head x.first

abbrev pub any : Request → Bool
any x = true

-- the place found; else the other; else the first
abbrev pub first_found : Option ℕ → Option ℕ → ℕ
first_found (Some k) o = k
first_found None (Some k) = k
first_found None None = 0

-- the lowest first sector that the head has not passed, or, if it has passed all, the lowest of all
abbrev pub next_ahead : List Request → ℕ → ℕ
next_ahead xs head = first_found (place (ahead head) lower xs) (place any lower xs)

-- The same by its meaning: of those that the head has not passed the first least, or it has passed all,
-- and of all the first least.
abbrev pub Sweep : List Request → ℕ → ℕ → Type 0
Sweep xs head k = FirstLeast (ahead head) lower xs k ⊎ (NoneEligible (ahead head) xs × FirstLeast any lower xs k)
