-- The bound of the share law as a whole number of sectors.
use Rattle.std.specs.Prelude.{ℕ, ◌+◌, ◌-◌, ◌*◌, ◌/◌, ◌%◌, ◌<◌, ◌≤◌, min, Option}
use Rattle.std.specs.Option.{option_map}
use Rattle.std.specs.List.{slice_get}
use Rattle.rosters.specs.Rosters.{LineUp, total_weight, largest_limit}
use Rattle.rosters.specs.declared.application.Application.{Application}
use Rattle.share_law.specs.Courses.{Course, sent_in, sent_for, NeverIdle}
use Rattle.share_law.specs.Shares.{entry, weight_of, table_after}

-- (2 T - w) m + w M: what the share bound allows an application beyond its share, T times over
abbrev pub allowance : (T M w m : ℕ) → ℕ
allowance T M w m = (2 * T - w) * m + w * M

-- the least whole number of which the d-fold is not below n
abbrev pub rounded_up : ℕ → ℕ → ℕ
rounded_up n d = n / d + min 1 (n % d)

abbrev pub allowed : LineUp → Application → ℕ
allowed r a = allowance (total_weight r) (largest_limit r) a.weight a.limit

-- the bound of each application on the roster
abbrev pub bound_answer : LineUp → ℕ → Option ℕ
bound_answer r k = option_map (λ a. rounded_up (allowed r a) (total_weight r)) (slice_get r.applications k)

-- over any stretch in which application k is never idle, it gets its share of the sectors sent, less b
abbrev pub FallsBehindAtMost : LineUp → ℕ → ℕ → Type 0
FallsBehindAtMost r k b =
    (before stretch : Course) → NeverIdle k stretch (table_after r before)
    → weight_of r k * sent_in stretch (table_after r before) ≤ total_weight r * (sent_for k stretch (table_after r before) + b)

-- what the answer b for application k is: the least whole number of sectors that the share bound gives, and
-- so a bound on how far it falls behind
pub record Bound (r : LineUp) (k b : ℕ) : Type 0 where
  pub enough : allowed r (entry r k) ≤ total_weight r * b
  pub least : (c : ℕ) → allowed r (entry r k) ≤ total_weight r * c → b ≤ c
  pub holds : FallsBehindAtMost r k b

-- the ranges of a roster's figures, in which the allowance is far from the end of 64 bits
pub record InRange (T M w m : ℕ) : Type 0 where
  pub some_weight : 0 < T
  pub weights_few : T ≤ 160
  pub own_weight : w ≤ T
  pub own_limit : m ≤ 65536
  pub other_limits : M ≤ 65536
