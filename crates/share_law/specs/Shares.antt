-- The share law of a roster: what holds of every course from the start, where all are idle, and of every
-- stretch of it, whatever the operations are.
use Rattle.std.specs.Prelude.{◌≡◌, ℕ, ◌+◌, ◌-◌, ◌*◌, ◌^◌, ◌<◌, ◌≤◌, false, length, slice_index_or}
use Rattle.rosters.specs.Applications.{application}
use Rattle.rosters.specs.Rosters.{LineUp, total_weight, largest_limit}
use Rattle.rosters.specs.Stamps.{cost_of, is_idle}
use Rattle.stamps.specs.Rows.{position}
use Rattle.stamps.specs.Tables.{Table, row}
use Rattle.stamps.specs.Steps.{initial}
use Rattle.rosters.specs.declared.application.Application.{Application}
use Rattle.rosters.specs.declared.stamp.Stamp.{Stamp}
use Rattle.share_law.specs.Courses.{Operation, Course, applied, made, after, sent_in, sent_for, NeverIdle}

-- the entry of application k, with its weight, its limit, and what a sector costs it
abbrev pub entry : LineUp → ℕ → Application
entry r k = slice_index_or r.applications k (application 0 0)

abbrev pub weight_of : LineUp → ℕ → ℕ
weight_of r k = (entry r k).weight

abbrev pub limit_of : LineUp → ℕ → ℕ
limit_of r k = (entry r k).limit

abbrev pub cost_in : LineUp → ℕ → ℕ
cost_in r k = cost_of (total_weight r) (weight_of r k)

abbrev pub Listed : LineUp → ℕ → Type 0
Listed r k = k < length r.applications

abbrev pub Unlisted : LineUp → ℕ → Type 0
Unlisted r k = length r.applications ≤ k

-- the table of the roster after a course
abbrev pub table_after : LineUp → Course → Table
table_after r course = after course (initial r)

-- no application is further ahead of virtual time than its limit makes it
abbrev pub Lead : LineUp → Type 0
Lead r =
    (course : Course) (k : ℕ) → Listed r k
    → position (row (table_after r course) k) + limit_of r k * 2520 ≤ (table_after r course).virtual + limit_of r k * cost_in r k

-- none that is not idle is further behind it than its own limit and the largest limit make it
abbrev pub Lag : LineUp → Type 0
Lag r =
    (course : Course) (k : ℕ) → Listed r k → is_idle (row (table_after r course) k) ≡ false
    → (table_after r course).virtual ≤ position (row (table_after r course) k) + limit_of r k * cost_in r k + 2520 * largest_limit r

-- Over a stretch in which it is never idle, an application of weight w and limit m gets S of the A sectors
-- sent, and its share but for a number that does not grow: w A ≤ T S + (2 T - w) m + w M.
abbrev pub ShareBound : LineUp → Type 0
ShareBound r =
    (before stretch : Course) (k : ℕ) → Listed r k → NeverIdle k stretch (table_after r before)
    → weight_of r k * sent_in stretch (table_after r before)
    ≤ total_weight r * sent_for k stretch (table_after r before) + (2 * total_weight r - weight_of r k) * limit_of r k + weight_of r k * largest_limit r

-- Over a stretch in which neither of two applications is idle, they get S₁ and S₂ sectors, by their
-- weights but for a number that does not grow: T (w₂ S₁ - w₁ S₂) ≤ 2 T (w₂ m₁ + w₁ m₂) + w₁ w₂ (2 M - m₁ - m₂).
abbrev pub PairBound : LineUp → Type 0
PairBound r =
    (before stretch : Course) (i j : ℕ) → Listed r i → Listed r j
    → NeverIdle i stretch (table_after r before) → NeverIdle j stretch (table_after r before)
    → total_weight r * weight_of r j * sent_for i stretch (table_after r before)
    ≤ total_weight r * weight_of r i * sent_for j stretch (table_after r before)
    + 2 * total_weight r * (weight_of r j * limit_of r i + weight_of r i * limit_of r j)
    + weight_of r i * weight_of r j * (2 * largest_limit r - limit_of r i - limit_of r j)

-- a row's virtual times are far from the end of 64 bits
pub record SmallTimes (s : Stamp) : Type 0 where
  pub start : s.start < 2 ^ 59
  pub finish : s.finish < 2 ^ 59
  pub reached : s.reached < 2 ^ 59
  pub position : position s < 2 ^ 59

-- no more than 2^40 sectors are ever sent, and so no virtual time of any application comes near the end of 64 bits
pub record SmallTable (applications sectors : ℕ) (t : Table) : Type 0 where
  pub rows : length t.stamps ≡ applications
  pub counted : t.sent ≡ sectors
  pub sectors_most : sectors ≤ 2 ^ 40
  pub time : t.virtual < 2 ^ 59
  pub times : (k : ℕ) → k < length t.stamps → SmallTimes (row t k)

abbrev pub NoOverflow : LineUp → Type 0
NoOverflow r = (course : Course) → SmallTable (length r.applications) (sent_in course (initial r)) (table_after r course)

-- an operation that is not made changes nothing
abbrev pub OutOfPlace : Type 0
OutOfPlace = (o : Operation) (t : Table) → made o t ≡ false → applied o t ≡ t

pub record Law (r : LineUp) : Type 0 where
  pub lead : Lead r
  pub lag : Lag r
  pub share_bound : ShareBound r
  pub pair_bound : PairBound r
  pub no_overflow : NoOverflow r
  pub out_of_place : OutOfPlace
