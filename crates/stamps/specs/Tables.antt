-- The stamp table, and what keeps its numbers small.
use Rattle.std.specs.Prelude.{◌≡◌, ℕ, ◌+◌, ◌*◌, ◌^◌, ◌<◌, ◌≤◌, Bool, false, List, length, Some, None, Option, ◌==◌, slice_index_or}
use Rattle.rosters.specs.Stamps.{no_stamp, is_serving}
use Rattle.stamps.specs.Rows.{position}
use Rattle.rosters.specs.declared.stamp.Stamp.{Stamp}

-- virtual time, all sectors sent so far, who is served, and each application's row
pub record Table : Type 0 where
  pub virtual : ℕ
  pub sent : ℕ
  pub serving : Option ℕ
  pub stamps : List Stamp

-- the row of application k
abbrev pub row : Table → ℕ → Stamp
row t k = slice_index_or t.stamps k no_stamp

abbrev pub is_application : Option ℕ → ℕ → Bool
is_application None k = false
is_application (Some j) k = j == k

-- A row is modest when n sectors were sent: no sector costs more than 2,520 × 160, and so no virtual
-- time has come further than that for each sector sent, but for a finish, which is a budget ahead.
pub record Modest (n : ℕ) (s : Stamp) : Type 0 where
  pub cost_high : s.cost ≤ 403200
  pub limit_high : s.limit ≤ 65536
  pub budget_low : 0 < s.budget
  pub budget_high : s.budget ≤ s.limit
  pub served_high : s.served ≤ 65536
  pub start_high : s.start ≤ 403200 * n
  pub reached_high : s.reached ≤ 403200 * n
  pub position_high : position s ≤ 403200 * n
  pub finish_high : s.finish ≤ 403200 * (n + 65536)
  deriving IsProp as modest_prop

-- what holds of every table from its making on
pub record Sound (t : Table) : Type 0 where
  pub few : length t.stamps ≤ 16
  pub sectors : t.sent ≤ 2 ^ 40
  pub pace : t.virtual ≤ 403200 * t.sent
  pub each : (k : ℕ) → k < length t.stamps → Modest t.sent (row t k)
  -- the row that serves is the one named, and there is no other
  pub one : (k : ℕ) → k < length t.stamps → is_serving (row t k) ≡ is_application t.serving k
  pub within : (k : ℕ) → t.serving ≡ Some k → k < length t.stamps
  deriving IsProp as sound_prop
