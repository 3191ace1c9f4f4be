-- What the operations know of the row they change.
use Rattle.std.specs.Prelude.{◌≡◌, ℕ, ◌+◌, ◌*◌, ◌^◌, ◌<◌, ◌≤◌, max, true, length, Some}
use Rattle.stamps.specs.Rows.{paid}
use Rattle.stamps.specs.Tables.{Table, row}
use Rattle.stamps.specs.Steps.{can_wake, finishing}
use Rattle.rosters.specs.declared.stamp.Stamp.{Stamp}

-- application k is idle, with the row s, and its finish lies within 64 bits if it wakes now
pub record Resting (t : Table) (k : ℕ) (s : Stamp) : Type 0 where
  pub is : can_wake k t ≡ true
  pub inside : k < length t.stamps
  pub reads : row t k ≡ s
  pub room : max t.virtual s.reached + s.budget * s.cost < 2 ^ 64

-- k is served, with the row s, and there is room for another budget ahead of it in 64 bits
pub record Current (t : Table) (k : ℕ) (s : Stamp) : Type 0 where
  pub is : t.serving ≡ Some k
  pub inside : k < length t.stamps
  pub reads : row t k ≡ s
  pub served_high : s.served ≤ 65536
  pub paid_high : paid s ≤ 2 ^ 59
  pub limit_high : s.limit ≤ 65536
  pub cost_high : s.cost ≤ 403200
  pub sent_high : t.sent ≤ 2 ^ 40
  pub virtual_high : t.virtual ≤ 2 ^ 59

-- k is to be picked at that virtual time, and has the row s
pub record Finishing (t : Table) (virtual : ℕ) (k : ℕ) (s : Stamp) : Type 0 where
  pub is : finishing virtual t ≡ Some k
  pub inside : k < length t.stamps
  pub small : k < 16
  pub reads : row t k ≡ s
