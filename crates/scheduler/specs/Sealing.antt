-- What sealing makes of a roster's table.
use Rattle.std.specs.Prelude.{◌≡◌, ℕ, ◌<◌, ◌≤◌, true, map, length}
use Rattle.rosters.specs.Stamps.{is_idle}
use Rattle.stamps.specs.Rows.{with_budget}
use Rattle.stamps.specs.Tables.{Table, row}

-- all are idle, and the limits are in range
pub record Waiting (t : Table) : Type 0 where
  pub idle : (k : ℕ) → k < length t.stamps → is_idle (row t k) ≡ true
  pub limit_low : (k : ℕ) → k < length t.stamps → 256 ≤ (row t k).limit
  pub limit_high : (k : ℕ) → k < length t.stamps → (row t k).limit ≤ 65536

-- each budget is the rule's first
abbrev pub with_first : (ℕ → ℕ) → Table → Table
with_first first t = record t { stamps = map (λ s. with_budget (first s.limit) s) t.stamps }
