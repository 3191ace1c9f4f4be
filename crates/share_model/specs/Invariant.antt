-- What every step keeps: nobody is far ahead of virtual time, and what all together want before any virtual time is
-- within what their weights allow.
use Rattle.std.specs.Prelude.{◌≡◌, ℕ, ◌+◌, ◌-◌, ◌*◌, ◌<◌, ◌≤◌, max, cond, List, length, sum_by, nat_le}
use Rattle.share_model.specs.Model.{Status, idle, active, Row, Server, free, on, State, row, row_of, place}

-- What an application of weight w and cost c wants before the virtual time d, when it is v now: its weight times the way
-- from where it stands, or would start, to d. An active one wants nothing before its budget's finish.
unfoldable pub wants : (d v w c : ℕ) → Status → ℕ
wants d v w c (idle r) = w * d - max (w * v) (w * r)
wants d v w c (active p l) = cond (nat_le (p + l * c) d) (w * d - w * p) 0

abbrev pub demand : ℕ → ℕ → Row → ℕ
demand d v r = wants d v r.weight r.cost r.status

abbrev pub demands : List Row → ℕ → ℕ → ℕ
demands rs v d = sum_by (demand d v) rs

abbrev pub weights : List Row → ℕ
weights rs = sum_by (λ r. r.weight) rs

-- what never changes of an application of weight w, limit m and cost c: T is the sum of all weights, M the largest limit
pub record Terms (T M w m c : ℕ) : Type 0 where
  pub some : 1 ≤ w
  pub within : m ≤ M
  pub rate : w * c ≡ 2520 * T

-- where all begins: everyone idle, and nothing sent
pub record Fresh (T M : ℕ) (a : State) : Type 0 where
  pub clock : a.time ≡ 0
  pub nobody : a.server ≡ free
  pub total : weights a.rows ≡ T
  pub terms : (i : ℕ) → i < length a.rows → Terms T M (row a i).weight (row a i).limit (row a i).cost
  pub resting : (i : ℕ) → i < length a.rows → (row a i).status ≡ idle 0

-- what holds of each application: its terms, and how far it may be ahead of the virtual time
pub record Kept (T M v : ℕ) (r : Row) : Type 0 where
  pub terms : Terms T M r.weight r.limit r.cost
  pub dear : 2520 ≤ r.cost
  pub lead : place r.status + r.limit * 2520 ≤ v + r.limit * r.cost

-- what holds of each that is not served
abbrev pub Waits : ℕ → Status → Type 0
Waits m (idle r) = Unit {0}
Waits m (active p l) = (0 < l) × (l ≤ m)

abbrev pub Other : Server → ℕ → Type 0
Other free i = Unit {0}
Other (on k n) i = i ≡ k → ⊥

-- the bound on what all want before d, while one of weight w and finish f is served, and has sent n sectors
pub record Owed (T M v n w f d sum : ℕ) : Type 0 where
  pub due : f ≤ d → sum ≤ T * (d + 2520 * M) - T * v
  pub later : d < f → sum + (w * (d + 2520 * n) - w * v) ≤ T * (d + 2520 * n) - T * v

-- what holds of the one served, of which the row is r: what it has sent is within its limit, its lead is that of the sectors
-- sent, and it is not far behind
pub record Serving (T M v n : ℕ) (r : Row) (p l : ℕ) (sum : ℕ → ℕ) : Type 0 where
  pub fits : n + l ≤ r.limit
  pub near : p + n * 2520 ≤ v + n * r.cost
  pub lag : v ≤ p + r.limit * r.cost + 2520 * M
  pub owed : (d : ℕ) → Owed T M v n r.weight (p + l * r.cost) d (sum d)

abbrev pub Served : (T M v n : ℕ) → Row → (ℕ → ℕ) → Status → Type 0
Served T M v n r sum (idle q) = ⊥
Served T M v n r sum (active p l) = Serving T M v n r p l sum

abbrev pub Turn : (T M : ℕ) → List Row → ℕ → Server → Type 0
Turn T M rs v free = (d : ℕ) → demands rs v d ≤ T * (d + 2520 * M) - T * v
Turn T M rs v (on k n) = (k < length rs) × Served T M v n (row_of rs k) (demands rs v) (row_of rs k).status

-- the invariant of the law
pub record Inv (T M : ℕ) (a : State) : Type 0 where
  pub total : weights a.rows ≡ T
  pub each : (i : ℕ) → i < length a.rows → Kept T M a.time (row a i)
  pub waits : (i : ℕ) → i < length a.rows → Other a.server i → Waits (row a i).limit (row a i).status
  pub turn : Turn T M a.rows a.time a.server
