-- A small model of virtual times: applications that are idle or active, one of them served at most, and the steps
-- by which they go on. An active one finishes at its position plus what its sectors left cost.
use Rattle.std.specs.Prelude.{◌≡◌, ℕ, ◌+◌, ◌*◌, ◌<◌, ◌≤◌, max, cond, ◌⊎◌, List, length, ◌==◌, slice_index_or, slice_set}

-- `idle reached`: wants nothing, and has been served up to `reached`.
-- `active pos left`: wants service, stands at `pos`, and may send `left` more sectors of its budget.
pub data Status : Type 0 where
  idle : ℕ → Status
  active : ℕ → ℕ → Status

pub record Row : Type 0 where
  pub weight : ℕ
  pub limit : ℕ
  pub cost : ℕ
  pub status : Status

-- `on k n`: application k is served, and has sent n sectors of its current budget
pub data Server : Type 0 where
  free : Server
  on : ℕ → ℕ → Server

pub record State : Type 0 where
  pub rows : List Row
  pub time : ℕ
  pub server : Server

abbrev pub state : List Row → ℕ → Server → State
state rs v sv = record { rows = rs; time = v; server = sv }

-- what stands past the end of the list
abbrev pub blank : Row
blank = record { weight = 0; limit = 0; cost = 0; status = idle 0 }

abbrev pub row_of : List Row → ℕ → Row
row_of rs i = slice_index_or rs i blank

abbrev pub row : State → ℕ → Row
row a i = row_of a.rows i

abbrev pub with_status : Row → Status → Row
with_status r st = record r { status = st }

-- the rows with the status of one of them replaced
abbrev pub put : List Row → ℕ → Status → List Row
put rs i st = slice_set rs i (with_status (row_of rs i) st)

abbrev pub place : Status → ℕ
place (idle r) = r
place (active p l) = p

abbrev pub Active : Status → Type 0
Active (idle r) = ⊥
Active (active p l) = Unit {0}

-- no active application stands before v
abbrev pub NoneBefore : List Row → ℕ → Type 0
NoneBefore rs v = (j q m : ℕ) → j < length rs → (row_of rs j).status ≡ active q m → v ≤ q

-- of the active applications that stand at v or before, none finishes before f
abbrev pub First : List Row → (v f : ℕ) → Type 0
First rs v f = (j q m : ℕ) → j < length rs → (row_of rs j).status ≡ active q m → q ≤ v → f ≤ q + m * (row_of rs j).cost

-- what a step sends: `sectors k s` are s sectors for application k
pub data Amount : Type 0 where
  nothing : Amount
  sectors : ℕ → ℕ → Amount

-- by all, and for application i
abbrev pub sent : Amount → ℕ
sent nothing = 0
sent (sectors k s) = s

abbrev pub sent_for : ℕ → Amount → ℕ
sent_for i nothing = 0
sent_for i (sectors k s) = cond (i == k) s 0

-- One step. In `pick`, v is the new virtual time: the old one, or else that of the least position of the active ones.
pub data Step (a b : State) : Amount → Type 0 where
  wake : (i r budget : ℕ) → i < length a.rows → (row a i).status ≡ idle r → 0 < budget → budget ≤ (row a i).limit
      → b ≡ state (put a.rows i (active (max a.time r) budget)) a.time a.server → Step a b nothing
  pick : (k p l v : ℕ) → k < length a.rows → a.server ≡ free → (row a k).status ≡ active p l → p ≤ v → a.time ≤ v
      → (v ≤ a.time) ⊎ NoneBefore a.rows v → First a.rows v (p + l * (row a k).cost)
      → b ≡ state a.rows v (on k 0) → Step a b nothing
  send : (k n p l s : ℕ) → a.server ≡ on k n → (row a k).status ≡ active p (s + l)
      → b ≡ state (put a.rows k (active (p + s * (row a k).cost) l)) (a.time + 2520 * s) (on k (n + s)) → Step a b (sectors k s)
  requeue : (k n p l budget : ℕ) → a.server ≡ on k n → (row a k).status ≡ active p l
      → l ≤ budget → 0 < budget → budget ≤ (row a k).limit
      → b ≡ state (put a.rows k (active p budget)) a.time free → Step a b nothing
  rest : (k n p l : ℕ) → a.server ≡ on k n → (row a k).status ≡ active p l
      → b ≡ state (put a.rows k (idle p)) a.time free → Step a b nothing
