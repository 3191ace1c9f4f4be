-- What one application wants before a virtual time, and what all want together.
use Rattle.std.proofs.Common.{◌≡◌, ℕ, ◌+◌, ◌-◌, ◌*◌, ◌<◌, ◌≤◌, max, leb, List, length, refl, subst, ⊎_elim, le_refl, mul-le-mul_left, arith}
use native.Mathlib.Nat.{le-max_left, le-max_right}
use Rattle.std.proofs.lemmas.List.{set-get_or}
use Rattle.std.proofs.lemmas.Bool.{cases_lt, le-leb, lt-leb, cond-true, cond-false}
use Rattle.share_model.specs.Model.{Status, idle, active, Row, row_of, blank, put, with_status, place}
use Rattle.share_model.specs.Invariant.{wants, demand, demands, weights}
use Rattle.share_model.proofs.Total.{sum_le, sum_set, sum_gap}

module _ (d v w c : ℕ) where
  pub wants_idle : (r : ℕ) → wants d v w c (idle r) ≡ w * d - max (w * v) (w * r)
  unfolding wants
  wants_idle r = refl

  pub wants_due : (p l : ℕ) → p + l * c ≤ d → wants d v w c (active p l) ≡ w * d - w * p
  unfolding wants
  wants_due p l h = cond-true (leb (p + l * c) d) (w * d - w * p) 0 (le-leb (p + l * c) d h)

  pub wants_later : (p l : ℕ) → d < p + l * c → wants d v w c (active p l) ≡ 0
  unfolding wants
  wants_later p l h = cond-false (leb (p + l * c) d) (w * d - w * p) 0 (lt-leb (p + l * c) d h)

  -- as the virtual time grows, none wants more
  pub wants_falls : (v' : ℕ) → v ≤ v' → (st : Status) → wants d v' w c st ≤ wants d v w c st
  unfolding wants
  wants_falls v' h (idle r) = omega (arith, mul-le-mul_left w h)
  wants_falls v' h (active p l) = le_refl _

  -- one that stands at v or later if it finishes by d
  pub wants_calm : (st : Status) → ((p l : ℕ) → st ≡ active p l → p + l * c ≤ d → v ≤ p) → wants d v w c st ≤ w * d - w * v
  wants_calm (idle r) h = omega (arith, wants_idle r)
  wants_calm (active p l) h =
      ⊎_elim (λ g. omega (arith, wants_later p l g)) (λ g. omega (arith, wants_due p l g, mul-le-mul_left w (h p l refl g)))
      (cases_lt d (p + l * c))

  -- none wants more than the way from where it stands
  pub wants_from : (st : Status) → wants d v w c st ≤ w * d - w * place st
  wants_from (idle r) = omega (arith, wants_idle r)
  wants_from (active p l) = ⊎_elim (λ g. omega (arith, wants_later p l g)) (λ g. omega (arith, wants_due p l g)) (cases_lt d (p + l * c))

  -- one that wakes wants no more than it did
  pub wants_woken : (r l : ℕ) → wants d v w c (active (max v r) l) ≤ wants d v w c (idle r)
  wants_woken r l = omega (
    arith,
    wants_from (active (max v r) l),
    wants_idle r,
    mul-le-mul_left w (le-max_left v r),
    mul-le-mul_left w (le-max_right v r),
  )

-- what all want after k took another status and the time grew to v'
pub demands_put : (rs : List Row) (k : ℕ) (old new : Status) (d v v' : ℕ) → k < length rs → v ≤ v' → (row_of rs k).status ≡ old
    → demands (put rs k new) v' d + wants d v (row_of rs k).weight (row_of rs k).cost old
    ≤ demands rs v d + wants d v' (row_of rs k).weight (row_of rs k).cost new
demands_put rs k old new d v v' l h is =
    let k_row = row_of rs k in
    subst (λ st. demands (put rs k new) v' d + wants d v k_row.weight k_row.cost st
    ≤ demands rs v d + wants d v' k_row.weight k_row.cost new) is
    (sum_set (demand d v') (demand d v) blank (with_status k_row new) rs k l
    (λ i m n. let r = row_of rs i in wants_falls d v r.weight r.cost v' h r.status))

module _ (rs : List Row) (d v : ℕ)
    (calm : (i p l : ℕ) → i < length rs → (row_of rs i).status ≡ active p l → p + l * (row_of rs i).cost ≤ d → v ≤ p) where
  each_calm : (i : ℕ) → i < length rs → demand d v (row_of rs i) ≤ (row_of rs i).weight * d - (row_of rs i).weight * v
  each_calm i l = let r = row_of rs i in wants_calm d v r.weight r.cost r.status (λ p m e g. calm i p m l e g)

  -- if each that finishes by d stands at v or later, all want at most all weights' share of the time from v to d
  pub demands_calm : demands rs v d ≤ weights rs * d - weights rs * v
  demands_calm = omega (
    arith,
    sum_gap (λ (r : Row). r.weight) d v rs,
    sum_le (demand d v) (λ r. r.weight * d - r.weight * v) blank rs each_calm,
  )

  -- the same with what k leaves unused
  pub demands_calm_but : (k : ℕ) → k < length rs
      → demands rs v d + ((row_of rs k).weight * d - (row_of rs k).weight * v)
      ≤ weights rs * d - weights rs * v + demand d v (row_of rs k)
  demands_calm_but k l = omega (
    arith,
    sum_gap (λ (r : Row). r.weight) d v rs,
    simp set-get_or at (sum_set (demand d v) (λ r. r.weight * d - r.weight * v) blank (row_of rs k) rs k l (λ i m n. each_calm i m)),
  )
