-- One row of a list replaced.
use Rattle.std.proofs.Common.{◌≡◌, ℕ, ◌<◌, ◌⊎◌, List, length, set, sym, subst, inl, inr, ⊎_elim, arith}
use Rattle.std.proofs.lemmas.List.{get_or-set_same, get_or-set_other, get_or_past, length-set}
use Rattle.std.proofs.lemmas.List.Sums.{sum_by-set}
use Rattle.std.proofs.lemmas.Bool.{cases_lt, cases_eq}
use Rattle.share_model.specs.Model.{Status, Row, row_of, blank, put, with_status, Active}
use Rattle.share_model.specs.Invariant.{weights}

-- what holds of each row after one was replaced
pub each_set : (P : ℕ → Row → Type 0) (rs : List Row) (k : ℕ) (new : Row) → k < length rs → P k new
    → ((i : ℕ) → i < length rs → (i ≡ k → ⊥) → P i (row_of rs i))
    → (i : ℕ) → i < length (set rs k new) → P i (row_of (set rs k new) i)
each_set P rs k new l here others i m = by_place (cases_eq i k)
  where
    by_place : (i ≡ k) ⊎ (i ≡ k → ⊥) → P i (row_of (set rs k new) i)
    by_place (inl e) = subst (λ j. P j (row_of (set rs k new) j)) (sym e) (rw get_or-set_same here)
    by_place (inr n) = rw (get_or-set_other rs k i new blank n) (others i (simp length-set at m) n)

pub weights_put : (rs : List Row) (k : ℕ) (st : Status) → k < length rs → weights (put rs k st) ≡ weights rs
weights_put rs k st l = omega (arith, sum_by-set (λ (r : Row). r.weight) rs k (with_status (row_of rs k) st) blank l)

-- what does not hold of the blank row holds only within the list
pub within : (P : Row → Type 0) → (P blank → ⊥) → (rs : List Row) (i : ℕ) → P (row_of rs i) → i < length rs
within P never rs i h = ⊎_elim (λ l. l) (λ l. absurd (never (subst P (get_or_past rs i blank l) h))) (cases_lt i (length rs))

pub active_within : (rs : List Row) (i : ℕ) → Active (row_of rs i).status → i < length rs
active_within = within (λ r. Active r.status) (λ h. h)
