-- Sums over lists, compared element by element.
use Rattle.std.proofs.Common.{◌≡◌, ℕ, zero, suc, ◌+◌, ◌-◌, ◌*◌, ◌<◌, ◌≤◌, ◌⊎◌, List, [], ◌∷◌, length, get_or, set, sum_by, inl, inr, le_of_lt, mul-le-mul_left, arith}
use Rattle.std.proofs.lemmas.List.Sums.{sum_by-cons}
use Rattle.std.proofs.lemmas.Bool.{cases_lt}

-- pointwise at most, summed
pub sum_le : {X : Type 0} (f g : X → ℕ) (d : X) (xs : List X)
    → ((i : ℕ) → i < length xs → f (get_or xs i d) ≤ g (get_or xs i d)) → sum_by f xs ≤ sum_by g xs
sum_le f g d [] h = omega arith
sum_le f g d (x ∷ xs) h =
    let here : f x ≤ g x = h 0 (omega arith) in
    omega (arith, sum_by-cons f x xs, sum_by-cons g x xs, sum_le f g d xs (λ i l. h (suc i) (omega arith)))

-- the same where the k-th is replaced by y, and only the others are compared
pub sum_set : {X : Type 0} (f g : X → ℕ) (d y : X) (xs : List X) (k : ℕ) → k < length xs
    → ((i : ℕ) → i < length xs → (i ≡ k → ⊥) → f (get_or xs i d) ≤ g (get_or xs i d))
    → sum_by f (set xs k y) + g (get_or xs k d) ≤ sum_by g xs + f y
sum_set f g d y [] k l h = absurd (omega arith)
sum_set f g d y (x ∷ xs) zero l h =
    omega (arith, sum_by-cons f y xs, sum_by-cons g x xs, sum_le f g d xs (λ i m. h (suc i) (omega arith) (omega arith)))
sum_set f g d y (x ∷ xs) (suc k) l h =
    let here : f x ≤ g x = h 0 (omega arith) (omega arith) in
    omega (
      arith,
      sum_by-cons f x (set xs k y),
      sum_by-cons g x xs,
      sum_set f g d y xs k (omega arith) (λ i m n. h (suc i) (omega arith) (λ e. n (omega arith))),
    )

-- a multiple out of a sum
pub sum_gap : {X : Type 0} (w : X → ℕ) (d v : ℕ) (xs : List X)
    → sum_by (λ x. w x * d - w x * v) xs ≡ sum_by w xs * d - sum_by w xs * v
sum_gap w d v [] = omega arith
sum_gap {X} w d v (x ∷ xs) =
    simp sum_by-cons (step (w x) (sum_by w xs) (sum_by (λ y. w y * d - w y * v) xs) (sum_gap w d v xs) (cases_lt d v))
  where
    step : (a s g : ℕ) → g ≡ s * d - s * v → (d < v) ⊎ (v ≤ d) → (a * d - a * v) + g ≡ (a + s) * d - (a + s) * v
    step a s g e (inl h) = omega (arith, mul-le-mul_left a (le_of_lt h), mul-le-mul_left s (le_of_lt h))
    step a s g e (inr h) = omega (arith, mul-le-mul_left a h, mul-le-mul_left s h)
