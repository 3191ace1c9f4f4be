-- What the choosing rule chooses, said twice: by its meaning, and as a function.
use Rattle.std.specs.Prelude.{◌≡◌, ℕ, suc, ◌<◌, Bool, true, false, cond, List, [], ◌∷◌, length, Some, None, Option, slice_index_or}
use Rattle.std.specs.Borrow.{Bor}

-- k is the place of the first least eligible element of xs
pub record FirstLeast {X : Type 0} (eligible : X → Bool) (before : X → X → Bool) (xs : List X) (k : ℕ) : Type 0 where
  -- it is a place of the list
  pub within : k < length xs
  -- what stands there is eligible
  pub fits : (d : X) → eligible (slice_index_or xs k d) ≡ true
  -- no eligible element comes before it
  pub least : (j : ℕ) (d : X) → j < length xs → eligible (slice_index_or xs j d) ≡ true → before (slice_index_or xs j d) (slice_index_or xs k d) ≡ false
  -- it comes before each eligible one that stands ahead of it: of equals the first is taken
  pub first : (j : ℕ) (d : X) → j < k → eligible (slice_index_or xs j d) ≡ true → before (slice_index_or xs k d) (slice_index_or xs j d) ≡ true

-- no element of xs is eligible
abbrev pub NoneEligible : {X : Type 0} → (X → Bool) → List X → Type 0
NoneEligible {X} eligible xs = (j : ℕ) (d : X) → j < length xs → eligible (slice_index_or xs j d) ≡ false

-- the choice between x, which is eligible or not, and the chosen place in the rest xs behind it
abbrev pub prefer : {X : Type 0} → (X → X → Bool) → Bool → X → List X → Option ℕ → Option ℕ
prefer before true x xs None = Some 0
prefer before true x xs (Some k) = cond (before (slice_index_or xs k x) x) (Some (suc k)) (Some 0)
prefer before false x xs None = None
prefer before false x xs (Some k) = Some (suc k)

-- the place of the first least eligible element, if any is eligible
abbrev pub place : {X : Type 0} → (X → Bool) → (X → X → Bool) → List X → Option ℕ
place eligible before [] = None
place eligible before (x ∷ xs) = prefer before (eligible x) x xs (place eligible before xs)

-- The element held, if any, and x at the place m, which is eligible: the one held gives way only to one that
-- comes strictly before it.
abbrev pub against : {X : Type 0} → (X → X → Bool) → Option (ℕ × Bor X) → ℕ → Bor X → Option (ℕ × Bor X)
against before None m x = Some (m, x)
against before (Some p) m x = cond (before x.now p.1.now) (Some (m, x)) (Some p)

-- One turn of the search: what is held once x, at the place m, is looked at. It is passed over where it is
-- not eligible.
abbrev pub turned : {X : Type 0} → (X → Bool) → (X → X → Bool) → Option (ℕ × Bor X) → ℕ → Bor X → Option (ℕ × Bor X)
turned eligible before held m x = cond (eligible x.now) (against before held m x) held
