-- What the chosen place means. Assumes nothing.
use Rattle.std.proofs.Common.{◌≡◌, ℕ, zero, suc, ◌<◌, Bool, true, false, cond, List, [], ◌∷◌, length, get_or, Some, None, Option, sym, refl, ◌∙◌, arith, MatchOption}
use Rattle.std.proofs.lemmas.List.{get_or_default}
use Rattle.std.proofs.lemmas.Bool.{true≢false}
use Rattle.std.specs.Cmp.{IsStrictWeakOrder}
use Rattle.least.specs.Choice.{FirstLeast, NoneEligible, place, prefer}

module _ {X : Type 0} (eligible : X → Bool) (before : X → X → Bool) where
  abbrev Meaning : List X → Option ℕ → Type 0
  Meaning xs r = MatchOption r (NoneEligible eligible xs) (FirstLeast eligible before xs)

  none_grows : (x : X) (xs : List X) → eligible x ≡ false → NoneEligible eligible xs → NoneEligible eligible (x ∷ xs)
  none_grows x xs e none zero d h = e
  none_grows x xs e none (suc j) d h = none j d (omega arith)

  module _ (ranks : IsStrictWeakOrder before) where
    -- nothing comes before itself
    itself : (x : X) → before x x ≡ false
    itself x = go (before x x) refl
      where
        go : (t : Bool) → before x x ≡ t → t ≡ false
        go true p = sym p ∙ ranks.one_way x x p
        go false p = refl

    -- the front element is the choice where none behind it is eligible
    front_alone : (x : X) (xs : List X) → eligible x ≡ true → NoneEligible eligible xs → FirstLeast eligible before (x ∷ xs) 0
    front_alone x xs e none = record { within = omega arith; fits = λ d. e; least = least; first = λ j d h t. absurd (omega arith) }
      where
        least : (j : ℕ) (d : X) → j < length (x ∷ xs) → eligible (get_or (x ∷ xs) j d) ≡ true → before (get_or (x ∷ xs) j d) x ≡ false
        least zero d h t = itself x
        least (suc j) d h t = absurd (true≢false (sym t ∙ none j d (omega arith)))

    -- it is the choice too where the choice behind it does not come before it
    front_stays : (x : X) (xs : List X) (k : ℕ) → eligible x ≡ true → FirstLeast eligible before xs k → before (get_or xs k x) x ≡ false → FirstLeast eligible before (x ∷ xs) 0
    front_stays x xs k e fl nb = record { within = omega arith; fits = λ d. e; least = least; first = λ j d h t. absurd (omega arith) }
      where
        least : (j : ℕ) (d : X) → j < length (x ∷ xs) → eligible (get_or (x ∷ xs) j d) ≡ true → before (get_or (x ∷ xs) j d) x ≡ false
        least zero d h t = itself x
        least (suc j) d h t =
            let w : j < length xs = omega arith in
            let same = get_or_default xs j d x w in
            rw same (ranks.chain (get_or xs j x) (get_or xs k x) x (fl.least j x w (rw same at t)) nb)

    -- else the choice behind it stays
    front_yields : (x : X) (xs : List X) (k : ℕ) → FirstLeast eligible before xs k → (eligible x ≡ true → before (get_or xs k x) x ≡ true) → FirstLeast eligible before (x ∷ xs) (suc k)
    front_yields x xs k fl yb = record { within = omega (arith, fl.within); fits = fl.fits; least = least; first = first }
      where
        yields : (d : X) → eligible x ≡ true → before (get_or xs k d) x ≡ true
        yields d t = rw (get_or_default xs k d x fl.within) (yb t)

        least : (j : ℕ) (d : X) → j < length (x ∷ xs) → eligible (get_or (x ∷ xs) j d) ≡ true → before (get_or (x ∷ xs) j d) (get_or xs k d) ≡ false
        least zero d h t = ranks.one_way (get_or xs k d) x (yields d t)
        least (suc j) d h t = fl.least j d (omega arith) t

        first : (j : ℕ) (d : X) → j < suc k → eligible (get_or (x ∷ xs) j d) ≡ true → before (get_or xs k d) (get_or (x ∷ xs) j d) ≡ true
        first zero d h t = yields d t
        first (suc j) d h t = fl.first j d (omega arith) t

    preferred : (x : X) (xs : List X) (b : Bool) (o : Option ℕ) → eligible x ≡ b → Meaning xs o → Meaning (x ∷ xs) (prefer before b x xs o)
    preferred x xs true None e m = front_alone x xs e m
    preferred x xs true (Some k) e m = go (before (get_or xs k x) x) refl
      where
        go : (t : Bool) → before (get_or xs k x) x ≡ t → Meaning (x ∷ xs) (cond t (Some (suc k)) (Some 0))
        go true p = front_yields x xs k m (λ _. p)
        go false p = front_stays x xs k e m p
    preferred x xs false None e m = none_grows x xs e m
    preferred x xs false (Some k) e m = front_yields x xs k m (λ t. absurd (true≢false (sym t ∙ e)))

    -- the place is the first least eligible one's, or there is none
    pub place_means : (xs : List X) → Meaning xs (place eligible before xs)
    place_means [] = λ j d h. absurd (omega arith)
    place_means (x ∷ xs) = preferred x xs (eligible x) (place eligible before xs) refl (place_means xs)
