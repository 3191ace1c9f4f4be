-- A search from the front, which holds the least element so far, ends at the chosen place. Assumes nothing.
use Rattle.std.proofs.Common.{◌≡◌, ℕ, ◌+◌, ◌<◌, ◌≤◌, Bool, true, false, cond, List, [], ◌∷◌, length, get_or, drop, Some, None, Option, refl, sym, ap, ◌∙◌, subst, arith}
use Rattle.std.proofs.lemmas.List.{get_or_default, drop_more, drop_all}
use Rattle.std.proofs.lemmas.Option.{MatchOption-at_some}
use Rattle.std.specs.Cmp.{IsStrictWeakOrder}
use Rattle.std.specs.Option.{option_map}
use denote.Ref.{Bor}
use Rattle.least.specs.Choice.{FirstLeast, place, prefer, against, turned}
use Rattle.least.proofs.Places.{place_means}

module _ {X : Type 0} (eligible : X → Bool) (before : X → X → Bool) where
  -- the place of the better of two: the element held, and the choice o among ys, whose places count from m
  abbrev better : Option (ℕ × Bor X) → ℕ → List X → Option ℕ → Option ℕ
  better None m ys o = option_map (λ k. m + k) o
  better (Some p) m ys None = Some p.0
  better (Some p) m ys (Some k) = cond (before (get_or ys k p.1.now) p.1.now) (Some (m + k)) (Some p.0)

  -- with the elements from m on still to come, what is held leads to the choice among all
  abbrev pub Leads : List X → Option (ℕ × Bor X) → ℕ → Type 0
  Leads xs held m = better held m (drop m xs) (place eligible before (drop m xs)) ≡ place eligible before xs

  module _ (ranks : IsStrictWeakOrder before) where
    within : (ys : List X) (k : ℕ) → place eligible before ys ≡ Some k → k < length ys
    within ys k e = (MatchOption-at_some _ (FirstLeast eligible before ys) k e (place_means eligible before ranks ys)).within

    passed : (held : Option (ℕ × Bor X)) (m : ℕ) (y : X) (ys : List X) (o : Option ℕ) → better held (m + 1) ys o ≡ better held m (y ∷ ys) (prefer before false y ys o)
    passed None m y ys None = grind arith
    passed None m y ys (Some k) = grind arith
    passed (Some p) m y ys None = grind arith
    passed (Some p) m y ys (Some k) = grind arith

    met : (held : Option (ℕ × Bor X)) (m : ℕ) (r : Bor X) (y : X) (ys : List X) (o : Option ℕ) → r.now ≡ y → ((k : ℕ) → o ≡ Some k → k < length ys) → better (against before held m r) (m + 1) ys o ≡ better held m (y ∷ ys) (prefer before true y ys o)
    met None m r y ys None shows inside = grind arith
    met None m r y ys (Some k) shows inside = grind arith
    met (Some p) m r y ys None shows inside = grind arith
    met (Some p) m r y ys (Some k) shows inside = grind (arith, ranks.chain, ranks.one_way, get_or_default, inside k refl)

    -- one turn, at the element y: what is held leads on, and is new by then
    module _ (xs : List X) (held new : Option (ℕ × Bor X)) (m : ℕ) (y : X) (leads : Leads xs held m) (inside : m < length xs) (reads : y ≡ get_or xs m y) where
      abbrev Chosen : Bool → Option ℕ → Type 0
      Chosen b o = o ≡ better held m (y ∷ drop (m + 1) xs) (prefer before b y (drop (m + 1) xs) (place eligible before (drop (m + 1) xs)))

      so_far : (b : Bool) → eligible y ≡ b → Chosen b (place eligible before xs)
      so_far b e =
          let opened = drop_more xs m y inside ∙ ap (λ v. v ∷ drop (m + 1) xs) (sym reads) in
          subst (λ t. Chosen t (place eligible before xs)) e (sym leads ∙ ap (λ l. better held m l (place eligible before l)) opened)

      pub leads_on : (r : Bor X) → r.now ≡ y → new ≡ turned eligible before held m r → Leads xs new (m + 1)
      leads_on r shows is = subst (λ h. Leads xs h (m + 1)) (sym is) (go (eligible r.now) (ap eligible shows))
        where
          go : (b : Bool) → b ≡ eligible y → Leads xs (cond b (against before held m r) held) (m + 1)
          go true e = met held m r y (drop (m + 1) xs) _ shows (within (drop (m + 1) xs)) ∙ sym (so_far true (sym e))
          go false e = passed held m y (drop (m + 1) xs) _ ∙ sym (so_far false (sym e))

    -- with none to come, what is held is the choice
    pub ends : (xs : List X) (held : Option (ℕ × Bor X)) (m : ℕ) → Leads xs held m → length xs ≤ m → option_map (λ p. p.0) held ≡ place eligible before xs
    ends xs held m leads past = alone held ∙ ap (λ l. better held m l (place eligible before l)) (sym (drop_all m xs past)) ∙ leads
      where
        alone : (held : Option (ℕ × Bor X)) → option_map (λ p. p.0) held ≡ better held m [] None
        alone None = refl
        alone (Some p) = refl
