-- What the sweep chooses is what it should.
use Rattle.std.specs.Prelude.{◌≡◌, ℕ, ◌<◌, List, [], ◌∷◌, length, Some, None, Option, MatchOption}
use Rattle.std.proofs.Common.{sym, ap, ◌∙◌, inl, inr, arith}
use Rattle.std.specs.Cmp.{IsStrictWeakOrder}
use Rattle.std.proofs.lemmas.List.MinMax.{IsStrictWeakOrder-by_number}
use Rattle.std.proofs.lemmas.Bool.{true≢false}
use Rattle.least.specs.Choice.{FirstLeast, NoneEligible, place}
use Rattle.least.proofs.Places.{place_means}
use Rattle.pools.specs.Choices.{Sweep, ahead, any, lower, first_found, next_ahead}
use Rattle.pools.specs.declared.request.Request.{Request}

lower_ranks : IsStrictWeakOrder lower
lower_ranks = IsStrictWeakOrder-by_number (λ r. r.first)

pub sweep_means : (xs : List Request) (head : ℕ) → 0 < length xs → Sweep xs head (next_ahead xs head)
sweep_means [] head h = absurd (omega arith)
sweep_means (x ∷ xs) head h =
    go (place (ahead head) lower (x ∷ xs)) (place any lower (x ∷ xs)) (place_means (ahead head) lower lower_ranks (x ∷ xs)) (place_means any lower lower_ranks (x ∷ xs))
  where
    go : (p q : Option ℕ) → MatchOption p (NoneEligible (ahead head) (x ∷ xs)) (FirstLeast (ahead head) lower (x ∷ xs)) → MatchOption q (NoneEligible any (x ∷ xs)) (FirstLeast any lower (x ∷ xs)) → Sweep (x ∷ xs) head (first_found p q)
    go (Some k) q m n = inl m
    go None (Some k) m n = inr (m, n)
    go None None m n = absurd (true≢false (n 0 x (omega arith)))

pub sweep_within : (xs : List Request) (head : ℕ) → 0 < length xs → next_ahead xs head < length xs
sweep_within xs head h = go (sweep_means xs head h)
  where
    go : Sweep xs head (next_ahead xs head) → next_ahead xs head < length xs
    go (inl m) = m.within
    go (inr m) = m.1.within

pub none_found : (xs : List Request) (head : ℕ) (p q : Option ℕ) → p ≡ None → p ≡ place (ahead head) lower xs → q ≡ None → q ≡ place any lower xs → 0 ≡ next_ahead xs head
none_found xs head p q p_none p_is q_none q_is = ap (λ o. first_found o None) (sym p_none ∙ p_is) ∙ ap (first_found (place (ahead head) lower xs)) (sym q_none ∙ q_is)
