-- Records one behind the other. Assumes nothing.
use Rattle.std.proofs.Common.{◌≡◌, ℕ, zero, suc, ◌+◌, ◌*◌, ◌<◌, ◌≤◌, List, [], ◌∷◌, ◌++◌, length, get_or, take, sym, ap, ◌∙◌, arith}
use Rattle.std.specs.List.{flat_map}
use Rattle.std.proofs.lemmas.List.{length-append, take_more, flat_map_more}

module _ {X : Type 0} (f : X → List ℕ) where
  -- one record more
  pub joined_step : (xs : List X) (i : ℕ) (x : X) → i < length xs → x ≡ get_or xs i x → flat_map f (take (i + 1) xs) ≡ flat_map f (take i xs) ++ f x
  joined_step xs i x h is = ap (flat_map f) (take_more xs i x h ∙ ap (λ y. take i xs ++ y ∷ []) (sym is)) ∙ sym (flat_map_more f [] (take i xs) x)

  -- the first records are no longer than all
  pub joined_front : (n : ℕ) (xs : List X) → length (flat_map f (take n xs)) ≤ length (flat_map f xs)
  joined_front zero xs = omega arith
  joined_front (suc n) [] = omega arith
  joined_front (suc n) (x ∷ xs) = omega (arith, joined_front n xs, length-append (f x) (flat_map f (take n xs)), length-append (f x) (flat_map f xs))

  -- records of one width
  pub length_joined : (w : ℕ) → ((x : X) → length (f x) ≡ w) → (xs : List X) → length (flat_map f xs) ≡ w * length xs
  length_joined w each [] = omega arith
  length_joined w each (x ∷ xs) = omega (arith, length-append (f x) (flat_map f xs), each x, length_joined w each xs)
