-- What follows from the definitions of a pool's calls alone, for those who write a pool.
use Rattle.std.proofs.Common.{◌≡◌, ℕ, ◌<◌, ltb, List, [], ◌∷◌, length, is_some, sym, refl, ap, ◌∙◌, arith}
use Rattle.std.specs.List.{slice_get}
use Rattle.std.proofs.lemmas.Option.{slice_get-get_or}
use Rattle.std.proofs.lemmas.Bool.{lt-ltb}

-- something is found exactly where something stands, if the place is then within
pub some_found : {X : Type 0} (xs : List X) (k : ℕ) → (0 < length xs → k < length xs) → is_some (slice_get xs k) ≡ ltb 0 (length xs)
some_found [] k h = refl
some_found (x ∷ xs) k h = ap is_some (slice_get-get_or (x ∷ xs) k x (h (omega arith))) ∙ sym (lt-ltb 0 (length (x ∷ xs)) (omega arith))
