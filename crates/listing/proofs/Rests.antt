-- What is left of a line. Assumes nothing.
use Rattle.std.proofs.Common.{◌≡◌, ℕ, ◌+◌, ◌<◌, List, ◌∷◌, ◌++◌, map, length, get_or, drop, decimal, sym, ap, ◌∙◌}
use Rattle.std.proofs.lemmas.List.{drop_more}
use Rattle.listing.specs.Lines.{spaced}

-- one number, and the others
pub rest_more : (ns : List ℕ) (i n : ℕ) → i < length ns → n ≡ get_or ns i 0 → spaced (map decimal (drop i ns)) ≡ (32 ∷ decimal n) ++ spaced (map decimal (drop (i + 1) ns))
rest_more ns i n h e = ap (λ xs. spaced (map decimal xs)) (drop_more ns i 0 h) ∙ ap (λ k. 32 ∷ (decimal k ++ spaced (map decimal (drop (i + 1) ns)))) (sym e)
