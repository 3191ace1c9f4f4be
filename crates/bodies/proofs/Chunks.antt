-- The pieces of a body. Assumes nothing.
use Rattle.std.proofs.Common.{◌≡◌, ℕ, zero, suc, ◌+◌, ◌*◌, ◌<◌, List, [], length, get_or, take, drop, refl, ap, ◌∙◌, arith}
use Rattle.std.proofs.lemmas.List.{drop-drop}
use Rattle.bodies.specs.Bodies.{chunks}

pub length_chunks : (w n : ℕ) (bs : List ℕ) → length (chunks w n bs) ≡ n
length_chunks w zero bs = refl
length_chunks w (suc n) bs = ap suc (length_chunks w n (drop w bs))

pub chunk_at : (w n : ℕ) (bs : List ℕ) (i : ℕ) → i < n → get_or (chunks w n bs) i [] ≡ take w (drop (w * i) bs)
chunk_at w zero bs i h = absurd (omega arith)
chunk_at w (suc n) bs zero h =
    let none : 0 ≡ w * 0 = omega arith in
    ap (λ k. take w (drop k bs)) none
chunk_at w (suc n) bs (suc i) h =
    let more : w + w * i ≡ w * suc i = omega arith in
    chunk_at w n (drop w bs) i (omega arith) ∙ ap (take w) (drop-drop (w * i) w bs ∙ ap (λ k. drop k bs) more)
