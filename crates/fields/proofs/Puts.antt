-- The laws of writing. Assumes nothing.
use Rattle.std.proofs.Common.{◌≡◌, ℕ, ◌+◌, ◌≤◌, List, [], ◌++◌, length, take, drop, sym, refl, ap, ◌∙◌, ap₂, add-zero, arith}
use borrow.Rule.Slice.PartMut.{put_mid}
use Rattle.std.proofs.lemmas.List.{append_assoc, length-append, length-take-le, length-take, length-drop, take-append-drop, take_at, drop_at, drop-drop}
use Rattle.fields.specs.Buffers.{put}

pub length_put : (at : ℕ) (ys xs : List ℕ) → at + length ys ≤ length xs → length (put at ys xs) ≡ length xs
unfolding put
length_put at ys xs h = simp (length-append, length-take, length-drop) (omega arith)

-- nothing put
pub put_none : (at : ℕ) (xs : List ℕ) → put at [] xs ≡ xs
unfolding put
put_none at xs = simp (add-zero) (take-append-drop at xs)

-- what is behind the end of what was put
pub drop_put : (at end : ℕ) (ys xs : List ℕ) → end ≡ at + length ys → at ≤ length xs → drop end (put at ys xs) ≡ drop end xs
unfolding put
drop_put at end ys xs e h =
    ap (drop end) (sym (append_assoc (take at xs) ys (drop (at + length ys) xs)))
    ∙ drop_at (take at xs ++ ys) (drop (at + length ys) xs) end (length-append (take at xs) ys ∙ omega (arith, length-take-le at xs h))
    ∙ ap (λ n. drop n xs) (sym e)

-- what was put, with what was before it
pub take_put : (at end : ℕ) (ys xs : List ℕ) → end ≡ at + length ys → at ≤ length xs → take end (put at ys xs) ≡ take at xs ++ ys
unfolding put
take_put at end ys xs e h =
    ap (take end) (sym (append_assoc (take at xs) ys (drop (at + length ys) xs)))
    ∙ take_at (take at xs ++ ys) (drop (at + length ys) xs) end (length-append (take at xs) ys ∙ omega (arith, length-take-le at xs h))

-- the definition, as an equation
opened : (at : ℕ) (ys xs : List ℕ) → put at ys xs ≡ take at xs ++ (ys ++ drop (at + length ys) xs)
unfolding put
opened at ys xs = refl

-- one list, and another straight behind it
pub put_join : (at end : ℕ) (ys zs xs : List ℕ) → end ≡ at + length ys → at ≤ length xs → put end zs (put at ys xs) ≡ put at (ys ++ zs) xs
put_join at end ys zs xs e h =
    let front = take_put at end ys xs e h in
    let back = drop_put at end ys xs e h in
    let behind : drop (end + length zs) (put at ys xs) ≡ drop (at + length (ys ++ zs)) xs =
    sym (drop-drop (length zs) end (put at ys xs)) ∙ ap (drop (length zs)) back ∙ drop-drop (length zs) end xs ∙ ap (λ n. drop n xs) (omega (arith, length-append ys zs)) in
    opened end zs (put at ys xs) ∙ ap₂ (λ p q. p ++ (zs ++ q)) front behind
    ∙ append_assoc (take at xs) ys (zs ++ drop (at + length (ys ++ zs)) xs)
    ∙ ap (λ q. take at xs ++ q) (sym (append_assoc ys zs (drop (at + length (ys ++ zs)) xs))) ∙ sym (opened at (ys ++ zs) xs)

-- the same, of a buffer that was written twice
pub put_twice : (at end : ℕ) (ys zs xs : List ℕ) {mid out : List ℕ} → mid ≡ put at ys xs → out ≡ put end zs mid → end ≡ at + length ys → at ≤ length xs → out ≡ put at (ys ++ zs) xs
put_twice at end ys zs xs first second e h = second ∙ ap (put end zs) first ∙ put_join at end ys zs xs e h

-- What is left of a list, once its front was put: the rest, put behind the front, makes the same buffer,
-- and ends at the same place.
pub put_left : (at end : ℕ) (front rest whole out : List ℕ) {after : List ℕ} → whole ≡ front ++ rest → after ≡ put at front out → end ≡ at + length front → at ≤ length out → put end rest after ≡ put at whole out
put_left at end front rest whole out {after} is wrote ends room = put_twice at end front rest out wrote refl ends room ∙ ap (λ ys. put at ys out) (sym is)

pub left_long : (at end : ℕ) (front rest whole : List ℕ) → whole ≡ front ++ rest → end ≡ at + length front → end + length rest ≡ at + length whole
left_long at end front rest whole is ends = omega (arith, ap length is, length-append front rest)

-- what a write to a part of a slice leaves
pub part_put : (at n : ℕ) (xs part ys : List ℕ) → part ≡ ys → n ≡ length ys → put_mid at n xs part ≡ put at ys xs
part_put at n xs part ys e m =
    ap₂ (λ p k. take at xs ++ (p ++ drop k (drop at xs))) e m ∙ ap (λ q. take at xs ++ (ys ++ q)) (drop-drop (length ys) at xs) ∙ sym (opened at ys xs)
