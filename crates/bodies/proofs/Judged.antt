-- A judgement of a list. Assumes nothing.
use Rattle.std.proofs.Common.{◌≡◌, ℕ, suc, List, [], ◌∷◌, map, refl, ap}
use Rattle.records.specs.Faults.{onward}
use Rattle.bodies.specs.Bodies.{Verdict, judged}

-- a judgement of what is made of each element
pub judged_map : {X Y : Type 0} (f : X → Y) (judge : ℕ → Y → Verdict) (i : ℕ) (xs : List X) → judged (λ k x. judge k (f x)) i xs ≡ judged judge i (map f xs)
judged_map f judge i [] = refl
judged_map f judge i (x ∷ xs) = ap (λ v. onward (judge i (f x)) (λ _. v)) (judged_map f judge (suc i) xs)
