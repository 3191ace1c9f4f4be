-- Bodies as lists of records, and the first fault in one.
use Rattle.std.specs.Prelude.{ℕ, suc, List, [], ◌∷◌, Ok, Result}
use Rattle.std.specs.Simd.{first_chunks}
use Rattle.records.specs.Faults.{onward}
use Rattle.records.specs.declared.fault.Fault.{Fault}

-- a judgement: nothing to object to, or a fault
abbrev pub Verdict : Type 0
Verdict = Result (Unit {0}) Fault

-- the first fault of a list, of which the first element has the number i
abbrev pub judged : {X : Type 0} → (ℕ → X → Verdict) → ℕ → List X → Verdict
judged judge i [] = Ok tt
judged judge i (x ∷ xs) = onward (judge i x) (λ _. judged judge (suc i) xs)

-- the first n pieces of w bytes each
abbrev pub chunks : ℕ → ℕ → List ℕ → List (List ℕ)
chunks w n bs = first_chunks w n bs
