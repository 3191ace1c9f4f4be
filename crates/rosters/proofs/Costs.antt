-- The cost of a sector is whole. Assumes nothing.
use Rattle.std.proofs.Common.{◌≡◌, ℕ, zero, suc, ◌*◌, ◌/◌, ◌%◌, ◌<◌, ◌≤◌, Bool, true, ◌&&◌, eqb, sym, refl, ap, ◌∙◌, inl, inr, mul_assoc, mul_comm, arith}
use native.Mathlib.Nat.{div-add-mod, mul-div_cancel_left}
use Rattle.std.proofs.lemmas.Bool.{and_parts, cases_eq, eqb-true}
use Rattle.rosters.specs.Stamps.{cost_of}

-- the test passes for every number below n
abbrev every : ℕ → (ℕ → Bool) → Bool
every zero test = true
every (suc n) test = test n && every n test

each : (n : ℕ) (test : ℕ → Bool) → every n test ≡ true → (k : ℕ) → k < n → test k ≡ true
each zero test h k l = absurd (omega arith)
each (suc n) test h k l =
    let p = and_parts (test n) (every n test) h in
    elim (cases_eq k n) [ inl e ↦ ap test e ∙ p.0 | inr ne ↦ each n test p.1 k (omega arith) ]

-- 1 to 10 divide 2,520
divides : (w : ℕ) → w < 10 → 2520 % suc w ≡ 0
divides w h = eqb-true (2520 % suc w) 0 (each 10 (λ k. eqb (2520 % suc k) 0) refl w h)

pub whole_cost : (w total : ℕ) → 1 ≤ w → w ≤ 10 → cost_of total w * w ≡ 2520 * total
whole_cost zero total low high = absurd (omega arith)
whole_cost (suc w) total low high =
    let q = 2520 / suc w in
    let split : suc w * q ≡ 2520 = omega (arith, div-add-mod 2520 (suc w), divides w (omega arith)) in
    let whole : 2520 * total ≡ suc w * (q * total) = ap (λ n. n * total) (sym split) ∙ mul_assoc (suc w) q total in
    let cost : cost_of total (suc w) ≡ q * total = ap (λ n. n / suc w) whole ∙ mul-div_cancel_left (q * total) (omega arith) in
    ap (λ n. n * suc w) cost ∙ mul_comm (q * total) (suc w) ∙ sym whole
