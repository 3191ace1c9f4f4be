-- How many digits a number has, and where they stand. Assumes nothing.
use Rattle.std.proofs.Common.{◌≡◌, ℕ, zero, suc, ◌+◌, ◌*◌, ◌/◌, ◌%◌, ◌^◌, ◌<◌, ◌≤◌, List, ◌∷◌, [], ◌++◌, length, take, drop, decimal, sym, ap, ◌∙◌, ap₂, arith, lit<}
use Rattle.std.proofs.Math.Nat.{one-le-pow, pow-succ'}
use Rattle.std.proofs.lemmas.Fmt.{decimal_nonempty, decimal_step, length-decimal-le}
use Rattle.std.proofs.lemmas.List.{length-append, take-append-drop}
use Rattle.fields.specs.Buffers.{put}

-- a number from 10^k on has more than k digits
more_than : (k n : ℕ) → 10 ^ k ≤ n → n < 2 ^ 64 → k < length (decimal n)
more_than zero n low high = decimal_nonempty n high
more_than (suc k) n low high =
    let some : 0 < 10 ^ k = omega (arith, one-le-pow k 10 (lit< tt)) in
    let least : 10 * 10 ^ k ≤ n = omega (arith, pow-succ' 10 k) in
    omega (arith, ap length (decimal_step n (omega arith) high), length-append (decimal (n / 10)) ((48 + n % 10) ∷ []), more_than k (n / 10) (omega arith) (omega arith))

-- and one below 10^(k + 1) has no more
pub digits_of_power : (k n : ℕ) → 10 ^ k ≤ n → n < 10 * 10 ^ k → n < 2 ^ 64 → length (decimal n) ≡ k + 1
digits_of_power k n low below high = omega (arith, more_than k n low high, length-decimal-le (suc k) n (omega arith) (omega (arith, pow-succ' 10 k)) high)

-- what ends at its place, with all before and behind it as it was, was put
pub put_ending : (at end : ℕ) (ys xs out : List ℕ) → end ≡ at + length ys → take at out ≡ take at xs → drop at out ≡ ys ++ drop end xs → out ≡ put at ys xs
unfolding put
put_ending at end ys xs out is front back = sym (take-append-drop at out) ∙ ap₂ (λ p q. p ++ q) front (back ∙ ap (λ n. ys ++ drop n xs) is)
