-- The laws of numbers and their bytes, over any width. Assumes nothing.
use Rattle.std.proofs.Common.{◌≡◌, ℕ, zero, suc, ◌+◌, ◌*◌, ◌/◌, ◌%◌, ◌^◌, ◌<◌, ◌≤◌, List, [], ◌∷◌, length, refl, ap, ◌∙◌, ap₂, arith}
use Rattle.std.specs.List.{All}
use Rattle.std.proofs.lemmas.List.Elements.{All-head, All-tail}
use Rattle.fields.specs.Numbers.{number, bytes}

pub length_bytes : (n x : ℕ) → length (bytes n x) ≡ n
length_bytes zero x = refl
length_bytes (suc n) x = ap suc (length_bytes n (x / 256))

-- a number that fits is read back
pub number_bytes : (n x : ℕ) → x < 256 ^ n → number (bytes n x) ≡ x
number_bytes zero x h = omega arith
number_bytes (suc n) x h =
    let below : x / 256 < 256 ^ n = omega (arith) in
    let rest = number_bytes n (x / 256) below in
    omega arith

-- bytes that were read are written back
pub bytes_number : (bs : List ℕ) → All (λ b. b < 256) bs → bytes (length bs) (number bs) ≡ bs
bytes_number [] h = refl
bytes_number (b ∷ bs) h =
    let byte = All-head (λ b. b < 256) b bs h in
    let low : (b + 256 * number bs) % 256 ≡ b = omega (arith, byte) in
    let high : (b + 256 * number bs) / 256 ≡ number bs = omega (arith, byte) in
    ap₂ (λ x xs. x ∷ xs) low (ap (bytes (length bs)) high ∙ bytes_number bs (All-tail (λ b. b < 256) b bs h))

-- a number of no more than k bytes
pub number_below : (bs : List ℕ) (k : ℕ) → All (λ b. b < 256) bs → length bs ≤ k → number bs < 256 ^ k
number_below [] zero h few = omega arith
number_below [] (suc k) h few = omega (arith, number_below [] k h (omega arith))
number_below (b ∷ bs) zero h few = absurd (omega arith)
number_below (b ∷ bs) (suc k) h few = omega (arith, All-head (λ b. b < 256) b bs h, number_below bs k (All-tail (λ b. b < 256) b bs h) (omega arith))
