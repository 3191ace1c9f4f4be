-- Three parts of a line, put one behind the other. Assumes nothing.
use Rattle.std.proofs.Common.{◌≡◌, ℕ, ◌+◌, ◌≤◌, List, ◌++◌, length, codes, ap, ◌∙◌, append_assoc, arith}
use Rattle.std.proofs.lemmas.List.{length-append}
use Rattle.fields.specs.Buffers.{put}
use Rattle.fields.proofs.Puts.{put_twice}
use Rattle.listing.specs.Lines.{named, share_line}

pub put_three : (at first second : ℕ) (a b c out : List ℕ) {one two three : List ℕ} → one ≡ put at a out → two ≡ put first b one → three ≡ put second c two → first ≡ at + length a → second ≡ first + length b → at ≤ length out
    → three ≡ put at (a ++ (b ++ c)) out
put_three at first second a b c out p q r e f room =
    put_twice at second (a ++ b) c out (put_twice at first a b out p q e room) r (omega (arith, length-append a b)) room ∙ ap (λ ys. put at ys out) (append_assoc a b c)

-- an application's line, by its three parts
pub share_parts : (k w s : ℕ) → named (codes "app ") k (codes " ") ++ (named (codes "weight ") w (codes " ") ++ named (codes "sent ") s (codes "\n")) ≡ share_line k w s
share_parts k w s = simp append_assoc
