-- How a replay answers a program in C.
use Rattle.std.specs.Prelude.{◌≡◌, ℕ, List, Ok, Err, Result}
use Rattle.replays.specs.Replays.{Replayed}
use Rattle.replays.specs.declared.unlisted.Unlisted.{Unlisted}
use Rattle.replays.specs.declared.unlisted.Unlisted.TheVariants.{Buffer, Memory}

-- 0, or the number of the refusal; 255 for want of memory
abbrev pub status : Result ℕ Unlisted → ℕ
status (Ok n) = 0
status (Err Buffer) = 18
status (Err Memory) = 255

-- how many bytes were written
abbrev pub count : Result ℕ Unlisted → ℕ
count (Ok n) = n
count (Err e) = 0

pub record Answered (bytes old : List ℕ) (r written : ℕ) (new : List ℕ) : Type 0 where
  pub answer : Result ℕ Unlisted
  pub replayed : Replayed bytes old answer new
  pub status_is : r ≡ status answer
  pub written_is : written ≡ count answer
