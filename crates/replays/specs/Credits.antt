-- The sectors that a command sends, for one application and for each.
use Rattle.std.specs.Prelude.{ℕ, ◌+◌, cond, List, Ok, Result, ◌==◌, slice_index, slice_set}
use Rattle.driver.specs.declared.command.Answer.{Answer}
use Rattle.driver.specs.declared.command.Answer.TheVariants.{Sent}
use Rattle.driver.specs.declared.command.Refused.{Refused}

abbrev pub credit_for : ℕ → Result Answer Refused → ℕ
credit_for k (Ok (Sent q)) = cond (q.application == k) q.size 0
credit_for k _ = 0

-- the sums so far, with what this outcome adds to one of them
abbrev pub credited : Result Answer Refused → List ℕ → List ℕ
credited (Ok (Sent q)) sums = slice_set sums q.application (slice_index sums q.application + q.size)
credited _ sums = sums

-- the sums, by the application's number
abbrev pub sums_of : List ℕ → ℕ → ℕ
sums_of sums k = slice_index sums k
