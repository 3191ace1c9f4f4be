-- The first layer: what the contents at a file's head say, and whether it can be so.
use Rattle.std.specs.Prelude.{ℕ, ◌+◌, ◌*◌, cond, ◌&&◌, List, length, Ok, Err, Result, ◌==◌, nat_le, nat_lt}
use Rattle.fields.specs.Numbers.{field}
use Rattle.records.specs.Faults.{fault, onward}
use Rattle.records.specs.declared.fault.Fault.{Fault}
use Rattle.records.specs.declared.fault.Layer.TheVariants.{Contents as InContents}
use Rattle.records.specs.declared.fault.Cause.TheVariants.{TooShort, Layout}
use Rattle.bodies.specs.Judging.{between}
use Rattle.files.specs.Counts.{Counts, counts}

-- an entry that is wrong, or at place 4 the file's end
abbrev pub misplaced : ℕ → Fault
misplaced place = fault InContents Layout place

-- the record count of the k-th entry, which must give that offset
abbrev pub entry : ℕ → ℕ → ℕ → ℕ → List ℕ → Result ℕ Fault
entry k offset least most bs =
    cond (field (8 * k) 4 bs == offset && between least most (field (8 * k + 4) 4 bs)) (Ok (field (8 * k + 4) 4 bs)) (Err (misplaced k))

-- where the requests and the events begin, and where the file ends
abbrev pub requests_at : ℕ → ℕ
requests_at applications = 40 + 8 * applications

abbrev pub events_at : ℕ → ℕ → ℕ
events_at applications requests = 40 + 8 * applications + 16 * requests

abbrev pub end_of : Counts → ℕ
end_of c = 40 + 8 * c.applications + 16 * c.requests + 16 * c.events

abbrev pub contents : List ℕ → Result Counts Fault
contents bs =
    cond (nat_lt (length bs) 32) (Err (fault InContents TooShort 0))
    (onward (entry 0 32 1 1 bs)
    (λ _. onward (entry 1 40 0 15 bs)
    (λ a. onward (entry 2 (requests_at a) 0 960 bs)
    (λ r. onward (entry 3 (events_at a r) 0 960 bs)
    (λ e. cond (length bs == end_of (counts a r e)) (Ok (counts a r e)) (Err (misplaced 4)))))))

-- the contents of a file of so many records
abbrev pub judge_counts : ℕ → ℕ → ℕ → Result Counts Fault
judge_counts a r e =
    cond (nat_le a 15) (cond (nat_le r 960) (cond (nat_le e 960) (Ok (counts a r e)) (Err (misplaced 3))) (Err (misplaced 2))) (Err (misplaced 1))
