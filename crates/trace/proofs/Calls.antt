-- What the public calls add to the layers beneath them: the round trips. Assumes nothing.
use Rattle.std.proofs.Common.{◌≡◌, ℕ, ◌*◌, List, length, take, drop, IfOk, Ok, Err, Result, sym}
use Rattle.std.specs.List.{All}
use Rattle.records.specs.declared.fault.Fault.{Fault}
use Rattle.records.proofs.RecordTrips.{Byte}
use Rattle.records.specs.Layouts.{settings_of}
use Rattle.files.specs.Contents.{events_at, requests_at}
use Rattle.files.specs.Counts.{Counts}
use Rattle.files.specs.Parts.{Part, part}
use Rattle.files.specs.Reading.{Parts, opened, parts, read}
use Rattle.files.specs.Tables.{Tables}
use Rattle.files.specs.Writing.{Fits, Makes, write_answer, written}
use Rattle.files.proofs.Accepted.{makes, written_again}
use Rattle.trace.specs.View.{tables_of, parts_of, answered}
use Rattle.trace.specs.declared.trace.Trace.{Trace}

-- a file that was split by its contents
pub split_is : (k c : Counts) (bs settings : List ℕ) (r e : ℕ) (xs rs es : Part) → k ≡ c → settings ≡ take 8 (drop 32 bs) → r ≡ requests_at c.applications → e ≡ events_at c.applications c.requests
    → xs ≡ part 40 (8 * k.applications) bs → rs ≡ part r (16 * k.requests) bs → es ≡ part e (16 * k.events) bs
    → ◌≡◌ {A = Parts} (record { settings = settings_of settings; settings_body = record { offset = 32; bytes = settings }; applications = xs; requests = rs; events = es }) (parts c bs)
split_is k c bs settings r e xs rs es same cut begins behind x y z = cc

pub rewritten : (bs : List ℕ) (r : Result Trace Fault) → All Byte bs → answered r ≡ opened bs → IfOk r (λ t. Makes (tables_of t) bs)
rewritten bs (Ok t) each found = makes bs (parts_of t) each (sym found)
rewritten bs (Err e) each found = tt

pub read_back : (t : Tables) (out after : List ℕ) (r : Result ℕ Fault) → r ≡ write_answer (length out) t → after ≡ written r t out → IfOk r (λ _. Fits t) → IfOk r (λ n. read (take n after) ≡ Ok t)
read_back t out after (Ok n) answer left fits = written_again t out after n (sym answer) left fits
read_back t out after (Err e) answer left fits = tt
