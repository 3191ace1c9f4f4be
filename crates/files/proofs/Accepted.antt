-- The writer takes what the reader took. Assumes nothing.
use Rattle.std.proofs.Common.{◌≡◌, ℕ, ◌+◌, ◌*◌, cond, leb, List, length, take, drop, Ok, Err, sym, ap, ◌∙◌, subst, arith}
use Rattle.std.specs.List.{All}
use Rattle.std.proofs.lemmas.List.Elements.{All-take, All-drop}
use Rattle.std.proofs.lemmas.Bool.{cond-true, le-leb}
use Rattle.fields.specs.Buffers.{put}
use Rattle.fields.proofs.Puts.{take_put}
use Rattle.records.specs.Faults.{fault, onward}
use Rattle.records.specs.declared.fault.Layer.TheVariants.{Contents as InContents}
use Rattle.records.specs.declared.fault.Cause.TheVariants.{Buffer}
use Rattle.records.proofs.RecordTrips.{Byte, settings_of_fits, application_trips, request_trips, event_trips}
use Rattle.bodies.specs.Bodies.{judged}
use Rattle.bodies.specs.Judging.{judge_name}
use Rattle.files.specs.Contents.{judge_counts, end_of, requests_at, events_at}
use Rattle.files.specs.Reading.{Parts, parts, tables, judge_roster, opened, read}
use Rattle.files.specs.Tables.{Tables, bytes_of}
use Rattle.files.specs.Writing.{Fits, Makes, judge_tables, write_answer}
use Rattle.files.specs.Counts.{Counts}
use Rattle.files.proofs.Bodies.{read_fits}
use Rattle.files.proofs.Steps.{both_ok, test_ok}
use Rattle.files.proofs.ReadBack.{read_back, length_file, counted, few_counts}
use Rattle.files.proofs.Rewritten.{rewritten, few_again, parts_again}

fits_again : (c : Counts) (bs : List ℕ) → All Byte bs → Fits (tables (parts c bs))
fits_again c bs each =
    let part : (at n : ℕ) → All Byte (take n (drop at bs)) = λ at n. All-take Byte n (drop at bs) (All-drop Byte at bs each) in
    record {
      settings = settings_of_fits (parts c bs).settings_body.bytes (part 32 8);
      applications = read_fits application_trips (parts c bs).applications.bytes (part 40 (8 * c.applications));
      requests = read_fits request_trips (parts c bs).requests.bytes (part (requests_at c.applications) (16 * c.requests));
      events = read_fits event_trips (parts c bs).events.bytes (part (events_at c.applications c.requests) (16 * c.events));
    }

-- the length of an accepted file, from its tables
judged_length : (t : Tables) (c : Counts) → judge_tables t ≡ Ok c → end_of c ≡ length (bytes_of t)
judged_length t c ok =
    let a = length t.applications in
    let r = length t.requests in
    let e = length t.events in
    let first = both_ok (judge_counts a r e) _ c ok in
    let k = first.0 in
    let second = both_ok (judged (judge_name (events_at k.applications k.requests) k.requests) 0 t.events) _ c first.2 in
    let third = both_ok (judge_roster t.settings t.applications) _ c second.2 in
    let same : first.0 ≡ c = cc third.2 in
    ap end_of (sym same ∙ sym (counted a r e first.0 first.1)) ∙ sym (length_file t)

pub makes : (bs : List ℕ) (p : Parts) → All Byte bs → opened bs ≡ Ok p → Makes (tables p) bs
makes bs p each ok =
    let t = tables p in
    let same = rewritten bs p each ok in
    let from = parts_again bs p ok in
    let fits = subst (λ q. Fits (tables q)) from.1 (fits_again from.0 bs each) in
    let again : onward (judge_tables t) (λ _. Ok t) ≡ Ok t = sym (read_back t (few_again bs p each ok) fits) ∙ ap read same ∙ ap (λ v. onward v (λ q. Ok (tables q))) ok in
    let taken = both_ok (judge_tables t) (λ _. Ok t) t again in
    let end : end_of taken.0 ≡ length bs = judged_length t taken.0 taken.1 ∙ ap length same in
    record {
      same = same;
      accepted = λ room h.
          ap (λ v. onward v (λ c. cond (leb (end_of c) room) (Ok (end_of c)) (Err (fault InContents Buffer 0)))) taken.1
          ∙ cond-true (leb (end_of taken.0) room) _ _ (le-leb (end_of taken.0) room (omega (arith, end))) ∙ ap Ok end;
    }

-- what the writer left at the buffer's beginning is read as the tables it was given
pub written_again : (t : Tables) (out after : List ℕ) (n : ℕ) → write_answer (length out) t ≡ Ok n → after ≡ put 0 (bytes_of t) out → Fits t → read (take n after) ≡ Ok t
written_again t out after n answer left fits =
    let first = both_ok (judge_tables t) _ n answer in
    let c = first.0 in
    let counted_by = both_ok (judge_counts (length t.applications) (length t.requests) (length t.events)) _ c first.1 in
    let few = few_counts (length t.applications) (length t.requests) (length t.events) counted_by.0 counted_by.1 in
    let end : end_of c ≡ n = (test_ok (leb (end_of c) (length out)) (end_of c) n _ first.2).1 in
    let size : n ≡ 0 + length (bytes_of t) = sym end ∙ judged_length t c first.1 ∙ omega arith in
    let front : take n after ≡ bytes_of t = ap (take n) left ∙ take_put 0 n (bytes_of t) out size (omega arith) in
    ap read front ∙ read_back t (record { applications = omega (arith, few.0); requests = omega (arith, few.1); events = omega (arith, few.2) }) fits
    ∙ ap (λ v. onward v (λ _. Ok t)) first.1
