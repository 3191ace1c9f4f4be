-- What was read is written back as it stood. Assumes nothing.
use Rattle.std.proofs.Common.{◌≡◌, ℕ, ◌+◌, ◌*◌, ◌/◌, ◌≤◌, ◌&&◌, eqb, ltb, leb, List, ◌++◌, map, length, take, drop, Ok, sym, ap, ◌∙◌, subst, ap₂, arith}
use Rattle.std.specs.List.{flat_map, All}
use Rattle.std.proofs.lemmas.List.{take-append-drop, length-take-le, length-drop, drop-drop, take_all}
use Rattle.std.proofs.lemmas.List.Elements.{All-take, All-drop}
use Rattle.std.proofs.lemmas.Bool.{and_parts, eqb-true, leb-true}
use Rattle.fields.specs.Numbers.{bytes, number, field}
use Rattle.fields.proofs.Digits.{bytes_number}
use Rattle.records.specs.Faults.{fault}
use Rattle.records.specs.Layouts.{settings_bytes, settings_of, settings_sound, application_bytes, application_of, application_sound, request_bytes, request_of, request_sound, event_bytes, event_record_of, event_sound}
use Rattle.records.specs.declared.fault.Layer.TheVariants.{Contents as InContents}
use Rattle.records.specs.declared.fault.Cause.TheVariants.{TooShort}
use Rattle.records.proofs.RecordTrips.{Byte, settings_written, application_trips, request_trips, event_trips}
use Rattle.bodies.specs.Bodies.{judged}
use Rattle.bodies.specs.Judging.{between, judge_settings, judge_application, judge_request, judge_event}
use Rattle.files.specs.Contents.{misplaced, entry, contents, requests_at, events_at, end_of}
use Rattle.files.specs.Reading.{Parts, parts, pieces, tables, judge_records, judge_roster, opened}
use Rattle.files.specs.Tables.{contents_bytes, counts_of, bytes_of}
use Rattle.files.specs.Writing.{Countable}
use Rattle.files.specs.Counts.{Counts, counts}
use Rattle.files.proofs.Steps.{both_ok, test_ok, past_test}
use Rattle.files.proofs.Bodies.{read_laid}
use Rattle.files.proofs.Rows.{count}

-- an accepted entry
record Entry (k offset least most n : ℕ) (bs : List ℕ) : Type 0 where
  begins : field (8 * k) 4 bs ≡ offset
  has : field (8 * k + 4) 4 bs ≡ n
  low : least ≤ n
  high : n ≤ most

entry_ok : (k offset least most n : ℕ) (bs : List ℕ) → entry k offset least most bs ≡ Ok n → Entry k offset least most n bs
entry_ok k offset least most n bs h =
    let m = field (8 * k + 4) 4 bs in
    let passed = test_ok (eqb (field (8 * k) 4 bs) offset && between least most m) m n (misplaced k) h in
    let parts = and_parts (eqb (field (8 * k) 4 bs) offset) (between least most m) passed.0 in
    let range = and_parts (leb least m) (leb m most) parts.1 in
    record {
      begins = eqb-true (field (8 * k) 4 bs) offset parts.0;
      has = passed.1;
      low = omega (arith, leb-true least m range.0, passed.1);
      high = omega (arith, leb-true m most range.1, passed.1);
    }

-- accepted contents
record Known (c : Counts) (bs : List ℕ) : Type 0 where
  settings : Entry 0 32 1 1 1 bs
  applications : Entry 1 40 0 15 c.applications bs
  requests : Entry 2 (requests_at c.applications) 0 960 c.requests bs
  events : Entry 3 (events_at c.applications c.requests) 0 960 c.events bs
  ends : length bs ≡ end_of c

contents_ok : (bs : List ℕ) (c : Counts) → contents bs ≡ Ok c → Known c bs
contents_ok bs c h =
    let long = past_test (ltb (length bs) 32) (fault InContents TooShort 0) _ c h in
    let first = both_ok (entry 0 32 1 1 bs) _ c long.1 in
    let second = both_ok (entry 1 40 0 15 bs) _ c first.2 in
    let a = second.0 in
    let third = both_ok (entry 2 (requests_at a) 0 960 bs) _ c second.2 in
    let r = third.0 in
    let fourth = both_ok (entry 3 (events_at a r) 0 960 bs) _ c third.2 in
    let e = fourth.0 in
    let whole = test_ok (eqb (length bs) (end_of (counts a r e))) (counts a r e) c (misplaced 4) fourth.2 in
    let one = entry_ok 0 32 1 1 first.0 bs first.1 in
    subst (λ k. Known k bs) whole.1
    (record {
      settings = record { begins = one.begins; has = one.has ∙ omega (arith, one.low, one.high); low = omega arith; high = omega arith };
      applications = entry_ok 1 40 0 15 a bs second.1;
      requests = entry_ok 2 (requests_at a) 0 960 r bs third.1;
      events = entry_ok 3 (events_at a r) 0 960 e bs fourth.1;
      ends = eqb-true (length bs) (end_of (counts a r e)) whole.0;
    })

module _ (bs : List ℕ) (each : All Byte bs) where
  -- a field and what is behind it, as they stood
  field_on : (at n : ℕ) (rest : List ℕ) → at + n ≤ length bs → rest ≡ drop (at + n) bs → bytes n (field at n bs) ++ rest ≡ drop at bs
  field_on at n rest h behind =
      let p = take n (drop at bs) in
      let size : length p ≡ n = length-take-le n (drop at bs) (omega (arith, length-drop at bs)) in
      ap₂ (λ k q. bytes k (number p) ++ q) (sym size) behind
      ∙ ap (λ q. q ++ drop (at + n) bs) (bytes_number p (All-take Byte n (drop at bs) (All-drop Byte at bs each)))
      ∙ ap (λ r. p ++ r) (sym (drop-drop n at bs)) ∙ take-append-drop n (drop at bs)

  -- a part and what is behind it
  part_on : (at n : ℕ) (xs rest : List ℕ) → xs ≡ take n (drop at bs) → rest ≡ drop (at + n) bs → xs ++ rest ≡ drop at bs
  part_on at n xs rest here behind = ap₂ ◌++◌ here behind ∙ ap (λ r. take n (drop at bs) ++ r) (sym (drop-drop n at bs)) ∙ take-append-drop n (drop at bs)

  entry_on : (k offset least most n : ℕ) (rest : List ℕ) → Entry k offset least most n bs → 8 * k + 4 + 4 ≤ length bs → rest ≡ drop (8 * k + 4 + 4) bs → bytes 4 offset ++ (bytes 4 n ++ rest) ≡ drop (8 * k) bs
  entry_on k offset least most n rest known h behind =
      ap₂ (λ o m. bytes 4 o ++ (bytes 4 m ++ rest)) (sym known.begins) (sym known.has)
      ∙ field_on (8 * k) 4 (bytes 4 (field (8 * k + 4) 4 bs) ++ rest) (omega arith) (field_on (8 * k + 4) 4 rest h behind)

  head_on : (c : Counts) (rest : List ℕ) → Known c bs → rest ≡ drop 32 bs → contents_bytes c ++ rest ≡ bs
  head_on c rest known behind =
      let long : 40 ≤ length bs = omega (arith, known.ends) in
      let d = entry_on 3 (events_at c.applications c.requests) 0 960 c.events rest known.events (omega arith) behind in
      let e = entry_on 2 (requests_at c.applications) 0 960 c.requests _ known.requests (omega arith) d in
      let f = entry_on 1 40 0 15 c.applications _ known.applications (omega arith) e in
      entry_on 0 32 1 1 1 _ known.settings (omega arith) f

  module _ (c : Counts) (known : Known c bs) where
    abbrev set : List ℕ
    set = (parts c bs).settings_body.bytes

    abbrev xs : List ℕ
    xs = (parts c bs).applications.bytes

    abbrev rs : List ℕ
    rs = (parts c bs).requests.bytes

    abbrev es : List ℕ
    es = (parts c bs).events.bytes

    -- a part of n bytes from at on
    length_part : (at n : ℕ) → at + n ≤ length bs → length (take n (drop at bs)) ≡ n
    length_part at n h = length-take-le n (drop at bs) (omega (arith, length-drop at bs))

    all_part : (at n : ℕ) → All Byte (take n (drop at bs))
    all_part at n = All-take Byte n (drop at bs) (All-drop Byte at bs each)

    same_settings : judge_settings set ≡ Ok tt → settings_bytes (settings_of set) ≡ set
    same_settings ok =
        settings_written set (length_part 32 8 (omega (arith, known.ends))) (all_part 32 8) (test_ok (settings_sound set) tt tt _ ok).0

    same_applications : judged judge_application 0 (pieces 8 xs) ≡ Ok tt → flat_map application_bytes (map application_of (pieces 8 xs)) ≡ xs
    same_applications ok =
        read_laid application_trips judge_application (λ i ys fine. (test_ok (application_sound ys) tt tt _ fine).0) c.applications xs
        (length_part 40 (8 * c.applications) (omega (arith, known.ends))) (all_part 40 (8 * c.applications)) ok

    same_requests : judged (judge_request (requests_at c.applications)) 0 (pieces 16 rs) ≡ Ok tt → flat_map request_bytes (map request_of (pieces 16 rs)) ≡ rs
    same_requests ok =
        let at = requests_at c.applications in
        read_laid request_trips (judge_request at) (λ i ys fine. (test_ok (request_sound ys) tt tt _ fine).0) c.requests rs
        (length_part at (16 * c.requests) (omega (arith, known.ends))) (all_part at (16 * c.requests)) ok

    same_events : (n : ℕ) → judged (judge_event (events_at c.applications c.requests) n) 0 (pieces 16 es) ≡ Ok tt → flat_map event_bytes (map event_record_of (pieces 16 es)) ≡ es
    same_events n ok =
        let at = events_at c.applications c.requests in
        read_laid event_trips (judge_event at n) (λ i ys fine. (test_ok (event_sound ys) tt tt _ (both_ok _ _ tt fine).1).0) c.events es
        (length_part at (16 * c.events) (omega (arith, known.ends))) (all_part at (16 * c.events)) ok

    same_counts : counts_of (tables (parts c bs)) ≡ c
    same_counts =
        let a : length xs / 8 ≡ c.applications = omega (arith, length_part 40 (8 * c.applications) (omega (arith, known.ends))) in
        let r : length rs / 16 ≡ c.requests = omega (arith, length_part (requests_at c.applications) (16 * c.requests) (omega (arith, known.ends))) in
        let e : length es / 16 ≡ c.events = omega (arith, length_part (events_at c.applications c.requests) (16 * c.events) (omega (arith, known.ends))) in
        ap₂ (λ n m. counts n m (counts_of (tables (parts c bs))).events) (sym (count application_of 8 xs) ∙ a) (sym (count request_of 16 rs) ∙ r)
        ∙ ap (λ k. counts c.applications c.requests k) (sym (count event_record_of 16 es) ∙ e)

    same_bytes : judge_records (parts c bs) ≡ Ok tt → bytes_of (tables (parts c bs)) ≡ bs
    same_bytes ok =
        let first = both_ok (judge_settings set) _ tt ok in
        let second = both_ok (judged judge_application 0 (pieces 8 xs)) _ tt first.2 in
        let third = both_ok (judged (judge_request (requests_at c.applications)) 0 (pieces 16 rs)) _ tt second.2 in
        let last = events_at c.applications c.requests in
        let all : take (16 * c.events) (drop last bs) ≡ drop last bs = take_all (16 * c.events) (drop last bs) (omega (arith, length-drop last bs, known.ends)) in
        let d = same_events (length rs / 16) third.2 ∙ all in
        let e = part_on (requests_at c.applications) (16 * c.requests) _ _ (same_requests third.1) d in
        let f = part_on 40 (8 * c.applications) _ _ (same_applications second.1) e in
        let g = part_on 32 8 _ _ (same_settings first.1) f in
        ap (λ k. contents_bytes k ++ (settings_bytes (settings_of set) ++ (flat_map application_bytes (map application_of (pieces 8 xs)) ++ (flat_map request_bytes (map request_of (pieces 16 rs)) ++ flat_map event_bytes (map event_record_of (pieces 16 es)))))) same_counts
        ∙ head_on c _ known g

-- whatever bytes are accepted, their tables make the same bytes
pub rewritten : (bs : List ℕ) (p : Parts) → All Byte bs → opened bs ≡ Ok p → bytes_of (tables p) ≡ bs
rewritten bs p each ok =
    let first = both_ok (contents bs) _ p ok in
    let c = first.0 in
    let second = both_ok (judge_records (parts c bs)) _ p first.2 in
    let third = both_ok (judge_roster (parts c bs).settings (tables (parts c bs)).applications) _ p second.2 in
    let same : parts c bs ≡ p = cc third.2 in
    subst (λ q. bytes_of (tables q) ≡ bs) same (same_bytes bs each c (contents_ok bs c first.1) second.1)

-- accepted bytes have no more records than they may
pub few_again : (bs : List ℕ) (p : Parts) → All Byte bs → opened bs ≡ Ok p → Countable (tables p)
few_again bs p each ok =
    let first = both_ok (contents bs) _ p ok in
    let c = first.0 in
    let known = contents_ok bs c first.1 in
    let second = both_ok (judge_records (parts c bs)) _ p first.2 in
    let third = both_ok (judge_roster (parts c bs).settings (tables (parts c bs)).applications) _ p second.2 in
    let same : parts c bs ≡ p = cc third.2 in
    let counted = same_counts bs each c known in
    subst (λ q. Countable (tables q)) same
    (record {
      applications = omega (arith, ap (λ k. k.applications) counted, known.applications.high);
      requests = omega (arith, ap (λ k. k.requests) counted, known.requests.high);
      events = omega (arith, ap (λ k. k.events) counted, known.events.high);
    })

pub parts_again : (bs : List ℕ) (p : Parts) → opened bs ≡ Ok p → (c : Counts) × (parts c bs ≡ p)
parts_again bs p ok =
    let first = both_ok (contents bs) _ p ok in
    let c = first.0 in
    let second = both_ok (judge_records (parts c bs)) _ p first.2 in
    let third = both_ok (judge_roster (parts c bs).settings (tables (parts c bs)).applications) _ p second.2 in
    (c, cc third.2)
