-- What was written is read back, or refused as the writer refuses it. Assumes nothing.
use Rattle.std.proofs.Common.{◌≡◌, ℕ, ◌+◌, ◌*◌, ◌/◌, ◌≤◌, false, cond, ◌&&◌, eqb, ltb, leb, List, ◌++◌, map, length, take, drop, Ok, Err, Result, sym, refl, ap, ◌∙◌, subst, ap₂, arith}
use Rattle.std.specs.List.{flat_map}
use Rattle.std.proofs.lemmas.List.{length-append, drop-drop, take_at, drop_at, take_all}
use Rattle.std.proofs.lemmas.Bool.{eq-eqb, le-leb, leb-true, le-ltb, cond-false, cond-true}
use Rattle.fields.specs.Numbers.{field}
use Rattle.fields.proofs.Digits.{number_bytes}
use Rattle.records.specs.Faults.{onward}
use Rattle.records.specs.Layouts.{settings_bytes, application_bytes, request_bytes, event_bytes, event_record_of, event_fits}
use Rattle.records.specs.declared.fault.Fault.{Fault}
use Rattle.records.specs.declared.tables.Settings.{Settings}
use Rattle.records.proofs.RecordTrips.{settings_read, settings_laid, application_trips, request_trips, event_record_read, event_laid, event_trips}
use Rattle.bodies.specs.Bodies.{Verdict, judged}
use Rattle.bodies.specs.Judging.{at_least_sound, judge_application, judge_request, judge_event, judge_name}
use Rattle.bodies.proofs.Judged.{judged_map}
use Rattle.files.specs.Contents.{judge_counts, misplaced, entry, contents, requests_at, events_at, end_of}
use Rattle.files.specs.Reading.{Parts, parts, pieces, tables, judge_records, judge_roster, read}
use Rattle.files.specs.Tables.{Tables, counts_of, bytes_of}
use Rattle.files.specs.Writing.{Fits, Countable, judge_tables}
use Rattle.files.specs.Counts.{Counts, counts}
use Rattle.files.proofs.Lengths.{length_bodies}
use Rattle.files.proofs.Steps.{test_ok, passed_test, onward_same, onward_onward, tested}
use Rattle.files.proofs.Bodies.{length_laid, pieces_laid, laid_read, laid_sound, judged_same}

-- an entry of the contents, as it is read
entry_back : (k offset most n : ℕ) (bs : List ℕ) → field (8 * k) 4 bs ≡ offset → field (8 * k + 4) 4 bs ≡ n → entry k offset 0 most bs ≡ cond (leb n most) (Ok n) (Err (misplaced k))
entry_back k offset most n bs begins has =
    ap₂ (λ o m. cond (eqb o offset && (leb 0 m && leb m most)) (Ok m) (Err (misplaced k))) begins has
    ∙ ap₂ (λ p q. cond (p && (q && leb n most)) (Ok n) (Err (misplaced k))) (eq-eqb offset offset refl) (le-leb 0 n (omega arith))

pub length_file : (t : Tables) → length (bytes_of t) ≡ end_of (counts_of t)
length_file t =
    let xs = flat_map application_bytes t.applications in
    let rs = flat_map request_bytes t.requests in
    let es = flat_map event_bytes t.events in
    omega (arith, length-append xs (rs ++ es), length-append rs es, length_bodies t)

-- contents whose entries are as they should be, but for the counts
contents_by : (bs : List ℕ) (a r e : ℕ) → entry 0 32 1 1 bs ≡ Ok 1 → entry 1 40 0 15 bs ≡ cond (leb a 15) (Ok a) (Err (misplaced 1)) → (a ≤ 15 → entry 2 (requests_at a) 0 960 bs ≡ cond (leb r 960) (Ok r) (Err (misplaced 2))) → (a ≤ 15 → r ≤ 960 → entry 3 (events_at a r) 0 960 bs ≡ cond (leb e 960) (Ok e) (Err (misplaced 3))) → length bs ≡ end_of (counts a r e) → contents bs ≡ judge_counts a r e
contents_by bs a r e first second third fourth size =
    let long : ltb (length bs) 32 ≡ false = le-ltb (length bs) 32 (omega (arith, size)) in
    let end : ℕ → ℕ → ℕ → Result Counts Fault = λ n m k. cond (eqb (length bs) (end_of (counts n m k))) (Ok (counts n m k)) (Err (misplaced 4)) in
    let on_events : ℕ → ℕ → Result Counts Fault = λ n m. onward (entry 3 (events_at n m) 0 960 bs) (end n m) in
    let on_requests : ℕ → Result Counts Fault = λ n. onward (entry 2 (requests_at n) 0 960 bs) (on_events n) in
    let on_applications = onward (entry 1 40 0 15 bs) on_requests in
    cond-false (ltb (length bs) 32) _ (onward (entry 0 32 1 1 bs) (λ _. on_applications)) long
    ∙ ap (λ v. onward v (λ _. on_applications)) first
    ∙ ap (λ v. onward v on_requests) second
    ∙ tested (leb a 15) a (misplaced 1) on_requests _
    (λ few. ap (λ v. onward v (on_events a)) (third (leb-true a 15 few))
    ∙ tested (leb r 960) r (misplaced 2) (on_events a) _
    (λ some. ap (λ v. onward v (end a r)) (fourth (leb-true a 15 few) (leb-true r 960 some))
    ∙ tested (leb e 960) e (misplaced 3) (end a r) _ (λ _. cond-true (eqb (length bs) (end_of (counts a r e))) _ _ (eq-eqb _ _ size))))

contents_back : (t : Tables) → Countable t → contents (bytes_of t) ≡ judge_counts (length t.applications) (length t.requests) (length t.events)
contents_back t small =
    let bs = bytes_of t in
    let a = length t.applications in
    let r = length t.requests in
    let e = length t.events in
    contents_by bs a r e refl
    (entry_back 1 40 15 a bs refl (number_bytes 4 a small.applications))
    (λ few. entry_back 2 (requests_at a) 960 r bs (number_bytes 4 (requests_at a) (omega arith)) (number_bytes 4 r small.requests))
    (λ few some. entry_back 3 (events_at a r) 960 e bs (number_bytes 4 (events_at a r) (omega arith)) (number_bytes 4 e small.events))
    (length_file t)

-- accepted counts are the contents
pub counted : (a r e : ℕ) (c : Counts) → judge_counts a r e ≡ Ok c → counts a r e ≡ c
counted a r e c ok =
    let first = (passed_test (leb a 15) _ (misplaced 1) c ok).1 in
    let second = (passed_test (leb r 960) _ (misplaced 2) c first).1 in
    (test_ok (leb e 960) (counts a r e) c (misplaced 3) second).1

pub few_counts : (a r e : ℕ) (c : Counts) → judge_counts a r e ≡ Ok c → (a ≤ 15) × (r ≤ 960) × (e ≤ 960)
few_counts a r e c ok =
    let first = passed_test (leb a 15) _ (misplaced 1) c ok in
    let second = passed_test (leb r 960) _ (misplaced 2) c first.1 in
    let third = passed_test (leb e 960) _ (misplaced 3) c second.1 in
    (leb-true a 15 first.0, leb-true r 960 second.0, leb-true e 960 third.0)

-- two judgements, and what is made of what they let pass
alike : {X Y Z : Type 0} (v w : Verdict) (x : X) (y : Y) (f : X → Z) (z : Z) → f x ≡ z → onward (onward v (λ _. onward w (λ _. Ok x))) (λ p. Ok (f p)) ≡ onward (onward v (λ _. onward w (λ _. Ok y))) (λ _. Ok z)
alike (Ok u) (Ok u') x y f z same = ap Ok same
alike (Ok u) (Err e) x y f z same = refl
alike (Err e) w x y f z same = refl

-- the parts of a file of so many records
abbrev shaped : Counts → Settings → List ℕ → List ℕ → List ℕ → List ℕ → Parts
shaped c s body xs rs es =
    record {
      settings = s;
      settings_body = record { offset = 32; bytes = body };
      applications = record { offset = 40; bytes = xs };
      requests = record { offset = requests_at c.applications; bytes = rs };
      events = record { offset = events_at c.applications c.requests; bytes = es };
    }

abbrev laid : Tables → Parts
laid t =
    shaped (counts_of t) t.settings (settings_bytes t.settings) (flat_map application_bytes t.applications) (flat_map request_bytes t.requests) (flat_map event_bytes t.events)

module _ (t : Tables) (fits : Fits t) where
  abbrev xs : List ℕ
  xs = flat_map application_bytes t.applications

  abbrev rs : List ℕ
  rs = flat_map request_bytes t.requests

  abbrev es : List ℕ
  es = flat_map event_bytes t.events

  -- what is behind the applications, and behind the requests
  behind_applications : drop (requests_at (length t.applications)) (bytes_of t) ≡ rs ++ es
  behind_applications =
      sym (drop-drop (8 * length t.applications) 40 (bytes_of t)) ∙ drop_at xs (rs ++ es) (8 * length t.applications) (length_laid application_trips t.applications)

  behind_requests : drop (events_at (length t.applications) (length t.requests)) (bytes_of t) ≡ es
  behind_requests =
      sym (drop-drop (16 * length t.requests) (requests_at (length t.applications)) (bytes_of t))
      ∙ ap (drop (16 * length t.requests)) behind_applications ∙ drop_at rs es (16 * length t.requests) (length_laid request_trips t.requests)

  parts_laid : parts (counts_of t) (bytes_of t) ≡ laid t
  parts_laid =
      let bs = bytes_of t in
      let c = counts_of t in
      let body = settings_bytes t.settings in
      let a = take_at xs (rs ++ es) (8 * length t.applications) (length_laid application_trips t.applications) in
      let r = ap (take (16 * length t.requests)) behind_applications ∙ take_at rs es (16 * length t.requests) (length_laid request_trips t.requests) in
      let e = ap (take (16 * length t.events)) behind_requests ∙ take_all (16 * length t.events) es (omega (arith, length_laid event_trips t.events)) in
      ap₂ (λ s ys. shaped c s body ys (parts c bs).requests.bytes (parts c bs).events.bytes) (settings_read t.settings fits.settings) a ∙ ap₂ (λ ys zs. shaped c t.settings body xs ys zs) r e

  tables_back : tables (laid t) ≡ t
  tables_back =
      ap₂ (λ ys zs. record { settings = t.settings; applications = ys; requests = zs; events = map event_record_of (pieces 16 es) }) (laid_read application_trips t.applications fits.applications) (laid_read request_trips t.requests fits.requests)
      ∙ ap (λ ys. record { settings = t.settings; applications = t.applications; requests = t.requests; events = ys }) (laid_read event_trips t.events fits.events)

  -- each record is sound, so that only a name can be wrong
  events_sound : (first n : ℕ) → judged (judge_event first n) 0 (pieces 16 es) ≡ judged (judge_name first n) 0 t.events
  events_sound first n =
      ap (judged (judge_event first n) 0) (pieces_laid event_trips t.events) ∙ sym (judged_map event_bytes (judge_event first n) 0 t.events)
      ∙ judged_same event_fits (λ i a. judge_event first n i (event_bytes a)) (judge_name first n)
      (λ i a h. ap₂ (λ b e. onward (at_least_sound b (first + 16 * i)) (λ _. judge_name first n i e)) (event_laid a h) (event_record_read a h)) 0 t.events fits.events

  records_back : judge_records (laid t) ≡ judged (judge_name (events_at (length t.applications) (length t.requests)) (length t.requests)) 0 t.events
  records_back =
      let first = events_at (length t.applications) (length t.requests) in
      let n : length rs / 16 ≡ length t.requests = omega (arith, length_laid request_trips t.requests) in
      let named = events_sound first (length rs / 16) ∙ ap (λ k. judged (judge_name first k) 0 t.events) n in
      ap (λ b. onward (at_least_sound b 32) (λ _. onward (judged judge_application 0 (pieces 8 xs)) (λ _. onward (judged (judge_request (requests_at (length t.applications))) 0 (pieces 16 rs)) (λ _. judged (judge_event first (length rs / 16)) 0 (pieces 16 es))))) (settings_laid t.settings)
      ∙ ap (λ v. onward v (λ _. onward (judged (judge_request (requests_at (length t.applications))) 0 (pieces 16 rs)) (λ _. judged (judge_event first (length rs / 16)) 0 (pieces 16 es)))) (laid_sound application_trips 40 t.applications fits.applications)
      ∙ ap (λ v. onward v (λ _. judged (judge_event first (length rs / 16)) 0 (pieces 16 es))) (laid_sound request_trips (requests_at (length t.applications)) t.requests fits.requests)
      ∙ named

  -- once the contents are accepted, reader and writer find the same
  layers_back : (c : Counts) → c ≡ counts_of t → onward (onward (judge_records (parts c (bytes_of t))) (λ _. onward (judge_roster (parts c (bytes_of t)).settings (tables (parts c (bytes_of t))).applications) (λ _. Ok (parts c (bytes_of t))))) (λ p. Ok (tables p)) ≡ onward (onward (judged (judge_name (events_at c.applications c.requests) c.requests) 0 t.events) (λ _. onward (judge_roster t.settings t.applications) (λ _. Ok c))) (λ _. Ok t)
  layers_back c same =
      subst (λ k. onward (onward (judge_records (parts k (bytes_of t))) (λ _. onward (judge_roster (parts k (bytes_of t)).settings (tables (parts k (bytes_of t))).applications) (λ _. Ok (parts k (bytes_of t))))) (λ p. Ok (tables p)) ≡ onward (onward (judged (judge_name (events_at k.applications k.requests) k.requests) 0 t.events) (λ _. onward (judge_roster t.settings t.applications) (λ _. Ok k))) (λ _. Ok t)) (sym same)
      (ap (λ p. onward (onward (judge_records p) (λ _. onward (judge_roster p.settings (tables p).applications) (λ _. Ok p))) (λ q. Ok (tables q))) parts_laid
      ∙ ap₂ (λ v ys. onward (onward v (λ _. onward (judge_roster t.settings ys) (λ _. Ok (laid t)))) (λ q. Ok (tables q))) records_back (laid_read application_trips t.applications fits.applications)
      ∙ alike _ (judge_roster t.settings t.applications) (laid t) (counts_of t) tables t tables_back)

-- whatever the tables, a reader finds in their file what the writer finds in them
pub read_back : (t : Tables) → Countable t → Fits t → read (bytes_of t) ≡ onward (judge_tables t) (λ _. Ok t)
read_back t small fits =
    let a = length t.applications in
    let r = length t.requests in
    let e = length t.events in
    let bs = bytes_of t in
    ap (λ v. onward (onward v (λ c. onward (judge_records (parts c bs)) (λ _. onward (judge_roster (parts c bs).settings (tables (parts c bs)).applications) (λ _. Ok (parts c bs))))) (λ p. Ok (tables p))) (contents_back t small)
    ∙ onward_onward (judge_counts a r e) _ _
    ∙ onward_same (judge_counts a r e) _ _ (λ c ok. layers_back t fits c (sym (counted a r e c ok)))
    ∙ sym (onward_onward (judge_counts a r e) _ _)
