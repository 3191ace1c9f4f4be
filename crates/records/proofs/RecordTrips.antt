-- Each record and its bytes give each other back. Assumes nothing.
use Rattle.std.proofs.Common.{◌≡◌, ℕ, zero, suc, ◌+◌, ◌^◌, ◌<◌, ◌≤◌, Bool, true, ◌&&◌, eqb, List, [], ◌∷◌, ◌++◌, length, get_or, take, drop, is_some, Some, Option, unwrap_or, sym, refl, ap, ◌∙◌, ap₂, ⊎_elim, lit<, arith}
use Rattle.std.specs.List.{All}
use Rattle.std.proofs.lemmas.Bool.{and_parts, eqb-true, cases_eq}
use Rattle.std.proofs.lemmas.List.Elements.{All-head, All-tail, All-drop, All-take}
use Rattle.std.proofs.lemmas.List.{length-take}
use Rattle.std.proofs.lemmas.Bool.Decides.{nat_tests}
use Rattle.fields.specs.Numbers.{bytes, number, field}
use Rattle.fields.proofs.Digits.{number_bytes, bytes_number, number_below}
use Rattle.pools.specs.Codes.{kind_of, kind_code}
use Rattle.pools.specs.declared.request.Kind.{Kind}
use Rattle.pools.specs.declared.request.Kind.TheVariants.{Asynchronous}
use Rattle.records.specs.Codes.{rule_of, pool_of, event_of, event_argument, rule_code, pool_code, event_code}
use Rattle.records.specs.Layouts.{blank, settings_bytes, settings_of, settings_sound, settings_fits, application_bytes, application_of, application_sound, application_fits, request_bytes, request_of, request_sound, request_fits, event_bytes, event_record_of, event_sound, event_fits}
use Rattle.records.specs.declared.tables.RuleCode.{RuleCode}
use Rattle.records.specs.declared.tables.RuleCode.TheVariants.{Steady}
use Rattle.records.specs.declared.tables.PoolCode.{PoolCode}
use Rattle.records.specs.declared.tables.PoolCode.TheVariants.{FirstCome}
use Rattle.records.specs.declared.tables.Event.{Event}
use Rattle.records.specs.declared.tables.Event.TheVariants.{Tick}
use Rattle.records.specs.declared.tables.Settings.{Settings}
use Rattle.records.specs.declared.tables.ApplicationRecord.{ApplicationRecord}
use Rattle.records.specs.declared.tables.RequestRecord.{RequestRecord}
use Rattle.records.specs.declared.tables.EventRecord.{EventRecord}
use Rattle.records.proofs.CodeTrips.{rule_read, rule_written, pool_read, pool_written, kind_read, kind_written, event_read, event_written, argument_written}

-- P of every list of n elements, which are named one by one
abbrev Over : ℕ → (List ℕ → Type 0) → Type 0
Over zero P = P []
Over (suc n) P = (b : ℕ) → Over n (λ bs. P (b ∷ bs))

over : (n : ℕ) (P : List ℕ → Type 0) → Over n P → (bs : List ℕ) → length bs ≡ n → P bs
over zero P f [] e = f
over zero P f (b ∷ bs) e = absurd (omega arith)
over (suc n) P f [] e = absurd (omega arith)
over (suc n) P f (b ∷ bs) e = over n (λ xs. P (b ∷ xs)) (f b) bs (omega arith)

abbrev pub Byte : ℕ → Type 0
Byte b = b < 256

-- bytes that are blank, one by one
zero_at : (at n : ℕ) (bs : List ℕ) → blank at n bs ≡ true → (k : ℕ) → at ≤ k → k < at + n → get_or bs k 0 ≡ 0
zero_at at zero bs h k low high = absurd (omega arith)
zero_at at (suc n) bs h k low high =
    let both = and_parts (eqb (get_or bs at 0) 0) (blank (suc at) n bs) h in
    ⊎_elim (λ e. ap (λ j. get_or bs j 0) (sym e) ∙ eqb-true (get_or bs at 0) 0 both.0) (λ ne. zero_at (suc at) n bs both.1 k (omega arith) (omega arith))
    (cases_eq at k)

-- the parts of a record, put together again
made_settings : ℕ → Option RuleCode → Option PoolCode → Settings
made_settings hold rule pool = record { hold = hold; rule = unwrap_or rule Steady; pool = unwrap_or pool FirstCome }

-- what was laid out is read back
pub settings_read : (s : Settings) → settings_fits s → settings_of (settings_bytes s) ≡ s
unfolding made_settings
settings_read s h =
    ap (λ n. made_settings n (rule_of (rule_code s.rule)) (pool_of (pool_code s.pool))) (number_bytes 4 s.hold h) ∙ ap₂ (made_settings s.hold) (rule_read s.rule) (pool_read s.pool)

pub settings_laid : (s : Settings) → settings_sound (settings_bytes s) ≡ true
settings_laid s = rw (rule_read s.rule, pool_read s.pool)

pub application_read : (a : ApplicationRecord) → application_fits a → application_of (application_bytes a) ≡ a
application_read a h = ap (λ l. record { weight = a.weight; limit = l }) (number_bytes 4 a.limit h.1)

pub application_laid : (a : ApplicationRecord) → application_sound (application_bytes a) ≡ true
application_laid a = refl

made_request : ℕ → ℕ → ℕ → Option Kind → RequestRecord
made_request first size application kind = record { first = first; size = size; application = application; kind = unwrap_or kind Asynchronous }

pub request_read : (r : RequestRecord) → request_fits r → request_of (request_bytes r) ≡ r
unfolding made_request
request_read r h =
    ap₂ (λ f z. made_request f z r.application (kind_of (kind_code r.kind))) (number_bytes 8 r.first h.0) (number_bytes 2 r.size h.1) ∙ ap (made_request r.first r.size r.application) (kind_read r.kind)

pub request_laid : (r : RequestRecord) → request_sound (request_bytes r) ≡ true
request_laid r = rw (kind_read r.kind)

made_event : ℕ → Option Event → EventRecord
made_event time event = record { time = time; event = unwrap_or event Tick }

event_again : (e : EventRecord) → event_fits e → event_of (event_code e.event) (number (bytes 4 (event_argument e.event))) ≡ Some e.event
event_again e h = ap (event_of (event_code e.event)) (number_bytes 4 (event_argument e.event) h.1) ∙ event_read e.event

pub event_record_read : (e : EventRecord) → event_fits e → event_record_of (event_bytes e) ≡ e
unfolding made_event
event_record_read e h = ap₂ made_event (number_bytes 8 e.time h.0) (event_again e h)

pub event_laid : (e : EventRecord) → event_fits e → event_sound (event_bytes e) ≡ true
event_laid e h = ap (λ o. is_some o && true) (event_again e h)

-- what holds a record is laid out again from it
pub application_written : (bs : List ℕ) → length bs ≡ 8 → All Byte bs → application_sound bs ≡ true → application_bytes (application_of bs) ≡ bs
application_written bs e h s =
    over 8 (λ bs. All Byte bs → application_sound bs ≡ true → application_bytes (application_of bs) ≡ bs)
    (λ b0 b1 b2 b3 b4 b5 b6 b7 h s.
    let whole = b0 ∷ b1 ∷ b2 ∷ b3 ∷ b4 ∷ b5 ∷ b6 ∷ b7 ∷ [] in
    let z = zero_at 1 3 whole s in
    let z1 : b1 ≡ 0 = z 1 (omega arith) (omega arith) in
    let z2 : b2 ≡ 0 = z 2 (omega arith) (omega arith) in
    let z3 : b3 ≡ 0 = z 3 (omega arith) (omega arith) in
    let limit = bytes_number (b4 ∷ b5 ∷ b6 ∷ b7 ∷ []) (All-drop Byte 4 whole h) in
    cc) bs e h s

pub settings_written : (bs : List ℕ) → length bs ≡ 8 → All Byte bs → settings_sound bs ≡ true → settings_bytes (settings_of bs) ≡ bs
settings_written bs e h s =
    over 8 (λ bs. All Byte bs → settings_sound bs ≡ true → settings_bytes (settings_of bs) ≡ bs)
    (λ b0 b1 b2 b3 b4 b5 b6 b7 h s.
    let whole = b0 ∷ b1 ∷ b2 ∷ b3 ∷ b4 ∷ b5 ∷ b6 ∷ b7 ∷ [] in
    let known = and_parts (is_some (rule_of b4)) (is_some (pool_of b5) && blank 6 2 whole) s in
    let rest = and_parts (is_some (pool_of b5)) (blank 6 2 whole) known.1 in
    let z = zero_at 6 2 whole rest.1 in
    let z6 : b6 ≡ 0 = z 6 (omega arith) (omega arith) in
    let z7 : b7 ≡ 0 = z 7 (omega arith) (omega arith) in
    let hold = bytes_number (b0 ∷ b1 ∷ b2 ∷ b3 ∷ []) (All-take Byte 4 whole h) in
    ap₂ ◌++◌ hold (ap₂ (λ r p. r ∷ p ∷ 0 ∷ 0 ∷ []) (rule_written b4 known.0) (pool_written b5 rest.0) ∙ ap₂ (λ x y. b4 ∷ b5 ∷ x ∷ y ∷ []) (sym z6) (sym z7)))
    bs e h s

pub request_written : (bs : List ℕ) → length bs ≡ 16 → All Byte bs → request_sound bs ≡ true → request_bytes (request_of bs) ≡ bs
request_written bs e h s =
    over 16 (λ bs. All Byte bs → request_sound bs ≡ true → request_bytes (request_of bs) ≡ bs)
    (λ b0 b1 b2 b3 b4 b5 b6 b7 b8 b9 b10 b11 b12 b13 b14 b15 h s.
    let whole = b0 ∷ b1 ∷ b2 ∷ b3 ∷ b4 ∷ b5 ∷ b6 ∷ b7 ∷ b8 ∷ b9 ∷ b10 ∷ b11 ∷ b12 ∷ b13 ∷ b14 ∷ b15 ∷ [] in
    let known = and_parts (is_some (kind_of b11)) (blank 12 4 whole) s in
    let z = zero_at 12 4 whole known.1 in
    let z12 : 0 ≡ b12 = sym (z 12 (omega arith) (omega arith)) in
    let z13 : 0 ≡ b13 = sym (z 13 (omega arith) (omega arith)) in
    let z14 : 0 ≡ b14 = sym (z 14 (omega arith) (omega arith)) in
    let z15 : 0 ≡ b15 = sym (z 15 (omega arith) (omega arith)) in
    let first = bytes_number (b0 ∷ b1 ∷ b2 ∷ b3 ∷ b4 ∷ b5 ∷ b6 ∷ b7 ∷ []) (All-take Byte 8 whole h) in
    let size = bytes_number (b8 ∷ b9 ∷ []) (All-take Byte 2 (drop 8 whole) (All-drop Byte 8 whole h)) in
    let kind = kind_written b11 known.0 in
    ap₂ ◌++◌ first (ap₂ ◌++◌ size (ap₂ (λ k x. b10 ∷ k ∷ x) kind (ap₂ (λ x y. x ∷ y) z12 (ap₂ (λ x y. x ∷ y) z13 (ap₂ (λ x y. x ∷ y ∷ []) z14 z15))))))
    bs e h s

pub event_record_written : (bs : List ℕ) → length bs ≡ 16 → All Byte bs → event_sound bs ≡ true → event_bytes (event_record_of bs) ≡ bs
event_record_written bs e h s =
    over 16 (λ bs. All Byte bs → event_sound bs ≡ true → event_bytes (event_record_of bs) ≡ bs)
    (λ b0 b1 b2 b3 b4 b5 b6 b7 b8 b9 b10 b11 b12 b13 b14 b15 h s.
    let whole = b0 ∷ b1 ∷ b2 ∷ b3 ∷ b4 ∷ b5 ∷ b6 ∷ b7 ∷ b8 ∷ b9 ∷ b10 ∷ b11 ∷ b12 ∷ b13 ∷ b14 ∷ b15 ∷ [] in
    let argument = b12 ∷ b13 ∷ b14 ∷ b15 ∷ [] in
    let known = and_parts (is_some (event_of b8 (number argument))) (blank 9 3 whole) s in
    let z = zero_at 9 3 whole known.1 in
    let z9 : 0 ≡ b9 = sym (z 9 (omega arith) (omega arith)) in
    let z10 : 0 ≡ b10 = sym (z 10 (omega arith) (omega arith)) in
    let z11 : 0 ≡ b11 = sym (z 11 (omega arith) (omega arith)) in
    let time = bytes_number (b0 ∷ b1 ∷ b2 ∷ b3 ∷ b4 ∷ b5 ∷ b6 ∷ b7 ∷ []) (All-take Byte 8 whole h) in
    let code = event_written b8 (number argument) known.0 in
    let again = ap (bytes 4) (argument_written b8 (number argument) known.0) ∙ bytes_number argument (All-drop Byte 12 whole h) in
    ap₂ ◌++◌ time (ap₂ (λ x xs. x ∷ xs) code (ap₂ (λ x xs. x ∷ xs) z9 (ap₂ (λ x xs. x ∷ xs) z10 (ap₂ (λ x xs. x ∷ xs) z11 again)))))
    bs e h s

-- what is read from bytes lies within its field
byte_at : (bs : List ℕ) (i : ℕ) → All Byte bs → get_or bs i 0 < 256
byte_at [] i h = omega arith
byte_at (b ∷ bs) zero h = All-head Byte b bs h
byte_at (b ∷ bs) (suc i) h = byte_at bs i (All-tail Byte b bs h)

field_below : (at n : ℕ) (bs : List ℕ) → All Byte bs → field at n bs < 256 ^ n
field_below at n bs h = number_below (take n (drop at bs)) n (All-take Byte n (drop at bs) (All-drop Byte at bs h)) (omega (arith, length-take n (drop at bs)))

argument_below : (c a : ℕ) → event_argument (unwrap_or (event_of c a) Tick) ≤ a
argument_below c a = grind (arith, nat_tests)

pub settings_of_fits : (bs : List ℕ) → All Byte bs → settings_fits (settings_of bs)
settings_of_fits bs h = field_below 0 4 bs h

pub application_of_fits : (bs : List ℕ) → All Byte bs → application_fits (application_of bs)
application_of_fits bs h = (byte_at bs 0 h, field_below 4 4 bs h)

pub request_of_fits : (bs : List ℕ) → All Byte bs → request_fits (request_of bs)
request_of_fits bs h = (field_below 0 8 bs h, field_below 8 2 bs h, byte_at bs 10 h)

pub event_record_of_fits : (bs : List ℕ) → All Byte bs → event_fits (event_record_of bs)
event_record_of_fits bs h = (field_below 0 8 bs h, omega (arith, argument_below (get_or bs 8 0) (field 12 4 bs), field_below 12 4 bs h))

-- All that, of a kind of record: what each lays out in n bytes, what bytes hold, whether they hold a
-- record, and whether each number of a record lies within its field.
pub record Trips {R : Type 0} (n : ℕ) (laid : R → List ℕ) (parsed : List ℕ → R) (sound : List ℕ → Bool) (fits : R → Type 0) : Type 0 where
  pub some : 0 < n
  pub long : (r : R) → length (laid r) ≡ n
  pub held : (r : R) → fits r → sound (laid r) ≡ true
  pub read : (r : R) → fits r → parsed (laid r) ≡ r
  pub written : (bs : List ℕ) → length bs ≡ n → All Byte bs → sound bs ≡ true → laid (parsed bs) ≡ bs
  pub fitting : (bs : List ℕ) → All Byte bs → fits (parsed bs)

pub settings_trips : Trips 8 settings_bytes settings_of settings_sound settings_fits
settings_trips = record { some = lit< tt; long = λ s. refl; held = λ s h. settings_laid s; read = settings_read; written = settings_written; fitting = settings_of_fits }

pub application_trips : Trips 8 application_bytes application_of application_sound application_fits
application_trips = record { some = lit< tt; long = λ a. refl; held = λ a h. application_laid a; read = application_read; written = application_written; fitting = application_of_fits }

pub request_trips : Trips 16 request_bytes request_of request_sound request_fits
request_trips = record { some = lit< tt; long = λ r. refl; held = λ r h. request_laid r; read = request_read; written = request_written; fitting = request_of_fits }

pub event_trips : Trips 16 event_bytes event_record_of event_sound event_fits
event_trips = record { some = lit< tt; long = λ e. refl; held = event_laid; read = event_record_read; written = event_record_written; fitting = event_record_of_fits }
