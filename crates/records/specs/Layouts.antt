-- Each kind of record: its bytes, the record that bytes hold, and whether bytes hold one. What a code
-- without a meaning stands for does not matter: such bytes hold no record.
use Rattle.std.specs.Prelude.{ℕ, zero, suc, ◌^◌, ◌<◌, Bool, true, ◌&&◌, List, [], ◌∷◌, ◌++◌, is_some, ◌==◌, slice_index}
use Rattle.fields.specs.Numbers.{bytes, field}
use Rattle.std.specs.Option.{unwrap_or}
use Rattle.pools.specs.Codes.{kind_of, kind_code}
use Rattle.pools.specs.declared.request.Kind.TheVariants.{Asynchronous}
use Rattle.records.specs.Codes.{rule_of, rule_code, pool_of, pool_code, event_of, event_code, event_argument}
use Rattle.records.specs.declared.tables.RuleCode.TheVariants.{Steady}
use Rattle.records.specs.declared.tables.PoolCode.TheVariants.{FirstCome}
use Rattle.records.specs.declared.tables.Event.TheVariants.{Tick}
use Rattle.records.specs.declared.tables.Settings.{Settings}
use Rattle.records.specs.declared.tables.ApplicationRecord.{ApplicationRecord}
use Rattle.records.specs.declared.tables.RequestRecord.{RequestRecord}
use Rattle.records.specs.declared.tables.EventRecord.{EventRecord}

-- the n bytes from at on are zero
abbrev pub blank : ℕ → ℕ → List ℕ → Bool
blank at zero bs = true
blank at (suc n) bs = slice_index bs at == 0 && blank (suc at) n bs

-- settings: 8 bytes
abbrev pub settings_bytes : Settings → List ℕ
settings_bytes s = bytes 4 s.hold ++ (rule_code s.rule ∷ pool_code s.pool ∷ 0 ∷ 0 ∷ [])

abbrev pub settings_of : List ℕ → Settings
settings_of bs = record { hold = field 0 4 bs; rule = unwrap_or (rule_of (slice_index bs 4)) Steady; pool = unwrap_or (pool_of (slice_index bs 5)) FirstCome }

abbrev pub settings_sound : List ℕ → Bool
settings_sound bs = is_some (rule_of (slice_index bs 4)) && (is_some (pool_of (slice_index bs 5)) && blank 6 2 bs)

-- each number lies within its field
abbrev pub settings_fits : Settings → Type 0
settings_fits s = s.hold < 2 ^ 32

-- an application: 8 bytes
abbrev pub application_bytes : ApplicationRecord → List ℕ
application_bytes a = a.weight ∷ 0 ∷ 0 ∷ 0 ∷ bytes 4 a.limit

abbrev pub application_of : List ℕ → ApplicationRecord
application_of bs = record { weight = slice_index bs 0; limit = field 4 4 bs }

abbrev pub application_sound : List ℕ → Bool
application_sound bs = blank 1 3 bs

abbrev pub application_fits : ApplicationRecord → Type 0
application_fits a = (a.weight < 256) × (a.limit < 2 ^ 32)

-- a request: 16 bytes
abbrev pub request_bytes : RequestRecord → List ℕ
request_bytes r = bytes 8 r.first ++ (bytes 2 r.size ++ (r.application ∷ kind_code r.kind ∷ 0 ∷ 0 ∷ 0 ∷ 0 ∷ []))

abbrev pub request_of : List ℕ → RequestRecord
request_of bs = record { first = field 0 8 bs; size = field 8 2 bs; application = slice_index bs 10; kind = unwrap_or (kind_of (slice_index bs 11)) Asynchronous }

abbrev pub request_sound : List ℕ → Bool
request_sound bs = is_some (kind_of (slice_index bs 11)) && blank 12 4 bs

abbrev pub request_fits : RequestRecord → Type 0
request_fits r = (r.first < 2 ^ 64) × (r.size < 2 ^ 16) × (r.application < 256)

-- an event: 16 bytes
abbrev pub event_bytes : EventRecord → List ℕ
event_bytes e = bytes 8 e.time ++ (event_code e.event ∷ 0 ∷ 0 ∷ 0 ∷ bytes 4 (event_argument e.event))

abbrev pub event_record_of : List ℕ → EventRecord
event_record_of bs = record { time = field 0 8 bs; event = unwrap_or (event_of (slice_index bs 8) (field 12 4 bs)) Tick }

abbrev pub event_sound : List ℕ → Bool
event_sound bs = is_some (event_of (slice_index bs 8) (field 12 4 bs)) && blank 9 3 bs

abbrev pub event_fits : EventRecord → Type 0
event_fits e = (e.time < 2 ^ 64) × (event_argument e.event < 2 ^ 32)
