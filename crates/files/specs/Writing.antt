-- What the writer answers, and what it leaves in the buffer.
use Rattle.std.specs.Prelude.{◌≡◌, ℕ, ◌^◌, ◌<◌, ◌≤◌, cond, List, length, Ok, Err, Result, nat_le}
use Rattle.std.specs.List.{All}
use Rattle.fields.specs.Buffers.{put}
use Rattle.records.specs.Faults.{fault, onward}
use Rattle.records.specs.Layouts.{settings_fits, application_fits, request_fits, event_fits}
use Rattle.records.specs.declared.fault.Fault.{Fault}
use Rattle.records.specs.declared.fault.Layer.TheVariants.{Contents as InContents}
use Rattle.records.specs.declared.fault.Cause.TheVariants.{Buffer}
use Rattle.records.specs.declared.tables.Settings.{Settings}
use Rattle.records.specs.declared.tables.ApplicationRecord.{ApplicationRecord}
use Rattle.records.specs.declared.tables.RequestRecord.{RequestRecord}
use Rattle.records.specs.declared.tables.EventRecord.{EventRecord}
use Rattle.bodies.specs.Bodies.{judged}
use Rattle.bodies.specs.Judging.{judge_name}
use Rattle.files.specs.Contents.{events_at, end_of, judge_counts}
use Rattle.files.specs.Reading.{judge_roster, read}
use Rattle.files.specs.Tables.{Tables, bytes_of}
use Rattle.files.specs.Counts.{Counts}

abbrev pub given : Settings → List ApplicationRecord → List RequestRecord → List EventRecord → Tables
given s xs rs es = record { settings = s; applications = xs; requests = rs; events = es }

-- the contents of the file, or the first fault that a reader would find in it
abbrev pub judge_tables : Tables → Result Counts Fault
judge_tables t =
    onward (judge_counts (length t.applications) (length t.requests) (length t.events))
    (λ c. onward (judged (judge_name (events_at c.applications c.requests) c.requests) 0 t.events)
    (λ _. onward (judge_roster t.settings t.applications) (λ _. Ok c)))

-- the length of the file, if the buffer has room for it
abbrev pub write_answer : ℕ → Tables → Result ℕ Fault
write_answer room t =
    onward (judge_tables t) (λ c. cond (nat_le (end_of c) room) (Ok (end_of c)) (Err (fault InContents Buffer 0)))

-- a refused call writes nothing
abbrev pub written : Result ℕ Fault → Tables → List ℕ → List ℕ
written (Ok n) t out = put 0 (bytes_of t) out
written (Err e) t out = out

-- every number lies within its field
pub record Fits (t : Tables) : Type 0 where
  pub settings : settings_fits t.settings
  pub applications : All application_fits t.applications
  pub requests : All request_fits t.requests
  pub events : All event_fits t.events

-- every record count lies within its field, as it does in any file
pub record Countable (t : Tables) : Type 0 where
  pub applications : length t.applications < 2 ^ 32
  pub requests : length t.requests < 2 ^ 32
  pub events : length t.events < 2 ^ 32

-- a reader finds in the file of the tables the fault that the writer finds in them, or the tables
abbrev pub ReadAlike : Tables → Type 0
ReadAlike t = Countable t → Fits t → read (bytes_of t) ≡ onward (judge_tables t) (λ _. Ok t)

-- the tables make those bytes, and the writer takes them wherever there is room
pub record Makes (t : Tables) (bs : List ℕ) : Type 0 where
  pub same : bytes_of t ≡ bs
  pub accepted : (room : ℕ) → length bs ≤ room → write_answer room t ≡ Ok (length bs)
