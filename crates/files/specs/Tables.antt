-- The tables of a trace, and the bytes that they make.
use Rattle.std.specs.Prelude.{ℕ, List, ◌++◌, length}
use Rattle.std.specs.List.{flat_map}
use Rattle.fields.specs.Numbers.{bytes}
use Rattle.records.specs.Layouts.{settings_bytes, application_bytes, request_bytes, event_bytes}
use Rattle.records.specs.declared.tables.Settings.{Settings}
use Rattle.records.specs.declared.tables.ApplicationRecord.{ApplicationRecord}
use Rattle.records.specs.declared.tables.RequestRecord.{RequestRecord}
use Rattle.records.specs.declared.tables.EventRecord.{EventRecord}
use Rattle.files.specs.Contents.{requests_at, events_at}
use Rattle.files.specs.Counts.{Counts, counts}

pub record Tables : Type 0 where
  pub settings : Settings
  pub applications : List ApplicationRecord
  pub requests : List RequestRecord
  pub events : List EventRecord

-- how many records each body has
abbrev pub counts_of : Tables → Counts
counts_of t = counts (length t.applications) (length t.requests) (length t.events)

-- an entry of the contents: where a body begins, and how many records it has
abbrev pub entry_bytes : ℕ → ℕ → List ℕ
entry_bytes offset count = bytes 4 offset ++ bytes 4 count

-- the contents at the file's head
abbrev pub contents_bytes : Counts → List ℕ
contents_bytes c =
    entry_bytes 32 1 ++ (entry_bytes 40 c.applications ++ (entry_bytes (requests_at c.applications) c.requests ++ entry_bytes (events_at c.applications c.requests) c.events))

-- the file
abbrev pub bytes_of : Tables → List ℕ
bytes_of t =
    contents_bytes (counts_of t) ++ (settings_bytes t.settings ++ (flat_map application_bytes t.applications ++ (flat_map request_bytes t.requests ++ flat_map event_bytes t.events)))
