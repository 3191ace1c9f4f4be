-- What is read from a file: its parts and their tables, or its first fault.
use Rattle.std.specs.Prelude.{ℕ, ◌*◌, ◌/◌, List, map, length, Ok, Result}
use Rattle.records.specs.Faults.{onward}
use Rattle.records.specs.Layouts.{settings_of, application_of, request_of, event_record_of}
use Rattle.records.specs.declared.fault.Fault.{Fault}
use Rattle.records.specs.declared.tables.Settings.{Settings}
use Rattle.records.specs.declared.tables.ApplicationRecord.{ApplicationRecord}
use Rattle.bodies.specs.Bodies.{Verdict, judged, chunks}
use Rattle.bodies.specs.Judging.{judge_settings, judge_application, judge_request, judge_event, judge_hold, judge_member}
use Rattle.files.specs.Contents.{contents, requests_at, events_at}
use Rattle.files.specs.Parts.{Part, part}
use Rattle.files.specs.Tables.{Tables}
use Rattle.files.specs.Counts.{Counts}

-- the bodies, and the settings
pub record Parts : Type 0 where
  pub settings : Settings
  pub settings_body : Part
  pub applications : Part
  pub requests : Part
  pub events : Part

abbrev pub parts : Counts → List ℕ → Parts
parts c bs =
    record {
      settings = settings_of (part 32 8 bs).bytes;
      settings_body = part 32 8 bs;
      applications = part 40 (8 * c.applications) bs;
      requests = part (requests_at c.applications) (16 * c.requests) bs;
      events = part (events_at c.applications c.requests) (16 * c.events) bs;
    }

-- how many records of w bytes a body has, and their bytes
abbrev pub pieces : ℕ → List ℕ → List (List ℕ)
pieces w body = chunks w (length body / w) body

abbrev pub tables : Parts → Tables
tables p =
    record {
      settings = p.settings;
      applications = map application_of (pieces 8 p.applications.bytes);
      requests = map request_of (pieces 16 p.requests.bytes);
      events = map event_record_of (pieces 16 p.events.bytes);
    }

-- the second layer: each record by itself, in the file's order
abbrev pub judge_records : Parts → Verdict
judge_records p =
    onward (judge_settings p.settings_body.bytes)
    (λ _. onward (judged judge_application 0 (pieces 8 p.applications.bytes))
    (λ _. onward (judged (judge_request p.requests.offset) 0 (pieces 16 p.requests.bytes))
    (λ _. judged (judge_event p.events.offset (length p.requests.bytes / 16)) 0 (pieces 16 p.events.bytes))))

-- the third layer: the roster that the records make
abbrev pub judge_roster : Settings → List ApplicationRecord → Verdict
judge_roster s members = onward (judge_hold s) (λ _. judged judge_member 0 members)

abbrev pub opened : List ℕ → Result Parts Fault
opened bs =
    onward (contents bs)
    (λ c. onward (judge_records (parts c bs))
    (λ _. onward (judge_roster (parts c bs).settings (tables (parts c bs)).applications)
    (λ _. Ok (parts c bs))))

-- the tables of a file
abbrev pub read : List ℕ → Result Tables Fault
read bs = onward (opened bs) (λ p. Ok (tables p))
