-- What is asked of each kind of record.
use Rattle.std.specs.Prelude.{ℕ, suc, ◌+◌, ◌*◌, Bool, true, cond, ◌&&◌, List, Ok, Err, nat_le, nat_lt}
use Rattle.records.specs.Faults.{fault, onward}
use Rattle.records.specs.Layouts.{settings_sound, application_sound, application_of, request_sound, event_sound, event_record_of}
use Rattle.records.specs.declared.fault.Layer.TheVariants.{Records, Roster}
use Rattle.records.specs.declared.fault.Cause.TheVariants.{Byte, NoRequest, Hold, Weight, Limit}
use Rattle.records.specs.declared.tables.ApplicationRecord.{ApplicationRecord}
use Rattle.records.specs.declared.tables.Event.{Event}
use Rattle.records.specs.declared.tables.Event.TheVariants.{Arrival, Dispatch, Completion, Tick}
use Rattle.records.specs.declared.tables.EventRecord.{EventRecord}
use Rattle.records.specs.declared.tables.Settings.{Settings}
use Rattle.bodies.specs.Bodies.{Verdict}

-- bytes that hold a record, or the fault of the record at that place
abbrev pub at_least_sound : Bool → ℕ → Verdict
at_least_sound sound place = cond sound (Ok tt) (Err (fault Records Byte place))

abbrev pub judge_settings : List ℕ → Verdict
judge_settings bs = at_least_sound (settings_sound bs) 32

-- the application records begin at byte 40
abbrev pub judge_application : ℕ → List ℕ → Verdict
judge_application i bs = at_least_sound (application_sound bs) (40 + 8 * i)

abbrev pub judge_request : ℕ → ℕ → List ℕ → Verdict
judge_request first i bs = at_least_sound (request_sound bs) (first + 16 * i)

-- an event names one of n requests, if it names any
abbrev pub names_one : ℕ → Event → Bool
names_one n (Arrival a) = nat_lt a n
names_one n Dispatch = true
names_one n Completion = true
names_one n Tick = true

abbrev pub judge_name : ℕ → ℕ → ℕ → EventRecord → Verdict
judge_name first n i e = cond (names_one n e.event) (Ok tt) (Err (fault Records NoRequest (first + 16 * i)))

abbrev pub judge_event : ℕ → ℕ → ℕ → List ℕ → Verdict
judge_event first n i bs = onward (at_least_sound (event_sound bs) (first + 16 * i)) (λ _. judge_name first n i (event_record_of bs))

-- the roster: the hold, then each application, from number 1
abbrev pub between : ℕ → ℕ → ℕ → Bool
between low high x = nat_le low x && nat_le x high

abbrev pub judge_hold : Settings → Verdict
judge_hold s = cond (between 1 1000000 s.hold) (Ok tt) (Err (fault Roster Hold 0))

abbrev pub judge_member : ℕ → ApplicationRecord → Verdict
judge_member i a =
    cond (between 1 10 a.weight) (cond (between 256 65536 a.limit) (Ok tt) (Err (fault Roster Limit (suc i))))
    (Err (fault Roster Weight (suc i)))

abbrev pub judge_member_bytes : ℕ → List ℕ → Verdict
judge_member_bytes i bs = judge_member i (application_of bs)
