-- The words for what a trace holds, and for what is wrong with one.
use Rattle.std.specs.Prelude.{ℕ, cond, List, ◌++◌, ◌==◌, codes}
use Rattle.std.specs.Fmt.{decimal}
use Rattle.pools.specs.Codes.{kind_name}
use Rattle.records.specs.declared.fault.Cause.{Cause}
use Rattle.records.specs.declared.fault.Cause.TheVariants.{TooShort, Layout, Byte, NoRequest, Hold, Weight, Limit, Buffer}
use Rattle.records.specs.declared.fault.Fault.{Fault}
use Rattle.records.specs.declared.tables.ApplicationRecord.{ApplicationRecord}
use Rattle.records.specs.declared.tables.Event.{Event}
use Rattle.records.specs.declared.tables.Event.TheVariants.{Arrival, Dispatch, Completion, Tick}
use Rattle.records.specs.declared.tables.EventRecord.{EventRecord}
use Rattle.records.specs.declared.tables.PoolCode.{PoolCode}
use Rattle.records.specs.declared.tables.PoolCode.TheVariants.{FirstCome, CLook}
use Rattle.records.specs.declared.tables.RequestRecord.{RequestRecord}
use Rattle.records.specs.declared.tables.RuleCode.{RuleCode}
use Rattle.records.specs.declared.tables.RuleCode.TheVariants.{Steady, Feedback}

-- of a code that has no meaning
abbrev pub unknown_text : ℕ → List ℕ
unknown_text c = codes "the code " ++ decimal c ++ codes " has no meaning"

abbrev pub rule_name : RuleCode → List ℕ
rule_name Steady = codes "steady"
rule_name Feedback = codes "feedback"

abbrev pub pool_name : PoolCode → List ℕ
pool_name FirstCome = codes "first-come"
pool_name CLook = codes "C-LOOK"

abbrev pub event_text : Event → List ℕ
event_text (Arrival a) = codes "arrival of request " ++ decimal a
event_text Dispatch = codes "dispatch"
event_text Completion = codes "completion"
event_text Tick = codes "tick"

-- of each kind of record
abbrev pub application_text : ApplicationRecord → List ℕ
application_text a = codes "weight " ++ decimal a.weight ++ codes ", limit " ++ decimal a.limit

abbrev pub request_text : RequestRecord → List ℕ
request_text r =
    codes "application " ++ decimal r.application ++ codes ", first " ++ decimal r.first ++ codes ", size " ++ decimal r.size ++ codes ", " ++ kind_name r.kind

abbrev pub event_record_text : EventRecord → List ℕ
event_record_text e = codes "time " ++ decimal e.time ++ codes ", " ++ event_text e.event

-- which body is misplaced, or at place 4 the file's end
abbrev pub layout_sentence : ℕ → List ℕ
layout_sentence place =
    cond (place == 0) (codes "The settings do not begin at byte 32, or are not one record.")
    (cond (place == 1) (codes "The applications do not begin where the settings end, or are more than 15.")
    (cond (place == 2) (codes "The requests do not begin where the applications end, or are more than 960.")
    (cond (place == 3) (codes "The events do not begin where the requests end, or are more than 960.")
    (codes "The file does not end with its last event."))))

abbrev pub caused : Cause → ℕ → List ℕ
caused TooShort place = codes "The file ends before its contents do."
caused Layout place = layout_sentence place
caused Byte place = codes "In the record at that byte a code has no meaning, or a byte that must be zero is not."
caused NoRequest place = codes "The arrival at that byte names a request that is not there."
caused Hold place = codes "The hold is not 1 to 1,000,000 ticks."
caused Weight place = codes "The weight of that application is not 1 to 10."
caused Limit place = codes "The limit of that application is not 256 to 65,536 sectors."
caused Buffer place = codes "The buffer is too short for the file."

-- what is wrong
abbrev pub sentence : Fault → List ℕ
sentence f = caused f.number f.place
