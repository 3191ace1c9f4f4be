-- What a file asks for: its pool and its rule, its roster, and a command for each event.
use Rattle.std.specs.Prelude.{ℕ, List, ◌∷◌, map, Some, None, fold, Option}
use Rattle.std.specs.List.{slice_get}
use Rattle.driver.specs.declared.command.Command.{Command}
use Rattle.driver.specs.declared.command.Command.TheVariants as C
use Rattle.files.specs.Tables.{Tables}
use Rattle.machine.specs.Machine.{Rule}
use Rattle.pools.specs.Budgets.{steady_first, steady_next, feedback_first, feedback_next}
use Rattle.pools.specs.Choices.{oldest, next_ahead}
use Rattle.pools.specs.Lines.{Choice}
use Rattle.records.specs.declared.tables.ApplicationRecord.{ApplicationRecord}
use Rattle.records.specs.declared.tables.Event.{Event}
use Rattle.records.specs.declared.tables.Event.TheVariants.{Arrival, Dispatch, Completion, Tick}
use Rattle.records.specs.declared.tables.EventRecord.{EventRecord}
use Rattle.records.specs.declared.tables.PoolCode.{PoolCode}
use Rattle.records.specs.declared.tables.PoolCode.TheVariants.{FirstCome, CLook}
use Rattle.records.specs.declared.tables.RequestRecord.{RequestRecord}
use Rattle.records.specs.declared.tables.RuleCode.{RuleCode}
use Rattle.records.specs.declared.tables.RuleCode.TheVariants.{Steady, Feedback}
use Rattle.rosters.specs.Applications.{application, default_application}
use Rattle.rosters.specs.Rosters.{LineUp, added, fresh, held}
use Rattle.rosters.specs.declared.application.Application.{Application}

-- the pool's choice, and the rule's budgets
abbrev pub choice_of : PoolCode → Choice
choice_of FirstCome = oldest
choice_of CLook = next_ahead

abbrev pub first_budget : RuleCode → ℕ → ℕ
first_budget Steady = steady_first
first_budget Feedback = feedback_first

abbrev pub next_budget : RuleCode → Rule
next_budget Steady = steady_next
next_budget Feedback = feedback_next

-- the roster: application 0, and one for each record
abbrev pub member : ApplicationRecord → Application
member a = application a.weight a.limit

abbrev pub members : List ApplicationRecord → List Application
members xs = default_application ∷ map member xs

abbrev pub roster : Tables → LineUp
roster t = record { applications = members t.applications; hold = t.settings.hold }

-- the same as the calls of a roster make it: of an accepted file none is refused
abbrev pub enroll : LineUp → ApplicationRecord → LineUp
enroll r a = added a.weight a.limit r

abbrev pub enrolled : Tables → LineUp
enrolled t = fold enroll (held t.settings.hold fresh) t.applications

-- an arrival of the request that is named; none is named in vain in an accepted file
abbrev pub arrival : ℕ → Option RequestRecord → Command
arrival time None = C.Tick time
arrival time (Some r) = C.Arrival time r.application r.first r.size r.kind

abbrev pub command_of : List RequestRecord → ℕ → Event → Command
command_of rs time (Arrival i) = arrival time (slice_get rs i)
command_of rs time Dispatch = C.Dispatch time
command_of rs time Completion = C.Completion time
command_of rs time Tick = C.Tick time

abbrev pub command : List RequestRecord → EventRecord → Command
command rs e = command_of rs e.time e.event

abbrev pub commands : Tables → List Command
commands t = map (command t.requests) t.events
