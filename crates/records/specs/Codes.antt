-- What each code of the file means, and which code each meaning has.
use Rattle.std.specs.Prelude.{ℕ, cond, Some, None, Option, ◌==◌}
use Rattle.records.specs.declared.tables.RuleCode.{RuleCode}
use Rattle.records.specs.declared.tables.RuleCode.TheVariants.{Steady, Feedback}
use Rattle.records.specs.declared.tables.PoolCode.{PoolCode}
use Rattle.records.specs.declared.tables.PoolCode.TheVariants.{FirstCome, CLook}
use Rattle.records.specs.declared.tables.Event.{Event}
use Rattle.records.specs.declared.tables.Event.TheVariants.{Arrival, Dispatch, Completion, Tick}

abbrev pub rule_of : ℕ → Option RuleCode
rule_of c = cond (c == 0) (Some Steady) (cond (c == 1) (Some Feedback) None)

abbrev pub rule_code : RuleCode → ℕ
rule_code Steady = 0
rule_code Feedback = 1

abbrev pub pool_of : ℕ → Option PoolCode
pool_of c = cond (c == 0) (Some FirstCome) (cond (c == 1) (Some CLook) None)

abbrev pub pool_code : PoolCode → ℕ
pool_code FirstCome = 0
pool_code CLook = 1

-- only an arrival has an argument
abbrev pub event_of : ℕ → ℕ → Option Event
event_of c a =
    cond (c == 1) (Some (Arrival a))
    (cond (a == 0) (cond (c == 2) (Some Dispatch) (cond (c == 3) (Some Completion) (cond (c == 4) (Some Tick) None))) None)

abbrev pub event_code : Event → ℕ
event_code (Arrival a) = 1
event_code Dispatch = 2
event_code Completion = 3
event_code Tick = 4

abbrev pub event_argument : Event → ℕ
event_argument (Arrival a) = a
event_argument Dispatch = 0
event_argument Completion = 0
event_argument Tick = 0
