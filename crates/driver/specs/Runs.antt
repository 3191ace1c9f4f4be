-- What a script of calls comes to on the machine.
use Rattle.std.specs.Prelude.{◌≡◌, ℕ, ◌+◌, ◌^◌, ◌≤◌, List, [], ◌∷◌, Some, None, Ok, Err, Option, Result}
use Rattle.histories.specs.History.{Call, arrival, dispatch, completion, tick, History}
use Rattle.histories.specs.Promises.{recorded}
use Rattle.machine.specs.Calls.{arrival_refusal, arrived, dispatch_refusal, dispatched, dispatch_reply, completion_refusal, completed, tick_refusal, ticked}
use Rattle.machine.specs.Machine.{Machine, Rule, Reply, sends, holds, nothing}
use Rattle.machine.specs.Refusals.{number}
use Rattle.machine.specs.declared.refusal.Refusal.{Refusal}
use Rattle.pools.specs.Lines.{Choice}
use Rattle.pools.specs.declared.request.Request.{Request}
use Rattle.scheduler.specs.Answers.{request_of}
use Rattle.scheduler.specs.declared.token.Token.{Token}
use Rattle.driver.specs.declared.command.Command.{Command}
use Rattle.driver.specs.declared.command.Command.TheVariants.{Arrival, Dispatch, Completion, Tick}
use Rattle.driver.specs.declared.command.Answer.{Answer}
use Rattle.driver.specs.declared.command.Answer.TheVariants.{Accepted, Sent, Held, Nothing, Done, Ticked}
use Rattle.driver.specs.declared.command.Refused.{Refused}
use Rattle.driver.specs.declared.command.Refused.TheVariants as F

-- the time that a command brings
abbrev pub time_of : Command → ℕ
time_of (Arrival time a first size kind) = time
time_of (Dispatch time) = time
time_of (Completion time) = time
time_of (Tick time) = time

-- the number by which the outside knows why a command was refused
abbrev pub refused_number : Refused → ℕ
refused_number (F.Call r) = number r
refused_number F.NoToken = 17

-- a call is refused, or comes to something
abbrev pub or_refused : Option Refusal → Answer → Result Answer Refused
or_refused None a = Ok a
or_refused (Some r) a = Err (F.Call r)

abbrev pub replied : Reply → Answer
replied (sends r) = Sent r
replied (holds k u) = Held k u
replied nothing = Nothing

-- a completion where nothing is in flight is refused, and calls nothing
abbrev pub completion_outcome : Option Request → ℕ → Machine → Result Answer Refused
completion_outcome None time m = Err F.NoToken
completion_outcome (Some r) time m = or_refused (completion_refusal time r m) (Done r.number)

abbrev pub completion_after : Choice → Rule → Option Request → ℕ → Machine → Machine
completion_after choice next None time m = m
completion_after choice next (Some r) time m = completed choice next time r m

module _ (choice : Choice) (next : Rule) where
  -- what a command comes to
  abbrev pub outcome : Command → Machine → Result Answer Refused
  outcome (Arrival time a first size kind) m = or_refused (arrival_refusal time a first size m) (Accepted (m.count + 1))
  outcome (Dispatch time) m = or_refused (dispatch_refusal time m) (replied (dispatch_reply choice next time m))
  outcome (Completion time) m = completion_outcome m.flight time m
  outcome (Tick time) m = or_refused (tick_refusal time m) Ticked

  -- and what it leaves
  abbrev pub acted : Command → Machine → Machine
  acted (Arrival time a first size kind) m = arrived choice next time a first size kind m
  acted (Dispatch time) m = dispatched choice next time m
  acted (Completion time) m = completion_after choice next m.flight time m
  acted (Tick time) m = ticked choice next time m

  -- the outcomes of a script, one after another
  abbrev pub outcomes_of : List Command → Machine → List (Result Answer Refused)
  outcomes_of [] m = []
  outcomes_of (c ∷ cs) m = outcome c m ∷ outcomes_of cs (acted c m)

-- The calls that a script makes, with what they bring: a completion brings the token of the request in
-- flight, and is no call where there is none.
abbrev pub completes : Option Request → ℕ → List Call → List Call
completes None time cs = cs
completes (Some r) time cs = completion time r ∷ cs

module _ (choice : Choice) (next : Rule) where
  abbrev pub calls_of : List Command → Machine → List Call
  calls_of [] m = []
  calls_of (Arrival time a first size kind ∷ cs) m = arrival time a first size kind ∷ calls_of cs (acted choice next (Arrival time a first size kind) m)
  calls_of (Dispatch time ∷ cs) m = dispatch time ∷ calls_of cs (acted choice next (Dispatch time) m)
  calls_of (Completion time ∷ cs) m = completes m.flight time (calls_of cs (acted choice next (Completion time) m))
  calls_of (Tick time ∷ cs) m = tick time ∷ calls_of cs (acted choice next (Tick time) m)

  -- the history that a script makes
  abbrev pub history : List Command → Machine → History
  history cs m = recorded choice next m (calls_of cs m)

-- what is in flight by the token that is held
abbrev pub parts : Option Token → Option Request
parts None = None
parts (Some t) = Some (request_of t)

abbrev pub none_held : Option Token
none_held = None

-- the token held is that of the request in flight, and the clock is a time that calls may have
pub record Holding (m : Machine) (token : Option Token) : Type 0 where
  pub clock : m.clock ≤ 2 ^ 40
  pub flight : m.flight ≡ parts token
