-- What a scheduler of the program stands for.
use Rattle.std.specs.Prelude.{◌≡◌, ℕ, List}
use Rattle.machine.specs.Machine.{Machine, Rule, Reply, nothing, reply}
use Rattle.machine.specs.declared.event.Event.{Event}
use Rattle.machine.specs.declared.event.Event.TheVariants.{Arrival, Dispatch, Completion, Tick}
use Rattle.pools.specs.Lines.{Choice}
use Rattle.rosters.specs.declared.stamp.Status.{Status}
use Rattle.pools.specs.declared.request.Request.{Request}
use Rattle.stamps.specs.View.{table}
use Rattle.scheduler.specs.declared.desk.Desk.{Desk}
use Rattle.scheduler.specs.declared.scheduler.Scheduler.{Scheduler}
use Rattle.scheduler.specs.declared.token.Dispatched.{Dispatched}
use Rattle.scheduler.specs.Answers.{says}

abbrev pub machine : {P R : Type 0} → (P → List (List Request)) → Scheduler P R → Machine
machine lists s =
    record {
      clock = s.desk.clock;
      head = s.desk.head;
      flight = s.desk.flight;
      until = s.desk.until;
      table = table s.table;
      lists = lists s.pool;
      count = s.desk.count;
      total = s.desk.total;
      hold = s.desk.hold;
    }

-- inside, what is sent is the request itself
abbrev pub means : Dispatched Request → Reply
means d = says (λ r. r) d

-- what was accepted so far has not changed
pub record Same (old new : Desk) : Type 0 where
  pub count : new.count ≡ old.count
  pub total : new.total ≡ old.total

-- what an event is answered with; only a dispatch is
module _ (choice : Choice) (next : Rule) where
  abbrev pub heard : Status → Event → ℕ → Machine → Reply
  heard st Dispatch k m = reply choice next st k m
  heard st Arrival k m = nothing
  heard st (Completion kind) k m = nothing
  heard st Tick k m = nothing
