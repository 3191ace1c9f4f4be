-- The numbers of a send are small: a request that is sent was waiting. Assumes nothing.
use Rattle.std.proofs.Common.{◌≡◌, ℕ, ◌+◌, Bool, true, false, cond, List, ◌∷◌, Some, None, Ok, Option, is_some, sym, refl, ap, ◌∙◌, subst, arith}
use Rattle.std.specs.List.{slice_get}
use Rattle.histories.specs.History.{Call, arrival, dispatch, completion, tick, entry}
use Rattle.histories.specs.Promises.{Lawful, Sealed, Run, after, answer, after_call}
use Rattle.histories.proofs.Reachable.{in_bounds, own_entry}
use Rattle.machine.proofs.Flight.{begun_lists, in_time}
use Rattle.machine.specs.Calls.{dispatch_refusal, dispatch_reply, completion_refusal, arrival_refusal, tick_refusal}
use Rattle.machine.specs.Machine.{Machine, Rule, Reply, sends, holds, nothing, beginning, begun, next_of, pick_reply, picking_reply, sent_reply, served_reply, reaches, reply, retired, subject}
use Rattle.machine.specs.declared.refusal.Refusal.{Refusal}
use Rattle.machine.specs.declared.refusal.Refusal.TheVariants.{Busy}
use Rattle.pools.specs.Lines.{Choice, line}
use Rattle.pools.specs.declared.request.Request.{Request}
use Rattle.pools.specs.declared.rule.Reason.TheVariants.{Exhausted}
use Rattle.rosters.specs.Rosters.{LineUp}
use Rattle.rosters.specs.declared.stamp.Status.{Status}
use Rattle.rosters.specs.declared.stamp.Status.TheVariants.{Idle, Queued, Serving}
use Rattle.stamps.specs.Steps.{pick_answer}
use Rattle.stamps.specs.Tables.{row}
use Rattle.listing.specs.Near.{Near, StaysNear, Small}
use Rattle.driver.specs.Runs.{acted, completion_after, completion_outcome, or_refused, outcome, replied, time_of}
use Rattle.driver.specs.declared.command.Command.{Command}
use Rattle.driver.specs.declared.command.Command.TheVariants.{Arrival, Dispatch, Completion, Tick}
use Rattle.driver.specs.declared.command.Answer.{Answer}
use Rattle.driver.specs.declared.command.Answer.TheVariants.{Accepted, Done, Ticked}

-- a request of these lines
abbrev Waits : List (List Request) → Request → Type 0
Waits ls q = (k : ℕ) × ((i : ℕ) × (slice_get (line ls k) i ≡ Some q))

-- a refusal sends nothing
or_small : (time : ℕ) (o : Option Refusal) (a : Answer) → Small time (Ok a) → Small time (or_refused o a)
or_small time None a small = small
or_small time (Some r) a small = tt

module _ (choice : Choice) (next : Rule) where
  -- what a dispatch sends was waiting
  chosen : (k : ℕ) (m : Machine) (q : Request) (o : Option Request) → next_of choice next k m ≡ o → sent_reply choice next o ≡ sends q → Waits m.lists q
  chosen k m q None e s = let z : ◌≡◌ {A = ℕ} 0 1 = cc in absurd (omega arith)
  chosen k m q (Some r) e s = let same : r ≡ q = cc in (k, (choice (line m.lists k) m.head, e ∙ ap Some same))

  picks : (m : Machine) (q : Request) → picking_reply choice next m ≡ sends q → Waits m.lists q
  picks m q e = go (pick_answer m.table) e
    where
      go : (o : Option ℕ) → pick_reply choice next o m ≡ sends q → Waits m.lists q
      go None e = let z : ◌≡◌ {A = ℕ} 0 1 = cc in absurd (omega arith)
      go (Some k) e = chosen k m q (next_of choice next k m) refl e

  serves : (k : ℕ) (m : Machine) (q : Request) → served_reply choice next k (next_of choice next k m) m ≡ sends q → Waits m.lists q
  serves k m q e = go (next_of choice next k m) refl e
    where
      by : (r : Request) (b : Bool) → next_of choice next k m ≡ Some r → cond b (sends r) (picking_reply choice next (retired choice next Exhausted k m)) ≡ sends q → Waits m.lists q
      by r true n e = chosen k m q (Some r) n e
      by r false n e = picks (retired choice next Exhausted k m) q e

      go : (o : Option Request) → next_of choice next k m ≡ o → served_reply choice next k o m ≡ sends q → Waits m.lists q
      go None n e = let z : ◌≡◌ {A = ℕ} 0 1 = cc in absurd (omega arith)
      go (Some r) n e = by r (reaches choice next k r m) n e

  replies : (st : Status) (k : ℕ) (m : Machine) (q : Request) → reply choice next st k m ≡ sends q → Waits m.lists q
  replies Idle k m q e = picks m q e
  replies Queued k m q e = picks m q e
  replies Serving k m q e = serves k m q e

  dispatches : (time : ℕ) (m : Machine) (q : Request) → dispatch_reply choice next time m ≡ sends q → Waits m.lists q
  dispatches time m q e =
      let n = begun choice next time m in
      subst (λ ls. Waits ls q) (begun_lists choice next time m) (replies (row n.table (subject n)).status (subject n) n q e)

  -- so it is no larger than those that wait, and its time is one that is accepted
  pub small : (c : Command) (m : Machine) → Near m → Small (time_of c) (outcome choice next c m)
  small (Arrival time a first size kind) m near = or_small time (arrival_refusal time a first size m) (Accepted (m.count + 1)) tt
  small (Dispatch time) m near = go (dispatch_refusal time m) (dispatch_reply choice next time m) refl refl
    where
      go : (o : Option Refusal) (r : Reply) → dispatch_refusal time m ≡ o → dispatch_reply choice next time m ≡ r → Small time (or_refused o (replied r))
      go (Some r) reply e f = tt
      go None (holds k u) e f = tt
      go None nothing e f = tt
      go None (sends q) e f =
          let w = dispatches time m q f in
          let at = near w.0 w.1.0 q w.1.1 in
          (in_time choice next time m (cond (is_some m.flight) (Some Busy) None) e, at.0, at.1)
  small (Completion time) m near = go m.flight
    where
      go : (o : Option Request) → Small time (completion_outcome o time m)
      go None = tt
      go (Some r) = or_small time (completion_refusal time r m) (Done r.number) tt
  small (Tick time) m near = or_small time (tick_refusal time m) Ticked tt

  -- each command leads to a machine of which the same can be said
  called : (c : Call) (m : Machine) → StaysNear choice next m → StaysNear choice next (after_call choice next c m)
  called c m stays h run =
      let own = own_entry choice next c m in
      subst (λ n. Near (after choice next n h)) own
      (stays (entry c (answer choice next c m) ∷ h) ((λ _. refl), subst (λ n. Run choice next n h) (sym own) run))

  pub stays_near : (c : Command) (m : Machine) → StaysNear choice next m → StaysNear choice next (acted choice next c m)
  stays_near (Arrival time a first size kind) m stays = called (arrival time a first size kind) m stays
  stays_near (Dispatch time) m stays = called (dispatch time) m stays
  stays_near (Completion time) m stays = go m.flight
    where
      go : (o : Option Request) → StaysNear choice next (completion_after choice next o time m)
      go None = stays
      go (Some r) = called (completion time r) m stays
  stays_near (Tick time) m stays = called (tick time) m stays

-- a sealed scheduler begins so
pub near_start : (choice : Choice) (first : ℕ → ℕ) (next : Rule) (r : LineUp) → Lawful choice first next → Sealed r → StaysNear choice next (beginning first r)
near_start choice first next r lawful sealed h run k i q e =
    let m = after choice next (beginning first r) h in
    let proper = (in_bounds choice first next r lawful sealed m (record { history = h; runs = run; ends = refl })).waiting k i q e in
    (omega (arith, proper.end_high), proper.size_high)
