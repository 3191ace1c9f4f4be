-- The machine: its state, and what the events of an accepted call make of it. It is the same for every
-- pool and every budget rule, which it knows only by the pool's choice and the rule's next budget.
use Rattle.std.specs.Prelude.{ℕ, ◌+◌, ◌-◌, ◌^◌, min, Bool, cond, List, map, length, Some, None, Option, nat_le, nat_lt}
use Rattle.rosters.specs.Rosters.{LineUp}
use Rattle.rosters.specs.declared.stamp.Stamp.{Stamp}
use Rattle.rosters.specs.declared.stamp.Status.{Status}
use Rattle.rosters.specs.declared.stamp.Status.TheVariants.{Idle, Queued, Serving}
use Rattle.stamps.specs.Rows.{with_budget}
use Rattle.stamps.specs.Tables.{Table, row}
use Rattle.stamps.specs.Steps.{initial, woken, pick_answer, picked, charged, requeued, rested}
use Rattle.pools.specs.Lines.{Choice, empty_lists, line, shown, taken_lists}
use Rattle.pools.specs.declared.request.Kind.{Kind}
use Rattle.pools.specs.declared.request.Kind.TheVariants.{Asynchronous, Synchronous}
use Rattle.pools.specs.declared.request.Request.{Request}
use Rattle.pools.specs.declared.rule.Reason.{Reason}
use Rattle.pools.specs.declared.rule.Reason.TheVariants.{Exhausted, HoldRanOut, RanDry}
use Rattle.machine.specs.declared.event.Event.{Event}
use Rattle.machine.specs.declared.event.Event.TheVariants.{Arrival, Dispatch, Completion, Tick}

pub record Machine : Type 0 where
  -- the time of the last accepted call
  pub clock : ℕ
  -- where the disk's head stands: behind the last sector sent
  pub head : ℕ
  -- the request at the disk, if there is one
  pub flight : Option Request
  -- until when the disk is held for the application that serves, if it is held
  pub until : Option ℕ
  pub table : Table
  -- for each application its waiting requests
  pub lists : List (List Request)
  -- how many requests were accepted, and the sum of their sizes
  pub count : ℕ
  pub total : ℕ
  -- H, how long a hold lasts
  pub hold : ℕ

-- the budget that a rule gives next: by the limit, the budget that is over, how much of it was served, and why it ended
abbrev pub Rule : Type 0
Rule = ℕ → ℕ → ℕ → Reason → ℕ

abbrev pub with_table : Table → Machine → Machine
with_table t m = record m { table = t }

abbrev pub with_until : Option ℕ → Machine → Machine
with_until u m = record m { until = u }

abbrev pub with_clock : ℕ → Machine → Machine
with_clock t m = record m { clock = t }

abbrev pub with_flight : Option Request → Machine → Machine
with_flight f m = record m { flight = f }

-- a request of application k waits
abbrev pub waits : ℕ → Machine → Bool
waits k m = nat_lt 0 (length (line m.lists k))

-- The sector just behind a request. Positions are 64-bit numbers; no request that is accepted ends above
-- 2^40, so it is first + size.
abbrev pub behind : Request → ℕ
behind r = min (r.first + r.size) (2 ^ 64 - 1)

-- what a dispatch answers
pub data Reply : Type 0 where
  sends : Request → Reply
  holds : ℕ → ℕ → Reply
  nothing : Reply

-- All begins at 0 and idle, with nothing waiting, and each budget as the rule's first.
abbrev pub beginning : (ℕ → ℕ) → LineUp → Machine
beginning first r =
    record {
      clock = 0;
      head = 0;
      flight = None;
      until = None;
      table = record { virtual = 0; sent = 0; serving = None; stamps = map (λ s. with_budget (first s.limit) s) (initial r).stamps };
      lists = empty_lists;
      count = 0;
      total = 0;
      hold = r.hold;
    }

module _ (choice : Choice) (next : Rule) where
  -- retire: the turn of k is over. It gets its next budget, and is queued again if anything of it waits.
  abbrev pub next_budget : Reason → Stamp → ℕ
  next_budget why s = next s.limit s.budget s.served why

  abbrev pub retired : Reason → ℕ → Machine → Machine
  retired why k m =
      let b = next_budget why (row m.table k) in
      with_until None (with_table (cond (waits k m) (requeued b m.table) (rested b m.table)) m)

  -- the first step of an accepted call: the clock is set, and a hold that has run out ends the turn
  abbrev pub retired_serving : Reason → Option ℕ → Machine → Machine
  retired_serving why None m = m
  retired_serving why (Some k) m = retired why k m

  abbrev pub lapsed : Option ℕ → ℕ → Machine → Machine
  lapsed None time m = m
  lapsed (Some u) time m = cond (nat_le u time) (retired_serving HoldRanOut m.table.serving m) m

  abbrev pub begun : ℕ → Machine → Machine
  begun time m = lapsed m.until time (with_clock time m)

  -- send: the request goes to the disk
  abbrev pub sent : ℕ → Request → Machine → Machine
  sent k r m = record m { head = behind r; flight = Some r; table = charged r.size m.table; lists = taken_lists choice m.lists k m.head }

  abbrev pub next_of : ℕ → Machine → Option Request
  next_of k m = shown choice m.lists k m.head

  -- pick: nobody serves; the application that is picked sends
  abbrev pub sent_by : ℕ → Option Request → Machine → Machine
  sent_by k None m = m
  sent_by k (Some r) m = sent k r m

  abbrev pub sent_reply : Option Request → Reply
  sent_reply None = nothing
  sent_reply (Some r) = sends r

  abbrev pub after_pick : Option ℕ → Machine → Machine
  after_pick None m = m
  after_pick (Some k) m = sent_by k (next_of k m) (with_table (picked m.table) m)

  abbrev pub pick_reply : Option ℕ → Machine → Reply
  pick_reply None m = nothing
  pick_reply (Some k) m = sent_reply (next_of k m)

  abbrev pub picking : Machine → Machine
  picking m = after_pick (pick_answer m.table) m

  abbrev pub picking_reply : Machine → Reply
  picking_reply m = pick_reply (pick_answer m.table) m

  -- dispatch while k serves: its chosen request is sent if the budget reaches; else its turn is over, and
  -- another is picked. If nothing of it waits, the disk is held for it.
  abbrev pub reaches : ℕ → Request → Machine → Bool
  reaches k r m = nat_le ((row m.table k).served + r.size) (row m.table k).budget

  abbrev pub until_time : Option ℕ → ℕ
  until_time None = 0
  until_time (Some u) = u

  abbrev pub served_by : ℕ → Option Request → Machine → Machine
  served_by k None m = m
  served_by k (Some r) m = cond (reaches k r m) (sent k r m) (picking (retired Exhausted k m))

  abbrev pub served_reply : ℕ → Option Request → Machine → Reply
  served_reply k None m = holds k (until_time m.until)
  served_reply k (Some r) m = cond (reaches k r m) (sends r) (picking_reply (retired Exhausted k m))

  -- completion while k serves: if nothing of it waits, the disk is held for it after a synchronous request,
  -- and its turn is over after an asynchronous one
  abbrev pub finished : ℕ → Kind → Machine → Machine
  finished k Synchronous m = cond (waits k m) m (with_until (Some (m.clock + m.hold)) m)
  finished k Asynchronous m = cond (waits k m) m (retired RanDry k m)

  -- What an event does to application k, by its status. A dispatch that finds k not serving finds nobody
  -- serving.
  abbrev pub reacted : Status → Event → ℕ → Machine → Machine
  reacted Idle Arrival k m = with_table (woken k m.table) m
  reacted Queued Arrival k m = m
  reacted Serving Arrival k m = with_until None m
  reacted Idle Dispatch k m = picking m
  reacted Queued Dispatch k m = picking m
  reacted Serving Dispatch k m = served_by k (next_of k m) m
  reacted Idle (Completion kind) k m = m
  reacted Queued (Completion kind) k m = m
  reacted Serving (Completion kind) k m = finished k kind m
  reacted Idle Tick k m = m
  reacted Queued Tick k m = m
  reacted Serving Tick k m = m

  abbrev pub reply : Status → ℕ → Machine → Reply
  reply Idle k m = picking_reply m
  reply Queued k m = picking_reply m
  reply Serving k m = served_reply k (next_of k m) m

  abbrev pub event : Event → ℕ → Machine → Machine
  event e k m = reacted (row m.table k).status e k m

-- who sees a dispatch, a completion or a tick: the application that serves, or 0 where nobody does
abbrev pub subject_of : Option ℕ → ℕ
subject_of None = 0
subject_of (Some k) = k

abbrev pub subject : Machine → ℕ
subject m = subject_of m.table.serving
