-- What each call leaves of the flight and of the clock. Assumes nothing.
use Rattle.std.proofs.Common.{◌≡◌, ℕ, ◌^◌, ◌≤◌, Bool, true, false, cond, ltb, leb, Some, None, Option, sym, refl, ap, ◌∙◌, arith}
use Rattle.std.proofs.lemmas.Bool.{or_parts, ltb-false}
use Rattle.rosters.specs.declared.stamp.Status.{Status}
use Rattle.rosters.specs.declared.stamp.Status.TheVariants.{Idle, Queued, Serving}
use Rattle.stamps.specs.Tables.{Table, row}
use Rattle.stamps.specs.Steps.{pick_answer, picked}
use Rattle.pools.specs.Lines.{Choice}
use Rattle.pools.specs.declared.request.Kind.{Kind}
use Rattle.pools.specs.declared.request.Kind.TheVariants.{Asynchronous, Synchronous}
use Rattle.pools.specs.declared.request.Request.{Request}
use Rattle.pools.specs.declared.rule.Reason.{Reason}
use Rattle.pools.specs.declared.rule.Reason.TheVariants.{Exhausted, HoldRanOut, RanDry}
use Rattle.machine.specs.Machine.{Machine, Rule, Reply, sends, holds, nothing, with_table, with_clock, with_until, retired, retired_serving, lapsed, begun, next_of, sent, sent_by, sent_reply, after_pick, pick_reply, picking, picking_reply, reaches, served_by, served_reply, waits, finished, reacted, reply, event, subject}
use Rattle.machine.specs.Calls.{arrived, dispatched, dispatch_reply, completed, ticked, landed, joined, request, unless, arrival_refusal, dispatch_refusal, completion_refusal, tick_refusal, out_of_time}
use Rattle.machine.specs.declared.event.Event.TheVariants.{Arrival, Dispatch, Completion, Tick}
use Rattle.machine.specs.declared.refusal.Refusal.{Refusal}
use Rattle.machine.specs.declared.refusal.Refusal.TheVariants.{Time}

-- a dispatch puts what it sends in flight
abbrev pub flight_by : Reply → Option Request → Option Request
flight_by (sends r) f = Some r
flight_by (holds k u) f = f
flight_by nothing f = f

module _ (choice : Choice) (next : Rule) where
  -- A part of the machine that neither its table nor its hold is part of: the events leave it, but for a send.
  module _ {X : Type 0} (part : Machine → X) (no_table : (t : Table) (m : Machine) → part (with_table t m) ≡ part m) (no_until : (u : Option ℕ) (m : Machine) → part (with_until u m) ≡ part m) where
    either_kept : (b : Bool) (x y : Machine) (p : X) → part x ≡ p → part y ≡ p → part (cond b x y) ≡ p
    either_kept true x y p e f = e
    either_kept false x y p e f = f

    retired_kept : (why : Reason) (k : ℕ) (m : Machine) → part (retired choice next why k m) ≡ part m
    retired_kept why k m = no_until None _ ∙ no_table _ m

    lapsed_kept : (u : Option ℕ) (time : ℕ) (m : Machine) → part (lapsed choice next u time m) ≡ part m
    lapsed_kept None time m = refl
    lapsed_kept (Some u) time m = either_kept (leb u time) _ m (part m) (go m.table.serving) refl
      where
        go : (o : Option ℕ) → part (retired_serving choice next HoldRanOut o m) ≡ part m
        go None = refl
        go (Some k) = retired_kept HoldRanOut k m

    arrival_kept : (st : Status) (k : ℕ) (m : Machine) → part (reacted choice next st Arrival k m) ≡ part m
    arrival_kept Idle k m = no_table _ m
    arrival_kept Queued k m = refl
    arrival_kept Serving k m = no_until None m

    finished_kept : (k : ℕ) (kind : Kind) (m : Machine) → part (finished choice next k kind m) ≡ part m
    finished_kept k Synchronous m = either_kept (waits k m) m _ (part m) refl (no_until _ m)
    finished_kept k Asynchronous m = either_kept (waits k m) m _ (part m) refl (retired_kept RanDry k m)

    completion_kept : (st : Status) (kind : Kind) (k : ℕ) (m : Machine) → part (reacted choice next st (Completion kind) k m) ≡ part m
    completion_kept Idle kind k m = refl
    completion_kept Queued kind k m = refl
    completion_kept Serving kind k m = finished_kept k kind m

    tick_kept : (st : Status) (k : ℕ) (m : Machine) → part (reacted choice next st Tick k m) ≡ part m
    tick_kept Idle k m = refl
    tick_kept Queued k m = refl
    tick_kept Serving k m = refl

    -- what a dispatch makes of it, where by says what a send makes of it
    module _ (by : Reply → X → X) (none : (x : X) → by nothing x ≡ x) (hold : (k u : ℕ) (x : X) → by (holds k u) x ≡ x) (send : (k : ℕ) (r : Request) (m : Machine) → part (sent choice next k r m) ≡ by (sends r) (part m)) where
      picking_kept : (m : Machine) → part (picking choice next m) ≡ by (picking_reply choice next m) (part m)
      picking_kept m = go (pick_answer m.table)
        where
          chosen : (k : ℕ) (o : Option Request) → part (sent_by choice next k o (with_table (picked m.table) m)) ≡ by (sent_reply choice next o) (part m)
          chosen k None = no_table _ m ∙ sym (none (part m))
          chosen k (Some r) = send k r (with_table (picked m.table) m) ∙ ap (by (sends r)) (no_table _ m)

          go : (o : Option ℕ) → part (after_pick choice next o m) ≡ by (pick_reply choice next o m) (part m)
          go None = sym (none (part m))
          go (Some k) = chosen k (next_of choice next k m)

      served_kept : (k : ℕ) (o : Option Request) (m : Machine) → part (served_by choice next k o m) ≡ by (served_reply choice next k o m) (part m)
      served_kept k None m = sym (hold k _ (part m))
      served_kept k (Some r) m = go (reaches choice next k r m)
        where
          go : (b : Bool) → part (cond b (sent choice next k r m) (picking choice next (retired choice next Exhausted k m))) ≡ by (cond b (sends r) (picking_reply choice next (retired choice next Exhausted k m))) (part m)
          go true = send k r m
          go false = picking_kept (retired choice next Exhausted k m) ∙ ap (by (picking_reply choice next (retired choice next Exhausted k m))) (retired_kept Exhausted k m)

      dispatch_kept : (st : Status) (k : ℕ) (m : Machine) → part (reacted choice next st Dispatch k m) ≡ by (reply choice next st k m) (part m)
      dispatch_kept Idle k m = picking_kept m
      dispatch_kept Queued k m = picking_kept m
      dispatch_kept Serving k m = served_kept k (next_of choice next k m) m

  unless_kept : {X : Type 0} (part : Machine → X) (o : Option Refusal) (new old : Machine) (p : X) → part new ≡ p → part old ≡ p → part (unless o new old) ≡ p
  unless_kept part None new old p e f = e
  unless_kept part (Some r) new old p e f = f

  -- The flight.
  abbrev flight : Machine → Option Request
  flight m = m.flight

  begun_flight : (time : ℕ) (m : Machine) → (begun choice next time m).flight ≡ m.flight
  begun_flight time m = lapsed_kept flight (λ t m. refl) (λ u m. refl) m.until time (with_clock time m)

  -- an arrival and a tick leave it, accepted or not
  pub arrived_flight : (time a first size : ℕ) (kind : Kind) (m : Machine) → (arrived choice next time a first size kind m).flight ≡ m.flight
  arrived_flight time a first size kind m =
      unless_kept flight (arrival_refusal time a first size m) _ m m.flight
      (arrival_kept flight (λ t m. refl) (λ u m. refl) (row (begun choice next time m).table a).status a (joined (request a first size kind m) (begun choice next time m)) ∙ begun_flight time m) refl

  pub ticked_flight : (time : ℕ) (m : Machine) → (ticked choice next time m).flight ≡ m.flight
  ticked_flight time m =
      let n = begun choice next time m in
      unless_kept flight (tick_refusal time m) _ m m.flight (tick_kept flight (λ t m. refl) (λ u m. refl) (row n.table (subject n)).status (subject n) n ∙ begun_flight time m) refl

  -- an accepted dispatch puts what it sends there, and an accepted completion leaves nothing there
  pub dispatched_flight : (time : ℕ) (m : Machine) → dispatch_refusal time m ≡ None → (dispatched choice next time m).flight ≡ flight_by (dispatch_reply choice next time m) m.flight
  dispatched_flight time m e =
      let n = begun choice next time m in
      ap (λ o. (unless o (event choice next Dispatch (subject n) n) m).flight) e
      ∙ dispatch_kept flight (λ t m. refl) (λ u m. refl) flight_by (λ x. refl) (λ k u x. refl) (λ k r m. refl) (row n.table (subject n)).status (subject n) n
      ∙ ap (flight_by (dispatch_reply choice next time m)) (begun_flight time m)

  pub completed_flight : (time : ℕ) (token : Request) (m : Machine) → completion_refusal time token m ≡ None → (completed choice next time token m).flight ≡ None
  completed_flight time token m e =
      let n = landed choice next time m in
      ap (λ o. (unless o (event choice next (Completion token.kind) (subject n) n) m).flight) e
      ∙ completion_kept flight (λ t m. refl) (λ u m. refl) (row n.table (subject n)).status token.kind (subject n) n

  -- The waiting requests: the first step of a call leaves them.
  pub begun_lists : (time : ℕ) (m : Machine) → (begun choice next time m).lists ≡ m.lists
  begun_lists time m = lapsed_kept (λ m. m.lists) (λ t m. refl) (λ u m. refl) m.until time (with_clock time m)

  -- The clock: no call takes it past 2^40.
  abbrev clock : Machine → ℕ
  clock m = m.clock

  begun_clock : (time : ℕ) (m : Machine) → (begun choice next time m).clock ≡ time
  begun_clock time m = lapsed_kept clock (λ t m. refl) (λ u m. refl) m.until time (with_clock time m)

  -- an accepted call is not out of time
  pub in_time : (time : ℕ) (m : Machine) (others : Option Refusal) → cond (out_of_time time m) (Some Time) others ≡ None → time ≤ 2 ^ 40
  in_time time m others e = go (out_of_time time m) refl e
    where
      go : (b : Bool) → out_of_time time m ≡ b → cond b (Some Time) others ≡ None → time ≤ 2 ^ 40
      go true q e = absurd cc
      go false q e = ltb-false (2 ^ 40) time (or_parts (ltb time m.clock) (ltb (2 ^ 40) time) q).1

  clock_most : (o : Option Refusal) (time : ℕ) (new old : Machine) → (o ≡ None → time ≤ 2 ^ 40) → new.clock ≡ time → old.clock ≤ 2 ^ 40 → (unless o new old).clock ≤ 2 ^ 40
  clock_most None time new old h e l = rw e (h refl)
  clock_most (Some r) time new old h e l = l

  pub arrived_clock : (time a first size : ℕ) (kind : Kind) (m : Machine) → m.clock ≤ 2 ^ 40 → (arrived choice next time a first size kind m).clock ≤ 2 ^ 40
  arrived_clock time a first size kind m =
      clock_most (arrival_refusal time a first size m) time _ m (in_time time m _)
      (arrival_kept clock (λ t m. refl) (λ u m. refl) (row (begun choice next time m).table a).status a (joined (request a first size kind m) (begun choice next time m)) ∙ begun_clock time m)

  pub ticked_clock : (time : ℕ) (m : Machine) → m.clock ≤ 2 ^ 40 → (ticked choice next time m).clock ≤ 2 ^ 40
  ticked_clock time m =
      let n = begun choice next time m in
      clock_most (tick_refusal time m) time _ m (in_time time m _) (tick_kept clock (λ t m. refl) (λ u m. refl) (row n.table (subject n)).status (subject n) n ∙ begun_clock time m)

  pub dispatched_clock : (time : ℕ) (m : Machine) → m.clock ≤ 2 ^ 40 → (dispatched choice next time m).clock ≤ 2 ^ 40
  dispatched_clock time m =
      let n = begun choice next time m in
      clock_most (dispatch_refusal time m) time _ m (in_time time m _)
      (dispatch_kept clock (λ t m. refl) (λ u m. refl) (λ r x. x) (λ x. refl) (λ k u x. refl) (λ k r m. refl) (row n.table (subject n)).status (subject n) n ∙ begun_clock time m)

  pub completed_clock : (time : ℕ) (token : Request) (m : Machine) → m.clock ≤ 2 ^ 40 → (completed choice next time token m).clock ≤ 2 ^ 40
  completed_clock time token m =
      let n = landed choice next time m in
      clock_most (completion_refusal time token m) time _ m (in_time time m _)
      (completion_kept clock (λ t m. refl) (λ u m. refl) (row n.table (subject n)).status token.kind (subject n) n ∙ begun_clock time m)
