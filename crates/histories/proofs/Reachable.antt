-- Every call leads from a machine that can be reached to another, and so each keeps within its bounds.
use Rattle.std.proofs.Common.{◌≡◌, ℕ, ◌+◌, true, false, cond, List, [], ◌∷◌, ◌++◌, length, is_some, Some, None, Option, sym, refl, ap, ◌∙◌, subst, arith}
use Rattle.std.specs.List.{slice_get}
use Rattle.rosters.specs.Rosters.{LineUp}
use Rattle.rosters.specs.declared.stamp.Status.{Status}
use Rattle.rosters.specs.declared.stamp.Status.TheVariants.{Idle, Queued, Serving}
use Rattle.stamps.specs.Tables.{row}
use Rattle.pools.specs.Lines.{Choice, line}
use Rattle.pools.specs.declared.request.Kind.{Kind}
use Rattle.pools.specs.declared.request.Request.{Request}
use Rattle.machine.specs.Machine as machine
use Rattle.machine.specs.Machine.{Machine, Rule, beginning, begun, reacted, subject}
use Rattle.machine.specs.Calls as calls
use Rattle.machine.specs.Calls.{unless, out_of_time, arrived, dispatched, completed, ticked}
use Rattle.machine.specs.declared.event.Event.TheVariants.{Tick}
use Rattle.machine.specs.declared.refusal.Refusal.{Refusal}
use Rattle.machine.specs.declared.refusal.Refusal.TheVariants.{Time}
use Rattle.histories.specs.History as history
use Rattle.histories.specs.History.{Call, arrival, dispatch, completion, tick, Answer, is_accepted, entry, History, unknown, known, completed_last, head}
use Rattle.histories.specs.Promises.{Lawful, Sealed, answered, replied, answer, after_call, after_entry, Run, after, recorded}
use Rattle.histories.specs.Reachable.{Reachable, InBounds}
use Rattle.histories.proofs.Requests.{all_nth}
use Rattle.histories.proofs.Invariant.{Fine, Disk, vacant, working, ready, held, Inv}
use Rattle.histories.proofs.Start.{start_inv}
use Rattle.histories.proofs.Whole.{inv_after}

reply_accepted : (reply : machine.Reply) → is_accepted (replied reply) ≡ true
reply_accepted (machine.sends q) = refl
reply_accepted (machine.holds k u) = refl
reply_accepted machine.nothing = refl

module _ (choice : Choice) (next : Rule) where
  -- an entry with the machine's own answer leaves what the call leaves
  pub own_entry : (c : Call) (m : Machine) → after_entry choice next m (entry c (answer choice next c m)) ≡ after_call choice next c m
  own_entry c m = by c
    where
      go : (o : Option Refusal) (a : Answer) (m' : Machine) → is_accepted a ≡ true → cond (is_accepted (answered o a)) (unless o m' m) m ≡ unless o m' m
      go None a m' h = ap (λ b. cond b m' m) h
      go (Some why) a m' h = refl

      by : (c : Call) → after_entry choice next m (entry c (answer choice next c m)) ≡ after_call choice next c m
      by (arrival time a from size kind) = go (calls.arrival_refusal time a from size m) (history.accepted (m.count + 1)) _ refl
      by (dispatch time) = go (calls.dispatch_refusal time m) (replied (calls.dispatch_reply choice next time m)) _ (reply_accepted (calls.dispatch_reply choice next time m))
      by (completion time token) = go (calls.completion_refusal time token m) (history.done token.number) _ refl
      by (tick time) = go (calls.tick_refusal time m) history.ticked _ refl

  -- calls with the machine's own answers are a run
  pub recorded_runs : (m : Machine) (cs : List Call) → Run choice next m (recorded choice next m cs)
  recorded_runs m [] = tt
  recorded_runs m (c ∷ cs) = (λ _. refl, subst (λ m'. Run choice next m' (recorded choice next (after_call choice next c m) cs)) (sym (own_entry c m)) (recorded_runs (after_call choice next c m) cs))

  run_push : (m : Machine) (h : History) (c : Call) → Run choice next m h → Run choice next m (h ++ (entry c (answer choice next c (after choice next m h)) ∷ []))
  run_push m [] c run = ((λ _. refl), tt)
  run_push m (e ∷ h) c run = (run.0, run_push (after_entry choice next m e) h c run.1)

  after_push : (m : Machine) (h : History) (c : Call) → after choice next m (h ++ (entry c (answer choice next c (after choice next m h)) ∷ [])) ≡ after_call choice next c (after choice next m h)
  after_push m [] c = own_entry c m
  after_push m (e ∷ h) c = after_push (after_entry choice next m e) h c

module _ (choice : Choice) (first : ℕ → ℕ) (next : Rule) (r : LineUp) where
  pub reachable_start : Reachable choice first next r (beginning first r)
  reachable_start = record { history = []; runs = tt; ends = refl }

  pub reachable_call : (m : Machine) (c : Call) → Reachable choice first next r m → Reachable choice first next r (after_call choice next c m)
  reachable_call m c reach =
      let m₀ = beginning first r in
      let h = reach.history in
      record {
        history = h ++ (entry c (answer choice next c (after choice next m₀ h)) ∷ []);
        runs = run_push choice next m₀ h c reach.runs;
        ends = after_push choice next m₀ h c ∙ ap (after_call choice next c) reach.ends;
      }

  pub reachable_arrived : (m : Machine) (time a from size : ℕ) (kind : Kind) → Reachable choice first next r m → Reachable choice first next r (arrived choice next time a from size kind m)
  reachable_arrived m time a from size kind reach = reachable_call m (arrival time a from size kind) reach

  pub reachable_dispatched : (m : Machine) (time : ℕ) → Reachable choice first next r m → Reachable choice first next r (dispatched choice next time m)
  reachable_dispatched m time reach = reachable_call m (dispatch time) reach

  pub reachable_completed : (m : Machine) (time : ℕ) (token : Request) → Reachable choice first next r m → Reachable choice first next r (completed choice next time token m)
  reachable_completed m time token reach = reachable_call m (completion time token) reach

  pub reachable_ticked : (m : Machine) (time : ℕ) → Reachable choice first next r m → Reachable choice first next r (ticked choice next time m)
  reachable_ticked m time reach = reachable_call m (tick time) reach

  -- the first step alone is what a tick does
  pub reachable_begun : (m : Machine) (time : ℕ) → out_of_time time m ≡ false → Reachable choice first next r m → Reachable choice first next r (begun choice next time m)
  reachable_begun m time h reach = subst (Reachable choice first next r) is (reachable_ticked m time reach)
    where
      stays : (st : Status) (k : ℕ) (m' : Machine) → reacted choice next st Tick k m' ≡ m'
      stays Idle k m' = refl
      stays Queued k m' = refl
      stays Serving k m' = refl

      is : ticked choice next time m ≡ begun choice next time m
      is = ap (λ b. unless (cond b (Some Time) None) (reacted choice next (row (begun choice next time m).table (subject (begun choice next time m))).status Tick (subject (begun choice next time m)) (begun choice next time m)) m) h
          ∙ stays (row (begun choice next time m).table (subject (begun choice next time m))).status (subject (begun choice next time m)) (begun choice next time m)

  module _ (lawful : Lawful choice first next) (sealed : Sealed r) where
    bounds : (m : Machine) (x : ℕ → history.Known) (last : Option ℕ) (at : ℕ) → Inv r m x last at → InBounds r m
    bounds m x last at inv = record {
      applications = inv.core.stood.size;
      lines = inv.core.lined.sixteen;
      hold = inv.core.hold;
      clock_high = inv.core.clock_high;
      head_high = inv.core.head_high;
      total_high = inv.core.lined.total_high;
      count_high = inv.core.lined.count_high;
      sent_high = omega (arith, inv.core.lined.sums);
      waiting = λ k i q e.
          let f = all_nth (Fine (length r.applications) inv.core.lined.owner m.count k) (x k).waiting i q (inv.core.lined.fine k) (subst (λ w. slice_get w i ≡ Some q) (sym (inv.core.lined.lines k)) e) in
          record { listed = f.listed; application = f.own; number_high = f.counted; size_low = f.size_low; size_high = f.size_high; end_high = f.end_high };
      held = λ k s f e. by_hold k s f e inv.disk;
      in_flight = λ q f. by_flight q f inv.disk;
      for_whom = λ u e. by_until u e inv.disk;
    }
      where
        by_hold : (k : ℕ) → m.table.serving ≡ Some k → m.flight ≡ None → length (line m.lists k) ≡ 0 → Disk r.hold m.clock x last m.table.serving m.flight m.until → is_some m.until ≡ true
        by_hold k s f e (vacant a b c) = absurd cc
        by_hold k s f e (working j q a b c d o) = absurd cc
        by_hold k s f e (ready j a b c w) =
            let same : j ≡ k = cc in
            absurd (omega (arith, w.some, ap (λ i. length (x i).waiting) same, ap length (inv.core.lined.lines k), e))
        by_hold k s f e (held j since a b c w o l lt h) = ap is_some c

        by_flight : (q : Request) → m.flight ≡ Some q → Disk r.hold m.clock x last m.table.serving m.flight m.until → m.table.serving ≡ Some q.application
        by_flight q f (vacant a b c) = absurd cc
        by_flight q f (working j p a b c d o) = let same : p ≡ q = cc in a ∙ ap Some (sym d ∙ ap (λ y. y.application) same)
        by_flight q f (ready j a b c w) = absurd cc
        by_flight q f (held j since a b c w o l lt h) = absurd cc

        by_until : (u : ℕ) → m.until ≡ Some u → Disk r.hold m.clock x last m.table.serving m.flight m.until → is_some m.table.serving ≡ true
        by_until u e (vacant a b c) = absurd cc
        by_until u e (working j p a b c d o) = ap is_some a
        by_until u e (ready j a b c w) = ap is_some a
        by_until u e (held j since a b c w o l lt h) = ap is_some a

    pub in_bounds : (m : Machine) → Reachable choice first next r m → InBounds r m
    in_bounds m reach =
        let h = reach.history in
        subst (InBounds r) reach.ends
        (bounds (after choice next (beginning first r) h) (λ k. known k h) (completed_last h) (head h) (inv_after choice first next lawful r sealed h (beginning first r) (λ _. unknown) None 0 (start_inv choice first next lawful r sealed) reach.runs))
