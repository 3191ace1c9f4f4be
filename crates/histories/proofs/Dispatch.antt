-- A dispatch: what it sends or why it sends nothing.
use Rattle.std.proofs.Common.{◌≡◌, ℕ, ◌+◌, ◌<◌, ◌≤◌, Bool, true, false, cond, ◌⊎◌, [], length, Some, None, Option, sym, refl, ap, ◌∙◌, subst, inl, inr, ⊎_elim, arith}
use Rattle.std.specs.List.{slice_get}
use Rattle.std.proofs.lemmas.List.{get_or-set_same}
use Rattle.std.proofs.lemmas.Option.{slice_get_cases}
use Rattle.std.proofs.lemmas.Bool.{cases_eq, leb-true, leb-false, true≢false, false≢true}
use Rattle.rosters.specs.Rosters.{LineUp}
use Rattle.rosters.specs.Stamps.{by_status, no_stamp}
use Rattle.rosters.specs.declared.stamp.Status.{Status}
use Rattle.rosters.specs.declared.stamp.Status.TheVariants.{Idle, Queued, Serving}
use Rattle.stamps.specs.Rows.{serve_stamp}
use Rattle.stamps.specs.Tables.{row}
use Rattle.stamps.specs.Steps.{pick_answer, picked}
use Rattle.pools.specs.Lines.{Choice, line}
use Rattle.pools.specs.declared.request.Kind.TheVariants.{Synchronous}
use Rattle.pools.specs.declared.request.Request.{Request}
use Rattle.pools.specs.declared.rule.Reason.TheVariants.{Exhausted}
use Rattle.machine.specs.Machine as machine
use Rattle.machine.specs.Machine.{Machine, Rule, reacted, reply, retired, picking, picking_reply, after_pick, pick_reply, sent_by, sent_reply, served_by, served_reply, reaches, next_of, subject, subject_of, with_table, with_until, until_time}
use Rattle.machine.specs.declared.event.Event.TheVariants.{Dispatch}
use Rattle.histories.specs.History as history
use Rattle.histories.specs.History.{Answer, sends, holds, none, Known, NotRecent, dispatch, told, moved_by, sectors, sectors_for}
use Rattle.histories.specs.Promises.{Lawful, Sealed, Lingering, replied}
use Rattle.histories.proofs.Tables.{pick_finds, pick_misses, picked_is, charged_table}
use Rattle.histories.proofs.Courses.{Led, led_none, led_after}
use Rattle.histories.proofs.Invariant.{Waits, Stands, Stood, Disk, vacant, working, ready, held, Core, Inv, serves, not_serving, idle_or_waits}
use Rattle.histories.proofs.Moves.{Asks, requeue_table, retired_requeues, requeue_core, requeue_led, pick_core, pick_led, fine, sent_is, send_inv, send_led}
use Rattle.histories.proofs.First.{Step}

-- one fact for each answer
pub data Answered (choice : Choice) (r : LineUp) (time : ℕ) (x : ℕ → Known) (last : Option ℕ) (head : ℕ) (a : Answer) : Type 0 where
  rests : a ≡ none → ((k : ℕ) → history.Idle r.hold time (x k)) → Answered choice r time x last head a
  keeps : (k since : ℕ) → a ≡ holds k (since + r.hold) → k < length r.applications → Lingering r.hold time last k (x k)
      → (x k).latest ≡ Some (record { time = since; kind = Synchronous }) → Answered choice r time x last head a
  moves : (q : Request) → a ≡ sends q → q.application < length r.applications → slice_get (x q.application).waiting (choice (x q.application).waiting head) ≡ Some q
      → ((k : ℕ) → Lingering r.hold time last k (x k) → ⊥) → Answered choice r time x last head a

module _ (choice : Choice) (first : ℕ → ℕ) (next : Rule) (lawful : Lawful choice first next) (r : LineUp) (sealed : Sealed r) where
  pub record Outcome (m m' : Machine) (x : ℕ → Known) (last : Option ℕ) (head : ℕ) (a : Answer) : Type 0 where
    pub step : Step r m.clock m m' x (λ k. told k (dispatch m.clock) a (x k)) last (moved_by a head) (sectors a) (λ k. sectors_for k a)
    pub answered : Answered choice r m.clock x last head a

  module _ (m : Machine) (x : ℕ → Known) (last : Option ℕ) (head : ℕ) (core : Core r m x head) where
    stood : Stood (length r.applications) r.hold m.clock m.table x
    stood = core.stood

    -- what is chosen where something waits
    chosen : (k : ℕ) → Waits (x k) → (q : Request) × (next_of choice next k m ≡ Some q)
    chosen k w =
        let within = lawful.within (line m.lists k) m.head (omega (arith, w.some, ap length (core.lined.lines k))) in
        ⊎_elim (λ s. (s.0, s.2)) (λ past. absurd (omega (arith, within, past.0))) (slice_get_cases (line m.lists k) (choice (line m.lists k) m.head)).1

    -- where the one that serves has requests waiting, nobody lingers
    nobody : ((k : ℕ) → m.table.serving ≡ Some k → Waits (x k)) → (j : ℕ) → Lingering r.hold m.clock last j (x j) → ⊥
    nobody busy j l = go m.table.serving refl
      where
        idle_then : history.Idle r.hold m.clock (x j) ⊎ Waits (x j) → ⊥
        idle_then (inl i) = l.not_idle i
        idle_then (inr w) = omega (arith, w.some, ap length l.none_waits)

        apart : (k : ℕ) → m.table.serving ≡ Some k → (j ≡ k) ⊎ (j ≡ k → ⊥) → ⊥
        apart k e (inl s) = idle_then (inr (subst (λ i. Waits (x i)) (sym s) (busy k e)))
        apart k e (inr ne) = idle_then (idle_or_waits _ r.hold m.clock m.table x stood j (λ s. ne (let z : Some j ≡ Some k = sym s ∙ e in cc)))

        go : (o : Option ℕ) → m.table.serving ≡ o → ⊥
        go None e = idle_then (idle_or_waits _ r.hold m.clock m.table x stood j (λ s. let z : ◌≡◌ {A = ℕ} 0 1 = cc in omega arith))
        go (Some k) e = apart k e (cases_eq j k)

    -- the request q of k is chosen
    moved : (k : ℕ) (q : Request) → k < length r.applications → q.application ≡ k → next_of choice next k m ≡ Some q → ((j : ℕ) → m.table.serving ≡ Some j → Waits (x j))
        → Answered choice r m.clock x last head (sends q)
    moved k q inside own shown busy =
        moves q refl (omega (arith, inside, own))
        (subst (λ i. slice_get (x i).waiting (choice (x i).waiting head) ≡ Some q) (sym own)
        (subst (λ w. slice_get w (choice w head) ≡ Some q) (sym (core.lined.lines k)) (subst (λ h. slice_get (line m.lists k) (choice (line m.lists k) h) ≡ Some q) core.head_is shown)))
        (nobody busy)

  -- nobody serves: one is picked
  module _ (m : Machine) (x : ℕ → Known) (last : Option ℕ) (head : ℕ) (core : Core r m x head) (free : m.table.serving ≡ None) (flight : m.flight ≡ None) (until : m.until ≡ None) where
    none_serves : (j : ℕ) → m.table.serving ≡ Some j → ⊥
    none_serves j e = let z : ◌≡◌ {A = ℕ} 0 1 = cc in omega arith

    misses : pick_answer m.table ≡ None → (k : ℕ) → history.Idle r.hold m.clock (x k)
    misses e k = go (row m.table k).status refl (core.stood.stands k)
      where
        go : (st : Status) → (row m.table k).status ≡ st → Stands st r.hold m.clock (x k) → history.Idle r.hold m.clock (x k)
        go Idle is a = a
        go Queued is a = absurd (pick_misses m.table free e k (ap (λ st. by_status st false true false) is))
        go Serving is a = absurd (true≢false (sym (ap (λ st. by_status st false false true) is) ∙ not_serving _ r.hold m.clock m.table x core.stood k (none_serves k)))

    finds : (k : ℕ) → pick_answer m.table ≡ Some k → Waits (x k)
    finds k e = go (row m.table k).status (pick_finds m.table k e).queued (core.stood.stands k)
      where
        go : (st : Status) → by_status st false true false ≡ true → Stands st r.hold m.clock (x k) → Waits (x k)
        go Idle h a = absurd (false≢true h)
        go Queued h a = a
        go Serving h a = absurd (false≢true h)

    picks : (k : ℕ) → pick_answer m.table ≡ Some k → (q : Request) → next_of choice next k m ≡ Some q → Outcome m (machine.sent choice next k q (with_table (picked m.table) m)) x last head (sends q)
    picks k e q shown =
        let found = pick_finds m.table k e in
        let m₁ = with_table (picked m.table) m in
        let core₁ = pick_core choice first next lawful r sealed m x head core k e in
        let serving : m₁.table.serving ≡ Some k = ap (λ u. u.serving) (picked_is m.table k e) in
        let own = fine choice first next lawful r sealed m₁ x head core₁ k q serving shown in
        let new : row (picked m.table) k ≡ serve_stamp (row m.table k) = ap (λ u. row u k) (picked_is m.table k e) ∙ get_or-set_same m.table.stamps k (serve_stamp (row m.table k)) no_stamp found.inside in
        let budget = (core.stood.funded k own.listed).budget in
        let fit : (row (picked m.table) k).served + q.size ≤ (row (picked m.table) k).budget =
        subst (λ s. s.served + q.size ≤ s.budget) (sym new) (omega (arith, budget.0, own.size_high)) in
        record {
          step = record {
            inv = subst (λ m'. Inv r m' (λ j. told j (dispatch m.clock) (sends q) (x j)) last (q.first + q.size)) (sym (sent_is choice first next lawful r sealed m₁ x head core₁ k q serving shown fit))
                (send_inv choice first next lawful r sealed m₁ x head core₁ k q serving shown fit last (finds k e).none_outstanding until);
            led = subst (λ m'. Led m.table m'.table q.size (λ j. sectors_for j (sends q)) (Asks r m.clock x)) (sym (sent_is choice first next lawful r sealed m₁ x head core₁ k q serving shown fit))
                (led_after m.table (picked m.table) (charged_table k q.size (picked m.table)) q.size (λ j. sectors_for j (sends q)) (Asks r m.clock x)
                (pick_led choice first next lawful r sealed m x head core k e)
                (send_led choice first next lawful r sealed m₁ x head core₁ k q serving shown fit));
          };
          answered = moved m x last head core k q own.listed own.own shown (λ j s. absurd (none_serves j s));
        }

    pub picking_outcome : Outcome m (picking choice next m) x last head (replied (picking_reply choice next m))
    picking_outcome = go (pick_answer m.table) refl
      where
        go : (o : Option ℕ) → pick_answer m.table ≡ o → Outcome m (after_pick choice next o m) x last head (replied (pick_reply choice next o m))
        go None e = record {
          step = record { inv = record { core = core; disk = vacant free flight until }; led = led_none m.table (Asks r m.clock x) };
          answered = rests refl (misses e);
        }
        go (Some k) e =
            let c = chosen m x last head core k (finds k e) in
            subst (λ o. Outcome m (sent_by choice next k o (with_table (picked m.table) m)) x last head (replied (sent_reply choice next o))) (sym c.1) (picks k e c.0 c.1)

  -- k serves
  module _ (m : Machine) (x : ℕ → Known) (last : Option ℕ) (head : ℕ) (core : Core r m x head) (k : ℕ) (e : m.table.serving ≡ Some k) (flight : m.flight ≡ None) where
    -- and its requests wait
    module _ (until : m.until ≡ None) (w : Waits (x k)) (q : Request) (shown : next_of choice next k m ≡ Some q) where
      sends_on : (row m.table k).served + q.size ≤ (row m.table k).budget → Outcome m (machine.sent choice next k q m) x last head (sends q)
      sends_on fit =
          let own = fine choice first next lawful r sealed m x head core k q e shown in
          record {
            step = record {
              inv = subst (λ m'. Inv r m' (λ j. told j (dispatch m.clock) (sends q) (x j)) last (q.first + q.size)) (sym (sent_is choice first next lawful r sealed m x head core k q e shown fit))
                  (send_inv choice first next lawful r sealed m x head core k q e shown fit last w.none_outstanding until);
              led = subst (λ m'. Led m.table m'.table q.size (λ j. sectors_for j (sends q)) (Asks r m.clock x)) (sym (sent_is choice first next lawful r sealed m x head core k q e shown fit))
                  (send_led choice first next lawful r sealed m x head core k q e shown fit);
            };
            answered = moved m x last head core k q own.listed own.own shown (λ j s. let z : k ≡ j = same j (sym e ∙ s) in subst (λ i. Waits (x i)) z w);
          }
        where
          same : (j : ℕ) → Some k ≡ Some j → k ≡ j
          same j s = cc

      -- its turn is over, and one is picked
      gives_way : (row m.table k).budget < (row m.table k).served + q.size
          → Outcome m (picking choice next (retired choice next Exhausted k m)) x last head (replied (picking_reply choice next (retired choice next Exhausted k m)))
      gives_way over =
          let small = (fine choice first next lawful r sealed m x head core k q e shown).size_high in
          let t₂ = requeue_table choice first next lawful r sealed m x head core Exhausted k e in
          let m₂ = with_until None (with_table t₂ m) in
          let o = picking_outcome m₂ x last head (requeue_core choice first next lawful r sealed m x head core Exhausted k e w q.size small over) refl flight refl in
          let a = replied (picking_reply choice next m₂) in
          subst (λ m'. Outcome m (picking choice next m') x last head (replied (picking_reply choice next m'))) (sym (retired_requeues choice first next lawful r sealed m x head core Exhausted k e w q.size small over))
          (record {
            step = record {
              inv = o.step.inv;
              led = led_after m.table t₂ (picking choice next m₂).table (sectors a) (λ j. sectors_for j a) (Asks r m.clock x)
                  (requeue_led choice first next lawful r sealed m x head core Exhausted k e w q.size small over) o.step.led;
            };
            answered = o.answered;
          })

      pub ready_outcome : Outcome m (served_by choice next k (next_of choice next k m) m) x last head (replied (served_reply choice next k (next_of choice next k m) m))
      ready_outcome = subst (λ o. Outcome m (served_by choice next k o m) x last head (replied (served_reply choice next k o m))) (sym shown) (go (reaches choice next k q m) refl)
        where
          go : (b : Bool) → reaches choice next k q m ≡ b
              → Outcome m (cond b (machine.sent choice next k q m) (picking choice next (retired choice next Exhausted k m))) x last head (replied (cond b (machine.sends q) (picking_reply choice next (retired choice next Exhausted k m))))
          go true h = sends_on (leb-true ((row m.table k).served + q.size) (row m.table k).budget h)
          go false h = gives_way (leb-false ((row m.table k).served + q.size) (row m.table k).budget h)

    -- and the disk is held for it
    pub held_outcome : (since : ℕ) → m.until ≡ Some (since + r.hold) → (x k).waiting ≡ [] → (x k).outstanding ≡ [] → (x k).latest ≡ Some (record { time = since; kind = Synchronous }) → m.clock < since + r.hold → last ≡ Some k
        → Outcome m (served_by choice next k (next_of choice next k m) m) x last head (replied (served_reply choice next k (next_of choice next k m) m))
    held_outcome since until none_waits none_out latest lt is_last =
        subst (λ o. Outcome m (served_by choice next k o m) x last head (replied (served_reply choice next k o m))) (sym dry)
        (record {
          step = record { inv = record { core = core; disk = held k since e flight until none_waits none_out latest lt is_last }; led = led_none m.table (Asks r m.clock x) };
          answered = keeps k since (ap (λ u. holds k (until_time choice next u)) until) (omega (arith, core.stood.sound.within k e, core.stood.size))
              (record { completed = is_last; none_waits = none_waits; not_idle = λ i. omega (arith, subst (NotRecent r.hold m.clock) latest i.not_recent refl) }) latest;
        })
      where
        dry : next_of choice next k m ≡ None
        dry = ap (λ w. slice_get w (choice w m.head)) (sym (core.lined.lines k) ∙ none_waits)

  pub dispatch_outcome : (m : Machine) (x : ℕ → Known) (last : Option ℕ) (head : ℕ) → Inv r m x last head → m.flight ≡ None
      → Outcome m (reacted choice next (row m.table (subject m)).status Dispatch (subject m) m) x last head (replied (reply choice next (row m.table (subject m)).status (subject m) m))
  dispatch_outcome m x last head inv flight = by inv.disk
    where
      serving : (k : ℕ) → m.table.serving ≡ Some k → Outcome m (served_by choice next k (next_of choice next k m) m) x last head (replied (served_reply choice next k (next_of choice next k m) m))
          → Outcome m (reacted choice next (row m.table (subject m)).status Dispatch (subject m) m) x last head (replied (reply choice next (row m.table (subject m)).status (subject m) m))
      serving k e o =
          subst (λ i. Outcome m (reacted choice next (row m.table i).status Dispatch i m) x last head (replied (reply choice next (row m.table i).status i m))) (sym (ap subject_of e))
          (subst (λ st. Outcome m (reacted choice next st Dispatch k m) x last head (replied (reply choice next st k m))) (sym (serves _ r.hold m.clock m.table x inv.core.stood k e)) o)

      by : Disk r.hold m.clock x last m.table.serving m.flight m.until
          → Outcome m (reacted choice next (row m.table (subject m)).status Dispatch (subject m) m) x last head (replied (reply choice next (row m.table (subject m)).status (subject m) m))
      by (vacant free f u) = go (row m.table (subject m)).status (not_serving _ r.hold m.clock m.table x inv.core.stood (subject m) (λ s. let z : ◌≡◌ {A = ℕ} 0 1 = cc in omega arith))
        where
          o : Outcome m (picking choice next m) x last head (replied (picking_reply choice next m))
          o = picking_outcome m x last head inv.core free f u

          go : (st : Status) → by_status st false false true ≡ false → Outcome m (reacted choice next st Dispatch (subject m) m) x last head (replied (reply choice next st (subject m) m))
          go Idle h = o
          go Queued h = o
          go Serving h = absurd (true≢false h)
      by (working k q e f u d o) = absurd cc
      by (ready k e f u w) =
          let c = chosen m x last head inv.core k w in
          serving k e (ready_outcome m x last head inv.core k e f u w c.0 c.1)
      by (held k since e f u w o l c h) = serving k e (held_outcome m x last head inv.core k e f since u w o l c h)
