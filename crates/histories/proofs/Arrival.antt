-- A request joins its line, and its application is woken if it was idle.
use Rattle.std.proofs.Common.{◌≡◌, ℕ, ◌+◌, ◌^◌, ◌<◌, ◌≤◌, true, false, cond, [], ◌∷◌, ◌++◌, length, Some, None, Option, sym, refl, ap, ◌∙◌, subst, arith}
use Rattle.std.proofs.lemmas.List.{length_push}
use Rattle.rosters.specs.Rosters.{LineUp}
use Rattle.rosters.specs.Stamps.{by_status}
use Rattle.rosters.specs.declared.stamp.Status.{Status}
use Rattle.rosters.specs.declared.stamp.Status.TheVariants.{Idle, Queued, Serving}
use Rattle.stamps.specs.Rows.{wake_stamp}
use Rattle.stamps.specs.Tables.{Table, row, Sound}
use Rattle.stamps.specs.Steps.{changed}
use Rattle.stamps.proofs.Soundness.{woken_sound}
use Rattle.pools.specs.Lines.{Choice, line, put_lists}
use Rattle.pools.specs.declared.request.Request.{Request}
use Rattle.machine.specs.Machine.{Machine, Rule, reacted, with_table, with_until}
use Rattle.machine.specs.Calls.{joined}
use Rattle.machine.specs.declared.event.Event.TheVariants.{Arrival}
use Rattle.share_law.specs.Courses.{wake}
use Rattle.histories.specs.History as history
use Rattle.histories.specs.History.{Known, joins}
use Rattle.histories.specs.Promises.{Lawful, Sealed}
use Rattle.histories.proofs.Tables.{woken_is}
use Rattle.histories.proofs.Courses.{Silent, led_none, led_silent}
use Rattle.histories.proofs.Invariant.{Lined, Waits, Stands, Stood, Disk, vacant, working, ready, held, Core, Inv, awake, serves, who_serves, stood_moved}
use Rattle.histories.proofs.Lines.{joins_other, joins_own, lined_joined}
use Rattle.histories.proofs.Moves.{Asks, stood_set}
use Rattle.histories.proofs.First.{Step}

-- who has the disk stays the same where nothing new is known of that application
pub disk_same : (H clock : ℕ) (x x' : ℕ → Known) (last serving : Option ℕ) (flight : Option Request) (until : Option ℕ) → ((k : ℕ) → serving ≡ Some k → x' k ≡ x k)
    → Disk H clock x last serving flight until → Disk H clock x' last serving flight until
disk_same H clock x x' last serving flight until same (vacant a b c) = vacant a b c
disk_same H clock x x' last serving flight until same (working k q a b c d e) = working k q a b c d (ap (λ y. y.outstanding) (same k a) ∙ e)
disk_same H clock x x' last serving flight until same (ready k a b c d) = ready k a b c (subst Waits (sym (same k a)) d)
disk_same H clock x x' last serving flight until same (held k since a b c d e f g h) =
    held k since a b c (ap (λ y. y.waiting) (same k a) ∙ d) (ap (λ y. y.outstanding) (same k a) ∙ e) (ap (λ y. y.latest) (same k a) ∙ f) g h

module _ (choice : Choice) (first : ℕ → ℕ) (next : Rule) (lawful : Lawful choice first next) (r : LineUp) (sealed : Sealed r) where
  module _ (m : Machine) (x : ℕ → Known) (last : Option ℕ) (head : ℕ) (inv : Inv r m x last head)
      (q : Request) (listed : q.application < length r.applications) (room : length (line m.lists q.application) < 16) (number : q.number ≡ m.count + 1)
      (size_low : 1 ≤ q.size) (size_high : q.size ≤ 256) (end_high : q.first + q.size ≤ 2 ^ 40) (sum_high : m.total + q.size ≤ 2 ^ 40) where
    abbrev a : ℕ
    a = q.application

    abbrev new : ℕ → Known
    new j = joins j (Some q) (x j)

    stood : Stood (length r.applications) r.hold m.clock m.table x
    stood = inv.core.stood

    lined : Lined (length r.applications) (m.count + 1) (m.total + q.size) m.table.sent (put_lists q m.lists) new
    lined = lined_joined _ m.count m.total m.table.sent m.lists x sealed.few inv.core.lined q listed room number size_low size_high end_high sum_high

    other : (j : ℕ) → (j ≡ q.application → ⊥) → joins j (Some q) (x j) ≡ x j
    other = joins_other _ m.count m.total m.table.sent m.lists x sealed.few inv.core.lined q listed room number size_low size_high end_high sum_high

    own : joins q.application (Some q) (x q.application) ≡ record (x q.application) { waiting = (x q.application).waiting ++ (q ∷ []) }
    own = joins_own _ m.count m.total m.table.sent m.lists x sealed.few inv.core.lined q listed room number size_low size_high end_high sum_high

    -- now its requests wait
    waits_now : (x q.application).outstanding ≡ [] → Waits (joins q.application (Some q) (x q.application))
    waits_now e = subst Waits (sym own) (record { some = omega (arith, length_push (x a).waiting q); none_outstanding = e })

    with_stood : (t : Table) (u : Option ℕ) → t.sent ≡ m.table.sent → Stood (length r.applications) r.hold m.clock t new → Core r (with_until u (with_table t (joined q m))) new head
    with_stood t u e s = record {
      lined = subst (λ z. Lined (length r.applications) (m.count + 1) (m.total + q.size) z (put_lists q m.lists) new) (sym e) lined;
      stood = s;
      hold = inv.core.hold;
      clock_high = inv.core.clock_high;
      head_high = inv.core.head_high;
      head_is = inv.core.head_is;
    }

    -- the table stands
    stood_still : Stands (row m.table q.application).status r.hold m.clock (new q.application) → Stood (length r.applications) r.hold m.clock m.table new
    stood_still s = stood_moved _ r.hold m.clock m.table x stood m.table new a stood.sound refl (λ j ne. refl) (stood.funded a) s other

    -- an application of another status is not the one that serves
    elsewhere : (st : Status) → (row m.table q.application).status ≡ st → by_status st false false true ≡ false → (k : ℕ) → m.table.serving ≡ Some k → k ≡ q.application → ⊥
    elsewhere st is no' k e same =
        let serving : (row m.table q.application).status ≡ Serving = subst (λ i. (row m.table i).status ≡ Serving) same (serves _ r.hold m.clock m.table x stood k e) in
        let both : by_status st false false true ≡ true = ap (λ s. by_status s false false true) (sym is ∙ serving) in
        let z : ◌≡◌ {A = ℕ} 0 1 = ap (λ b. cond b 0 1) (sym both ∙ no') in omega arith

    still_led : Silent m.table m.table (Asks r m.clock x)
    still_led = led_none m.table (Asks r m.clock x)

    pub arrival_step : Step r m.clock m (reacted choice next (row m.table q.application).status Arrival q.application (joined q m)) x (λ j. joins j (Some q) (x j)) last head 0 (λ _. 0)
    arrival_step = go (row m.table q.application).status refl
      where
        go : (st : Status) → (row m.table q.application).status ≡ st → Step r m.clock m (reacted choice next st Arrival q.application (joined q m)) x (λ j. joins j (Some q) (x j)) last head 0 (λ _. 0)
        go Idle is =
            let inside : a < length m.table.stamps = omega (arith, listed, stood.size) in
            let idle : history.Idle r.hold m.clock (x a) = subst (λ st. Stands st r.hold m.clock (x a)) is (stood.stands a) in
            let e = woken_is m.table a inside (ap (λ st. by_status st true false false) is) in
            let s = wake_stamp m.table.virtual (row m.table a) in
            let t' = changed a s m.table.serving m.table in
            let f = stood.funded a listed in
            subst (λ u. Step r m.clock m (with_table u (joined q m)) x new last head 0 (λ _. 0)) (sym e)
            (record {
              inv = record {
                core = with_stood t' m.until refl
                    (stood_set _ r.hold m.clock m.table x new stood a m.table.virtual m.table.sent m.table.serving s inside
                    (subst Sound e (woken_sound a m.table stood.sound)) (record { limit_low = f.limit_low; limit_high = f.limit_high; budget = f.budget }) (waits_now idle.none_outstanding) other);
                disk = disk_same r.hold m.clock x new last m.table.serving m.flight m.until (λ k on. other k (elsewhere Idle is refl k on)) inv.disk;
              };
              led = led_silent (wake a) m.table t' (Asks r m.clock x) e refl (λ k asks. awake _ r.hold m.clock m.table x stood k asks);
            })
        go Queued is =
            let w : Waits (x a) = subst (λ st. Stands st r.hold m.clock (x a)) is (stood.stands a) in
            record {
              inv = record {
                core = with_stood m.table m.until refl (stood_still (subst (λ st. Stands st r.hold m.clock (new a)) (sym is) (waits_now w.none_outstanding)));
                disk = disk_same r.hold m.clock x new last m.table.serving m.flight m.until (λ k on. other k (elsewhere Queued is refl k on)) inv.disk;
              };
              led = still_led;
            }
        go Serving is = record {
          inv = record {
            core = with_stood m.table None refl (stood_still (subst (λ st. Stands st r.hold m.clock (new a)) (sym is) tt));
            disk = by inv.disk;
          };
          led = still_led;
        }
          where
            -- the one that serves is it
            it : (k : ℕ) → m.table.serving ≡ Some k → k ≡ q.application
            it k e = let z : Some k ≡ Some q.application = sym e ∙ who_serves _ r.hold m.clock m.table x stood q.application is in cc

            -- and is ready, unless a request of it is in flight
            ready_now : m.table.serving ≡ Some q.application → m.flight ≡ None → (x q.application).outstanding ≡ [] → Disk r.hold m.clock new last m.table.serving m.flight None
            ready_now s f e = ready a s f refl (waits_now e)

            by : Disk r.hold m.clock x last m.table.serving m.flight m.until → Disk r.hold m.clock new last m.table.serving m.flight None
            by (vacant e f u) = vacant e f refl
            by (working k p e f u d o) = working k p e f refl d (subst (λ i. (x i).outstanding ≡ p ∷ [] → (new i).outstanding ≡ p ∷ []) (sym (it k e)) (λ h. ap (λ y. y.outstanding) own ∙ h) o)
            by (ready k e f u w) = ready_now (e ∙ ap Some (it k e)) f (subst (λ i. (x i).outstanding ≡ []) (it k e) w.none_outstanding)
            by (held k since e f u w o l c h) = ready_now (e ∙ ap Some (it k e)) f (subst (λ i. (x i).outstanding ≡ []) (it k e) o)
