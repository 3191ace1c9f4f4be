-- What the machine does to its table, one operation at a time, keeps the invariant; each is an operation of
-- the share law's courses.
use Rattle.std.proofs.Common.{◌≡◌, ℕ, ◌+◌, ◌*◌, ◌<◌, ◌≤◌, true, false, cond, eqb, ltb, leb, [], length, set, Some, None, Option, sym, refl, ap, ◌∙◌, subst, arith}
use Rattle.std.specs.List.{slice_get}
use Rattle.std.proofs.lemmas.List.{length-set, get_or-set_same, get_or-set_other}
use Rattle.std.proofs.lemmas.Bool.{and_from, lt-ltb, le-ltb, le-leb, cond-true, cond-false}
use Rattle.rosters.specs.Rosters.{LineUp}
use Rattle.rosters.specs.Stamps.{is_idle, no_stamp, may_have}
use Rattle.rosters.specs.declared.stamp.Stamp.{Stamp}
use Rattle.stamps.specs.Rows.{serve_stamp, charge_stamp, rest_stamp, requeue_stamp}
use Rattle.stamps.specs.Tables.{Table, row, Sound, is_application}
use Rattle.stamps.specs.Steps.{changed, pick_answer, picked, pick_time, fits, can_send_of, charged, may_requeue, requeued, rested}
use Rattle.stamps.proofs.Soundness.{picked_sound, charged_sound, requeued_sound, rested_sound}
use Rattle.pools.specs.Fits.{Fits}
use Rattle.pools.specs.Lines.{Choice, line, taken_lists}
use Rattle.pools.specs.declared.request.Request.{Request}
use Rattle.pools.specs.declared.rule.Reason.{Reason}
use Rattle.machine.specs.Machine as machine
use Rattle.machine.specs.Machine.{Machine, Rule, with_table, with_until, waits}
use Rattle.share_law.specs.Courses.{pick, send, requeue, rest, sends}
use Rattle.histories.specs.History as history
use Rattle.histories.specs.History.{Known, leaves}
use Rattle.histories.specs.Promises.{Lawful, Sealed}
use Rattle.histories.proofs.Tables.{rested_is, requeued_is, charged_table, fits_is, charged_is, picked_table, picked_is, Found, pick_finds}
use Rattle.histories.proofs.Courses.{Led, Silent, led_one, led_silent}
use Rattle.histories.proofs.Invariant.{Fine, Lined, Waits, Stands, Funded, Stood, working, Core, Inv, awake, serves, stood_moved}
use Rattle.histories.proofs.Lines.{fine_next, leaves_other, leaves_own, lined_sent}

-- application k asks at that time: it is not idle by what is known
abbrev pub Asks : LineUp → ℕ → (ℕ → Known) → ℕ → Type 0
Asks r time x k = history.Idle r.hold time (x k) → ⊥

-- one row is put in place of another
pub stood_set : (n H clock : ℕ) (t : Table) (x x' : ℕ → Known) → Stood n H clock t x → (k v sent : ℕ) (serving : Option ℕ) (s : Stamp) → k < length t.stamps
    → Sound (record { virtual = v; sent = sent; serving = serving; stamps = set t.stamps k s }) → Funded s → Stands s.status H clock (x' k) → ((j : ℕ) → (j ≡ k → ⊥) → x' j ≡ x j)
    → Stood n H clock (record { virtual = v; sent = sent; serving = serving; stamps = set t.stamps k s }) x'
stood_set n H clock t x x' stood k v sent serving s inside sound funded stands others =
    let same = get_or-set_same t.stamps k s no_stamp inside in
    stood_moved n H clock t x stood (record { virtual = v; sent = sent; serving = serving; stamps = set t.stamps k s }) x' k sound (length-set t.stamps k s)
    (λ j ne. get_or-set_other t.stamps k j s no_stamp ne) (λ _. subst Funded (sym same) funded) (subst (λ y. Stands y.status H clock (x' k)) (sym same) stands) others

has : (b : ℕ) (s : Stamp) → Fits s.limit b → may_have b s ≡ true
has b s f = and_from (ltb 0 b) (leb b s.limit) (lt-ltb 0 b (omega (arith, f.0))) (le-leb b s.limit f.1)

module _ (choice : Choice) (first : ℕ → ℕ) (next : Rule) (lawful : Lawful choice first next) (r : LineUp) (sealed : Sealed r) where
  fit_next : (why : Reason) (s : Stamp) → Funded s → Fits s.limit (machine.next_budget choice next why s)
  fit_next why s f = lawful.next_fits s.limit s.budget s.served why f.limit_low f.limit_high f.budget

  funded_with : (s s' : Stamp) → s'.limit ≡ s.limit → Fits s.limit s'.budget → Funded s → Funded s'
  funded_with s s' e fit f = record { limit_low = omega (arith, f.limit_low, e); limit_high = omega (arith, f.limit_high, e); budget = subst (λ l. Fits l s'.budget) (sym e) fit }

  module _ (m : Machine) (x : ℕ → Known) (head : ℕ) (core : Core r m x head) where
    stood : Stood (length r.applications) r.hold m.clock m.table x
    stood = core.stood

    pub asking : (k : ℕ) → Asks r m.clock x k → is_idle (row m.table k) ≡ false
    asking k a = awake (length r.applications) r.hold m.clock m.table x stood k a

    with_stood : (t' : Table) → t'.sent ≡ m.table.sent → Stood (length r.applications) r.hold m.clock t' x → (u : Option ℕ) → Core r (with_until u (with_table t' m)) x head
    with_stood t' e stood' u = record {
      lined = subst (λ z. Lined (length r.applications) m.count m.total z m.lists x) (sym e) core.lined;
      stood = stood';
      hold = core.hold;
      clock_high = core.clock_high;
      head_high = core.head_high;
      head_is = core.head_is;
    }

    -- the turn of k is over
    module _ (why : Reason) (k : ℕ) (e : m.table.serving ≡ Some k) where
      inside : k < length m.table.stamps
      inside = stood.sound.within k e

      funded : Funded (row m.table k)
      funded = stood.funded k (omega (arith, inside, stood.size))

      abbrev b : ℕ
      b = machine.next_budget choice next why (row m.table k)

      fit : Fits (row m.table k).limit (machine.next_budget choice next why (row m.table k))
      fit = fit_next why (row m.table k) funded

      line_is : (l : ℕ) → length (x k).waiting ≡ l → length (line m.lists k) ≡ l
      line_is l h = sym (ap length (core.lined.lines k)) ∙ h

      abbrev pub rest_table : Table
      rest_table = changed k (rest_stamp b (row m.table k)) None m.table

      module _ (idle : history.Idle r.hold m.clock (x k)) where
        pub retired_rests : machine.retired choice next why k m ≡ with_until None (with_table rest_table m)
        retired_rests =
            ap (λ u. with_until None (with_table u m))
            (cond-false (waits k m) (requeued b m.table) (rested b m.table) (le-ltb 0 (length (line m.lists k)) (omega (arith, line_is 0 (ap length idle.none_waits))))
            ∙ rested_is m.table k b e (has b (row m.table k) fit))

        pub rest_core : Core r (with_until None (with_table rest_table m)) x head
        rest_core =
            with_stood rest_table refl
            (stood_set (length r.applications) r.hold m.clock m.table x x stood k m.table.virtual m.table.sent None (rest_stamp b (row m.table k)) inside
            (subst Sound (rested_is m.table k b e (has b (row m.table k) fit)) (rested_sound b m.table stood.sound))
            (funded_with (row m.table k) (rest_stamp b (row m.table k)) refl fit funded) idle (λ j ne. refl))
            None

        pub rest_led : (P : ℕ → Type 0) → ((j : ℕ) → P j → is_idle (row m.table j) ≡ false) → Silent m.table rest_table P
        rest_led P not_idle = led_silent (rest b) m.table rest_table P (rested_is m.table k b e (has b (row m.table k) fit)) refl not_idle

      abbrev pub requeue_table : Table
      requeue_table = changed k (requeue_stamp b (row m.table k)) None m.table

      -- this is where the budget rule's law comes in: what did not fit the old budget fits the next, and so
      -- the finish does not fall
      module _ (waiting : Waits (x k)) (size : ℕ) (small : size ≤ 256) (over : (row m.table k).budget < (row m.table k).served + size) where
        may : may_requeue b (row m.table k) ≡ true
        may = and_from (may_have b (row m.table k)) (leb (row m.table k).budget ((row m.table k).served + b)) (has b (row m.table k) fit)
            (le-leb (row m.table k).budget ((row m.table k).served + b) (omega (arith, over, small, fit.0)))

        pub retired_requeues : machine.retired choice next why k m ≡ with_until None (with_table requeue_table m)
        retired_requeues =
            ap (λ u. with_until None (with_table u m))
            (cond-true (waits k m) (requeued b m.table) (rested b m.table) (lt-ltb 0 (length (line m.lists k)) (omega (arith, waiting.some, ap length (core.lined.lines k))))
            ∙ requeued_is m.table k b e may)

        pub requeue_core : Core r (with_until None (with_table requeue_table m)) x head
        requeue_core =
            with_stood requeue_table refl
            (stood_set (length r.applications) r.hold m.clock m.table x x stood k m.table.virtual m.table.sent None (requeue_stamp b (row m.table k)) inside
            (subst Sound (requeued_is m.table k b e may) (requeued_sound b m.table stood.sound))
            (funded_with (row m.table k) (requeue_stamp b (row m.table k)) refl fit funded) waiting (λ j ne. refl))
            None

        pub requeue_led : Silent m.table requeue_table (Asks r m.clock x)
        requeue_led = led_silent (requeue b) m.table requeue_table (Asks r m.clock x) (requeued_is m.table k b e may) refl asking

    -- k is picked
    module _ (k : ℕ) (e : pick_answer m.table ≡ Some k) where
      found : Found m.table k
      found = pick_finds m.table k e

      pub pick_core : Core r (with_table (picked m.table) m) x head
      pick_core = subst (λ u. Core r (with_table u m) x head) (sym (picked_is m.table k e))
          (with_stood (picked_table k m.table) refl
          (stood_set (length r.applications) r.hold m.clock m.table x x stood k (pick_time m.table) m.table.sent (Some k) (serve_stamp (row m.table k)) found.inside
          (subst Sound (picked_is m.table k e) (picked_sound m.table stood.sound))
          (funded_with (row m.table k) (serve_stamp (row m.table k)) refl funded_of.budget funded_of) tt (λ j ne. refl))
          m.until)
        where
          funded_of : Funded (row m.table k)
          funded_of = stood.funded k (omega (arith, found.inside, stood.size))

      pub pick_led : Silent m.table (picked m.table) (Asks r m.clock x)
      pick_led = led_silent pick m.table (picked m.table) (Asks r m.clock x) refl refl asking

    -- a request of k goes to the disk
    module _ (k : ℕ) (q : Request) (e : m.table.serving ≡ Some k) (shown : machine.next_of choice next k m ≡ Some q) where
      abbrev p : ℕ
      p = choice (line m.lists k) m.head

      at : slice_get (x k).waiting p ≡ Some q
      at = subst (λ w. slice_get w p ≡ Some q) (sym (core.lined.lines k)) shown

      pub fine : Fine (length r.applications) core.lined.owner m.count k q
      fine = fine_next (length r.applications) m.count m.total m.table.sent m.lists x sealed.few core.lined k p q at

      lined' : Lined (length r.applications) m.count m.total (m.table.sent + q.size) (taken_lists choice m.lists k m.head) (λ j. leaves q (x j))
      lined' = lined_sent (length r.applications) m.count m.total m.table.sent m.lists x sealed.few core.lined k p q at

      abbrev pub send_machine : Machine
      send_machine = record m { head = q.first + q.size; flight = Some q; table = charged_table k q.size m.table; lists = taken_lists choice m.lists k m.head }

      module _ (fit : (row m.table k).served + q.size ≤ (row m.table k).budget) where
        can : fits k q.size m.table ≡ true
        can = fits_is m.table k q.size fit (omega (arith, lined'.sums, lined'.total_high))

        -- behind it the head stands, far below the end of 64 bits
        head_there : (machine.sent choice next k q m).head ≡ q.first + q.size
        head_there = omega (arith, fine.end_high)

        pub sent_is : machine.sent choice next k q m ≡ send_machine
        sent_is =
            ap (λ h. record m { head = h; flight = Some q; table = charged q.size m.table; lists = taken_lists choice m.lists k m.head }) head_there
            ∙ ap (λ u. record m { head = q.first + q.size; flight = Some q; table = u; lists = taken_lists choice m.lists k m.head })
            (charged_is m.table k q.size e can)

        pub send_inv : (last : Option ℕ) → (x k).outstanding ≡ [] → m.until ≡ None → Inv r send_machine (λ j. leaves q (x j)) last (q.first + q.size)
        send_inv last none until = record {
          core = record {
            lined = lined';
            stood = stood_set (length r.applications) r.hold m.clock m.table x (λ j. leaves q (x j)) stood k (m.table.virtual + 2520 * q.size) (m.table.sent + q.size) (Some k)
                (charge_stamp q.size (row m.table k)) inside
                (subst Sound (charged_is m.table k q.size e can) (charged_sound q.size m.table stood.sound))
                (funded_with (row m.table k) (charge_stamp q.size (row m.table k)) refl funded.budget funded)
                (subst (λ st. Stands st r.hold m.clock (leaves q (x k))) (sym (serves (length r.applications) r.hold m.clock m.table x stood k e)) tt)
                (λ j ne. leaves_other (length r.applications) m.count m.total m.table.sent m.lists x sealed.few core.lined k p q at j ne);
            hold = core.hold;
            clock_high = core.clock_high;
            head_high = fine.end_high;
            head_is = refl;
          };
          disk = working k q refl refl until fine.own (leaves_own (length r.applications) m.count m.total m.table.sent m.lists x sealed.few core.lined k p q at none);
        }
          where
            inside : k < length m.table.stamps
            inside = stood.sound.within k e

            funded : Funded (row m.table k)
            funded = stood.funded k (omega (arith, inside, stood.size))

        pub send_led : Led m.table (charged_table k q.size m.table) q.size (λ j. cond (eqb q.application j) q.size 0) (Asks r m.clock x)
        send_led = led_one (send q.size) m.table (charged_table k q.size m.table) q.size (λ j. cond (eqb q.application j) q.size 0) (Asks r m.clock x)
            (charged_is m.table k q.size e can) goes
            (λ j. ap (λ z. cond (is_application m.table.serving j) z 0) goes ∙ ap (λ o. cond (is_application o j) q.size 0) (e ∙ ap Some (sym fine.own)))
            asking
          where
            goes : sends (send q.size) m.table ≡ q.size
            goes = cond-true (can_send_of m.table.serving q.size m.table) q.size 0 (ap (λ o. can_send_of o q.size m.table) e ∙ can)
