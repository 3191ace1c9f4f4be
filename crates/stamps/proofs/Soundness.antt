-- Every operation keeps the table sound. Assumes nothing.
use Rattle.std.proofs.Common.{◌≡◌, ℕ, ◌+◌, ◌*◌, ◌^◌, ◌<◌, ◌≤◌, max, Bool, true, false, cond, ltb, leb, ◌⊎◌, length, get_or, set, Some, None, Option, sym, refl, ap, ◌∙◌, subst, inl, inr, le_refl, mul-le-mul, mul-le-mul_left, arith, length-set, get_or-set_other, get_or-set_same, MatchOption}
use mathlib.Core.Logic.{∥∥₁_elim}
use mathlib.Core.HLevel.{Π_prop}
use mathlib.Core.Bool.{Bool-set}
use native.Mathlib.Bridge.{le_prop}
use Rattle.std.proofs.lemmas.Option.{gets, slice_get_within, get_or_from_slice_get}
use Rattle.std.proofs.lemmas.Bool.Decides.{nat_tests}
use Rattle.std.specs.Bool.{then_some}
use Rattle.std.specs.List.{slice_get}
use Rattle.std.proofs.lemmas.Bool.{cases_eq, cond_both, and_parts, ltb-true, leb-true, ne_eqb, eq-eqb, true≢false, and_from, lt-ltb}
use Rattle.rosters.specs.Stamps.{by_status, is_idle, is_queued, is_serving, no_stamp, may_have}
use Rattle.stamps.specs.Rows.{position, paid, wake_stamp, serve_stamp, charge_stamp, with_budget, rest_stamp, requeue_stamp}
use Rattle.stamps.specs.Tables.{Table, row, Modest, modest_prop, Sound, sound_prop, is_application}
use Rattle.stamps.specs.Known.{Current, Resting}
use Rattle.stamps.specs.Steps.{can_wake, woken, can_allot, allotted, may_requeue, eligible, start_before, pushed_to, pick_time, finishing, pick_beside, picked_by, picked, fits, charged_to, charged, requeued_from, requeued, rested_from, rested}
use Rattle.least.specs.Choice.{place, FirstLeast, NoneEligible}
use Rattle.least.proofs.Places.{place_means}
use Rattle.std.proofs.lemmas.List.MinMax.{IsStrictWeakOrder-by_number}
use Rattle.rosters.specs.declared.stamp.Status.{Status}
use Rattle.rosters.specs.declared.stamp.Status.TheVariants.{Idle, Queued, Serving}
use Rattle.rosters.specs.declared.stamp.Stamp.{Stamp}

modest_once : (n : ℕ) (s : Stamp) → IsProp (Modest n s)
modest_once n s = modest_prop le_prop le_prop le_prop le_prop le_prop le_prop le_prop le_prop le_prop

sound_once : (t : Table) → IsProp (Sound t)
sound_once t =
    sound_prop le_prop le_prop le_prop
    (Π_prop (λ k. Π_prop (λ h. modest_once t.sent (row t k))))
    (Π_prop (λ k. Π_prop (λ h. Bool-set (is_serving (row t k)) (is_application t.serving k))))
    (Π_prop (λ k. Π_prop (λ e. le_prop)))

-- there is but one way to be sound, so what the type keeps is soundness itself
pub the_sound : (t : Table) → ∥ Sound t ∥₁ → Sound t
the_sound t h = ∥∥₁_elim h (sound_once t) (λ s. s)

-- a step that keeps a sound table sound, by what it leaves
pub kept_by : (f : Table → Table) → ((t : Table) → Sound t → Sound (f t)) → (t new : Table) → new ≡ f t → ∥ Sound t ∥₁ → ∥ Sound new ∥₁
kept_by f keeps t new e h = ∣ subst Sound (sym e) (keeps t (the_sound t h)) ∣₁

-- more sectors sent leave a row modest
later : (n n' : ℕ) (s : Stamp) → n ≤ n' → Modest n s → Modest n' s
later n n' s h m =
    record {
      cost_high = m.cost_high;
      limit_high = m.limit_high;
      budget_low = m.budget_low;
      budget_high = m.budget_high;
      served_high = m.served_high;
      start_high = omega (arith, m.start_high);
      reached_high = omega (arith, m.reached_high);
      position_high = omega (arith, m.position_high);
      finish_high = omega (arith, m.finish_high);
    }

-- sectors of a budget cost a bounded virtual time
pub spent_high : (x c : ℕ) → x ≤ 65536 → c ≤ 403200 → x * c ≤ 26424115200
spent_high x c h k = mul-le-mul h k

-- One row has changed, and with it perhaps the virtual time, the sectors sent and who is served.
module _ (t : Table) (sound : Sound t) (k : ℕ) (within : k < length t.stamps) where
  pub one_row : (virtual sent : ℕ) (serving : Option ℕ) (s : Stamp) → t.sent ≤ sent → sent ≤ 2 ^ 40 → virtual ≤ 403200 * sent → Modest sent s
      → is_serving s ≡ is_application serving k
      → ((j : ℕ) → (j ≡ k → ⊥) → is_application t.serving j ≡ is_application serving j)
      → ((j : ℕ) → serving ≡ Some j → j < length t.stamps)
      → Sound (record { virtual = virtual; sent = sent; serving = serving; stamps = set t.stamps k s })
  one_row virtual sent serving s more most pace modest here others inside =
      record {
        few = omega (arith, sound.few, length-set t.stamps k s);
        sectors = most;
        pace = pace;
        each = λ j h. each j (omega (arith, length-set t.stamps k s)) (cases_eq j k);
        one = λ j h. one j (omega (arith, length-set t.stamps k s)) (cases_eq j k);
        within = λ j e. omega (arith, inside j e, length-set t.stamps k s);
      }
    where
      each : (j : ℕ) → j < length t.stamps → (j ≡ k) ⊎ (j ≡ k → ⊥) → Modest sent (get_or (set t.stamps k s) j no_stamp)
      each j h (inl e) = subst (Modest sent) (sym (ap (λ i. get_or (set t.stamps k s) i no_stamp) e ∙ get_or-set_same t.stamps k s no_stamp within)) modest
      each j h (inr ne) = subst (Modest sent) (sym (get_or-set_other t.stamps k j s no_stamp ne)) (later t.sent sent (row t j) more (sound.each j h))

      one : (j : ℕ) → j < length t.stamps → (j ≡ k) ⊎ (j ≡ k → ⊥) → is_serving (get_or (set t.stamps k s) j no_stamp) ≡ is_application serving j
      one j h (inl e) = ap is_serving (ap (λ i. get_or (set t.stamps k s) i no_stamp) e ∙ get_or-set_same t.stamps k s no_stamp within) ∙ here ∙ ap (is_application serving) (sym e)
      one j h (inr ne) = ap is_serving (get_or-set_other t.stamps k j s no_stamp ne) ∙ sound.one j h ∙ others j ne

-- a step that is made only where its test passes
guarded : (t new : Table) (test : Bool) → Sound t → (test ≡ true → Sound new) → Sound (cond test new t)
guarded t new test sound made = cond_both test new t Sound made (λ _. sound)

-- What the tests of a status tell.
idle_rests : (s : Stamp) → is_idle s ≡ true → is_serving s ≡ false
idle_rests s h = go s.status h
  where
    go : (st : Status) → by_status st true false false ≡ true → by_status st false false true ≡ false
    go Idle h = refl
    go Queued h = refl
    go Serving h = absurd (true≢false (sym h))

serves_at : (s : Stamp) → is_serving s ≡ true → position s ≡ paid s
serves_at s h = go s.status h
  where
    go : (st : Status) → by_status st false false true ≡ true → by_status st s.reached s.start (paid s) ≡ paid s
    go Idle h = absurd (true≢false (sym h))
    go Queued h = absurd (true≢false (sym h))
    go Serving h = refl

-- What the test of a budget tells.
budget_fits : (b : ℕ) (s : Stamp) → may_have b s ≡ true → (0 < b) × (b ≤ s.limit)
budget_fits b s h = let p = and_parts (ltb 0 b) (leb b s.limit) h in (ltb-true 0 b p.0, leb-true b s.limit p.1)

-- The steps of an idle application.
pub woken_sound : (k : ℕ) (t : Table) → Sound t → Sound (woken k t)
woken_sound k t sound =
    guarded t _ (can_wake k t) sound
    (λ can.
    let p = and_parts (ltb k (length t.stamps)) (is_idle (row t k)) can in
    let inside = ltb-true k (length t.stamps) p.0 in
    let m = sound.each k inside in
    let s = row t k in
    let cost = spent_high s.budget s.cost (omega (arith, m.budget_high, m.limit_high)) m.cost_high in
    let start : max t.virtual s.reached ≤ 403200 * t.sent = omega (arith, m.reached_high, sound.pace) in
    let modest : Modest t.sent (wake_stamp t.virtual s) =
    record {
      cost_high = m.cost_high;
      limit_high = m.limit_high;
      budget_low = m.budget_low;
      budget_high = m.budget_high;
      served_high = m.served_high;
      start_high = start;
      reached_high = m.reached_high;
      position_high = start;
      finish_high = omega (arith, start, cost);
    } in
    one_row t sound k inside t.virtual t.sent t.serving (wake_stamp t.virtual s) (le_refl t.sent) sound.sectors sound.pace modest
    (sym (idle_rests s p.1) ∙ sound.one k inside) (λ j ne. refl) sound.within)

pub allotted_sound : (k b : ℕ) (t : Table) → Sound t → Sound (allotted k b t)
allotted_sound k b t sound =
    guarded t _ (can_allot k b t) sound
    (λ can.
    let q = and_parts (can_wake k t) (may_have b (row t k)) can in
    let p = and_parts (ltb k (length t.stamps)) (is_idle (row t k)) q.0 in
    let b_fits = budget_fits b (row t k) q.1 in
    let inside = ltb-true k (length t.stamps) p.0 in
    let m = sound.each k inside in
    let s = row t k in
    let modest : Modest t.sent (with_budget b s) =
    record {
      cost_high = m.cost_high;
      limit_high = m.limit_high;
      budget_low = b_fits.0;
      budget_high = b_fits.1;
      served_high = m.served_high;
      start_high = m.start_high;
      reached_high = m.reached_high;
      position_high = m.position_high;
      finish_high = m.finish_high;
    } in
    one_row t sound k inside t.virtual t.sent t.serving (with_budget b s) (le_refl t.sent) sound.sectors sound.pace modest
    (sound.one k inside) (λ j ne. refl) sound.within)

-- an idle application's row, and the room ahead of it
module _ (t : Table) (sound : Sound t) (k : ℕ) where
  idle_row : (s : Stamp) → slice_get t.stamps k ≡ Some s → is_idle s ≡ true → Resting t k s
  idle_row s e idle =
      let inside = slice_get_within t.stamps k s e in
      let r : row t k ≡ s = get_or_from_slice_get t.stamps k s no_stamp e in
      let m = subst (Modest t.sent) r (sound.each k inside) in
      record {
        is = and_from (ltb k (length t.stamps)) (is_idle (row t k)) (lt-ltb k (length t.stamps) inside) (ap is_idle r ∙ idle);
        inside = inside;
        reads = r;
        room = omega (arith, sound.pace, sound.sectors, m.reached_high, spent_high s.budget s.cost (omega (arith, m.budget_high, m.limit_high)) m.cost_high);
      }

  -- the row read, kept where it is idle
  pub resting : (read kept : Option Stamp) → read ≡ slice_get t.stamps k → MatchOption read (kept ≡ None) (λ s. kept ≡ then_some (is_idle s) s) → MatchOption kept (can_wake k t ≡ false) (Resting t k)
  resting None kept e is = grind (arith, nat_tests, gets)
  resting (Some s) None e is = grind (arith, nat_tests, gets)
  resting (Some s) (Some k) e is = grind (arith, nat_tests, gets, idle_row)

-- The steps of the application that serves.
module _ (t : Table) (sound : Sound t) (k : ℕ) (e : t.serving ≡ Some k) where
  pub serving_within : k < length t.stamps
  serving_within = sound.within k e

  -- its row is modest, and what it paid for lies in reach
  serving_modest : Modest t.sent (row t k)
  serving_modest = sound.each k serving_within

  serving_is : is_serving (row t k) ≡ true
  serving_is = sound.one k serving_within ∙ ap (λ o. is_application o k) e ∙ eq-eqb k k refl

  serving_paid : paid (row t k) ≤ 403200 * t.sent
  serving_paid = rw (← serves_at (row t k) serving_is) serving_modest.position_high

  pub current : (s : Stamp) → row t k ≡ s → Current t k s
  current s r =
      let m = subst (Modest t.sent) r serving_modest in
      record {
        is = e;
        inside = serving_within;
        reads = r;
        served_high = m.served_high;
        paid_high = omega (arith, rw r at serving_paid, sound.sectors);
        limit_high = m.limit_high;
        cost_high = m.cost_high;
        sent_high = sound.sectors;
        virtual_high = omega (arith, sound.pace, sound.sectors);
      }

  -- nobody else serves
  alone : (j : ℕ) → (j ≡ k → ⊥) → is_application t.serving j ≡ false
  alone j ne = ap (λ o. is_application o j) e ∙ ne_eqb k j (λ q. ne (sym q))

  -- its turn ends: nobody serves
  turn_over : (s : Stamp) → Modest t.sent s → is_serving s ≡ false → Sound (record { virtual = t.virtual; sent = t.sent; serving = None; stamps = set t.stamps k s })
  turn_over s modest rests = one_row t sound k serving_within t.virtual t.sent None s (le_refl t.sent) sound.sectors sound.pace modest rests alone (λ j q. let z : ◌≡◌ {A = ℕ} 0 1 = cc in absurd (omega arith))

  requeued_here : (b : ℕ) → Sound (requeued_from (Some k) b t)
  requeued_here b =
      guarded t _ (may_requeue b (row t k)) sound
      (λ can.
      let p = and_parts (may_have b (row t k)) (leb (row t k).budget ((row t k).served + b)) can in
      let b_fits = budget_fits b (row t k) p.0 in
      let m = serving_modest in
      let s = row t k in
      let cost = spent_high b s.cost (omega (arith, b_fits.1, m.limit_high)) m.cost_high in
      let modest : Modest t.sent (requeue_stamp b s) =
      record {
        cost_high = m.cost_high;
        limit_high = m.limit_high;
        budget_low = b_fits.0;
        budget_high = b_fits.1;
        served_high = m.served_high;
        start_high = serving_paid;
        reached_high = serving_paid;
        position_high = serving_paid;
        finish_high = omega (arith, serving_paid, cost);
      } in
      turn_over (requeue_stamp b s) modest refl)

  rested_here : (b : ℕ) → Sound (rested_from (Some k) b t)
  rested_here b =
      guarded t _ (may_have b (row t k)) sound
      (λ can.
      let b_fits = budget_fits b (row t k) can in
      let m = serving_modest in
      let s = row t k in
      let modest : Modest t.sent (rest_stamp b s) =
      record {
        cost_high = m.cost_high;
        limit_high = m.limit_high;
        budget_low = b_fits.0;
        budget_high = b_fits.1;
        served_high = m.served_high;
        start_high = m.start_high;
        reached_high = serving_paid;
        position_high = serving_paid;
        finish_high = m.finish_high;
      } in
      turn_over (rest_stamp b s) modest refl)

  charged_here : (size : ℕ) → Sound (charged_to (Some k) size t)
  charged_here size =
      guarded t _ (fits k size t) sound
      (λ can.
      let p = and_parts (leb ((row t k).served + size) (row t k).budget) (leb (t.sent + size) (2 ^ 40)) can in
      let m = serving_modest in
      let s = row t k in
      let room = leb-true (s.served + size) s.budget p.0 in
      let most = leb-true (t.sent + size) (2 ^ 40) p.1 in
      let dear : size * s.cost ≤ size * 403200 = mul-le-mul_left size m.cost_high in
      let now_paid : s.start + (s.served + size) * s.cost ≤ 403200 * (t.sent + size) = omega (arith, serving_paid, dear) in
      let modest : Modest (t.sent + size) (charge_stamp size s) =
      record {
        cost_high = m.cost_high;
        limit_high = m.limit_high;
        budget_low = m.budget_low;
        budget_high = m.budget_high;
        served_high = omega (arith, room, m.budget_high, m.limit_high);
        start_high = omega (arith, m.start_high);
        reached_high = omega (arith, m.reached_high);
        position_high = rw (serves_at (charge_stamp size s) serving_is) now_paid;
        finish_high = omega (arith, m.finish_high);
      } in
      one_row t sound k serving_within (t.virtual + 2520 * size) (t.sent + size) (Some k) (charge_stamp size s) (omega arith) most (omega (arith, sound.pace)) modest
      (serving_is ∙ sym (eq-eqb k k refl)) (λ j ne. ap (λ o. is_application o j) e) (λ j q. let z : k ≡ j = cc in omega (arith, serving_within)))

-- a step of the application that serves, if any does
by_serving : (f : Option ℕ → Table) (t : Table) → Sound (f None) → ((k : ℕ) → t.serving ≡ Some k → Sound (f (Some k))) → Sound (f t.serving)
by_serving f t none some = go t.serving refl
  where
    go : (o : Option ℕ) → t.serving ≡ o → Sound (f o)
    go None e = none
    go (Some k) e = some k e

pub requeued_sound : (b : ℕ) (t : Table) → Sound t → Sound (requeued b t)
requeued_sound b t sound = by_serving (λ o. requeued_from o b t) t sound (λ k e. requeued_here t sound k e b)

pub rested_sound : (b : ℕ) (t : Table) → Sound t → Sound (rested b t)
rested_sound b t sound = by_serving (λ o. rested_from o b t) t sound (λ k e. rested_here t sound k e b)

pub charged_sound : (size : ℕ) (t : Table) → Sound t → Sound (charged size t)
charged_sound size t sound = by_serving (λ o. charged_to o size t) t sound (λ k e. charged_here t sound k e size)

-- The pick.
module _ (t : Table) (sound : Sound t) where
  first_least : (eligible : Stamp → Bool) (key : Stamp → ℕ) (k : ℕ) → place eligible (λ x y. ltb (key x) (key y)) t.stamps ≡ Some k → FirstLeast eligible (λ x y. ltb (key x) (key y)) t.stamps k
  first_least eligible key k e =
      subst (λ o. MatchOption o (NoneEligible eligible t.stamps) (FirstLeast eligible (λ x y. ltb (key x) (key y)) t.stamps)) e (place_means eligible (λ x y. ltb (key x) (key y)) (IsStrictWeakOrder-by_number key) t.stamps)

  pub pick_time_high : pick_time t ≤ 403200 * t.sent
  pick_time_high = go (place is_queued start_before t.stamps) refl
    where
      go : (o : Option ℕ) → place is_queued start_before t.stamps ≡ o → pushed_to t o ≤ 403200 * t.sent
      go None e = sound.pace
      go (Some k) e = omega (arith, sound.pace, (sound.each k (first_least is_queued (λ s. s.start) k e).within).start_high)

  picked_here : (k : ℕ) → t.serving ≡ None → finishing (pick_time t) t ≡ Some k → Sound (picked_by (Some k) t)
  picked_here k free e =
      let inside = (first_least (eligible (pick_time t)) (λ s. s.finish) k e).within in
      let m = sound.each k inside in
      let s = row t k in
      let modest : Modest t.sent (serve_stamp s) =
      record {
        cost_high = m.cost_high;
        limit_high = m.limit_high;
        budget_low = m.budget_low;
        budget_high = m.budget_high;
        served_high = omega arith;
        start_high = m.start_high;
        reached_high = m.reached_high;
        position_high = omega (arith, m.start_high);
        finish_high = m.finish_high;
      } in
      one_row t sound k inside (pick_time t) t.sent (Some k) (serve_stamp s) (le_refl t.sent) sound.sectors pick_time_high modest
      (sym (eq-eqb k k refl)) (λ j ne. ap (λ o. is_application o j) free ∙ sym (ne_eqb k j (λ q. ne (sym q)))) (λ j q. let z : k ≡ j = cc in omega (arith, inside))

pub picked_sound : (t : Table) → Sound t → Sound (picked t)
picked_sound t sound = go t.serving refl
  where
    free : (o : Option ℕ) → t.serving ≡ None → finishing (pick_time t) t ≡ o → Sound (picked_by o t)
    free None f e = sound
    free (Some k) f e = picked_here t sound k f e

    go : (o : Option ℕ) → t.serving ≡ o → Sound (picked_by (pick_beside o t) t)
    go None e = free (finishing (pick_time t) t) e refl
    go (Some k) e = sound
