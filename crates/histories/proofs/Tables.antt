-- What the operations of the stamp table leave where they are in place, and whom a pick finds.
use Rattle.std.proofs.Common.{◌≡◌, ℕ, ◌+◌, ◌^◌, ◌<◌, ◌≤◌, Bool, true, ltb, leb, ◌⊎◌, length, set, Some, None, Option, sym, refl, ap, ◌∙◌, subst, inl, inr, MatchOption}
use native.Mathlib.Nat.{le-max_right}
use Rattle.std.proofs.lemmas.Bool.{and_parts, and_from, le-leb, lt-ltb, cond-true, true≢false, both_ways, cases_lt}
use Rattle.std.proofs.lemmas.List.{get_or_past}
use Rattle.std.proofs.lemmas.List.MinMax.{IsStrictWeakOrder-by_number}
use Rattle.least.specs.Choice.{place, FirstLeast, NoneEligible}
use Rattle.least.proofs.Places.{place_means}
use Rattle.rosters.specs.Stamps.{is_idle, is_queued, no_stamp, may_have}
use Rattle.rosters.specs.declared.stamp.Stamp.{Stamp}
use Rattle.stamps.specs.Rows.{wake_stamp, charge_stamp, rest_stamp, requeue_stamp, moved}
use Rattle.stamps.specs.Tables.{Table, row}
use Rattle.stamps.specs.Steps.{changed, can_wake, woken, eligible, start_before, pushed_to, pick_time, finishing, pick_beside, pick_answer, picked_by, picked, fits, charged_to, charged, may_requeue, requeued_from, requeued, rested_from, rested}

-- where an operation is in place
pub rested_is : (t : Table) (k b : ℕ) → t.serving ≡ Some k → may_have b (row t k) ≡ true → rested b t ≡ changed k (rest_stamp b (row t k)) None t
rested_is t k b e h = ap (λ o. rested_from o b t) e ∙ cond-true (may_have b (row t k)) (changed k (rest_stamp b (row t k)) None t) t h

pub requeued_is : (t : Table) (k b : ℕ) → t.serving ≡ Some k → may_requeue b (row t k) ≡ true → requeued b t ≡ changed k (requeue_stamp b (row t k)) None t
requeued_is t k b e h = ap (λ o. requeued_from o b t) e ∙ cond-true (may_requeue b (row t k)) (changed k (requeue_stamp b (row t k)) None t) t h

pub woken_is : (t : Table) (k : ℕ) → k < length t.stamps → is_idle (row t k) ≡ true → woken k t ≡ changed k (wake_stamp t.virtual (row t k)) t.serving t
woken_is t k h e = cond-true (can_wake k t) (changed k (wake_stamp t.virtual (row t k)) t.serving t) t (and_from (ltb k (length t.stamps)) (is_idle (row t k)) (lt-ltb k (length t.stamps) h) e)

abbrev pub charged_table : ℕ → ℕ → Table → Table
charged_table k size t = record { virtual = moved t.virtual size; sent = t.sent + size; serving = Some k; stamps = set t.stamps k (charge_stamp size (row t k)) }

pub fits_is : (t : Table) (k size : ℕ) → (row t k).served + size ≤ (row t k).budget → t.sent + size ≤ 2 ^ 40 → fits k size t ≡ true
fits_is t k size h room = and_from (leb ((row t k).served + size) (row t k).budget) (leb (t.sent + size) (2 ^ 40)) (le-leb ((row t k).served + size) (row t k).budget h) (le-leb (t.sent + size) (2 ^ 40) room)

pub charged_is : (t : Table) (k size : ℕ) → t.serving ≡ Some k → fits k size t ≡ true → charged size t ≡ charged_table k size t
charged_is t k size e h = ap (λ o. charged_to o size t) e ∙ cond-true (fits k size t) (charged_table k size t) t h

abbrev pub picked_table : ℕ → Table → Table
picked_table k t = picked_by (Some k) t

pub picked_is : (t : Table) (k : ℕ) → pick_answer t ≡ Some k → picked t ≡ picked_table k t
picked_is t k e = ap (λ o. picked_by o t) e

-- the choosing rule over the rows, by a key
means : (t : Table) (test : Stamp → Bool) (key : Stamp → ℕ) (o : Option ℕ) → place test (λ x y. ltb (key x) (key y)) t.stamps ≡ o
    → MatchOption o (NoneEligible test t.stamps) (FirstLeast test (λ x y. ltb (key x) (key y)) t.stamps)
means t test key o e = subst (λ p. MatchOption p (NoneEligible test t.stamps) (FirstLeast test (λ x y. ltb (key x) (key y)) t.stamps)) e (place_means test (λ x y. ltb (key x) (key y)) (IsStrictWeakOrder-by_number key) t.stamps)

pub record Found (t : Table) (k : ℕ) : Type 0 where
  pub free : t.serving ≡ None
  pub inside : k < length t.stamps
  pub queued : is_queued (row t k) ≡ true

-- whom a pick finds
pub pick_finds : (t : Table) (k : ℕ) → pick_answer t ≡ Some k → Found t k
pick_finds t k e = go t.serving refl e
  where
    go : (o : Option ℕ) → t.serving ≡ o → pick_beside o t ≡ Some k → Found t k
    go None free e =
        let f = means t (eligible (pick_time t)) (λ s. s.finish) (Some k) e in
        record { free = free; inside = f.within; queued = (and_parts (is_queued (row t k)) (leb (row t k).start (pick_time t)) (f.fits no_stamp)).0 }
    go (Some j) busy e = absurd cc

-- it finds nobody where nobody is queued, and then alone
pub pick_misses : (t : Table) → t.serving ≡ None → pick_answer t ≡ None → (j : ℕ) → is_queued (row t j) ≡ true → ⊥
pick_misses t free e j q = first (place is_queued start_before t.stamps) refl
  where
    h : j < length t.stamps
    h = go (cases_lt j (length t.stamps))
      where
        go : (j < length t.stamps) ⊎ (length t.stamps ≤ j) → j < length t.stamps
        go (inl lt) = lt
        go (inr le) = absurd (true≢false (sym q ∙ ap is_queued (get_or_past t.stamps j no_stamp le)))

    missed : finishing (pick_time t) t ≡ None
    missed = sym (ap (λ o. pick_beside o t) free) ∙ e

    -- the one of the least start has started by then
    first : (o : Option ℕ) → place is_queued start_before t.stamps ≡ o → ⊥
    first None p = both_ways (is_queued (row t j)) (means t is_queued (λ s. s.start) None p j no_stamp h) q
    first (Some k) p =
        let f = means t is_queued (λ s. s.start) (Some k) p in
        let started : (row t k).start ≤ pick_time t = subst (λ o. (row t k).start ≤ pushed_to t o) (sym p) (le-max_right t.virtual (row t k).start) in
        both_ways (eligible (pick_time t) (row t k))
        (means t (eligible (pick_time t)) (λ s. s.finish) None missed k no_stamp f.within)
        (and_from (is_queued (row t k)) (leb (row t k).start (pick_time t)) (f.fits no_stamp) (le-leb (row t k).start (pick_time t) started))
