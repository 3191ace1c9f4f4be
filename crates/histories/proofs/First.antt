-- The first step of an accepted call: the clock is set, and a hold that has run out ends the turn.
use Rattle.std.proofs.Common.{◌≡◌, ℕ, ◌+◌, ◌^◌, ◌<◌, ◌≤◌, leb, ◌⊎◌, Some, None, Option, sym, refl, ap, ◌∙◌, subst, inl, inr}
use Rattle.std.proofs.lemmas.Bool.{cases_lt, le-leb, lt-leb, cond-true, cond-false}
use Rattle.rosters.specs.Rosters.{LineUp}
use Rattle.pools.specs.Lines.{Choice}
use Rattle.pools.specs.declared.rule.Reason.TheVariants.{HoldRanOut}
use Rattle.machine.specs.Machine.{Machine, Rule, with_clock, with_table, with_until, begun, lapsed, retired_serving}
use Rattle.histories.specs.History as history
use Rattle.histories.specs.History.{Known, NotRecent}
use Rattle.histories.specs.Promises.{Lawful, Sealed}
use Rattle.histories.proofs.Courses.{Led, led_none}
use Rattle.histories.proofs.Invariant.{Disk, vacant, working, ready, held, Core, Inv, stood_later}
use Rattle.histories.proofs.Moves.{Asks, asking, rest_table, retired_rests, rest_core, rest_led}

-- from m to m', while what is known goes from x to x', A sectors are sent, and S k of them for k
pub record Step (r : LineUp) (time : ℕ) (m m' : Machine) (x x' : ℕ → Known) (last : Option ℕ) (head A : ℕ) (S : ℕ → ℕ) : Type 0 where
  pub inv : Inv r m' x' last head
  pub led : Led m.table m'.table A S (Asks r time x)

-- after the first step
pub record Begun (r : LineUp) (time : ℕ) (m m' : Machine) (x : ℕ → Known) (last : Option ℕ) (head : ℕ) : Type 0 where
  pub step : Step r time m m' x x last head 0 (λ _. 0)
  pub clock : m'.clock ≡ time
  pub flight : m'.flight ≡ m.flight
  pub lists : m'.lists ≡ m.lists
  pub count : m'.count ≡ m.count
  pub total : m'.total ≡ m.total

module _ (choice : Choice) (first : ℕ → ℕ) (next : Rule) (lawful : Lawful choice first next) (r : LineUp) (sealed : Sealed r) where
  module _ (m : Machine) (x : ℕ → Known) (last : Option ℕ) (head : ℕ) (inv : Inv r m x last head) (time : ℕ) (later : m.clock ≤ time) (high : time ≤ 2 ^ 40) where
    set_clock : Core r (with_clock time m) x head
    set_clock = record {
      lined = inv.core.lined;
      stood = stood_later _ r.hold m.clock m.table x inv.core.stood time later;
      hold = inv.core.hold;
      clock_high = high;
      head_high = inv.core.head_high;
      head_is = inv.core.head_is;
    }

    -- nobody's turn is over
    goes_on : Disk r.hold time x last m.table.serving m.flight m.until → begun choice next time m ≡ with_clock time m → Begun r time m (begun choice next time m) x last head
    goes_on disk e = subst (λ m'. Begun r time m m' x last head) (sym e)
        (record { step = record { inv = record { core = set_clock; disk = disk }; led = led_none m.table (Asks r time x) }; clock = refl; flight = refl; lists = refl; count = refl; total = refl })

    no_hold : m.until ≡ None → begun choice next time m ≡ with_clock time m
    no_hold e = ap (λ u. lapsed choice next u time (with_clock time m)) e

    pub first_step : Begun r time m (begun choice next time m) x last head
    first_step = by inv.disk
      where
        over : (k since : ℕ) → m.table.serving ≡ Some k → m.flight ≡ None → m.until ≡ Some (since + r.hold) → history.Idle r.hold time (x k) → since + r.hold ≤ time
            → Begun r time m (begun choice next time m) x last head
        over k since e flight until idle h =
            let is : begun choice next time m ≡ with_until None (with_table (rest_table choice first next lawful r sealed (with_clock time m) x head set_clock HoldRanOut k e) (with_clock time m)) =
            ap (λ u. lapsed choice next u time (with_clock time m)) until
            ∙ cond-true (leb (since + r.hold) time) (retired_serving choice next HoldRanOut m.table.serving (with_clock time m)) (with_clock time m) (le-leb (since + r.hold) time h)
            ∙ ap (λ o. retired_serving choice next HoldRanOut o (with_clock time m)) e
            ∙ retired_rests choice first next lawful r sealed (with_clock time m) x head set_clock HoldRanOut k e idle in
            subst (λ m'. Begun r time m m' x last head) (sym is)
            (record {
              step = record {
                inv = record { core = rest_core choice first next lawful r sealed (with_clock time m) x head set_clock HoldRanOut k e idle; disk = vacant refl flight refl };
                led = rest_led choice first next lawful r sealed (with_clock time m) x head set_clock HoldRanOut k e idle (Asks r time x) (asking choice first next lawful r sealed (with_clock time m) x head set_clock);
              };
              clock = refl;
              flight = refl;
              lists = refl;
              count = refl;
              total = refl;
            })

        by : Disk r.hold m.clock x last m.table.serving m.flight m.until → Begun r time m (begun choice next time m) x last head
        by (vacant a b c) = goes_on (vacant a b c) (no_hold c)
        by (working k q a b c d e) = goes_on (working k q a b c d e) (no_hold c)
        by (ready k a b c d) = goes_on (ready k a b c d) (no_hold c)
        by (held k since a b c d e f g h) = either (cases_lt time (since + r.hold))
          where
            either : (time < since + r.hold) ⊎ (since + r.hold ≤ time) → Begun r time m (begun choice next time m) x last head
            either (inl lt) = goes_on (held k since a b c d e f lt h)
                (ap (λ u. lapsed choice next u time (with_clock time m)) c
                ∙ cond-false (leb (since + r.hold) time) (retired_serving choice next HoldRanOut m.table.serving (with_clock time m)) (with_clock time m) (lt-leb (since + r.hold) time lt))
            either (inr le) = over k since a b c (record { none_waits = d; none_outstanding = e; not_recent = subst (NotRecent r.hold time) (sym f) (λ _. le) }) le
