-- The promises, for every history that is a run of the machine.
use Rattle.std.proofs.Common.{◌≡◌, ℕ, ◌+◌, ◌-◌, ◌*◌, ◌≤◌, [], ◌∷◌, ◌++◌, Some, None, sym, ap, ◌∙◌, subst, arith}
use Rattle.std.specs.List.{slice_get}
use Rattle.rosters.specs.Rosters.{LineUp, total_weight, largest_limit}
use Rattle.stamps.specs.Steps.{initial}
use Rattle.pools.specs.Lines.{Choice}
use Rattle.machine.specs.Machine.{Machine, Rule, beginning}
use Rattle.share_law.specs.Courses as courses
use Rattle.share_law.specs.Shares as shares
use Rattle.share_law.proofs.Start.{limit_high}
use Rattle.share_law.specs.Shares.{weight_of, limit_of, Listed, table_after}
use Rattle.histories.specs.History.{dispatch, Answer, holds, entry, History, unknown, known, head, completed_last, sent_in, sent_for, NeverIdle}
use Rattle.histories.specs.Promises.{Lawful, Sealed, Run, after, Lingers, EndsAt, Next, Answers, Promises}
use Rattle.histories.proofs.Courses.{Led, after_append}
use Rattle.histories.proofs.Invariant.{Inv}
use Rattle.histories.proofs.Dispatch.{Answered, rests, keeps, moves}
use Rattle.histories.proofs.Entries.{dispatch_answered}
use Rattle.histories.proofs.Start.{opening, opening_ends, start_inv}
use Rattle.histories.proofs.Whole.{Never, never, run_before, run_rest, inv_after, led_over}

-- one fact for each answer gives what each means, and when it is given
module _ (choice : Choice) (r : LineUp) (time : ℕ) (h : History) (a : Answer) where
  differ : {X : Type 0} → ◌≡◌ {A = ℕ} 0 1 → X
  differ z = absurd (omega arith)

  pub answers : Answered choice r time (λ k. known k h) (completed_last h) (head h) a → Answers choice r time h a
  answers (rests e idle) = record {
    none_if = λ _. e;
    none_only = λ _ k _. idle k;
    hold_if = λ k l. absurd (l.not_idle (idle k));
    hold_only = λ k u s. differ (cc);
    sends_else = λ busy _. absurd (busy (λ k _. idle k));
    sends_only = λ q s. differ (cc);
  }
  answers (keeps k since e listed l latest) = record {
    none_if = λ idle. absurd (l.not_idle (idle k listed));
    none_only = λ s. differ (cc);
    hold_if = λ j m. (since + r.hold, e ∙ ap (λ i. holds i (since + r.hold)) (who j m));
    hold_only = λ j u s. it j u (sym e ∙ s);
    sends_else = λ _ nobody. absurd (nobody k l);
    sends_only = λ q s. differ (cc);
  }
    where
      who : (j : ℕ) → Lingers r time h j → k ≡ j
      who j m = let z : Some k ≡ Some j = sym l.completed ∙ m.completed in cc

      it : (j u : ℕ) → holds k (since + r.hold) ≡ holds j u → Lingers r time h j × EndsAt r h j u
      it j u s =
          let same_k : k ≡ j = cc in
          let same_u : since + r.hold ≡ u = cc in
          subst (λ i. Lingers r time h i × EndsAt r h i u) same_k (l, (since, latest, sym same_u))
  answers (moves q e listed chosen nobody) = record {
    none_if = λ idle. absurd (empty (idle q.application listed).none_waits);
    none_only = λ s. differ (cc);
    hold_if = λ k l. absurd (nobody k l);
    hold_only = λ k u s. differ (cc);
    sends_else = λ _ _. (q, e);
    sends_only = λ p s. let is : q ≡ p = cc in subst (Next choice r h) is (record { listed = listed; chosen = chosen });
  }
    where
      empty : (known q.application h).waiting ≡ [] → ⊥
      empty w = let z : ◌≡◌ {A = ℕ} 0 1 = none_there (ap (λ l. slice_get l (choice l (head h))) (sym w) ∙ chosen) in omega arith
        where
          none_there : None ≡ Some q → ◌≡◌ {A = ℕ} 0 1
          none_there s = cc

module _ (choice : Choice) (first : ℕ → ℕ) (next : Rule) (lawful : Lawful choice first next) (r : LineUp) (sealed : Sealed r) (law : shares.Law r) where
  -- the machine after a history, and what holds of it then
  inv_at : (h : History) → Run choice next (beginning first r) h → Inv r (after choice next (beginning first r) h) (λ k. known k h) (completed_last h) (head h)
  inv_at h run = inv_after choice first next lawful r sealed h (beginning first r) (λ _. unknown) None 0 (start_inv choice first next lawful r sealed) run

  -- the table after a history is one that the share law speaks of
  way : (h : History) → Run choice next (beginning first r) h → (course : courses.Course) × (table_after r course ≡ (after choice next (beginning first r) h).table)
  way h run =
      let l = led_over choice first next lawful r sealed h (beginning first r) (λ _. unknown) None 0 (start_inv choice first next lawful r sealed) run in
      let o = opening choice first next lawful r sealed in
      (o ++ l.course, after_append o l.course (initial r) ∙ ap (courses.after l.course) (opening_ends choice first next lawful r sealed) ∙ l.ends)

  -- a stretch of a history
  module _ (before stretch later : History) (run : Run choice next (beginning first r) (before ++ (stretch ++ later))) where
    abbrev m : Machine
    m = after choice next (beginning first r) before

    to : (course : courses.Course) × (table_after r course ≡ m.table)
    to = way before (run_before choice first next lawful r sealed (beginning first r) before (stretch ++ later) run)

    led : Led m.table (after choice next m stretch).table (sent_in stretch) (λ k. sent_for k stretch) (λ k. Never r.hold k (known k before) stretch)
    led = led_over choice first next lawful r sealed stretch m (λ k. known k before) (completed_last before) (head before)
        (inv_at before (run_before choice first next lawful r sealed (beginning first r) before (stretch ++ later) run))
        (run_before choice first next lawful r sealed m stretch later (run_rest choice first next lawful r sealed (beginning first r) before (stretch ++ later) run))

    idle_never : (k : ℕ) → NeverIdle r.hold k before stretch → courses.NeverIdle k led.course (table_after r to.0)
    idle_never k n = subst (courses.NeverIdle k led.course) (sym to.1) (led.asks k (never r.hold k before stretch n))

    all : courses.sent_in led.course (table_after r to.0) ≡ sent_in stretch
    all = ap (courses.sent_in led.course) to.1 ∙ led.all

    own : (k : ℕ) → courses.sent_for k led.course (table_after r to.0) ≡ sent_for k stretch
    own k = ap (courses.sent_for k led.course) to.1 ∙ led.own k

    share : (k : ℕ) → Listed r k → NeverIdle r.hold k before stretch
        → weight_of r k * sent_in stretch ≤ total_weight r * sent_for k stretch + (2 * total_weight r - weight_of r k) * limit_of r k + weight_of r k * largest_limit r
    share k listed n =
        subst (λ A. weight_of r k * A ≤ total_weight r * sent_for k stretch + (2 * total_weight r - weight_of r k) * limit_of r k + weight_of r k * largest_limit r) all
        (subst (λ S. weight_of r k * courses.sent_in led.course (table_after r to.0) ≤ total_weight r * S + (2 * total_weight r - weight_of r k) * limit_of r k + weight_of r k * largest_limit r) (own k)
        (law.share_bound to.0 led.course k listed (idle_never k n)))

    pair : (i j : ℕ) → Listed r i → Listed r j → NeverIdle r.hold i before stretch → NeverIdle r.hold j before stretch
        → total_weight r * weight_of r j * sent_for i stretch + weight_of r i * weight_of r j * (limit_of r i + limit_of r j)
        ≤ total_weight r * weight_of r i * sent_for j stretch
        + 2 * total_weight r * (weight_of r j * limit_of r i + weight_of r i * limit_of r j)
        + 2 * weight_of r i * weight_of r j * largest_limit r
    pair i j li lj ni nj =
        let bound = law.pair_bound to.0 led.course i j li lj (idle_never i ni) (idle_never j nj) in
        let whole : (2 * largest_limit r - limit_of r i - limit_of r j) + (limit_of r i + limit_of r j) ≡ 2 * largest_limit r =
        omega (arith, limit_high r sealed.each i li, limit_high r sealed.each j lj) in
        omega
        (arith, bound, ap (λ n. weight_of r i * weight_of r j * n) whole, ap (λ n. total_weight r * weight_of r j * n) (own i), ap (λ n. total_weight r * weight_of r i * n) (own j))

  pub kept : Promises choice first next r
  kept h run = record {
    share_bound = λ before stretch later k e. share before stretch later (subst (Run choice next (beginning first r)) e run) k;
    pair_bound = λ before stretch later i j e. pair before stretch later (subst (Run choice next (beginning first r)) e run) i j;
    dispatch_answers = λ before later time a e h.
        let cut = subst (Run choice next (beginning first r)) e run in
        let here = run_rest choice first next lawful r sealed (beginning first r) before (entry (dispatch time) a ∷ later) cut in
        answers choice r time before a
        (dispatch_answered choice first next lawful r sealed (after choice next (beginning first r) before) (λ k. known k before) (completed_last before) (head before)
        (inv_at before (run_before choice first next lawful r sealed (beginning first r) before (entry (dispatch time) a ∷ later) cut)) time a h (here.0 h));
  }
