-- Whole histories: the invariant after each, and its entries as one course of table operations.
use Rattle.std.proofs.Common.{◌≡◌, ℕ, ◌+◌, true, [], ◌∷◌, ◌++◌, fold, Option, sym, refl, ap, subst}
use Rattle.std.proofs.lemmas.List.Sums.{sum_by-cons, fold-append}
use Rattle.rosters.specs.Rosters.{LineUp}
use Rattle.pools.specs.Lines.{Choice}
use Rattle.machine.specs.Machine.{Machine, Rule}
use Rattle.histories.specs.History as history
use Rattle.histories.specs.History.{Entry, History, is_accepted, time_of, Known, unknown, learned, known, head_after, last_after, sectors, sectors_for, sent_in, sent_for, NeverIdle}
use Rattle.histories.specs.Promises.{Lawful, Sealed, after_entry, Run, after}
use Rattle.histories.proofs.Courses.{Led, led_none, led_then, led_same}
use Rattle.histories.proofs.Invariant.{Inv}
use Rattle.histories.proofs.Entries.{entry_told}

-- never idle, entry by entry, from what is known
abbrev pub Never : ℕ → ℕ → Known → History → Type 0
Never H k y [] = Unit {0}
Never H k y (e ∷ es) = (is_accepted e.answer ≡ true → history.Idle H (time_of e.call) y → ⊥) × Never H k (learned k y e) es

by_entries : (H k : ℕ) (y : Known) (es : History)
    → ((earlier later : History) (e : Entry) → es ≡ earlier ++ (e ∷ later) → is_accepted e.answer ≡ true → history.Idle H (time_of e.call) (fold (learned k) y earlier) → ⊥)
    → Never H k y es
by_entries H k y [] h = tt
by_entries H k y (e ∷ es) h = (h [] es e refl, by_entries H k (learned k y e) es (λ earlier later d s. h (e ∷ earlier) later d (ap (λ z. e ∷ z) s)))

pub never : (H k : ℕ) (h es : History) → NeverIdle H k h es → Never H k (known k h) es
never H k h es none = by_entries H k (known k h) es (λ earlier later e s a i. none earlier later e s a (subst (history.Idle H (time_of e.call)) (sym (fold-append (learned k) unknown h earlier)) i))

module _ (choice : Choice) (first : ℕ → ℕ) (next : Rule) (lawful : Lawful choice first next) (r : LineUp) (sealed : Sealed r) where
  -- a run in two parts
  pub run_before : (m : Machine) (xs ys : History) → Run choice next m (xs ++ ys) → Run choice next m xs
  run_before m [] ys run = tt
  run_before m (e ∷ xs) ys run = (run.0, run_before (after_entry choice next m e) xs ys run.1)

  pub run_rest : (m : Machine) (xs ys : History) → Run choice next m (xs ++ ys) → Run choice next (after choice next m xs) ys
  run_rest m [] ys run = run
  run_rest m (e ∷ xs) ys run = run_rest (after_entry choice next m e) xs ys run.1

  pub inv_after : (es : History) (m : Machine) (x : ℕ → Known) (last : Option ℕ) (head : ℕ) → Inv r m x last head → Run choice next m es
      → Inv r (after choice next m es) (λ k. fold (learned k) (x k) es) (fold last_after last es) (fold head_after head es)
  inv_after [] m x last head inv run = inv
  inv_after (e ∷ es) m x last head inv run =
      inv_after es (after_entry choice next m e) (λ k. learned k (x k) e) (last_after last e) (head_after head e)
      (entry_told choice first next lawful r sealed m x last head inv e.call e.answer run.0).inv run.1

  pub led_over : (es : History) (m : Machine) (x : ℕ → Known) (last : Option ℕ) (head : ℕ) → Inv r m x last head → Run choice next m es
      → Led m.table (after choice next m es).table (sent_in es) (λ k. sent_for k es) (λ k. Never r.hold k (x k) es)
  led_over [] m x last head inv run = led_none m.table (λ k. Unit {0})
  led_over (e ∷ es) m x last head inv run =
      let one = entry_told choice first next lawful r sealed m x last head inv e.call e.answer run.0 in
      let m₁ = after_entry choice next m e in
      let P : ℕ → Type 0 = λ k. Never r.hold k (x k) (e ∷ es) in
      let more = led_over es m₁ (λ k. learned k (x k) e) (last_after last e) (head_after head e) one.inv run.1 in
      led_same m.table (after choice next m₁ es).table (sectors e.answer + sent_in es) (sent_in (e ∷ es)) (λ k. sectors_for k e.answer + sent_for k es) (λ k. sent_for k (e ∷ es)) P P
      (sym (sum_by-cons (λ (d : Entry). sectors d.answer) e es)) (λ k. sym (sum_by-cons (λ (d : Entry). sectors_for k d.answer) e es)) (λ k p. p)
      (led_then m.table m₁.table (after choice next m₁ es).table (sectors e.answer) (sent_in es) (λ k. sectors_for k e.answer) (λ k. sent_for k es) P
      (led_same m.table m₁.table (sectors e.answer) (sectors e.answer) (λ k. sectors_for k e.answer) (λ k. sectors_for k e.answer) (λ k. is_accepted e.answer ≡ true → history.Idle r.hold (time_of e.call) (x k) → ⊥) P refl (λ k. refl) (λ k p. p.0) one.led)
      (led_same m₁.table (after choice next m₁ es).table (sent_in es) (sent_in es) (λ k. sent_for k es) (λ k. sent_for k es) (λ k. Never r.hold k (learned k (x k) e) es) P refl (λ k. refl) (λ k p. p.1) more))
