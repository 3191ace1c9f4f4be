-- How far a step moves each application and the virtual time.
use Rattle.std.proofs.Common.{◌≡◌, ℕ, ◌+◌, ◌*◌, ◌<◌, ◌≤◌, max, cond, eqb, ◌⊎◌, List, length, sym, refl, ap, subst, inl, inr, ⊎_elim, mul-le-mul_right, mul-le-mul_left, arith}
use Rattle.std.proofs.lemmas.List.{length-set}
use Rattle.std.proofs.lemmas.Bool.{eq-eqb, ne_eqb, cond-true, cond-false, cond_both}
use Rattle.share_model.specs.Model.{Status, idle, active, Row, Server, State, state, row, row_of, put, with_status, place, Active}
use Rattle.share_model.specs.Model.{Amount, nothing, sectors, Step, wake, pick, send, requeue, rest, sent, sent_for}
use Rattle.share_model.specs.Invariant.{Fresh, Inv}
use Rattle.share_model.specs.Stretch.{Moved, Low}
use Rattle.share_model.proofs.Rows.{each_set, active_within}
use Rattle.share_model.proofs.Keeps.{some_weight}

-- the row of each application after one took another status, if S counts no sectors of the others
put_moved : (rs : List Row) (k : ℕ) (st : Status) (v v' : ℕ) (S : ℕ → ℕ) → k < length rs → ((i : ℕ) → (i ≡ k → ⊥) → S i ≡ 0)
    → (Active (row_of rs k).status → place st ≡ place (row_of rs k).status + (row_of rs k).cost * S k)
    → (Active (row_of rs k).status → Active st ⊎ (v' ≤ v))
    → (i : ℕ) → i < length rs → Moved (row_of rs i) (row_of (put rs k st) i) v v' (S i)
put_moved rs k st v v' S at others grows stays i l =
    each_set (λ j x. Moved (row_of rs j) x v v' (S j)) rs k (with_status (row_of rs k) st) at
    (record { same = refl; grows = grows; stays = stays })
    (λ j m n. record {
      same = refl;
      grows = λ g. omega (arith, ap (λ z. (row_of rs j).cost * z) (others j n));
      stays = λ g. inl g;
    })
    i (simp length-set l)

-- what each step does to each application, and to the virtual time
pub step_moved : (a b : State) {x : Amount} → Step a b x → (i : ℕ) → i < length a.rows
    → Moved (row a i) (row b i) a.time b.time (sent_for i x)
step_moved a b (wake k r budget at is more few e) i l =
    let never : Active (row a k).status → ⊥ = λ g. subst Active is g in
    subst (λ x. Moved (row a i) (row x i) a.time x.time 0) (sym e)
    (put_moved a.rows k (active (max a.time r) budget) a.time a.time (λ j. 0) at (λ j n. refl)
    (λ g. absurd (never g)) (λ g. inl tt) i l)
step_moved a b (pick k p m v at sv is here later least first e) i l =
    subst (λ x. Moved (row a i) (row x i) a.time x.time 0) (sym e)
    (record { same = refl; grows = λ g. omega arith; stays = λ g. inl g })
step_moved a b (send k n p m s sv is e) i l =
    let at : k < length a.rows = active_within a.rows k (subst Active (sym is) tt) in
    subst (λ x. Moved (row a i) (row x i) a.time x.time (cond (eqb i k) s 0)) (sym e)
    (put_moved a.rows k (active (p + s * (row a k).cost) m) a.time (a.time + 2520 * s) (λ j. cond (eqb j k) s 0) at
    (λ j n. cond-false (eqb j k) s 0 (ne_eqb j k n))
    (λ g. omega (arith, ap place is, ap (λ z. (row a k).cost * z) (cond-true (eqb k k) s 0 (eq-eqb k k refl))))
    (λ g. inl tt) i l)
step_moved a b (requeue k n p m budget sv is up more few e) i l =
    subst (λ x. Moved (row a i) (row x i) a.time x.time 0) (sym e)
    (put_moved a.rows k (active p budget) a.time a.time (λ j. 0) (active_within a.rows k (subst Active (sym is) tt))
    (λ j n. refl) (λ g. omega (arith, ap place is)) (λ g. inl tt) i l)
step_moved a b (rest k n p m sv is e) i l =
    subst (λ x. Moved (row a i) (row x i) a.time x.time 0) (sym e)
    (put_moved a.rows k (idle p) a.time a.time (λ j. 0) (active_within a.rows k (subst Active (sym is) tt))
    (λ j n. refl) (λ g. omega (arith, ap place is)) (λ g. inr (omega arith)) i l)

pub step_passed : (a b : State) {x : Amount} → Step a b x → a.time + 2520 * sent x ≤ b.time
step_passed a b (wake k r budget at is more few e) = omega (arith, ap (λ (x : State). x.time) e)
step_passed a b (pick k p m v at sv is here later least first e) = omega (arith, ap (λ (x : State). x.time) e)
step_passed a b (send k n p m s sv is e) = omega (arith, ap (λ (x : State). x.time) e)
step_passed a b (requeue k n p m budget sv is up more few e) = omega (arith, ap (λ (x : State). x.time) e)
step_passed a b (rest k n p m sv is e) = omega (arith, ap (λ (x : State). x.time) e)

pub sent_part : (i : ℕ) (x : Amount) → sent_for i x ≤ sent x
sent_part i nothing = omega arith
sent_part i (sectors k s) = cond_both (eqb i k) s 0 (λ z. z ≤ s) (λ e. omega arith) (λ e. omega arith)

-- positions and virtual time grow by at most 2520 * T for each sector
low_put : (T X X' : ℕ) (a b : State) (k : ℕ) (st : Status) (v : ℕ) (sv : Server) → b ≡ state (put a.rows k st) v sv
    → k < length a.rows → X ≤ X' → Low T X a → v ≤ 2520 * (T * X') → place st ≤ 2520 * (T * X') → Low T X' b
low_put T X X' a b k st v sv e at grows low clock here = subst (Low T X') (sym e) (record {
  clock = clock;
  places = each_set (λ j x. place x.status ≤ 2520 * (T * X')) a.rows k (with_status (row a k) st) at here
      (λ j l n. omega (arith, low.places j l, mul-le-mul_left T grows));
})

pub low_step : (T M X : ℕ) (a b : State) {x : Amount} → Inv T M a → Step a b x → Low T X a → Low T (X + sent x) b
low_step T M X a b inv (wake k r budget at is more few e) low =
    low_put T X (X + 0) a b k _ _ _ e at (omega arith) low
    (omega (arith, low.clock)) (omega (arith, low.clock, low.places k at, ap place is))
low_step T M X a b inv (pick k p m v at sv is here later least first e) low =
    let clock : v ≤ 2520 * (T * (X + 0)) = ⊎_elim (λ g. omega (arith, low.clock))
    (λ pushed. omega (arith, pushed k p m at is, low.places k at, ap place is)) least in
    subst (Low T (X + 0)) (sym e) (record { clock = clock; places = λ j l. omega (arith, low.places j l) })
low_step T M X a b inv (send k n p m s sv is e) low =
    let at : k < length a.rows = active_within a.rows k (subst Active (sym is) tt) in
    let r = row a k in
    let terms = (inv.each k at).terms in
    let cheap : r.cost ≤ 2520 * T = omega (arith, mul-le-mul_right r.cost terms.some, terms.rate) in
    low_put T X (X + s) a b k _ _ _ e at (omega arith) low
    (omega (arith, low.clock, mul-le-mul_right s (some_weight T M a k at inv)))
    (omega (arith, low.places k at, ap place is, mul-le-mul_left s cheap))
low_step T M X a b inv (requeue k n p m budget sv is up more few e) low =
    let at : k < length a.rows = active_within a.rows k (subst Active (sym is) tt) in
    low_put T X (X + 0) a b k _ _ _ e at (omega arith) low (omega (arith, low.clock)) (omega (arith, low.places k at, ap place is))
low_step T M X a b inv (rest k n p m sv is e) low =
    let at : k < length a.rows = active_within a.rows k (subst Active (sym is) tt) in
    low_put T X (X + 0) a b k _ _ _ e at (omega arith) low (omega (arith, low.clock)) (omega (arith, low.places k at, ap place is))

pub low_start : (T M : ℕ) (a : State) → Fresh T M a → Low T 0 a
low_start T M a f = record { clock = omega (arith, f.clock); places = λ i l. omega (arith, ap place (f.resting i l)) }
