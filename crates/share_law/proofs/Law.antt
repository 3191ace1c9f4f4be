-- The law over every course of the table, by that of the model.
use Rattle.std.proofs.Common.{◌≡◌, ℕ, ◌+◌, ◌-◌, ◌*◌, ◌<◌, ◌≤◌, [], length, sym, ap, ◌∙◌, subst, mul_comm, mul-le-mul_left, zero-add, arith}
use native.Mathlib.Nat.{mul-sub}
use Rattle.std.proofs.lemmas.List.{length-map}
use Rattle.rosters.specs.Applications.{AllInRange}
use Rattle.rosters.specs.Rosters.{LineUp, total_weight, largest_limit}
use Rattle.stamps.specs.Rows.{position}
use Rattle.stamps.specs.Steps.{initial}
use Rattle.stamps.specs.Tables.{Table, row}
use Rattle.stamps.proofs.Beginning.{initial_sound}
use Rattle.share_model.specs.Model as model
use Rattle.share_model.specs.Stretch.{WithinShare, WithinPair}
use Rattle.share_model.proofs.Keeps.{inv_start, lag}
use Rattle.share_model.proofs.Law.{share, pair}
use Rattle.share_law.specs.Courses.{Course, after, sent_in, sent_for}
use Rattle.share_law.specs.Shares.{weight_of, limit_of, cost_in, Listed, table_after, Lead, Lag, ShareBound, PairBound, NoOverflow, Law}
use Rattle.share_law.proofs.Courses.{out_of_place}
use Rattle.share_law.proofs.View.{line, view, place_is, active_is, row_is}
use Rattle.share_law.proofs.Start.{rows_start, fresh, weight_high, limit_high}
use Rattle.share_law.proofs.Stretches.{Kept, kept_after, count_after, stretch}

-- what the model says of its row of application k, said of the table's and the roster's
listed : (r : LineUp) (t : Table) → Kept r t → (k : ℕ) → Listed r k → (P : (w m c p : ℕ) → Type 0)
    → P (model.row (view t) k).weight (model.row (view t) k).limit (model.row (view t) k).cost (model.place (model.row (view t) k).status)
    → P (weight_of r k) (limit_of r k) (cost_in r k) (position (row t k))
listed r t kept k h P is =
    let own = kept.rows.own k (omega (arith, kept.rows.all)) in
    let a = subst (λ x. P x.weight x.limit x.cost (model.place x.status)) (row_is t k) is in
    let b = subst (P (row t k).weight (row t k).limit (row t k).cost) (place_is (row t k)) a in
    let c = subst (λ n. P (row t k).weight (row t k).limit n (position (row t k))) own.cost b in
    let d = subst (λ n. P (row t k).weight n (cost_in r k) (position (row t k))) own.limit c in
    subst (λ n. P n (limit_of r k) (cost_in r k) (position (row t k))) own.weight d

inside : (r : LineUp) (t : Table) → Kept r t → (k : ℕ) → Listed r k → k < length (view t).rows
inside r t kept k h = omega (arith, kept.rows.all, length-map t.stamps line)

-- the bounds with what is taken off on the left taken off on the right
share_less : (T M w m A S : ℕ) → w ≤ T → WithinShare T M w m A S → w * A ≤ T * S + (2 * T - w) * m + w * M
share_less T M w m A S h bound = omega (arith, bound, mul_comm (2 * T - w) m, mul-sub m (2 * T) w, mul-le-mul_left m h)

pair_less : (T M w₁ m₁ S₁ w₂ m₂ S₂ : ℕ) → m₁ ≤ M → m₂ ≤ M → WithinPair T M w₁ m₁ S₁ w₂ m₂ S₂
    → T * w₂ * S₁ ≤ T * w₁ * S₂ + 2 * T * (w₂ * m₁ + w₁ * m₂) + w₁ * w₂ * (2 * M - m₁ - m₂)
pair_less T M w₁ m₁ S₁ w₂ m₂ S₂ h₁ h₂ bound =
    let rest : (2 * M - m₁ - m₂) + (m₁ + m₂) ≡ 2 * M = omega arith in
    omega (arith, bound, ap (λ n. w₁ * w₂ * n) rest)

module _ (r : LineUp) (few : length r.applications ≤ 16) (each : AllInRange r.applications) where
  abbrev T : ℕ
  T = total_weight r

  abbrev M : ℕ
  M = largest_limit r

  pub kept : (course : Course) → Kept r (table_after r course)
  kept course = kept_after r course (initial r) start
    where
      start : Kept r (initial r)
      start = record { sound = initial_sound r few each; rows = rows_start r each; inv = inv_start T M (view (initial r)) (fresh r each) }

  lead_law : Lead r
  lead_law course k h =
      let t = table_after r course in
      listed r t (kept course) k h (λ w m c p. p + m * 2520 ≤ t.virtual + m * c) ((kept course).inv.each k (inside r t (kept course) k h)).lead

  lag_law : Lag r
  lag_law course k h busy =
      let t = table_after r course in
      let active : model.Active (model.row (view t) k).status = subst (λ y. model.Active y.status) (sym (row_is t k)) (active_is (row t k) busy) in
      listed r t (kept course) k h (λ w m c p. t.virtual ≤ p + m * c + 2520 * M) (lag T M (view t) k (kept course).inv active)

  share_law : ShareBound r
  share_law before os k h never =
      let t = table_after r before in
      share_less T M (weight_of r k) (limit_of r k) (sent_in os t) (sent_for k os t) (weight_high r each k h)
      (listed r t (kept before) k h (λ w m c p. WithinShare T M w m (sent_in os t) (sent_for k os t))
      (share T M k (sent_in os t) (sent_for k os t) (view t) (view (after os t)) (kept before).inv (inside r t (kept before) k h) (stretch r k os t (kept before) never)))

  pair_law : PairBound r
  pair_law before os i j hi hj never_i never_j =
      let t = table_after r before in
      let now = kept before in
      pair_less T M (weight_of r i) (limit_of r i) (sent_for i os t) (weight_of r j) (limit_of r j) (sent_for j os t) (limit_high r each i hi) (limit_high r each j hj)
      (listed r t now i hi (λ w m c p. WithinPair T M w m (sent_for i os t) (weight_of r j) (limit_of r j) (sent_for j os t))
      (listed r t now j hj (λ w m c p. WithinPair T M (model.row (view t) i).weight (model.row (view t) i).limit (sent_for i os t) w m (sent_for j os t))
      (pair T M i j (sent_in os t) (sent_for i os t) (sent_for j os t) (view t) (view (after os t)) now.inv (kept_after r os t now).inv
      (inside r t now i hi) (inside r t now j hj) (stretch r i os t now never_i) (stretch r j os t now never_j))))

  no_overflow_law : NoOverflow r
  no_overflow_law course =
      let sound = (kept course).sound in
      let counted : (table_after r course).sent ≡ sent_in course (initial r) = count_after r course (initial r) (kept []) ∙ zero-add (sent_in course (initial r)) in
      record {
        rows = (kept course).rows.all;
        counted = counted;
        sectors_most = omega (arith, counted, sound.sectors);
        time = omega (arith, sound.pace, sound.sectors);
        times = λ k h. let m = sound.each k h in
            record { start = omega (arith, m.start_high, sound.sectors); finish = omega (arith, m.finish_high, sound.sectors); reached = omega (arith, m.reached_high, sound.sectors); position = omega (arith, m.position_high, sound.sectors) };
      }

  pub law : Law r
  law = record { lead = lead_law; lag = lag_law; share_bound = share_law; pair_bound = pair_law; no_overflow = no_overflow_law; out_of_place = out_of_place }
