-- The pick is one step of the model, or none; and so every operation is.
use Rattle.std.proofs.Common.{◌≡◌, ℕ, ◌-◌, ◌*◌, ◌<◌, ◌≤◌, max, Bool, true, false, ltb, leb, ◌⊎◌, length, is_some, Some, None, Option, sym, refl, ap, ◌∙◌, subst, inl, inr, arith, MatchOption}
use native.Mathlib.Nat.{le-max_left}
use Rattle.std.proofs.lemmas.List.{length-map, get_or-set_same}
use Rattle.std.proofs.lemmas.Bool.{and_parts, ltb-false, leb-true, le-leb, and_from, cases_lt}
use Rattle.std.proofs.lemmas.List.MinMax.{IsStrictWeakOrder-by_number}
use Rattle.least.specs.Choice.{place, FirstLeast, NoneEligible}
use Rattle.least.proofs.Places.{place_means}
use Rattle.rosters.specs.Rosters.{LineUp}
use Rattle.rosters.specs.Stamps.{is_queued, no_stamp}
use Rattle.stamps.specs.Rows.{serve_stamp}
use Rattle.stamps.specs.Tables.{Table, row, Sound, is_application}
use Rattle.stamps.specs.Steps.{eligible, start_before, pushed_to, pick_time, finishing, pick_beside, picked_by}
use Rattle.rosters.specs.declared.stamp.Stamp.{Stamp}
use Rattle.share_model.specs.Model as model
use Rattle.share_law.specs.Courses.{Operation, allot, wake, pick, send, requeue, rest, applied, made, sends}
use Rattle.share_law.proofs.View.{status, line, server, view, row_is, status_queued, Waiting, waiting, view_put, put_same}
use Rattle.share_law.proofs.Rows.{Rows, rows_set, own_picked}
use Rattle.share_law.proofs.Moves.{Goes, silent, stays, wake_goes, allot_goes, send_goes, requeue_goes, rest_goes}

module _ (r : LineUp) (t : Table) (sound : Sound t) (rows : Rows r t.stamps) where
  -- what the choosing rule gives of a key
  chosen : (eligible : Stamp → Bool) (key : Stamp → ℕ) (k : ℕ) → place eligible (λ x y. ltb (key x) (key y)) t.stamps ≡ Some k → FirstLeast eligible (λ x y. ltb (key x) (key y)) t.stamps k
  chosen eligible key k e =
      subst (λ o. MatchOption o (NoneEligible eligible t.stamps) (FirstLeast eligible (λ x y. ltb (key x) (key y)) t.stamps)) e (place_means eligible (λ x y. ltb (key x) (key y)) (IsStrictWeakOrder-by_number key) t.stamps)

  -- where nobody serves, one that is active in the model is queued
  module _ (nobody : t.serving ≡ None) where
    waits : (j p l : ℕ) → j < length (view t).rows → (model.row (view t) j).status ≡ model.active p l → Waiting (row t j) p l
    waits j p l h e =
        let inside : j < length t.stamps = omega (arith, length-map t.stamps line) in
        waiting (row t j) p l (sound.one j inside ∙ ap (λ o. is_application o j) nobody) (sym (ap (λ x. x.status) (row_is t j)) ∙ e)

    -- virtual time stays, or is pushed up to the least start
    pushed : (pick_time t ≤ t.virtual) ⊎ model.NoneBefore (view t).rows (pick_time t)
    pushed = go (place is_queued start_before t.stamps) refl
      where
        go : (o : Option ℕ) → place is_queued start_before t.stamps ≡ o → (pushed_to t o ≤ t.virtual) ⊎ model.NoneBefore (view t).rows (pushed_to t o)
        go None e = inl (omega arith)
        go (Some q) e = either (cases_lt t.virtual (row t q).start)
          where
            least : (j p l : ℕ) → j < length (view t).rows → (model.row (view t) j).status ≡ model.active p l → (row t q).start ≤ p
            least j p l h is =
                let w = waits j p l h is in
                let first = (chosen is_queued (λ s. s.start) q e).least j no_stamp (omega (arith, length-map t.stamps line)) w.queued in
                omega (arith, ltb-false (row t j).start (row t q).start first, w.starts)

            either : (t.virtual < (row t q).start) ⊎ ((row t q).start ≤ t.virtual) → (max t.virtual (row t q).start ≤ t.virtual) ⊎ model.NoneBefore (view t).rows (max t.virtual (row t q).start)
            either (inl h) = inr (λ j p l inside is. omega (arith, least j p l inside is))
            either (inr h) = inl (omega arith)

    forward : t.virtual ≤ pick_time t
    forward = go (place is_queued start_before t.stamps)
      where
        go : (o : Option ℕ) → t.virtual ≤ pushed_to t o
        go None = omega arith
        go (Some q) = le-max_left t.virtual (row t q).start

    picked_here : (k : ℕ) → finishing (pick_time t) t ≡ Some k → Goes r t (picked_by (Some k) t) true 0
    picked_here k e =
        let choice = chosen (eligible (pick_time t)) (λ s. s.finish) k e in
        let inside = choice.within in
        let fit = and_parts (is_queued (row t k)) (leb (row t k).start (pick_time t)) (choice.fits no_stamp) in
        let own = rows.own k inside in
        let new = serve_stamp (row t k) in
        let stands : (model.row (view t) k).status ≡ model.active (row t k).start (row t k).budget = ap (λ x. x.status) (row_is t k) ∙ status_queued (row t k) fit.0 in
        let cost : (model.row (view t) k).cost ≡ (row t k).cost = ap (λ x. x.cost) (row_is t k) in
        let same : status new ≡ status (row t k) =
        ap (λ p. model.active p ((row t k).budget - 0)) (omega arith) ∙ ap (model.active (row t k).start) (omega arith) ∙ sym (status_queued (row t k) fit.0) in
        record {
          rows = rows_set r t.stamps k new inside (own_picked r k (row t k) own) rows;
          count = omega arith;
          moved = silent t (picked_by (Some k) t) true refl
              (model.pick k (row t k).start (row t k).budget (pick_time t)
              (omega (arith, inside, length-map t.stamps line))
              (ap (λ o. server o t) nobody)
              stands
              (leb-true (row t k).start (pick_time t) fit.1)
              forward
              pushed
              (λ j p l h is started.
              let w = waits j p l h is in
              let there : j < length t.stamps = omega (arith, length-map t.stamps line) in
              let starts = and_from (is_queued (row t j)) (leb (row t j).start (pick_time t)) w.queued (le-leb (row t j).start (pick_time t) (omega (arith, w.starts))) in
              let later = ltb-false (row t j).finish (row t k).finish (choice.least j no_stamp there starts) in
              let cost_j : (model.row (view t) j).cost ≡ (row t j).cost = ap (λ x. x.cost) (row_is t j) in
              omega (arith, later, own.finish fit.0, (rows.own j there).finish w.queued, w.starts, ap (λ b. b * (row t j).cost) w.whole, ap (λ c. l * c) cost_j, ap (λ c. (row t k).budget * c) cost))
              (view_put t k new (status (row t k)) (pick_time t) t.sent (Some k) (model.on k 0)
              (ap (model.with_status (line (row t k))) same)
              (ap (λ x. model.on k x.served) (get_or-set_same t.stamps k new no_stamp inside))
              ∙ ap (λ rs. model.state rs (pick_time t) (model.on k 0)) (put_same t.stamps k)));
        }

  pub pick_goes : Goes r t (applied pick t) (made pick t) 0
  pick_goes = by_server t.serving refl
    where
      answered : t.serving ≡ None → (o : Option ℕ) → finishing (pick_time t) t ≡ o → Goes r t (picked_by o t) (is_some o) 0
      answered nobody None e = stays r t sound rows false
      answered nobody (Some k) e = picked_here nobody k e

      by_server : (o : Option ℕ) → t.serving ≡ o → Goes r t (picked_by (pick_beside o t) t) (is_some (pick_beside o t)) 0
      by_server None e = answered e (finishing (pick_time t) t) refl
      by_server (Some k) e = stays r t sound rows false

  -- every operation
  pub goes : (o : Operation) → Goes r t (applied o t) (made o t) (sends o t)
  goes (allot k b) = allot_goes r t sound rows k b
  goes (wake k) = wake_goes r t sound rows k
  goes pick = pick_goes
  goes (send size) = send_goes r t sound rows size
  goes (requeue b) = requeue_goes r t sound rows b
  goes (rest b) = rest_goes r t sound rows b
