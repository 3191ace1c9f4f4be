-- Each operation is one step of the model, or none: all but the pick.
use Rattle.std.proofs.Common.{◌≡◌, ℕ, ◌+◌, ◌-◌, ◌*◌, ◌^◌, ◌<◌, max, Bool, true, false, cond, eqb, ltb, leb, ◌⊎◌, length, set, Some, None, Option, sym, refl, ap, ◌∙◌, inl, inr, arith}
use Rattle.std.proofs.lemmas.List.{length-map, get_or-set_same}
use Rattle.std.proofs.lemmas.Bool.{and_parts, ltb-true, leb-true, cases_eq, eq-eqb, ne_eqb}
use Rattle.rosters.specs.Rosters.{LineUp}
use Rattle.rosters.specs.Stamps.{is_idle, is_serving, no_stamp, may_have}
use Rattle.stamps.specs.Rows.{paid, wake_stamp, charge_stamp, with_budget, rest_stamp, requeue_stamp}
use Rattle.stamps.specs.Tables.{Table, row, Sound, is_application}
use Rattle.stamps.specs.Steps.{can_wake, can_allot, may_requeue, fits, can_send_of, charged_to, can_requeue_of, requeued_from, can_rest_of, rested_from, changed}
use Rattle.rosters.specs.declared.stamp.Stamp.{Stamp}
use Rattle.share_model.specs.Model as model
use Rattle.share_law.specs.Courses.{allot, wake, send, requeue, rest, applied, made, sends}
use Rattle.share_law.proofs.View.{status, line, server, view, row_is, status_idle, status_serving, view_put, put_same, server_same}
use Rattle.share_law.proofs.Rows.{Rows, rows_set, own_woken, own_allotted, own_charged, own_rested, own_requeued}

-- From t to t' by an operation that is made or not, and sends so many sectors: the model stands still, or
-- makes one step that sends as many for the same application.
pub data Moved (t t' : Table) (is_made : Bool) (size : ℕ) : Type 0 where
  still : view t' ≡ view t → size ≡ 0 → Moved t t' is_made size
  step : (x : model.Amount) → model.Step (view t) (view t') x → is_made ≡ true → model.sent x ≡ size
      → ((i : ℕ) → model.sent_for i x ≡ cond (is_application t.serving i) size 0) → Moved t t' is_made size

pub record Goes (r : LineUp) (t t' : Table) (is_made : Bool) (size : ℕ) : Type 0 where
  pub rows : Rows r t'.stamps
  pub count : t'.sent ≡ t.sent + size
  pub moved : Moved t t' is_made size

none_for : (b : Bool) → ◌≡◌ {A = ℕ} 0 (cond b 0 0)
none_for true = refl
none_for false = refl

-- a step that sends nothing
pub silent : (t t' : Table) (is_made : Bool) → is_made ≡ true → model.Step (view t) (view t') model.nothing → Moved t t' is_made 0
silent t t' is_made e s = step model.nothing s e refl (λ i. none_for (is_application t.serving i))

same_test : (i k : ℕ) → eqb i k ≡ eqb k i
same_test i k = go (cases_eq i k)
  where
    go : (i ≡ k) ⊎ (i ≡ k → ⊥) → eqb i k ≡ eqb k i
    go (inl e) = eq-eqb i k e ∙ sym (eq-eqb k i (sym e))
    go (inr ne) = ne_eqb i k ne ∙ sym (ne_eqb k i (λ q. ne (sym q)))

module _ (r : LineUp) (t : Table) (sound : Sound t) (rows : Rows r t.stamps) where
  -- an operation that is not made
  pub stays : (b : Bool) → Goes r t t b 0
  stays b = record { rows = rows; count = omega arith; moved = still refl refl }

  pub wake_goes : (k : ℕ) → Goes r t (applied (wake k) t) (made (wake k) t) 0
  wake_goes k = go (can_wake k t) refl
    where
      s : Stamp
      s = row t k

      new : Stamp
      new = wake_stamp t.virtual (row t k)

      awake : can_wake k t ≡ true → Goes r t (changed k new t.serving t) true 0
      awake e =
          let p = and_parts (ltb k (length t.stamps)) (is_idle s) e in
          let inside = ltb-true k (length t.stamps) p.0 in
          let m = sound.each k inside in
          record {
            rows = rows_set r t.stamps k new inside (own_woken r k s (rows.own k inside) t.virtual) rows;
            count = omega arith;
            moved = silent t (changed k new t.serving t) true refl
                (model.wake k s.reached s.budget
                (omega (arith, inside, length-map t.stamps line))
                (ap (λ x. x.status) (row_is t k) ∙ status_idle s p.1)
                m.budget_low
                (omega (arith, m.budget_high, ap (λ x. x.limit) (row_is t k)))
                (view_put t k new (model.active (max t.virtual s.reached) s.budget) t.virtual t.sent t.serving (server t.serving t) refl
                (server_same t k new inside refl)));
          }

      go : (b : Bool) → can_wake k t ≡ b → Goes r t (cond b (changed k new t.serving t) t) b 0
      go true e = awake e
      go false e = stays false

  pub allot_goes : (k b : ℕ) → Goes r t (applied (allot k b) t) (made (allot k b) t) 0
  allot_goes k b = go (can_allot k b t) refl
    where
      s : Stamp
      s = row t k

      new : Stamp
      new = with_budget b (row t k)

      given : can_allot k b t ≡ true → Goes r t (changed k new t.serving t) true 0
      given e =
          let p = and_parts (ltb k (length t.stamps)) (is_idle s) (and_parts (can_wake k t) (may_have b s) e).0 in
          let inside = ltb-true k (length t.stamps) p.0 in
          let idle = status_idle s p.1 in
          let same : line new ≡ line s = ap (model.with_status (line s)) (status_idle new p.1 ∙ sym idle) in
          record {
            rows = rows_set r t.stamps k new inside (own_allotted r k s (rows.own k inside) b p.1) rows;
            count = omega arith;
            moved = still
                (view_put t k new (status s) t.virtual t.sent t.serving (server t.serving t) same (server_same t k new inside refl)
                ∙ ap (λ rs. model.state rs t.virtual (server t.serving t)) (put_same t.stamps k))
                refl;
          }

      go : (c : Bool) → can_allot k b t ≡ c → Goes r t (cond c (changed k new t.serving t) t) c 0
      go true e = given e
      go false e = stays false

  -- the application that is served
  module _ (k : ℕ) (e : t.serving ≡ Some k) where
    inside : k < length t.stamps
    inside = sound.within k e

    serves : is_serving (row t k) ≡ true
    serves = sound.one k inside ∙ ap (λ o. is_application o k) e ∙ eq-eqb k k refl

    stands : (model.row (view t) k).status ≡ model.active (paid (row t k)) ((row t k).budget - (row t k).served)
    stands = ap (λ x. x.status) (row_is t k) ∙ status_serving (row t k) serves

    attended : (view t).server ≡ model.on k (row t k).served
    attended = ap (λ o. server o t) e

    sent_here : (size : ℕ) → fits k size t ≡ true → Goes r t (record { virtual = t.virtual + 2520 * size; sent = t.sent + size; serving = Some k; stamps = set t.stamps k (charge_stamp size (row t k)) }) true size
    sent_here size can =
        let room = leb-true ((row t k).served + size) (row t k).budget (and_parts (leb ((row t k).served + size) (row t k).budget) (leb (t.sent + size) (2 ^ 40)) can).0 in
        let new = charge_stamp size (row t k) in
        let left = (row t k).budget - (row t k).served - size in
        let cost : (model.row (view t) k).cost ≡ (row t k).cost = ap (λ x. x.cost) (row_is t k) in
        let place : (row t k).start + ((row t k).served + size) * (row t k).cost ≡ paid (row t k) + size * (model.row (view t) k).cost = omega (arith, ap (λ c. size * c) cost) in
        let rest : (row t k).budget - ((row t k).served + size) ≡ left = omega arith in
        record {
          rows = rows_set r t.stamps k new inside (own_charged r k (row t k) (rows.own k inside) size serves) rows;
          count = refl;
          moved = step (model.sectors k size)
              (model.send k (row t k).served (paid (row t k)) left size attended
              (stands ∙ ap (model.active (paid (row t k))) (omega (arith, room)))
              (view_put t k new (model.active (paid (row t k) + size * (model.row (view t) k).cost) left) (t.virtual + 2520 * size) (t.sent + size) (Some k) (model.on k ((row t k).served + size))
              (ap (model.with_status (line (row t k))) (status_serving new serves ∙ ap (λ p. model.active p ((row t k).budget - ((row t k).served + size))) place ∙ ap (model.active (paid (row t k) + size * (model.row (view t) k).cost)) rest))
              (ap (λ x. model.on k x.served) (get_or-set_same t.stamps k new no_stamp inside))))
              refl refl (λ i. ap (λ b. cond b size 0) (same_test i k ∙ ap (λ o. is_application o i) (sym e)));
        }

    requeued_here : (b : ℕ) → may_requeue b (row t k) ≡ true → Goes r t (changed k (requeue_stamp b (row t k)) None t) true 0
    requeued_here b can =
        let p = and_parts (may_have b (row t k)) (leb (row t k).budget ((row t k).served + b)) can in
        let q = and_parts (ltb 0 b) (leb b (row t k).limit) p.0 in
        let new = requeue_stamp b (row t k) in
        record {
          rows = rows_set r t.stamps k new inside (own_requeued r k (row t k) (rows.own k inside) b) rows;
          count = omega arith;
          moved = silent t (changed k new None t) true refl
              (model.requeue k (row t k).served (paid (row t k)) ((row t k).budget - (row t k).served) b attended stands
              (omega (arith, leb-true (row t k).budget ((row t k).served + b) p.1))
              (ltb-true 0 b q.0)
              (omega (arith, leb-true b (row t k).limit q.1, ap (λ x. x.limit) (row_is t k)))
              (view_put t k new (model.active (paid (row t k)) b) t.virtual t.sent None model.free refl refl));
        }

    rested_here : (b : ℕ) → Goes r t (changed k (rest_stamp b (row t k)) None t) true 0
    rested_here b =
        let new = rest_stamp b (row t k) in
        record {
          rows = rows_set r t.stamps k new inside (own_rested r k (row t k) (rows.own k inside) b) rows;
          count = omega arith;
          moved = silent t (changed k new None t) true refl
              (model.rest k (row t k).served (paid (row t k)) ((row t k).budget - (row t k).served) attended stands
              (view_put t k new (model.idle (paid (row t k))) t.virtual t.sent None model.free refl refl));
        }

  pub send_goes : (size : ℕ) → Goes r t (applied (send size) t) (made (send size) t) (sends (send size) t)
  send_goes size = by_server t.serving refl
    where
      by_server : (o : Option ℕ) → t.serving ≡ o → Goes r t (charged_to o size t) (can_send_of o size t) (cond (can_send_of o size t) size 0)
      by_server None e = stays false
      by_server (Some k) e = go (fits k size t) refl
        where
          go : (b : Bool) → fits k size t ≡ b → Goes r t (cond b (record { virtual = t.virtual + 2520 * size; sent = t.sent + size; serving = Some k; stamps = set t.stamps k (charge_stamp size (row t k)) }) t) b (cond b size 0)
          go true can = sent_here k e size can
          go false can = stays false

  pub requeue_goes : (b : ℕ) → Goes r t (applied (requeue b) t) (made (requeue b) t) 0
  requeue_goes b = by_server t.serving refl
    where
      by_server : (o : Option ℕ) → t.serving ≡ o → Goes r t (requeued_from o b t) (can_requeue_of o b t) 0
      by_server None e = stays false
      by_server (Some k) e = go (may_requeue b (row t k)) refl
        where
          go : (c : Bool) → may_requeue b (row t k) ≡ c → Goes r t (cond c (changed k (requeue_stamp b (row t k)) None t) t) c 0
          go true can = requeued_here k e b can
          go false can = stays false

  pub rest_goes : (b : ℕ) → Goes r t (applied (rest b) t) (made (rest b) t) 0
  rest_goes b = by_server t.serving refl
    where
      by_server : (o : Option ℕ) → t.serving ≡ o → Goes r t (rested_from o b t) (can_rest_of o b t) 0
      by_server None e = stays false
      by_server (Some k) e = go (may_have b (row t k))
        where
          go : (c : Bool) → Goes r t (cond c (changed k (rest_stamp b (row t k)) None t) t) c 0
          go true = rested_here k e b
          go false = stays false
