-- Every step keeps the invariant, and the invariant bounds the lag.
use Rattle.std.proofs.Common.{◌≡◌, ℕ, ◌+◌, ◌-◌, ◌*◌, ◌<◌, ◌≤◌, max, ◌⊎◌, List, length, sym, refl, ap, ◌∙◌, subst, inl, inr, ⊎_elim, le_refl, le_of_lt, mul-le-mul_right, mul-le-mul_left, arith}
use native.Mathlib.Nat.{le_of_mul-le-mul_left}
use Rattle.std.proofs.lemmas.List.{get_or-set_same, get_or-set_other, length-set}
use Rattle.std.proofs.lemmas.List.Sums.{get_or-le-sum_by}
use Rattle.std.proofs.lemmas.Bool.{cases_lt, cases_eq}
use Rattle.share_model.specs.Model.{Status, idle, active, Row, Server, free, on, State, state, row, row_of, blank, put, with_status, place, Active}
use Rattle.share_model.specs.Model.{Amount, Step, wake, pick, send, requeue, rest, NoneBefore, First}
use Rattle.share_model.specs.Invariant.{wants, demand, demands, Fresh, Kept, Waits, Other, Serving, Served, Turn, Inv}
use Rattle.share_model.specs.Stretch.{Lags}
use Rattle.share_model.proofs.Rows.{each_set, weights_put, active_within}
use Rattle.share_model.proofs.Demand.{wants_idle, wants_due, wants_later, wants_from, wants_woken, demands_put, demands_calm, demands_calm_but}

-- the one served, where all want no more than before
less_served : (T M v n : ℕ) (r : Row) (f g : ℕ → ℕ) → ((d : ℕ) → f d ≤ g d) → (st : Status) → Served T M v n r g st → Served T M v n r f st
less_served T M v n r f g h (idle q) s = s
less_served T M v n r f g h (active p l) s = record {
  fits = s.fits;
  near = s.near;
  lag = s.lag;
  owed = λ d. record { due = λ m. omega (arith, (s.owed d).due m, h d); later = λ m. omega (arith, (s.owed d).later m, h d) };
}

-- a step that gives application k the status st: what is left to show is its lead, that it waits unless it is served, and the turn
put_keeps : (T M : ℕ) (rs : List Row) (v v' : ℕ) (sv sv' : Server) (k : ℕ) (st : Status) → k < length rs → v ≤ v'
    → place st + (row_of rs k).limit * 2520 ≤ v' + (row_of rs k).limit * (row_of rs k).cost
    → (Other sv' k → Waits (row_of rs k).limit st) → ((i : ℕ) → (i ≡ k → ⊥) → Other sv' i → Other sv i)
    → Turn T M (put rs k st) v' sv' → Inv T M (state rs v sv) → Inv T M (state (put rs k st) v' sv')
put_keeps T M rs v v' sv sv' k st l later lead waits others turn inv =
    let old = inv.each k l in
    record {
      total = weights_put rs k st l ∙ inv.total;
      each = each_set (λ j x. Kept T M v' x) rs k (with_status (row_of rs k) st) l
          (record { terms = old.terms; dear = old.dear; lead = lead })
          (λ j m n. let o = inv.each j m in record { terms = o.terms; dear = o.dear; lead = omega (arith, o.lead) });
      waits = each_set (λ j x. Other sv' j → Waits x.limit x.status) rs k (with_status (row_of rs k) st) l waits
          (λ j m n o. inv.waits j m (others j n o));
      turn = turn;
    }

-- a sector costs no less than what the virtual time moves by, so the lead of n sectors is within that of m
spread : (n m c : ℕ) → n ≤ m → 2520 ≤ c → n * c + m * 2520 ≤ n * 2520 + m * c
spread n m c h dear = with_rest (m - n) (omega arith)
  where
    with_rest : (e : ℕ) → m ≡ n + e → n * c + m * 2520 ≤ n * 2520 + m * c
    with_rest e is = omega (arith, ap (λ z. z * c) is, mul-le-mul_left e dear)

-- the sum of all weights is not 0 where there is an application
pub some_weight : (T M : ℕ) (a : State) (i : ℕ) → i < length a.rows → Inv T M a → 1 ≤ T
some_weight T M a i l inv =
    omega (arith, inv.total, (inv.each i l).terms.some, get_or-le-sum_by (λ (r : Row). r.weight) a.rows i blank l)

-- if what one application alone wants before its finish p + l * c is within the bound, it is not far behind
behind : (T w c p l m v N : ℕ) → 1 ≤ T → w * c ≡ 2520 * T → 0 < l → l ≤ m
    → w * (p + l * c) - w * p ≤ T * (p + l * c + 2520 * N) - T * v → v ≤ p + m * c + 2520 * N
behind T w c p l m v N one rate more few h = by_case (cases_lt (p + l * c + 2520 * N) v)
  where
    by_case : (p + l * c + 2520 * N < v) ⊎ (v ≤ p + l * c + 2520 * N) → v ≤ p + m * c + 2520 * N
    by_case (inl g) = absurd (omega (arith, mul-le-mul_left T (le_of_lt g), mul-le-mul_left T more, ap (λ z. z * l) rate))
    by_case (inr g) = omega (arith, mul-le-mul_right c few)

-- an application that waits is not far behind the virtual time
lag_waiting : (T M : ℕ) (rs : List Row) (v : ℕ) (sv : Server) (i p l : ℕ) → i < length rs → (row_of rs i).status ≡ active p l
    → Other sv i → Inv T M (state rs v sv) → v ≤ p + (row_of rs i).limit * (row_of rs i).cost + 2520 * M
lag_waiting T M rs v sv i p l at is other inv = by_turn sv inv.turn
  where
    r : Row
    r = row_of rs i

    d : ℕ
    d = p + l * r.cost

    waits : (0 < l) × (l ≤ r.limit)
    waits = subst (Waits r.limit) is (inv.waits i at other)

    far : (N : ℕ) → demands rs v d ≤ T * (d + 2520 * N) - T * v → v ≤ p + r.limit * r.cost + 2520 * N
    far N h = behind T r.weight r.cost p l r.limit v N (some_weight T M (state rs v sv) i at inv) (inv.each i at).terms.rate
        waits.0 waits.1
        (omega (
          arith,
          h,
          get_or-le-sum_by (demand d v) rs i blank at,
          wants_due d v r.weight r.cost p l (le_refl d),
          ap (wants d v r.weight r.cost) is,
        ))

    beside : (k n : ℕ) → k < length rs → (st : Status) → Served T M v n (row_of rs k) (demands rs v) st → v ≤ p + r.limit * r.cost + 2520 * M
    beside k n in' (idle q) s = absurd s
    beside k n in' (active q j) s = ⊎_elim
        (λ g. omega (arith, far n (omega (arith, (s.owed d).later g)), s.fits, (inv.each k in').terms.within))
        (λ g. far M ((s.owed d).due g))
        (cases_lt d (q + j * (row_of rs k).cost))

    by_turn : (s : Server) → Turn T M rs v s → v ≤ p + r.limit * r.cost + 2520 * M
    by_turn free t = far M (t d)
    by_turn (on k n) t = beside k n t.0 (row_of rs k).status t.1

-- each application that is not idle is not far behind the virtual time
pub lag : (T M : ℕ) (a : State) (i : ℕ) → Inv T M a → Active (row a i).status → Lags M a i
lag T M a i inv h = by_status (row a i).status refl h
  where
    at : i < length a.rows
    at = active_within a.rows i h

    by_status : (st : Status) → (row a i).status ≡ st → Active st → Lags M a i
    by_status (idle q) is g = absurd g
    by_status (active p l) is g =
        subst (λ st. a.time ≤ place st + (row a i).limit * (row a i).cost + 2520 * M) (sym is)
        (⊎_elim (λ o. lag_waiting T M a.rows a.time a.server i p l at is o inv) (λ x. x) (turn a.server inv.turn))
      where
        serving : (k n : ℕ) → Served T M a.time n (row a k) (demands a.rows a.time) (row a k).status → i ≡ k
            → Serving T M a.time n (row a i) p l (demands a.rows a.time)
        serving k n s e = subst (Served T M a.time n (row a i) (demands a.rows a.time)) is
            (subst (λ j. Served T M a.time n (row a j) (demands a.rows a.time) (row a j).status) (sym e) s)

        turn : (sv : Server) → Turn T M a.rows a.time sv
            → Other sv i ⊎ (a.time ≤ p + (row a i).limit * (row a i).cost + 2520 * M)
        turn free t = inl tt
        turn (on k n) t = ⊎_elim (λ e. inr (serving k n t.1 e).lag) (λ o. inl o) (cases_eq i k)

at_server : (T M : ℕ) (a : State) (sv : Server) → a.server ≡ sv → Inv T M a → Inv T M (state a.rows a.time sv)
at_server T M a sv e = subst (λ s. Inv T M (state a.rows a.time s)) e

module _ (T M : ℕ) (rs : List Row) (v : ℕ) where
  wake_keeps : (sv : Server) (i r b : ℕ) → i < length rs → (row_of rs i).status ≡ idle r → 0 < b → b ≤ (row_of rs i).limit
      → Inv T M (state rs v sv) → Inv T M (state (put rs i (active (max v r) b)) v sv)
  wake_keeps sv i r b l is more few inv =
      let k = inv.each i l in
      put_keeps T M rs v v sv sv i new l (le_refl v) (omega (arith, mul-le-mul_left old.limit k.dear, k.lead, ap place is))
      (λ o. (more, few)) (λ j n o. o) (turned sv inv.turn) inv
    where
      old : Row
      old = row_of rs i

      new : Status
      new = active (max v r) b

      lowered : (d : ℕ) → demands (put rs i new) v d ≤ demands rs v d
      lowered d = omega (arith, demands_put rs i (idle r) new d v v l (le_refl v) is, wants_woken d v old.weight old.cost r b)

      turned : (sv : Server) → Turn T M rs v sv → Turn T M (put rs i new) v sv
      turned free t = λ d. omega (arith, t d, lowered d)
      turned (on k n) t = (
        simp length-set t.0,
        rw (get_or-set_other rs i k (with_status old new) blank apart)
            (less_served T M v n (row_of rs k) _ _ lowered (row_of rs k).status t.1),
      )
        where
          apart : k ≡ i → ⊥
          apart e = subst (Served T M v n (row_of rs k) (demands rs v)) (ap (λ j. (row_of rs j).status) e ∙ is) t.1

  pick_keeps : (k p l v' : ℕ) → k < length rs → (row_of rs k).status ≡ active p l → p ≤ v' → v ≤ v'
      → (v' ≤ v) ⊎ NoneBefore rs v' → First rs v' (p + l * (row_of rs k).cost)
      → Inv T M (state rs v free) → Inv T M (state rs v' (on k 0))
  pick_keeps k p l v' at is here later least first inv = record {
    total = inv.total;
    each = λ i m. let o = inv.each i m in record { terms = o.terms; dear = o.dear; lead = omega (arith, o.lead) };
    waits = λ i m o. inv.waits i m tt;
    turn = (at, subst (Served T M v' 0 r (demands rs v')) (sym is) serving);
  }
    where
      r : Row
      r = row_of rs k

      waits : (0 < l) × (l ≤ r.limit)
      waits = subst (Waits r.limit) is (inv.waits k at tt)

      lag : (v' ≤ v) ⊎ NoneBefore rs v' → v' ≤ p + r.limit * r.cost + 2520 * M
      lag (inl same) = omega (arith, lag_waiting T M rs v free k p l at is tt inv)
      lag (inr pushed) = omega (arith, pushed k p l at is)

      due : (d : ℕ) → (v' ≤ v) ⊎ NoneBefore rs v'
          → demands rs v' d ≤ T * (d + 2520 * M) - T * v'
      due d (inl same) = let e : v ≡ v' = omega arith in subst (λ x. demands rs x d ≤ T * (d + 2520 * M) - T * x) e (inv.turn d)
      due d (inr pushed) = omega (
        arith,
        subst (λ x. demands rs v' d ≤ x * d - x * v') inv.total (demands_calm rs d v' (λ j q m in' e g. pushed j q m in' e)),
      )

      after : (d : ℕ) → d < p + l * r.cost → (j q m : ℕ) → j < length rs → (row_of rs j).status ≡ active q m
          → q + m * (row_of rs j).cost ≤ d → (v' < q) ⊎ (q ≤ v') → v' ≤ q
      after d g j q m in' e f (inl h) = le_of_lt h
      after d g j q m in' e f (inr h) = absurd (omega (arith, first j q m in' e h))

      serving : Serving T M v' 0 r p l (demands rs v')
      serving = record {
        fits = omega (arith, waits.1);
        near = omega arith;
        lag = lag least;
        owed = λ d. record {
          due = λ g. due d least;
          later = λ g. omega (
            arith,
            wants_later d v' r.weight r.cost p l g,
            ap (wants d v' r.weight r.cost) is,
            subst (λ x. demands rs v' d + (r.weight * d - r.weight * v') ≤ x * d - x * v' + demand d v' r) inv.total
                (demands_calm_but rs d v' (λ j q m in' e f. after d g j q m in' e f (cases_lt v' q)) k at),
          );
        };
      }

  send_keeps : (k n p l s : ℕ) → (row_of rs k).status ≡ active p (s + l) → Inv T M (state rs v (on k n))
      → Inv T M (state (put rs k (active (p + s * (row_of rs k).cost) l)) (v + 2520 * s) (on k (n + s)))
  send_keeps k n p l s is inv =
      put_keeps T M rs v (v + 2520 * s) (on k n) (on k (n + s)) k new at (omega arith)
      (omega (arith, old.near, spread (n + s) r.limit r.cost (omega (arith, old.fits)) (inv.each k at).dear))
      (λ o. absurd (o refl)) (λ j m o. o) (simp length-set at, rw (get_or-set_same, at) serving) inv
    where
      r : Row
      r = row_of rs k

      new : Status
      new = active (p + s * r.cost) l

      at : k < length rs
      at = inv.turn.0

      old : Serving T M v n r p (s + l) (demands rs v)
      old = subst (Served T M v n r (demands rs v)) is inv.turn.1

      serving : Serving T M (v + 2520 * s) (n + s) (with_status r new) (p + s * r.cost) l (demands (put rs k new) (v + 2520 * s))
      serving = record {
        fits = omega (arith, old.fits);
        near = omega (arith, old.near);
        lag = omega (arith, old.lag, mul-le-mul_left s (inv.each k at).dear);
        owed = λ d. record {
          due = λ g. omega (
            arith,
            (old.owed d).due (omega (arith, g)),
            demands_put rs k (active p (s + l)) new d v (v + 2520 * s) at (omega arith) is,
            mul-le-mul_left r.weight g,
            ap (λ z. z * s) (inv.each k at).terms.rate,
            wants_due d v r.weight r.cost p (s + l) (omega (arith, g)),
            wants_due d (v + 2520 * s) r.weight r.cost (p + s * r.cost) l g,
          );
          later = λ g. omega (
            arith,
            (old.owed d).later (omega (arith, g)),
            demands_put rs k (active p (s + l)) new d v (v + 2520 * s) at (omega arith) is,
            wants_later d (v + 2520 * s) r.weight r.cost (p + s * r.cost) l g,
          );
        };
      }

  -- the one served lets go, and stays where it stands: it must not want more before its old finish than all the time from v on
  release_keeps : (k n p l : ℕ) (st : Status) → (row_of rs k).status ≡ active p l → place st ≡ p → Waits (row_of rs k).limit st
      → ((d : ℕ) → d < p + l * (row_of rs k).cost
      → wants d v (row_of rs k).weight (row_of rs k).cost st ≤ (row_of rs k).weight * d - (row_of rs k).weight * v)
      → Inv T M (state rs v (on k n)) → Inv T M (state (put rs k st) v free)
  release_keeps k n p l st is stays waits before inv =
      put_keeps T M rs v v (on k n) free k st at (le_refl v) (omega (arith, (inv.each k at).lead, ap place is))
      (λ o. waits) (λ j m o. m)
      (λ d. ⊎_elim
      (λ g. omega (
        arith,
        (old.owed d).later g,
        put_sum d,
        before d g,
        mul-le-mul_left {m = n} {n = M} T (omega (arith, old.fits, (inv.each k at).terms.within)),
      ))
      (λ g. omega (arith, (old.owed d).due g, put_sum d, wants_due d v r.weight r.cost p l g, from d))
      (cases_lt d (p + l * r.cost))) inv
    where
      r : Row
      r = row_of rs k

      at : k < length rs
      at = inv.turn.0

      old : Serving T M v n r p l (demands rs v)
      old = subst (Served T M v n r (demands rs v)) is inv.turn.1

      put_sum : (d : ℕ) → demands (put rs k st) v d + wants d v r.weight r.cost (active p l) ≤ demands rs v d + wants d v r.weight r.cost st
      put_sum d = demands_put rs k (active p l) st d v v at (le_refl v) is

      from : (d : ℕ) → wants d v r.weight r.cost st ≤ r.weight * d - r.weight * p
      from d = subst (λ x. wants d v r.weight r.cost st ≤ r.weight * d - r.weight * x) stays (wants_from d v r.weight r.cost st)

  requeue_keeps : (k n p l b : ℕ) → (row_of rs k).status ≡ active p l → l ≤ b → 0 < b → b ≤ (row_of rs k).limit
      → Inv T M (state rs v (on k n)) → Inv T M (state (put rs k (active p b)) v free)
  requeue_keeps k n p l b is up more few =
      let r = row_of rs k in
      release_keeps k n p l (active p b) is refl (more, few)
      (λ d g. omega (arith, wants_later d v r.weight r.cost p b (omega (arith, mul-le-mul_right r.cost up))))

  rest_keeps : (k n p l : ℕ) → (row_of rs k).status ≡ active p l
      → Inv T M (state rs v (on k n)) → Inv T M (state (put rs k (idle p)) v free)
  rest_keeps k n p l is =
      let r = row_of rs k in
      release_keeps k n p l (idle p) is refl tt (λ d g. omega (arith, wants_idle d v r.weight r.cost p))

-- each step keeps the invariant
pub inv_step : (T M : ℕ) (a b : State) {x : Amount} → Step a b x → Inv T M a → Inv T M b
inv_step T M a b (wake i r budget at is more few e) inv =
    subst (Inv T M) (sym e) (wake_keeps T M a.rows a.time a.server i r budget at is more few inv)
inv_step T M a b (pick k p l v at sv is here later least first e) inv =
    subst (Inv T M) (sym e) (pick_keeps T M a.rows a.time k p l v at is here later least first (at_server T M a free sv inv))
inv_step T M a b (send k n p l s sv is e) inv =
    subst (Inv T M) (sym e) (send_keeps T M a.rows a.time k n p l s is (at_server T M a (on k n) sv inv))
inv_step T M a b (requeue k n p l budget sv is up more few e) inv =
    subst (Inv T M) (sym e) (requeue_keeps T M a.rows a.time k n p l budget is up more few (at_server T M a (on k n) sv inv))
inv_step T M a b (rest k n p l sv is e) inv =
    subst (Inv T M) (sym e) (rest_keeps T M a.rows a.time k n p l is (at_server T M a (on k n) sv inv))

-- the invariant holds where all begins
pub inv_start : (T M : ℕ) (a : State) → Fresh T M a → Inv T M a
inv_start T M a f = record {
  total = f.total;
  each = λ i l. record {
    terms = f.terms i l;
    dear = dear i l;
    lead = omega (arith, ap place (f.resting i l), mul-le-mul_left (row a i).limit (dear i l));
  };
  waits = λ i l o. subst (Waits (row a i).limit) (sym (f.resting i l)) tt;
  turn = subst (Turn T M a.rows a.time) (sym f.nobody) (λ d. omega (
    arith,
    subst (λ x. demands a.rows a.time d ≤ x * d - x * a.time) f.total
        (demands_calm a.rows d a.time (λ i p l m e g. omega (arith, f.clock))),
  ));
}
  where
    dear : (i : ℕ) → i < length a.rows → 2520 ≤ (row a i).cost
    dear i l =
        let h : (row a i).weight * 2520 ≤ (row a i).weight * (row a i).cost =
        omega (arith, (f.terms i l).rate, f.total, get_or-le-sum_by (λ (r : Row). r.weight) a.rows i blank l) in
        le_of_mul-le-mul_left h (f.terms i l).some
