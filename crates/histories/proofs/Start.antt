-- Where all begins: the invariant holds, and the table is that of the roster, with a budget allotted to each.
use Rattle.std.proofs.Common.{◌≡◌, ℕ, ◌+◌, ◌<◌, ◌≤◌, true, false, ltb, leb, ◌⊎◌, List, [], ◌∷◌, ◌++◌, map, length, get_or, replicate, None, sym, refl, ap, ◌∙◌, subst, inl, inr, arith}
use Rattle.std.specs.List.{All}
use Rattle.std.proofs.lemmas.List.Elements.{All-nil, All-head, All-tail, All-map, All-from_get_or, All-weaker}
use Rattle.std.proofs.lemmas.List.{length-append, length_push, length-map, get_or_at, set_at, get_or-replicate, get_or_past, append_assoc}
use Rattle.std.proofs.lemmas.Bool.{cases_lt, and_from, lt-ltb, le-leb, cond-true}
use Rattle.rosters.specs.Applications.{application}
use Rattle.rosters.specs.Rosters.{LineUp, total_weight}
use Rattle.rosters.specs.Stamps.{is_idle, by_status, may_have, new_stamp, no_stamp}
use Rattle.rosters.specs.declared.stamp.Stamp.{Stamp}
use Rattle.rosters.specs.declared.stamp.Status.TheVariants.{Idle}
use Rattle.stamps.specs.Rows.{with_budget}
use Rattle.stamps.specs.Tables.{Table, row, Sound}
use Rattle.stamps.specs.Steps.{initial, changed, can_wake, can_allot, allotted}
use Rattle.stamps.proofs.Soundness.{allotted_sound}
use Rattle.rosters.proofs.Lineups.{entitled}
use Rattle.stamps.proofs.Beginning.{initial_sound}
use Rattle.pools.specs.Fits.{Fits}
use Rattle.pools.specs.Lines.{Choice, line, empty_lists}
use Rattle.machine.specs.Machine.{Rule, beginning}
use Rattle.share_law.specs.Courses.{Course, allot, after}
use Rattle.histories.specs.History as history
use Rattle.histories.specs.History.{unknown}
use Rattle.histories.specs.Promises.{Lawful, Sealed}
use Rattle.histories.proofs.Invariant.{Fine, Stands, Funded, vacant, Inv}

-- the same table with other rows
abbrev pub with_stamps : List Stamp → Table → Table
with_stamps xs t = record t { stamps = xs }

abbrev fresh : List Stamp → Table
fresh xs = record { virtual = 0; sent = 0; serving = None; stamps = xs }

module _ (first : ℕ → ℕ) where
  abbrev pub given : Stamp → Stamp
  given s = with_budget (first s.limit) s

  -- each row from place i on is given its budget
  abbrev allots : ℕ → List Stamp → Course
  allots i [] = []
  allots i (s ∷ ss) = allot i (first s.limit) ∷ allots (i + 1) ss

  pub record Blank (s : Stamp) : Type 0 where
    pub idle : s.status ≡ Idle
    pub limit_low : 256 ≤ s.limit
    pub limit_high : s.limit ≤ 65536
    pub fits : Fits s.limit (first s.limit)

  -- the row s of an idle application, at place i, is given its budget
  module _ (t : Table) (ys ss : List Stamp) (s : Stamp) (i : ℕ) (at : length ys ≡ i) (idle : is_idle s ≡ true) (fits : Fits s.limit (first s.limit)) where
    abbrev old : Table
    old = with_stamps (ys ++ (s ∷ ss)) t

    here : row (with_stamps (ys ++ (s ∷ ss)) t) i ≡ s
    here = get_or_at ys s ss no_stamp i at

    can : can_allot i (first s.limit) (with_stamps (ys ++ (s ∷ ss)) t) ≡ true
    can = and_from (can_wake i old) (may_have (first s.limit) (row old i))
        (and_from (ltb i (length old.stamps)) (is_idle (row old i)) (lt-ltb i (length old.stamps) (omega (arith, at, length-append ys (s ∷ ss)))) (ap is_idle here ∙ idle))
        (ap (may_have (first s.limit)) here ∙ and_from (ltb 0 (first s.limit)) (leb (first s.limit) s.limit) (lt-ltb 0 (first s.limit) (omega (arith, fits.0))) (le-leb (first s.limit) s.limit fits.1))

    pub one_given : allotted i (first s.limit) (with_stamps (ys ++ (s ∷ ss)) t) ≡ with_stamps ((ys ++ (given s ∷ [])) ++ ss) t
    one_given = cond-true (can_allot i (first s.limit) old) (changed i (with_budget (first s.limit) (row old i)) t.serving old) old can
        ∙ ap (λ z. changed i (with_budget (first s.limit) z) t.serving old) here
        ∙ ap (λ xs. with_stamps xs t) (set_at ys s ss (given s) i at ∙ sym (append_assoc ys (given s ∷ []) ss))

  allots_after : (ys ss : List Stamp) (i : ℕ) → length ys ≡ i → All Blank ss → after (allots i ss) (fresh (ys ++ ss)) ≡ fresh (ys ++ map given ss)
  allots_after ys [] i e all = refl
  allots_after ys (s ∷ ss) i e all =
      let b = All-head Blank s ss all in
      ap (λ u. after (allots (i + 1) ss) u) (one_given (fresh []) ys ss s i e (ap (λ st. by_status st true false false) b.idle) b.fits)
      ∙ allots_after (ys ++ (given s ∷ [])) ss (i + 1) (length_push ys (given s) ∙ ap (λ j. j + 1) e) (All-tail Blank s ss all)
      ∙ ap fresh (append_assoc ys (given s ∷ []) (map given ss))

  sound_allots : (ss : List Stamp) (i : ℕ) (t : Table) → Sound t → Sound (after (allots i ss) t)
  sound_allots [] i t h = h
  sound_allots (s ∷ ss) i t h = sound_allots ss (i + 1) (allotted i (first s.limit) t) (allotted_sound i (first s.limit) t h)

module _ (choice : Choice) (first : ℕ → ℕ) (next : Rule) (lawful : Lawful choice first next) (r : LineUp) (sealed : Sealed r) where
  blank : All (Blank first) (initial r).stamps
  blank = All-map (Blank first) (new_stamp (total_weight r)) r.applications
      (All-from_get_or (λ a. Blank first (new_stamp (total_weight r) a)) r.applications (application 0 0)
      (λ k h. let e = entitled (get_or r.applications k (application 0 0)) (sealed.each k (application 0 0) h) in
      record { idle = refl; limit_low = e.limit_low; limit_high = e.limit_high; fits = lawful.first_fits _ e.limit_low e.limit_high }))

  pub opening : Course
  opening = allots first 0 (initial r).stamps

  pub opening_ends : after opening (initial r) ≡ (beginning first r).table
  unfolding opening
  opening_ends = allots_after first [] (initial r).stamps 0 refl blank

  sound : Sound (beginning first r).table
  unfolding opening
  sound = subst Sound opening_ends (sound_allots first (initial r).stamps 0 (initial r) (initial_sound r sealed.few sealed.each))

  pub record First (s : Stamp) : Type 0 where
    pub idle : s.status ≡ Idle
    pub funded : Funded s

  firsts : All First (beginning first r).table.stamps
  firsts = All-map First (given first) (initial r).stamps
      (All-weaker (Blank first) (λ s. First (given first s)) (λ s b. record { idle = b.idle; funded = record { limit_low = b.limit_low; limit_high = b.limit_high; budget = b.fits } }) (initial r).stamps blank)

  size : length (beginning first r).table.stamps ≡ length r.applications
  size = length-map (initial r).stamps (given first) ∙ length-map r.applications (new_stamp (total_weight r))

  each : (k : ℕ) → k < length r.applications → First (row (beginning first r).table k)
  each k h = firsts k no_stamp (omega (arith, h, size))

  -- nothing waits
  none_waits : (k : ℕ) → [] ≡ line empty_lists k
  none_waits k = go (cases_lt k 16)
    where
      go : (k < 16) ⊎ (16 ≤ k) → [] ≡ line empty_lists k
      go (inl h) = sym (get_or-replicate 16 k [] [] h)
      go (inr h) = sym (get_or_past (replicate 16 []) k [] h)

  pub start_inv : Inv r (beginning first r) (λ _. unknown) None 0
  start_inv = record {
    core = record {
      lined = record {
        sixteen = refl;
        lines = none_waits;
        owner = λ _. 0;
        fine = λ k. All-nil (Fine (length r.applications) (λ _. 0) 0 k);
        rising = λ k i j d lt within. absurd (omega arith);
        sums = omega arith;
        total_high = omega arith;
        count_high = omega arith;
      };
      stood = record { sound = sound; size = size; funded = λ k h. (each k h).funded; stands = stands };
      hold = refl;
      clock_high = omega arith;
      head_high = omega arith;
      head_is = refl;
    };
    disk = vacant refl refl refl;
  }
    where
      stands : (k : ℕ) → Stands (row (beginning first r).table k).status r.hold 0 unknown
      stands k = go (cases_lt k (length r.applications))
        where
          idle : history.Idle r.hold 0 unknown
          idle = record { none_waits = refl; none_outstanding = refl; not_recent = tt }

          at : (row (beginning first r).table k).status ≡ Idle → Stands (row (beginning first r).table k).status r.hold 0 unknown
          at e = subst (λ st. Stands st r.hold 0 unknown) (sym e) idle

          go : (k < length r.applications) ⊎ (length r.applications ≤ k) → Stands (row (beginning first r).table k).status r.hold 0 unknown
          go (inl h) = at (each k h).idle
          go (inr h) = at (ap (λ s. s.status) (get_or_past (beginning first r).table.stamps k no_stamp (omega (arith, h, size))))
