-- The first budgets, given one application after another. Assumes nothing.
use Rattle.std.proofs.Common.{◌≡◌, ℕ, ◌+◌, ◌<◌, ◌≤◌, true, ◌∷◌, ◌++◌, map, length, get_or, take, drop, sym, refl, ap, ◌∙◌, subst, arith}
use lib.ListN.{length-map}
use Rattle.std.proofs.lemmas.List.{drop_more, map_more, get_or_at, length-take-le, get_or-map}
use Rattle.rosters.specs.Applications.{AllInRange, application}
use Rattle.rosters.specs.Rosters.{LineUp, total_weight}
use Rattle.rosters.specs.Stamps.{is_idle, new_stamp, no_stamp}
use Rattle.rosters.proofs.Lineups.{entitled}
use Rattle.stamps.specs.Tables.{Table, row}
use Rattle.stamps.specs.Steps.{allotted, initial}
use Rattle.pools.specs.Fits.{Fits}
use Rattle.histories.proofs.Start.{given, with_stamps, one_given}
use Rattle.scheduler.specs.Sealing.{Waiting}

-- the table of a roster waits for its first budgets
pub begins_waiting : (r : LineUp) → AllInRange r.applications → Waiting (initial r)
begins_waiting r each =
    let xs = r.applications in
    let f = new_stamp (total_weight r) in
    let d = application 0 0 in
    let within : (k : ℕ) → k < length (map f xs) → k < length xs = λ k h. omega (arith, length-map xs f) in
    let at : (k : ℕ) → k < length (map f xs) → f (get_or xs k d) ≡ get_or (map f xs) k no_stamp = λ k h. sym (get_or-map f xs k d no_stamp (within k h)) in
    record {
      idle = λ k h. subst (λ s. is_idle s ≡ true) (at k h) refl;
      limit_low = λ k h. subst (λ s. 256 ≤ s.limit) (at k h) (entitled (get_or xs k d) (each k d (within k h))).limit_low;
      limit_high = λ k h. subst (λ s. s.limit ≤ 65536) (at k h) (entitled (get_or xs k d) (each k d (within k h))).limit_high;
    }

module _ (first : ℕ → ℕ) (t : Table) where
  -- the applications below i have theirs
  abbrev pub so_far : ℕ → Table
  so_far i = with_stamps (map (given first) (take i t.stamps) ++ drop i t.stamps) t

  module _ (i : ℕ) (h : i < length t.stamps) where
    front_long : length (map (given first) (take i t.stamps)) ≡ i
    front_long = length-map (take i t.stamps) (given first) ∙ length-take-le i t.stamps (omega arith)

    cut : drop i t.stamps ≡ row t i ∷ drop (i + 1) t.stamps
    cut = drop_more t.stamps i no_stamp h

    same_row : row (so_far i) i ≡ row t i
    same_row = ap (λ ys. get_or (map (given first) (take i t.stamps) ++ ys) i no_stamp) cut ∙ get_or_at (map (given first) (take i t.stamps)) (row t i) (drop (i + 1) t.stamps) no_stamp i front_long

    -- one application more
    pub one_more : Waiting t → Fits (row t i).limit (first (row t i).limit) → allotted i (first (row (so_far i) i).limit) (so_far i) ≡ so_far (i + 1)
    one_more w fits =
        ap (λ s. allotted i (first s.limit) (so_far i)) same_row
        ∙ ap (λ ys. allotted i (first (row t i).limit) (with_stamps (map (given first) (take i t.stamps) ++ ys) t)) cut
        ∙ one_given first t (map (given first) (take i t.stamps)) (drop (i + 1) t.stamps) (row t i) i front_long (w.idle i h) fits
        ∙ ap (λ ys. with_stamps (ys ++ drop (i + 1) t.stamps) t) (sym (map_more (given first) t.stamps i no_stamp h))
