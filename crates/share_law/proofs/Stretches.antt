-- What holds of the table after every course, and what a stretch of one is in the model.
use Rattle.std.proofs.Common.{◌≡◌, ℕ, ◌+◌, Bool, true, false, cond, [], ◌∷◌, sym, refl, subst, add-zero, add_assoc, zero-add, arith}
use Rattle.std.proofs.lemmas.Bool.{cond_both}
use Rattle.rosters.specs.Rosters.{LineUp, total_weight, largest_limit}
use Rattle.rosters.specs.Stamps.{is_idle}
use Rattle.stamps.specs.Tables.{Table, row, Sound, is_application}
use Rattle.stamps.proofs.Soundness.{woken_sound, allotted_sound, picked_sound, charged_sound, requeued_sound, rested_sound}
use Rattle.share_model.specs.Model as model
use Rattle.share_model.specs.Invariant as invariant
use Rattle.share_model.specs.Stretch.{Stretch}
use Rattle.share_model.proofs.Keeps.{inv_step}
use Rattle.share_model.proofs.Law.{stretch_none, stretch_more}
use Rattle.share_law.specs.Courses.{Operation, allot, wake, pick, send, requeue, rest, Course, applied, made, sends, sends_for, after, sent_in, sent_for, NeverIdle}
use Rattle.share_law.proofs.View.{view, active_is, row_is}
use Rattle.share_law.proofs.Rows.{Rows}
use Rattle.share_law.proofs.Moves.{Moved, still, step}
use Rattle.share_law.proofs.Picks.{goes}

-- what holds after every course
pub record Kept (r : LineUp) (t : Table) : Type 0 where
  pub sound : Sound t
  pub rows : Rows r t.stamps
  pub inv : invariant.Inv (total_weight r) (largest_limit r) (view t)

sound_applied : (o : Operation) (t : Table) → Sound t → Sound (applied o t)
sound_applied (allot k b) = allotted_sound k b
sound_applied (wake k) = woken_sound k
sound_applied pick = picked_sound
sound_applied (send size) = charged_sound size
sound_applied (requeue b) = requeued_sound b
sound_applied (rest b) = rested_sound b

inv_moved : (T M : ℕ) (t t' : Table) (b : Bool) (size : ℕ) → Moved t t' b size → invariant.Inv T M (view t) → invariant.Inv T M (view t')
inv_moved T M t t' b size (still e none) inv = subst (invariant.Inv T M) (sym e) inv
inv_moved T M t t' b size (step x s is all for) inv = inv_step T M (view t) (view t') s inv

pub kept_one : (r : LineUp) (o : Operation) (t : Table) → Kept r t → Kept r (applied o t)
kept_one r o t kept =
    let g = goes r t kept.sound kept.rows o in
    record { sound = sound_applied o t kept.sound; rows = g.rows; inv = inv_moved _ _ t (applied o t) (made o t) (sends o t) g.moved kept.inv }

pub kept_after : (r : LineUp) (os : Course) (t : Table) → Kept r t → Kept r (after os t)
kept_after r [] t kept = kept
kept_after r (o ∷ os) t kept = kept_after r os (applied o t) (kept_one r o t kept)

pub count_after : (r : LineUp) (os : Course) (t : Table) → Kept r t → (after os t).sent ≡ t.sent + sent_in os t
count_after r [] t kept = omega arith
count_after r (o ∷ os) t kept = omega (arith, count_after r os (applied o t) (kept_one r o t kept), (goes r t kept.sound kept.rows o).count)

-- a stretch of the model goes on by one operation, and by a course
module _ (r : LineUp) (a : model.State) (i : ℕ) where
  abbrev Along : ℕ → ℕ → Table → Type 0
  Along A S t = Stretch (largest_limit r) i A S a (view t)

  along_moved : (A S : ℕ) (t t' : Table) (b : Bool) (size : ℕ) → Moved t t' b size → Kept r t → (b ≡ true → is_idle (row t i) ≡ false) → Along A S t
      → Along (A + size) (S + cond (is_application t.serving i) size 0) t'
  along_moved A S t t' b size (still e none) kept asks along =
      let alone : cond (is_application t.serving i) size 0 ≡ 0 = cond_both (is_application t.serving i) size 0 (λ n. n ≡ 0) (λ _. none) (λ _. refl) in
      subst (λ n. Along (A + n) (S + cond (is_application t.serving i) size 0) t') (sym none)
      (subst (λ n. Along (A + 0) (S + n) t') (sym alone) (subst (Stretch (largest_limit r) i (A + 0) (S + 0) a) (sym e) (simp add-zero along)))
  along_moved A S t t' b size (step x s is all for) kept asks along =
      let active : model.Active (model.row (view t) i).status = subst (λ y. model.Active y.status) (sym (row_is t i)) (active_is (row t i) (asks is)) in
      subst (λ n. Along (A + n) (S + cond (is_application t.serving i) size 0) t') all
      (subst (λ n. Along (A + model.sent x) (S + n) t') (for i)
      (stretch_more (total_weight r) (largest_limit r) i A S a (view t) (view t') kept.inv active s along))

  along_after : (os : Course) (A S : ℕ) (t : Table) → Kept r t → NeverIdle i os t → Along A S t
      → Along (A + sent_in os t) (S + sent_for i os t) (after os t)
  along_after [] A S t kept never along = simp add-zero along
  along_after (o ∷ os) A S t kept never along =
      let g = goes r t kept.sound kept.rows o in
      simp (← add_assoc)
      (along_after os (A + sends o t) (S + sends_for i o t) (applied o t) (kept_one r o t kept) never.1
      (along_moved A S t (applied o t) (made o t) (sends o t) g.moved kept never.0 along))

pub stretch : (r : LineUp) (i : ℕ) (os : Course) (t : Table) → Kept r t → NeverIdle i os t
    → Stretch (largest_limit r) i (sent_in os t) (sent_for i os t) (view t) (view (after os t))
stretch r i os t kept never = simp zero-add at (along_after r (view t) i os 0 0 t kept never (stretch_none (largest_limit r) i (view t)))
