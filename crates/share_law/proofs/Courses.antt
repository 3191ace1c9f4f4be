-- Operations that are out of place, and courses put one after another.
use Rattle.std.proofs.Common.{◌≡◌, ℕ, ◌+◌, false, [], ◌∷◌, ◌++◌, is_some, Some, None, Option, refl, arith}
use Rattle.std.proofs.lemmas.Bool.{cond-false, true≢false}
use Rattle.stamps.specs.Tables.{Table, row}
use Rattle.rosters.specs.Stamps.{may_have}
use Rattle.stamps.specs.Steps.{can_allot, can_wake, pick_answer, picked_by, fits, can_send_of, charged_to, may_requeue, can_requeue_of, requeued_from, can_rest_of, rested_from}
use Rattle.share_law.specs.Courses.{allot, wake, pick, send, requeue, rest, Course, applied, after, sent_in, sent_for, NeverIdle}
use Rattle.share_law.specs.Shares.{OutOfPlace}

pub out_of_place : OutOfPlace
out_of_place (allot k b) t h = cond-false (can_allot k b t) _ t h
out_of_place (wake k) t h = cond-false (can_wake k t) _ t h
out_of_place pick t h = go (pick_answer t) h
  where
    go : (o : Option ℕ) → is_some o ≡ false → picked_by o t ≡ t
    go None h = refl
    go (Some k) h = absurd (true≢false h)
out_of_place (send size) t h = go t.serving h
  where
    go : (o : Option ℕ) → can_send_of o size t ≡ false → charged_to o size t ≡ t
    go None h = refl
    go (Some k) h = cond-false (fits k size t) _ t h
out_of_place (requeue b) t h = go t.serving h
  where
    go : (o : Option ℕ) → can_requeue_of o b t ≡ false → requeued_from o b t ≡ t
    go None h = refl
    go (Some k) h = cond-false (may_requeue b (row t k)) _ t h
out_of_place (rest b) t h = go t.serving h
  where
    go : (o : Option ℕ) → can_rest_of o b t ≡ false → rested_from o b t ≡ t
    go None h = refl
    go (Some k) h = cond-false (may_have b (row t k)) _ t h

-- for whoever says what a call does by a course: one course after another
pub after_append : (xs ys : Course) (t : Table) → after (xs ++ ys) t ≡ after ys (after xs t)
after_append [] ys t = refl
after_append (o ∷ xs) ys t = after_append xs ys (applied o t)

pub sent_in_append : (xs ys : Course) (t : Table) → sent_in (xs ++ ys) t ≡ sent_in xs t + sent_in ys (after xs t)
sent_in_append [] ys t = omega arith
sent_in_append (o ∷ xs) ys t = omega (arith, sent_in_append xs ys (applied o t))

pub sent_for_append : (k : ℕ) (xs ys : Course) (t : Table) → sent_for k (xs ++ ys) t ≡ sent_for k xs t + sent_for k ys (after xs t)
sent_for_append k [] ys t = omega arith
sent_for_append k (o ∷ xs) ys t = omega (arith, sent_for_append k xs ys (applied o t))

pub never_idle_append : (k : ℕ) (xs ys : Course) (t : Table) → NeverIdle k xs t → NeverIdle k ys (after xs t) → NeverIdle k (xs ++ ys) t
never_idle_append k [] ys t first second = second
never_idle_append k (o ∷ xs) ys t first second = (first.0, never_idle_append k xs ys (applied o t) first.1 second)
