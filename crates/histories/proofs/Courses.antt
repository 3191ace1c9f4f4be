-- From one table to another by a course of operations, in which so many sectors are sent, and some
-- applications are never idle.
use Rattle.std.proofs.Common.{◌≡◌, ℕ, ◌+◌, Bool, true, false, cond, [], ◌∷◌, ◌++◌, refl, ap, ◌∙◌, subst, arith}
use Rattle.rosters.specs.Stamps.{is_idle}
use Rattle.stamps.specs.Tables.{Table, row, is_application}
use Rattle.share_law.specs.Courses.{Operation, Course, applied, sends, sends_for, after, sent_in, sent_for, NeverIdle}

pub after_append : (os ps : Course) (t : Table) → after (os ++ ps) t ≡ after ps (after os t)
after_append [] ps t = refl
after_append (o ∷ os) ps t = after_append os ps (applied o t)

sent_append : (os ps : Course) (t : Table) → sent_in (os ++ ps) t ≡ sent_in os t + sent_in ps (after os t)
sent_append [] ps t = omega arith
sent_append (o ∷ os) ps t = omega (arith, sent_append os ps (applied o t))

sent_for_append : (k : ℕ) (os ps : Course) (t : Table) → sent_for k (os ++ ps) t ≡ sent_for k os t + sent_for k ps (after os t)
sent_for_append k [] ps t = omega arith
sent_for_append k (o ∷ os) ps t = omega (arith, sent_for_append k os ps (applied o t))

never_append : (k : ℕ) (os ps : Course) (t : Table) → NeverIdle k os t → NeverIdle k ps (after os t) → NeverIdle k (os ++ ps) t
never_append k [] ps t h g = g
never_append k (o ∷ os) ps t h g = (h.0, never_append k os ps (applied o t) h.1 g)

pub record Led (t t' : Table) (A : ℕ) (S : ℕ → ℕ) (Asks : ℕ → Type 0) : Type 0 where
  pub course : Course
  pub ends : after course t ≡ t'
  pub all : sent_in course t ≡ A
  pub own : (k : ℕ) → sent_for k course t ≡ S k
  pub asks : (k : ℕ) → Asks k → NeverIdle k course t

-- nothing is sent
abbrev pub Silent : Table → Table → (ℕ → Type 0) → Type 0
Silent t t' Asks = Led t t' 0 (λ _. 0) Asks

pub led_none : (t : Table) (Asks : ℕ → Type 0) → Silent t t Asks
led_none t Asks = record { course = []; ends = refl; all = refl; own = λ k. refl; asks = λ k _. tt }

pub led_one : (o : Operation) (t t' : Table) (A : ℕ) (S : ℕ → ℕ) (Asks : ℕ → Type 0) → applied o t ≡ t' → sends o t ≡ A → ((k : ℕ) → sends_for k o t ≡ S k)
    → ((k : ℕ) → Asks k → is_idle (row t k) ≡ false) → Led t t' A S Asks
led_one o t t' A S Asks e all own awake =
    record { course = o ∷ []; ends = e; all = omega (arith, all); own = λ k. let h = own k in omega arith; asks = λ k a. ((λ _. awake k a), tt) }

none_for : (b : Bool) → ◌≡◌ {A = ℕ} (cond b 0 0) 0
none_for true = refl
none_for false = refl

pub led_silent : (o : Operation) (t t' : Table) (Asks : ℕ → Type 0) → applied o t ≡ t' → sends o t ≡ 0
    → ((k : ℕ) → Asks k → is_idle (row t k) ≡ false) → Silent t t' Asks
led_silent o t t' Asks e none awake =
    led_one o t t' 0 (λ _. 0) Asks e none (λ k. ap (λ n. cond (is_application t.serving k) n 0) none ∙ none_for (is_application t.serving k)) awake

module _ (t t' t'' : Table) (A B : ℕ) (S R : ℕ → ℕ) (Asks : ℕ → Type 0) where
  pub led_then : Led t t' A S Asks → Led t' t'' B R Asks → Led t t'' (A + B) (λ k. S k + R k) Asks
  led_then f g = subst (λ u. Led t' u B R Asks → Led t u (A + B) (λ k. S k + R k) Asks) g.ends (λ _. join) g
    where
      join : Led t (after g.course t') (A + B) (λ k. S k + R k) Asks
      join = subst (λ u. sent_in g.course u ≡ B → ((k : ℕ) → sent_for k g.course u ≡ R k) → ((k : ℕ) → Asks k → NeverIdle k g.course u) → Led t (after g.course u) (A + B) (λ k. S k + R k) Asks)
          f.ends
          (λ all own asks. record {
            course = f.course ++ g.course;
            ends = after_append f.course g.course t;
            all = let h = f.all in omega (arith, sent_append f.course g.course t);
            own = λ k. let h = f.own k in let i = own k in omega (arith, sent_for_append k f.course g.course t);
            asks = λ k a. never_append k f.course g.course t (f.asks k a) (asks k a);
          })
          g.all g.own g.asks

pub led_same : (t t' : Table) (A B : ℕ) (S R : ℕ → ℕ) (P Q : ℕ → Type 0) → A ≡ B → ((k : ℕ) → S k ≡ R k) → ((k : ℕ) → Q k → P k) → Led t t' A S P → Led t t' B R Q
led_same t t' A B S R P Q e f g l = record { course = l.course; ends = l.ends; all = l.all ∙ e; own = λ k. l.own k ∙ f k; asks = λ k q. l.asks k (g k q) }

-- first something silent
pub led_after : (t t' t'' : Table) (A : ℕ) (S : ℕ → ℕ) (Asks : ℕ → Type 0) → Silent t t' Asks → Led t' t'' A S Asks → Led t t'' A S Asks
led_after t t' t'' A S Asks f g = led_same t t'' (0 + A) A (λ k. 0 + S k) S Asks Asks (omega arith) (λ k. omega arith) (λ k q. q) (led_then t t' t'' 0 A (λ _. 0) S Asks f g)
