-- Courses of steps, what is sent in them, and the law over every stretch of one.
use Rattle.std.specs.Prelude.{◌≡◌, ℕ, ◌+◌, ◌*◌, ◌<◌, ◌≤◌, ◌⊎◌, length}
use Rattle.share_model.specs.Model.{Row, State, row, with_status, place, Active, Amount, Step, sent, sent_for}
use Rattle.share_model.specs.Invariant.{Fresh}

-- any number of steps, one after another
pub data Course (a : State) : State → Type 0 where
  still : Course a a
  next : {b c : State} {x : Amount} → Course a b → Step b c x → Course a c

-- the sectors sent in a course, by all and for application i
abbrev pub all_sent : {a b : State} → Course a b → ℕ
all_sent still = 0
all_sent (next {x = x} cs s) = all_sent cs + sent x

abbrev pub all_sent_for : {a b : State} → ℕ → Course a b → ℕ
all_sent_for i still = 0
all_sent_for i (next {x = x} cs s) = all_sent_for i cs + sent_for i x

-- application i is idle at the beginning of no step
abbrev pub NeverIdleIn : {a b : State} → ℕ → Course a b → Type 0
NeverIdleIn i still = Unit {0}
NeverIdleIn i (next {b = b} cs s) = NeverIdleIn i cs × Active (row b i).status

-- application i is behind the virtual time by no more than this
abbrev pub Lags : ℕ → State → ℕ → Type 0
Lags M a i = a.time ≤ place (row a i).status + (row a i).limit * (row a i).cost + 2520 * M

-- what one step does to an application's row, while the virtual time goes from v to v' and S sectors are sent for it
pub record Moved (old new : Row) (v v' S : ℕ) : Type 0 where
  pub same : new ≡ with_status old new.status
  pub grows : Active old.status → place new.status ≡ place old.status + old.cost * S
  pub stays : Active old.status → Active new.status ⊎ (v' ≤ v)

-- From a to b application i was idle at the beginning of no step, all sent A sectors, and S of them were sent for i.
-- It may be idle at b, after the last step; and where there was no step, at a as well.
pub record Stretch (M i A S : ℕ) (a b : State) : Type 0 where
  pub same : row b i ≡ with_status (row a i) (row b i).status
  pub grew : place (row b i).status ≡ place (row a i).status + (row a i).cost * S
  pub passed : a.time + 2520 * A ≤ b.time
  pub part : S ≤ A
  pub lags : (A ≡ 0) ⊎ (Lags M a i × Lags M b i)

-- an application of weight w and limit m got S of A sectors: its share but for so many
abbrev pub WithinShare : (T M w m A S : ℕ) → Type 0
WithinShare T M w m A S = w * A + w * m ≤ T * S + 2 * T * m + w * M

-- one of weight w₁ and limit m₁ got S₁ sectors while another got S₂
abbrev pub WithinPair : (T M w₁ m₁ S₁ w₂ m₂ S₂ : ℕ) → Type 0
WithinPair T M w₁ m₁ S₁ w₂ m₂ S₂ =
    T * w₂ * S₁ + w₁ * w₂ * (m₁ + m₂) ≤ T * w₁ * S₂ + 2 * T * (w₂ * m₁ + w₁ * m₂) + 2 * w₁ * w₂ * M

-- with X sectors sent since the start, virtual time and positions are at most this
pub record Low (T X : ℕ) (a : State) : Type 0 where
  pub clock : a.time ≤ 2520 * (T * X)
  pub places : (i : ℕ) → i < length a.rows → place (row a i).status ≤ 2520 * (T * X)

-- The law. From a fresh state a to b any steps; from b to c a course in which application i, and j, is idle at the beginning of no step.
abbrev pub LeadLagLaw : Type 0
LeadLagLaw = (T M : ℕ) (a b : State) → Fresh T M a → Course a b → (i : ℕ) → i < length b.rows
    → (place (row b i).status + (row b i).limit * 2520 ≤ b.time + (row b i).limit * (row b i).cost) × (Active (row b i).status → Lags M b i)

abbrev pub ShareLaw : Type 0
ShareLaw = (T M : ℕ) (a b c : State) → Fresh T M a → Course a b → (cs : Course b c) → (i : ℕ) → i < length b.rows → NeverIdleIn i cs
    → WithinShare T M (row b i).weight (row b i).limit (all_sent cs) (all_sent_for i cs)

abbrev pub PairLaw : Type 0
PairLaw = (T M : ℕ) (a b c : State) → Fresh T M a → Course a b → (cs : Course b c)
    → (i j : ℕ) → i < length b.rows → j < length b.rows → NeverIdleIn i cs → NeverIdleIn j cs
    → WithinPair T M (row b i).weight (row b i).limit (all_sent_for i cs) (row b j).weight (row b j).limit (all_sent_for j cs)

abbrev pub LowLaw : Type 0
LowLaw = (T M : ℕ) (a b : State) → Fresh T M a → (cs : Course a b) → Low T (all_sent cs) b
