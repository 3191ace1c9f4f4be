-- From the lead and the lag at both ends of a stretch to the two bounds.
use Rattle.std.proofs.Common.{◌≡◌, ℕ, ◌+◌, ◌*◌, ◌<◌, ◌≤◌, length, refl, ap, ◌∙◌, inl, inr, ⊎_elim, add-zero, add_assoc, mul-le-mul_left, zero-add, arith}
use Rattle.share_model.specs.Model.{Row, State, row, with_status, place, Active, Amount, Step, sent, sent_for}
use Rattle.share_model.specs.Invariant.{Fresh, Kept, Inv}
use Rattle.share_model.specs.Stretch.{Course, still, next, all_sent, all_sent_for, NeverIdleIn, Lags, Moved, Stretch, WithinShare, WithinPair, Low}
use Rattle.share_model.specs.Stretch.{LeadLagLaw, ShareLaw, PairLaw, LowLaw}
use Rattle.share_model.proofs.Rows.{within, active_within}
use Rattle.share_model.proofs.Keeps.{lag, inv_step, inv_start}
use Rattle.share_model.proofs.Growth.{step_moved, step_passed, sent_part, low_step, low_start}

none_sent : (c A S : ℕ) → A ≡ 0 → S ≤ A → c * S ≡ 0
none_sent c A S z h = let e : S ≡ 0 = omega arith in omega (arith, ap (λ x. c * x) e)

-- a stretch of no step, and of one step more
pub stretch_none : (M i : ℕ) (a : State) → Stretch M i 0 0 a a
stretch_none M i a = record { same = refl; grew = omega arith; passed = omega arith; part = omega arith; lags = inl refl }

pub stretch_more : (T M i A S : ℕ) (a b c : State) {x : Amount} → Inv T M b → Active (row b i).status → Step b c x → Stretch M i A S a b
    → Stretch M i (A + sent x) (S + sent_for i x) a c
stretch_more T M i A S a b c {x} inv asks s t = record {
  same = moved.same ∙ ap (λ r. with_status r (row c i).status) t.same;
  grew = omega (arith, moved.grows asks, t.grew, ap (λ r. r.cost * sent_for i x) t.same);
  passed = omega (arith, t.passed, step_passed b c s);
  part = omega (arith, t.part, sent_part i x);
  lags = inr (
    ⊎_elim
        (λ z. omega (arith, lag_b, t.grew, t.passed, ap (λ r. r.limit * r.cost) t.same, none_sent (row a i).cost A S z t.part))
        (λ p. p.0) t.lags,
    ⊎_elim (λ g. lag T M c i (inv_step T M b c s inv) g)
        (λ g. omega (arith, lag_b, moved.grows asks, ap (λ r. r.limit * r.cost) moved.same)) (moved.stays asks),
  );
}
  where
    moved : Moved (row b i) (row c i) b.time c.time (sent_for i x)
    moved = step_moved b c s i (active_within b.rows i asks)

    lag_b : Lags M b i
    lag_b = lag T M b i inv asks

-- the arithmetic of the share bound: the lead at the beginning, the lag at the end, and how far it and all came between
share_sum : (T M w m c A S v v' p p' : ℕ) → w * c ≡ 2520 * T → p + m * 2520 ≤ v + m * c → v' ≤ p' + m * c + 2520 * M
    → p' ≡ p + c * S → v + 2520 * A ≤ v' → WithinShare T M w m A S
share_sum T M w m c A S v v' p p' rate lead lag grew passed =
    let h : 2520 * A + 2520 * m ≤ c * S + 2 * (c * m) + 2520 * M = omega arith in
    omega (arith, mul-le-mul_left w h, ap (λ z. z * S) rate, ap (λ z. z * m) rate)

-- that of the pair bound in two halves, with one multiplication in each
by_first : (T M w₁ m₁ c₁ S₁ x y z : ℕ) → w₁ * c₁ ≡ 2520 * T → c₁ * S₁ + 2520 * x ≤ y + 2 * (c₁ * m₁) + 2 * z + 5040 * M
    → 2520 * (T * S₁) + 2520 * (w₁ * x) ≤ w₁ * y + 5040 * (T * m₁) + 2 * (w₁ * z) + 5040 * (w₁ * M)
by_first T M w₁ m₁ c₁ S₁ x y z rate h = omega (arith, mul-le-mul_left w₁ h, ap (λ n. n * S₁) rate, ap (λ n. n * m₁) rate)

by_second : (T M w₁ m₁ S₁ w₂ m₂ c₂ S₂ : ℕ) → w₂ * c₂ ≡ 2520 * T
    → 2520 * (T * S₁) + 2520 * (w₁ * (m₁ + m₂)) ≤ w₁ * (c₂ * S₂) + 5040 * (T * m₁) + 2 * (w₁ * (c₂ * m₂)) + 5040 * (w₁ * M)
    → WithinPair T M w₁ m₁ S₁ w₂ m₂ S₂
by_second T M w₁ m₁ S₁ w₂ m₂ c₂ S₂ rate h = omega (arith, mul-le-mul_left w₂ h, ap (λ n. n * w₁ * S₂) rate, ap (λ n. n * w₁ * m₂) rate)

pair_sum : (T M w₁ m₁ c₁ S₁ w₂ m₂ c₂ S₂ v v' p₁ p₁' p₂ p₂' : ℕ) → w₁ * c₁ ≡ 2520 * T → w₂ * c₂ ≡ 2520 * T
    → v ≤ p₁ + m₁ * c₁ + 2520 * M → p₁' + m₁ * 2520 ≤ v' + m₁ * c₁ → p₁' ≡ p₁ + c₁ * S₁
    → p₂ + m₂ * 2520 ≤ v + m₂ * c₂ → v' ≤ p₂' + m₂ * c₂ + 2520 * M → p₂' ≡ p₂ + c₂ * S₂ → WithinPair T M w₁ m₁ S₁ w₂ m₂ S₂
pair_sum T M w₁ m₁ c₁ S₁ w₂ m₂ c₂ S₂ v v' p₁ p₁' p₂ p₂' rate₁ rate₂ lag₁ lead₁ grew₁ lead₂ lag₂ grew₂ =
    by_second T M w₁ m₁ S₁ w₂ m₂ c₂ S₂ rate₂ (by_first T M w₁ m₁ c₁ S₁ (m₁ + m₂) (c₂ * S₂) (c₂ * m₂) rate₁ (omega arith))

-- the two bounds over a stretch
pub share : (T M i A S : ℕ) (a b : State) → Inv T M a → i < length a.rows → Stretch M i A S a b
    → WithinShare T M (row a i).weight (row a i).limit A S
share T M i A S a b inv at t = ⊎_elim none some t.lags
  where
    r : Row
    r = row a i

    k : Kept T M a.time (row a i)
    k = inv.each i at

    none : A ≡ 0 → WithinShare T M r.weight r.limit A S
    none z = omega (arith, ap (λ x. r.weight * x) z, mul-le-mul_left r.weight k.terms.within)

    some : Lags M a i × Lags M b i → WithinShare T M r.weight r.limit A S
    some g = share_sum T M r.weight r.limit r.cost A S a.time b.time (place r.status) (place (row b i).status)
        k.terms.rate k.lead (omega (arith, g.1, ap (λ x. x.limit * x.cost) t.same)) t.grew t.passed

pub pair : (T M i j A S₁ S₂ : ℕ) (a b : State) → Inv T M a → Inv T M b → i < length a.rows → j < length a.rows
    → Stretch M i A S₁ a b → Stretch M j A S₂ a b
    → WithinPair T M (row a i).weight (row a i).limit S₁ (row a j).weight (row a j).limit S₂
pair T M i j A S₁ S₂ a b inv inv' at₁ at₂ t₁ t₂ = ⊎_elim none (λ g. ⊎_elim none (some g) t₂.lags) t₁.lags
  where
    r₁ : Row
    r₁ = row a i

    r₂ : Row
    r₂ = row a j

    k₁ : Kept T M a.time r₁
    k₁ = inv.each i at₁

    k₂ : Kept T M a.time r₂
    k₂ = inv.each j at₂

    w : ℕ
    w = r₁.weight * r₂.weight

    none : A ≡ 0 → WithinPair T M r₁.weight r₁.limit S₁ r₂.weight r₂.limit S₂
    none z = omega (arith, none_sent (T * r₂.weight) A S₁ z t₁.part, mul-le-mul_left w k₁.terms.within, mul-le-mul_left w k₂.terms.within)

    ahead : Kept T M b.time (row b i)
    ahead = inv'.each i (within (λ x. 1 ≤ x.weight) (λ h. omega arith) b.rows i (omega (arith, k₁.terms.some, ap (λ x. x.weight) t₁.same)))

    some : Lags M a i × Lags M b i → Lags M a j × Lags M b j → WithinPair T M r₁.weight r₁.limit S₁ r₂.weight r₂.limit S₂
    some g₁ g₂ = pair_sum T M r₁.weight r₁.limit r₁.cost S₁ r₂.weight r₂.limit r₂.cost S₂ a.time b.time
        (place r₁.status) (place (row b i).status) (place r₂.status) (place (row b j).status) k₁.terms.rate k₂.terms.rate
        g₁.0 (omega (arith, ahead.lead, ap (λ x. x.limit) t₁.same, ap (λ x. x.limit * x.cost) t₁.same)) t₁.grew
        k₂.lead (omega (arith, g₂.1, ap (λ x. x.limit * x.cost) t₂.same)) t₂.grew

-- whole courses
pub course_inv : (T M : ℕ) {a b : State} → Course a b → Inv T M a → Inv T M b
course_inv T M still inv = inv
course_inv T M (next cs s) inv = inv_step T M _ _ s (course_inv T M cs inv)

-- a stretch goes on by a whole course
pub stretch_course : (T M i A S : ℕ) {a b c : State} (cs : Course b c) → NeverIdleIn i cs → Inv T M b → Stretch M i A S a b
    → Stretch M i (A + all_sent cs) (S + all_sent_for i cs) a c
stretch_course T M i A S still never inv t = simp add-zero t
stretch_course T M i A S (next cs s) never inv t =
    simp (← add_assoc) (stretch_more T M i (A + all_sent cs) (S + all_sent_for i cs) _ _ _ (course_inv T M cs inv) never.1 s
    (stretch_course T M i A S cs never.0 inv t))

-- the law over whole courses
course_low : (T M : ℕ) {a b : State} → Fresh T M a → (cs : Course a b) → Low T (all_sent cs) b
course_low T M f still = low_start T M _ f
course_low T M f (next cs s) = low_step T M (all_sent cs) _ _ (course_inv T M cs (inv_start T M _ f)) s (course_low T M f cs)

from_none : (T M i : ℕ) {a b : State} (cs : Course a b) → NeverIdleIn i cs → Inv T M a → Stretch M i (all_sent cs) (all_sent_for i cs) a b
from_none T M i cs never inv = simp zero-add at (stretch_course T M i 0 0 cs never inv (stretch_none M i _))

pub low_law : LowLaw
low_law T M a b f cs = course_low T M f cs

pub lead_lag_law : LeadLagLaw
lead_lag_law T M a b f cs i l =
    let inv = course_inv T M cs (inv_start T M a f) in ((inv.each i l).lead, λ h. lag T M b i inv h)

pub share_law : ShareLaw
share_law T M a b c f from cs i l never =
    let inv = course_inv T M from (inv_start T M a f) in
    share T M i (all_sent cs) (all_sent_for i cs) b c inv l (from_none T M i cs never inv)

pub pair_law : PairLaw
pair_law T M a b c f from cs i j l₁ l₂ never₁ never₂ =
    let inv = course_inv T M from (inv_start T M a f) in
    pair T M i j (all_sent cs) (all_sent_for i cs) (all_sent_for j cs) b c inv (course_inv T M cs inv) l₁ l₂
    (from_none T M i cs never₁ inv) (from_none T M j cs never₂ inv)
