-- What an accepted step says of its parts. Assumes nothing.
use Rattle.std.proofs.Common.{◌≡◌, Bool, true, false, cond, Ok, Err, Result, refl}
use Rattle.records.specs.Faults.{onward}
use Rattle.records.specs.declared.fault.Fault.{Fault}

-- a step after another
pub both_ok : {X Y : Type 0} (r : Result X Fault) (f : X → Result Y Fault) (y : Y) → onward r f ≡ Ok y → (x : X) × (r ≡ Ok x) × (f x ≡ Ok y)
both_ok (Ok x) f y h = (x, refl, h)
both_ok (Err e) f y h = absurd (cc)

-- a test that lets pass
pub test_ok : {X : Type 0} (b : Bool) (x y : X) (e : Fault) → cond b (Ok x) (Err e) ≡ Ok y → (b ≡ true) × (x ≡ y)
test_ok true x y e h = (refl, cc)
test_ok false x y e h = absurd (cc)

-- a test that lets pass to another
pub passed_test : {X : Type 0} (b : Bool) (r : Result X Fault) (e : Fault) (y : X) → cond b r (Err e) ≡ Ok y → (b ≡ true) × (r ≡ Ok y)
passed_test true r e y h = (refl, h)
passed_test false r e y h = absurd (cc)

-- a test that keeps out
pub past_test : {X : Type 0} (b : Bool) (e : Fault) (r : Result X Fault) (y : X) → cond b (Err e) r ≡ Ok y → (b ≡ false) × (r ≡ Ok y)
past_test true e r y h = absurd (cc)
past_test false e r y h = (refl, h)

-- steps that go on alike
pub onward_same : {X Y : Type 0} (r : Result X Fault) (f g : X → Result Y Fault) → ((x : X) → r ≡ Ok x → f x ≡ g x) → onward r f ≡ onward r g
onward_same (Ok x) f g h = h x refl
onward_same (Err e) f g h = refl

pub onward_onward : {X Y Z : Type 0} (r : Result X Fault) (f : X → Result Y Fault) (g : Y → Result Z Fault) → onward (onward r f) g ≡ onward r (λ x. onward (f x) g)
onward_onward (Ok x) f g = refl
onward_onward (Err e) f g = refl

-- a test, and what follows where it lets pass
pub tested : {X Y : Type 0} (b : Bool) (x : X) (e : Fault) (f : X → Result Y Fault) (r : Result Y Fault) → (b ≡ true → f x ≡ r) → onward (cond b (Ok x) (Err e)) f ≡ cond b r (Err e)
tested true x e f r h = h refl
tested false x e f r h = refl
