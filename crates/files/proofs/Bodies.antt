-- Bodies and their records. Assumes nothing.
use Rattle.std.proofs.Common.{◌≡◌, ℕ, zero, suc, ◌+◌, ◌*◌, ◌/◌, Bool, true, List, [], ◌∷◌, ◌++◌, map, length, take, drop, Ok, sym, refl, ap, ◌∙◌, ap₂, arith}
use Rattle.std.specs.List.{flat_map, All}
use Rattle.std.proofs.lemmas.List.{take-append-drop, length-take-le, length-drop, take_at, drop_at}
use Rattle.std.proofs.Math.Nat.{mul-div_cancel_left}
use Rattle.std.proofs.lemmas.List.Elements.{All-nil, All-cons, All-head, All-tail, All-take, All-drop, All-map, All-weaker}
use Rattle.records.specs.Faults.{onward}
use Rattle.records.proofs.RecordTrips.{Byte, Trips}
use Rattle.bodies.specs.Bodies.{Verdict, judged, chunks}
use Rattle.bodies.specs.Judging.{at_least_sound}
use Rattle.bodies.proofs.Joins.{length_joined}
use Rattle.bodies.proofs.Judged.{judged_map}
use Rattle.files.specs.Reading.{pieces}
use Rattle.files.proofs.Steps.{both_ok}

-- judgements that agree on what holds of each record
pub judged_same : {X : Type 0} (P : X → Type 0) (judge other : ℕ → X → Verdict) → ((i : ℕ) (x : X) → P x → judge i x ≡ other i x) → (i : ℕ) (xs : List X) → All P xs → judged judge i xs ≡ judged other i xs
judged_same P judge other alike i [] all = refl
judged_same P judge other alike i (x ∷ xs) all = ap₂ (λ v w. onward v (λ _. w)) (alike i x (All-head P x xs all)) (judged_same P judge other alike (suc i) xs (All-tail P x xs all))

judged_fine : {X : Type 0} (i : ℕ) (xs : List X) → judged (λ (k : ℕ) (x : X). Ok tt) i xs ≡ Ok tt
judged_fine i [] = refl
judged_fine i (x ∷ xs) = judged_fine (suc i) xs

module _ {X : Type 0} {w : ℕ} {lay : X → List ℕ} {get : List ℕ → X} {sound : List ℕ → Bool} {fits : X → Type 0} (trips : Trips w lay get sound fits) where
  pub length_laid : (xs : List X) → length (flat_map lay xs) ≡ w * length xs
  length_laid xs = length_joined lay w trips.long xs

  -- what records lay out are their bytes one by one
  chunks_laid : (xs : List X) → chunks w (length xs) (flat_map lay xs) ≡ map lay xs
  chunks_laid [] = refl
  chunks_laid (x ∷ xs) =
      ap₂ (λ p q. p ∷ chunks w (length xs) q) (take_at (lay x) (flat_map lay xs) w (trips.long x)) (drop_at (lay x) (flat_map lay xs) w (trips.long x)) ∙ ap (λ q. lay x ∷ q) (chunks_laid xs)

  pub pieces_laid : (xs : List X) → pieces w (flat_map lay xs) ≡ map lay xs
  pieces_laid xs =
      let n : length (flat_map lay xs) / w ≡ length xs = ap (λ k. k / w) (length_laid xs) ∙ mul-div_cancel_left (length xs) trips.some in
      ap (λ k. chunks w k (flat_map lay xs)) n ∙ chunks_laid xs

  -- each of them sound
  pub laid_sound : (first : ℕ) (xs : List X) → All fits xs → judged (λ i bs. at_least_sound (sound bs) (first + w * i)) 0 (pieces w (flat_map lay xs)) ≡ Ok tt
  laid_sound first xs all =
      let judge : ℕ → List ℕ → Verdict = λ i bs. at_least_sound (sound bs) (first + w * i) in
      ap (judged judge 0) (pieces_laid xs) ∙ sym (judged_map lay judge 0 xs)
      ∙ judged_same fits (λ i x. judge i (lay x)) (λ _ _. Ok tt) (λ i x h. ap (λ b. at_least_sound b (first + w * i)) (trips.held x h)) 0 xs all
      ∙ judged_fine 0 xs

  -- and are read back one by one
  map_back : (xs : List X) → All fits xs → map get (map lay xs) ≡ xs
  map_back [] all = refl
  map_back (x ∷ xs) all = ap₂ (λ y ys. y ∷ ys) (trips.read x (All-head fits x xs all)) (map_back xs (All-tail fits x xs all))

  pub laid_read : (xs : List X) → All fits xs → map get (pieces w (flat_map lay xs)) ≡ xs
  laid_read xs all = ap (map get) (pieces_laid xs) ∙ map_back xs all

  -- a body whose records are accepted one by one is what they lay out
  again : (judge : ℕ → List ℕ → Verdict) → ((i : ℕ) (bs : List ℕ) → judge i bs ≡ Ok tt → sound bs ≡ true) → (n i : ℕ) (body : List ℕ) → length body ≡ w * n → All Byte body → judged judge i (chunks w n body) ≡ Ok tt → flat_map lay (map get (chunks w n body)) ≡ body
  again judge strict zero i body size each ok = nothing body (omega arith)
    where
      nothing : (xs : List ℕ) → length xs ≡ 0 → [] ≡ xs
      nothing [] e = refl
      nothing (x ∷ xs) e = absurd (omega arith)
  again judge strict (suc n) i body size each ok =
      let parts = both_ok (judge i (take w body)) (λ _. judged judge (suc i) (chunks w n (drop w body))) tt ok in
      let here = trips.written (take w body) (length-take-le w body (omega arith)) (All-take Byte w body each) (strict i (take w body) parts.1) in
      let rest = again judge strict n (suc i) (drop w body) (length-drop w body ∙ omega arith) (All-drop Byte w body each) parts.2 in
      ap₂ ◌++◌ here rest ∙ take-append-drop w body

  pub read_laid : (judge : ℕ → List ℕ → Verdict) → ((i : ℕ) (bs : List ℕ) → judge i bs ≡ Ok tt → sound bs ≡ true) → (n : ℕ) (body : List ℕ) → length body ≡ w * n → All Byte body → judged judge 0 (pieces w body) ≡ Ok tt → flat_map lay (map get (pieces w body)) ≡ body
  read_laid judge strict n body size each ok =
      let k : length body / w ≡ n = ap (λ l. l / w) size ∙ mul-div_cancel_left n trips.some in
      again judge strict (length body / w) 0 body (size ∙ ap (λ m. w * m) (sym k)) each ok

  -- records that were read fit their fields
  all_chunks : (n : ℕ) (bs : List ℕ) → All Byte bs → All (All Byte) (chunks w n bs)
  all_chunks zero bs each = All-nil (All Byte)
  all_chunks (suc n) bs each = All-cons (All Byte) (take w bs) (chunks w n (drop w bs)) (All-take Byte w bs each) (all_chunks n (drop w bs) (All-drop Byte w bs each))

  pub read_fits : (body : List ℕ) → All Byte body → All fits (map get (pieces w body))
  read_fits body each =
      All-map fits get (pieces w body) (All-weaker (All Byte) (λ bs. fits (get bs)) trips.fitting (pieces w body) (all_chunks (length body / w) body each))
