-- The records of a body by their index. Assumes nothing.
use Rattle.std.proofs.Common.{◌≡◌, ℕ, ◌+◌, ◌*◌, ◌/◌, ◌<◌, ◌≤◌, List, map, length, get_or, Some, None, sym, refl, ap, ◌∙◌, arith}
use Rattle.std.specs.Option.{option_map}
use Rattle.std.proofs.lemmas.List.{length-map}
use Rattle.std.proofs.lemmas.Option.{slice_get-map, slice_get_read, slice_get_past}
use Rattle.bodies.proofs.Chunks.{length_chunks}
use Rattle.files.specs.Reading.{pieces}
use Rattle.files.specs.Parts.{placed}
use Rattle.files.specs.declared.parts.Placed.{Placed}

pub count : {X : Type 0} (f : List ℕ → X) (w : ℕ) (body : List ℕ) → length body / w ≡ length (map f (pieces w body))
count f w body = sym (length-map (pieces w body) f ∙ length_chunks w (length body / w) body)

module _ {X Y : Type 0} (f : X → Y) (first w : ℕ) (xs : List X) (i : ℕ) where
  abbrev place : Y → Placed Y
  place y = record { offset = first + w * i; value = y }

  pub none_placed : length xs ≤ i → None ≡ placed first w (map f xs) i
  none_placed past = sym (ap (option_map place) (slice_get_past (map f xs) i (omega (arith, length-map xs f))))

  pub one_placed : (x : X) (y : Y) → i < length xs → x ≡ get_or xs i x → y ≡ f x → Some (place y) ≡ placed first w (map f xs) i
  one_placed x y within there is =
      ap (λ z. Some (place z)) is ∙ sym (ap (option_map place) (slice_get-map f xs i ∙ ap (option_map f) (slice_get_read xs (length xs) i x refl within there)))
