-- Parts of a file, and the records in them.
use Rattle.std.specs.Prelude.{ℕ, ◌+◌, ◌*◌, List, take, drop, Option}
use Rattle.std.specs.Option.{option_map}
use Rattle.std.specs.List.{slice_get}
use Rattle.files.specs.declared.parts.Body.{Body}
use Rattle.files.specs.declared.parts.Placed.{Placed}

-- a part of the file, and where it begins
pub record Part : Type 0 where
  pub offset : ℕ
  pub bytes : List ℕ

abbrev pub part : ℕ → ℕ → List ℕ → Part
part at size bs = record { offset = at; bytes = take size (drop at bs) }

-- what a body of the program stands for
abbrev pub part_of : Body → Part
part_of b = record { offset = b.offset; bytes = b.bytes.now }

-- the record at i of a body that begins at first, with its offset in the file
abbrev pub placed : {X : Type 0} → ℕ → ℕ → List X → ℕ → Option (Placed X)
placed first w xs i = option_map (λ x. record { offset = first + w * i; value = x }) (slice_get xs i)
