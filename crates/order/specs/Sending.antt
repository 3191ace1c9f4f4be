-- The order in which a line's requests are sent.
use Rattle.std.specs.Prelude.{ℕ, zero, suc, ◌+◌, ◌-◌, ◌^◌, min, List, [], ◌∷◌, length, Some, None, Option}
use Rattle.std.specs.List.{remove, slice_get}
use Rattle.pools.specs.Lines.{Choice}
use Rattle.pools.specs.declared.request.Request.{Request}

-- the head stands behind what was sent last, as far as 64 bits go
abbrev pub behind : Request → ℕ
behind r = min (r.first + r.size) (2 ^ 64 - 1)

-- the chosen request, and then what rest says of the others; nothing where none is chosen
abbrev pub sends : Option Request → (Request → List Request) → List Request
sends None rest = []
sends (Some r) rest = r ∷ rest r

-- at most n requests of the line, from a position of the head on
abbrev pub sending_some : Choice → ℕ → List Request → ℕ → List Request
sending_some choice zero xs head = []
sending_some choice (suc n) xs head = sends (slice_get xs (choice xs head)) (λ r. sending_some choice n (remove xs (choice xs head)) (behind r))

-- all requests of the line
abbrev pub sending : Choice → List Request → ℕ → List Request
sending choice xs head = sending_some choice (length xs) xs head
