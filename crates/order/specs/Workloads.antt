-- How a request joins a workload.
use Rattle.std.specs.Prelude.{ℕ, ◌+◌, Bool, cond, List, [], ◌∷◌, ◌++◌, length}
use Rattle.pools.specs.declared.request.Kind.TheVariants.{Asynchronous}
use Rattle.pools.specs.declared.request.Request.{Request}

-- it comes last, and is numbered from 1
abbrev pub joined : Bool → ℕ → ℕ → List Request → List Request
joined room first size xs =
    cond room (xs ++ (record { number = length xs + 1; application = 0; first = first; size = size; kind = Asynchronous } ∷ [])) xs
