-- What holds of every application of a roster.
use Rattle.std.specs.Prelude.{◌≡◌, ℕ, ◌<◌, Bool, true, ◌&&◌, List, length, nat_le, slice_index_or}
use Rattle.rosters.specs.declared.application.Application.{Application}

abbrev pub application : ℕ → ℕ → Application
application w m = record { weight = w; limit = m }

-- application 0 of every roster
abbrev pub default_application : Application
default_application = application 1 256

-- x lies from low to high, both included
abbrev pub between : ℕ → ℕ → ℕ → Bool
between low high x = nat_le low x && nat_le x high

-- weights are 1 to 10, limits 256 to 65,536
abbrev pub in_range : Application → Bool
in_range a = between 1 10 a.weight && between 256 65536 a.limit

abbrev pub AllInRange : List Application → Type 0
AllInRange xs = (k : ℕ) (d : Application) → k < length xs → in_range (slice_index_or xs k d) ≡ true

-- application 0 stands first
abbrev pub Begins : List Application → Type 0
Begins xs = (d : Application) → slice_index_or xs 0 d ≡ default_application
