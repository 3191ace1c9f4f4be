-- The choice of the last-come pool.
use Rattle.std.specs.Prelude.{List, ℕ, ◌-◌, length}
use Rattle.pools.specs.declared.request.Request.{Request}

abbrev pub youngest : List Request → ℕ → ℕ
youngest xs head = length xs - 1
