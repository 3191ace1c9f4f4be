-- How large the numbers of a send can be.
use Rattle.std.specs.Prelude.{◌≡◌, ℕ, ◌^◌, ◌≤◌, Some, Ok, Result}
use Rattle.std.specs.List.{slice_get}
use Rattle.histories.specs.History.{History}
use Rattle.histories.specs.Promises.{Run, after}
use Rattle.machine.specs.Machine.{Machine, Rule}
use Rattle.pools.specs.Lines.{Choice, line}
use Rattle.pools.specs.declared.request.Request.{Request}
use Rattle.driver.specs.declared.command.Answer.{Answer}
use Rattle.driver.specs.declared.command.Answer.TheVariants.{Sent}
use Rattle.driver.specs.declared.command.Refused.{Refused}

-- no request that waits begins above sector 2^40, or has more than 256 sectors
abbrev pub Near : Machine → Type 0
Near m = (k i : ℕ) (q : Request) → slice_get (line m.lists k) i ≡ Some q → (q.first ≤ 2 ^ 40) × (q.size ≤ 256)

-- and so it stays, whatever is called
abbrev pub StaysNear : Choice → Rule → Machine → Type 0
StaysNear choice next m = (h : History) → Run choice next m h → Near (after choice next m h)

-- the time and the request of a send: neither is large
abbrev pub Small : ℕ → Result Answer Refused → Type 0
Small time (Ok (Sent q)) = (time ≤ 2 ^ 40) × (q.first ≤ 2 ^ 40) × (q.size ≤ 256)
Small time _ = Unit {0}
