-- Which numbers a line may have.
use Rattle.std.specs.Prelude.{ℕ, ◌+◌, ◌^◌, cond, ◌&&◌, Some, None, Option, nat_le}
use Rattle.order.specs.declared.line.Line.{Line}
use Rattle.order.specs.declared.line.Line.TheVariants.{Request, Rule}

-- 1 to 256 sectors, the last of them below 2^40
abbrev pub request_entry : ℕ → ℕ → Option Line
request_entry first size = cond (nat_le 1 size && (nat_le size 256 && nat_le (first + size) (2 ^ 40))) (Some (Request first size)) None

abbrev pub limit_entry : ℕ → Option Line
limit_entry sectors = cond (nat_le 256 sectors && nat_le sectors 65536) (Some (Rule sectors)) None
