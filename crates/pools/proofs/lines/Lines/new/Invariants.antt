use Rattle.std.proofs.Common.{◌≡◌, ◌≤◌, [], map, replicate, vec_items, vec_len, vec_capacity}
use Rattle.pools.specs.View.{waiting}
use Rattle.pools.proofs.lines.Lines.new.Given as goal

abbrev pub invariant-loop : goal.invariant-loop
invariant-loop l = record {
  empty : map waiting (vec_items l.lines) ≡ replicate l.counter [];
  made : vec_len l.lines ≡ l.counter;
  room : 16 ≤ vec_capacity l.lines;
}
