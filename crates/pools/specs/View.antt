-- What the lines of the program stand for.
use Rattle.std.specs.Prelude.{List, map, vec_items}
use Rattle.pools.specs.declared.line.Line.{Line}
use Rattle.pools.specs.declared.lines.Lines.{Lines}
use Rattle.pools.specs.declared.request.Request.{Request}
use Rattle.pools.specs.declared.table.Table.{Table}

abbrev pub waiting : Line → List Request
waiting l = vec_items l.requests

abbrev pub all_waiting : Lines → List (List Request)
all_waiting ls = map waiting (vec_items ls.lines)

abbrev pub lists_of : {C : Type 0} → Table C → List (List Request)
lists_of t = all_waiting t.lines
