-- What a stamp table of the program stands for.
use Rattle.std.specs.Prelude.{vec_items}
use Rattle.stamps.specs.Tables.{Table}
use Rattle.stamps.specs.declared.table.StampTable.{StampTable}

abbrev pub table : StampTable → Table
table t = record { virtual = t.virtual_time; sent = t.sent; serving = t.serving; stamps = vec_items t.stamps }
