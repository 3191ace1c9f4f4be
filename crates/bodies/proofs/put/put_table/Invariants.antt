use Rattle.std.proofs.Common.{◌≡◌, ◌+◌, length, take}
use Rattle.std.specs.List.{flat_map, All}
use Rattle.fields.specs.Buffers.{put}
use Rattle.bodies.proofs.put.put_table.Given as goal

abbrev pub invariant-loop-record : goal.invariant-loop-record
invariant-loop-record g l =
    (l.end ≡ l.at + length (flat_map g.R.Record.laid (take l.record-index l.table))) × (l.out ≡ put l.at (flat_map g.R.Record.laid (take l.record-index l.table)) l.initial.out) × All g.R.Record.fits (take l.record-index l.table)
