use Rattle.std.proofs.Common.{◌+◌, length, take, sym, ap, ◌∙◌, subst, arith}
use Rattle.std.specs.List.{flat_map}
use Rattle.std.proofs.lemmas.List.{length-append}
use Rattle.std.proofs.lemmas.List.Elements.{All-nil, All-more}
use Rattle.fields.specs.Buffers.{put}
use Rattle.fields.proofs.Puts.{put_none, put_twice}
use Rattle.bodies.proofs.Joins.{joined_step, joined_front}
use Rattle.bodies.proofs.put.put_table.Goals as goal

pub loop-record-init : goal.loop-record-init
loop-record-init g c = (omega arith, sym (put_none c.args.at c.args.out.now), All-nil g.R.Record.fits)

pub put-end-requires : goal.put-end-requires
put-end-requires g c =
    let laid = g.R.Record.laid in
    let table = c.args.table.now in
    let i = c.loop-record.record-index in
    let x = c.record-item.result in
    let more = ap length (joined_step laid table i x c.loop-record-test.true c.record-item.is) in
    let inside = joined_front laid (i + 1) table in
    omega (arith, c.requires, c.loop-record.invariant.0, more, inside, length-append (flat_map laid (take i table)) (laid x))

pub loop-record-preserved : goal.loop-record-preserved
loop-record-preserved g c =
    let laid = g.R.Record.laid in
    let table = c.args.table.now in
    let i = c.loop-record.record-index in
    let x = c.record-item.result in
    let before = flat_map laid (take i table) in
    let more = joined_step laid table i x c.loop-record-test.true c.record-item.is in (
      omega (arith, c.put-end.ensures.end, c.loop-record.invariant.0, ap length more, length-append before (laid x)),
      put_twice c.args.at c.loop-record.end before (laid x) c.args.out.now c.loop-record.invariant.1 c.put-end.ensures.after c.loop-record.invariant.0 (omega (arith, c.requires)) ∙ ap (λ ys. put c.args.at ys c.args.out.now) (sym more),
      All-more g.R.Record.fits table i x c.loop-record-test.true c.loop-record.invariant.2 (subst g.R.Record.fits c.record-item.is c.put-end.ensures.within),
    )
