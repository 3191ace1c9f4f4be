use Rattle.std.proofs.Common.{◌+◌, get_or, refl, arith}
use Rattle.listing.proofs.Widths.{share_short}
use Rattle.replays.specs.Asked.{members}
use Rattle.replays.specs.Credits.{sums_of}
use Rattle.replays.proofs.Sharing.{member_count, sharing_more, sharing_start, shares_same, weight_read}
use Rattle.replays.proofs.replay.shares.put_shares.Goals as goal

pub put_share-end-requires : goal.put_share-end-requires
put_share-end-requires c = omega (arith, share_short 0 1 (get_or c.args.sent.now 0 0) (omega arith) (omega arith) (omega (arith, c.fits-sent 0)))

-- application 0 is the first
pub loop-index-init : goal.loop-index-init
loop-index-init c =
    let sent = sums_of c.args.sent.now in
    let xs = members c.args.workload.now.applications in
    let s = get_or c.args.sent.now 0 0 in
    sharing_more sent xs c.args.out.now c.args.at 0 c.args.at _ 1 s c.args.out.now _ (sharing_start sent xs c.args.out.now c.args.at)
    (omega (arith, member_count c.args.workload.now.applications c.applications-bytes-items.result.now c.applications-bytes-items.ensures.applications)) refl refl
    (share_short 0 1 s (omega arith) (omega arith) (omega (arith, c.fits-sent 0))) c.put_share-end.ensures.end c.put_share-end.ensures.after (omega arith)

pub put_share-end-requires-in-loop-index : goal.put_share-end-requires-in-loop-index
put_share-end-requires-in-loop-index c =
    let k = c.loop-index.index + 1 in
    let s = get_or c.args.sent.now k 0 in
    omega (arith, share_short k c.of-weight.result.weight s (omega arith) (omega arith) (omega (arith, c.fits-sent k)), c.loop-index.invariant.low, c.applications-bytes-items.ensures.few)

pub loop-index-preserved : goal.loop-index-preserved
loop-index-preserved c =
    let xs = c.args.workload.now.applications in
    let bs = c.applications-bytes-items.result.now in
    let is = c.applications-bytes-items.ensures.applications in
    let k = c.loop-index.index + 1 in
    let s = get_or c.args.sent.now k 0 in
    let short = share_short k c.of-weight.result.weight s (omega arith) (omega arith) (omega (arith, c.fits-sent k)) in
    sharing_more (sums_of c.args.sent.now) (members xs) c.args.out.now c.args.at k c.loop-index.end _ c.of-weight.result.weight s c.loop-index.out _ c.loop-index.invariant
    (omega (arith, member_count xs bs is)) (weight_read xs bs is c.loop-index.index c.of-weight.result c.of-weight.ensures c.loop-index-test.true) refl
    short c.put_share-end-in-loop-index.ensures.end c.put_share-end-in-loop-index.ensures.after (omega (arith, c.loop-index.invariant.low, c.applications-bytes-items.ensures.few))

pub returns-clause-after : goal.returns-clause-after
returns-clause-after c =
    let xs = c.args.workload.now.applications in
    shares_same (sums_of c.args.sent.now) (members xs) c.args.out.now c.args.at (c.loop-index.index + 1) c.loop-index.end c.loop-index.out c.loop-index.invariant
    (omega (arith, member_count xs c.applications-bytes-items.result.now c.applications-bytes-items.ensures.applications))
