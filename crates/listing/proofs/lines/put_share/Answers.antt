use Rattle.std.proofs.Common.{codes, ap, ◌∙◌, arith}
use Rattle.fields.specs.Buffers.{put}
use Rattle.listing.specs.Lines.{named, share_line}
use Rattle.listing.proofs.Parts.{put_three, share_parts}
use Rattle.listing.proofs.lines.put_share.Goals as goal

pub returns-clause-after : goal.returns-clause-after
returns-clause-after c =
    let a = named (codes "app ") c.args.application (codes " ") in
    let b = named (codes "weight ") c.from.result (codes " ") in
    let d = named (codes "sent ") c.args.sectors (codes "\n") in
    put_three _ _ _ a b d _ c.put_named-end.ensures.after c.put_named-end-2.ensures.after c.put_named.ensures.after c.put_named-end.ensures.end c.put_named-end-2.ensures.end (omega arith)
    ∙ ap (λ ys. put c.args.at ys c.args.out.now) (share_parts c.args.application c.from.result c.args.sectors ∙ ap (λ w. share_line c.args.application w c.args.sectors) c.from.ensures)
