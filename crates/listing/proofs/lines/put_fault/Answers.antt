use Rattle.std.proofs.Common.{[], ◌∷◌, map, codes, decimal, ◌∙◌, ap₂, arith}
use Rattle.fields.specs.Buffers.{put}
use Rattle.fields.proofs.Puts.{put_twice}
use Rattle.listing.specs.Lines.{spaced, text}
use Rattle.listing.proofs.Widths.{fault_short}
use Rattle.listing.proofs.lines.put_fault.Goals as goal

pub put_numbers-requires : goal.put_numbers-requires
put_numbers-requires c = omega (arith, fault_short c.args.fault _ _ (c.from-layer.ensures ∙ c.from.ensures) (c.from-cause.ensures ∙ c.from-2.ensures) (omega arith))

pub returns-clause-most : goal.returns-clause-most
returns-clause-most c = omega (arith, fault_short c.args.fault _ _ (c.from-layer.ensures ∙ c.from.ensures) (c.from-cause.ensures ∙ c.from-2.ensures) (omega arith))

pub returns-clause-after : goal.returns-clause-after
returns-clause-after c =
    let place = c.args.fault.place in
    put_twice 0 _ (codes "fault") (spaced (map decimal (c.from-layer.result ∷ c.from-cause.result ∷ place ∷ []))) c.args.out.now c.put_bytes-end.ensures.after c.put_numbers.ensures.after c.put_bytes-end.ensures.end (omega arith)
    ∙ ap₂ (λ l n. put 0 (text (codes "fault" ∷ decimal l ∷ decimal n ∷ decimal place ∷ [])) c.args.out.now) (c.from-layer.ensures ∙ c.from.ensures) (c.from-cause.ensures ∙ c.from-2.ensures)
