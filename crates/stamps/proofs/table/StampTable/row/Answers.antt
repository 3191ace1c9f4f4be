use Rattle.std.proofs.Common.{ap, ◌∙◌, vec_items, unwrap_or}
use Rattle.std.proofs.lemmas.Option.{unwrap_or-slice_get}
use Rattle.rosters.specs.Stamps.{no_stamp}
use Rattle.stamps.proofs.table.StampTable.row.Goals as goal

pub returns : goal.returns
returns c = c.unwrap_or.ensures ∙ ap (λ o. unwrap_or o no_stamp) c.stamp.ensures ∙ unwrap_or-slice_get (vec_items c.args.self.now.stamps) c.args.application no_stamp
