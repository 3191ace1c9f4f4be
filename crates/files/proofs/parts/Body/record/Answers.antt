use Rattle.std.proofs.Common.{◌≡◌, ◌<◌, ◌≤◌, length, get_or, sym, ◌∙◌}
use Rattle.std.proofs.lemmas.Bool.{ltb-false}
use Rattle.files.specs.Reading.{pieces}
use Rattle.files.proofs.Rows.{none_placed, one_placed}
use Rattle.files.proofs.parts.Body.record.Goals as goal

pub returns-in_err-bytes : goal.returns-in_err-bytes
returns-in_err-bytes g c =
    let list = pieces g.row.N c.args.self.now.bytes.now in
    let none = ltb-false c.args.index (length c.pieces.result.now) (sym c.in_err-bytes.ensures.lookup.0) in
    let past : length list ≤ c.args.index = rw (← c.pieces.ensures.value) none in
    c.from_residual.ensures ∙ none_placed g.R.FixedRecord.parsed c.args.self.now.offset g.row.N list c.args.index past

pub returns : goal.returns
returns g c =
    let list = pieces g.row.N c.args.self.now.bytes.now in
    let bytes = c.in_ok-bytes.bytes.now in
    let found = c.in_ok-bytes.ensures.lookup in
    let within : c.args.index < length list = rw (← c.pieces.ensures.value) found.3.0 in
    let there : bytes ≡ get_or list c.args.index bytes = rw (← c.pieces.ensures.value) found.1 in
    one_placed g.R.FixedRecord.parsed c.args.self.now.offset g.row.N list c.args.index bytes c.of.result within there c.of.ensures
