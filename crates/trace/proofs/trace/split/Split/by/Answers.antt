use Rattle.std.proofs.Common.{◌∙◌}
use Rattle.std.proofs.lemmas.Option.{MatchOption-at_some}
use Rattle.trace.proofs.Calls.{split_is}
use Rattle.trace.proofs.trace.split.Split.by.Goals as goal

pub returns : goal.returns
returns c =
    let whole = (MatchOption-at_some _ _ _ c.unwrap.ensures c.as_array.ensures.cases).same in
    split_is _ c.args.contents c.args.bytes.now _ _ _ _ _ _ c.contents.view_is (whole ∙ c.cut.ensures.value) c.requests_at-requests_at.ensures c.events_at-events_at.ensures
    c.of.ensures.value c.of-2.ensures.value c.of-3.ensures.value
