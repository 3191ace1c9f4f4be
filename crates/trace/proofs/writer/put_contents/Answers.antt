use Rattle.std.proofs.Common.{◌++◌, ap, arith}
use Rattle.fields.proofs.Puts.{put_twice}
use Rattle.files.specs.Counts.{Counts}
use Rattle.files.specs.Tables.{entry_bytes}
use Rattle.trace.proofs.writer.put_contents.Goals as goal

pub returns-clause-after : goal.returns-clause-after
returns-clause-after c =
    let k = c.contents.inside in
    let e0 = entry_bytes 32 1 in
    let e1 = entry_bytes 40 k.applications in
    let e2 = entry_bytes c.requests_at-requests_at.result k.requests in
    let e3 = entry_bytes c.events_at-events_at.result k.events in
    let two = put_twice 0 _ e0 e1 _ c.put_entry-end.ensures.after c.put_entry-end-2.ensures.after c.put_entry-end.ensures.end (omega arith) in
    let three = put_twice 0 _ (e0 ++ e1) e2 _ two c.put_entry-end-3.ensures.after (omega arith) (omega arith) in
    let four = put_twice 0 _ (e0 ++ (e1 ++ e2)) e3 _ three c.put_entry.ensures.after (omega arith) (omega arith) in
    let applications = ap (λ (x : Counts). x.applications) c.contents.view_is in
    let requests = ap (λ (x : Counts). x.requests) c.contents.view_is in
    let events = ap (λ (x : Counts). x.events) c.contents.view_is in
    cc
