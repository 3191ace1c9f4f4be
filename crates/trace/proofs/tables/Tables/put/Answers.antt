use Rattle.std.proofs.Common.{◌++◌, ap, ◌∙◌, arith}
use Rattle.std.specs.List.{flat_map}
use Rattle.std.proofs.lemmas.List.{append_assoc, length-append}
use Rattle.fields.specs.Buffers.{put}
use Rattle.fields.proofs.Puts.{put_twice}
use Rattle.records.specs.Layouts.{settings_bytes, application_bytes, request_bytes, event_bytes}
use Rattle.files.specs.Contents.{end_of}
use Rattle.files.specs.Tables.{contents_bytes}
use Rattle.files.proofs.Lengths.{length_bodies}
use Rattle.trace.specs.View.{given_of}
use Rattle.trace.proofs.tables.Tables.put.Goals as goal

-- the bodies end where the contents say
pub put_table-end-requires : goal.put_table-end-requires
put_table-end-requires c = omega (arith, length_bodies (given_of c.args.self.now), ap end_of c.requires.counts)

pub put_table-end-requires-2 : goal.put_table-end-requires-2
put_table-end-requires-2 c = omega (arith, length_bodies (given_of c.args.self.now), ap end_of c.requires.counts)

pub put_table-requires : goal.put_table-requires
put_table-requires c = omega (arith, length_bodies (given_of c.args.self.now), ap end_of c.requires.counts)

pub returns-clause-after : goal.returns-clause-after
returns-clause-after c =
    let buffer = c.args.out.now in
    let t = c.args.self.now in
    let head = contents_bytes c.args.contents in
    let set = settings_bytes t.settings in
    let xs = flat_map application_bytes t.applications.now in
    let rs = flat_map request_bytes t.requests.now in
    let es = flat_map event_bytes t.events.now in
    let two = put_twice 0 _ head set buffer c.put_contents-end.ensures.after c.put-end.ensures.after c.put_contents-end.ensures.end (omega arith) in
    let three = put_twice 0 _ (head ++ set) xs buffer two c.put_table-end.ensures.after (omega arith) (omega arith) in
    let four = put_twice 0 _ (head ++ (set ++ xs)) rs buffer three c.put_table-end-2.ensures.after (omega arith) (omega arith) in
    let five = put_twice 0 _ (head ++ (set ++ (xs ++ rs))) es buffer four c.put_table.ensures.after (omega (arith, length-append xs rs)) (omega arith) in
    five ∙ ap (λ ys. put 0 (head ++ (set ++ ys)) buffer) (append_assoc xs rs es)
    ∙ ap (λ k. put 0 (contents_bytes k ++ (set ++ (xs ++ (rs ++ es)))) buffer) c.requires.counts
