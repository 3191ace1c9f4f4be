-- Records by their bytes. Assumes nothing.
use Rattle.std.proofs.Common.{◌≡◌, ℕ, ◌+◌, ◌<◌, List, [], ◌∷◌, map, length, get_or, take, fold, sym, ap, ◌∙◌, arith}
use Rattle.std.proofs.lemmas.List.{get_or-map, length-map, take_more}
use Rattle.std.proofs.lemmas.List.Sums.{fold-append}
use Rattle.records.specs.declared.tables.ApplicationRecord.{ApplicationRecord}
use Rattle.rosters.specs.Rosters.{LineUp}
use Rattle.records.specs.Layouts.{application_of, event_record_of}
use Rattle.driver.specs.declared.command.Command.{Command}
use Rattle.files.specs.Tables.{Tables}
use Rattle.replays.specs.Asked.{command, commands, enroll}

-- the commands of the events, by the events' bytes
module _ (t : Tables) (es : List (List ℕ)) (is : map event_record_of es ≡ t.events) where
  pub command_count : length (commands t) ≡ length es
  command_count = length-map t.events (command t.requests) ∙ sym (ap length is) ∙ length-map es event_record_of

  pub command_read : (i : ℕ) (c : Command) → c ≡ command t.requests (event_record_of (get_or es i [])) → i < length es → c ≡ get_or (commands t) i c
  command_read i c e h =
      let blank = event_record_of [] in
      e ∙ ap (command t.requests) (sym (get_or-map event_record_of es i [] blank h) ∙ ap (λ xs. get_or xs i blank) is)
      ∙ sym (get_or-map (command t.requests) t.events i blank c (omega (arith, ap length is, length-map es event_record_of)))

-- one application more is enrolled
pub enroll_more : (t : Tables) (bs : List (List ℕ)) (r : LineUp) (i : ℕ) (a : ApplicationRecord) → map application_of bs ≡ t.applications → a ≡ application_of (get_or bs i []) → i < length bs
    → enroll (fold enroll r (take i t.applications)) a ≡ fold enroll r (take (i + 1) t.applications)
enroll_more t bs r i a is e h =
    let blank = application_of [] in
    let here = e ∙ sym (get_or-map application_of bs i [] blank h) ∙ ap (λ xs. get_or xs i blank) is in
    ap (enroll (fold enroll r (take i t.applications))) here
    ∙ sym (fold-append enroll r (take i t.applications) (get_or t.applications i blank ∷ []))
    ∙ ap (fold enroll r) (sym (take_more t.applications i blank (omega (arith, ap length is, length-map bs application_of))))
