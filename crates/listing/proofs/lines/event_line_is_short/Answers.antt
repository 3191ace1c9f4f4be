use Rattle.std.proofs.Common.{Ok, ap, ◌∙◌, subst, arith}
use Rattle.driver.specs.Runs.{time_of}
use Rattle.listing.specs.Near.{Small}
use Rattle.listing.proofs.Widths.{same_short, accepted_short, sent_short, held_short, nothing_short, done_short, ticked_short, refused_short}
use Rattle.listing.proofs.lines.event_line_is_short.Goals as goal

pub returns-in_default : goal.returns-in_default
returns-in_default c = same_short c.args.command c.in_default.is (refused_short c.args.command c.in_default.field-0 (omega (arith, c.time-time.ensures)))

pub returns-in-Accepted : goal.returns-in-Accepted
returns-in-Accepted c =
    same_short c.args.command (c.in-Ok.is ∙ ap Ok c.in-Accepted.is)
    (accepted_short c.args.command c.in-Accepted._number (omega (arith, c.time-time.ensures)) (omega (arith, c.application_of-application.ensures)) (omega arith))

pub returns-in-Sent : goal.returns-in-Sent
returns-in-Sent c =
    let is = c.in-Ok.is ∙ ap Ok c.in-Sent.is in
    same_short c.args.command is (sent_short c.args.command c.in-Sent.request (subst (Small (time_of c.args.command)) is c.requires) (omega arith) (omega arith))

pub returns-in-Held : goal.returns-in-Held
returns-in-Held c =
    same_short c.args.command (c.in-Ok.is ∙ ap Ok c.in-Held.is) (held_short c.args.command c.in-Held._application c.in-Held._until (omega (arith, c.time-time.ensures)) (omega arith) (omega arith))

pub returns-in-Nothing : goal.returns-in-Nothing
returns-in-Nothing c = same_short c.args.command (c.in-Ok.is ∙ ap Ok c.in-Nothing.is) (nothing_short c.args.command (omega (arith, c.time-time.ensures)))

pub returns-in-Done : goal.returns-in-Done
returns-in-Done c = same_short c.args.command (c.in-Ok.is ∙ ap Ok c.in-Done.is) (done_short c.args.command c.in-Done._number (omega (arith, c.time-time.ensures)) (omega arith))

pub returns-in-Ticked : goal.returns-in-Ticked
returns-in-Ticked c = same_short c.args.command (c.in-Ok.is ∙ ap Ok c.in-Ticked.is) (ticked_short c.args.command (omega (arith, c.time-time.ensures)))
