use Rattle.std.proofs.Common.{◌≡◌, Ok, sym, subst}
use Rattle.machine.specs.Calls.{dispatch_refusal, dispatch_reply}
use Rattle.scheduler.specs.Answers.{answered, said}
use Rattle.driver.specs.Runs.{Holding}
use Rattle.driver.proofs.Holdings.{idle_holding}
use Rattle.driver.proofs.turn.dispatch.Goals as goal

pub returns-in-None-clause-holding : goal.returns-in-None-clause-holding
returns-in-None-clause-holding g c =
    let choice = g.S.Calls.choice in
    let next = g.S.Calls.next in
    let m = g.S.Calls.state c.args.scheduler.now in
    let token = c.args.held.now in
    let idle = subst (λ d. Ok (said d) ≡ answered (dispatch_refusal c.args.time m) (dispatch_reply choice next c.args.time m)) c.in-None.is c.in_ok-token.ensures.answer in
    subst (λ n. Holding n token) (sym c.dispatch.ensures.after) (idle_holding choice next m token c.requires c.args.time idle)
