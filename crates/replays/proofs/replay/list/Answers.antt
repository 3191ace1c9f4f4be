use Rattle.std.proofs.Common.{◌≡◌, ◌+◌, ◌≤◌, length, sym, ap, ◌∙◌, subst, arith, rules}
use Rattle.std.proofs.lemmas.List.{length-append}
use Rattle.fields.specs.Buffers.{put}
use Rattle.fields.proofs.Puts.{put_twice}
use Rattle.rosters.specs.Rosters.{line_up}
use Rattle.histories.proofs.Reachable.{recorded_runs}
use Rattle.histories.specs.History.{sent_for}
use Rattle.histories.specs.Promises.{Lawful, Promises, Sealed}
use Rattle.machine.specs.Machine.{beginning}
use Rattle.driver.specs.Runs.{calls_of, history}
use Rattle.listing.proofs.Near.{near_start}
use Rattle.listing.specs.Near.{StaysNear}
use Rattle.replays.specs.Asked.{commands, roster}
use Rattle.replays.specs.Credits.{sums_of}
use Rattle.replays.specs.Listings.{event_lines, played, share_lines, start}
use Rattle.replays.proofs.Sharing.{shares_same_by}
use Rattle.replays.proofs.replay.list.Goals as goal

pub play-end-requires-clause-near : goal.play-end-requires-clause-near
play-end-requires-clause-near g c =
    let t = c.args.workload.now in
    let choice = g.P.Pool.choice in
    let first = g.R.BudgetRule.first_budget in
    let next = g.R.BudgetRule.next_budget in
    let begins = c.new-session.ensures ∙ c.seal.ensures.state ∙ ap (beginning first) c.in_ok-members.ensures in
    let lawful : Lawful choice first next = record { within = g.met.P.Pool.within; first_fits = g.met.R.BudgetRule.first_fits; next_fits = g.met.R.BudgetRule.next_fits } in
    let members = c.in_ok-members.members in
    let sealed : Sealed (line_up members) = record { some = search rules; few = search rules; each = members.each; hold_low = members.hold_low; hold_high = members.hold_high } in
    subst (StaysNear choice next) (sym begins) (near_start choice first next (roster t) lawful (subst Sealed c.in_ok-members.ensures sealed))

-- the lines of the events, those of the applications behind them, and the sealing's promises
pub returns : goal.returns
returns g c =
    let t = c.args.workload.now in
    let choice = g.P.Pool.choice in
    let first = g.R.BudgetRule.first_budget in
    let next = g.R.BudgetRule.next_budget in
    let begins = c.new-session.ensures ∙ c.seal.ensures.state ∙ ap (beginning first) c.in_ok-members.ensures in
    let events = event_lines choice next (commands t) (start choice first next t) in
    let shares = share_lines (λ k. sent_for k (played choice first next t)) 0 (roster t).applications in
    let few : length (roster t).applications ≤ 16 = subst (λ r. length r.applications ≤ 16) c.in_ok-members.ensures (search rules) in
    let put_events = subst (λ m. c.play-end.new.out ≡ put 0 (event_lines choice next (commands t) m) c.args.out.now) begins c.play-end.ensures.after in
    let events_end : c.play-end.result.end ≡ length events = subst (λ m. c.play-end.result.end ≡ length (event_lines choice next (commands t) m)) begins c.play-end.ensures.end in
    let sums = c.play-end.result.sent in
    let summed : share_lines (sums_of sums) 0 (roster t).applications ≡ shares =
    shares_same_by (sums_of sums) (λ k. sent_for k (played choice first next t)) 0 (roster t).applications
    (λ k h. subst (λ m. sums_of sums k ≡ sent_for k (history choice next (commands t) m)) begins (c.play-end.ensures.sums k (omega (arith, few)))) in
    let put_shares = subst (λ ys. c.put_shares.new.out ≡ put c.play-end.result.end ys c.play-end.new.out) summed c.put_shares.ensures.after in
    let shares_end = subst (λ ys. c.put_shares.result ≡ c.play-end.result.end + length ys) summed c.put_shares.ensures.end in
    let promises = subst (Promises choice first next) c.in_ok-members.ensures c.seal.ensures.promises in
    record {
      length_is = shares_end ∙ ap (λ n. n + length shares) events_end ∙ sym (length-append events shares);
      most = omega (arith, c.put_shares.ensures.most, c.play-end.ensures.most);
      after = put_twice 0 _ events shares c.args.out.now put_events put_shares (events_end ∙ omega arith) (omega arith);
      promises = promises (played choice first next t) (recorded_runs choice next (start choice first next t) (calls_of choice next (commands t) (start choice first next t)));
    }
