-- What an accepted file says of its tables, and that no roster refuses them. Assumes nothing.
use Rattle.std.proofs.Common.{◌≡◌, ℕ, suc, ◌+◌, ◌≤◌, true, cond, ltb, List, [], ◌∷◌, ◌++◌, map, length, Ok, Err, fold, sym, ap, ◌∙◌, ap₂, append_assoc, arith}
use Rattle.std.proofs.lemmas.List.{append-nil, length-append}
use Rattle.std.proofs.lemmas.Bool.{lt-ltb}
use Rattle.bodies.specs.Bodies.{judged}
use Rattle.bodies.specs.Judging.{between, judge_hold, judge_member, judge_name}
use Rattle.files.proofs.ReadBack.{few_counts}
use Rattle.files.proofs.Steps.{both_ok, passed_test, test_ok}
use Rattle.files.specs.Contents.{events_at, judge_counts}
use Rattle.files.specs.Reading.{judge_roster}
use Rattle.files.specs.Tables.{Tables}
use Rattle.files.specs.Writing.{Makes, judge_tables}
use Rattle.records.specs.Faults.{fault}
use Rattle.records.specs.declared.fault.Layer.TheVariants.{Roster}
use Rattle.records.specs.declared.fault.Cause.TheVariants.{Hold, Weight, Limit}
use Rattle.records.specs.declared.tables.ApplicationRecord.{ApplicationRecord}
use Rattle.rosters.specs.Applications.{default_application}
use Rattle.rosters.specs.Rosters.{LineUp, fresh, held, if_ok}
use Rattle.rosters.specs.declared.application.Application.{Application}
use Rattle.rosters.specs.declared.refusal.Refusal.TheVariants as refusal
use Rattle.replays.specs.Asked.{enroll, enrolled, member, roster}
use Rattle.replays.specs.Judged.{Judged}

pub judged_of : (t : Tables) (bs : List ℕ) → Makes t bs → Judged t
judged_of t bs makes =
    let first = both_ok (judge_tables t) _ (length bs) (makes.accepted (length bs) (omega arith)) in
    let c = first.0 in
    let counts = both_ok (judge_counts (length t.applications) (length t.requests) (length t.events)) _ c first.1 in
    let few = few_counts (length t.applications) (length t.requests) (length t.events) counts.0 counts.1 in
    let k = counts.0 in
    let names = both_ok (judged (judge_name (events_at k.applications k.requests) k.requests) 0 t.events) _ c counts.2 in
    let fair = both_ok (judge_roster t.settings t.applications) _ c names.2 in
    record { few_applications = few.0; few_events = few.2; fair = fair.1 }

abbrev lined : List Application → ℕ → LineUp
lined xs h = record { applications = xs; hold = h }

-- one application more is taken
enroll_fair : (xs : List Application) (h : ℕ) (a : ApplicationRecord) → between 1 10 a.weight ≡ true → between 256 65536 a.limit ≡ true → ltb (length xs) 16 ≡ true
    → ◌≡◌ {A = LineUp} (enroll (record { applications = xs; hold = h }) a) (record { applications = xs ++ (member a ∷ []); hold = h })
enroll_fair xs h a weight limit room =
    let new : LineUp = record { applications = xs ++ (member a ∷ []); hold = h } in
    let old : LineUp = record { applications = xs; hold = h } in
    ap (λ b. if_ok (cond b (cond (between 1 10 a.weight) (cond (between 256 65536 a.limit) (Ok (length xs)) (Err refusal.Limit)) (Err refusal.Weight)) (Err refusal.Full)) new old) room
    ∙ ap₂ (λ b d. if_ok (cond b (cond d (Ok (length xs)) (Err refusal.Limit)) (Err refusal.Weight)) new old) weight limit

-- and so are all
enroll_all : (xs : List Application) (h i : ℕ) (as' : List ApplicationRecord) → judged judge_member i as' ≡ Ok tt → length xs + length as' ≤ 16
    → ◌≡◌ {A = LineUp} (fold enroll (record { applications = xs; hold = h }) as') (record { applications = xs ++ map member as'; hold = h })
enroll_all xs h i [] fair room = ap (λ (ys : List Application). lined ys h) (sym (append-nil xs))
enroll_all xs h i (a ∷ as') fair room =
    let here = both_ok (judge_member i a) _ tt fair in
    let weight = passed_test (between 1 10 a.weight) _ (fault Roster Weight (suc i)) _ here.1 in
    let limit = test_ok (between 256 65536 a.limit) tt _ (fault Roster Limit (suc i)) weight.1 in
    ap (λ r. fold enroll r as') (enroll_fair xs h a weight.0 limit.0 (lt-ltb (length xs) 16 (omega arith)))
    ∙ enroll_all (xs ++ (member a ∷ [])) h (suc i) as' here.2 (omega (arith, length-append xs (member a ∷ [])))
    ∙ ap (λ (ys : List Application). lined ys h) (append_assoc xs (member a ∷ []) (map member as'))

pub enrolled_is : (t : Tables) → Judged t → enrolled t ≡ roster t
enrolled_is t j =
    let hold = both_ok (judge_hold t.settings) _ tt j.fair in
    let fair = test_ok (between 1 1000000 t.settings.hold) tt _ (fault Roster Hold 0) hold.1 in
    let begins : held t.settings.hold fresh ≡ lined (default_application ∷ []) t.settings.hold = ap (λ b. if_ok (cond b (Ok tt) (Err refusal.Hold)) (record { applications = fresh.applications; hold = t.settings.hold }) fresh) fair.0 in
    ap (λ r. fold enroll r t.applications) begins ∙ enroll_all (default_application ∷ []) t.settings.hold 0 t.applications hold.2 (omega (arith, j.few_applications))
