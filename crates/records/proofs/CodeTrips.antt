-- Each code and its meaning give each other back. Assumes nothing.
use Rattle.std.proofs.Common.{◌≡◌, ℕ, true, is_some, Some, unwrap_or, refl, arith}
use Rattle.std.proofs.lemmas.Bool.Decides.{nat_tests}
use Rattle.pools.specs.Codes.{kind_of, kind_code}
use Rattle.pools.specs.declared.request.Kind.{Kind}
use Rattle.pools.specs.declared.request.Kind.TheVariants.{Asynchronous, Synchronous}
use Rattle.records.specs.Codes.{rule_of, rule_code, pool_of, pool_code, event_of, event_code, event_argument}
use Rattle.records.specs.declared.tables.RuleCode.{RuleCode}
use Rattle.records.specs.declared.tables.RuleCode.TheVariants.{Steady, Feedback}
use Rattle.records.specs.declared.tables.PoolCode.{PoolCode}
use Rattle.records.specs.declared.tables.PoolCode.TheVariants.{FirstCome, CLook}
use Rattle.records.specs.declared.tables.Event.{Event}
use Rattle.records.specs.declared.tables.Event.TheVariants.{Arrival, Dispatch, Completion, Tick}

pub rule_read : (r : RuleCode) → rule_of (rule_code r) ≡ Some r
rule_read Steady = refl
rule_read Feedback = refl

pub pool_read : (p : PoolCode) → pool_of (pool_code p) ≡ Some p
pool_read FirstCome = refl
pool_read CLook = refl

pub kind_read : (k : Kind) → kind_of (kind_code k) ≡ Some k
kind_read Asynchronous = refl
kind_read Synchronous = refl

pub event_read : (e : Event) → event_of (event_code e) (event_argument e) ≡ Some e
event_read (Arrival a) = refl
event_read Dispatch = refl
event_read Completion = refl
event_read Tick = refl

pub rule_written : (c : ℕ) → is_some (rule_of c) ≡ true → rule_code (unwrap_or (rule_of c) Steady) ≡ c
rule_written c h = grind (arith, nat_tests)

pub pool_written : (c : ℕ) → is_some (pool_of c) ≡ true → pool_code (unwrap_or (pool_of c) FirstCome) ≡ c
pool_written c h = grind (arith, nat_tests)

pub kind_written : (c : ℕ) → is_some (kind_of c) ≡ true → kind_code (unwrap_or (kind_of c) Asynchronous) ≡ c
kind_written c h = grind (arith, nat_tests)

pub event_written : (c a : ℕ) → is_some (event_of c a) ≡ true → event_code (unwrap_or (event_of c a) Tick) ≡ c
event_written c a h = grind (arith, nat_tests)

pub argument_written : (c a : ℕ) → is_some (event_of c a) ≡ true → event_argument (unwrap_or (event_of c a) Tick) ≡ a
argument_written c a h = grind (arith, nat_tests)
