-- What the calls' answers mean.
use Rattle.std.specs.Prelude.{ℕ, Some, None, Ok, Err, Option, Result}
use Rattle.machine.specs.Machine.{Reply, sends, holds, nothing}
use Rattle.machine.specs.declared.refusal.Refusal.{Refusal}
use Rattle.pools.specs.declared.request.Request.{Request}
use Rattle.scheduler.specs.declared.token.Dispatched.{Dispatched}
use Rattle.scheduler.specs.declared.token.Dispatched.TheVariants as D
use Rattle.scheduler.specs.declared.token.Returned.{Returned}
use Rattle.scheduler.specs.declared.token.Token.{Token}

-- a call is refused, or answers x
abbrev pub answered : {X : Type 0} → Option Refusal → X → Result X Refusal
answered None x = Ok x
answered (Some r) x = Err r

-- the request that a token stands for
abbrev pub request_of : Token → Request
request_of t = t.request

-- what a dispatch's answer says, by the request that what it sends stands for
abbrev pub says : {T : Type 0} → (T → Request) → Dispatched T → Reply
says request (D.Send t) = sends (request t)
says request (D.Hold k u) = holds k u
says request D.None = nothing

abbrev pub said : Dispatched Token → Reply
said d = says request_of d

abbrev pub told : Result (Dispatched Token) Refusal → Result Reply Refusal
told (Ok d) = Ok (said d)
told (Err r) = Err r

-- a completion answers the number, or hands the token back
abbrev pub completion_answer : Option Refusal → Token → Result ℕ Returned
completion_answer None t = Ok t.request.number
completion_answer (Some r) t = Err (record { refusal = r; token = t })
