-- How long a line can be. Assumes nothing.
use Rattle.std.proofs.Common.{◌≡◌, ℕ, ◌+◌, ◌^◌, ◌<◌, ◌≤◌, List, [], ◌∷◌, length, codes, decimal, Ok, Err, Result, sym, subst, arith, lit<, lit≤}
use Rattle.std.proofs.lemmas.Fmt.{length-decimal-le}
use Rattle.std.proofs.lemmas.List.{length-append}
use Rattle.listing.specs.Near.{Small}
use Rattle.driver.specs.Runs.{refused_number, time_of}
use Rattle.driver.specs.declared.command.Command.{Command}
use Rattle.driver.specs.declared.command.Answer.{Answer}
use Rattle.driver.specs.declared.command.Answer.TheVariants.{Accepted, Sent, Held, Nothing, Done, Ticked}
use Rattle.driver.specs.declared.command.Refused.{Refused}
use Rattle.driver.specs.declared.command.Refused.TheVariants.{Call, NoToken}
use Rattle.machine.specs.declared.refusal.Refusal.TheVariants.{Time, Application, Size, Sector, Full, Total, Busy, Token}
use Rattle.pools.specs.declared.request.Request.{Request}
use Rattle.records.specs.Faults.{cause_number, layer_number}
use Rattle.records.specs.declared.fault.Cause.{Cause}
use Rattle.records.specs.declared.fault.Cause.TheVariants.{TooShort, Layout, Byte, NoRequest, Hold, Weight, Limit, Buffer}
use Rattle.records.specs.declared.fault.Fault.{Fault}
use Rattle.records.specs.declared.fault.Layer.{Layer}
use Rattle.records.specs.declared.fault.Layer.TheVariants.{Contents, Records, Roster}
use Rattle.listing.specs.Lines.{application_of, event_line, share_line, spaced, text}

-- the rest of a line has at most k bytes
pub record Rest (fs : List (List ℕ)) (k : ℕ) : Type 0 where
  pub is : length (spaced fs) ≤ k

pub ends : Rest [] 1
ends = record { is = lit≤ tt }

-- one field more
pub more : {fs : List (List ℕ)} {k : ℕ} (f : List ℕ) (n : ℕ) → length f ≤ n → Rest fs k → Rest (f ∷ fs) (1 + n + k)
more {fs} f n h rest = record { is = omega (arith, length-append f (spaced fs), rest.is) }

pub line : {fs : List (List ℕ)} {k : ℕ} (f : List ℕ) (n : ℕ) → length f ≤ n → Rest fs k → length (text (f ∷ fs)) ≤ n + k
line {fs} f n h rest = omega (arith, length-append f (spaced fs), rest.is)

-- the digits of numbers that fit 8 and 64 bits, and of those up to 2^40
pub digits_8 : (n : ℕ) → n < 2 ^ 8 → length (decimal n) ≤ 3
digits_8 n h = length-decimal-le 3 n (lit< tt) (omega arith) (omega arith)

pub digits_40 : (n : ℕ) → n ≤ 2 ^ 40 → length (decimal n) ≤ 13
digits_40 n h = length-decimal-le 13 n (lit< tt) (omega arith) (omega arith)

pub digits_64 : (n : ℕ) → n < 2 ^ 64 → length (decimal n) ≤ 20
digits_64 n h = length-decimal-le 20 n (lit< tt) (omega arith) h

-- an application's line
pub share_short : (k w s : ℕ) → k < 2 ^ 8 → w < 2 ^ 8 → s < 2 ^ 64 → length (share_line k w s) ≤ 64
share_short k w s hk hw hs =
    let most =
    line (codes "app") 3 (lit≤ tt)
    (more (decimal k) 3 (digits_8 k hk) (more (codes "weight") 6 (lit≤ tt) (more (decimal w) 3 (digits_8 w hw) (more (codes "sent") 4 (lit≤ tt) (more (decimal s) 20 (digits_64 s hs) ends))))) in
    omega (arith, most)

-- the line of a fault
layer_low : (l : Layer) → layer_number l < 2 ^ 8
layer_low Contents = lit< tt
layer_low Records = lit< tt
layer_low Roster = lit< tt

cause_low : (c : Cause) → cause_number c < 2 ^ 8
cause_low TooShort = lit< tt
cause_low Layout = lit< tt
cause_low Byte = lit< tt
cause_low NoRequest = lit< tt
cause_low Hold = lit< tt
cause_low Weight = lit< tt
cause_low Limit = lit< tt
cause_low Buffer = lit< tt

pub fault_short : (f : Fault) (l n : ℕ) → l ≡ layer_number f.layer → n ≡ cause_number f.number → f.place < 2 ^ 64 → length (text (codes "fault" ∷ decimal l ∷ decimal n ∷ decimal f.place ∷ [])) ≤ 64
fault_short f l n is_l is_n hp =
    let most =
    line (codes "fault") 5 (lit≤ tt)
    (more (decimal l) 3 (digits_8 l (omega (arith, is_l, layer_low f.layer)))
    (more (decimal n) 3 (digits_8 n (omega (arith, is_n, cause_low f.number))) (more (decimal f.place) 20 (digits_64 f.place hp) ends))) in
    omega (arith, most)

-- an event's line, by the command and what came of it, where each number fits its type
pub same_short : (c : Command) {o p : Result Answer Refused} → o ≡ p → length (event_line c p) ≤ 64 → length (event_line c o) ≤ 64
same_short c is short = subst (λ o. length (event_line c o) ≤ 64) (sym is) short

pub accepted_short : (c : Command) (n : ℕ) → time_of c < 2 ^ 64 → application_of c < 2 ^ 8 → n < 2 ^ 64 → length (event_line c (Ok (Accepted n))) ≤ 64
accepted_short c n ht ha hn =
    let most = line (decimal (time_of c)) 20 (digits_64 (time_of c) ht) (more (codes "arrive") 6 (lit≤ tt) (more (decimal (application_of c)) 3 (digits_8 (application_of c) ha) (more (decimal n) 20 (digits_64 n hn) ends))) in
    omega (arith, most)

pub sent_short : (c : Command) (q : Request) → Small (time_of c) (Ok (Sent q)) → q.application < 2 ^ 8 → q.number < 2 ^ 64 → length (event_line c (Ok (Sent q))) ≤ 64
sent_short c q small ha hn =
    let most =
    line (decimal (time_of c)) 13 (digits_40 (time_of c) small.0)
    (more (codes "send") 4 (lit≤ tt)
    (more (decimal q.application) 3 (digits_8 q.application ha)
    (more (decimal q.number) 20 (digits_64 q.number hn) (more (decimal q.first) 13 (digits_40 q.first small.1) (more (decimal q.size) 3 (length-decimal-le 3 q.size (lit< tt) (omega (arith, small.2)) (omega (arith, small.2))) ends))))) in
    omega (arith, most)

pub held_short : (c : Command) (k u : ℕ) → time_of c < 2 ^ 64 → k < 2 ^ 8 → u < 2 ^ 64 → length (event_line c (Ok (Held k u))) ≤ 64
held_short c k u ht hk hu =
    let most = line (decimal (time_of c)) 20 (digits_64 (time_of c) ht) (more (codes "hold") 4 (lit≤ tt) (more (decimal k) 3 (digits_8 k hk) (more (decimal u) 20 (digits_64 u hu) ends))) in
    omega (arith, most)

pub nothing_short : (c : Command) → time_of c < 2 ^ 64 → length (event_line c (Ok Nothing)) ≤ 64
nothing_short c ht = let most = line (decimal (time_of c)) 20 (digits_64 (time_of c) ht) (more (codes "none") 4 (lit≤ tt) ends) in omega (arith, most)

pub done_short : (c : Command) (n : ℕ) → time_of c < 2 ^ 64 → n < 2 ^ 64 → length (event_line c (Ok (Done n))) ≤ 64
done_short c n ht hn =
    let most = line (decimal (time_of c)) 20 (digits_64 (time_of c) ht) (more (codes "done") 4 (lit≤ tt) (more (decimal n) 20 (digits_64 n hn) ends)) in
    omega (arith, most)

pub ticked_short : (c : Command) → time_of c < 2 ^ 64 → length (event_line c (Ok Ticked)) ≤ 64
ticked_short c ht = let most = line (decimal (time_of c)) 20 (digits_64 (time_of c) ht) (more (codes "tick") 4 (lit≤ tt) ends) in omega (arith, most)

refused_low : (r : Refused) → refused_number r < 2 ^ 8
refused_low (Call Time) = lit< tt
refused_low (Call Application) = lit< tt
refused_low (Call Size) = lit< tt
refused_low (Call Sector) = lit< tt
refused_low (Call Full) = lit< tt
refused_low (Call Total) = lit< tt
refused_low (Call Busy) = lit< tt
refused_low (Call Token) = lit< tt
refused_low NoToken = lit< tt

pub refused_short : (c : Command) (r : Refused) → time_of c < 2 ^ 64 → length (event_line c (Err r)) ≤ 64
refused_short c r ht =
    let n = refused_number r in
    let most = line (decimal (time_of c)) 20 (digits_64 (time_of c) ht) (more (codes "refuse") 6 (lit≤ tt) (more (decimal n) 3 (digits_8 n (refused_low r)) ends)) in
    omega (arith, most)
