-- What a pool means: for each application the line of its waiting requests, oldest first. What each call
-- answers and leaves, for all lines whatever.
use Rattle.std.specs.Prelude.{ℕ, cond, List, [], ◌∷◌, ◌++◌, length, replicate, Ok, Err, Option, Result, nat_lt, slice_index_or, slice_set}
use Rattle.std.specs.List.{remove, slice_get}
use Rattle.pools.specs.declared.refusal.Refusal.{Refusal}
use Rattle.pools.specs.declared.refusal.Refusal.TheVariants.{Unknown, Full}
use Rattle.pools.specs.declared.request.Request.{Request}

-- a place in a line that is not empty, by the line and the position of the head
abbrev pub Choice : Type 0
Choice = List Request → ℕ → ℕ

abbrev pub empty_lists : List (List Request)
empty_lists = replicate 16 []

-- the waiting requests of application a; one that does not exist has none
abbrev pub line : List (List Request) → ℕ → List Request
line ls a = slice_index_or ls a []

-- a line has room for sixteen
abbrev pub join_answer : List Request → Result (Unit {0}) Refusal
join_answer xs = cond (nat_lt (length xs) 16) (Ok tt) (Err Full)

-- put: a request joins the end of its application's line
abbrev pub put_answer : Request → List (List Request) → Result (Unit {0}) Refusal
put_answer r ls = cond (nat_lt r.application 16) (join_answer (line ls r.application)) (Err Unknown)

-- a refused call changes nothing
abbrev pub if_ok : {X E S : Type 0} → Result X E → S → S → S
if_ok (Ok x) new old = new
if_ok (Err e) new old = old

abbrev pub put_lists : Request → List (List Request) → List (List Request)
put_lists r ls = if_ok (put_answer r ls) (slice_set ls r.application (line ls r.application ++ (r ∷ []))) ls

-- show and take: the request that is chosen from the application's line
abbrev pub shown : Choice → List (List Request) → ℕ → ℕ → Option Request
shown choice ls a head = slice_get (line ls a) (choice (line ls a) head)

-- take: that request alone leaves the line
abbrev pub taken_lists : Choice → List (List Request) → ℕ → ℕ → List (List Request)
taken_lists choice ls a head = slice_set ls a (remove (line ls a) (choice (line ls a) head))
