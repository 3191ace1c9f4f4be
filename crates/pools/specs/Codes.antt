-- What each code of a request's kind means, which code each kind has, and how a kind is printed.
use Rattle.std.specs.Prelude.{ℕ, cond, List, ◌++◌, Some, None, Option, ◌==◌, codes}
use Rattle.std.specs.Fmt.{decimal}
use Rattle.pools.specs.declared.request.Kind.{Kind}
use Rattle.pools.specs.declared.request.Kind.TheVariants.{Asynchronous, Synchronous}

abbrev pub kind_of : ℕ → Option Kind
kind_of c = cond (c == 0) (Some Asynchronous) (cond (c == 1) (Some Synchronous) None)

abbrev pub kind_code : Kind → ℕ
kind_code Asynchronous = 0
kind_code Synchronous = 1

abbrev pub kind_name : Kind → List ℕ
kind_name Asynchronous = codes "asynchronous"
kind_name Synchronous = codes "synchronous"

-- what is printed of a code that no kind has
abbrev pub unknown_text : ℕ → List ℕ
unknown_text c = codes "no kind of request has code " ++ decimal c
