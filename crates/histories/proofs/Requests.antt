-- Lines of requests in which the numbers rise: taking one out by its place, and by its number.
use Rattle.std.proofs.Common.{◌≡◌, ℕ, suc, ◌+◌, ◌<◌, not, List, [], ◌∷◌, ◌++◌, length, get_or, take, drop, Some, sum_by, filter, sym, refl, ap, ◌∙◌, subst, ap₂, arith, drop-cons}
use Rattle.std.specs.List.{remove, All, AllPairs, slice_get}
use Rattle.std.proofs.lemmas.List.{take-append-drop, get_or-take, get_or-drop, length-take-le, length-drop}
use Rattle.std.proofs.lemmas.List.Elements.{All-append, All-take, All-drop, All-head, All-tail, filter-append}
use Rattle.std.proofs.lemmas.List.Sums.{sum_by-remove}
use Rattle.std.proofs.lemmas.Option.{slice_get_within, get_or_from_slice_get}
use Rattle.std.proofs.lemmas.Bool.{eq-eqb, ne_eqb, cond-true, cond-false}
use Rattle.pools.specs.declared.request.Request.{Request}
use Rattle.histories.specs.History.{numbered, otherwise_numbered}

-- each number is above those ahead of it
abbrev pub Rising : List Request → Type 0
Rising xs = AllPairs (λ x y. x.number < y.number) xs

pub all_removed : (P : Request → Type 0) (xs : List Request) (i : ℕ) → All P xs → All P (remove xs i)
all_removed P xs i h = All-append P (take i xs) (drop (suc i) xs) (All-take P i xs h) (All-drop P (suc i) xs h)

pub all_nth : (P : Request → Type 0) (xs : List Request) (i : ℕ) (q : Request) → All P xs → slice_get xs i ≡ Some q → P q
all_nth P xs i q h e = subst P (get_or_from_slice_get xs i q q e) (h i q (slice_get_within xs i q e))

-- no request of the line bears that number
module _ (n : ℕ) where
  abbrev Other : Request → Type 0
  Other y = y.number ≡ n → ⊥

  pub none_other : (xs : List Request) → All Other xs → filter (numbered n) xs ≡ []
  none_other [] h = refl
  none_other (x ∷ xs) h = cond-false (numbered n x) (x ∷ filter (numbered n) xs) (filter (numbered n) xs) (ne_eqb x.number n (All-head Other x xs h)) ∙ none_other xs (All-tail Other x xs h)

  pub all_other : (xs : List Request) → All Other xs → filter (otherwise_numbered n) xs ≡ xs
  all_other [] h = refl
  all_other (x ∷ xs) h =
      cond-true (otherwise_numbered n x) (x ∷ filter (otherwise_numbered n) xs) (filter (otherwise_numbered n) xs) (ap not (ne_eqb x.number n (All-head Other x xs h)))
      ∙ ap (λ ys. x ∷ ys) (all_other xs (All-tail Other x xs h))

-- the one at place i is the only one of its number
pub record Taken (q : Request) (xs : List Request) (i : ℕ) : Type 0 where
  pub rest : filter (otherwise_numbered q.number) xs ≡ remove xs i
  pub one : filter (numbered q.number) xs ≡ q ∷ []

module _ (xs : List Request) (i : ℕ) (q : Request) (rising : Rising xs) (e : slice_get xs i ≡ Some q) where
  abbrev n : ℕ
  n = q.number

  abbrev ahead : List Request
  ahead = take i xs

  abbrev behind : List Request
  behind = drop (suc i) xs

  within : i < length xs
  within = slice_get_within xs i q e

  at : (d : Request) → get_or xs i d ≡ q
  at d = get_or_from_slice_get xs i q d e

  split : xs ≡ take i xs ++ (q ∷ drop (suc i) xs)
  split = sym (take-append-drop i xs) ∙ ap (λ ys. ahead ++ ys) (drop-cons xs i q within ∙ ap (λ y. y ∷ behind) (at q))

  ahead_other : All (λ y. y.number ≡ q.number → ⊥) (take i xs)
  ahead_other k d h s =
      let lower : k < i = omega (arith, h, length-take-le i xs (omega (arith, within))) in
      omega (arith, rising k i d lower within, ap (λ y. y.number) (get_or-take i xs k d lower), ap (λ y. y.number) (at d), s)

  behind_other : All (λ y. y.number ≡ q.number → ⊥) (drop (suc i) xs)
  behind_other k d h s =
      let higher : suc i + k < length xs = omega (arith, h, length-drop (suc i) xs) in
      omega (arith, rising i (suc i + k) d (omega arith) higher, ap (λ y. y.number) (get_or-drop (suc i) xs k d), ap (λ y. y.number) (at d), s)

  pub taken : Taken q xs i
  taken = record {
    rest = ap (filter (otherwise_numbered n)) split ∙ filter-append (otherwise_numbered n) ahead (q ∷ behind)
        ∙ ap₂ (λ ys zs. ys ++ zs) (all_other n ahead ahead_other)
        (cond-false (otherwise_numbered n q) (q ∷ filter (otherwise_numbered n) behind) (filter (otherwise_numbered n) behind) (ap not (eq-eqb n n refl)) ∙ all_other n behind behind_other);
    one = ap (filter (numbered n)) split ∙ filter-append (numbered n) ahead (q ∷ behind)
        ∙ ap₂ (λ ys zs. ys ++ zs) (none_other n ahead ahead_other)
        (cond-true (numbered n q) (q ∷ filter (numbered n) behind) (filter (numbered n) behind) (eq-eqb n n refl) ∙ ap (λ ys. q ∷ ys) (none_other n behind behind_other));
  }

abbrev pub size_of : Request → ℕ
size_of q = q.size

pub sum_removed : (xs : List Request) (i : ℕ) (q : Request) → slice_get xs i ≡ Some q → sum_by size_of (remove xs i) + q.size ≡ sum_by size_of xs
sum_removed xs i q e = omega (arith, sum_by-remove size_of xs i q (slice_get_within xs i q e), ap size_of (get_or_from_slice_get xs i q q e))
