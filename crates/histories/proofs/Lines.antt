-- The lines of waiting requests, as a request joins its line and as one is sent.
use Rattle.std.proofs.Common.{◌≡◌, ℕ, ◌+◌, ◌^◌, ◌<◌, ◌≤◌, cond, eqb, ◌⊎◌, List, [], ◌∷◌, ◌++◌, length, set, Some, Ok, Err, filter, Result, sym, refl, ap, ◌∙◌, subst, inl, inr, arith}
use Rattle.std.specs.List.{remove, All, slice_get}
use Rattle.std.proofs.lemmas.List.Elements.{All-weaker, All-push}
use Rattle.std.proofs.lemmas.List.Quantifiers.{all_pairs_push, all_pairs_remove}
use Rattle.std.proofs.lemmas.Option.{slice_get_within}
use Rattle.std.proofs.lemmas.List.{append-nil, length-set, get_or-set_same, get_or-set_other}
use Rattle.std.proofs.lemmas.List.Sums.{sum_by-set, sum_by_push}
use Rattle.std.proofs.lemmas.Bool.{cases_eq, eq-eqb, ne_eqb, cond-true, cond-false, lt-ltb}
use Rattle.pools.specs.Lines.{line, join_answer, if_ok, put_lists}
use Rattle.pools.specs.declared.refusal.Refusal.{Refusal}
use Rattle.pools.specs.declared.refusal.Refusal.TheVariants.{Unknown, Full}
use Rattle.pools.specs.declared.request.Request.{Request}
use Rattle.histories.specs.History.{Known, numbered, joins, leaves}
use Rattle.histories.proofs.Requests.{Rising, size_of, all_removed, all_nth, none_other, all_other, Taken, taken, sum_removed}
use Rattle.histories.proofs.Invariant.{Fine, sizes, Lined}

-- a line changes: what is there, and at the others
line_same : (ls : List (List Request)) (k : ℕ) (l : List Request) → k < length ls → line (set ls k l) k ≡ l
line_same ls k l h = get_or-set_same ls k l [] h

line_other : (ls : List (List Request)) (k j : ℕ) (l : List Request) → (j ≡ k → ⊥) → line (set ls k l) j ≡ line ls j
line_other ls k j l ne = get_or-set_other ls k j l [] ne

module _ (n count total sent : ℕ) (ls : List (List Request)) (x : ℕ → Known) (few : n ≤ 16) (lined : Lined n count total sent ls x) where
  -- the request q of application k is sent
  module _ (k p : ℕ) (q : Request) (e : slice_get (x k).waiting p ≡ Some q) where
    pub fine_next : Fine n lined.owner count k q
    fine_next = all_nth (Fine n lined.owner count k) (x k).waiting p q (lined.fine k) e

    out : Taken q (x k).waiting p
    out = taken (x k).waiting p q (lined.rising k) e

    pub leaves_other : (j : ℕ) → (j ≡ k → ⊥) → leaves q (x j) ≡ x j
    leaves_other j ne =
        let others = All-weaker (Fine n lined.owner count j) (λ y. y.number ≡ q.number → ⊥) (λ y f same. ne (sym f.named ∙ ap lined.owner same ∙ fine_next.named)) (x j).waiting (lined.fine j) in
        ap (λ w. record (x j) { waiting = w; outstanding = (x j).outstanding ++ filter (numbered q.number) (x j).waiting }) (all_other q.number (x j).waiting others)
        ∙ ap (λ w. record (x j) { outstanding = (x j).outstanding ++ w }) (none_other q.number (x j).waiting others)
        ∙ ap (λ w. record (x j) { outstanding = w }) (append-nil (x j).outstanding)

    -- and is outstanding
    pub leaves_own : (x k).outstanding ≡ [] → (leaves q (x k)).outstanding ≡ q ∷ []
    leaves_own none = ap (λ w. w ++ filter (numbered q.number) (x k).waiting) none ∙ out.one

    pub lined_sent : Lined n count total (sent + q.size) (set ls k (remove (line ls k) p)) (λ j. leaves q (x j))
    lined_sent = record {
      sixteen = length-set ls k (remove (line ls k) p) ∙ lined.sixteen;
      lines = λ j. lines j (cases_eq j k);
      owner = lined.owner;
      fine = λ j. at (λ i w. All (Fine n lined.owner count i) w) lined.fine (all_removed (Fine n lined.owner count k) (x k).waiting p (lined.fine k)) j (cases_eq j k);
      rising = λ j. at (λ i w. Rising w) lined.rising (all_pairs_remove (λ y z. y.number < z.number) (x k).waiting p (slice_get_within (x k).waiting p q e) (lined.rising k)) j (cases_eq j k);
      sums = omega (arith, lined.sums, sum_by-set sizes ls k (remove (line ls k) p) [] inside, sum_removed (line ls k) p q here);
      total_high = lined.total_high;
      count_high = lined.count_high;
    }
      where
        inside : k < length ls
        inside = omega (arith, fine_next.listed, lined.sixteen)

        here : slice_get (line ls k) p ≡ Some q
        here = subst (λ w. slice_get w p ≡ Some q) (lined.lines k) e

        at : (P : ℕ → List Request → Type 0) → ((j : ℕ) → P j (x j).waiting) → P k (remove (x k).waiting p) → (j : ℕ) → (j ≡ k) ⊎ (j ≡ k → ⊥) → P j (leaves q (x j)).waiting
        at P all one j (inl s) = subst (λ i. P i (leaves q (x i)).waiting) (sym s) (subst (P k) (sym out.rest) one)
        at P all one j (inr ne) = subst (λ y. P j y.waiting) (sym (leaves_other j ne)) (all j)

        lines : (j : ℕ) → (j ≡ k) ⊎ (j ≡ k → ⊥) → (leaves q (x j)).waiting ≡ line (set ls k (remove (line ls k) p)) j
        lines j (inl s) =
            subst (λ i. (leaves q (x i)).waiting ≡ line (set ls k (remove (line ls k) p)) i) (sym s)
            (out.rest ∙ ap (λ w. remove w p) (lined.lines k) ∙ sym (line_same ls k (remove (line ls k) p) inside))
        lines j (inr ne) = ap (λ y. y.waiting) (leaves_other j ne) ∙ lined.lines j ∙ sym (line_other ls k j (remove (line ls k) p) ne)

  -- the request q joins the line of its application
  module _ (q : Request) (listed : q.application < n) (room : length (line ls q.application) < 16) (number : q.number ≡ count + 1)
      (size_low : 1 ≤ q.size) (size_high : q.size ≤ 256) (end_high : q.first + q.size ≤ 2 ^ 40) (sum_high : total + q.size ≤ 2 ^ 40) where
    pub put_is : put_lists q ls ≡ set ls q.application (line ls q.application ++ (q ∷ []))
    put_is =
        ap (λ b. if_ok (cond b (join_answer (line ls q.application)) (Err Unknown)) (set ls q.application (line ls q.application ++ (q ∷ []))) ls) (lt-ltb q.application 16 (omega arith))
        ∙ ap (λ b. if_ok (cond {A = Result (Unit {0}) Refusal} b (Ok tt) (Err Full)) (set ls q.application (line ls q.application ++ (q ∷ []))) ls) (lt-ltb (length (line ls q.application)) 16 room)

    pub joins_other : (j : ℕ) → (j ≡ q.application → ⊥) → joins j (Some q) (x j) ≡ x j
    joins_other j ne = cond-false (eqb q.application j) (record (x j) { waiting = (x j).waiting ++ (q ∷ []) }) (x j) (ne_eqb q.application j (λ s. ne (sym s)))

    pub joins_own : joins q.application (Some q) (x q.application) ≡ record (x q.application) { waiting = (x q.application).waiting ++ (q ∷ []) }
    joins_own =
        cond-true (eqb q.application q.application) (record (x q.application) { waiting = (x q.application).waiting ++ (q ∷ []) }) (x q.application)
        (eq-eqb q.application q.application refl)

    abbrev a : ℕ
    a = q.application

    -- the number is one that no request bore before
    abbrev owner : ℕ → ℕ
    owner i = cond (eqb i (count + 1)) q.application (lined.owner i)

    fine_still : (j : ℕ) (y : Request) → Fine n lined.owner count j y → Fine n owner (count + 1) j y
    fine_still j y f = record {
      listed = f.listed;
      own = f.own;
      named = cond-false (eqb y.number (count + 1)) q.application (lined.owner y.number) (ne_eqb y.number (count + 1) (λ s. omega (arith, f.counted, s))) ∙ f.named;
      counted = omega (arith, f.counted);
      size_low = f.size_low;
      size_high = f.size_high;
      end_high = f.end_high;
    }

    fine_new : Fine n owner (count + 1) q.application q
    fine_new = record {
      listed = listed;
      own = refl;
      named = cond-true (eqb q.number (count + 1)) q.application (lined.owner q.number) (eq-eqb q.number (count + 1) number);
      counted = omega (arith, number);
      size_low = size_low;
      size_high = size_high;
      end_high = end_high;
    }

    pub lined_joined : Lined n (count + 1) (total + q.size) sent (put_lists q ls) (λ j. joins j (Some q) (x j))
    lined_joined = subst (λ l. Lined n (count + 1) (total + q.size) sent l (λ j. joins j (Some q) (x j))) (sym put_is) (record {
      sixteen = length-set ls a (line ls a ++ (q ∷ [])) ∙ lined.sixteen;
      lines = λ j. lines j (cases_eq j a);
      owner = owner;
      fine = λ j. at (λ i w. All (Fine n owner (count + 1) i) w) still (All-push (Fine n owner (count + 1) a) (x a).waiting q (still a) fine_new) j (cases_eq j a);
      rising = λ j. at (λ i w. Rising w) lined.rising
          (all_pairs_push (λ y z. y.number < z.number) (x a).waiting q (lined.rising a) (All-weaker (Fine n lined.owner count a) (λ y. y.number < q.number) (λ y f. omega (arith, f.counted, number)) (x a).waiting (lined.fine a)))
          j (cases_eq j a);
      sums = omega (arith, lined.sums, sum_by-set sizes ls a (line ls a ++ (q ∷ [])) [] inside, sum_by_push size_of (line ls a) q);
      total_high = sum_high;
      count_high = omega (arith, lined.count_high, size_low);
    })
      where
        inside : q.application < length ls
        inside = omega (arith, listed, lined.sixteen)

        still : (j : ℕ) → All (Fine n owner (count + 1) j) (x j).waiting
        still j = All-weaker (Fine n lined.owner count j) (Fine n owner (count + 1) j) (fine_still j) (x j).waiting (lined.fine j)

        at : (P : ℕ → List Request → Type 0) → ((j : ℕ) → P j (x j).waiting) → P q.application ((x q.application).waiting ++ (q ∷ [])) → (j : ℕ) → (j ≡ q.application) ⊎ (j ≡ q.application → ⊥)
            → P j (joins j (Some q) (x j)).waiting
        at P all one j (inl s) = subst (λ i. P i (joins i (Some q) (x i)).waiting) (sym s) (subst (λ y. P q.application y.waiting) (sym joins_own) one)
        at P all one j (inr ne) = subst (λ y. P j y.waiting) (sym (joins_other j ne)) (all j)

        lines : (j : ℕ) → (j ≡ q.application) ⊎ (j ≡ q.application → ⊥) → (joins j (Some q) (x j)).waiting ≡ line (set ls q.application (line ls q.application ++ (q ∷ []))) j
        lines j (inl s) =
            subst (λ i. (joins i (Some q) (x i)).waiting ≡ line (set ls q.application (line ls q.application ++ (q ∷ []))) i) (sym s)
            (ap (λ y. y.waiting) joins_own ∙ ap (λ w. w ++ (q ∷ [])) (lined.lines q.application) ∙ sym (line_same ls q.application (line ls q.application ++ (q ∷ [])) inside))
        lines j (inr ne) = ap (λ y. y.waiting) (joins_other j ne) ∙ lined.lines j ∙ sym (line_other ls q.application j (line ls q.application ++ (q ∷ [])) ne)
