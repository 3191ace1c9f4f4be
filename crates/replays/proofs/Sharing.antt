-- The lines of the applications, one by one. Assumes nothing.
use Rattle.std.proofs.Common.{◌≡◌, ℕ, suc, ◌+◌, ◌*◌, ◌<◌, ◌≤◌, List, [], ◌∷◌, ◌++◌, map, length, get_or, drop, sym, refl, ap, ◌∙◌, ap₂, add-one, arith}
use Rattle.std.proofs.lemmas.List.{drop_all, drop_more, get_or-map, length-map}
use Rattle.fields.specs.Buffers.{put}
use Rattle.fields.proofs.Puts.{left_long, put_left, put_none}
use Rattle.listing.specs.Lines.{share_line}
use Rattle.records.specs.Layouts.{application_of}
use Rattle.records.specs.declared.tables.ApplicationRecord.{ApplicationRecord}
use Rattle.rosters.specs.Applications.{default_application}
use Rattle.rosters.specs.declared.application.Application.{Application}
use Rattle.replays.specs.Asked.{member, members}
use Rattle.replays.specs.Listings.{share_lines}

-- the applications other than 0, by the bytes of their records
module _ (xs : List ApplicationRecord) (bs : List (List ℕ)) (is : map application_of bs ≡ xs) where
  pub member_count : length (members xs) ≡ length bs + 1
  member_count = omega (arith, length-map xs member, sym (ap length is) ∙ length-map bs application_of)

  pub weight_read : (i : ℕ) (a : ApplicationRecord) → a ≡ application_of (get_or bs i []) → i < length bs → a.weight ≡ (get_or (members xs) (i + 1) default_application).weight
  weight_read i a e h =
      let blank = application_of [] in
      let here = e ∙ sym (get_or-map application_of bs i [] blank h) ∙ ap (λ ys. get_or ys i blank) is in
      ap (λ x. x.weight) here ∙ sym (ap (λ m. m.weight) (get_or-map member xs i blank default_application (omega (arith, sym (ap length is) ∙ length-map bs application_of))))
      ∙ ap (λ n. (get_or (members xs) n default_application).weight) (sym (add-one i))

-- one application's line, and the others'
pub shares_more : (sent : ℕ → ℕ) (xs : List Application) (k w s : ℕ) → k < length xs → w ≡ (get_or xs k default_application).weight → s ≡ sent k → share_lines sent k (drop k xs) ≡ share_line k w s ++ share_lines sent (k + 1) (drop (k + 1) xs)
shares_more sent xs k w s h weight sum =
    ap (share_lines sent k) (drop_more xs k default_application h)
    ∙ ap (λ n. share_line k (get_or xs k default_application).weight (sent k) ++ share_lines sent n (drop (k + 1) xs)) (sym (add-one k))
    ∙ ap₂ (λ x y. share_line k x y ++ share_lines sent (k + 1) (drop (k + 1) xs)) (sym weight) (sym sum)

-- What was put of these lines leads on: what is left makes the rest.
pub record Sharing (sent : ℕ → ℕ) (xs : List Application) (before : List ℕ) (at k end : ℕ) (out : List ℕ) : Type 0 where
  pub low : end ≤ at + 64 * k
  pub long : end + length (share_lines sent k (drop k xs)) ≡ at + length (share_lines sent 0 xs)
  pub same : put end (share_lines sent k (drop k xs)) out ≡ put at (share_lines sent 0 xs) before

module _ (sent : ℕ → ℕ) (xs : List Application) (before : List ℕ) (at : ℕ) where
  pub sharing_start : Sharing sent xs before at 0 at before
  sharing_start = record { low = omega arith; long = refl; same = refl }

  pub sharing_more : (k end end' w s : ℕ) (out out' : List ℕ) → Sharing sent xs before at k end out → k < length xs → w ≡ (get_or xs k default_application).weight → s ≡ sent k
      → length (share_line k w s) ≤ 64 → end' ≡ end + length (share_line k w s) → out' ≡ put end (share_line k w s) out → end ≤ length out → Sharing sent xs before at (k + 1) end' out'
  sharing_more k end end' w s out out' g h weight sum short ends puts room =
      let this = share_line k w s in
      let rest = share_lines sent (k + 1) (drop (k + 1) xs) in
      let whole = shares_more sent xs k w s h weight sum in
      record { low = omega (arith, g.low, ends, short); long = left_long end end' this rest _ whole ends ∙ g.long; same = put_left end end' this rest _ out whole puts ends room ∙ g.same }

  pub shares_same : (k end : ℕ) (out : List ℕ) → Sharing sent xs before at k end out → length xs ≤ k → out ≡ put at (share_lines sent 0 xs) before
  shares_same k end out g all = sym (put_none end out) ∙ ap (λ ys. put end (share_lines sent k ys) out) (sym (drop_all k xs all)) ∙ g.same

-- only the sums of the applications that there are count
pub shares_same_by : (f h : ℕ → ℕ) (k : ℕ) (xs : List Application) → ((j : ℕ) → j < k + length xs → f j ≡ h j) → share_lines f k xs ≡ share_lines h k xs
shares_same_by f h k [] e = refl
shares_same_by f h k (x ∷ xs) e =
    ap₂ (λ s ys. share_line k x.weight s ++ ys) (e k (omega arith)) (shares_same_by f h (suc k) xs (λ j l. e j (omega arith)))
