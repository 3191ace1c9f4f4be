-- What a stamp table is in the model over which the law is proved.
use Rattle.std.proofs.Common.{◌≡◌, ℕ, zero, suc, ◌-◌, ◌<◌, true, false, ◌⊎◌, List, [], ◌∷◌, map, length, get_or, set, Some, None, Option, sym, refl, ap, ◌∙◌, inl, inr, arith}
use Rattle.std.proofs.lemmas.List.{map-set, set-get_or, get_or-set_same, get_or-set_other}
use Rattle.std.proofs.lemmas.Bool.{cases_eq, true≢false, false≢true}
use Rattle.rosters.specs.Stamps.{by_status, is_idle, is_queued, is_serving, no_stamp}
use Rattle.stamps.specs.Rows.{paid, position}
use Rattle.stamps.specs.Tables.{Table, row}
use Rattle.stamps.specs.Steps.{changed}
use Rattle.rosters.specs.declared.stamp.Stamp.{Stamp}
use Rattle.rosters.specs.declared.stamp.Status.{Status}
use Rattle.rosters.specs.declared.stamp.Status.TheVariants.{Idle, Queued, Serving}
use Rattle.share_model.specs.Model as model

-- where the application stands, and the sectors left of its budget
abbrev status_by : Status → Stamp → model.Status
status_by st s = by_status st (model.idle s.reached) (model.active s.start s.budget) (model.active (paid s) (s.budget - s.served))

abbrev pub status : Stamp → model.Status
status s = status_by s.status s

abbrev pub line : Stamp → model.Row
line s = record { weight = s.weight; limit = s.limit; cost = s.cost; status = status s }

abbrev pub server : Option ℕ → Table → model.Server
server None t = model.free
server (Some k) t = model.on k (row t k).served

abbrev pub view : Table → model.State
view t = record { rows = map line t.stamps; time = t.virtual; server = server t.serving t }

pub getD_lines : (xs : List Stamp) (k : ℕ) (d : Stamp) → get_or (map line xs) k (line d) ≡ line (get_or xs k d)
getD_lines [] k d = refl
getD_lines (x ∷ xs) zero d = refl
getD_lines (x ∷ xs) (suc k) d = getD_lines xs k d

-- the model's row of application k
pub row_is : (t : Table) (k : ℕ) → model.row (view t) k ≡ line (row t k)
row_is t k = getD_lines t.stamps k no_stamp

-- the position is the same in both
pub place_is : (s : Stamp) → model.place (status s) ≡ position s
place_is s = go s.status
  where
    go : (st : Status) → model.place (status_by st s) ≡ by_status st s.reached s.start (paid s)
    go Idle = refl
    go Queued = refl
    go Serving = refl

-- and so is who is idle
pub active_is : (s : Stamp) → is_idle s ≡ false → model.Active (status s)
active_is s h = go s.status h
  where
    go : (st : Status) → by_status st true false false ≡ false → model.Active (status_by st s)
    go Idle h = let z : ◌≡◌ {A = ℕ} 0 1 = cc in absurd (omega arith)
    go Queued h = tt
    go Serving h = tt

-- what each status is in the model
pub status_idle : (s : Stamp) → is_idle s ≡ true → status s ≡ model.idle s.reached
status_idle s h = go s.status h
  where
    go : (st : Status) → by_status st true false false ≡ true → status_by st s ≡ model.idle s.reached
    go Idle h = refl
    go Queued h = absurd (false≢true h)
    go Serving h = absurd (false≢true h)

pub status_queued : (s : Stamp) → is_queued s ≡ true → status s ≡ model.active s.start s.budget
status_queued s h = go s.status h
  where
    go : (st : Status) → by_status st false true false ≡ true → status_by st s ≡ model.active s.start s.budget
    go Idle h = absurd (false≢true h)
    go Queued h = refl
    go Serving h = absurd (false≢true h)

pub status_serving : (s : Stamp) → is_serving s ≡ true → status s ≡ model.active (paid s) (s.budget - s.served)
status_serving s h = go s.status h
  where
    go : (st : Status) → by_status st false false true ≡ true → status_by st s ≡ model.active (paid s) (s.budget - s.served)
    go Idle h = absurd (false≢true h)
    go Queued h = absurd (false≢true h)
    go Serving h = refl

-- one that is active in the model, and is not served, is queued
pub record Waiting (s : Stamp) (p l : ℕ) : Type 0 where
  pub queued : is_queued s ≡ true
  pub starts : s.start ≡ p
  pub whole : s.budget ≡ l

pub waiting : (s : Stamp) (p l : ℕ) → is_serving s ≡ false → status s ≡ model.active p l → Waiting s p l
waiting s p l h e =
    let q = go s.status h e in
    let same = sym (status_queued s q) ∙ e in
    record { queued = q; starts = cc; whole = cc }
  where
    go : (st : Status) → by_status st false false true ≡ false → status_by st s ≡ model.active p l → by_status st false true false ≡ true
    go Idle h e = let z : ◌≡◌ {A = ℕ} 0 1 = cc in absurd (omega arith)
    go Queued h e = refl
    go Serving h e = absurd (true≢false h)

-- the model's rows once that of application k has changed
pub rows_put : (xs : List Stamp) (k : ℕ) (new : Stamp) (st : model.Status) → line new ≡ model.with_status (line (get_or xs k no_stamp)) st
    → map line (set xs k new) ≡ model.put (map line xs) k st
rows_put xs k new st e = map-set line xs k new ∙ ap (set (map line xs) k) (e ∙ ap (λ r. model.with_status r st) (sym (getD_lines xs k no_stamp)))

pub view_put : (t : Table) (k : ℕ) (new : Stamp) (st : model.Status) (v n : ℕ) (serving : Option ℕ) (sv : model.Server)
    → line new ≡ model.with_status (line (row t k)) st
    → server serving (record { virtual = v; sent = n; serving = serving; stamps = set t.stamps k new }) ≡ sv
    → view (record { virtual = v; sent = n; serving = serving; stamps = set t.stamps k new }) ≡ model.state (model.put (view t).rows k st) v sv
view_put t k new st v n serving sv e f =
    ap (λ rs. model.state rs v (server serving (record { virtual = v; sent = n; serving = serving; stamps = set t.stamps k new }))) (rows_put t.stamps k new st e)
    ∙ ap (model.state (model.put (view t).rows k st) v) f

-- a row put where it stood
pub put_same : (xs : List Stamp) (k : ℕ) → model.put (map line xs) k (status (get_or xs k no_stamp)) ≡ map line xs
put_same xs k = ap (λ x. set (map line xs) k (model.with_status (model.row_of (map line xs) k) x.status)) (sym (getD_lines xs k no_stamp)) ∙ set-get_or (map line xs) k model.blank

-- an idle application's change leaves who is served, and what that has sent
pub server_same : (t : Table) (k : ℕ) (new : Stamp) → k < length t.stamps → new.served ≡ (row t k).served
    → server t.serving (changed k new t.serving t) ≡ server t.serving t
server_same t k new inside e = go t.serving
  where
    served : (j : ℕ) → (j ≡ k) ⊎ (j ≡ k → ⊥) → (get_or (set t.stamps k new) j no_stamp).served ≡ (row t j).served
    served j (inl q) = ap (λ i. (get_or (set t.stamps k new) i no_stamp).served) q ∙ ap (λ s. s.served) (get_or-set_same t.stamps k new no_stamp inside) ∙ e ∙ ap (λ i. (row t i).served) (sym q)
    served j (inr ne) = ap (λ s. s.served) (get_or-set_other t.stamps k j new no_stamp ne)

    go : (o : Option ℕ) → server o (changed k new t.serving t) ≡ server o t
    go None = refl
    go (Some j) = ap (model.on j) (served j (cases_eq j k))
