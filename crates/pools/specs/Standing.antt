-- How the lines of the program stand for the lists of a pool.
use Rattle.std.specs.Prelude.{◌≡◌, ℕ, zero, suc, ◌<◌, ◌≤◌, cond, List, [], ◌∷◌, ◌++◌, map, length, Ok, Err, vec_items, Result, slice_index_or, slice_set, refl}
use Rattle.std.proofs.Common.{sym, ap, ◌∙◌, arith}
use Rattle.std.proofs.lemmas.List.{get_or-map, get_or_past, length-map, set-get_or}
use Rattle.std.proofs.lemmas.Bool.{lt-ltb}
use Rattle.pools.specs.Lines.{if_ok, join_answer, line, put_answer}
use Rattle.pools.specs.View.{waiting, all_waiting}
use Rattle.pools.specs.declared.line.Line.{Line}
use Rattle.pools.specs.declared.lines.Lines.{Lines}
use Rattle.pools.specs.declared.refusal.Refusal.{Refusal}
use Rattle.pools.specs.declared.refusal.Refusal.TheVariants.{Unknown}
use Rattle.pools.specs.declared.request.Request.{Request}

pub sixteen_lines : (ls : Lines) → length (all_waiting ls) ≡ 16
sixteen_lines ls = length-map (vec_items ls.lines) waiting ∙ sym ls.lines.ok.0 ∙ ls.sixteen

few_wait : (xs : List Line) (a : ℕ) → length (line (map waiting xs) a) ≤ 16
few_wait [] a = omega arith
few_wait (l ∷ xs) zero = omega (arith, l.few, l.requests.ok.0)
few_wait (l ∷ xs) (suc a) = few_wait xs a

pub few_in_line : (ls : Lines) (a : ℕ) → length (line (all_waiting ls) a) ≤ 16
few_in_line ls a = few_wait (vec_items ls.lines) a

-- the line l that is read at i is the line of application a
pub line_read : (ls : Lines) (a i : ℕ) (l : Line) → i ≡ a → a < 16 → l ≡ slice_index_or (vec_items ls.lines) i l → line (all_waiting ls) a ≡ waiting l
line_read ls a i l at h e =
    let within : i < length (vec_items ls.lines) = omega (arith, ls.lines.ok.0, ls.sixteen) in
    ap (λ k. line (all_waiting ls) k) (sym at) ∙ get_or-map waiting (vec_items ls.lines) i l [] within ∙ ap waiting (sym e)

-- above 15 there is none
pub no_line : (ls : Lines) (a : ℕ) → 16 ≤ a → line (all_waiting ls) a ≡ []
no_line ls a h = get_or_past (all_waiting ls) a [] (omega (arith, sixteen_lines ls))

-- a request that has a line is answered as that line answers
pub put_by_line : (r : Request) (ls : List (List Request)) → r.application < 16 → join_answer (line ls r.application) ≡ put_answer r ls
put_by_line r ls h = ap (λ b. cond b (join_answer (line ls r.application)) (Err Unknown)) (sym (lt-ltb r.application 16 h))

-- and what becomes of the line becomes of the lists
pub joined_lists : (r : Request) (ls : List (List Request)) (a : ℕ) (o : Result (Unit {0}) Refusal) → slice_set ls a (if_ok o (line ls a ++ (r ∷ [])) (line ls a)) ≡ if_ok o (slice_set ls a (line ls a ++ (r ∷ []))) ls
joined_lists r ls a (Ok x) = refl
joined_lists r ls a (Err e) = set-get_or ls a []
