-- Tables found by the places that are kept for switches.
use Rattle.std.proofs.Common.{◌≡◌, ◌<◌, ◌≤◌, ◌+◌, ℕ, suc, Bool, true, false, cond, ⊎_elim, Option, None, Some, List, ◌∷◌, refl, sym, ap, ◌∙◌, arith, add-one, length, get_or, drop}
use Rattle.std.specs.Prelude.{◌==◌, slice_get}
use Rattle.std.specs.Borrow.{Bor}
use Rattle.std.specs.Option.{option_and_then, option_copied}
use Rattle.std.specs.Slice.{IsItemAt}
use Rattle.std.proofs.Math.Seq.{drop-cons}
use Rattle.std.proofs.lemmas.Bool.{cases_lt}
use Rattle.std.proofs.lemmas.List.{get_or_past}
use Rattle.std.proofs.lemmas.Option.{slice_get-get_or, slice_get_past, slice_get_read}
use Rattle.nk_table.specs.declared.Table.{Table}
use Rattle.nk_sim.specs.Emitted.{table_of, found_by}

-- more room for places, in which no switch has one
pub room_kept : (xs ys : List (Option ℕ)) (m n : ℕ) → m ≡ length xs → m ≤ n → length ys ≡ n
    → ((k : ℕ) (d : Option ℕ) → k < n → k < m → get_or ys k d ≡ get_or xs k d)
    → ((k : ℕ) (d : Option ℕ) → m ≤ k → k < n → get_or ys k d ≡ None)
    → (sw : ℕ) → get_or ys sw None ≡ get_or xs sw None
room_kept xs ys m n size le same before fresh sw =
    ⊎_elim
    (λ (lt : sw < m). before sw None (omega (arith, lt, le)) lt)
    (λ (past : m ≤ sw).
    ⊎_elim
    (λ (lt : sw < n). fresh sw None past lt)
    (λ (out : n ≤ sw). get_or_past ys sw None (omega (arith, same, out)))
    (cases_lt sw n)
    ∙ sym (get_or_past xs sw None (omega (arith, size, past))))
    (cases_lt sw m)

-- the place of a table is set in front of those of the tables after it
pub found_first : (ps qs : List (Option ℕ)) (ts : List Table) (i : ℕ) (d : Table) → i < length ts
    → ((sw : ℕ) → get_or qs sw None ≡ cond ((get_or ts i d).switch == sw) (Some i) (get_or ps sw None))
    → ((sw : ℕ) → found_by ps ts sw ≡ table_of (drop (i + 1) ts) sw)
    → (sw : ℕ) → found_by qs ts sw ≡ table_of (drop i ts) sw
found_first ps qs ts i d lt placed later sw =
    let first : drop i ts ≡ t ∷ drop (suc i) ts = drop-cons ts i d lt in
    ap (option_and_then (slice_get ts)) (placed sw) ∙ by (t.switch == sw) ∙ ap (λ l. table_of l sw) (sym first)
  where
    t : Table
    t = get_or ts i d

    more : drop (i + 1) ts ≡ drop (suc i) ts
    more = ap (λ n. drop n ts) (add-one i)

    by : (b : Bool) → option_and_then (slice_get ts) (cond b (Some i) (get_or ps sw None)) ≡ cond b (Some t) (table_of (drop (suc i) ts) sw)
    by true = slice_get-get_or ts i d lt
    by false = later sw ∙ ap (λ l. table_of l sw) more

-- the table that is lent is the one at its place
pub lent_at : (ts : List Table) (i : ℕ) (r : Option (Bor Table)) → IsItemAt ts i r → option_copied r ≡ slice_get ts i
lent_at ts i None h = sym (slice_get_past ts i h.3)
lent_at ts i (Some x) h = sym (slice_get_read ts (length ts) i x.now refl h.3.0 h.1)
