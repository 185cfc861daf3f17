-- Tests of tags and steps, as they are computed.
use Rattle.std.proofs.Common.{◌≡◌, ℕ, zero, suc, ◌+◌, ◌<◌, Bool, true, false, cond, Some, List, [], ◌∷◌, ◌++◌, length, get_or, take, refl, sym, ap, ◌∙◌, arith, append_assoc}
use Rattle.std.specs.Prelude.{nat_lt, filter, map, if◌then◌else◌}
use Rattle.std.proofs.lemmas.List.Elements.{filter_more}
use Rattle.nk_field.proofs.Lists.{map_joined}
use Rattle.nk_table.specs.declared.Row.{Row}
use Rattle.nk_update.specs.Plans.{is_tagged, old_stands, new_stands, plan_row_on}

-- a value is a tag where it is above 0
pub tagged_is : (n : ℕ) → nat_lt 0 n ≡ is_tagged (Some n)
tagged_is zero = refl
tagged_is (suc n) = grind (arith)

-- one choice more
if_more : (n : ℕ) (b : Bool) (x : Row) → map (plan_row_on n) (cond b (x ∷ []) []) ≡ (if b then plan_row_on n x ∷ [] else [])
if_more n true x = refl
if_more n false x = refl

-- one old row more
pub old_more : (digits f steps : ℕ) (xs : List Row) (i : ℕ) (x : Row) → i < length xs → x ≡ get_or xs i x →
    filter (old_stands digits f steps) (take i xs) ++ (if old_stands digits f steps x then x ∷ [] else []) ≡ filter (old_stands digits f steps) (take (i + 1) xs)
old_more digits f steps xs i x lt e =
    ap (λ y. filter (old_stands digits f steps) (take i xs) ++ (if old_stands digits f steps y then y ∷ [] else [])) e
    ∙ sym (filter_more (old_stands digits f steps) xs i x lt)

-- one new row more
pub new_more : (digits f steps n : ℕ) (us : List Row) (xs : List Row) (i : ℕ) (x : Row) → i < length xs → x ≡ get_or xs i x →
    (us ++ map (plan_row_on n) (filter (new_stands digits f steps) (take i xs))) ++ (if new_stands digits f steps x then plan_row_on n x ∷ [] else []) ≡ us ++ map (plan_row_on n) (filter (new_stands digits f steps) (take (i + 1) xs))
new_more digits f steps n us xs i x lt e =
    let kept = filter (new_stands digits f steps) (take i xs) in
    append_assoc us (map (plan_row_on n) kept) (if new_stands digits f steps x then plan_row_on n x ∷ [] else [])
    ∙ ap (λ l. us ++ l)
    (ap (λ l. map (plan_row_on n) kept ++ l) (sym (if_more n (new_stands digits f steps x) x))
    ∙ sym (map_joined (plan_row_on n) kept (cond (new_stands digits f steps x) (x ∷ []) []))
    ∙ ap (λ y. map (plan_row_on n) (kept ++ cond (new_stands digits f steps y) (y ∷ []) [])) e
    ∙ ap (map (plan_row_on n)) (sym (filter_more (new_stands digits f steps) xs i x lt)))
