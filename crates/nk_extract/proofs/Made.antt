-- The clamp on priorities never acts.
use Rattle.std.proofs.Common.{◌≡◌, ℕ, ◌<◌, Bool, true, false, min, List, [], ◌∷◌, length, refl, ap, ◌∙◌, arith}
use Rattle.std.specs.Prelude.{◌||◌, not, map, filter}
use Rattle.std.specs.List.{AllByRecursion}
use Rattle.nk_extract.specs.RuleTree.{Path, is_drop_list, paths_of, plain_row, put_match, exactly, priority_of, bit_of}
use Rattle.nk_extract.specs.Ways.{row_after, RowsAreMade}
use Rattle.nk_extract.proofs.Lists.{every_weaker, every_filter, filter_same}
use Rattle.nk_extract.proofs.Highest.{light}
use Rattle.nk_extract.proofs.Trees.{tests_only}

-- false changes nothing
or_none_is : (a : Bool) → a || false ≡ a
or_none_is true = refl
or_none_is false = refl

-- images by functions that agree on the elements
map_every :
    {A B : Type 0} (P : A → Type 0) (g h : A → B) (xs : List A) → ((x : A) → P x → g x ≡ h x)
    → AllByRecursion P xs → map g xs ≡ map h xs
map_every P g h [] f e = refl
map_every P g h (x ∷ xs) f e = ap (λ y. y ∷ map g xs) (f x e.0) ∙ ap (λ l. h x ∷ l) (map_every P g h xs f e.1)

-- a priority in range is not clamped
unclamped :
    (maxima : List ℕ) (tag t : ℕ) (p : Path) → priority_of (length maxima) tag p.matches < 65536
    → row_after (length maxima) (exactly maxima tag t) [] p ≡ plain_row maxima tag t p
unclamped maxima tag t p h =
    let all = priority_of (length maxima) tag p.matches in
    let e : min 65535 all ≡ all = omega (arith, h) in
    ap (λ (n : ℕ). record { priority = n; matches = put_match (exactly maxima tag t) p.matches; buckets = p.buckets }) e

-- the rows made of a tree's ways are its rows
pub rows_are_made : RowsAreMade
rows_are_made maxima tag t d ok fits =
    let width = length maxima in
    let at = exactly maxima tag t in
    let ps = paths_of maxima d in
    ap (map (row_after width at [])) (filter_same (λ p. (not (is_drop_list p.buckets) || p.shown) || false) (λ p. not (is_drop_list p.buckets) || p.shown) ps (λ p. or_none_is (not (is_drop_list p.buckets) || p.shown)))
    ∙ map_every (λ p. priority_of width tag p.matches < 65536) (row_after width at []) (plain_row maxima tag t) (filter (λ p. not (is_drop_list p.buckets) || p.shown) ps) (unclamped maxima tag t)
    (every_filter (λ p. priority_of width tag p.matches < 65536) (λ p. not (is_drop_list p.buckets) || p.shown) ps
    (every_weaker (λ p. priority_of width tag p.matches < bit_of width tag 0) (λ p. priority_of width tag p.matches < 65536) ps (λ p l. omega (arith, l, fits)) (light width tag maxima d 0 ok.reduced (tests_only maxima tag 1 d ok.reduced ok.tag_free))))
