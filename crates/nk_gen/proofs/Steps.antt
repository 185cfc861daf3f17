-- One more step of the loops.
use Rattle.std.proofs.Common.{◌≡◌, ℕ, suc, ◌+◌, ◌-◌, ◌<◌, List, [], ◌∷◌, ◌++◌, length, get_or, drop, map, sym, ap, ◌∙◌, append_assoc, arith}
use Rattle.std.specs.List.{range_with_len, enumerate_from, flat_map, fold}
use Rattle.std.proofs.lemmas.List.{drop_more, flat_map_more, map-id}
use Rattle.std.proofs.lemmas.List.FromFn.{map-range_with_len_more}
use Rattle.nk_gen.specs.declared.network.Home.{Home}
use Rattle.nk_gen.specs.Draws.{next_draw, draws}
use Rattle.nk_gen.specs.Network.{home_of}

-- one more draw of those that are left
pub draws_more : (all more : List ℕ) (x y i n : ℕ) (w : List ℕ) → i < n → more ≡ all ++ y ∷ [] → y ≡ next_draw x
    → all ++ draws x (n - i) ≡ w → more ++ draws y (n - (i + 1)) ≡ w
draws_more all more x y i n w lt pushed value inv =
    let left : suc (n - (i + 1)) ≡ n - i = omega arith in
    ap (λ l. l ++ draws y (n - (i + 1))) pushed
    ∙ append_assoc all (y ∷ []) (draws y (n - (i + 1)))
    ∙ ap (λ z. all ++ z ∷ draws z (n - (i + 1))) value
    ∙ ap (λ k. all ++ draws x k) left
    ∙ inv

-- what is made of each number from 1 on, for one number more
map_one_more : {Y : Type 0} (f : ℕ → Y) (n : ℕ) → map f (range_with_len 1 (n + 1)) ≡ map f (range_with_len 1 n) ++ f (n + 1) ∷ []
map_one_more f n = map-range_with_len_more f 1 n (n + 1) (omega arith)

-- one number more
range_more : (n : ℕ) → range_with_len 1 (n + 1) ≡ range_with_len 1 n ++ (n + 1) ∷ []
range_more n =
    sym (map-id (range_with_len 1 (n + 1)))
    ∙ map_one_more (λ (k : ℕ). k) n
    ∙ ap (λ l. l ++ (n + 1) ∷ []) (map-id (range_with_len 1 n))

-- one more of what is made of each number
pub map_pushed : {Y : Type 0} (f : ℕ → Y) (n : ℕ) (before more : List Y) (y : Y) → before ≡ map f (range_with_len 1 n)
    → y ≡ f (n + 1) → more ≡ before ++ y ∷ [] → more ≡ map f (range_with_len 1 (n + 1))
map_pushed f n before more y inv value pushed =
    pushed
    ∙ ap (λ l. l ++ y ∷ []) inv
    ∙ ap (λ z. map f (range_with_len 1 n) ++ z ∷ []) value
    ∙ sym (map_one_more f n)

-- the lists of each number from 1 on, for one number more
lists_more : {Y : Type 0} (f : ℕ → List Y) (n : ℕ) (before : List Y)
    → (before ++ flat_map f (range_with_len 1 n)) ++ f (n + 1) ≡ before ++ flat_map f (range_with_len 1 (n + 1))
lists_more f n before =
    flat_map_more f before (range_with_len 1 n) (n + 1) ∙ ap (λ l. before ++ flat_map f l) (sym (range_more n))

-- the list of one more number, after others
pub lists_pushed : {Y : Type 0} (f : ℕ → List Y) (n : ℕ) (start before more : List Y)
    → before ≡ start ++ flat_map f (range_with_len 1 n) → more ≡ before ++ f (n + 1)
    → more ≡ start ++ flat_map f (range_with_len 1 (n + 1))
lists_pushed f n start before more inv pushed = pushed ∙ ap (λ l. l ++ f (n + 1)) inv ∙ lists_more f n start

-- one more home
pub homes_more : (hs more : List Home) (xs : List ℕ) (i : ℕ) (h : Home) (w : List Home) → i < length xs
    → more ≡ hs ++ h ∷ [] → h ≡ home_of (i + 1, get_or xs i 0)
    → hs ++ map home_of (enumerate_from (i + 1) (drop i xs)) ≡ w
    → more ++ map home_of (enumerate_from (i + 1 + 1) (drop (i + 1) xs)) ≡ w
homes_more hs more xs i h w lt pushed value inv =
    let rest = map home_of (enumerate_from (i + 1 + 1) (drop (i + 1) xs)) in
    ap (λ l. l ++ rest) pushed
    ∙ append_assoc hs (h ∷ []) rest
    ∙ ap (λ z. hs ++ z ∷ rest) value
    ∙ ap (λ l. hs ++ map home_of (enumerate_from (i + 1) l)) (sym (drop_more xs i 0 lt))
    ∙ inv

-- one more item of a fold over a list with its numbers
pub fold_more : {A : Type 0} (f : A → ℕ × ℕ → A) (a b w : A) (xs : List ℕ) (i : ℕ) → i < length xs
    → b ≡ f a (i + 1, get_or xs i 0)
    → fold f a (enumerate_from (i + 1) (drop i xs)) ≡ w
    → fold f b (enumerate_from (i + 1 + 1) (drop (i + 1) xs)) ≡ w
fold_more f a b w xs i lt value inv =
    ap (λ y. fold f y (enumerate_from (i + 1 + 1) (drop (i + 1) xs))) value
    ∙ ap (λ l. fold f a (enumerate_from (i + 1) l)) (sym (drop_more xs i 0 lt))
    ∙ inv
