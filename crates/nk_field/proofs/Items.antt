-- Items of a text: what stands after a name, numbers, and one item for each field.
use Rattle.std.proofs.Common.{◌≡◌, ◌≢◌, ◌<◌, ◌≤◌, ◌+◌, ◌-◌, ◌^◌, ℕ, suc, Bool, true, false, not, cond, Option, None, Some, Result, Ok, Err, List, [], ◌∷◌, ◌++◌, length, drop, get_or, refl, sym, ap, ◌∙◌, arith}
use Rattle.std.specs.Prelude.{◌==◌, ◌&&◌, nat_le, MatchOption, filter, map, option_map, replicate, slice_set}
use Rattle.std.specs.List.{range_with_len}
use Rattle.std.specs.Borrow.{Bor}
use Rattle.std.specs.Result.{OkIff}
use Rattle.std.specs.Str.{all_ascii_digits, IsCharBoundary}
use Rattle.std.specs.Str.Parse.{digits_value, ParsesUnsigned}
use Rattle.std.proofs.Math.Seq.{drop-cons}
use Rattle.std.proofs.lemmas.List.{drop_all, length-map, get_or-map}
use Rattle.std.proofs.lemmas.Bool.Decides.{nat_tests}
use Rattle.std.proofs.lemmas.Str.Parse.{IsNumeralModel, numerals_by_value, tells_all_ascii_digits, parse_plain}
use Rattle.nk_field.specs.Packet.{FieldTable}
use Rattle.nk_field.specs.Texts.{is_tag, is_shown, shown, rest_after_prefix, number_upto, value_in, with_value, read_items}
use Rattle.nk_field.specs.declared.packet.Packet.{Packet}
use Rattle.nk_field.specs.declared.reading.PacketError.{PacketError}
use Rattle.nk_field.specs.declared.reading.PacketError.TheVariants.{BadPacket}
use Rattle.nk_field.proofs.Printing.{range_first, range_done}

same_true : (c : ℕ) → (c == c) ≡ true
same_true c = grind (arith, nat_tests)

-- what stands after a front
pub after_here : (xs ys : List ℕ) → rest_after_prefix xs (xs ++ ys) ≡ Some ys
after_here [] ys = refl
after_here (x ∷ xs) ys = ap (λ t. cond t (rest_after_prefix xs (xs ++ ys)) None) (same_true x) ∙ after_here xs ys

-- a text that doesn't begin so
pub after_none : (xs s : List ℕ) → ((rest : List ℕ) → s ≢ xs ++ rest) → rest_after_prefix xs s ≡ None
after_none [] s h = absurd (h s refl)
after_none (x ∷ xs) [] h = refl
after_none (x ∷ xs) (b ∷ bs) h =
    by_test (b == x) refl (λ same. after_none xs bs (λ rest at. h rest (ap (λ c. c ∷ bs) same ∙ ap (λ l. x ∷ l) at)))
  where
    by_test : (t : Bool) → (b == x) ≡ t → (b ≡ x → rest_after_prefix xs bs ≡ None) → cond t (rest_after_prefix xs bs) None ≡ None
    by_test false e k = refl
    by_test true e k = k (grind (arith, nat_tests))

abbrev pub and_after : List ℕ → Option (List ℕ) → Option (List ℕ)
and_after ys None = None
and_after ys (Some s) = rest_after_prefix ys s

-- after one front and then another
pub after_both : (xs ys s : List ℕ) → rest_after_prefix (xs ++ ys) s ≡ and_after ys (rest_after_prefix xs s)
after_both [] ys s = refl
after_both (x ∷ xs) ys [] = refl
after_both (x ∷ xs) ys (b ∷ bs) = by_test (b == x) (after_both xs ys bs)
  where
    by_test : (t : Bool) → rest_after_prefix (xs ++ ys) bs ≡ and_after ys (rest_after_prefix xs bs)
        → cond t (rest_after_prefix (xs ++ ys) bs) None ≡ and_after ys (cond t (rest_after_prefix xs bs) None)
    by_test true e = e
    by_test false e = refl

-- a text that begins with what is stripped
pub stripped : (name item rest : List ℕ) → ((k : ℕ) × ((k ≡ length name) × (item ≡ name ++ drop k item) × IsCharBoundary item (length name)) × (rest ≡ drop k item) × (length rest + k ≡ length item))
    → item ≡ name ++ rest
stripped name item rest h = h.1.1 ∙ ap (λ l. name ++ l) (sym h.2)

-- a name is there, and then an equals sign or not
pub digits_some : (name item rest : List ℕ) (r : Option (Bor (List ℕ))) → item ≡ name ++ rest
    → MatchOption r ((more : List ℕ) → rest ≢ 61 ∷ more) (λ x. rest ≡ 61 ∷ x.now)
    → option_map (λ d. d.now) r ≡ rest_after_prefix (name ++ 61 ∷ []) item
digits_some name item rest None e h =
    sym (ap (rest_after_prefix (name ++ 61 ∷ [])) e ∙ after_both name (61 ∷ []) (name ++ rest) ∙ ap (and_after (61 ∷ [])) (after_here name rest) ∙ after_none (61 ∷ []) rest h)
digits_some name item rest (Some x) e h =
    sym (ap (rest_after_prefix (name ++ 61 ∷ [])) e ∙ after_both name (61 ∷ []) (name ++ rest) ∙ ap (and_after (61 ∷ [])) (after_here name rest) ∙ ap (rest_after_prefix (61 ∷ [])) h ∙ after_here (61 ∷ []) x.now)

-- the name isn't there
pub digits_none : (name item : List ℕ) → ((rest : List ℕ) → item ≢ name ++ rest) → None ≡ rest_after_prefix (name ++ 61 ∷ []) item
digits_none name item h = sym (after_both name (61 ∷ []) item ∙ ap (and_after (61 ∷ [])) (after_none name item h))

-- digits and their value
pub own : IsNumeralModel (λ ds. all_ascii_digits ds ≡ true) (digits_value 10)
own = numerals_by_value _ tells_all_ascii_digits

not_empty : (ds : List ℕ) → 0 < length ds → not (length ds == 0) ≡ true
not_empty ds lt = grind (arith, nat_tests)

le_true : (m n : ℕ) → m ≤ n → nat_le m n ≡ true
le_true m n le = grind (arith, nat_tests)

-- a number that is read and not too large
pub number_is : (max n : ℕ) (ds : List ℕ) → all_ascii_digits ds ≡ true → 0 < length ds → digits_value 10 ds ≡ n → n ≤ max
    → number_upto max ds ≡ Some n
number_is max n ds digits some value le =
    let e : (not (length ds == 0) && all_ascii_digits ds && nat_le (digits_value 10 ds) max) ≡ true =
    (λ i. not_empty ds some i && digits i && (ap (λ v. nat_le v max) value ∙ le_true n max le) i) in
    ap (λ t. cond t (Some (digits_value 10 ds)) None) e ∙ ap Some value

-- none is read
pub number_none : (max : ℕ) (ds : List ℕ) → (all_ascii_digits ds ≡ true → 0 < length ds → digits_value 10 ds ≤ max → ⊥)
    → number_upto max ds ≡ None
number_none max ds h = by_tests (not (length ds == 0)) (all_ascii_digits ds) (nat_le (digits_value 10 ds) max) refl refl refl
  where
    by_tests : (a b c : Bool) → not (length ds == 0) ≡ a → all_ascii_digits ds ≡ b → nat_le (digits_value 10 ds) max ≡ c
        → cond (a && b && c) (Some (digits_value 10 ds)) None ≡ None
    by_tests true true true e f g =
        let some : 0 < length ds = grind (arith, nat_tests) in
        let le : digits_value 10 ds ≤ max = grind (arith, nat_tests) in
        absurd (h f some le)
    by_tests true true false e f g = refl
    by_tests true false c e f g = refl
    by_tests false b c e f g = refl

-- what `parse` reads of a text without a plus in front
pub parsed_ok : (max n : ℕ) (ds : List ℕ) → ParsesUnsigned {E = ℕ} 64 10 ds (Ok n) → get_or ds 0 0 ≢ 43 → n ≤ max
    → Some n ≡ number_upto max ds
parsed_ok max n ds h plain le =
    let k : OkIff {E = ℕ} (Ok n) ((all_ascii_digits ds ≡ true) × (0 < length ds) × (digits_value 10 ds < 2 ^ 64)) (digits_value 10 ds) =
    parse_plain own {E = ℕ} 64 ds (Ok n) h plain in
    sym (number_is max n ds k.0.0 k.0.1 (sym k.1) le)

pub parsed_err : (max : ℕ) (ds : List ℕ) → ParsesUnsigned {E = ℕ} 64 10 ds (Err 0) → get_or ds 0 0 ≢ 43 → max < 2 ^ 64
    → None ≡ number_upto max ds
parsed_err max ds h plain lt =
    let k : OkIff {E = ℕ} (Err 0) ((all_ascii_digits ds ≡ true) × (0 < length ds) × (digits_value 10 ds < 2 ^ 64)) (digits_value 10 ds) =
    parse_plain own {E = ℕ} 64 ds (Err 0) h plain in
    sym (number_none max ds (λ a b c. k (a, b, omega arith)))

-- the items from index n on begin with the item at n
pub next_item : (items : List (Bor (List ℕ))) (n : ℕ) (i : Bor (List ℕ)) → n < length items → i ≡ get_or items n i
    → drop n (map (λ j. j.now) items) ≡ i.now ∷ drop (n + 1) (map (λ j. j.now) items)
next_item items n i lt at =
    let within : n < length (map (λ (j : Bor (List ℕ)). j.now) items) = omega (arith, length-map items (λ (j : Bor (List ℕ)). j.now), lt) in
    let one : suc n ≡ n + 1 = omega arith in
    drop-cons (map (λ j. j.now) items) n i.now within
    ∙ (λ k. (get_or-map (λ (j : Bor (List ℕ)). j.now) items n i i.now lt ∙ ap (λ (j : Bor (List ℕ)). j.now) (sym at)) k ∷ drop (one k) (map (λ j. j.now) items))

-- one field more that isn't the tag, where an item is left
pub item_there : (t : FieldTable) (f n : ℕ) (its : List (List ℕ)) (i : List ℕ) (pk : Packet) → is_tag t f ≡ false
    → drop n its ≡ i ∷ drop (n + 1) its → (fs : List ℕ)
    → read_items t (filter (is_shown t false) (f ∷ fs)) (drop n its) n pk
    ≡ with_value (value_in t f i) (n + 1) (λ v. read_items t (filter (is_shown t false) fs) (drop (n + 1) its) (n + 1) (slice_set pk f v))
item_there t f n its i pk plain at fs =
    ap (λ b. read_items t (cond (not b) (f ∷ filter (is_shown t false) fs) (filter (is_shown t false) fs)) (drop n its) n pk) plain
    ∙ ap (λ l. read_items t (f ∷ filter (is_shown t false) fs) l n pk) at

-- the first step begins with all fields
pub read_begins : (t : FieldTable) (its : List (List ℕ)) (pk : Packet) → pk ≡ replicate 18 0
    → read_items t (filter (is_shown t false) (range_with_len 0 (length t.maxima - 0))) its 0 pk ≡ read_items t (shown t false) its 0 (replicate 18 0)
read_begins t its pk e =
    let same : length t.maxima - 0 ≡ length t.maxima = omega arith in
    ap (λ k. read_items t (filter (is_shown t false) (range_with_len 0 k)) its 0 pk) same ∙ ap (read_items t (shown t false) its 0) e

-- one field more
pub read_step : (t : FieldTable) (its : List (List ℕ)) (f place n a b : ℕ) (pk qk : Packet) (whole : Result Packet PacketError) → f ≡ place → place < n
    → ((fs : List ℕ) → read_items t (filter (is_shown t false) (f ∷ fs)) (drop a its) a pk ≡ read_items t (filter (is_shown t false) fs) (drop b its) b qk)
    → read_items t (filter (is_shown t false) (range_with_len place (n - place))) (drop a its) a pk ≡ whole
    → read_items t (filter (is_shown t false) (range_with_len (place + 1) (n - (place + 1)))) (drop b its) b qk ≡ whole
read_step t its f place n a b pk qk whole same lt step inv =
    let rest = range_with_len (place + 1) (n - (place + 1)) in
    sym (step rest)
    ∙ ap (λ g. read_items t (filter (is_shown t false) (g ∷ rest)) (drop a its) a pk) same
    ∙ ap (λ fs. read_items t (filter (is_shown t false) fs) (drop a its) a pk) (sym (range_first place n lt))
    ∙ inv

-- an item at fault
pub read_fault : (t : FieldTable) (its : List (List ℕ)) (f place n a : ℕ) (pk : Packet) (e : PacketError) (whole : Result Packet PacketError) → f ≡ place → place < n
    → ((fs : List ℕ) → read_items t (filter (is_shown t false) (f ∷ fs)) (drop a its) a pk ≡ Err e)
    → read_items t (filter (is_shown t false) (range_with_len place (n - place))) (drop a its) a pk ≡ whole
    → Err e ≡ whole
read_fault t its f place n a pk e whole same lt step inv =
    let rest = range_with_len (place + 1) (n - (place + 1)) in
    sym (step rest)
    ∙ ap (λ g. read_items t (filter (is_shown t false) (g ∷ rest)) (drop a its) a pk) same
    ∙ ap (λ fs. read_items t (filter (is_shown t false) fs) (drop a its) a pk) (sym (range_first place n lt))
    ∙ inv

-- no field is left
read_done : (t : FieldTable) (its : List (List ℕ)) (place n a : ℕ) (pk : Packet) (whole : Result Packet PacketError) → n ≤ place
    → read_items t (filter (is_shown t false) (range_with_len place (n - place))) (drop a its) a pk ≡ whole
    → read_items t [] (drop a its) a pk ≡ whole
read_done t its place n a pk whole le inv =
    ap (λ fs. read_items t (filter (is_shown t false) fs) (drop a its) a pk) (sym (range_done place n le)) ∙ inv

-- but an item is
pub too_many : (t : FieldTable) (its : List (List ℕ)) (place n a : ℕ) (pk : Packet) (whole : Result Packet PacketError) → n ≤ place → a < length its
    → read_items t (filter (is_shown t false) (range_with_len place (n - place))) (drop a its) a pk ≡ whole
    → Err (BadPacket (a + 1)) ≡ whole
too_many t its place n a pk whole le lt inv =
    ap (λ l. read_items t [] l a pk) (sym (drop-cons its a [] lt)) ∙ read_done t its place n a pk whole le inv

-- and no item
pub all_read : (t : FieldTable) (its : List (List ℕ)) (place n a : ℕ) (pk : Packet) (whole : Result Packet PacketError) → n ≤ place → length its ≤ a
    → read_items t (filter (is_shown t false) (range_with_len place (n - place))) (drop a its) a pk ≡ whole
    → Ok pk ≡ whole
all_read t its place n a pk whole le past inv =
    ap (λ l. read_items t [] l a pk) (sym (drop_all a its past)) ∙ read_done t its place n a pk whole le inv

-- too many items, told of references
pub too_many_refs : (t : FieldTable) (items : List (Bor (List ℕ))) (place n a : ℕ) (pk : Packet) (whole : Result Packet PacketError) → n ≤ place → a < length items
    → read_items t (filter (is_shown t false) (range_with_len place (n - place))) (drop a (map (λ j. j.now) items)) a pk ≡ whole
    → Err (BadPacket (a + 1)) ≡ whole
too_many_refs t items place n a pk whole le lt inv =
    too_many t (map (λ j. j.now) items) place n a pk whole le (omega (arith, length-map items (λ (j : Bor (List ℕ)). j.now), lt)) inv

pub all_read_refs : (t : FieldTable) (items : List (Bor (List ℕ))) (place n a : ℕ) (pk : Packet) (whole : Result Packet PacketError) → n ≤ place → length items ≤ a
    → read_items t (filter (is_shown t false) (range_with_len place (n - place))) (drop a (map (λ j. j.now) items)) a pk ≡ whole
    → Ok pk ≡ whole
all_read_refs t items place n a pk whole le past inv =
    all_read t (map (λ j. j.now) items) place n a pk whole le (omega (arith, length-map items (λ (j : Bor (List ℕ)). j.now), past)) inv

-- an item with a value
pub item_gives : (t : FieldTable) (f n m v : ℕ) (items : List (Bor (List ℕ))) (i : Bor (List ℕ)) (pk qk : Packet) → is_tag t f ≡ false
    → n < length items → i ≡ get_or items n i → Some v ≡ value_in t f i.now → m ≡ n + 1 → qk ≡ slice_set pk f v → (fs : List ℕ)
    → read_items t (filter (is_shown t false) (f ∷ fs)) (drop n (map (λ j. j.now) items)) n pk
    ≡ read_items t (filter (is_shown t false) fs) (drop m (map (λ j. j.now) items)) m qk
item_gives t f n m v items i pk qk plain lt at gives count next fs =
    item_there t f n (map (λ j. j.now) items) i.now pk plain (next_item items n i lt at) fs
    ∙ ap (λ o. with_value o (n + 1) (λ w. read_items t (filter (is_shown t false) fs) (drop (n + 1) (map (λ j. j.now) items)) (n + 1) (slice_set pk f w))) (sym gives)
    ∙ (λ k. read_items t (filter (is_shown t false) fs) (drop (sym count k) (map (λ j. j.now) items)) (sym count k) (sym next k))

-- an item without one
pub item_fails : (t : FieldTable) (f n : ℕ) (items : List (Bor (List ℕ))) (i : Bor (List ℕ)) (pk : Packet) → is_tag t f ≡ false
    → n < length items → i ≡ get_or items n i → None ≡ value_in t f i.now → (fs : List ℕ)
    → read_items t (filter (is_shown t false) (f ∷ fs)) (drop n (map (λ j. j.now) items)) n pk ≡ Err (BadPacket (n + 1))
item_fails t f n items i pk plain lt at gives fs =
    item_there t f n (map (λ j. j.now) items) i.now pk plain (next_item items n i lt at) fs
    ∙ ap (λ o. with_value o (n + 1) (λ w. read_items t (filter (is_shown t false) fs) (drop (n + 1) (map (λ j. j.now) items)) (n + 1) (slice_set pk f w))) (sym gives)
