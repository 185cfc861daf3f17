-- Field tables: one more field, and the index of a name.
use Rattle.std.proofs.Common.{◌≡◌, ◌≢◌, ℕ, suc, ◌+◌, ◌<◌, ◌≤◌, inl, inr, Bool, true, false, not, cond, List, [], ◌∷◌, ◌++◌, length, take, refl, sym, ap, ◌∙◌, arith, get_or, Option, None, Some, length-append}
use Rattle.std.specs.Prelude.{map, position, IsNone, AllPairs, nat_lt}
use Rattle.std.specs.Str.{bytes_eq}
use Rattle.std.specs.List.{prefix_len, position_or_len}
use Rattle.std.proofs.lemmas.List.{take-append-le, length-take, get_or_append_left, get_or_at}
use Rattle.std.proofs.lemmas.List.Sums.{prefix_len_passes}
use Rattle.std.proofs.lemmas.Slice.Eq.{bytes_eq-Decides}
use Rattle.std.proofs.lemmas.Bool.Decides.{nat_tests, leb_tells}
use Rattle.nk_field.specs.Packet.{FieldTable, IsFieldTable, field_named, with_field}

-- the table of these parts
abbrev pub table : List (List ℕ) → List ℕ → Option ℕ → FieldTable
table names maxima tag = record { names = names; maxima = maxima; tag = tag }

-- how many images pass from the front on is how many elements do whose images pass
prefix_len-map : {X Y : Type 0} (f : X → Y) (p : Y → Bool) (xs : List X) →
    prefix_len p (map f xs) ≡ prefix_len (λ x. p (f x)) xs
prefix_len-map f p [] = refl
prefix_len-map f p (x ∷ xs) = ap (λ n. cond (p (f x)) (1 + n) 0) (prefix_len-map f p xs)

-- as many images as elements
map_length : {X Y : Type 0} (f : X → Y) (xs : List X) → length (map f xs) ≡ length xs
map_length f [] = refl
map_length f (x ∷ xs) = ap suc (map_length f xs)

-- the index of the first image that passes
pub position-map : {X Y : Type 0} (f : X → Y) (p : Y → Bool) (xs : List X) →
    position p (map f xs) ≡ position (λ x. p (f x)) xs
position-map f p xs = rw (prefix_len-map f (λ y. not (p y)) xs, map_length f xs) refl

-- where a test gives no index, it failed
none_is : (b : Bool) (n : ℕ) → IsNone (cond b (Some n) None) → b ≡ false
none_is true n h = cc
none_is false n h = refl

-- what isn't found is counted past the last element
pub not_found : {X : Type 0} (p : X → Bool) (xs : List X) → IsNone (position p xs) →
    length xs ≤ position_or_len p xs
not_found p xs none =
    let e : nat_lt (position_or_len p xs) (length xs) ≡ false = none_is _ _ none in
    grind (arith, nat_tests)

-- what passes a test's negation fails the test
passes_not : (b : Bool) → not b ≡ true → b ≡ false
passes_not true h = cc
passes_not false h = refl

-- each element fails a test that finds nothing
pub fails_each : {X : Type 0} (p : X → Bool) (xs : List X) → IsNone (position p xs) →
    (k : ℕ) (d : X) → k < length xs →
    p (get_or xs k d) ≡ false
fails_each p xs none k d lt =
    let within : k < position_or_len p xs = omega (arith, not_found p xs none) in
    passes_not (p (get_or xs k d)) (prefix_len_passes (λ x. not (p x)) xs k d within)

-- the names with a new one after them are still distinct
pub distinct_with : (names : List (List ℕ)) (name : List ℕ) → AllPairs (λ a b. a ≢ b) names →
    IsNone (position (bytes_eq name) names) → AllPairs (λ a b. a ≢ b) (names ++ name ∷ [])
distinct_with names name apart none i j d less within =
    let bound : j < length names + 1 = omega (arith, within, length-append names (name ∷ [])) in
    let front : i < length names = omega arith in
    let left : get_or (names ++ name ∷ []) i d ≡ get_or names i d =
    get_or_append_left names (name ∷ []) d i front in
    elim (leb_tells (suc j) (length names)) [
      | inl there ↦
          let right : get_or (names ++ name ∷ []) j d ≡ get_or names j d =
          get_or_append_left names (name ∷ []) d j (omega (arith, there.1)) in
          λ same. apart i j d less (omega (arith, there.1)) (sym left ∙ same ∙ right)
      | inr last ↦
          let place : j ≡ length names = omega (arith, last.1) in
          let right : get_or (names ++ name ∷ []) j d ≡ name =
          ap (λ k. get_or (names ++ name ∷ []) k d) place ∙ get_or_at names name [] d (length names) refl in
          let differs : bytes_eq name (get_or names i d) ≡ false =
          fails_each (bytes_eq name) names none i d front in
          λ same.
          let equal : name ≡ get_or names i d = sym right ∙ sym same ∙ left in
          let holds : bytes_eq name (get_or names i d) ≡ true =
          (bytes_eq-Decides name (get_or names i d)).1 equal in
          cc
    ]

-- a table with room is one with one more field too, under a name that no field has
pub with_field_is : (t : FieldTable) (name : List ℕ) (max : ℕ) → IsFieldTable t →
    IsNone (field_named t name) → length t.maxima < 18 → IsFieldTable (with_field t name max)
with_field_is t name max is none room =
    let more_names : length (t.names ++ name ∷ []) ≡ length t.names + 1 =
    length-append t.names (name ∷ []) in
    let more_maxima : length (t.maxima ++ max ∷ []) ≡ length t.maxima + 1 =
    length-append t.maxima (max ∷ []) in
    let two : length (take 2 t.maxima) ≡ 2 = ap length is.built_in_maxima in
    let some_maxima : 2 ≤ length t.maxima = omega (arith, sym (length-take 2 t.maxima) ∙ two) in
    let some_names : 2 ≤ length t.names = omega (arith, is.named) in
    record {
      few = omega (arith, room);
      named = omega (arith, is.named);
      built_in_names = take-append-le 2 t.names (name ∷ []) some_names ∙ is.built_in_names;
      built_in_maxima = take-append-le 2 t.maxima (max ∷ []) some_maxima ∙ is.built_in_maxima;
      distinct = distinct_with t.names name is.distinct none;
      tag_past_port = λ f e. ((is.tag_past_port f e).0, omega (arith, (is.tag_past_port f e).1));
    }

-- where a name is found among the elements whose names are the table's
pub place_is : {X : Type 0} (f : X → List ℕ) (xs ys : List X) (name : List ℕ) (t : FieldTable) →
    xs ≡ ys → map f ys ≡ t.names →
    position (λ x. bytes_eq name (f x)) xs ≡ field_named t name
place_is f xs ys name t same names =
    ap (λ zs. position (λ x. bytes_eq name (f x)) zs) same ∙ sym (position-map f (bytes_eq name) ys)
    ∙ ap (λ ns. position (bytes_eq name) ns) names

-- a table is given by its parts
pub same_table : (a b : List (List ℕ)) (c d : List ℕ) (tag : Option ℕ) → a ≡ b → c ≡ d →
    table a c tag ≡ table b d tag
same_table a b c d tag p q = ap (λ x. table x c tag) p ∙ ap (λ y. table b y tag) q
