-- Texts of numbers, packets and histories stand on one line.
use Rattle.std.proofs.Common.{◌≡◌, ◌∙◌, ℕ, zero, suc, ◌+◌, ◌<◌, ◌≤◌, ◌^◌, Bool, true, List, [], ◌∷◌, ◌++◌, refl, ap, arith, codes, decimal}
use Rattle.std.specs.Prelude.{◌&&◌, ◌%◌, All, slice_index, slice_index_or}
use Rattle.std.specs.List.{flat_map, join_by, list_all}
use Rattle.std.proofs.lemmas.Bool.Decides.{nat_tests}
use Rattle.std.proofs.lemmas.Fmt.{decimal_by_steps}
use Rattle.std.proofs.lemmas.List.Elements.{All-nil, All-cons, All-head, All-tail, All-append}
use Rattle.std.proofs.lemmas.List.Folds.{list_all-append}
use Rattle.nk_field.specs.declared.history.History.{History}
use Rattle.nk_field.specs.declared.packet.Packet.{Packet}
use Rattle.nk_field.specs.Packet.{FieldTable, IsPacket}
use Rattle.nk_field.specs.Texts.{name_of, item_text, shown, packet_bytes, history_bytes}
use Rattle.nk_lex.specs.Classes.{is_name_byte, is_name_start, not_line_feed}
use Rattle.nk_lex.specs.Lex.{largest}
use Rattle.nk_lex.specs.Spelling.{IsName, IsWord}
use Rattle.nk_lex.proofs.Digits.{both_pass}

-- the bytes have no line feed
abbrev pub IsPlain : List ℕ → Type 0
IsPlain text = list_all not_line_feed text ≡ true

pub plain_after : (x y : List ℕ) → IsPlain x → IsPlain y → IsPlain (x ++ y)
plain_after x y h k = list_all-append not_line_feed x y ∙ ap (λ b. b && list_all not_line_feed y) h ∙ ap (λ b. true && b) k

plain_all : {A : Type 0} (f : A → List ℕ) (xs : List A) → ((x : A) → IsPlain (f x)) → IsPlain (flat_map f xs)
plain_all f [] h = refl
plain_all f (x ∷ xs) h = plain_after (f x) (flat_map f xs) (h x) (plain_all f xs h)

plain_each : {A : Type 0} (f : A → List ℕ) (xs : List A) → All (λ x. IsPlain (f x)) xs → IsPlain (flat_map f xs)
plain_each f [] h = refl
plain_each {A} f (x ∷ xs) h =
    plain_after (f x) (flat_map f xs) (All-head (λ (y : A). IsPlain (f y)) x xs h) (plain_each f xs (All-tail (λ (y : A). IsPlain (f y)) x xs h))

-- ---- numbers

plain_digit : (k : ℕ) → k < 10 → not_line_feed (48 + k) ≡ true
plain_digit k lt = grind (arith, nat_tests)

pub plain_number : (n : ℕ) → n < 2 ^ 64 → IsPlain (decimal n)
plain_number n small =
    decimal_by_steps (λ m ds. IsPlain ds)
    (λ m lt. ap (λ b. b && true) (plain_digit m lt))
    (λ m ds le h. plain_after ds ((48 + m % 10) ∷ []) h (ap (λ b. b && true) (plain_digit (m % 10) (omega arith))))
    n small

-- ---- names

start_plain : (b : ℕ) → is_name_start b ≡ true → not_line_feed b ≡ true
start_plain b h = grind (arith, nat_tests, h)

byte_plain : (b : ℕ) → is_name_byte b ≡ true → not_line_feed b ≡ true
byte_plain b h = grind (arith, nat_tests, h)

bytes_plain : (bs : List ℕ) → list_all is_name_byte bs ≡ true → IsPlain bs
bytes_plain [] h = refl
bytes_plain (b ∷ bs) h =
    let both = both_pass (is_name_byte b) (list_all is_name_byte bs) h in
    ap (λ x. x && list_all not_line_feed bs) (byte_plain b both.0) ∙ ap (λ x. true && x) (bytes_plain bs both.1)

word_plain : (w : List ℕ) → IsWord w → IsPlain w
word_plain [] h = absurd h
word_plain (b ∷ bs) h = ap (λ x. x && list_all not_line_feed bs) (start_plain b h.0) ∙ ap (λ x. true && x) (bytes_plain bs h.1)

name_plain : (names : List (List ℕ)) (f : ℕ) → All IsName names → IsPlain (slice_index_or names f [])
name_plain [] f h = refl
name_plain (n ∷ names) zero h = word_plain n (All-head IsName n names h).0
name_plain (n ∷ names) (suc f) h = name_plain names f (All-tail IsName n names h)

-- ---- packets and histories

pub most : (maxima : List ℕ) (f : ℕ) → All (λ m. m ≤ largest) maxima → slice_index maxima f ≤ largest
most [] f h = omega arith
most (m ∷ maxima) zero h = All-head (λ (n : ℕ). n ≤ largest) m maxima h
most (m ∷ maxima) (suc f) h = most maxima f (All-tail (λ (n : ℕ). n ≤ largest) m maxima h)

module _ (fields : FieldTable) (names : All IsName fields.names) (maxima : All (λ m. m ≤ largest) fields.maxima) where
  item_plain : (pk : List ℕ) → IsPacket fields pk → (f : ℕ) → IsPlain (item_text fields pk f)
  item_plain pk ok f =
      let value : slice_index pk f < 2 ^ 64 = let a = ok.within f in let b = most fields.maxima f maxima in omega (arith, a, b) in
      plain_after (name_of fields f ++ codes "=") (decimal (slice_index pk f))
      (plain_after (name_of fields f) (codes "=") (name_plain fields.names f names) refl) (plain_number (slice_index pk f) value)

  items_plain : (pk : List ℕ) → IsPacket fields pk → (fs : List ℕ) → IsPlain (join_by (item_text fields pk) (codes ",") fs)
  items_plain pk ok [] = refl
  items_plain pk ok (f ∷ fs) =
      plain_after (item_text fields pk f) (flat_map (λ g. codes "," ++ item_text fields pk g) fs) (item_plain pk ok f)
      (plain_all (λ g. codes "," ++ item_text fields pk g) fs (λ g. plain_after (codes ",") (item_text fields pk g) refl (item_plain pk ok g)))

  pub packet_plain : (shows : Bool) (pk : Packet) → IsPacket fields pk → IsPlain (packet_bytes fields shows pk)
  packet_plain shows pk ok = items_plain pk ok (shown fields shows)

  packets_plain : (shows : Bool) (pks : List Packet) → All (IsPacket fields) pks → All (λ pk. IsPlain (codes " " ++ packet_bytes fields shows pk)) pks
  packets_plain shows [] h = All-nil (λ (pk : Packet). IsPlain (codes " " ++ packet_bytes fields shows pk))
  packets_plain shows (pk ∷ pks) h =
      All-cons (λ (q : Packet). IsPlain (codes " " ++ packet_bytes fields shows q)) pk pks
      (plain_after (codes " ") (packet_bytes fields shows pk) refl (packet_plain shows pk (All-head (IsPacket fields) pk pks h)))
      (packets_plain shows pks (All-tail (IsPacket fields) pk pks h))

  listed_plain : (shows : Bool) (pks : List Packet) → All (IsPacket fields) pks → IsPlain (join_by (packet_bytes fields shows) (codes " ") pks)
  listed_plain shows [] h = refl
  listed_plain shows (pk ∷ pks) h =
      plain_after (packet_bytes fields shows pk) (flat_map (λ q. codes " " ++ packet_bytes fields shows q) pks)
      (packet_plain shows pk (All-head (IsPacket fields) pk pks h))
      (plain_each (λ q. codes " " ++ packet_bytes fields shows q) pks (packets_plain shows pks (All-tail (IsPacket fields) pk pks h)))

  pub history_plain : (shows : Bool) (h : History) → All (IsPacket fields) h.records → IsPacket fields h.last → IsPlain (history_bytes fields shows h)
  history_plain shows h records last =
      listed_plain shows (h.records ++ h.last ∷ [])
      (All-append (IsPacket fields) h.records (h.last ∷ []) records (All-cons (IsPacket fields) h.last [] last (All-nil (IsPacket fields))))
