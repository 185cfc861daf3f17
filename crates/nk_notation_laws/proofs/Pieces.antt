-- Pieces of texts that `in` leaves.
use Rattle.std.proofs.Common.{◌≡◌, ◌≤◌, ◌⊎◌, inl, inr, ℕ, zero, suc, Bool, true, false, List, [], ◌∷◌, ◌++◌, decimal, refl, sym, subst, ◌∙◌, arith, append_assoc}
use Rattle.std.proofs.lemmas.List.Elements.{All-head, All-tail}
use Rattle.std.specs.Prelude.{All, bytes_eq, codes, slice_index, slice_index_or}
use Rattle.std.specs.List.{flat_map, join_by}
use Rattle.nk_lex.specs.Lex.{largest}
use Rattle.nk_lex.specs.Spelling.{IsName, IsWord}
use Rattle.nk_lex.proofs.Digits.{StopsAt}
use Rattle.nk_field.specs.declared.history.History.{History}
use Rattle.nk_field.specs.declared.packet.Packet.{Packet}
use Rattle.nk_field.specs.Packet.{FieldTable, IsPacket}
use Rattle.nk_field.specs.Texts.{history_bytes, item_text, name_of, packet_bytes, shown}
use Rattle.nk_reply.specs.Messages.{start_line, way_lines}
use Rattle.nk_notation.specs.Inward.{text_start}
use Rattle.nk_notation.specs.Lexemes.{is_run_byte}
use Rattle.nk_notation_laws.specs.Laws.{HistoriesAreLeft}
use Rattle.nk_notation_laws.proofs.PlainTexts.{Left, left_byte, left_equals, left_name, left_nothing}
use Rattle.nk_notation_laws.proofs.Printed.{no_keyword}
use Rattle.nk_notation_laws.proofs.RunsAgain.{decimal_run, decimal_still}

-- a word of a text, and a space
pub left_word : (w : List ℕ) → IsWord w → bytes_eq w (codes "field") ≡ false → (rest : List ℕ) → Left rest → Left (w ++ 32 ∷ rest)
left_word w h other rest next = left_name w (32 ∷ rest) h other refl (left_byte 32 rest refl refl next)

-- the place of a name has a name, or nothing
pub name_at : (names : List (List ℕ)) (f : ℕ) → All IsName names → (slice_index_or names f [] ≡ []) ⊎ IsName (slice_index_or names f [])
name_at [] f h = inl refl
name_at (n ∷ names) zero h = inr (All-head IsName n names h)
name_at (n ∷ names) (suc f) h = name_at names f (All-tail IsName n names h)

pub left_named : (w rest : List ℕ) → (w ≡ []) ⊎ IsName w → StopsAt is_run_byte rest → Left rest → Left (w ++ rest)
left_named w rest (inl e) stops next = subst (λ v. Left (v ++ rest)) (sym e) next
left_named w rest (inr h) stops next = left_name w rest h.0 (no_keyword w h.1) stops next

pub most : (maxima : List ℕ) (f : ℕ) → All (λ m. m ≤ largest) maxima → slice_index maxima f ≤ largest
most [] f h = omega arith
most (m ∷ maxima) zero h = All-head (λ (n : ℕ). n ≤ largest) m maxima h
most (m ∷ maxima) (suc f) h = most maxima f (All-tail (λ (n : ℕ). n ≤ largest) m maxima h)

-- packets and histories
module _ (fields : FieldTable) (names : All IsName fields.names) (maxima : All (λ m. m ≤ largest) fields.maxima) where
  item_left : (pk : List ℕ) → IsPacket fields pk → (f : ℕ) (rest : List ℕ) → StopsAt is_run_byte rest → Left rest → Left (item_text fields pk f ++ rest)
  item_left pk ok f rest stops next =
      let v = slice_index pk f in
      let name = name_of fields f in
      let le : v ≤ largest = (let a = ok.within f in let b = most fields.maxima f maxima in omega (arith, a, b)) in
      subst Left (sym (append_assoc (name ++ 61 ∷ []) (decimal v) rest ∙ append_assoc name (61 ∷ []) (decimal v ++ rest)))
      (left_named name (61 ∷ decimal v ++ rest) (name_at fields.names f names) refl (left_equals (decimal v) rest (decimal_run v le) (decimal_still v le) stops next))

  more_left : (pk : List ℕ) → IsPacket fields pk → (fs : List ℕ) (rest : List ℕ) → StopsAt is_run_byte rest → Left rest
      → StopsAt is_run_byte (flat_map (λ g. codes "," ++ item_text fields pk g) fs ++ rest) × Left (flat_map (λ g. codes "," ++ item_text fields pk g) fs ++ rest)
  more_left pk ok [] rest stops next = (stops, next)
  more_left pk ok (f ∷ fs) rest stops next =
      let others = flat_map (λ g. codes "," ++ item_text fields pk g) fs in
      let after = more_left pk ok fs rest stops next in (
        refl,
        subst (λ v. Left (44 ∷ v)) (sym (append_assoc (item_text fields pk f) others rest))
            (left_byte 44 (item_text fields pk f ++ (others ++ rest)) refl refl (item_left pk ok f (others ++ rest) after.0 after.1)),
      )

  items_left : (pk : List ℕ) → IsPacket fields pk → (fs rest : List ℕ) → StopsAt is_run_byte rest → Left rest → Left (join_by (item_text fields pk) (codes ",") fs ++ rest)
  items_left pk ok [] rest stops next = next
  items_left pk ok (f ∷ fs) rest stops next =
      let others = flat_map (λ g. codes "," ++ item_text fields pk g) fs in
      let after = more_left pk ok fs rest stops next in
      subst Left (sym (append_assoc (item_text fields pk f) others rest)) (item_left pk ok f (others ++ rest) after.0 after.1)

  pub packet_left : (shows : Bool) (pk : Packet) → IsPacket fields pk → (rest : List ℕ) → StopsAt is_run_byte rest → Left rest → Left (packet_bytes fields shows pk ++ rest)
  packet_left shows pk ok rest stops next = items_left pk ok (shown fields shows) rest stops next

  packets_left : (shows : Bool) (pks : List Packet) → All (IsPacket fields) pks → (rest : List ℕ) → StopsAt is_run_byte rest → Left rest
      → StopsAt is_run_byte (flat_map (λ q. codes " " ++ packet_bytes fields shows q) pks ++ rest) × Left (flat_map (λ q. codes " " ++ packet_bytes fields shows q) pks ++ rest)
  packets_left shows [] ok rest stops next = (stops, next)
  packets_left shows (pk ∷ pks) ok rest stops next =
      let others = flat_map (λ q. codes " " ++ packet_bytes fields shows q) pks in
      let after = packets_left shows pks (All-tail (IsPacket fields) pk pks ok) rest stops next in (
        refl,
        subst (λ v. Left (32 ∷ v)) (sym (append_assoc (packet_bytes fields shows pk) others rest))
            (left_byte 32 (packet_bytes fields shows pk ++ (others ++ rest)) refl refl (packet_left shows pk (All-head (IsPacket fields) pk pks ok) (others ++ rest) after.0 after.1)),
      )

  pub listed_left : (shows : Bool) (pks : List Packet) → All (IsPacket fields) pks → (rest : List ℕ) → StopsAt is_run_byte rest → Left rest
      → Left (join_by (packet_bytes fields shows) (codes " ") pks ++ rest)
  listed_left shows [] ok rest stops next = next
  listed_left shows (pk ∷ pks) ok rest stops next =
      let others = flat_map (λ q. codes " " ++ packet_bytes fields shows q) pks in
      let after = packets_left shows pks (All-tail (IsPacket fields) pk pks ok) rest stops next in
      subst Left (sym (append_assoc (packet_bytes fields shows pk) others rest)) (packet_left shows pk (All-head (IsPacket fields) pk pks ok) (others ++ rest) after.0 after.1)

  -- the packet that a history starts at
  pub start_left : (start : Packet) → IsPacket fields start → (rest : List ℕ) → Left rest → Left (start_line fields start ++ rest)
  start_left start ok rest next =
      let p = packet_bytes fields true start in
      subst Left (sym (append_assoc (codes "start " ++ p) (codes "\n") rest ∙ append_assoc (codes "start ") p (10 ∷ rest)))
      (left_word (codes "start") (refl, refl) refl (p ++ 10 ∷ rest) (packet_left true start ok (10 ∷ rest) refl (left_byte 10 rest refl refl next)))

  pub way_left : (start : Packet) (h : History) → IsPacket fields start → All (IsPacket fields) (h.records ++ h.last ∷ []) → Left (way_lines fields start h)
  way_left start h ok records =
      let s = start_line fields start in
      let w = history_bytes fields true h in
      subst Left (sym (append_assoc (s ++ codes "history ") w (codes "\n") ∙ append_assoc s (codes "history ") (w ++ codes "\n")))
      (start_left start ok (codes "history " ++ (w ++ codes "\n"))
      (left_word (codes "history") (refl, refl) refl (w ++ codes "\n") (listed_left true (h.records ++ h.last ∷ []) records (codes "\n") refl (left_byte 10 [] refl refl left_nothing))))

pub histories_left : HistoriesAreLeft
histories_left = λ fields names maxima start h ok records. way_left fields names maxima start h ok records text_start refl
