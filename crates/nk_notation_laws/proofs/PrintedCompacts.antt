-- The text of merged tables has plain numbers, and after it comment lines.
use Rattle.std.proofs.Common.{◌==◌, ℕ, true, List, [], ◌∷◌, ◌++◌, codes, decimal, refl, sym, subst, append_assoc}
use Rattle.std.proofs.lemmas.List.Elements.{All-nil, All-cons, All-head, All-tail}
use Rattle.std.specs.Prelude.{All}
use Rattle.std.specs.List.{flat_map, list_all}
use Rattle.nk_compact.specs.declared.compact.DistinguishingHistory.{DistinguishingHistory}
use Rattle.nk_compact_command.specs.Compacting.{distinguishing_line, distinguishing_words}
use Rattle.nk_compact_command.proofs.PlainLines.{IsPlain, history_plain, packet_plain, plain_after, plain_number}
use Rattle.nk_declare.specs.Kept.{IsWritable}
use Rattle.nk_field.specs.Packet.{FieldTable, IsPacket}
use Rattle.nk_field.specs.Texts.{history_bytes, packet_bytes}
use Rattle.nk_lex.specs.Classes.{not_line_feed}
use Rattle.nk_lex.proofs.Digits.{both_pass}
use Rattle.nk_tabtext.specs.Text.{table_bytes}
use Rattle.nk_notation.proofs.WrittenForms.{un_not}
use Rattle.nk_notation_laws.specs.Laws.{CompactsAreLeft, IsDistinguishingOver}
use Rattle.nk_notation_laws.proofs.PlainTexts.{Bare, Left, bare_byte}
use Rattle.nk_notation_laws.proofs.PrintedHistories.{whole_left}
use Rattle.nk_notation_laws.proofs.PrintedTables.{Free, free_each, free_free, tables_free}
use Rattle.nk_notation_laws.proofs.ReadsWords.{Reads, reads_hash, reads_line, reads_note}

-- a comment, to the end of its line
note_left : (w rest : List ℕ) → IsPlain w → Left rest → Reads true Bare (w ++ 10 ∷ rest) (w ++ 10 ∷ rest)
note_left [] rest h next = reads_line Bare Bare 10 rest rest refl (λ r e. bare_byte r 10 e) next
note_left (b ∷ w) rest h next =
    let parts = both_pass (not_line_feed b) (list_all not_line_feed w) h in
    reads_note Bare b (w ++ 10 ∷ rest) (w ++ 10 ∷ rest) (un_not (b == 10) parts.0) (note_left w rest parts.1 next)

comment_free : (w : List ℕ) → IsPlain w → Free (codes "#" ++ w ++ codes "\n")
comment_free w h = λ rest next.
    subst (λ v. Left (35 ∷ v)) (sym (append_assoc w (10 ∷ []) rest)) (reads_hash Bare 35 (w ++ 10 ∷ rest) (w ++ 10 ∷ rest) refl (note_left w rest h next))

-- the last of a list, and those before it
before_last : {A : Type 0} (P : A → Type 0) (xs : List A) (y : A) → All P (xs ++ y ∷ []) → All P xs × P y
before_last P [] y h = (All-nil P, All-head P y [] h)
before_last P (x ∷ xs) y h =
    let rest = before_last P xs y (All-tail P x (xs ++ y ∷ []) h) in
    (All-cons P x xs (All-head P x (xs ++ y ∷ []) h) rest.0, rest.1)

words_plain : (fields : FieldTable) → IsWritable fields → (a : DistinguishingHistory) → IsDistinguishingOver fields a → IsPlain (distinguishing_words fields a)
words_plain fields w a h =
    let packets = before_last (IsPacket fields) a.history.records a.history.last h.history in
    let one = codes " apart " ++ decimal a.first in
    let two = one ++ codes " " ++ decimal a.second in
    let three = two ++ codes " : " ++ decimal a.alone in
    let four = three ++ codes " alone : start " ++ packet_bytes fields true a.start in
    plain_after (four ++ codes " : history ") (history_bytes fields true a.history)
    (plain_after four (codes " : history ")
    (plain_after (three ++ codes " alone : start ") (packet_bytes fields true a.start)
    (plain_after three (codes " alone : start ")
    (plain_after (two ++ codes " : ") (decimal a.alone)
    (plain_after two (codes " : ")
    (plain_after (one ++ codes " ") (decimal a.second)
    (plain_after one (codes " ")
    (plain_after (codes " apart ") (decimal a.first) refl (plain_number a.first h.first)) refl)
    (plain_number a.second h.second)) refl)
    (plain_number a.alone h.alone)) refl)
    (packet_plain fields w.names w.maxima true a.start h.start)) refl)
    (history_plain fields w.names w.maxima true a.history packets.0 packets.1)

pub compacts_left : CompactsAreLeft
compacts_left = λ fields w c tables aparts.
    let lines = flat_map (distinguishing_line fields) c.aparts in
    whole_left (table_bytes c.tables ++ lines)
    (free_free (table_bytes c.tables) lines (tables_free c.tables tables)
    (free_each (IsDistinguishingOver fields) (distinguishing_line fields) (λ a h. comment_free (distinguishing_words fields a) (words_plain fields w a h)) c.aparts aparts))
