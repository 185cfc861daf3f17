-- What is printed of classes that are told apart is a comment line, and the tables in front of such lines are read back.
use Rattle.std.proofs.Common.{◌≡◌, ℕ, ◌+◌, ◌<◌, ◌≤◌, ◌^◌, ⊎_elim, Some, List, [], ◌∷◌, ◌++◌, refl, sym, ap, subst, ◌∙◌, arith, codes, decimal}
use Rattle.std.specs.Prelude.{All, slice_index, true}
use Rattle.std.proofs.lemmas.List.Elements.{All-nil, All-cons}
use Rattle.nk_field.specs.declared.packet.Packet.{Packet}
use Rattle.nk_field.specs.Packet.{FieldTable, IsPacket}
use Rattle.nk_field.specs.Texts.{history_bytes, packet_bytes}
use Rattle.nk_field.proofs.Ascending.{all_from_members, members_from_all}
use Rattle.nk_policy.specs.Policy.{Policy}
use Rattle.nk_policy.specs.After.{after}
use Rattle.nk_policy.specs.Distinct.{HasDistinct}
use Rattle.nk_policy.specs.Meaning.{Gives, Runs}
use Rattle.nk_policy.specs.Ranges.{IsInRange}
use Rattle.nk_policy.proofs.InRange.{ways_keep, records_keep, after_in_range}
use Rattle.nk_policy.proofs.LabelSteps.{gives_is_runs, rest_gives_from}
use Rattle.nk_policy.proofs.Numbering.{numbered_distinct}
use Rattle.nk_policy.proofs.Parity.{no_records}
use Rattle.nk_names.specs.declared.Program.{Program}
use Rattle.nk_names.specs.Accepted.{most_tags}
use Rattle.nk_names.specs.ProgramOf.{program_by}
use Rattle.nk_names.specs.ProgramValue.{IsProgram}
use Rattle.nk_names.specs.ReadBack.{IsWritable}
use Rattle.nk_names.proofs.Named.{let_named}
use Rattle.nk_tabtext.specs.ReadBack.{ReadsPrintedTables}
use Rattle.nk_tabtext.specs.Values.{tables_of}
use Rattle.nk_compact.specs.declared.compact.DistinguishingHistory.{DistinguishingHistory}
use Rattle.nk_compact.specs.declared.compact.Compact.{Compact}
use Rattle.nk_compact.specs.Compacted.{IsFirstSet, IsDistinguishingHistory, IsCompacted}
use Rattle.nk_compact.proofs.Merging.{index_get}
use Rattle.nk_compact_command.specs.CommentLines.{IsCommentLine}
use Rattle.nk_compact_command.specs.Compacting.{distinguishing_words, distinguishing_line, compact_bytes, IsCompactPrinted}
use Rattle.nk_input.specs.Declarable.{CanBeDeclared}
use Rattle.nk_compact_command.specs.TextTables.{CompactsPrintable}
use Rattle.nk_compact_command.proofs.Comments.{comments_change_nothing}
use Rattle.nk_compact_command.proofs.PlainLines.{IsPlain, most, plain_after, plain_number, packet_plain, history_plain}

-- ---- what is left of a policy keeps packets in range

module _ (fields : FieldTable) (p : Policy) (distinct : HasDistinct p) (range : IsInRange p fields) where
  gives_in_range : (w : List Packet) (k : ℕ) (pk z : Packet) → IsPacket fields pk → Gives (after p k) pk w z → All (IsPacket fields) w × IsPacket fields z
  gives_in_range [] k pk z ok g =
      let v = (gives_is_runs (after p k) pk [] z).0 g in
      let run = subst (λ u. Runs (after p k) pk u z) (no_records v.0 v.1) v.2 in
      (All-nil (IsPacket fields), ways_keep fields (after p k) (after_in_range fields p k range) pk [] z run ok)
  gives_in_range (y ∷ w) k pk z ok g =
      let h = (rest_gives_from p distinct k pk y w z).0 g in
      let first = records_keep fields (after p k) (after_in_range fields p k range) pk [] y h.0 h.1 ok in
      let rest = gives_in_range w h.0 y z first h.2 in
      (All-cons (IsPacket fields) y w first rest.0, rest.1)

-- ---- the line

module _ (fields : FieldTable) (writable : IsWritable fields) (p : Policy) (distinct : HasDistinct p) (range : IsInRange p fields) (tags : List (List ℕ)) (classes : List ℕ) (few : (i : ℕ) → slice_index classes i ≤ most_tags fields fields.tag) (small : most_tags fields fields.tag < 2 ^ 64) where
  number_small : (c : ℕ) (s : List ℕ) → IsFirstSet tags classes c s → c < 2 ^ 64
  number_small c s f =
      let le : c ≤ most_tags fields fields.tag = subst (λ n. n ≤ most_tags fields fields.tag) (index_get classes f.0 c f.1.0) (few f.0) in
      omega (arith, le, small)

  words_plain : (a : DistinguishingHistory) → IsDistinguishingHistory fields p tags classes a → IsPlain (distinguishing_words fields a)
  words_plain a h =
      let one = number_small a.first h.s h.of_first in
      let two = number_small a.second h.t h.of_second in
      let alone : a.alone < 2 ^ 64 =
      ⊎_elim (λ l. subst (λ n. n < 2 ^ 64) (sym l.0) one) (λ r. subst (λ n. n < 2 ^ 64) (sym r.0) two) h.least in
      let start : IsPacket fields a.start = ⊎_elim (λ l. l.1.0.0) (λ r. r.1.0.0) h.least in
      let gives : All (IsPacket fields) a.history.records × IsPacket fields a.history.last =
      ⊎_elim
      (λ l. let g = l.1.0.1 in gives_in_range fields p distinct range a.history.records (g.0 + 1) a.start a.history.last start g.2)
      (λ r. let g = r.1.0.1 in gives_in_range fields p distinct range a.history.records (g.0 + 1) a.start a.history.last start g.2)
      h.least in
      let numbers : IsPlain (codes " apart " ++ decimal a.first ++ codes " " ++ decimal a.second ++ codes " : " ++ decimal a.alone ++ codes " alone : start ") =
      plain_after (codes " apart " ++ decimal a.first ++ codes " " ++ decimal a.second ++ codes " : " ++ decimal a.alone) (codes " alone : start ")
      (plain_after (codes " apart " ++ decimal a.first ++ codes " " ++ decimal a.second ++ codes " : ") (decimal a.alone)
      (plain_after (codes " apart " ++ decimal a.first ++ codes " " ++ decimal a.second) (codes " : ")
      (plain_after (codes " apart " ++ decimal a.first ++ codes " ") (decimal a.second)
      (plain_after (codes " apart " ++ decimal a.first) (codes " ")
      (plain_after (codes " apart ") (decimal a.first) refl (plain_number a.first one)) refl)
      (plain_number a.second two)) refl)
      (plain_number a.alone alone)) refl in
      let head = codes " apart " ++ decimal a.first ++ codes " " ++ decimal a.second ++ codes " : " ++ decimal a.alone ++ codes " alone : start " in
      plain_after (head ++ packet_bytes fields true a.start ++ codes " : history ") (history_bytes fields true a.history)
      (plain_after (head ++ packet_bytes fields true a.start) (codes " : history ")
      (plain_after head (packet_bytes fields true a.start) numbers (packet_plain fields writable.names writable.maxima true a.start start)) refl)
      (history_plain fields writable.names writable.maxima true a.history gives.0 gives.1)

  is_comment : (a : DistinguishingHistory) → IsDistinguishingHistory fields p tags classes a → IsCommentLine (distinguishing_line fields a)
  is_comment a h = record { body = distinguishing_words fields a; plain = words_plain a h; is = refl }

  are_comments : (aparts : List DistinguishingHistory) → All (IsDistinguishingHistory fields p tags classes) aparts → All (λ a. IsCommentLine (distinguishing_line fields a)) aparts
  are_comments aparts h =
      all_from_members (λ (a : DistinguishingHistory). IsCommentLine (distinguishing_line fields a)) aparts (λ a i. is_comment a (members_from_all (IsDistinguishingHistory fields p tags classes) aparts h a i))

-- ---- what is printed

most_small : (fields : FieldTable) → IsWritable fields → (tag : ℕ) → most_tags fields (Some tag) < 2 ^ 64
most_small fields writable tag = let le = most fields.maxima tag writable.maxima in omega (arith, le)

-- what is printed for a program whose fields a text can declare is read back
pub is_compact_printed :
    CompactsPrintable → ReadsPrintedTables → (program : Program) (name text : List ℕ) (c : Compact)
    → IsProgram program.fields program.topo program.lets → CanBeDeclared (program_by program)
    → IsCompacted program name c → text ≡ compact_bytes program.fields c → IsCompactPrinted (program_by program) name text
is_compact_printed printable reads program name text c ok declared made printed =
    let fields = program.fields in
    let of = made.2 in
    let lets = let_named program name made.0 ok made.1 in
    let small = subst (λ o. most_tags fields o < 2 ^ 64) (sym of.merged.tag_declared) (most_small fields declared.fields of.merged.tag) in
    let comments = are_comments fields declared.fields made.0 (numbered_distinct made.0 1 lets.numbered) lets.in_range of.tags of.classes of.few small c.aparts of.apart.each in
    record {
      program = program;
      says = refl;
      compact = c;
      compacted = made;
      printed = printed;
      read = λ few.
          ap tables_of printed
          ∙ comments_change_nothing (distinguishing_line fields) c.aparts comments c.tables
          ∙ (reads c.tables (printable program name c ok declared.fields declared.topology made few)).read;
    }
