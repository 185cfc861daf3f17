-- What is answered of a name that is compacted, over the bytes of a text, is one.
use Rattle.std.proofs.Common.{◌≡◌, ℕ, List, sym, ap, ◌∙◌}
use Rattle.nk_names.proofs.Alike.{fields_alike}
use Rattle.nk_compact.proofs.CompactReasons.{never_refused_compact, one_compact_refusal}
use Rattle.nk_uniqueness.specs.Texts.{TextsHavePackets}
use Rattle.nk_uniqueness.proofs.OneCompact.{one_compacted}
use Rattle.nk_compact_command.specs.Compacting.{IsCompactPrinted, IsCompactRefusal, IsCompactAnswer, compact_bytes}
use Rattle.nk_compile_commands.specs.Messages.{refusal_line}
use Rattle.nk_reply.specs.Outcome.{Outcome, done}
use Rattle.nk_input.specs.ProgramText.{HasFault}
use Rattle.nk_input.proofs.OneText.{no_fault, one_fault}
use Rattle.nk_one_answer.proofs.Named.{Declared, alike, packets_of}
use Rattle.nk_one_answer.proofs.Outcomes.{AreApart, IsKind, one_kind}

module _ (packets : TextsHavePackets) (name bytes : List ℕ) where
  abbrev Made : List ℕ → Type 0
  Made = Declared bytes (λ said text. IsCompactPrinted said name text)

  abbrev Kept : List ℕ → Type 0
  Kept = Declared bytes (λ said text. IsCompactRefusal said name text)

  abbrev Nothing : List ℕ → Type 0
  Nothing = Declared bytes (λ said text. ⊥)

  one_made : (x y : List ℕ) → Made x → Made y → x ≡ y
  one_made x y h k =
      let m = h.2 in
      let n = k.2 in
      let same = alike bytes h.0 k.0 h.1 k.1 m.program n.program m.says n.says in
      let fields : m.program.fields ≡ n.program.fields = fields_alike m.program n.program same in
      let compact = one_compacted m.program n.program same name m.compact n.compact (packets_of packets bytes h.0 h.1 m.program m.says) m.compacted n.compacted in
      m.printed ∙ ap (λ f. compact_bytes f m.compact) fields ∙ ap (compact_bytes n.program.fields) compact ∙ sym n.printed

  one_kept : (x y : List ℕ) → Kept x → Kept y → x ≡ y
  one_kept x y h k =
      let m = h.2 in
      let n = k.2 in
      let same = alike bytes h.0 k.0 h.1 k.1 m.program n.program m.says n.says in
      let fields : m.program.fields ≡ n.program.fields = fields_alike m.program n.program same in
      let reason : m.reason ≡ n.reason = one_compact_refusal m.program n.program same name m.reason n.reason m.refused n.refused in
      m.told ∙ ap (λ f. refusal_line f m.reason) fields ∙ ap (refusal_line n.program.fields) reason ∙ sym n.told

  made_kept : (x y : List ℕ) → Made x → Kept y → ⊥
  made_kept x y h k =
      let m = h.2 in
      let n = k.2 in
      let of = m.compacted.2 in
      let same = alike bytes h.0 k.0 h.1 k.1 m.program n.program m.says n.says in
      never_refused_compact m.program n.program same name n.reason
      (m.compacted.0, m.compacted.1, of.compilable, (of.tags, of.classes, of.merged.in_order, of.merged.are_classes, of.few)) n.refused

  compacted_apart : AreApart (HasFault bytes) Made Nothing Kept
  compacted_apart = record {
    one_fault = one_fault bytes;
    one_held = one_made;
    one_other = λ x y h k. absurd h.2;
    one_lacking = one_kept;
    held_fault = λ x y h k. no_fault bytes h.0 y h.1 k;
    other_fault = λ x y h k. h.2;
    lacking_fault = λ x y h k. no_fault bytes h.0 y h.1 k;
    held_other = λ x y h k. k.2;
    held_lacking = made_kept;
    other_lacking = λ x y h k. h.2;
  }

  compacted_kind : (o : Outcome) → IsCompactAnswer name bytes o → IsKind (HasFault bytes) Made Nothing Kept o
  compacted_kind (done t) h = h
  compacted_kind o h = h

  pub one_compacting : (o p : Outcome) → IsCompactAnswer name bytes o → IsCompactAnswer name bytes p → o ≡ p
  one_compacting o p h k = one_kind (HasFault bytes) Made Nothing Kept compacted_apart o p (compacted_kind o h) (compacted_kind p k)
