-- What is answered of a virtual policy's name, over the bytes of a text, is one.
use Rattle.std.proofs.Common.{◌≡◌, ℕ, ◌⊎◌, inl, inr, List, sym, ap, subst, ◌∙◌}
use Rattle.std.specs.Prelude.{AllPairs}
use Rattle.std.proofs.lemmas.List.Elements.{All-weaker}
use Rattle.nk_grammar.specs.Fields.{DeclaresFields, IsFieldOfText}
use Rattle.nk_grammar.specs.File.{Declaration, IsWritten, field}
use Rattle.nk_policy.specs.Policy.{Policy}
use Rattle.nk_names.specs.declared.Program.{Program}
use Rattle.nk_names.specs.Accepted.{IsStartPacket}
use Rattle.nk_names.specs.ProgramOf.{DeclaredProgram, program_by}
use Rattle.nk_names.specs.ProgramValue.{VirtualLink, HaveOneSource}
use Rattle.nk_names.proofs.Alike.{fields_alike, topo_alike}
use Rattle.nk_names.proofs.Going.{program_has_lets}
use Rattle.nk_tabtext.specs.Text.{table_bytes}
use Rattle.nk_compile.specs.declared.refusal.Refusal.{Refusal}
use Rattle.nk_compile.specs.Refusals.{IsReason}
use Rattle.nk_compile.specs.WholeTable.{IsTableOf}
use Rattle.nk_compile.proofs.Reasons.{no_reason, one_reason}
use Rattle.nk_compile.proofs.ReasonByName.{alike as over_the_same}
use Rattle.nk_virtual.proofs.OneAnswer.{one_physical}
use Rattle.nk_virtual.proofs.OneAnswer as unphysical
use Rattle.nk_uniqueness.specs.Texts.{TextsHavePackets}
use Rattle.nk_uniqueness.proofs.OneTable.{one_table}
use Rattle.nk_compile_commands.specs.Messages.{refusal_line}
use Rattle.nk_virtual_command.specs.Messages.{unphysical_line}
use Rattle.nk_reply.specs.Outcome.{Outcome, done}
use Rattle.nk_input.specs.ProgramText.{Declares, HasFault}
use Rattle.nk_virtual_command.specs.Virtualizing.{IsVirtualPrinted, LacksPhysical, IsPhysicalRefusal, IsVirtualizeAnswer}
use Rattle.nk_input.proofs.OneText.{no_fault, one_fault}
use Rattle.nk_one_answer.proofs.Named.{Declared, alike, packets_of}
use Rattle.nk_one_answer.proofs.Outcomes.{AreApart, IsKind, one_kind}

-- a declared field is written so
written : (d : Declaration) → IsFieldOfText d → IsWritten d
written (field w n) h = h.1
written d h = tt

-- no two virtual links of a text begin at one port
abbrev BeginApart : List VirtualLink → Type 0
BeginApart links = AllPairs (λ k l. ¬ (HaveOneSource k l)) links

begin_apart : DeclaresFields → (bytes : List ℕ) (s : DeclaredProgram) → Declares bytes s → (program : Program) → program_by program ≡ s → BeginApart program.virtuals
begin_apart fields bytes s d program says =
    subst (λ (t : DeclaredProgram). BeginApart t.virtuals) (sym says)
    (program_has_lets d.declarations s (All-weaker IsFieldOfText IsWritten written d.declarations (fields bytes d.tokens d.declarations d.cut d.read)) d.means).virtuals.one_from

module _ (fields_of : DeclaresFields) (packets : TextsHavePackets) (name bytes : List ℕ) where
  abbrev Made : List ℕ → Type 0
  Made = Declared bytes (λ said text. IsVirtualPrinted said name text)

  abbrev Kept : List ℕ → Type 0
  Kept = Declared bytes (λ said text. LacksPhysical said name text ⊎ IsPhysicalRefusal said name text)

  abbrev Nothing : List ℕ → Type 0
  Nothing = Declared bytes (λ said text. ⊥)

  module _ (s t : DeclaredProgram) (d : Declares bytes s) (e : Declares bytes t) (x y : List ℕ) where
    both_made : IsVirtualPrinted s name x → IsVirtualPrinted t name y → x ≡ y
    both_made m n =
        let same = alike bytes s t d e m.program n.program m.says n.says in
        let policy : m.policy ≡ n.policy = one_physical m.program n.program same name m.policy n.policy m.physical n.physical in
        let tables : m.tables ≡ n.tables =
        one_table m.program.fields m.program.topo (IsStartPacket m.program.fields m.program.topo) m.policy m.tables n.tables
        (packets_of packets bytes s d m.program m.says) m.compiled.1
        (over_the_same (λ f o p. IsTableOf f o (IsStartPacket f o) p n.tables) n.program.fields m.program.fields n.program.topo m.program.topo n.policy m.policy
        (sym (fields_alike m.program n.program same)) (sym (topo_alike m.program n.program same)) (sym policy) n.compiled.1) in
        m.printed ∙ ap table_bytes tables ∙ sym n.printed

    both_lack : LacksPhysical s name x → LacksPhysical t name y → x ≡ y
    both_lack m n =
        let same = alike bytes s t d e m.program n.program m.says n.says in
        let reason : m.reason ≡ n.reason =
        unphysical.one_reason m.program n.program same name (begin_apart fields_of bytes s d m.program m.says) m.reason n.reason m.refused n.refused in
        m.told
        ∙ ap (λ f. unphysical_line f m.reason) (fields_alike m.program n.program same)
        ∙ ap (unphysical_line n.program.fields) reason
        ∙ sym n.told

    -- the reason to refuse another program's physical policy is one against this one's
    moved : (program other : Program) (same : program_by program ≡ program_by other) (p q : Policy) (r : Refusal) → p ≡ q
        → IsReason other.fields other.topo q r → IsReason program.fields program.topo p r
    moved program other same p q r is h =
        over_the_same (λ f u z. IsReason f u z r) other.fields program.fields other.topo program.topo q p
        (sym (fields_alike program other same)) (sym (topo_alike program other same)) (sym is) h

    both_refused : IsPhysicalRefusal s name x → IsPhysicalRefusal t name y → x ≡ y
    both_refused m n =
        let same = alike bytes s t d e m.program n.program m.says n.says in
        let policy : m.policy ≡ n.policy = one_physical m.program n.program same name m.policy n.policy m.physical n.physical in
        let reason : m.reason ≡ n.reason =
        one_reason m.program.fields m.program.topo m.policy m.reason n.reason m.refused (moved m.program n.program same m.policy n.policy n.reason policy n.refused) in
        m.told
        ∙ ap (λ f. refusal_line f m.reason) (fields_alike m.program n.program same)
        ∙ ap (refusal_line n.program.fields) reason
        ∙ sym n.told

    made_refused : IsVirtualPrinted s name x → IsPhysicalRefusal t name y → ⊥
    made_refused m n =
        let same = alike bytes s t d e m.program n.program m.says n.says in
        let policy : m.policy ≡ n.policy = one_physical m.program n.program same name m.policy n.policy m.physical n.physical in
        no_reason m.program.fields m.program.topo m.policy n.reason m.compiled.0.0 m.compiled.0.1
        (moved m.program n.program same m.policy n.policy n.reason policy n.refused)

    made_lacks : IsVirtualPrinted s name x → LacksPhysical t name y → ⊥
    made_lacks m n =
        unphysical.no_reason m.program n.program (alike bytes s t d e m.program n.program m.says n.says) name m.policy n.reason m.physical n.refused

    refused_lacks : IsPhysicalRefusal s name x → LacksPhysical t name y → ⊥
    refused_lacks m n =
        unphysical.no_reason m.program n.program (alike bytes s t d e m.program n.program m.says n.says) name m.policy n.reason m.physical n.refused

  one_made : (x y : List ℕ) → Made x → Made y → x ≡ y
  one_made x y h k = both_made h.0 k.0 h.1 k.1 x y h.2 k.2

  one_kept : (x y : List ℕ) → Kept x → Kept y → x ≡ y
  one_kept x y h k = by h.2 k.2
    where
      by : LacksPhysical h.0 name x ⊎ IsPhysicalRefusal h.0 name x → LacksPhysical k.0 name y ⊎ IsPhysicalRefusal k.0 name y → x ≡ y
      by (inl a) (inl b) = both_lack h.0 k.0 h.1 k.1 x y a b
      by (inl a) (inr b) = absurd (refused_lacks k.0 h.0 k.1 h.1 y x b a)
      by (inr a) (inl b) = absurd (refused_lacks h.0 k.0 h.1 k.1 x y a b)
      by (inr a) (inr b) = both_refused h.0 k.0 h.1 k.1 x y a b

  made_kept : (x y : List ℕ) → Made x → Kept y → ⊥
  made_kept x y h k = by k.2
    where
      by : LacksPhysical k.0 name y ⊎ IsPhysicalRefusal k.0 name y → ⊥
      by (inl b) = made_lacks h.0 k.0 h.1 k.1 x y h.2 b
      by (inr b) = made_refused h.0 k.0 h.1 k.1 x y h.2 b

  virtual_apart : AreApart (HasFault bytes) Made Nothing Kept
  virtual_apart = record {
    one_fault = one_fault bytes;
    one_held = one_made;
    one_other = λ x y h k. absurd h.2;
    one_lacking = one_kept;
    held_fault = λ x y h k. no_fault bytes h.0 y h.1 k;
    other_fault = λ x y h k. h.2;
    lacking_fault = λ x y h k. no_fault bytes h.0 y h.1 k;
    held_other = λ x y h k. k.2;
    held_lacking = made_kept;
    other_lacking = λ x y h k. h.2;
  }

  virtual_kind : (o : Outcome) → IsVirtualizeAnswer name bytes o → IsKind (HasFault bytes) Made Nothing Kept o
  virtual_kind (done t) h = h
  virtual_kind o h = h

  pub one_virtualizing : (o p : Outcome) → IsVirtualizeAnswer name bytes o → IsVirtualizeAnswer name bytes p → o ≡ p
  one_virtualizing o p h k = one_kind (HasFault bytes) Made Nothing Kept virtual_apart o p (virtual_kind o h) (virtual_kind p k)
