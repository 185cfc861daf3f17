-- Of the words of `nk_impact` and the bytes of a text at most one answer is right; and it agrees with the answer of `equal`.
use Rattle.std.proofs.Common.{◌≡◌, ℕ, Bool, true, false, MatchBool, List, [], ◌∷◌, length, nat_lt, refl, sym, ap, subst, ◌∙◌}
use Rattle.std.specs.Prelude.{Option, Some, None}
use Rattle.nk_io.specs.Reading.{IsAllOf}
use Rattle.nk_field.specs.Packet.{FieldTable, IsFieldTable, IsPacket}
use Rattle.nk_policy.specs.Policy.{Policy}
use Rattle.nk_store.specs.declared.node.Out.{Out}
use Rattle.nk_store.specs.Diagram.{leaf_at}
use Rattle.nk_apply.specs.Predicates.{IsPass}
use Rattle.nk_sets.specs.Predicate.{predicate_of}
use Rattle.nk_names.specs.declared.Program.{Program}
use Rattle.nk_names.specs.ProgramOf.{DeclaredProgram, program_by}
use Rattle.nk_names.specs.ReadBack.{DeclaresWritable}
use Rattle.nk_names.proofs.Alike.{fields_alike}
use Rattle.nk_cert.specs.Equality.{IsLeastDifference}
use Rattle.nk_check.proofs.OneAlone.{no_difference}
use Rattle.nk_check.proofs.OneTree.{one_tree}
use Rattle.nk_difference.specs.Alone.{IsPredicateOfAlone}
use Rattle.nk_difference.specs.Difference.{AreTheirPredicates}
use Rattle.nk_verify_commands.specs.Comparing.{AreNamed, IsEqualAnswer, difference_lines}
use Rattle.nk_reply.specs.declared.status.Status.TheVariants.{Done, Differs, Refused}
use Rattle.nk_reply.specs.Answer.{Answer, answer_of, limit, too_long}
use Rattle.nk_reply.specs.Outcome.{Outcome, done, differs, text_refused, policy_refused}
use Rattle.nk_reply.specs.Use.{Use}
use Rattle.nk_input.specs.ProgramText.{Declares, HasFault}
use Rattle.nk_change_impact.specs.Impact.{AreBothNamed, IsImpactAnswer, LacksNamedPolicy, TellsImpact, TellsSame, impact_lines}
use Rattle.nk_change_impact.specs.Ends.{Names, IsImpactAnswerOf, IsImpactFixedBy}
use Rattle.nk_change_impact.specs.Succeeding.{StandsFor}
use Rattle.nk_change_impact.proofs.Standing.{one_standing, stands}
use Rattle.nk_change_impact.proofs.Texts.{policies_alike, same_program}
use Rattle.nk_input.proofs.OneText.{no_fault, one_fault}
use Rattle.nk_one_answer.specs.FirstKept.{ShowsFirstKept}
use Rattle.nk_one_answer.proofs.FirstKept.{first_kept, side_keeps}
use Rattle.nk_one_answer.proofs.Named.{Declared, table_of}
use Rattle.nk_one_answer.proofs.Outcomes.{AreApart, IsKind, one_kind}

-- ---- the printed predicate of a set of packets

-- leaves of sets that are both empty or both not are the same
same_pass : (a b : List Out) → IsPass a → IsPass b → ((a ≡ [] → ⊥) → b ≡ [] → ⊥) → ((b ≡ [] → ⊥) → a ≡ [] → ⊥) → a ≡ b
same_pass [] [] h k f g = refl
same_pass [] (o ∷ os) h k f g = absurd (g (λ e. cc) refl)
same_pass (o ∷ os) [] h k f g = absurd (f (λ e. cc) refl)
same_pass (o ∷ os) (z ∷ zs) h k f g = ap (λ w. w ∷ os) (h.0 ∙ sym k.0) ∙ ap (λ w. z ∷ w) (h.1 ∙ sym k.1)

one_predicate : (fields : FieldTable) (p q a b : Policy) → IsFieldTable fields
    → IsPredicateOfAlone fields p q a → IsPredicateOfAlone fields p q b → a ≡ b
one_predicate fields p q a b table h k =
    let d =
    one_tree fields.maxima table.few [] h.tree k.tree h.tree_is.reduced k.tree_is.reduced (λ x ok.
    let good : IsPacket fields x = record { places = ok.0; within = ok.1 } in
    let m = h.tree_is.packets x good in
    let n = k.tree_is.packets x good in
    same_pass (leaf_at h.tree [] x) (leaf_at k.tree [] x) (h.tree_is.passes x good) (k.tree_is.passes x good) (λ s. n.1 (m.0 s)) (λ s. m.1 (n.0 s))) in
    h.printed ∙ ap predicate_of d ∙ sym k.printed

-- so the predicates of a difference are one pair
pub one_pair : (fields : FieldTable) (p q a b c d : Policy) → IsFieldTable fields
    → AreTheirPredicates fields p q a b → AreTheirPredicates fields p q c d → (a ≡ c) × (b ≡ d)
one_pair fields p q a b c d table h k =
    (one_predicate fields p q a c table h.left_is k.left_is, one_predicate fields q p b d table h.right_is k.right_is)

-- ---- over the bytes of a text

done_differs : Done ≡ Differs → ⊥
done_differs e = cc

done_refused : Done ≡ Refused → ⊥
done_refused e = cc

differs_refused : Differs ≡ Refused → ⊥
differs_refused e = cc

module _ (left right bytes : List ℕ) where
  abbrev SameText : List ℕ → Type 0
  SameText = Declared bytes (λ said text. TellsSame said left right text)

  abbrev OtherText : List ℕ → Type 0
  OtherText = Declared bytes (λ said text. TellsImpact said left right text)

  abbrev LackingText : List ℕ → Type 0
  LackingText = Declared bytes (λ said text. LacksNamedPolicy said left right text)

  -- two answers have one status
  one_status : (o z : Outcome) → IsImpactAnswer left right bytes o → IsImpactAnswer left right bytes z → (answer_of o).status ≡ (answer_of z).status
  one_status o z h k =
      one_standing left right bytes (answer_of o).status (answer_of z).status (stands left right bytes o h) (stands left right bytes z k)

  one_text : DeclaresWritable → (x y : List ℕ) → OtherText x → OtherText y → x ≡ y
  one_text writable x y h k =
      let m = h.2 in
      let n = k.2 in
      let fields = m.named.program.fields in
      let there : AreTheirPredicates fields m.named.left_policy m.named.right_policy n.left_predicate n.right_predicate =
      policies_alike bytes left right k.0 h.0 k.1 h.1 n.named m.named (λ f p q. AreTheirPredicates f p q n.left_predicate n.right_predicate) n.predicates in
      let pair =
      one_pair fields m.named.left_policy m.named.right_policy m.left_predicate m.right_predicate n.left_predicate n.right_predicate
      (table_of writable bytes h.0 h.1 m.named.program m.named.says) m.predicates there in
      m.told
      ∙ ap (λ z. impact_lines fields z m.right_predicate) pair.0
      ∙ ap (λ z. impact_lines fields n.left_predicate z) pair.1
      ∙ ap (λ f. impact_lines f n.left_predicate n.right_predicate)
      (fields_alike m.named.program n.named.program (same_program bytes left right h.0 k.0 h.1 k.1 m.named n.named))
      ∙ sym n.told

  impact_apart : DeclaresWritable → AreApart (HasFault bytes) SameText OtherText LackingText
  impact_apart writable = record {
    one_fault = one_fault bytes;
    one_held = λ x y h k. h.2.told ∙ sym k.2.told;
    one_other = one_text writable;
    one_lacking = λ x y h k. h.2.told ∙ sym k.2.told;
    held_fault = λ x y h k. no_fault bytes h.0 y h.1 k;
    other_fault = λ x y h k. no_fault bytes h.0 y h.1 k;
    lacking_fault = λ x y h k. no_fault bytes h.0 y h.1 k;
    held_other = λ x y h k. done_differs (one_status (done x) (differs y) h k);
    held_lacking = λ x y h k. done_refused (one_status (done x) (policy_refused y) h k);
    other_lacking = λ x y h k. differs_refused (one_status (differs x) (policy_refused y) h k);
  }

  impact_kind : (o : Outcome) → IsImpactAnswer left right bytes o → IsKind (HasFault bytes) SameText OtherText LackingText o
  impact_kind (done t) h = h
  impact_kind o h = h

  one_outcome : DeclaresWritable → (o z : Outcome) → IsImpactAnswer left right bytes o → IsImpactAnswer left right bytes z → o ≡ z
  one_outcome writable o z h k =
      one_kind (HasFault bytes) SameText OtherText LackingText (impact_apart writable) o z (impact_kind o h) (impact_kind z k)

-- ---- of words

within : DeclaresWritable → (long : Bool) (names : Names) (bytes : List ℕ) (a b : Answer)
    → MatchBool long (a ≡ too_long) ((o : Outcome) × IsImpactAnswer names.0 names.1 bytes o × (a ≡ answer_of o))
    → MatchBool long (b ≡ too_long) ((o : Outcome) × IsImpactAnswer names.0 names.1 bytes o × (b ≡ answer_of o)) → a ≡ b
within writable true names bytes a b h k = h ∙ sym k
within writable false names bytes a b h k =
    h.2 ∙ ap answer_of (one_outcome names.0 names.1 bytes writable h.0 k.0 h.1 k.1) ∙ sym k.2

pub one_impact_answer : DeclaresWritable → (names : Option Names) (bytes : List ℕ) (a b : Answer)
    → IsImpactAnswerOf names bytes a → IsImpactAnswerOf names bytes b → a ≡ b
one_impact_answer writable None bytes a b h k = h ∙ sym k
one_impact_answer writable (Some names) bytes a b h k = within writable (nat_lt limit (length bytes)) names bytes a b h k

-- what words and a source fix is the answer to the bytes that the source tells
fixed_over : (names : Option Names) (source : Use) (bytes : List ℕ) (a : Answer) → source.old ≡ Some bytes
    → IsImpactFixedBy names source a → IsImpactAnswerOf names bytes a
fixed_over None source bytes a tells f = f.0
fixed_over (Some names) source bytes a tells f =
    let same : f.bytes ≡ bytes = subst (λ o. IsAllOf o f.bytes) tells f.left in
    subst (λ b. IsImpactAnswerOf (Some names) b a) same f.answer

pub one_impact_fixed : DeclaresWritable → (names : Option Names) (source other : Use) (bytes : List ℕ) (a b : Answer)
    → source.old ≡ Some bytes → other.old ≡ Some bytes → IsImpactFixedBy names source a → IsImpactFixedBy names other b → a ≡ b
one_impact_fixed writable names source other bytes a b s o h k =
    one_impact_answer writable names bytes a b (fixed_over names source bytes a s h) (fixed_over names other bytes b o k)

-- ---- beside `equal`

module _ (left right bytes : List ℕ) where
  -- the policies that `equal` compares
  abbrev named_as : (said : DeclaredProgram) (program : Program) → program_by program ≡ said → (p q : Policy)
      → AreNamed program left right p q → AreBothNamed said left right
  named_as said program says p q named = record {
    program = program;
    says = says;
    left_policy = p;
    right_policy = q;
    left_is = named.left_is;
    right_is = named.right_is;
  }

  -- an answer of `equal` shows what its status stands for
  equal_stands : (o : Outcome) → IsEqualAnswer left right bytes o → StandsFor (answer_of o).status left right bytes
  equal_stands (done t) h =
      let s = h.2 in
      record {
        said = h.0;
        declared = h.1;
        named = named_as h.0 s.program s.says s.left_policy s.right_policy s.named;
        holds = s.tells.related.same;
      }
  equal_stands (differs t) h =
      let s = h.2 in
      record {
        said = h.0;
        declared = h.1;
        named = named_as h.0 s.program s.says s.left_policy s.right_policy s.named;
        holds = λ same. no_difference s.program.fields s.left_policy s.right_policy s.side s.found same s.least.0;
      }
  equal_stands (text_refused t) h = (t, h)
  equal_stands (policy_refused t) h =
      let s = h.2 in
      record { program = s.program; declared = subst (Declares bytes) (sym s.says) h.1; lacks = s.lacks }

  pub same_status : (o z : Outcome) → IsEqualAnswer left right bytes o → IsImpactAnswer left right bytes z → (answer_of o).status ≡ (answer_of z).status
  same_status o z h k =
      one_standing left right bytes (answer_of o).status (answer_of z).status (equal_stands o h) (stands left right bytes z k)

  pub shows_first : (text lines : List ℕ) → IsEqualAnswer left right bytes (differs text) → IsImpactAnswer left right bytes (differs lines)
      → ShowsFirstKept left right bytes text lines
  shows_first text lines h k =
      let s = h.2 in
      let n = k.2 in
      let named = named_as h.0 s.program s.says s.left_policy s.right_policy s.named in
      let fields = n.named.program.fields in
      let p = n.named.left_policy in
      let q = n.named.right_policy in
      let least : IsLeastDifference fields p q s.side s.found =
      policies_alike bytes left right h.0 k.0 h.1 k.1 named n.named (λ f x y. IsLeastDifference f x y s.side s.found) s.least in
      record {
        said = k.0;
        declared = k.1;
        named = n.named;
        side = s.side;
        found = s.found;
        left_predicate = n.left_predicate;
        right_predicate = n.right_predicate;
        least = least;
        shown = s.told
            ∙ ap (λ f. difference_lines f s.side s.found)
            (fields_alike s.program n.named.program (same_program bytes left right h.0 k.0 h.1 k.1 named n.named));
        predicates = n.predicates;
        printed = n.told;
        kept = side_keeps fields p q n.left_predicate n.right_predicate n.predicates s.side s.found least.0;
        first = first_kept fields p q n.left_predicate n.right_predicate n.predicates s.side s.found least;
      }
