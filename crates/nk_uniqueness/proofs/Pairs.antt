-- What compiling two names for an update answers is one, unless memory ran out.
use Rattle.std.proofs.Common.{◌≡◌, ℕ, ◌⊎◌, inl, inr, Some, List, length, refl, sym, ap, subst, ◌∙◌}
use Rattle.std.specs.Prelude.{Result, Ok, Err}
use Rattle.nk_policy.specs.Policy.{Policy}
use Rattle.nk_names.specs.declared.Program.{Program}
use Rattle.nk_names.specs.Accepted.{IsStartPacket, IsAccepted}
use Rattle.nk_names.specs.Named.{policy_named}
use Rattle.nk_names.specs.ProgramOf.{program_by}
use Rattle.nk_names.proofs.Alike.{fields_alike, topo_alike, one_policy}
use Rattle.nk_compile.specs.declared.pair.TablePair.{TablePair}
use Rattle.nk_compile.specs.declared.refusal.Refusal.{Refusal}
use Rattle.nk_compile.specs.declared.refusal.CompileError.{CompileError}
use Rattle.nk_compile.specs.declared.refusal.CompileError.TheVariants.{NoMemory, Refused}
use Rattle.nk_compile.specs.Counted.{HasTagSets}
use Rattle.nk_compile.specs.NumberedAfter.{IsTableAfter}
use Rattle.nk_compile.specs.PairAnswers.{FitTogether, IsCompiledPair, IsPairRefused, IsPairAnswer}
use Rattle.nk_compile.specs.WholeTable.{IsTableOf}
use Rattle.nk_compile.proofs.ReasonByName.{alike}
use Rattle.nk_compile.proofs.PairReasonByName.{fitting_never_refused, one_pair_refusal}
use Rattle.nk_uniqueness.specs.Packets.{HavePackets}
use Rattle.nk_compile.proofs.OneTagList.{one_tag_list}
use Rattle.nk_uniqueness.proofs.OneTable.{one_table, one_table_after}

abbrev Answer : Type 0
Answer = Result TablePair CompileError

abbrev with_tables : TablePair → Answer
with_tables t = Ok t

abbrev with_reason : Refusal → Answer
with_reason r = Err (Refused r)

module _ (program other : Program) (same : program_by program ≡ program_by other) (old new : List ℕ) where
  -- names that are compiled aren't refused
  pub never_both : (a : TablePair) (r : Refusal) → IsCompiledPair program old new a → IsPairRefused other old new r → ⊥
  never_both a r h k =
      fitting_never_refused program other same old new h.p h.q r h.named_old h.named_new h.accepted_old h.accepted_new h.fit k

  -- the tables of two names are one
  pub one_pair : (a b : TablePair) → HavePackets program.fields program.topo → IsCompiledPair program old new a → IsCompiledPair other old new b → a ≡ b
  one_pair a b there h k =
      let fields = program.fields in
      let topo = program.topo in
      let e = sym (fields_alike program other same) in
      let d = sym (topo_alike program other same) in
      let p_is = sym (one_policy program other same old h.p k.p h.named_old k.named_old) in
      let q_is = sym (one_policy program other same new h.q k.q h.named_new k.named_new) in
      let counted = alike (λ f t z. HasTagSets f t z b.old_tags) other.fields fields other.topo topo k.p h.p e d p_is k.old_tags in
      let counted_a : a.old_tags ≡ length h.old_tags.0 = h.old_tags.2 in
      let lists = one_tag_list h.p (IsStartPacket fields topo) h.old_tags.0 counted.0 h.old_tags.1 counted.1 in
      let many : a.old_tags ≡ b.old_tags = counted_a ∙ ap (λ l. length l) lists ∙ sym counted.2 in
      let olds =
      one_table fields topo (IsStartPacket fields topo) h.p a.old b.old there h.printed_old
      (alike (λ f t z. IsTableOf f t (IsStartPacket f t) z b.old) other.fields fields other.topo topo k.p h.p e d p_is k.printed_old) in
      let news =
      one_table_after b.old_tags fields topo (IsStartPacket fields topo) h.q a.new b.new there
      (subst (λ n. IsTableAfter n fields topo (IsStartPacket fields topo) h.q a.new) many h.printed_new)
      (alike (λ f t z. IsTableAfter b.old_tags f t (IsStartPacket f t) z b.new) other.fields fields other.topo topo k.q h.q e d q_is k.printed_new) in
      λ n. record { old = olds n; new = news n; old_tags = many n }

-- two answers
pub one_pair_answer : (program other : Program) → program_by program ≡ program_by other → (old new : List ℕ) (a b : Answer) → HavePackets program.fields program.topo
    → IsPairAnswer program old new a → IsPairAnswer other old new b → (a ≡ Err NoMemory) ⊎ ((b ≡ Err NoMemory) ⊎ (a ≡ b))
one_pair_answer program other same old new (Ok t) (Ok u) there h k = inr (inr (ap with_tables (one_pair program other same old new t u there h k)))
one_pair_answer program other same old new (Ok t) (Err NoMemory) there h k = inr (inl refl)
one_pair_answer program other same old new (Ok t) (Err (Refused s)) there h k = absurd (never_both program other same old new t s h k)
one_pair_answer program other same old new (Err NoMemory) b there h k = inl refl
one_pair_answer program other same old new (Err (Refused r)) (Ok u) there h k = absurd (never_both other program (sym same) old new u r k h)
one_pair_answer program other same old new (Err (Refused r)) (Err NoMemory) there h k = inr (inl refl)
one_pair_answer program other same old new (Err (Refused r)) (Err (Refused s)) there h k = inr (inr (ap with_reason (one_pair_refusal program other same old new r s h k)))

-- what is answered to two accepted policies whose tags fit together
pub fitting_answer : (program other : Program) → program_by program ≡ program_by other → (old new : List ℕ) (p q : Policy) (a : Answer)
    → policy_named program old ≡ Some p → policy_named program new ≡ Some q → IsAccepted program p → IsAccepted program q
    → FitTogether program.fields program.topo p q → IsPairAnswer other old new a
    → (a ≡ Err NoMemory) ⊎ ((r : TablePair) × (a ≡ Ok r) × IsCompiledPair other old new r)
fitting_answer program other same old new p q (Ok r) e f k l fit h = inr (r, refl, h)
fitting_answer program other same old new p q (Err NoMemory) e f k l fit h = inl refl
fitting_answer program other same old new p q (Err (Refused r)) e f k l fit h =
    absurd (fitting_never_refused program other same old new p q r e f k l fit h)

-- and to two names that are refused
pub refused_pair_answer : (program other : Program) → program_by program ≡ program_by other → (old new : List ℕ) (r : Refusal) (a : Answer)
    → IsPairRefused program old new r → IsPairAnswer other old new a → (a ≡ Err NoMemory) ⊎ (a ≡ Err (Refused r))
refused_pair_answer program other same old new r (Ok t) k h = absurd (never_both other program (sym same) old new t r h k)
refused_pair_answer program other same old new r (Err NoMemory) k h = inl refl
refused_pair_answer program other same old new r (Err (Refused s)) k h =
    inr (ap with_reason (sym (one_pair_refusal program other same old new r s k h)))
