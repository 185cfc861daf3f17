-- What compiling a policy answers is one, unless memory ran out, whether it has a name or not.
use Rattle.std.proofs.Common.{◌≡◌, ℕ, ◌⊎◌, inl, inr, List, Some, refl, sym, ap, subst}
use Rattle.std.specs.Prelude.{Result, Ok, Err}
use Rattle.nk_field.specs.Packet.{FieldTable}
use Rattle.nk_topo.specs.Topology.{Topology}
use Rattle.nk_policy.specs.Policy.{Policy}
use Rattle.nk_policy.specs.Labels.{IsTagSet, AtMost}
use Rattle.nk_names.specs.declared.Program.{Program}
use Rattle.nk_names.specs.Accepted.{IsStartPacket, IsCompilable, IsAccepted, most_tags}
use Rattle.nk_names.specs.Named.{policy_named}
use Rattle.nk_table.specs.declared.Tables.{Tables}
use Rattle.nk_compile.specs.declared.refusal.Refusal.{Refusal}
use Rattle.nk_compile.specs.declared.refusal.CompileError.{CompileError}
use Rattle.nk_compile.specs.declared.refusal.CompileError.TheVariants.{NoMemory, Refused}
use Rattle.nk_compile.specs.Answers.{IsError, IsCompileResult, IsPolicyAnswer}
use Rattle.nk_compile.specs.Headline.{IsCompiledPolicy}
use Rattle.nk_compile.specs.Refusals.{IsReason}
use Rattle.nk_compile.specs.WholeTable.{IsTableOf}
use Rattle.nk_compile.proofs.Naming.{reason_named}
use Rattle.nk_compile.proofs.Reasons.{no_reason, one_reason}
use Rattle.nk_uniqueness.specs.Packets.{HavePackets}
use Rattle.nk_uniqueness.proofs.OneTable.{one_table}

abbrev Answer : Type 0
Answer = Result Tables CompileError

abbrev with_tables : Tables → Answer
with_tables t = Ok t

abbrev with_reason : Refusal → Answer
with_reason r = Err (Refused r)

-- what is answered, but for what tables carry
abbrev IsAnswered : FieldTable → Topology → Policy → Answer → Type 0
IsAnswered fields topo p (Ok t) =
    IsCompilable fields topo p
    × AtMost (most_tags fields fields.tag) (IsTagSet p (IsStartPacket fields topo))
    × IsTableOf fields topo (IsStartPacket fields topo) p t
IsAnswered fields topo p (Err e) = IsError fields topo p e

answered : (program : Program) (p : Policy) (a : Answer) → IsPolicyAnswer program p a → IsAnswered program.fields program.topo p a
answered program p (Ok t) h = (h.0.0, h.0.1, h.1)
answered program p (Err e) h = h

module _ (fields : FieldTable) (topo : Topology) (p : Policy) where
  -- two answers over the same fields and topology
  one_answered : (a b : Answer) → HavePackets fields topo → IsAnswered fields topo p a → IsAnswered fields topo p b
      → (a ≡ Err NoMemory) ⊎ ((b ≡ Err NoMemory) ⊎ (a ≡ b))
  one_answered (Ok t) (Ok u) there h k = inr (inr (ap with_tables (one_table fields topo (IsStartPacket fields topo) p t u there h.2 k.2)))
  one_answered (Ok t) (Err NoMemory) there h k = inr (inl refl)
  one_answered (Ok t) (Err (Refused s)) there h k = absurd (no_reason fields topo p s h.0 h.1 k)
  one_answered (Err NoMemory) b there h k = inl refl
  one_answered (Err (Refused r)) (Ok u) there h k = absurd (no_reason fields topo p r k.0 k.1 h)
  one_answered (Err (Refused r)) (Err NoMemory) there h k = inr (inl refl)
  one_answered (Err (Refused r)) (Err (Refused s)) there h k = inr (inr (ap with_reason (one_reason fields topo p r s h k)))

-- a policy that is accepted
pub accepted_policy_answer : (program : Program) (p : Policy) (a : Answer) → IsAccepted program p → IsPolicyAnswer program p a
    → (a ≡ Err NoMemory) ⊎ ((t : Tables) × (a ≡ Ok t) × IsCompiledPolicy program p t)
accepted_policy_answer program p (Ok t) accepted h = inr (t, refl, h)
accepted_policy_answer program p (Err NoMemory) accepted h = inl refl
accepted_policy_answer program p (Err (Refused r)) accepted h = absurd (no_reason program.fields program.topo p r accepted.0 accepted.1 h)

-- a policy that is refused
pub refused_policy_answer : (program : Program) (p : Policy) (r : Refusal) (a : Answer) → IsReason program.fields program.topo p r
    → IsPolicyAnswer program p a → (a ≡ Err NoMemory) ⊎ (a ≡ Err (Refused r))
refused_policy_answer program p r (Ok t) reason h = absurd (no_reason program.fields program.topo p r h.0.0 h.0.1 reason)
refused_policy_answer program p r (Err NoMemory) reason h = inl refl
refused_policy_answer program p r (Err (Refused s)) reason h = inr (ap with_reason (sym (one_reason program.fields program.topo p r s reason h)))

-- two answers, of programs with the same fields and topology
pub one_policy_answer : (program other : Program) (p : Policy) (a b : Answer) → program.fields ≡ other.fields → program.topo ≡ other.topo
    → HavePackets program.fields program.topo → IsPolicyAnswer program p a → IsPolicyAnswer other p b
    → (a ≡ Err NoMemory) ⊎ ((b ≡ Err NoMemory) ⊎ (a ≡ b))
one_policy_answer program other p a b same_fields same_topo there h k =
    one_answered program.fields program.topo p a b there (answered program p a h)
    (subst (λ t. IsAnswered program.fields t p b) (sym same_topo) (subst (λ f. IsAnswered f other.topo p b) (sym same_fields) (answered other p b k)))

-- what is answered of a policy is what is answered of its name
pub policy_answer_named : (program : Program) (name : List ℕ) (p : Policy) (a : Answer) → policy_named program name ≡ Some p
    → IsPolicyAnswer program p a → IsCompileResult program name a
policy_answer_named program name p (Ok t) named h = (p, named, h.0, h.1, h.2)
policy_answer_named program name p (Err NoMemory) named h = tt
policy_answer_named program name p (Err (Refused r)) named h = reason_named program name p named r h
