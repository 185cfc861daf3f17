-- Two prepared policies: why they are refused, and what their tables are.
use Rattle.std.proofs.Common.{◌≡◌, ℕ, ◌+◌, ◌≤◌, List, [], length, inl, inr, refl, sym, ap, subst, ◌∙◌, arith, Some}
use Rattle.std.specs.Prelude.{Result, Ok, Err, IfOk, IfErr, slice_index}
use Rattle.nk_field.specs.Packet.{FieldTable}
use Rattle.nk_topo.specs.Topology.{Topology}
use Rattle.nk_policy.specs.Policy.{Policy}
use Rattle.nk_policy.specs.Labels.{IsTagSet, AtLeast}
use Rattle.nk_policy.proofs.Numbering.{numbered_distinct}
use Rattle.nk_names.specs.declared.Program.{Program}
use Rattle.nk_names.specs.Accepted.{IsStartPacket, IsAccepted, most_tags}
use Rattle.nk_names.specs.Named.{policy_named}
use Rattle.nk_names.proofs.Named.{let_named}
use Rattle.nk_names.specs.ProgramValue.{IsProgram, IsLet}
use Rattle.nk_tag.specs.Numbers.{AreNumbers}
use Rattle.nk_compile.specs.declared.pair.TablePair.{TablePair}
use Rattle.nk_compile.specs.declared.prepared.Prepared.{Prepared}
use Rattle.nk_compile.specs.declared.refusal.CompileError.{CompileError}
use Rattle.nk_compile.specs.declared.refusal.CompileError.TheVariants.{NoMemory, Refused}
use Rattle.nk_compile.specs.declared.refusal.Refusal.{Refusal}
use Rattle.nk_compile.specs.declared.refusal.Refusal.TheVariants.{NoPolicy, NoTag, TooManyTags}
use Rattle.nk_compile.specs.Counted.{HasTagSets}
use Rattle.nk_compile.specs.Levelled.{IsTagFault}
use Rattle.nk_compile.specs.MadePair.{IsMadePair, IsPairError}
use Rattle.nk_compile.specs.NumberedAfter.{IsTableAfter}
use Rattle.nk_compile.specs.PairAnswers.{IsUnopposed, IsPairReason, IsPairRefused, IsPairAnswer}
use Rattle.nk_compile.specs.Preparing.{IsPrepared, IsEarlyError}
use Rattle.nk_compile.proofs.Levelled.{prepared_unopposed, prepared_many, prepared_least, prepared_compilable, prepared_counted, prepared_few}
use Rattle.nk_compile.proofs.Padding.{table_alone}
use Rattle.nk_compile.proofs.PairRows.{pair_plannable}
use Rattle.nk_compile.proofs.PairTags.{pair_tags}
use Rattle.nk_compile.proofs.Printed.{accepted_carries, accepted_after_carries}

module _ (fields : FieldTable) (topo : Topology) (p q : Policy) where
  -- what stands against the old policy
  pub early_old : (e : CompileError) → IsEarlyError fields topo p e → IsPairError fields topo p q e
  early_old NoMemory h = tt
  early_old (Refused NoPolicy) h = absurd h
  early_old (Refused NoTag) h = absurd h
  early_old (Refused (TooManyTags found)) h = absurd h
  early_old e h = inl h

  -- what stands against the new one, where nothing does against the old one
  pub early_new : IsUnopposed fields topo p → (e : CompileError) → IsEarlyError fields topo q e → IsPairError fields topo p q e
  early_new alone NoMemory h = tt
  early_new alone (Refused NoPolicy) h = absurd h
  early_new alone (Refused NoTag) h = absurd h
  early_new alone (Refused (TooManyTags found)) h = absurd h
  early_new alone e h = inr (alone, h)

-- at least none
at_least_none : {X : Type 0} (P : X → Type 0) → AtLeast 0 P
at_least_none P = ([], refl, tt, λ i d lt. absurd (omega (arith, lt)))

module _ (fields : FieldTable) (topo : Topology) (old_tag new_tag : ℕ) (p q : Policy) (a b : Prepared) (k : IsPrepared fields topo old_tag p a) (l : IsPrepared fields topo new_tag q b)
    (max : ℕ) (most : max ≡ slice_index fields.maxima old_tag) where
  most_is : max ≡ most_tags fields fields.tag
  most_is = most ∙ sym (ap (most_tags fields) k.begun.clear.tag_is)

  -- the old policy's tags alone are too many
  pub many_old : (e : CompileError) → IsTagFault a.levels.levels 0 max e → IsPairError fields topo p q e
  many_old NoMemory h = tt
  many_old (Refused (TooManyTags found)) h = (
    prepared_unopposed fields topo old_tag p a k,
    prepared_unopposed fields topo new_tag q b l,
    h.0 ∙ ap (λ n. n + 1) most_is,
    (
      h.1.0,
      0,
      prepared_many fields topo old_tag p a k h.1.0 h.1.1,
      at_least_none (IsTagSet q (IsStartPacket fields topo)),
      let e = h.1.2 in omega (arith, e),
    ),
  )
  many_old e h = absurd h

  module _ (r : List ℕ) (numbers : AreNumbers a.sets a.levels.levels r) (first : ℕ) (is : first ≡ length r) where
    -- with the new one's they are
    pub many_new : (e : CompileError) → IsTagFault b.levels.levels first max e → IsPairError fields topo p q e
    many_new NoMemory h = tt
    many_new (Refused (TooManyTags found)) h = (
      prepared_unopposed fields topo old_tag p a k,
      prepared_unopposed fields topo new_tag q b l,
      h.0 ∙ ap (λ n. n + 1) most_is,
      (
        first,
        h.1.0,
        subst (λ n. AtLeast n (IsTagSet p (IsStartPacket fields topo))) (sym is) (prepared_least fields topo old_tag p a k r numbers),
        prepared_many fields topo new_tag q b l h.1.0 h.1.1,
        h.1.2,
      ),
    )
    many_new e h = absurd h

    -- where they fit, the tables are those of both
    pub pair_made : (s : List ℕ) → AreNumbers b.sets b.levels.levels s → max ≡ slice_index fields.maxima new_tag → first + length s ≤ max → (t : TablePair) → t.old_tags ≡ first →
        IsTableAfter 0 fields topo (IsStartPacket fields topo) p t.old → IsTableAfter first fields topo (IsStartPacket fields topo) q t.new → IsMadePair fields topo p q t
    pair_made s more same few t count old new = record {
      compilable_old = prepared_compilable fields topo old_tag p a k;
      compilable_new = prepared_compilable fields topo new_tag q b l;
      few_old = prepared_few fields topo old_tag p a k r numbers max most (omega (arith, few, is));
      few_new = prepared_few fields topo new_tag q b l s more max same (omega (arith, few));
      fit = (
        length r,
        length s,
        prepared_counted fields topo old_tag p a k r numbers,
        prepared_counted fields topo new_tag q b l s more,
        subst (λ n. length r + length s ≤ n) most_is (omega (arith, few, is)),
      );
      old_tags = subst (λ n. HasTagSets fields topo p n) (sym (count ∙ is)) (prepared_counted fields topo old_tag p a k r numbers);
      printed_old = table_alone fields topo (IsStartPacket fields topo) p t.old old;
      printed_new = subst (λ n. IsTableAfter n fields topo (IsStartPacket fields topo) q t.new) (sym count) new;
    }

-- the reason for two policies is that for their names
reason_named : (program : Program) (old new : List ℕ) (p q : Policy) → policy_named program old ≡ Some p → policy_named program new ≡ Some q →
    (r : Refusal) → IsPairReason program.fields program.topo p q r → IsPairRefused program old new r
reason_named program old new p q m n NoPolicy h = absurd h
reason_named program old new p q m n r h = (p, q, m, n, h)

-- the answer for two policies is that for their names
pub pair_named : (program : Program) (old new : List ℕ) (p q : Policy) (r : Result TablePair CompileError) →
    IsProgram program.fields program.topo program.lets → policy_named program old ≡ Some p → policy_named program new ≡ Some q →
    IfOk r (IsMadePair program.fields program.topo p q) → IfErr r (IsPairError program.fields program.topo p q) → IsPairAnswer program old new r
pair_named program old new p q (Ok r) ok m n made error =
    let is_old : IsLet program.fields p = let_named program old p ok m in
    let is_new : IsLet program.fields q = let_named program new q ok n in
    let accepted_old : IsAccepted program p = (made.compilable_old, made.few_old) in
    let accepted_new : IsAccepted program q = (made.compilable_new, made.few_new) in
    record {
      p = p;
      q = q;
      named_old = m;
      named_new = n;
      accepted_old = accepted_old;
      accepted_new = accepted_new;
      fit = made.fit;
      old_tags = made.old_tags;
      printed_old = made.printed_old;
      printed_new = made.printed_new;
      carries_old = accepted_carries program old p r.old ok m accepted_old made.printed_old;
      carries_new = accepted_after_carries program new r.old_tags q r.new ok n accepted_new made.printed_new;
      plannable = pair_plannable program.fields program.topo p q r.old r.new r.old_tags made.old_tags made.printed_old made.printed_new;
      tags = pair_tags program.fields program.topo p q r.old r.new r.old_tags ok.table ok.topology.links
          (numbered_distinct p 1 is_old.numbered) is_old.in_range made.compilable_old
          (numbered_distinct q 1 is_new.numbered) is_new.in_range made.compilable_new
          made.old_tags made.printed_old made.printed_new;
    }
pair_named program old new p q (Err NoMemory) ok m n made error = tt
pair_named program old new p q (Err (Refused r)) ok m n made error = reason_named program old new p q m n r error
