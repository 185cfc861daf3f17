-- What is answered of two names and a packet that are updated, over the bytes of a text, is one.
use Rattle.std.proofs.Common.{◌≡◌, ℕ, ◌⊎◌, inl, inr, List, refl, sym, ap, subst, ◌∙◌}
use Rattle.nk_field.specs.Packet.{FieldTable}
use Rattle.nk_field.specs.Texts.{packet_of}
use Rattle.nk_field.specs.declared.packet.Packet.{Packet}
use Rattle.nk_names.specs.declared.Program.{Program}
use Rattle.nk_names.specs.ProgramOf.{DeclaredProgram, program_by}
use Rattle.nk_names.proofs.Alike.{fields_alike}
use Rattle.nk_table.specs.declared.Tables.{Tables}
use Rattle.nk_compile.specs.declared.pair.TablePair.{TablePair}
use Rattle.nk_compile.proofs.PairReasonByName.{one_pair_refusal}
use Rattle.nk_uniqueness.specs.Texts.{TextsHavePackets}
use Rattle.nk_uniqueness.proofs.Pairs.{never_both, one_pair}
use Rattle.nk_trace_commands.specs.Following.{ToPacket}
use Rattle.nk_compile_commands.specs.Messages.{refusal_line}
use Rattle.nk_reply.specs.Outcome.{Outcome, text_refused, policy_refused}
use Rattle.nk_input.specs.ProgramText.{Declares, HasFault}
use Rattle.nk_compile_commands.specs.Updating.{ToTurned, ToPair, IsPlannedAnswer, IsPairRefusal, IsUpdateAnswer, plan_for}
use Rattle.nk_input.proofs.OneText.{declares_once, no_fault, one_fault}
use Rattle.nk_one_answer.proofs.Following.{by_packet}
use Rattle.nk_one_answer.proofs.Named.{packets_of}

-- what is told of a packet by one plan is one
one_turned : (pair : TablePair) (seed steps : ℕ) (t : Tables) (pk : Packet) (o p : Outcome)
    → ToTurned (plan_for pair) seed steps t pk o → ToTurned (plan_for pair) seed steps t pk p → o ≡ p
one_turned pair seed steps t pk o p h k = h ∙ sym k

module _ (packets : TextsHavePackets) (old new : List ℕ) (seed steps : ℕ) (word bytes : List ℕ) where
  -- the text has a fault, or declares what is answered to
  record IsFaulty (o : Outcome) : Type 0 where
    text : List ℕ
    is : o ≡ text_refused text
    fault : HasFault bytes text

  record IsOfText (o : Outcome) : Type 0 where
    said : DeclaredProgram
    declared : Declares bytes said
    told : ToPair said old new seed steps word o

  either : (o : Outcome) → IsUpdateAnswer old new seed steps word bytes o → IsFaulty o ⊎ IsOfText o
  either (text_refused t) h = inl (record { text = t; is = refl; fault = h })
  either o h = inr (record { said = h.0; declared = h.1; told = h.2 })

  -- what is told by tables, over these fields
  abbrev ToldBy : FieldTable → TablePair → Outcome → Type 0
  ToldBy fields pair o = ToPacket (ToTurned (plan_for pair) seed steps) pair.old (packet_of fields word) o

  one_told : (fields : FieldTable) (pair : TablePair) (o p : Outcome) → ToldBy fields pair o → ToldBy fields pair p → o ≡ p
  one_told fields pair o p h k =
      by_packet (ToTurned (plan_for pair) seed steps) (one_turned pair seed steps) pair.old (packet_of fields word) o p h k

  module _ (s t : DeclaredProgram) (d : Declares bytes s) (e : Declares bytes t) where
    -- programs that say what the text declares say the same
    alike : (program other : Program) → program_by program ≡ s → program_by other ≡ t → program_by program ≡ program_by other
    alike program other h k = h ∙ declares_once bytes s t d e ∙ sym k

    both_planned : (o p : Outcome) → IsPlannedAnswer s old new seed steps word o → IsPlannedAnswer t old new seed steps word p → o ≡ p
    both_planned o p a b =
        let same = alike a.program b.program a.says b.says in
        let pairs : a.pair ≡ b.pair = one_pair a.program b.program same old new a.pair b.pair (packets_of packets bytes s d a.program a.says) a.compiled b.compiled in
        let told : ToldBy b.program.fields b.pair o =
        subst (λ x. ToldBy b.program.fields x o) pairs (subst (λ f. ToldBy f a.pair o) (fields_alike a.program b.program same) a.told) in
        one_told b.program.fields b.pair o p told b.told

    both_refused : (o p : Outcome) → IsPairRefusal s old new o → IsPairRefusal t old new p → o ≡ p
    both_refused o p a b =
        let same = alike a.program b.program a.says b.says in
        let reason : a.reason ≡ b.reason = one_pair_refusal a.program b.program same old new a.reason b.reason a.refused b.refused in
        a.told
        ∙ ap (λ f. policy_refused (refusal_line f a.reason)) (fields_alike a.program b.program same)
        ∙ ap (λ r. policy_refused (refusal_line b.program.fields r)) reason
        ∙ sym b.told

    not_both : (o p : Outcome) → IsPlannedAnswer s old new seed steps word o → IsPairRefusal t old new p → ⊥
    not_both o p a b = never_both a.program b.program (alike a.program b.program a.says b.says) old new a.pair b.reason a.compiled b.refused

    one_pair_outcome : (o p : Outcome) → ToPair s old new seed steps word o → ToPair t old new seed steps word p → o ≡ p
    one_pair_outcome o p (inl a) (inl b) = both_refused o p a b
    one_pair_outcome o p (inl a) (inr b) = absurd (turned_round a b)
      where
        turned_round : IsPairRefusal s old new o → IsPlannedAnswer t old new seed steps word p → ⊥
        turned_round x y =
            never_both y.program x.program (sym (alike x.program y.program x.says y.says)) old new y.pair x.reason y.compiled x.refused
    one_pair_outcome o p (inr a) (inl b) = absurd (not_both o p a b)
    one_pair_outcome o p (inr a) (inr b) = both_planned o p a b

  -- a text with a fault declares nothing
  apart : (o p : Outcome) → IsFaulty o → IsOfText p → ⊥
  apart o p f t = no_fault bytes t.said f.text t.declared f.fault

  pub one_update : (o p : Outcome) → IsUpdateAnswer old new seed steps word bytes o → IsUpdateAnswer old new seed steps word bytes p → o ≡ p
  one_update o p h k = by (either o h) (either p k)
    where
      by : IsFaulty o ⊎ IsOfText o → IsFaulty p ⊎ IsOfText p → o ≡ p
      by (inl f) (inl g) = f.is ∙ ap text_refused (one_fault bytes f.text g.text f.fault g.fault) ∙ sym g.is
      by (inl f) (inr u) = absurd (apart o p f u)
      by (inr t) (inl g) = absurd (apart p o g t)
      by (inr t) (inr u) = one_pair_outcome t.said u.said t.declared u.declared o p t.told u.told
