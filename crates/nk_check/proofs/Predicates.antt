-- Predicates as sets of packets.
use Rattle.std.proofs.Common.{◌≡◌, ℕ, Bool, true, false, inl, List, [], ◌∷◌, refl, sym, ap, subst, ◌∙◌}
use Rattle.std.specs.Prelude.{not, Contains}
use Rattle.nk_field.proofs.Lists.{in_from_contains, contains_from_in}
use Rattle.nk_field.specs.Act.{applied}
use Rattle.nk_policy.specs.Policy.{Policy, Policies, sum_of, seq_of, not_of, star_of, no_part, part, is_predicate, are_predicates}
use Rattle.nk_policy.specs.Meaning.{Gives}
use Rattle.nk_policy.proofs.Predicates.{predicate_keeps}
use Rattle.nk_policy.proofs.Tests.{both_true}
use Rattle.nk_store.specs.declared.node.Out.{Out}
use Rattle.nk_store.specs.StoreState.{StoreState, IsWhole, IsStorePacket, Grows, HasLeaves, look}
use Rattle.nk_store.proofs.Stores.{grows_on}
use Rattle.nk_apply.specs.Leaves.{absent}
use Rattle.nk_apply.specs.Predicates.{IsPredicate}
use Rattle.nk_sets.specs.PacketSets.{has_some_out, is_in}
use Rattle.nk_sets.proofs.SetLemmas.{absent_out}
use Rattle.nk_sets.proofs.Kept.{packet_back}
use Rattle.nk_auto.specs.Complements.{NegatesPredicates, AllNegatePredicates}
use Rattle.nk_auto.specs.Plain.{Sends}
use Rattle.nk_auto.specs.Continued.{IsSilent}
use Rattle.nk_auto.proofs.Predicates.{predicate_assigns}
use Rattle.nk_auto.proofs.Silences.{not_silent, twice_silent}
use Rattle.nk_cert.specs.Levelled.{HasEach}
use Rattle.nk_check.specs.Judged.{IsPacketsOf}

mutual
  -- a predicate's complements are of predicates
  pub predicate_negates : (p : Policy) → is_predicate p ≡ true → NegatesPredicates p
  predicate_negates (sum_of ps) h = predicates_negate ps h
  predicate_negates (seq_of ps) h = predicates_negate ps h
  predicate_negates (not_of p) h = (h, predicate_negates p h)
  predicate_negates (star_of p) h = absurd cc
  predicate_negates p h = tt

  -- so are those of several predicates
  predicates_negate : (ps : Policies) → are_predicates ps ≡ true → AllNegatePredicates ps
  predicates_negate no_part h = tt
  predicates_negate (part p ps) h =
      let b = both_true (is_predicate p) (are_predicates ps) h in (predicate_negates p b.0, predicates_negate ps b.1)

-- a leaf with an out has one
filled_by : (outs : List Out) (o : Out) → Contains outs o → has_some_out outs ≡ true
filled_by [] o c = absurd (in_from_contains [] o c)
filled_by (x ∷ xs) o c = refl

-- a leaf that is not empty has an out
out_in : (outs : List Out) → has_some_out outs ≡ true → (o : Out) × Contains outs o
out_in [] e = absurd cc
out_in (x ∷ xs) e = (x, contains_from_in (x ∷ xs) x (inl refl))

-- the diagram of a predicate's runs without a record has its packets
kept_in : (st : StoreState) (d : ℕ) (p : Policy) → is_predicate p ≡ true → IsSilent st d p → (pk : List ℕ) → IsStorePacket st pk
    → Gives p pk [] pk → is_in st d pk ≡ true
kept_in st d p h s pk inside g =
    let sent : Sends st d pk pk 0 = (s.sends (predicate_negates p h, predicate_assigns _ p h) pk pk 0 inside).1 (refl, g) in
    filled_by (look st d pk) (record { act = sent.0; target = 0 }) sent.1

in_kept : (st : StoreState) (d : ℕ) (p : Policy) → is_predicate p ≡ true → IsSilent st d p → (pk : List ℕ) → IsStorePacket st pk
    → is_in st d pk ≡ true → Gives p pk [] pk
in_kept st d p h s pk inside e =
    let o = out_in (look st d pk) e in
    let sent : Sends st d pk (applied o.0.act pk) o.0.target = (o.0.act, o.1, refl) in
    let made = (s.sends (predicate_negates p h, predicate_assigns _ p h) pk (applied o.0.act pk) o.0.target inside).0 sent in
    subst (λ x. Gives p pk [] x) (predicate_keeps (λ l y. y) p h pk [] (applied o.0.act pk) made.1).1 made.1

-- negated twice it is a set of packets
pub packets_are : (s1 s2 new : StoreState) (d o r : ℕ) (p : Policy) → is_predicate p ≡ true → Grows s1 s2 → Grows s2 new → IsSilent s1 d p
    → HasLeaves s2 o (λ pk. absent (look s1 d pk) (look s1 d pk)) → HasLeaves new r (λ pk. absent (look s2 o pk) (look s2 o pk))
    → IsPredicate new r → IsPacketsOf new p r
packets_are s1 s2 new d o r p h g1 g2 s once twice pred =
    let other = not_silent s1 s2 d o p g1 s once in
    let again = not_silent s2 new o r (not_of p) g2 other twice in
    let same = twice_silent s1 new d r p h (grows_on s1 s2 new g1 g2) s again in
    record {
      set = record { id = twice.id; predicate = pred };
      keeps = λ pk inside. (λ g. kept_in new r p h same pk inside g, λ e. in_kept new r p h same pk inside e);
    }

-- a test or its opposite
not_true : (b : Bool) → not b ≡ false → b ≡ true
not_true true e = refl
not_true false e = cc

true_not : (b : Bool) → not b ≡ true → b ≡ true → ⊥
true_not true e f = cc
true_not false e f = cc

-- a set has all packets where the others are none
pub all_in : (st new : StoreState) (d o : ℕ) → Grows st new → HasLeaves new o (λ pk. absent (look st d pk) (look st d pk))
    → ((pk : List ℕ) → IsWhole pk → is_in new o pk ≡ false) → HasEach st d
all_in st new d o g leaves none pk inside =
    not_true (is_in st d pk) (sym (ap has_some_out (leaves.leaf pk inside.0) ∙ absent_out (look st d pk) (look st d pk)) ∙ none pk inside.0)

-- and lacks one where there is another
pub one_out : (st new : StoreState) (d o : ℕ) → Grows st new → HasLeaves new o (λ pk. absent (look st d pk) (look st d pk))
    → ((pk : List ℕ) × IsStorePacket new pk × (is_in new o pk ≡ true)) → HasEach st d → ⊥
one_out st new d o g leaves some all =
    let inside = packet_back st new some.0 g some.1 in
    true_not (is_in st d some.0) (sym (ap has_some_out (leaves.leaf some.0 inside.0) ∙ absent_out (look st d some.0) (look st d some.0)) ∙ some.2) (all some.0 inside)
