-- From what is seen of a policy, its levels and its tag sets to its tables or the reason of a refusal.
use Rattle.std.proofs.Common.{◌≡◌, ℕ, ◌+◌, Bool, false, List, refl, sym, ap, subst, ◌∙◌, Some, None, arith}
use Rattle.std.specs.Prelude.{Option, option_map, Result, Ok, Err, IfErr, IsErrAnd, if◌then◌else◌, slice_index}
use Rattle.nk_field.specs.Order.{Found, IsLeast}
use Rattle.nk_field.specs.Packet.{FieldTable, IsFieldTable}
use Rattle.nk_topo.specs.Topology.{Topology, IsTopology}
use Rattle.nk_policy.specs.Policy.{Policy, marked_from}
use Rattle.nk_policy.specs.Leaves.{has_leaf, is_on_field, is_dup, is_switch_assignment}
use Rattle.nk_policy.specs.Labels.{IsTagSet, AtLeast}
use Rattle.nk_names.specs.Accepted.{IsStartPacket, IsCompilable, is_link_outside, most_tags}
use Rattle.nk_store.specs.StoreState.{StoreState}
use Rattle.nk_tag.specs.Numbers.{IsAtOdd}
use Rattle.nk_static.specs.declared.faults.StaticFault.{StaticFault}
use Rattle.nk_static.specs.declared.faults.StaticFault.TheVariants.{TagUsed, LooseDup, SwitchSet, NoSuchLink}
use Rattle.nk_static.specs.StaticFaults.{static_fault_of}
use Rattle.nk_compile.specs.Refusals.{static_refusal_with, static_refusal_for, static_refusal, found_from}
use Rattle.nk_compile.specs.Answers.{IsError}
use Rattle.nk_compile.specs.Levelled.{IsLeastOff, IsOffFault, IsTagFault}
use Rattle.nk_compile.specs.OffEdge.{EndsOffEdge, EndsOnEdges}
use Rattle.nk_compile.specs.PairAnswers.{IsUnopposed}
use Rattle.nk_compile.specs.Preparing.{IsEarlyError}
use Rattle.nk_compile.specs.Ready.{IsClear}
use Rattle.nk_compile.specs.declared.refusal.Refusal.{Refusal}
use Rattle.nk_compile.specs.declared.refusal.Refusal.TheVariants.{NoPolicy, NoTag, Static, OffEdge, TooManyTags}
use Rattle.nk_compile.specs.declared.refusal.CompileError.{CompileError}
use Rattle.nk_compile.specs.declared.refusal.CompileError.TheVariants.{NoMemory, Refused}

-- an error that is passed on
pub refused_with : {X : Type 0} (r : Result X CompileError) (e : CompileError) (Q : CompileError → Type 0) →
    IsErrAnd r (λ x. x ≡ e) → Q e → IfErr r Q
refused_with (Ok x) e Q h q = absurd h
refused_with (Err d) e Q h q = subst Q (sym h) q

-- the first reason of four tests
abbrev first_reason : Bool → Bool → Bool → Bool → Option Refusal
first_reason a b c d =
    option_map Static (if a then Some TagUsed else if b then Some LooseDup else if c then Some SwitchSet else if d then Some NoSuchLink else None)

-- where there is none, no test passes
all_fail : (a b c d : Bool) → first_reason a b c d ≡ None → (a ≡ false) × (b ≡ false) × (c ≡ false) × (d ≡ false)
all_fail false false false false h = (refl, refl, refl, refl)
all_fail a b c d h = cc

-- what is seen of a policy isn't that its name has none
seen_named : (seen : Option StaticFault) → option_map Static seen ≡ Some NoPolicy → ⊥
seen_named None h = cc
seen_named (Some s) h = cc

pub static_refusal_named : (tag : Option ℕ) (topo : Topology) (p : Policy) → static_refusal_for tag topo p ≡ Some NoPolicy → ⊥
static_refusal_named None topo p h = cc
static_refusal_named (Some tag) topo p h = seen_named (static_fault_of tag topo.links p) h

-- a policy of which nothing is seen
pub is_clear : (fields : FieldTable) (topo : Topology) (tag : ℕ) (p : Policy) → IsFieldTable fields → fields.tag ≡ Some tag → IsTopology topo → marked_from p 1 ≡ p →
    static_refusal_with tag topo p ≡ None → IsClear fields topo tag p
is_clear fields topo tag p table is topology numbered h =
    let all = all_fail (has_leaf (is_on_field tag) p) (has_leaf is_dup p) (has_leaf is_switch_assignment p) (has_leaf (is_link_outside topo.links) p) h in
    record {
      table = table;
      tag_is = is;
      topology = topology;
      numbered = numbered;
      tag_free = all.0;
      dups_in_links = all.1;
      switch_in_links = all.2;
      links_declared = all.3;
    }

-- a clear policy that ends at edge ports is compilable
pub is_compilable : (fields : FieldTable) (topo : Topology) (tag : ℕ) (p : Policy) → IsClear fields topo tag p → EndsOnEdges fields topo p → IsCompilable fields topo p
is_compilable fields topo tag p k ends = record {
  tag = tag;
  tag_declared = k.tag_is;
  tag_free = k.tag_free;
  dups_in_links = k.dups_in_links;
  switch_in_links = k.switch_in_links;
  links_declared = k.links_declared;
  ends_on_edges = ends;
}

module _ (fields : FieldTable) (topo : Topology) (tag : ℕ) (p : Policy) (is : fields.tag ≡ Some tag) (none : static_refusal_with tag topo p ≡ None) where
  -- nothing is seen
  pub none_seen : static_refusal fields topo p ≡ None
  none_seen = ap (λ o. static_refusal_for o topo p) is ∙ none

  -- the least history off each edge port is a reason
  pub off_error : (old : StoreState) (states : List ℕ) (e : CompileError) → ((f : Found) → IsLeastOff topo tag old states f → IsLeast (EndsOffEdge fields topo p) f) →
      IsOffFault topo tag old states e → IsEarlyError fields topo p e
  off_error old states NoMemory to h = tt
  off_error old states (Refused (OffEdge start history)) to h = (none_seen, to (found_from start history) h)
  off_error old states e to h = absurd h

-- a reason before tags are numbered is one
pub early_error : (fields : FieldTable) (topo : Topology) (p : Policy) (e : CompileError) → IsEarlyError fields topo p e → IsError fields topo p e
early_error fields topo p NoMemory h = tt
early_error fields topo p (Refused NoPolicy) h = absurd h
early_error fields topo p (Refused NoTag) h = absurd h
early_error fields topo p (Refused (TooManyTags found)) h = absurd h
early_error fields topo p e h = h

-- so are too many sets
pub many_error : (fields : FieldTable) (topo : Topology) (tag : ℕ) (p : Policy) → fields.tag ≡ Some tag → IsUnopposed fields topo p →
    (levels : List (List (ℕ × ℕ))) (max : ℕ) (e : CompileError) → max ≡ slice_index fields.maxima tag →
    ((least : ℕ) → AtLeast least (IsAtOdd levels) → AtLeast least (IsTagSet p (IsStartPacket fields topo))) → IsTagFault levels 0 max e → IsError fields topo p e
many_error fields topo tag p is alone levels max NoMemory most to h = tt
many_error fields topo tag p is alone levels max (Refused (TooManyTags found)) most to h = (
  alone.0,
  alone.1,
  h.0 ∙ ap (λ n. n + 1) (most ∙ sym (ap (most_tags fields) is)),
  subst (λ n. AtLeast n (IsTagSet p (IsStartPacket fields topo))) (let e = h.1.2 in omega (arith, e)) (to h.1.0 h.1.1),
)
many_error fields topo tag p is alone levels max e most to h = absurd h
