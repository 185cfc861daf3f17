-- A policy that is built over usable virtual links is the physical policy.
use Rattle.std.proofs.Common.{◌≡◌, ℕ, ◌≤◌, false, Some, None, List, refl, sym, subst, arith}
use Rattle.std.specs.Prelude.{Result, Ok, Err, map, All}
use Rattle.std.proofs.lemmas.List.Elements.{All-weaker}
use Rattle.nk_field.specs.Packet.{FieldTable, IsFieldTable, IsValue}
use Rattle.nk_topo.specs.Topology.{Topology}
use Rattle.nk_policy.specs.Policy.{Policy, size_of, marked_from}
use Rattle.nk_policy.specs.Ranges.{IsOverFields}
use Rattle.nk_policy.specs.Tree.{tree_of}
use Rattle.nk_policy.specs.declared.policy.Pol.{Pol}
use Rattle.nk_policy.specs.Leaves.{has_leaf, is_on_field, is_dup, is_switch_assignment}
use Rattle.nk_policy.specs.Complements.{NegatesPredicates}
use Rattle.nk_policy.proofs.Uses.{marked_uses}
use Rattle.nk_names.specs.Accepted.{is_link_outside}
use Rattle.nk_names.specs.ProgramValue.{VirtualLink, IsLet}
use Rattle.nk_names.specs.WellFormed.{IsWellFormed}
use Rattle.nk_names.proofs.Good.{few_dups, dups_marked, marked_again, negates_marked, over_in_range}
use Rattle.nk_static.specs.StaticFaults.{static_fault_of}
use Rattle.nk_virtual.specs.Answers.{IsBuilt, IsBuilding, IsPhysicalOf, IsAnswerOver}
use Rattle.nk_virtual.specs.Fabrics.{IsCarried, IsVirtual}
use Rattle.nk_virtual.specs.Physical.{physical}
use Rattle.nk_virtual.specs.Reasons.{IsUsable}
use Rattle.nk_virtual.specs.declared.refusal.VirtualError.{VirtualError}
use Rattle.nk_virtual.specs.declared.refusal.VirtualError.TheVariants.{NoMemory, Refused}
use Rattle.nk_virtual.specs.declared.refusal.VirtualRefusal.TheVariants.{TooLarge}
use Rattle.nk_virtual.proofs.StaticCauses.{HasNone, unseen, nothing_seen}
use Rattle.nk_virtual.proofs.StaticFaults.{physical_tag_free, physical_dups, physical_switch, physical_links}
use Rattle.nk_virtual.proofs.Staying.{physical_uses, physical_negates}
use Rattle.nk_virtual.proofs.Untagged.{physical_lies, virtual_laid, numbered}

module _ (fields : FieldTable) (topo : Topology) (links : List VirtualLink) (tag : ℕ) (p : Policy)
    (table : IsFieldTable fields) (declared : fields.tag ≡ Some tag)
    (usable : All (IsUsable fields topo tag) links) (fabrics : All (λ k. IsLet fields k.fabric) links) (fit : IsLet fields p)
    (plain : static_fault_of tag (map (λ k. k.ends) links) p ≡ None) where
  -- the physical policy
  abbrev made : Policy
  made = marked_from (physical links p) 1

  -- what holds of the fabric of each usable virtual link
  of_fabrics : (P : VirtualLink → Type 0) → ((k : VirtualLink) → HasNone tag topo.links k.fabric → P k) → All P links
  of_fabrics P h = All-weaker (IsUsable fields topo tag) P (λ k u. h k (unseen tag topo.links k.fabric u.plain)) links usable

  virtual : IsVirtual fields links p
  virtual =
      let u = unseen tag (map (λ k. k.ends) links) p plain in
      record {
        tag = tag;
        tag_declared = declared;
        tag_free = u.tag_free;
        in_range = fit.in_range;
        dups_in_links = u.dups_in_links;
        links_virtual = u.links_among;
        links_carried = All-weaker (IsUsable fields topo tag) (IsCarried fields) (λ k a. a.carried) links usable;
      }

  over : IsOverFields fields (physical links p)
  over = physical_uses (IsValue fields) links (All-weaker (λ k. IsLet fields k.fabric) (λ k. IsOverFields fields k.fabric) (λ k l. l.over) links fabrics) p fit.over

  complements : NegatesPredicates (physical links p)
  complements =
      physical_negates links (All-weaker (λ k. IsLet fields k.fabric) (λ k. NegatesPredicates k.fabric) (λ k l. l.complements) links fabrics) p fit.complements

  well_formed : size_of (physical links p) ≤ 1048576 → IsWellFormed fields made
  well_formed small =
      let numbered_over = (marked_uses (IsValue fields) (physical links p) 1).1 over in
      record {
        numbered = marked_again (physical links p) 1 1;
        few_dups = (let a = few_dups (physical links p) in let b = dups_marked (physical links p) 1 in omega (arith, a, b, small));
        over = numbered_over;
        in_range = over_in_range fields made numbered_over;
        complements = negates_marked (physical links p) 1 complements;
      }

  shown : static_fault_of tag topo.links made ≡ None
  shown =
      let u = unseen tag (map (λ k. k.ends) links) p plain in
      nothing_seen tag topo.links made record {
        tag_free =
            physical_tag_free links p u.links_among 1 tag (table.tag_past_port tag declared).0 u.tag_free
            (of_fabrics (λ k. has_leaf (is_on_field tag) k.fabric ≡ false) (λ k h. h.tag_free));
        dups_in_links =
            physical_dups links p u.links_among 1 u.dups_in_links
            (of_fabrics (λ k. has_leaf is_dup k.fabric ≡ false) (λ k h. h.dups_in_links));
        switch_in_links =
            physical_switch links p u.links_among 1 u.switch_in_links
            (of_fabrics (λ k. has_leaf is_switch_assignment k.fabric ≡ false) (λ k h. h.switch_in_links));
        links_among =
            physical_links links p u.links_among 1 topo.links fit.complements
            (of_fabrics (λ k. has_leaf (is_link_outside topo.links) k.fabric ≡ false) (λ k h. h.links_among));
      }

  is_physical : size_of (physical links p) ≤ 1048576 → IsPhysicalOf fields topo links tag p made
  is_physical small = record {
    usable = usable;
    plain = plain;
    virtual = virtual;
    built = record { small = small; numbered = refl };
    well_formed = well_formed small;
    shown = shown;
    lies = λ pk w last a b g.
        physical_lies fields links p table virtual pk w last a b ((numbered (physical links p) 1 pk w last).0 g);
    laid = λ pk v last a b g.
        let r = virtual_laid fields links p table virtual pk v last a b g in
        (r.0, (numbered (physical links p) 1 pk r.0 last).1 r.1, r.2);
  }

  -- and so is what is built
  pub built_is_physical : (q : Policy) → IsBuilt (physical links p) q → IsPhysicalOf fields topo links tag p q
  built_is_physical q b = subst (IsPhysicalOf fields topo links tag p) (sym b.numbered) (is_physical b.small)

  -- what comes of building is answered
  pub built_answer : (r : Result Pol VirtualError) → IsBuilding (physical links p) r → IsAnswerOver fields topo links tag p r
  built_answer (Ok q) b = built_is_physical (tree_of q) b
  built_answer (Err NoMemory) b = tt
  built_answer (Err (Refused TooLarge)) b = (plain, b)
  built_answer r b = absurd b
