-- What is seen of a policy, told by its leaves.
use Rattle.std.proofs.Common.{◌≡◌, ℕ, Bool, false, Option, Some, None, List, refl}
use Rattle.std.specs.Prelude.{if◌then◌else◌}
use Rattle.nk_topo.specs.Topology.{Link}
use Rattle.nk_policy.specs.Policy.{Policy}
use Rattle.nk_policy.specs.Leaves.{has_leaf, is_on_field, is_dup, is_switch_assignment}
use Rattle.nk_names.specs.Accepted.{is_link_outside}
use Rattle.nk_static.specs.StaticFaults.{static_fault_of}
use Rattle.nk_static.specs.declared.faults.StaticFault.{StaticFault}
use Rattle.nk_static.specs.declared.faults.StaticFault.TheVariants.{TagUsed, LooseDup, SwitchSet, NoSuchLink}

-- the first of four tests that passes
abbrev first_of_four : Bool → Bool → Bool → Bool → Option StaticFault
first_of_four a b c d =
    if a then Some TagUsed else if b then Some LooseDup else if c then Some SwitchSet else if d then Some NoSuchLink else None

-- where none passes, each fails
each_fails : (a b c d : Bool) → first_of_four a b c d ≡ None → (a ≡ false) × (b ≡ false) × (c ≡ false) × (d ≡ false)
each_fails false false false false e = (refl, refl, refl, refl)
each_fails a b c d e = absurd cc

-- and back
none_passes : (a b c d : Bool) → a ≡ false → b ≡ false → c ≡ false → d ≡ false → first_of_four a b c d ≡ None
none_passes false false false false e f g h = refl
none_passes a b c d e f g h = absurd cc

module _ (tag : ℕ) (links : List Link) (p : Policy) where
  -- no leaf is what is looked for
  pub record HasNone : Type 0 where
    pub tag_free : has_leaf (is_on_field tag) p ≡ false
    pub dups_in_links : has_leaf is_dup p ≡ false
    pub switch_in_links : has_leaf is_switch_assignment p ≡ false
    pub links_among : has_leaf (is_link_outside links) p ≡ false

  pub unseen : static_fault_of tag links p ≡ None → HasNone
  unseen e =
      let r = each_fails (has_leaf (is_on_field tag) p) (has_leaf is_dup p) (has_leaf is_switch_assignment p) (has_leaf (is_link_outside links) p) e in
      record { tag_free = r.0; dups_in_links = r.1; switch_in_links = r.2; links_among = r.3 }

  pub nothing_seen : HasNone → static_fault_of tag links p ≡ None
  nothing_seen h =
      none_passes (has_leaf (is_on_field tag) p) (has_leaf is_dup p) (has_leaf is_switch_assignment p) (has_leaf (is_link_outside links) p) h.tag_free h.dups_in_links h.switch_in_links h.links_among
