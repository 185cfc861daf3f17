-- What is seen of a policy's tree, whether a packet comes there or not, the first in order: the tag is used, a dup or an
-- assignment of the switch stands outside of a link literal, or a literal is none of the links.
use Rattle.std.specs.Prelude.{ℕ, Option, Some, None, if◌then◌else◌, List}
use Rattle.nk_topo.specs.Topology.{Link}
use Rattle.nk_policy.specs.Policy.{Policy}
use Rattle.nk_policy.specs.Leaves.{has_leaf, is_on_field, is_dup, is_switch_assignment}
use Rattle.nk_names.specs.Accepted.{is_link_outside}
use Rattle.nk_static.specs.declared.faults.StaticFault.{StaticFault}
use Rattle.nk_static.specs.declared.faults.StaticFault.TheVariants.{TagUsed, LooseDup, SwitchSet, NoSuchLink}

abbrev pub static_fault_of : (tag : ℕ) → (links : List Link) → Policy → Option StaticFault
static_fault_of tag links p =
    if has_leaf (is_on_field tag) p then Some TagUsed
    else if has_leaf is_dup p then Some LooseDup
    else if has_leaf is_switch_assignment p then Some SwitchSet
    else if has_leaf (is_link_outside links) p then Some NoSuchLink
    else None
