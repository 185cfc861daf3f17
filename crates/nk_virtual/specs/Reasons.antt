-- Why there is no physical policy of a name, the first reason in order: the name has no policy, or there is no tag; then of
-- each virtual link, in the order of where they begin, what is seen of its fabric, a history off target, or a packet without
-- a history; then what is seen of the policy; then its size.
use Rattle.std.specs.Prelude.{◌≡◌, ◌<◌, ◌⊎◌, ℕ, IsTrue, Option, Some, None, List, map, All, Contains}
use Rattle.nk_field.specs.Packet.{FieldTable}
use Rattle.nk_topo.specs.Topology.{Topology, starts_below}
use Rattle.nk_policy.specs.Policy.{Policy, size_of}
use Rattle.nk_names.specs.declared.Program.{Program}
use Rattle.nk_names.specs.Named.{policy_named}
use Rattle.nk_names.specs.ProgramValue.{VirtualLink}
use Rattle.nk_static.specs.StaticFaults.{static_fault_of}
use Rattle.nk_virtual.specs.Carriage.{IsOnTarget, IsFirstOffTarget, IsFirstNotCarried, history_from}
use Rattle.nk_virtual.specs.Fabrics.{IsCarried}
use Rattle.nk_virtual.specs.Physical.{physical}
use Rattle.nk_virtual.specs.declared.refusal.VirtualRefusal.{VirtualRefusal}
use Rattle.nk_virtual.specs.declared.refusal.VirtualRefusal.TheVariants.{NoPolicy, NoTag, Static, OffTarget, NotCarried, TooLarge}

-- the virtual link begins at a lower switch than the other, or at a lower port of the same one
abbrev pub BeginsBefore : VirtualLink → VirtualLink → Type 0
BeginsBefore j k = IsTrue (starts_below k.ends.from_switch k.ends.from_port j.ends)

-- nothing is seen of the fabric over the declared links, and it carries its virtual link
pub record IsUsable (fields : FieldTable) (topo : Topology) (tag : ℕ) (k : VirtualLink) : Type 0 where
  pub plain : static_fault_of tag topo.links k.fabric ≡ None
  pub carried : IsCarried fields k

-- the numbers are of the switch and the port where the virtual link begins
abbrev pub IsSourceOf : VirtualLink → ℕ → ℕ → Type 0
IsSourceOf k switch port = (switch ≡ k.ends.from_switch) × (port ≡ k.ends.from_port)

-- what is wrong with a virtual link, the first in order
abbrev pub IsFlawOf : FieldTable → Topology → ℕ → VirtualLink → VirtualRefusal → Type 0
IsFlawOf fields topo tag k (Static static_kind) = static_fault_of tag topo.links k.fabric ≡ Some static_kind
IsFlawOf fields topo tag k (OffTarget switch port start history) =
    (static_fault_of tag topo.links k.fabric ≡ None)
    × IsSourceOf k switch port
    × IsFirstOffTarget fields k (history_from start history)
IsFlawOf fields topo tag k (NotCarried switch port start) =
    (static_fault_of tag topo.links k.fabric ≡ None)
    × IsSourceOf k switch port
    × IsOnTarget fields k
    × IsFirstNotCarried fields k start
IsFlawOf fields topo tag k _ = ⊥

-- what is found of a virtual link: it is usable, or this is wrong with it
abbrev pub IsVerdictOf : FieldTable → Topology → ℕ → VirtualLink → Option VirtualRefusal → Type 0
IsVerdictOf fields topo tag k None = IsUsable fields topo tag k
IsVerdictOf fields topo tag k (Some r) = IsFlawOf fields topo tag k r

-- this is wrong with one of the virtual links, and each that begins before it is usable
pub record IsFirstFlaw (fields : FieldTable) (topo : Topology) (tag : ℕ) (links : List VirtualLink) (r : VirtualRefusal) : Type 0 where
  pub link : VirtualLink
  pub held : Contains links link
  pub flaw : IsFlawOf fields topo tag link r
  pub before : (j : VirtualLink) → Contains links j → BeginsBefore j link → IsUsable fields topo tag j

-- what is found of virtual links: all are usable, or this is wrong with the first that isn't
abbrev pub IsFirstVerdict : FieldTable → Topology → ℕ → List VirtualLink → Option VirtualRefusal → Type 0
IsFirstVerdict fields topo tag links None = All (IsUsable fields topo tag) links
IsFirstVerdict fields topo tag links (Some r) = IsFirstFlaw fields topo tag links r

-- what is wrong with a policy over usable virtual links: what is seen of it, a literal of no virtual link last, and then the
-- size of its physical policy
abbrev pub IsFlawOver : List VirtualLink → ℕ → Policy → VirtualRefusal → Type 0
IsFlawOver links tag p (Static static_kind) = static_fault_of tag (map (λ k. k.ends) links) p ≡ Some static_kind
IsFlawOver links tag p TooLarge =
    (static_fault_of tag (map (λ k. k.ends) links) p ≡ None) × (1048576 < size_of (physical links p))
IsFlawOver links tag p _ = ⊥

-- what is wrong with a policy where the tag is known: the first flaw of a virtual link, and where all virtual links are usable the policy's
-- own flaw
abbrev pub IsLaterFlaw : FieldTable → Topology → List VirtualLink → ℕ → Policy → VirtualRefusal → Type 0
IsLaterFlaw fields topo links tag p r =
    IsFirstFlaw fields topo tag links r ⊎ (All (IsUsable fields topo tag) links × IsFlawOver links tag p r)

-- why a policy has no physical policy
abbrev pub IsReasonAgainst : FieldTable → Topology → List VirtualLink → Policy → VirtualRefusal → Type 0
IsReasonAgainst fields topo links p NoPolicy = ⊥
IsReasonAgainst fields topo links p NoTag = fields.tag ≡ None
IsReasonAgainst fields topo links p r =
    (tag : ℕ) × (fields.tag ≡ Some tag) × IsLaterFlaw fields topo links tag p r

-- why a name has none
abbrev pub IsVirtualReason : Program → List ℕ → VirtualRefusal → Type 0
IsVirtualReason program name NoPolicy = policy_named program name ≡ None
IsVirtualReason program name r =
    (p : Policy) × (policy_named program name ≡ Some p) × IsReasonAgainst program.fields program.topo program.virtuals p r
