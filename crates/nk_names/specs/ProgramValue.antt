-- A program as a plain value, and what holds of each program: its policies are numbered from 1 in text order, have at most
-- 1,048,576 elements and are at most 256 deep, they name fields of the program and values in range, each complement is of
-- a predicate, and declared maxima are at most the largest number of a text. Virtual links lead between declared ports over
-- fabrics (virtual networks: Casado et al., PRESTO 2010).
use Rattle.std.specs.Prelude.{◌≡◌, ℕ, ◌≤◌, true, List, All, AllPairs, IsTrue}
use Rattle.nk_field.specs.Packet.{FieldTable, IsFieldTable}
use Rattle.nk_topo.specs.Topology.{Topology, Link, IsTopology, is_port}
use Rattle.nk_policy.specs.Policy.{Policy, marked_from, size_of, depth_of, is_predicate}
use Rattle.nk_policy.specs.Ranges.{IsInRange, IsOverFields}
use Rattle.nk_names.specs.Complements.{NegatesPredicates}

-- a link that isn't there: its ends, and its fabric, the policy that takes packets from the one end to the other
pub record VirtualLink : Type 0 where
  pub ends : Link
  pub fabric : Policy

-- policies and fabrics by name, and virtual links, all in the order of the text
pub record ProgramValue : Type 0 where
  pub fields : FieldTable
  pub topo : Topology
  pub lets : List (List ℕ × Policy)
  pub fabrics : List (List ℕ × Policy)
  pub virtuals : List VirtualLink

abbrev pub IsNumberedFromOne : Policy → Type 0
IsNumberedFromOne p = marked_from p 1 ≡ p

-- what holds of a named policy of a program with these fields
pub record IsLet (fields : FieldTable) (p : Policy) : Type 0 where
  pub numbered : IsNumberedFromOne p
  pub small : size_of p ≤ 1048576
  pub shallow : depth_of p ≤ 256
  pub over : IsOverFields fields p
  pub in_range : IsInRange p fields
  pub complements : NegatesPredicates p

-- what holds of the policy of a certificate's row, for a program with these fields: it is a predicate
pub record IsRowPolicy (fields : FieldTable) (p : Policy) : Type 0 where
  pub predicate : is_predicate p ≡ true
  pub shallow : depth_of p ≤ 256
  pub over : IsOverFields fields p
  pub in_range : IsInRange p fields
  pub complements : NegatesPredicates p

pub record IsProgram (fields : FieldTable) (topo : Topology) (lets : List (List ℕ × Policy)) : Type 0 where
  pub table : IsFieldTable fields
  pub maxima : All (λ m. m ≤ 281474976710655) fields.maxima
  pub topology : IsTopology topo
  pub policies : All (λ l. IsLet fields l.1) lets

-- the virtual links begin at one port
abbrev pub HaveOneSource : VirtualLink → VirtualLink → Type 0
HaveOneSource k l = (k.ends.from_switch ≡ l.ends.from_switch) × (k.ends.from_port ≡ l.ends.from_port)

-- the virtual links end at one port
abbrev pub HaveOneTarget : VirtualLink → VirtualLink → Type 0
HaveOneTarget k l = (k.ends.to_switch ≡ l.ends.to_switch) × (k.ends.to_port ≡ l.ends.to_port)

-- Fabrics and virtual links of a program with these fields and this topology: each fabric is as a named policy is, that of a
-- virtual link too, a virtual link leads from a declared port to one, and no two of them begin at one port or end at one.
pub record AreVirtual (fields : FieldTable) (topo : Topology) (fabrics : List (List ℕ × Policy)) (virtuals : List VirtualLink) : Type 0 where
  pub policies : All (λ f. IsLet fields f.1) fabrics
  pub over : All (λ k. IsLet fields k.fabric) virtuals
  pub sources : All (λ k. IsTrue (is_port topo k.ends.from_switch k.ends.from_port)) virtuals
  pub targets : All (λ k. IsTrue (is_port topo k.ends.to_switch k.ends.to_port)) virtuals
  pub one_from : AllPairs (λ k l. ¬ (HaveOneSource k l)) virtuals
  pub one_to : AllPairs (λ k l. ¬ (HaveOneTarget k l)) virtuals
