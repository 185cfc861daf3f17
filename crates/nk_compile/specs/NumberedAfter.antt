-- The printed tables of a policy whose tags are numbered after tags that are given already.
use Rattle.std.specs.Prelude.{◌≡◌, ℕ, zero, suc, Some, List, [], ◌∷◌, map, All}
use Rattle.nk_field.specs.Packet.{FieldTable}
use Rattle.nk_topo.specs.Topology.{Topology}
use Rattle.nk_policy.specs.Policy.{Policy}
use Rattle.nk_policy.specs.Tags.{AreTags}
use Rattle.nk_table.specs.declared.Tables.{Tables}
use Rattle.nk_compile.specs.WholeTable.{IsSwitchTable}

-- tags that stand for no set, so many, and after them those of these sets: numbers go on after those that are given already
abbrev pub tags_after : ℕ → List (List ℕ) → List (List ℕ)
tags_after zero sets = sets
tags_after (suc n) sets = [] ∷ tags_after n sets

-- the tables that are printed for a policy whose packets start where Start holds, its tags numbered after the first ones
pub record IsTableAfter (first : ℕ) (fields : FieldTable) (topo : Topology) (Start : List ℕ → Type 0) (p : Policy) (t : Tables) : Type 0 where
  pub tag : ℕ
  pub tags : List (List ℕ)
  pub tag_declared : fields.tag ≡ Some tag
  pub in_order : AreTags p Start tags
  pub same_fields : t.fields ≡ fields
  pub same_topology : t.topo ≡ topo
  pub switches : map (λ s. s.switch) t.tables ≡ map (λ s. s.switch) topo.switches
  pub each : All (IsSwitchTable fields tag p (tags_after first tags)) t.tables
