-- Tags that are numbered after others stand for the same sets, each at its place after them.
use Rattle.std.proofs.Common.{◌≡◌, ◌≢◌, ℕ, zero, suc, ◌+◌, Some, List, [], ◌∷◌, sym, ap, ◌∙◌, arith}
use Rattle.std.specs.Prelude.{slice_get}
use Rattle.nk_field.specs.Packet.{FieldTable}
use Rattle.nk_topo.specs.Topology.{Topology}
use Rattle.nk_policy.specs.Policy.{Policy}
use Rattle.nk_table.specs.declared.Tables.{Tables}
use Rattle.nk_compile.specs.WholeTable.{IsTableOf}
use Rattle.nk_compile.specs.NumberedAfter.{tags_after, IsTableAfter}
use Rattle.nk_compile.proofs.Reached.{same_some}
use Rattle.nk_compile.proofs.TagPlaces.{StandOnce}

-- the set after so many others
get_after : (n : ℕ) (tags : List (List ℕ)) (i : ℕ) → slice_get (tags_after n tags) (n + i) ≡ slice_get tags i
get_after zero tags i = let e : 0 + i ≡ i = omega arith in ap (λ m. slice_get tags m) e
get_after (suc n) tags i =
    let e : suc n + i ≡ suc (n + i) = omega arith in
    ap (λ m. slice_get ([] ∷ tags_after n tags) m) e ∙ get_after n tags i

-- a set that isn't empty stands after them
pub from_after :
    (n : ℕ) (tags : List (List ℕ)) (i : ℕ) (s : List ℕ) → s ≢ [] → slice_get (tags_after n tags) i ≡ Some s
    → (j : ℕ) × (i ≡ n + j) × (slice_get tags j ≡ Some s)
from_after zero tags i s some e = (i, omega arith, e)
from_after (suc n) tags zero s some e = absurd (some (sym (same_some [] s e)))
from_after (suc n) tags (suc i) s some e =
    let r = from_after n tags i s some e in
    let is : i ≡ n + r.0 = r.1 in
    (r.0, omega (arith, is), r.2)

-- each tag set stands after them, at one place
pub stand_after :
    (n : ℕ) (p : Policy) (Start : List ℕ → Type 0) (tags : List (List ℕ)) → StandOnce p Start tags
    → StandOnce p Start (tags_after n tags)
stand_after n p Start tags k = record {
  stands = λ s h. let i = k.stands s h in (n + i.0, get_after n tags i.0 ∙ i.1);
  once = λ s i j some e f.
      let a = from_after n tags i s some e in
      let b = from_after n tags j s some f in
      a.1 ∙ ap (λ m. n + m) (k.once s a.0 b.0 some a.2 b.2) ∙ sym b.1;
}

-- the printed tables are those after no tag
pub after_none :
    (fields : FieldTable) (topo : Topology) (Start : List ℕ → Type 0) (p : Policy) (t : Tables)
    → IsTableOf fields topo Start p t → IsTableAfter 0 fields topo Start p t
after_none fields topo Start p t h = record {
  tag = h.tag;
  tags = h.tags;
  tag_declared = h.tag_declared;
  in_order = h.in_order;
  same_fields = h.same_fields;
  same_topology = h.same_topology;
  switches = h.switches;
  each = h.each;
}
