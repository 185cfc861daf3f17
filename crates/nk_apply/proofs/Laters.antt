-- A diagram put together of two tests no field before those that they test, and what is said of it by an earlier store.
use Rattle.std.proofs.Common.{ℕ, ◌≤◌, min, List, Option, Some, None, IfSome, refl, sym, ◌∙◌, ap, arith, set, inl, inr}
use Rattle.std.proofs.lemmas.Bool.Decides.{leb_tells}
use Rattle.std.proofs.lemmas.List.{length-set}
use Rattle.nk_store.specs.declared.node.Out.{Out}
use Rattle.nk_store.specs.declared.node.Node.{Node}
use Rattle.nk_store.specs.declared.node.Node.TheVariants.{Leaf, Case}
use Rattle.nk_store.specs.StoreState.{StoreState, IsId, node_of, look, root_field, HasLeaves, IsNodeOf, IsStill, IsReduced}

-- a diagram tests one of the eighteen fields or none
root_field_bound : (st : StoreState) (d : ℕ) (n : Node) → IsNodeOf st d n → root_field st d ≤ 18
root_field_bound st d (Leaf outs) k = omega (arith, k.root_field_is)
root_field_bound st d (Case f ps) k = omega (arith, k.root_field_is, k.parts_ok.field)

-- it tests no field before those of both
later_by : (J : List Out → List Out → List Out) (st : StoreState) (a b d : ℕ) → IsReduced st d → IsStill st a →
    IsStill st b → root_field st a ≤ 18 → HasLeaves st d (λ pk. J (look st a pk) (look st b pk)) →
    min (root_field st a) (root_field st b) ≤ root_field st d
later_by J st a b d r sa sb h g =
    let f = root_field st d in
    elim (leb_tells (min (root_field st a) (root_field st b)) f) [
      | inl ok ↦ ok.1
      | inr less ↦ absurd (r.tests f (omega (arith, less.1, h)) refl (λ v pk w.
          g.leaf (set pk f v) (length-set pk f v ∙ w)
          ∙ ap (λ x. J x (look st b (set pk f v))) (sa.leaf f v pk (omega (arith, less.1)))
          ∙ ap (λ y. J (look st a pk) y) (sb.leaf f v pk (omega (arith, less.1)))
          ∙ sym (g.leaf pk w)))
    ]

-- an answer that may be none tests no field before those of both
pub known_later : (J : List Out → List Out → List Out) (st : StoreState) (a b : ℕ) (o : Option ℕ) →
    ((d : ℕ) → IsId st d → IsReduced st d) → ((d : ℕ) → IsId st d → IsStill st d) →
    ((d : ℕ) → IsId st d → IsNodeOf st d (node_of st d)) → IsId st a → IsId st b →
    IfSome o (λ d. HasLeaves st d (λ pk. J (look st a pk) (look st b pk))) →
    IfSome o (λ d. min (root_field st a) (root_field st b) ≤ root_field st d)
known_later J st a b None r s n ia ib h = tt
known_later J st a b (Some d) r s n ia ib h = later_by J st a b d (r d h.id) (s a ia) (s b ib) (root_field_bound st a (node_of st a) (n a ia)) h
