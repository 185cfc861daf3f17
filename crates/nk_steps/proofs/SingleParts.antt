-- The steps of diagrams stay so while the store and the sets grow, and are made part by part.
use Rattle.std.proofs.Common.{◌≡◌, ℕ, ◌+◌, ◌<◌, ◌≤◌, cond, eqb, List, [], ◌∷◌, ◌++◌, Option, Some, None, refl, sym, ◌∙◌, ap, subst, arith, get_or, inl, inr}
use Rattle.std.specs.Map.{lookup}
use Rattle.std.proofs.lemmas.Bool.Decides.{leb_tells, eqb_tells}
use Rattle.nk_store.specs.declared.node.Out.{Out}
use Rattle.nk_store.specs.Nodes.{child_at}
use Rattle.nk_store.specs.StoreState.{StoreState, IsId, look, root_field, Grows, HasLeaves}
use Rattle.nk_apply.specs.Cofactors.{cofactor, IsPart, IsSplit}
use Rattle.nk_apply.proofs.Built.{Built, part_old, built_parts, built_leaf}
use Rattle.nk_apply.proofs.Turned.{turned, turned_push, turned_made, turned_past}
use Rattle.nk_determ.specs.Sets.{SetsGrow}
use Rattle.nk_determ.proofs.Interned.{sets_on, sets_same}
use Rattle.nk_steps.specs.Single.{single_to, IsSingleIn, AreLeafSteps, IsSingle, AreSingle, AreSingleBy}
use Rattle.nk_steps.proofs.SingleLeaves.{single_grow}

-- the steps of a diagram stay so while the sets and the store grow after them
pub single_on : (old st new : StoreState) (sets more : List (List ℕ)) (d r : ℕ) → Grows st new → SetsGrow sets more → IsSingle old d st sets r → IsSingle old d new more r
single_on old st new sets more d r g s k = record {
  leaves = λ later h.
      let l = k.leaves later (sets_on sets more later s h) in
      record { id = g.ids r l.id; leaf = λ pk w. g.leaves r pk l.id ∙ l.leaf pk w };
  single = λ pk. single_grow sets more (look old d pk) s (k.single pk);
  later = subst (λ t. root_field old d ≤ t) (sym (g.root_fields r (k.leaves sets (sets_same sets)).id)) k.later;
}

-- the steps of an earlier store's diagram are those of the same diagram now
pub single_now : (old st new : StoreState) (sets : List (List ℕ)) (d r : ℕ) → Grows old st → IsId old d → IsSingle old d new sets r → IsSingle st d new sets r
single_now old st new sets d r g i k = record {
  leaves = λ later h.
      let l = k.leaves later h in
      record { id = l.id; leaf = λ pk w. l.leaf pk w ∙ ap (λ os. single_to later os) (sym (g.leaves d pk i)) };
  single = λ pk. subst (IsSingleIn sets) (sym (g.leaves d pk i)) (k.single pk);
  later = subst (λ t. t ≤ root_field new r) (sym (g.root_fields d i)) k.later;
}

-- a table of them stays one
pub single_table_grow : (old new : StoreState) (sets more : List (List ℕ)) (entries : List (ℕ × ℕ)) → Grows old new → SetsGrow sets more → AreSingle old sets entries → AreSingle new more entries
single_table_grow old new sets more entries g s are d r e =
    let k = are d r e in
    (g.ids d k.0, single_now old new new more d r g k.0 (single_on old old new sets more d r g s k.1))

-- a table with one more entry
pub single_table_put : (st new : StoreState) (sets : List (List ℕ)) (d r : ℕ) (entries more : List (ℕ × ℕ)) → AreSingle new sets entries →
    Grows st new → IsId st d → IsSingle st d new sets r →
    ((q : ℕ) → lookup (eqb q) more ≡ cond (eqb d q) (Some r) (lookup (eqb q) entries)) → AreSingle new sets more
single_table_put st new sets d r entries more are g i one put q z e =
    elim (eqb_tells d q) [
      | inl same ↦
          let is : Some r ≡ Some z = sym (put q ∙ ap (λ b. cond b (Some r) (lookup (eqb q) entries)) same.0) ∙ e in
          let z_is : r ≡ z = ap (value_or r) is in
          subst (λ k. IsId new k × IsSingle new k new sets z) same.1
          (subst (λ x. IsId new d × IsSingle new d new sets x) z_is (g.ids d i, single_now st new new sets d r g i one))
      | inr other ↦ are q z (sym (put q ∙ ap (λ b. cond b (Some r) (lookup (eqb q) entries)) other.0) ∙ e)
    ]
  where
    value_or : ℕ → Option ℕ → ℕ
    value_or d None = d
    value_or d (Some x) = x

-- the parts are those of the steps for the values so far, whatever sets come later
abbrev pub AreBuiltSingle : StoreState → StoreState → List (List ℕ) → ℕ → ℕ → ℕ → List (ℕ × ℕ) → Type 0
AreBuiltSingle old st sets f d from ps =
    (later : List (List ℕ)) → SetsGrow sets later → Built (turned (λ pk. pk) (λ pk os. single_to later os) old f d) st f from ps

-- each leaf for the values so far has one label at most
abbrev pub AreSingleUpTo : StoreState → List (List ℕ) → ℕ → ℕ → ℕ → Type 0
AreSingleUpTo old sets f d from = (v : ℕ) → v < from → (pk : List ℕ) → IsSingleIn sets (look old (cofactor old f v d) pk)

module _ (old st new : StoreState) (sets more : List (List ℕ)) (f d from : ℕ) (p : ℕ × ℕ) (r : ℕ)
    (s : SetsGrow sets more) (g : Grows old st) (i : IsId old d) (split : IsSplit old f d) (part : IsPart st f d from p) (k : IsSingle st p.1 new more r) where
  -- one part more
  pub single_built_more : (ps : List (ℕ × ℕ)) → AreBuiltSingle old st sets f d from ps → Grows st new → AreBuiltSingle old new more f d (p.0 + 1) (ps ++ (p.0, r) ∷ [])
  single_built_more ps built h = λ later l.
      turned_push (λ pk. pk) (λ _ _ os. single_to later os) old st new f d from ps p r (built later (sets_on sets more later s l)) g h i split part (k.leaves later l) (omega (arith, part.child.later, k.later))

  -- and its leaves
  pub single_more : AreSingleUpTo old sets f d from → AreSingleUpTo old more f d (p.0 + 1)
  single_more held v l = elim (leb_tells from v) [
    | inr before ↦ λ pk. single_grow sets more (look old (cofactor old f v d) pk) s (held v before.1 pk)
    | inl here ↦ λ pk. subst (IsSingleIn more) (part_old old st f d from v p pk g i split part here.1 (omega (arith, l))) (k.single pk)
  ]

-- a diagram with such leaves at each value up to the largest has such leaves
pub single_whole : (old : StoreState) (sets : List (List ℕ)) (f d e : ℕ) → IsSplit old f d → e ≡ get_or old.maxes f 0 → AreSingleUpTo old sets f d (e + 1) → (pk : List ℕ) → IsSingleIn sets (look old d pk)
single_whole old sets f d e s is held pk = subst (IsSingleIn sets) (sym (s.leaf pk)) (at (get_or pk f 0))
  where
    at : (v : ℕ) → IsSingleIn sets (look old (cofactor old f v d) pk)
    at v = elim (leb_tells v e) [
      | inl within ↦ held v (omega (arith, within.1)) pk
      | inr far ↦ subst (λ k. IsSingleIn sets (look old k pk)) (sym (s.past v (omega (arith, far.1, is)) ∙ ap (λ m. cofactor old f m d) (sym is))) (held e (omega arith) pk)
    ]

-- the node of such parts has the steps of the whole diagram
pub node_single : (old st new : StoreState) (sets : List (List ℕ)) (f d r : ℕ) (ps : List (ℕ × ℕ)) → IsSplit old f d → root_field old d ≤ root_field new r →
    AreSingleBy old f d st sets ps → HasLeaves new r (λ pk. look st (child_at 0 ps (get_or pk f 0)) pk) → IsSingle old d new sets r
node_single old st new sets f d r ps s high all h = record {
  leaves = λ later g. turned_made (λ pk. pk) (λ pk os. single_to later os) old st new f d r ps s (λ pk. refl) (all.leaves later g) h;
  single = all.single;
  later = high;
}

-- a leaf of the steps of a leaf
pub leaf_single : (old new : StoreState) (sets : List (List ℕ)) (d r : ℕ) (outs : List Out) → AreLeafSteps old d sets outs → HasLeaves new r (λ pk. outs) → root_field new r ≡ 18 → IsSingle old d new sets r
leaf_single old new sets d r outs k h high = record {
  leaves = λ later g. record { id = h.id; leaf = λ pk w. h.leaf pk w ∙ (k.steps pk).steps later g };
  single = λ pk. (k.steps pk).single;
  later = omega (arith, k.leaf, high);
}

-- parts that serve all values of the field are those of the steps
pub parts_single : (old new : StoreState) (sets : List (List ℕ)) (f d e : ℕ) (ps : List (ℕ × ℕ)) → f < 18 → IsSplit old f d → e ≡ get_or old.maxes f 0 → e ≡ get_or new.maxes f 0 →
    AreBuiltSingle old new sets f d (e + 1) ps → AreSingleUpTo old sets f d (e + 1) → AreSingleBy old f d new sets ps
parts_single old new sets f d e ps low s is now built held = record {
  parts = built_parts (turned (λ pk. pk) (λ pk os. single_to sets os) old f d) new f e ps (built sets (sets_same sets)) low now;
  leaves = λ later h v pk w. built_leaf (turned (λ pk. pk) (λ pk os. single_to later os) old f d) new f e ps (built later h)
      (turned_past (λ pk. pk) (λ pk os. single_to later os) old f d e s is) v pk w;
  single = single_whole old sets f d e s is held;
}
