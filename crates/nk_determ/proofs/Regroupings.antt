-- What is regrouped stays so while the store and the sets grow, and a diagram is regrouped part by part.
use Rattle.std.proofs.Common.{◌≡◌, ℕ, ◌+◌, ◌<◌, ◌≤◌, cond, eqb, List, [], ◌∷◌, ◌++◌, Option, Some, None, refl, sym, ◌∙◌, ap, subst, arith, get_or, inl, inr}
use Rattle.std.specs.Map.{lookup}
use Rattle.std.proofs.lemmas.Bool.Decides.{leb_tells, eqb_tells}
use Rattle.nk_store.specs.Nodes.{child_at}
use Rattle.nk_store.specs.StoreState.{StoreState, IsId, look, root_field, Grows, HasLeaves, IsWhole}
use Rattle.nk_apply.specs.Cofactors.{cofactor, IsPart, IsSplit}
use Rattle.nk_apply.proofs.Built.{Built, part_old}
use Rattle.nk_apply.proofs.Turned.{turned, turned_push, turned_made}
use Rattle.nk_determ.specs.Sets.{SetsGrow}
use Rattle.nk_determ.specs.States.{HasAll, HasSets, IsRegrouped, AreRegrouped, regrouped}
use Rattle.nk_determ.proofs.Interned.{sets_on, sets_same}
use Rattle.nk_determ.proofs.HaveSets.{sets_grow}

-- what is regrouped stays so while the sets and the store grow after it
pub regrouped_on : (old st new : StoreState) (sets more : List (List ℕ)) (d r : ℕ) → Grows st new → SetsGrow sets more → IsRegrouped old d st sets r → IsRegrouped old d new more r
regrouped_on old st new sets more d r g s k = record {
  leaves = λ later h.
      let l = k.leaves later (sets_on sets more later s h) in
      record { id = g.ids r l.id; leaf = λ pk w. g.leaves r pk l.id ∙ l.leaf pk w };
  held = sets_grow sets more old d s k.held;
}

-- what an earlier store's diagram was regrouped to is that of the same diagram now
pub regrouped_now : (old st new : StoreState) (sets : List (List ℕ)) (d r : ℕ) → Grows old st → IsId old d → IsRegrouped old d new sets r → IsRegrouped st d new sets r
regrouped_now old st new sets d r g i k = record {
  leaves = λ later h.
      let l = k.leaves later h in
      record { id = l.id; leaf = λ pk w. l.leaf pk w ∙ ap (λ os. regrouped later os) (sym (g.leaves d pk i)) };
  held = λ pk. subst (HasAll sets) (sym (g.leaves d pk i)) (k.held pk);
}

-- a table of them stays one
pub table_grow : (old new : StoreState) (sets more : List (List ℕ)) (entries : List (ℕ × ℕ)) → Grows old new → SetsGrow sets more → AreRegrouped old sets entries → AreRegrouped new more entries
table_grow old new sets more entries g s are d r e =
    let k = are d r e in
    let id : IsId old r = (k.1.leaves sets (sets_same sets)).id in (
      g.ids d k.0,
      regrouped_now old new new more d r g k.0 (regrouped_on old old new sets more d r g s k.1),
      subst (λ t. t ≤ root_field new r) (sym (g.root_fields d k.0)) (subst (λ t. root_field old d ≤ t) (sym (g.root_fields r id)) k.2),
    )

-- a table with one more entry
pub table_put : (st new : StoreState) (sets : List (List ℕ)) (d r : ℕ) (entries more : List (ℕ × ℕ)) → AreRegrouped new sets entries →
    Grows st new → IsId st d → IsRegrouped st d new sets r → root_field st d ≤ root_field new r →
    ((q : ℕ) → lookup (eqb q) more ≡ cond (eqb d q) (Some r) (lookup (eqb q) entries)) → AreRegrouped new sets more
table_put st new sets d r entries more are g i one high put q z e =
    elim (eqb_tells d q) [
      | inl same ↦
          let is : Some r ≡ Some z = sym (put q ∙ ap (λ b. cond b (Some r) (lookup (eqb q) entries)) same.0) ∙ e in
          let z_is : r ≡ z = ap (value_or r) is in
          subst (λ k. IsId new k × IsRegrouped new k new sets z × (root_field new k ≤ root_field new z)) same.1
          (subst (λ x. IsId new d × IsRegrouped new d new sets x × (root_field new d ≤ root_field new x)) z_is (
            g.ids d i,
            regrouped_now st new new sets d r g i one,
            subst (λ t. t ≤ root_field new r) (sym (g.root_fields d i)) high,
          ))
      | inr other ↦ are q z (sym (put q ∙ ap (λ b. cond b (Some r) (lookup (eqb q) entries)) other.0) ∙ e)
    ]
  where
    value_or : ℕ → Option ℕ → ℕ
    value_or d None = d
    value_or d (Some x) = x

-- the parts are those of the diagram for the values so far, whatever sets come later
abbrev pub AreBuilt : StoreState → StoreState → List (List ℕ) → ℕ → ℕ → ℕ → List (ℕ × ℕ) → Type 0
AreBuilt old st sets f d from ps =
    (later : List (List ℕ)) → SetsGrow sets later → Built (turned (λ pk. pk) (λ pk os. regrouped later os) old f d) st f from ps

-- the diagram has its sets at the values so far
abbrev pub AreHeld : StoreState → List (List ℕ) → ℕ → ℕ → ℕ → Type 0
AreHeld old sets f d from = (v : ℕ) → v < from → HasSets sets old (cofactor old f v d)

module _ (old st new : StoreState) (sets more : List (List ℕ)) (f d from : ℕ) (p : ℕ × ℕ) (r : ℕ)
    (s : SetsGrow sets more) (g : Grows old st) (i : IsId old d) (split : IsSplit old f d) (part : IsPart st f d from p) (k : IsRegrouped st p.1 new more r) where
  -- one part more
  pub built_more : (ps : List (ℕ × ℕ)) → AreBuilt old st sets f d from ps → Grows st new → root_field st p.1 ≤ root_field new r → AreBuilt old new more f d (p.0 + 1) (ps ++ (p.0, r) ∷ [])
  built_more ps built h high = λ later l.
      turned_push (λ pk. pk) (λ _ _ os. regrouped later os) old st new f d from ps p r (built later (sets_on sets more later s l)) g h i split part (k.leaves later l) (omega (arith, part.child.later, high))

  -- and its sets
  pub held_more : AreHeld old sets f d from → AreHeld old more f d (p.0 + 1)
  held_more held v l = elim (leb_tells from v) [
    | inr before ↦ sets_grow sets more old (cofactor old f v d) s (held v before.1)
    | inl here ↦ λ pk. subst (HasAll more) (part_old old st f d from v p pk g i split part here.1 (omega (arith, l))) (k.held pk)
  ]

-- a diagram that has its sets at each value up to the largest has them
pub held_whole : (old : StoreState) (sets : List (List ℕ)) (f d e : ℕ) → IsSplit old f d → e ≡ get_or old.maxes f 0 → AreHeld old sets f d (e + 1) → HasSets sets old d
held_whole old sets f d e s is held pk = subst (HasAll sets) (sym (s.leaf pk)) (at (get_or pk f 0))
  where
    at : (v : ℕ) → HasAll sets (look old (cofactor old f v d) pk)
    at v = elim (leb_tells v e) [
      | inl within ↦ held v (omega (arith, within.1)) pk
      | inr far ↦ subst (λ k. HasAll sets (look old k pk)) (sym (s.past v (omega (arith, far.1, is)) ∙ ap (λ m. cofactor old f m d) (sym is))) (held e (omega arith) pk)
    ]

-- the node of such parts is what is made of the whole diagram
pub node_regrouped : (old st new : StoreState) (sets : List (List ℕ)) (f d r : ℕ) (ps : List (ℕ × ℕ)) → IsSplit old f d →
    ((later : List (List ℕ)) → SetsGrow sets later → (v : ℕ) (pk : List ℕ) → IsWhole pk → look st (child_at 0 ps v) pk ≡ regrouped later (look old (cofactor old f v d) pk)) →
    HasSets sets old d → HasLeaves new r (λ pk. look st (child_at 0 ps (get_or pk f 0)) pk) → IsRegrouped old d new sets r
node_regrouped old st new sets f d r ps s all held h = record {
  leaves = λ later g. turned_made (λ pk. pk) (λ pk os. regrouped later os) old st new f d r ps s (λ pk. refl) (all later g) h;
  held = held;
}
