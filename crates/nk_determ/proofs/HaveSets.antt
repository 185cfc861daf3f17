-- Diagrams whose leaves have their sets.
use Rattle.std.proofs.Common.{◌≡◌, ℕ, zero, suc, ◌<◌, Bool, true, false, cond, leb, List, [], ◌∷◌, length, refl, sym, ◌∙◌, ap, subst, arith, get_or, inl}
use Rattle.std.proofs.lemmas.List.{get_or_default}
use Rattle.nk_store.specs.declared.node.Out.{Out}
use Rattle.nk_store.specs.Nodes.{child_at, Each}
use Rattle.nk_store.specs.Leaves.{Strict}
use Rattle.nk_store.specs.StoreState.{StoreState, IsId, look, IsCase, IsChild}
use Rattle.nk_apply.proofs.Members.{Has}
use Rattle.nk_determ.specs.Branches.{Branch, begun, branches, targets_of, labels, labels_of}
use Rattle.nk_determ.specs.Sets.{SetsGrow}
use Rattle.nk_determ.specs.States.{IsThere, HasAll, HasSets}
use Rattle.nk_determ.proofs.Interned.{holds_grow}
use Rattle.nk_determ.proofs.Runs.{branch_for, branches_are, target_has, label_has}

-- labels that are there stay so
pub there_grow : (old new : List (List ℕ)) (ls : List ℕ) → SetsGrow old new → IsThere old ls → IsThere new ls
there_grow old new [] g h = tt
there_grow old new (l ∷ ls) g h = holds_grow old new (l ∷ ls) g h

-- a leaf that has its sets has them among more sets
pub all_grow : (old new : List (List ℕ)) (outs : List Out) → SetsGrow old new → HasAll old outs → HasAll new outs
all_grow old new outs g h a = there_grow old new (labels_of a outs) g (h a)

-- a diagram that has its sets has them among more sets
pub sets_grow : (old new : List (List ℕ)) (st : StoreState) (d : ℕ) → SetsGrow old new → HasSets old st d → HasSets new st d
sets_grow old new st d g h pk = all_grow old new (look st d pk) g (h pk)

-- where the labels of each branch are there, the leaf has its sets
pub leaf_has : (sets : List (List ℕ)) (outs : List Out) → Strict outs → ((c : Branch) → Has (branches outs) c → IsThere sets (labels c.targets)) → HasAll sets outs
leaf_has sets outs s all g = by (labels_of g outs) refl
  where
    by : (ls : List ℕ) → labels_of g outs ≡ ls → IsThere sets (labels_of g outs)
    by [] e = subst (IsThere sets) (sym e) tt
    by (l ∷ ls) e =
        let r = label_has (targets_of g outs) l (subst (λ xs. Has xs l) (sym e) (inl refl)) in
        let c = branch_for (begun []) outs (record { act = g; target = l }) (target_has g outs l r.1) in
        subst (λ a. IsThere sets (labels_of a outs)) c.2 (subst (λ ts. IsThere sets (labels ts)) (branches_are outs s c.0 c.1) (all c.0 c.1))

-- the child at a value is one of the parts' children
pub child_place : (ps : List (ℕ × ℕ)) (d v : ℕ) → 0 < length ps → (k : ℕ) × (k < length ps) × (child_at d ps v ≡ (get_or ps k (0, 0)).1)
child_place [] d v l = absurd (omega arith)
child_place (p ∷ []) d v l = by (leb v p.0)
  where
    by : (b : Bool) → (k : ℕ) × (k < length (p ∷ [])) × (cond b p.1 p.1 ≡ (get_or (p ∷ []) k (0, 0)).1)
    by true = (0, omega arith, refl)
    by false = (0, omega arith, refl)
child_place (p ∷ q ∷ ps) d v l = by (leb v p.0) (child_place (q ∷ ps) p.1 v (omega arith))
  where
    by : (b : Bool) → ((k : ℕ) × (k < length (q ∷ ps)) × (child_at p.1 (q ∷ ps) v ≡ (get_or (q ∷ ps) k (0, 0)).1)) → (k : ℕ) × (k < length (p ∷ q ∷ ps)) × (cond b p.1 (child_at p.1 (q ∷ ps) v) ≡ (get_or (p ∷ q ∷ ps) k (0, 0)).1)
    by true r = (0, omega arith, refl)
    by false r = (suc r.0, omega (arith, r.1), r.2)

-- what holds of each child holds of the one at a place
each_place : (P : ℕ → Type 0) (ps : List (ℕ × ℕ)) (k : ℕ) (e : ℕ × ℕ) → Each P ps → k < length ps → P (get_or ps k e).1
each_place P [] k e h l = absurd (omega arith)
each_place P (p ∷ ps) zero e h l = h.0
each_place P (p ∷ ps) (suc k) e h l = each_place P ps k e h.1 (omega arith)

-- what is known of one of a node's parts
pub part_known : (st : StoreState) (d f : ℕ) (ps items : List (ℕ × ℕ)) (i : ℕ) (p : ℕ × ℕ) → IsCase st d f ps → items ≡ ps → i < length items → p ≡ get_or items i p → (p.1 < d) × IsId st p.1 × (p.1 ≡ (get_or items i (0, 0)).1)
part_known st d f ps items i p c e l at =
    let below : Each (λ k. k < d) items = subst (Each (λ k. k < d)) (sym e) c.below in
    let children : Each (IsChild st f) items = subst (Each (IsChild st f)) (sym e) c.parts_ok.children in
    let number : (get_or items i p).1 ≡ p.1 = ap (λ (x : ℕ × ℕ). x.1) (sym at) in
    let child : IsChild st f (get_or items i p).1 = each_place (IsChild st f) items i p children l in (
      subst (λ k. k < d) number (each_place (λ k. k < d) items i p below l),
      subst (IsId st) number child.id,
      ap (λ (x : ℕ × ℕ). x.1) (at ∙ get_or_default items i p (0, 0) l),
    )
