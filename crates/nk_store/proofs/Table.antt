-- The table of the nodes, each once, by its place.
use Rattle.std.proofs.Common.{◌≡◌, ℕ, ◌<◌, Bool, true, false, List, [], ◌∷◌, ◌++◌, length, reverse, refl, sym, ◌∙◌, ap, subst, arith, get_or, slice_get, Some, if◌then◌else◌}
use Rattle.std.specs.List.{list_any}
use Rattle.std.proofs.lemmas.Option.{get_or_from_slice_get, slice_get_cases}
use Rattle.std.proofs.lemmas.List.Folds.{list_any_at}
use Rattle.std.proofs.lemmas.List.{length-reverse}
use Rattle.nk_store.specs.UniqueTables.{with_item}
use Rattle.nk_store.specs.declared.node.Node.{Node}
use Rattle.nk_store.specs.declared.node.Node.TheVariants.{Leaf}
use Rattle.nk_store.specs.Nodes.{Fits, IsAbsent, Sound}
use Rattle.nk_store.specs.StoreState.{StoreState, HasFields, IsId, node_of, Grows}
use Rattle.nk_store.specs.contracts.node.NodePartialEq.TheImpl.{ghosts}
use Rattle.nk_store.proofs.NodeEq.{node_eq_decides}
use Rattle.nk_store.proofs.Stores.{with_nodes, node_reversed, pushed_reversed, grows_pushed, grows_same}

-- what no place has is absent
pub absent_from : (xs : List Node) (n : Node) → list_any (ghosts.eq n) xs ≡ false → IsAbsent n (reverse xs)
absent_from xs n none = λ i h e.
    let below : i < length xs = omega (arith, length-reverse xs) in
    let at : get_or xs i (Leaf []) ≡ n = sym (node_reversed xs i (Leaf []) below) ∙ e in
    let yes : ghosts.eq n (get_or xs i (Leaf [])) ≡ true = (node_eq_decides n (get_or xs i (Leaf []))).1 (sym at) in
    differs (sym none ∙ list_any_at (ghosts.eq n) xs i (Leaf []) below yes)
  where
    differs : false ≡ true → ⊥
    differs e = cc

-- a node is put in once, at the end
pub data Put (xs ys : List Node) (n : Node) : Type 0 where
  stays : ys ≡ xs → Put xs ys n
  comes : ys ≡ xs ++ n ∷ [] → IsAbsent n (reverse xs) → Put xs ys n

-- what the table does with a node: it stays as it is, or the node comes last
pub put : (xs ys : List Node) (n : Node) → ys ≡ with_item ghosts.eq xs n → Put xs ys n
put xs ys n e = by (list_any (ghosts.eq n) xs) refl
  where
    by : (b : Bool) → list_any (ghosts.eq n) xs ≡ b → Put xs ys n
    by true h = stays (e ∙ ap (λ c. if c then xs else xs ++ n ∷ []) h)
    by false h = comes (e ∙ ap (λ c. if c then xs else xs ++ n ∷ []) h) (absent_from xs n h)

-- putting a node that fits keeps the nodes sound
pub put_sound : (maxes : List ℕ) (xs ys : List Node) (n : Node) → Put xs ys n → Sound maxes (reverse xs) →
    Fits maxes (reverse xs) n → Sound maxes (reverse ys)
put_sound maxes xs ys n (stays e) s f = subst (λ zs. Sound maxes (reverse zs)) (sym e) s
put_sound maxes xs ys n (comes e a) s f = subst (Sound maxes) (sym (pushed_reversed xs ys n e)) (f, a, s)

-- putting a node lets the store grow
pub put_grows : (st base : StoreState) (xs ys : List Node) (n : Node) → Put xs ys n →
    with_nodes base (reverse xs) ≡ st → Grows st (with_nodes base (reverse ys))
put_grows st base xs ys n (stays e) v =
    subst (λ (s : StoreState). Grows st s) (sym v ∙ ap (λ zs. with_nodes base (reverse zs)) (sym e)) (grows_same st)
put_grows st base xs ys n (comes e a) v = grows_pushed st base xs ys n v e

-- the node at a place of the table
pub placed : (base : StoreState) (ys : List Node) (i : ℕ) (k n : Node) → slice_get ys i ≡ Some k →
    ghosts.eq n k ≡ true →
    IsId (with_nodes base (reverse ys)) i × (node_of (with_nodes base (reverse ys)) i ≡ n)
unfolding IsId node_of
placed base ys i k n at same =
    let below : i < length ys = inside ys i k at in (
      omega (arith, length-reverse ys),
      node_reversed ys i (Leaf []) below ∙ get_or_from_slice_get ys i k (Leaf []) at ∙ sym ((node_eq_decides n k).0 same),
    )
  where
    inside : (zs : List Node) (j : ℕ) (m : Node) → slice_get zs j ≡ Some m → j < length zs
    inside zs j m e = grind (arith, slice_get_cases zs j, e)

-- what a store keeps of its fields is the same whatever its nodes
pub fields_kept : (base : StoreState) (ns ms : List Node) → HasFields (with_nodes base ns) →
    HasFields (with_nodes base ms)
fields_kept base ns ms h = record { places = h.places; few = h.few; two = h.two; past = h.past; tag_past_port = h.tag_past_port }
