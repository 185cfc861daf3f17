-- What a node's leaf is, and that it depends on no field before the one that the node tests.
use Rattle.std.proofs.Common.{◌≡◌, ◌≢◌, ℕ, ◌<◌, true, false, cond, leb, eqb, List, [], ◌∷◌, length, refl, sym, ◌∙◌, ap, subst, arith, get_or, set, get_or-set_other, inl, inr}
use Rattle.std.proofs.lemmas.Bool.Decides.{nat_tests, eqb_tells}
use Rattle.nk_store.specs.declared.node.Node.{Node}
use Rattle.nk_store.specs.declared.node.Node.TheVariants.{Leaf, Case}
use Rattle.nk_store.specs.declared.node.Out.{Out}
use Rattle.nk_store.specs.Leaves.{Strict, Every, Suits}
use Rattle.nk_store.specs.Nodes.{child_at, node_at, node_look, look_in, field_of_node, root_field_in, Each, TestsLater, Joined, Fits, Sound}

-- the test of two numbers, the first one less
pub eqb_below : (i n : ℕ) → i < n → eqb i n ≡ false
eqb_below i n h = grind (arith, nat_tests)

-- the test of a number with itself
pub eqb_same : (n : ℕ) → eqb n n ≡ true
eqb_same n = grind (arith, nat_tests)

-- a newer node leaves the node of an older number
pub node_at-old : (n : Node) (older : List Node) (i : ℕ) → i < length older →
    node_at (n ∷ older) i ≡ node_at older i
node_at-old n older i h = rw (eqb_below i (length older) h) refl

-- the newest node has the number of those before it
pub node_at-new : (n : Node) (older : List Node) → node_at (n ∷ older) (length older) ≡ n
node_at-new n older = rw (eqb_same (length older)) refl

-- a newer node leaves the leaf of an older number
pub look-old : (n : Node) (older : List Node) (i : ℕ) (pk : List ℕ) → i < length older →
    look_in (n ∷ older) i pk ≡ look_in older i pk
look-old n older i pk h = rw (eqb_below i (length older) h) refl

-- the newest number's leaf is its node's
pub look-new : (n : Node) (older : List Node) (pk : List ℕ) →
    look_in (n ∷ older) (length older) pk ≡ node_look n (λ c. look_in older c pk) pk
look-new n older pk = rw (eqb_same (length older)) refl

-- a newer node leaves the first field of an older number
pub root_field-old : (n : Node) (older : List Node) (i : ℕ) → i < length older →
    root_field_in (n ∷ older) i ≡ root_field_in older i
root_field-old n older i h = ap field_of_node (node_at-old n older i h)

-- what holds of each child holds of the one at a value
pub each_at : (P : ℕ → Type 0) (d : ℕ) (ps : List (ℕ × ℕ)) (v : ℕ) → P d → Each P ps → P (child_at d ps v)
each_at P d [] v h e = h
each_at P d (p ∷ ps) v h e =
    elim (leb v p.0) as (λ b. P (cond b p.1 (child_at p.1 ps v))) [ true ↦ e.0 | false ↦ each_at P p.1 ps v e.0 e.1 ]

-- what holds of each child holds of the one at a value, where there is one
pub each_child : (P : ℕ → Type 0) (d : ℕ) (ps : List (ℕ × ℕ)) (v : ℕ) → 0 < length ps → Each P ps →
    P (child_at d ps v)
each_child P d [] v h e = absurd (omega arith)
each_child P d (p ∷ ps) v h e =
    elim (leb v p.0) as (λ b. P (cond b p.1 (child_at p.1 ps v))) [ true ↦ e.0 | false ↦ each_at P p.1 ps v e.0 e.1 ]

-- what follows from a property of each child holds of each child
pub each_weaker : (P Q : ℕ → Type 0) (ps : List (ℕ × ℕ)) → ((c : ℕ) → P c → Q c) → Each P ps → Each Q ps
each_weaker P Q [] f e = tt
each_weaker P Q (p ∷ ps) f e = (f p.1 e.0, each_weaker P Q ps f e.1)

-- a newer node leaves which children are later
pub later-old : (n : Node) (older : List Node) (f c : ℕ) → TestsLater older f c → TestsLater (n ∷ older) f c
later-old n older f c h = (omega (arith, h.0), rw (root_field-old n older c h.0) h.1)

-- a node with children has some
pub joined_some : (ps : List (ℕ × ℕ)) → Joined ps → 0 < length ps
joined_some [] h = absurd h
joined_some (p ∷ ps) h = omega arith

-- a node that is there, and tests fields after f alone, by those made before it
pub child_later : (maxes : List ℕ) (older : List Node) (f : ℕ) (ps : List (ℕ × ℕ)) (v : ℕ) →
    Fits maxes older (Case f ps) → TestsLater older f (child_at 0 ps v)
child_later maxes older f ps v h = each_child (TestsLater older f) 0 ps v (joined_some ps h.3) h.2

-- what holds of the node of a number: its children came before it, so also hold of all the nodes
pub fits_at : (maxes : List ℕ) (ns : List Node) (i : ℕ) (f : ℕ) (ps : List (ℕ × ℕ)) → Sound maxes ns →
    i < length ns → node_at ns i ≡ Case f ps → Fits maxes ns (Case f ps) × Each (λ c. c < i) ps
fits_at maxes [] i f ps s h e = absurd (omega arith)
fits_at maxes (n ∷ older) i f ps s h e =
    elim (eqb_tells i (length older)) [
      | inl same ↦
          let e' : n ≡ Case f ps = sym (node_at-new n older) ∙ ap (λ k. node_at (n ∷ older) k) (sym same.1) ∙ e in
          let fits : Fits maxes older (Case f ps) = subst (λ m. Fits maxes older m) e' s.0 in (
            (fits.0, fits.1, each_weaker (TestsLater older f) (TestsLater (n ∷ older) f) ps (later-old n older f) fits.2, fits.3),
            each_weaker (TestsLater older f) (λ c. c < i) ps (λ c l. omega (arith, l.0, same.1)) fits.2,
          )
      | inr other ↦
          let below : i < length older = omega (arith, other.1) in
          let rest = fits_at maxes older i f ps s.2 below (sym (node_at-old n older i below) ∙ e) in
          ((rest.0.0, rest.0.1, each_weaker (TestsLater older f) (TestsLater (n ∷ older) f) ps (later-old n older f) rest.0.2, rest.0.3), rest.1)
    ]

-- a leaf's outs are what its number gives each packet
pub look_leaf : (ns : List Node) (i : ℕ) (outs : List Out) (pk : List ℕ) → i < length ns →
    node_at ns i ≡ Leaf outs → look_in ns i pk ≡ outs
look_leaf [] i outs pk h e = absurd (omega arith)
look_leaf (n ∷ older) i outs pk h e =
    elim (eqb_tells i (length older)) [
      | inl same ↦
          let e' : n ≡ Leaf outs = sym (node_at-new n older) ∙ ap (λ k. node_at (n ∷ older) k) (sym same.1) ∙ e in
          ap (λ k. look_in (n ∷ older) k pk) same.1 ∙ look-new n older pk ∙ ap (λ m. node_look m (λ c. look_in older c pk) pk) e'
      | inr other ↦
          let below : i < length older = omega (arith, other.1) in
          look-old n older i pk below ∙ look_leaf older i outs pk below (sym (node_at-old n older i below) ∙ e)
    ]

-- a choice gives what its child for the field's value gives
pub look_case : (maxes : List ℕ) (ns : List Node) (i f : ℕ) (ps : List (ℕ × ℕ)) (pk : List ℕ) →
    Sound maxes ns → i < length ns → node_at ns i ≡ Case f ps →
    look_in ns i pk ≡ look_in ns (child_at 0 ps (get_or pk f 0)) pk
look_case maxes [] i f ps pk s h e = absurd (omega arith)
look_case maxes (n ∷ older) i f ps pk s h e =
    elim (eqb_tells i (length older)) [
      | inl same ↦
          let e' : n ≡ Case f ps = sym (node_at-new n older) ∙ ap (λ k. node_at (n ∷ older) k) (sym same.1) ∙ e in
          let fits : Fits maxes older (Case f ps) = subst (λ m. Fits maxes older m) e' s.0 in
          ap (λ k. look_in (n ∷ older) k pk) same.1 ∙ look-new n older pk ∙ ap (λ m. node_look m (λ c. look_in older c pk) pk) e'
          ∙ sym (look-old n older (child_at 0 ps (get_or pk f 0)) pk (child_later maxes older f ps (get_or pk f 0) fits).0)
      | inr other ↦
          let below : i < length older = omega (arith, other.1) in
          let at' = sym (node_at-old n older i below) ∙ e in
          let c = child_at 0 ps (get_or pk f 0) in
          let fits = (fits_at maxes older i f ps s.2 below at').0 in
          look-old n older i pk below ∙ look_case maxes older i f ps pk s.2 below at'
          ∙ sym (look-old n older c pk (child_later maxes older f ps (get_or pk f 0) fits).0)
    ]

-- a node's leaf does not depend on a field before the one that it tests, if its children's don't
node_same : (maxes : List ℕ) (older : List Node) (n : Node) (f v : ℕ) (pk : List ℕ) →
    ((c : ℕ) → f < root_field_in older c → c < length older → look_in older c (set pk f v) ≡ look_in older c pk) →
    Fits maxes older n → f < field_of_node n →
    node_look n (λ c. look_in older c (set pk f v)) (set pk f v) ≡ node_look n (λ c. look_in older c pk) pk
node_same maxes older (Leaf outs) f v pk ih fits t = refl
node_same maxes older (Case g ps) f v pk ih fits t =
    let ne : g ≢ f = omega arith in
    let e : get_or (set pk f v) g 0 ≡ get_or pk g 0 = get_or-set_other pk f g v 0 ne in
    let c = child_at 0 ps (get_or pk g 0) in
    let later : TestsLater older g c = child_later maxes older g ps (get_or pk g 0) fits in
    ap (λ w. look_in older (child_at 0 ps w) (set pk f v)) e ∙ ih c (omega (arith, later.1)) later.0

-- a leaf depends on no field before the one that the node tests
pub look_same : (maxes : List ℕ) (ns : List Node) (i f v : ℕ) (pk : List ℕ) → Sound maxes ns → i < length ns →
    f < root_field_in ns i → look_in ns i (set pk f v) ≡ look_in ns i pk
look_same maxes [] i f v pk s h t = absurd (omega arith)
look_same maxes (n ∷ older) i f v pk s h t =
    elim (eqb_tells i (length older)) [
      | inl same ↦
          let t' : f < field_of_node n = subst (λ m. f < field_of_node m) (node_at-new n older) (subst (λ k. f < root_field_in (n ∷ older) k) same.1 t) in
          ap (λ k. look_in (n ∷ older) k (set pk f v)) same.1 ∙ look-new n older (set pk f v)
          ∙ node_same maxes older n f v pk (λ c g b. look_same maxes older c f v pk s.2 b g) s.0 t'
          ∙ sym (look-new n older pk) ∙ ap (λ k. look_in (n ∷ older) k pk) (sym same.1)
      | inr other ↦
          let below : i < length older = omega (arith, other.1) in
          let t' : f < root_field_in older i = subst (λ m. f < m) (root_field-old n older i below) t in
          look-old n older i (set pk f v) below ∙ look_same maxes older i f v pk s.2 below t' ∙ sym (look-old n older i pk below)
    ]

-- the outs of a leaf of a sound store ascend and suit the highest values
pub leaf_fits_at : (maxes : List ℕ) (ns : List Node) (i : ℕ) (outs : List Out) → Sound maxes ns →
    i < length ns → node_at ns i ≡ Leaf outs → Strict outs × Every (Suits maxes) outs
leaf_fits_at maxes [] i outs s h e = absurd (omega arith)
leaf_fits_at maxes (n ∷ older) i outs s h e =
    elim (eqb_tells i (length older)) [
      | inl same ↦
          let e' : n ≡ Leaf outs = sym (node_at-new n older) ∙ ap (λ k. node_at (n ∷ older) k) (sym same.1) ∙ e in
          subst (λ m. Fits maxes older m) e' s.0
      | inr other ↦
          let below : i < length older = omega (arith, other.1) in
          leaf_fits_at maxes older i outs s.2 below (sym (node_at-old n older i below) ∙ e)
    ]

-- what each leaf of a sound store keeps to
abbrev pub Keeps : List ℕ → List Out → Type 0
Keeps maxes outs = Strict outs × Every (Suits maxes) outs

-- a node's leaf keeps to what its children's leaves keep to
node_tidy : (maxes : List ℕ) (older : List Node) (n : Node) (at : ℕ → List Out) (pk : List ℕ) →
    ((c : ℕ) → Keeps maxes (at c)) → Fits maxes older n → Keeps maxes (node_look n at pk)
node_tidy maxes older (Leaf outs) at pk ih fits = fits
node_tidy maxes older (Case f ps) at pk ih fits = ih (child_at 0 ps (get_or pk f 0))

-- each leaf ascends strictly and suits the highest values
pub look_tidy : (maxes : List ℕ) (ns : List Node) (i : ℕ) (pk : List ℕ) → Sound maxes ns →
    Keeps maxes (look_in ns i pk)
look_tidy maxes [] i pk s = (tt, tt)
look_tidy maxes (n ∷ older) i pk s =
    elim (eqb_tells i (length older)) [
      | inl same ↦
          subst (Keeps maxes) (sym (ap (λ k. look_in (n ∷ older) k pk) same.1 ∙ look-new n older pk))
          (node_tidy maxes older n (λ c. look_in older c pk) pk (λ c. look_tidy maxes older c pk s.2) s.0)
      | inr other ↦
          subst (Keeps maxes) (sym (ap (λ b. cond b (node_look n (λ c. look_in older c pk) pk) (look_in older i pk)) other.0)) (look_tidy maxes older i pk s.2)
    ]
