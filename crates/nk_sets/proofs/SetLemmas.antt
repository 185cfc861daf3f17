-- Facts about sets of packets.
use Rattle.std.proofs.Common.{◌≡◌, ◌≢◌, ℕ, zero, suc, ◌<◌, ◌≤◌, Bool, true, false, cond, List, [], ◌∷◌, length, refl, sym, ap, subst, ◌∙◌, arith, get_or, set, replicate, Result, Ok, Err, OnOk, IfOk}
use Rattle.std.specs.Prelude.{not, ◌&&◌, ◌||◌}
use Rattle.std.specs.declared.cmp.Ordering.{Ordering}
use Rattle.std.specs.declared.cmp.Ordering.TheVariants.{Less, Equal, Greater}
use Rattle.nk_store.specs.declared.node.Node.{Node}
use Rattle.nk_store.specs.declared.node.Node.TheVariants.{Leaf, Case}
use Rattle.nk_store.specs.declared.node.Out.{Out}
use Rattle.nk_store.specs.Nodes.{child_at, is_empty_leaf, node_at, look_in, Sound, InRange}
use Rattle.nk_store.specs.StoreState.{StoreState, IsId, node_of, look, IsStorePacket, Grows}
use Rattle.nk_store.proofs.Looks.{look_leaf, fits_at}
use Rattle.nk_store.proofs.Same.{child-first, child-rest, set_in_range, zero_in_range, look_child, node_once}
use Rattle.nk_store.specs.Leaves.{out_cmp}
use Rattle.nk_apply.specs.Leaves.{weave, merged, guarded, absent, by_order}
use Rattle.nk_apply.specs.Seqs.{no_out}
use Rattle.nk_apply.specs.Predicates.{IsPass, IsPredicate}
use Rattle.nk_sets.specs.PacketSets.{has_some_out, is_in, IsSet}

-- the packets of a set that are in another
pub guarded_out : (p d : List Out) → has_some_out (guarded p d) ≡ has_some_out p && has_some_out d
guarded_out [] d = refl
guarded_out (x ∷ xs) d = refl

-- the packets that are not in a set
pub absent_out : (p d : List Out) → has_some_out (absent p d) ≡ not (has_some_out p)
absent_out [] d = refl
absent_out (x ∷ xs) d = refl

-- a predicate stays one in a store that grew
pub predicate_grows : (old new : StoreState) (d : ℕ) → Grows old new → IsId old d → IsPredicate old d → IsPredicate new d
predicate_grows old new d g i p = λ pk w. subst IsPass (sym (g.leaves d pk i)) (p pk w)

-- a set stays one in a store that grew
pub set_grows : (old new : StoreState) (d : ℕ) → Grows old new → IsSet old d → IsSet new d
set_grows old new d g s = record { id = g.ids d s.id; predicate = predicate_grows old new d g s.id s.predicate }

-- whether a node is the empty leaf
data IsNone (n : Node) : Type 0 where
  none : n ≡ Leaf [] → IsNone n
  some : (n ≢ Leaf []) → IsNone n

none_or_some : (n : Node) → IsNone n
none_or_some (Leaf []) = none refl
none_or_some (Leaf (o ∷ os)) = some (λ e. cc)
none_or_some (Case f ps) = some (λ e. cc)

module _ (maxes : List ℕ) (ns : List Node) (sound : Sound maxes ns) where
  -- a number whose node is not the empty leaf gives some packet an out
  some_below :
      (m i : ℕ) → i < m → i < length ns → node_at ns i ≢ Leaf []
      → (pk : List ℕ) × InRange maxes pk × (has_some_out (look_in ns i pk) ≡ true)
  some_below zero i l h n = absurd (omega (arith, l))
  some_below (suc m) i l h n = by (node_at ns i) refl (λ c less other. some_below m c (omega (arith, less, l)) (omega (arith, less, h)) other)
    where
      -- a packet of a child's set, brought to the child's values
      brought :
          (f v : ℕ) (ps : List (ℕ × ℕ)) (c : ℕ) → node_at ns i ≡ Case f ps → v ≤ get_or maxes f 0
          → child_at 0 ps v ≡ c → ((pk : List ℕ) × InRange maxes pk × (has_some_out (look_in ns c pk) ≡ true))
          → (pk : List ℕ) × InRange maxes pk × (has_some_out (look_in ns i pk) ≡ true)
      brought f v ps c e le is found = (
        set found.0 f v,
        set_in_range maxes found.0 f v found.1 le,
        ap has_some_out (look_child maxes ns i f v ps found.0 sound h e found.1.0 ∙ ap (λ k. look_in ns k found.0) is) ∙ found.2,
      )

      by :
          (n : Node) → node_at ns i ≡ n
          → ((c : ℕ) → c < i → node_at ns c ≢ Leaf [] → (pk : List ℕ) × InRange maxes pk × (has_some_out (look_in ns c pk) ≡ true))
          → (pk : List ℕ) × InRange maxes pk × (has_some_out (look_in ns i pk) ≡ true)
      by (Leaf []) e ih = absurd (n e)
      by (Leaf (o ∷ os)) e ih = (replicate 18 0, zero_in_range maxes, ap has_some_out (look_leaf ns i (o ∷ os) (replicate 18 0) h e))
      by (Case f []) e ih = absurd (fits_at maxes ns i f [] sound h e).0.3
      by (Case f (p ∷ [])) e ih = let few = (fits_at maxes ns i f (p ∷ []) sound h e).0.3 in absurd (omega (arith, few.0))
      by (Case f (p ∷ q ∷ ps)) e ih =
          let fits = fits_at maxes ns i f (p ∷ q ∷ ps) sound h e in
          let rise = fits.0.1 in
          let less = fits.1 in
          let below_p = less.0 in
          let below_q = less.1.0 in
          let first : child_at 0 (p ∷ q ∷ ps) p.0 ≡ p.1 = child-first 0 p (q ∷ ps) p.0 (omega arith) in
          let second : child_at 0 (p ∷ q ∷ ps) q.0 ≡ q.1 = child-rest 0 p (q ∷ ps) q.0 (omega (arith, rise.2.0)) ∙ child-first p.1 q ps q.0 (omega arith) in
          choose (none_or_some (node_at ns p.1)) (none_or_some (node_at ns q.1))
          (λ x. brought f p.0 (p ∷ q ∷ ps) p.1 e rise.1 first (ih p.1 below_p x))
          (λ y. brought f q.0 (p ∷ q ∷ ps) q.1 e rise.2.1 second (ih q.1 below_q y))
          (λ x y. fits.0.3.1.0 (sym (node_once maxes ns p.1 q.1 sound (omega (arith, below_p, h)) (omega (arith, below_q, h)) (x ∙ sym y))))
        where
          choose :
              {R : Type 0} → IsNone (node_at ns p.1) → IsNone (node_at ns q.1)
              → (node_at ns p.1 ≢ Leaf [] → R) → (node_at ns q.1 ≢ Leaf [] → R)
              → (node_at ns p.1 ≡ Leaf [] → node_at ns q.1 ≡ Leaf [] → ⊥) → R
          choose (some x) b left right neither = left x
          choose (none x) (some y) left right neither = right y
          choose (none x) (none y) left right neither = absurd (neither x y)

  -- likewise each number
  pub some_in :
      (i : ℕ) → i < length ns → node_at ns i ≢ Leaf []
      → (pk : List ℕ) × InRange maxes pk × (has_some_out (look_in ns i pk) ≡ true)
  some_in i h n = some_below (suc i) i (omega arith) h n

-- a set that stands at no empty leaf has a packet
pub filled_in :
    (st : StoreState) (s : ℕ) → Sound st.maxes st.nodes → IsId st s → is_empty_leaf (node_of st s) ≡ false
    → (pk : List ℕ) × IsStorePacket st pk × (is_in st s pk ≡ true)
unfolding IsId node_of look
filled_in st s sound id e = some_in st.maxes st.nodes sound s id (λ n. let z : true ≡ false = sym (ap is_empty_leaf n) ∙ e in absurd cc)

-- two tests that follow from each other are one
pub both_true : (a b : Bool) → (a ≡ true → b ≡ true) → (b ≡ true → a ≡ true) → a ≡ b
both_true true b f g = sym (f refl)
both_true false true f g = g refl
both_true false false f g = refl

-- a leaf that passes or drops is told by whether there is an out
pub pass_is : (outs : List Out) → IsPass outs → outs ≡ cond (has_some_out outs) (no_out ∷ []) []
pass_is [] p = refl
pass_is (o ∷ os) p = ap (λ z. z ∷ os) p.0 ∙ ap (λ zs. no_out ∷ zs) p.1

-- two leaves together
pub merged_out : (xs ys : List Out) → has_some_out (merged xs ys) ≡ has_some_out xs || has_some_out ys
merged_out [] ys = refl
merged_out (x ∷ xs) [] = refl
merged_out (x ∷ xs) (y ∷ ys) = by (out_cmp x y)
  where
    by :
        (r : Ordering)
        → has_some_out (by_order r (x ∷ merged xs (y ∷ ys)) (x ∷ merged xs ys) (y ∷ weave x xs (merged xs) ys)) ≡ true
    by Less = refl
    by Equal = refl
    by Greater = refl

-- what holds whatever a call answers
pub on_any : {T E : Type 0} (r : Result T E) (P : Type 0) → P → OnOk r P
on_any (Ok x) P h = h
on_any (Err e) P h = tt

-- two things that hold of an Ok answer
pub both_ok :
    {T E : Type 0} (r : Result T E) (P Q : T → Type 0) → IfOk r P → IfOk r Q → IfOk r (λ x. P x × Q x)
both_ok (Ok x) P Q p q = (p, q)
both_ok (Err e) P Q p q = tt

-- both tests pass
pub both_pass : (a b : Bool) → a && b ≡ true → (a ≡ true) × (b ≡ true)
both_pass true true e = (refl, refl)
both_pass true false e = absurd cc
both_pass false b e = absurd cc

-- where both pass, so does the one test
pub pass_both : (a b : Bool) → a ≡ true → b ≡ true → a && b ≡ true
pass_both a b e h = ap (λ x. x && b) e ∙ h
