-- Which packets of a diagram have which out, node by node.
use Rattle.std.proofs.Common.{◌≡◌, ℕ, suc, zero, ◌<◌, ◌≤◌, ◌+◌, cond, eqb, inl, inr, refl, sym, ◌∙◌, ap, subst, arith, List, [], ◌∷◌, ◌++◌, length, get_or, map, Contains, Option, Some, None}
use Rattle.std.specs.Map.{lookup}
use Rattle.std.proofs.lemmas.Bool.Decides.{eqb_tells, leb_tells}
use Rattle.std.proofs.lemmas.List.{get_or_default}
use Rattle.nk_store.specs.declared.node.Out.{Out}
use Rattle.nk_store.specs.Leaves.{Suits}
use Rattle.nk_store.specs.StoreState.{StoreState, IsId, IsStorePacket, look, root_field, Grows, HasLeaves, IsLeaf}
use Rattle.nk_store.proofs.Stores.{grows_on}
use Rattle.nk_store.proofs.Ordered.{every_member}
use Rattle.nk_apply.specs.Seqs.{no_out}
use Rattle.nk_apply.specs.Cofactors.{IsPart, IsSplit}
use Rattle.nk_apply.specs.Predicates.{IsPredicate}
use Rattle.nk_apply.proofs.Built.{part_old}
use Rattle.nk_sets.specs.PacketSets.{has_some_out, is_in}
use Rattle.nk_sets.specs.declared.groups.Stretch.{Stretch}
use Rattle.nk_sets.specs.declared.outs.OutPackets.{OutPackets}
use Rattle.nk_sets.specs.Outs.{out_with_packets, entry, SuitsStore, AreLater, IsByOut, AreByOut, stretch, IsUpTo, AreOfDiagram}
use Rattle.nk_sets.proofs.Kept.{packet_on, packet_back}
use Rattle.nk_sets.proofs.OutEntries.{all_suit_on, later_on, gives_on, gives_back}
use Rattle.nk_sets.proofs.Stretches.{stretches_on, has_at_on, has_at_back, stretches_append, any_left, any_right, any_split, map_stretches, map_gives, gives_map}

-- the entries of a diagram stay so as the store grows
pub by_out_on : (a b : StoreState) (d : ℕ) (es : List OutPackets) → Grows a b → IsByOut a d es → IsByOut b d es
by_out_on a b d es g k = record {
  id = g.ids d k.id;
  suits_store = all_suit_on a b es g k.suits_store;
  later = subst (λ t. AreLater b t es) (sym (g.root_fields d k.id)) (later_on a b (root_field a d) es g k.suits_store k.later);
  goes = λ x o p w. subst (λ (os : List Out). Contains os o) (sym (g.leaves d x k.id)) (k.goes x o (packet_back a b x g p) (gives_back a b es 0 (length es) x o g k.suits_store (omega arith) w));
  comes = λ x o p c. gives_on a b es 0 (length es) x o g k.suits_store (omega arith) (k.comes x o (packet_back a b x g p) (subst (λ (os : List Out). Contains os o) (g.leaves d x k.id) c));
}

-- and so does a table of them
pub kept_on : (a b : StoreState) (kept : List (ℕ × List OutPackets)) → Grows a b → AreByOut a kept → AreByOut b kept
kept_on a b kept g k d es e = by_out_on a b d es g (k d es e)

-- a table with one diagram more
pub kept_put : (st : StoreState) (d : ℕ) (es : List OutPackets) (old new : List (ℕ × List OutPackets)) → AreByOut st old → IsByOut st d es →
    ((q : ℕ) → lookup (eqb q) new ≡ cond (eqb d q) (Some es) (lookup (eqb q) old)) → AreByOut st new
kept_put st d es old new are one put q fs e =
    elim (eqb_tells d q) [
      | inl same ↦
          let is : Some es ≡ Some fs = sym (put q ∙ ap (λ b. cond b (Some es) (lookup (eqb q) old)) same.0) ∙ e in
          let z : es ≡ fs = ap (value_or []) is in
          subst (λ k. IsByOut st k fs) same.1 (subst (IsByOut st d) z one)
      | inr other ↦ are q fs (sym (put q ∙ ap (λ b. cond b (Some es) (lookup (eqb q) old)) other.0) ∙ e)
    ]
  where
    value_or : List OutPackets → Option (List OutPackets) → List OutPackets
    value_or es None = es
    value_or es (Some fs) = fs

-- the entry made of an out at a place
entry_map : (packets : ℕ) (outs : List Out) (k : ℕ) → k < length outs → entry (map (out_with_packets packets) outs) k ≡ out_with_packets packets (get_or outs k no_out)
entry_map packets [] k l = absurd (omega (arith, l))
entry_map packets (o ∷ os) zero l = refl
entry_map packets (o ∷ os) (suc k) l = entry_map packets os k (omega (arith, l))

-- as many entries as outs
count_map : (packets : ℕ) (outs : List Out) → length (map (out_with_packets packets) outs) ≡ length outs
count_map packets [] = refl
count_map packets (o ∷ os) = ap suc (count_map packets os)

-- the outs of a leaf, each for all packets
pub leaf_by_out : (st : StoreState) (d : ℕ) (outs : List Out) (all : ℕ) (es : List OutPackets) → IsId st d → IsLeaf st d outs → HasLeaves st all (λ pk. no_out ∷ []) → root_field st all ≡ 18 → IsPredicate st all → es ≡ map (out_with_packets all) outs → IsByOut st d es
leaf_by_out st d outs all es id leaf h past p is = subst (IsByOut st d) (sym is) (record {
  id = id;
  suits_store = λ k l.
      let m : k < length outs = omega (arith, l, count_map all outs) in
      subst (SuitsStore st) (sym (entry_map all outs k m)) (record {
        suits = every_member (Suits st.maxes) outs (get_or outs k no_out) leaf.suits (k, m, get_or_default outs k (get_or outs k no_out) no_out m);
        packets = record { id = h.id; predicate = p };
      });
  later = λ k l.
      let m : k < length outs = omega (arith, l, count_map all outs) in
      subst (λ (z : OutPackets). root_field st d ≤ root_field st z.packets) (sym (entry_map all outs k m)) (omega (arith, past, leaf.root_field_is));
  goes = λ x o pk w.
      let m : w.0 < length outs = omega (arith, w.2, count_map all outs) in
      subst (λ (os : List Out). Contains os o) (sym (leaf.leaf x))
      (w.0, m, get_or_default outs w.0 o no_out m ∙ sym (ap (λ (e : OutPackets). e.out) (entry_map all outs w.0 m)) ∙ w.3);
  comes = λ x o pk c.
      let w = subst (λ (os : List Out). Contains os o) (leaf.leaf x) c in
      let at = entry_map all outs w.0 w.1 in (
        w.0,
        omega arith,
        omega (arith, w.1, count_map all outs),
        ap (λ (e : OutPackets). e.out) at ∙ get_or_default outs w.0 no_out o w.1 ∙ w.2,
        ap (λ (e : OutPackets). is_in st e.packets x) at ∙ ap has_some_out (h.leaf x pk.0),
      );
})

-- those of one part more
pub up_to_push : (a st new : StoreState) (d f from : ℕ) (p : ℕ × ℕ) (es : List OutPackets) (all : List Stretch) → IsId a d → IsSplit a f d → Grows a st → IsPart st f d from p → Grows st new →
    IsByOut new p.1 es → IsUpTo a d f from st all → IsUpTo a d f (p.0 + 1) new (all ++ map (stretch from p.0) es)
up_to_push a st new d f from p es all id split ga part g by_one m =
    let more : List Stretch = map (stretch from p.0) es in
    let gt : Grows a new = grows_on a st new ga g in
    let same : (x : List ℕ) → from ≤ get_or x f 0 → get_or x f 0 ≤ p.0 → look new p.1 x ≡ look a d x = λ x l h.
    g.leaves p.1 x part.child.id ∙ part_old a st f d from (get_or x f 0) p x ga id split part l h ∙ sym (split.leaf x) in
    let past : f < root_field new p.1 = let e : root_field new p.1 ≡ root_field st p.1 = g.root_fields p.1 part.child.id in omega (arith, e, part.child.later) in
    let within : p.0 ≤ get_or new.maxes f 0 = subst (λ (ms : List ℕ). p.0 ≤ get_or ms f 0) (sym g.maxes) part.within in
    record {
      stretches = stretches_append new f all more (stretches_on st new f all g m.stretches) (map_stretches new f (root_field new p.1) from p.0 es by_one.suits_store by_one.later past part.from within);
      goes = λ x o w u. elim (any_split new f all more x o u) [
        | inl was ↦ m.goes x o w (has_at_back st new f all 0 (length all) (get_or x f 0) x o g m.stretches (omega arith) was)
        | inr now ↦
            let z = map_gives new f from p.0 es x o now in
            subst (λ (os : List Out). Contains os o) (same x z.0 z.1) (by_one.goes x o (packet_on a new x gt w) z.2)
      ];
      comes = λ x o w l c. elim (leb_tells from (get_or x f 0)) [
        | inl following ↦
            let h : get_or x f 0 ≤ p.0 = omega (arith, l) in
            any_right new f all more x o (gives_map new f from p.0 es x o following.1 h (by_one.comes x o (packet_on a new x gt w) (subst (λ (os : List Out). Contains os o) (sym (same x following.1 h)) c)))
        | inr before ↦ any_left new f all more x o (has_at_on st new f all 0 (length all) (get_or x f 0) x o g m.stretches (omega arith) (m.comes x o w before.1 c))
      ];
    }

-- those of all parts are those of the diagram
pub up_to_all : (a new : StoreState) (d f bound : ℕ) (ss : List Stretch) → IsId a d → root_field a d ≡ f → Grows a new → get_or a.maxes f 0 < bound → IsUpTo a d f bound new ss → AreOfDiagram new f d ss
up_to_all a new d f bound ss id first g l m = record {
  id = g.ids d id;
  first = g.root_fields d id ∙ first;
  stretches = m.stretches;
  goes = λ x o w u. subst (λ (os : List Out). Contains os o) (sym (g.leaves d x id)) (m.goes x o (packet_back a new x g w) u);
  comes = λ x o w c.
      let p : IsStorePacket a x = packet_back a new x g w in
      m.comes x o p (omega (arith, p.1 f, l)) (subst (λ (os : List Out). Contains os o) (g.leaves d x id) c);
}
