-- Entries of outs by the values of a field, and as stores grow.
use Rattle.std.proofs.Common.{◌≡◌, ℕ, ◌<◌, ◌≤◌, ◌+◌, ◌-◌, ◌⊎◌, inl, inr, refl, sym, ◌∙◌, ap, subst, arith, List, ◌++◌, length, length-append, get_or, map}
use Rattle.std.proofs.lemmas.Bool.Decides.{leb_tells}
use Rattle.std.proofs.lemmas.List.{get_or_append_left, get_or-append_right, get_or_default, get_or-map, length-map}
use Rattle.std.proofs.lemmas.List.Sorted.{Contains-permutation, IsPermutation-sym}
use Rattle.std.specs.List.Sorted.{IsPermutation}
use Rattle.nk_store.specs.declared.node.Out.{Out}
use Rattle.nk_store.specs.Leaves.{Suits}
use Rattle.nk_store.specs.StoreState.{StoreState, Grows}
use Rattle.nk_apply.specs.Seqs.{no_out}
use Rattle.nk_apply.proofs.Built.{child_grows}
use Rattle.nk_sets.proofs.SetLemmas.{predicate_grows}
use Rattle.nk_sets.specs.declared.groups.Stretch.{Stretch}
use Rattle.nk_sets.specs.declared.outs.OutPackets.{OutPackets}
use Rattle.nk_sets.specs.Outs.{out_with_packets, entry, AllSuitStore, AreLater, GivesAny, stretch, piece, IsStretch, AreStretches, HasAt, HasAny}
use Rattle.nk_sets.proofs.Kept.{Has, has_on, has_back}

-- one stays so as the store grows
pub is_stretch_on : (a b : StoreState) (f : ℕ) (s : Stretch) → Grows a b → IsStretch a f s → IsStretch b f s
is_stretch_on a b f s g k = record {
  suits = subst (λ (m : List ℕ). Suits m s.out) (sym g.maxes) k.suits;
  child = child_grows a b f s.packets g k.child;
  predicate = predicate_grows a b s.packets g k.child.id k.predicate;
  order = k.order;
  within = subst (λ (m : List ℕ). s.end ≤ get_or m f 0) (sym g.maxes) k.within;
}

-- all stay so as the store grows
pub stretches_on : (a b : StoreState) (f : ℕ) (ss : List Stretch) → Grows a b → AreStretches a f ss → AreStretches b f ss
stretches_on a b f ss g k i l = is_stretch_on a b f (piece ss i) g (k i l)

-- what they have they have in a grown store
pub has_at_on : (a b : StoreState) (f : ℕ) (ss : List Stretch) (from to v : ℕ) (x : List ℕ) (o : Out) → Grows a b → AreStretches a f ss → to ≤ length ss → HasAt a ss from to v x o → HasAt b ss from to v x o
has_at_on a b f ss from to v x o g k l w = (w.0, w.1, w.2, w.3, w.4, w.5, has_on a b (piece ss w.0).packets x g (k w.0 (omega (arith, l, w.2))).child.id w.6)

-- what they have in a grown store they had before
pub has_at_back : (a b : StoreState) (f : ℕ) (ss : List Stretch) (from to v : ℕ) (x : List ℕ) (o : Out) → Grows a b → AreStretches a f ss → to ≤ length ss → HasAt b ss from to v x o → HasAt a ss from to v x o
has_at_back a b f ss from to v x o g k l w = (w.0, w.1, w.2, w.3, w.4, w.5, has_back a b (piece ss w.0).packets x g (k w.0 (omega (arith, l, w.2))).child.id w.6)

-- what one at a place has, the same one has at a place of others
has_moved : (st : StoreState) (ss ts : List Stretch) (from to v : ℕ) (x : List ℕ) (o : Out) (w : HasAt st ss from to v x o) (k m : ℕ) → k < m → piece ss w.0 ≡ piece ts k → HasAt st ts 0 m v x o
has_moved st ss ts from to v x o w k m l at = (
  k,
  omega arith,
  l,
  subst (λ (s : Stretch). s.out ≡ o) at w.3,
  subst (λ (s : Stretch). s.from ≤ v) at w.4,
  subst (λ (s : Stretch). v ≤ s.end) at w.5,
  subst (λ (s : Stretch). Has st s.packets x) at w.6,
)

-- the one at a place of the first
piece_old : (ss ts : List Stretch) (k : ℕ) → k < length ss → piece (ss ++ ts) k ≡ piece ss k
piece_old ss ts k l = get_or_append_left ss ts (stretch 0 0 (out_with_packets 0 no_out)) k l

-- the one at a place of those after
piece_new : (ss ts : List Stretch) (k : ℕ) → length ss ≤ k → piece (ss ++ ts) k ≡ piece ts (k - length ss)
piece_new ss ts k l = get_or-append_right ss ts (length ss) k (stretch 0 0 (out_with_packets 0 no_out)) refl l

-- those and those after them
pub stretches_append : (st : StoreState) (f : ℕ) (ss ts : List Stretch) → AreStretches st f ss → AreStretches st f ts → AreStretches st f (ss ++ ts)
stretches_append st f ss ts a b i l = elim (leb_tells (length ss) i) [
  | inl following ↦ subst (IsStretch st f) (sym (piece_new ss ts i following.1)) (b (i - length ss) (omega (arith, l, length-append ss ts, following.1)))
  | inr before ↦ subst (IsStretch st f) (sym (piece_old ss ts i before.1)) (a i before.1)
]

-- what the first have all have
pub any_left : (st : StoreState) (f : ℕ) (ss ts : List Stretch) (x : List ℕ) (o : Out) → HasAny st f ss x o → HasAny st f (ss ++ ts) x o
any_left st f ss ts x o w =
    has_moved st ss (ss ++ ts) 0 (length ss) (get_or x f 0) x o w w.0 (length (ss ++ ts)) (omega (arith, w.2, length-append ss ts)) (sym (piece_old ss ts w.0 w.2))

-- what those after have all have
pub any_right : (st : StoreState) (f : ℕ) (ss ts : List Stretch) (x : List ℕ) (o : Out) → HasAny st f ts x o → HasAny st f (ss ++ ts) x o
any_right st f ss ts x o w =
    let k : ℕ = length ss + w.0 in
    let e : k - length ss ≡ w.0 = omega arith in
    has_moved st ts (ss ++ ts) 0 (length ts) (get_or x f 0) x o w k (length (ss ++ ts)) (omega (arith, w.2, length-append ss ts)) (sym (piece_new ss ts k (omega arith) ∙ ap (piece ts) e))

-- what all have the first have or those after
pub any_split : (st : StoreState) (f : ℕ) (ss ts : List Stretch) (x : List ℕ) (o : Out) → HasAny st f (ss ++ ts) x o → HasAny st f ss x o ⊎ HasAny st f ts x o
any_split st f ss ts x o w = elim (leb_tells (length ss) w.0) [
  | inl following ↦ inr (has_moved st (ss ++ ts) ts 0 (length (ss ++ ts)) (get_or x f 0) x o w (w.0 - length ss) (length ts) (omega (arith, w.2, length-append ss ts, following.1)) (piece_new ss ts w.0 following.1))
  | inr before ↦ inl (has_moved st (ss ++ ts) ss 0 (length (ss ++ ts)) (get_or x f 0) x o w w.0 (length ss) before.1 (piece_old ss ts w.0 before.1))
]

-- the one of an entry
piece_map : (from end : ℕ) (es : List OutPackets) (k : ℕ) → k < length es → piece (map (stretch from end) es) k ≡ stretch from end (entry es k)
piece_map from end es k l = get_or-map (stretch from end) es k (out_with_packets 0 no_out) (stretch 0 0 (out_with_packets 0 no_out)) l

-- entries of fields after f for the values of an interval
pub map_stretches : (st : StoreState) (f t from end : ℕ) (es : List OutPackets) → AllSuitStore st es → AreLater st t es → f < t → from ≤ end → end ≤ get_or st.maxes f 0 → AreStretches st f (map (stretch from end) es)
map_stretches st f t from end es k later l order within i m =
    let j : i < length es = omega (arith, m, length-map es (stretch from end)) in
    subst (IsStretch st f) (sym (piece_map from end es i j)) (record {
      suits = (k i j).suits;
      child = record { id = (k i j).packets.id; later = omega (arith, l, later i j) };
      predicate = (k i j).packets.predicate;
      order = order;
      within = within;
    })

-- what entries for the values of an interval have
pub map_gives : (st : StoreState) (f from end : ℕ) (es : List OutPackets) (x : List ℕ) (o : Out) → HasAny st f (map (stretch from end) es) x o → (from ≤ get_or x f 0) × (get_or x f 0 ≤ end) × GivesAny st es x o
map_gives st f from end es x o w =
    let j : w.0 < length es = omega (arith, w.2, length-map es (stretch from end)) in
    let at = piece_map from end es w.0 j in (
      subst (λ (s : Stretch). s.from ≤ get_or x f 0) at w.4,
      subst (λ (s : Stretch). get_or x f 0 ≤ s.end) at w.5,
      (w.0, omega arith, j, subst (λ (s : Stretch). s.out ≡ o) at w.3, subst (λ (s : Stretch). Has st s.packets x) at w.6),
    )

-- what entries give they have for the values of an interval
pub gives_map : (st : StoreState) (f from end : ℕ) (es : List OutPackets) (x : List ℕ) (o : Out) → from ≤ get_or x f 0 → get_or x f 0 ≤ end → GivesAny st es x o → HasAny st f (map (stretch from end) es) x o
gives_map st f from end es x o a b w =
    let at : stretch from end (entry es w.0) ≡ piece (map (stretch from end) es) w.0 = sym (piece_map from end es w.0 w.2) in (
      w.0,
      omega arith,
      omega (arith, w.2, length-map es (stretch from end)),
      subst (λ (s : Stretch). s.out ≡ o) at w.3,
      subst (λ (s : Stretch). s.from ≤ get_or x f 0) at a,
      subst (λ (s : Stretch). get_or x f 0 ≤ s.end) at b,
      subst (λ (s : Stretch). Has st s.packets x) at w.4,
    )

-- those in another order are so
pub stretches_moved : (st : StoreState) (f : ℕ) (ss ts : List Stretch) → IsPermutation ss ts → AreStretches st f ss → AreStretches st f ts
stretches_moved st f ss ts p k i l =
    let c = Contains-permutation ts ss (piece ts i) (IsPermutation-sym ss ts p) (i, l, get_or_default ts i (piece ts i) (stretch 0 0 (out_with_packets 0 no_out)) l) in
    subst (IsStretch st f) (get_or_default ss c.0 (stretch 0 0 (out_with_packets 0 no_out)) (piece ts i) c.1 ∙ c.2) (k c.0 c.1)

-- those in another order have the same
pub any_moved : (st : StoreState) (f : ℕ) (ss ts : List Stretch) (x : List ℕ) (o : Out) → IsPermutation ss ts → HasAny st f ss x o → HasAny st f ts x o
any_moved st f ss ts x o p w =
    let s : Stretch = piece ss w.0 in
    let c = Contains-permutation ss ts s p (w.0, w.2, get_or_default ss w.0 s (stretch 0 0 (out_with_packets 0 no_out)) w.2) in
    has_moved st ss ts 0 (length ss) (get_or x f 0) x o w c.0 (length ts) c.1 (sym (get_or_default ts c.0 (stretch 0 0 (out_with_packets 0 no_out)) s c.1 ∙ c.2))
