-- Levels as stores and sets grow.
use Rattle.std.proofs.Common.{◌≡◌, ℕ, ◌<◌, ◌≤◌, ◌⊎◌, Bool, true, false, inl, inr, refl, sym, ◌∙◌, ap, subst, arith, List, [], ◌∷◌, length, length-append, append-nil, get_or, Contains}
use Rattle.std.proofs.lemmas.Bool.Decides.{eqb_tells}
use Rattle.std.proofs.lemmas.List.{get_or_append_left, get_or_default}
use Rattle.nk_store.specs.StoreState.{StoreState, IsStorePacket, Grows}
use Rattle.nk_sets.specs.PacketSets.{is_in, IsSet}
use Rattle.nk_sets.proofs.SetLemmas.{set_grows}
use Rattle.nk_sets.proofs.Kept.{packet_on, packet_back, has_on, has_back}
use Rattle.nk_determ.specs.Sets.{SetsGrow}
use Rattle.nk_determ.specs.States.{StateLeads}
use Rattle.nk_determ.specs.Pairs.{Node, Under, Named, EachPair, Within, AreStates, AreLabelsBelow, IsPair, ArePairs, IsStep}
use Rattle.nk_determ.specs.Levels.{IsFilled}
pub use Rattle.nk_determ.proofs.Sending.{sends_on, sends_back}
use Rattle.nk_goal.specs.Entries.{HaveSets}

-- a number of a set stays one as the sets grow
pub sets_known : (a b : List (List ℕ)) (i : ℕ) → SetsGrow a b → i < length a → i < length b
sets_known a b i g k = omega (arith, ap (λ (s : List (List ℕ)). length s) g.1, length-append a g.0, k)

-- a set keeps its members as the sets grow
pub sets_same : (a b : List (List ℕ)) (i : ℕ) → SetsGrow a b → i < length a → get_or b i [] ≡ get_or a i []
sets_same a b i g k = ap (λ (s : List (List ℕ)). get_or s i []) g.1 ∙ get_or_append_left a g.0 [] i k

-- sets that stay as they are
pub sets_refl : (a : List (List ℕ)) → SetsGrow a a
sets_refl a = ([], sym (append-nil a))

-- what holds of each entry, weakened
pub each_weaker : (P Q : ℕ × ℕ → Type 0) (ps : List (ℕ × ℕ)) → ((p : ℕ × ℕ) → P p → Q p) → EachPair P ps → EachPair Q ps
each_weaker P Q [] f e = tt
each_weaker P Q (p ∷ ps) f e = (f p e.0, each_weaker P Q ps f e.1)

-- a packet under a set stays there as the store grows
pub under_on : (a b : StoreState) (ps : List (ℕ × ℕ)) (i : ℕ) (x : List ℕ) → Grows a b → HaveSets a ps → Under a ps i x → Under b ps i x
under_on a b [] i x g e u = absurd u
under_on a b (p ∷ ps) i x g e u = elim u [
  | inl here ↦ inl (here.0, has_on a b p.1 x g e.0.id here.1)
  | inr later ↦ inr (under_on a b ps i x g e.1 later)
]

-- a packet under a set of the grown store was there
pub under_back : (a b : StoreState) (ps : List (ℕ × ℕ)) (i : ℕ) (x : List ℕ) → Grows a b → HaveSets a ps → Under b ps i x → Under a ps i x
under_back a b [] i x g e u = absurd u
under_back a b (p ∷ ps) i x g e u = elim u [
  | inl here ↦ inl (here.0, has_back a b p.1 x g e.0.id here.1)
  | inr later ↦ inr (under_back a b ps i x g e.1 later)
]

-- a set with a packet under it has an entry
pub under_named : (st : StoreState) (ps : List (ℕ × ℕ)) (i : ℕ) (x : List ℕ) → Under st ps i x → Named ps i
under_named st [] i x u = absurd u
under_named st (p ∷ ps) i x u = elim u [ inl here ↦ inl here.0 | inr later ↦ inr (under_named st ps i x later) ]

-- what is known of a set with an entry
pub named_known : (st : StoreState) (ss : List (List ℕ)) (r : ℕ) (ps : List (ℕ × ℕ)) (i : ℕ) → EachPair (IsPair st ss r) ps → Named ps i → (i < length ss) × AreLabelsBelow r (get_or ss i [])
named_known st ss r [] i e n = absurd n
named_known st ss r (p ∷ ps) i e n = elim n [
  | inl here ↦ (subst (λ j. (j < length ss)) here e.0.known, subst (λ j. AreLabelsBelow r (get_or ss j [])) here e.0.places)
  | inr later ↦ named_known st ss r ps i e.1 later
]

-- entries of known sets
pub pairs_of : (st : StoreState) (ss : List (List ℕ)) (r : ℕ) (ps : List (ℕ × ℕ)) → ((i : ℕ) → Named ps i → (i < length ss) × AreLabelsBelow r (get_or ss i [])) → HaveSets st ps → EachPair (IsPair st ss r) ps
pairs_of st ss r [] k e = tt
pairs_of st ss r (p ∷ ps) k e = (record { known = (k p.0 (inl refl)).0; places = (k p.0 (inl refl)).1; packets = e.0 }, pairs_of st ss r ps (λ i n. k i (inr n)) e.1)

-- entries have sets of packets
pub packets_of : (st : StoreState) (ss : List (List ℕ)) (r : ℕ) (ps : List (ℕ × ℕ)) → EachPair (IsPair st ss r) ps → HaveSets st ps
packets_of st ss r ps e = each_weaker (IsPair st ss r) (λ p. IsSet st p.1) ps (λ p q. q.packets) e

-- an entry stays one as store and sets grow
pub pair_on : (a b : StoreState) (ss nss : List (List ℕ)) (r : ℕ) (p : ℕ × ℕ) → Grows a b → SetsGrow ss nss → IsPair a ss r p → IsPair b nss r p
pair_on a b ss nss r p g h q = record {
  known = sets_known ss nss p.0 h q.known;
  places = subst (AreLabelsBelow r) (sym (sets_same ss nss p.0 h q.known)) q.places;
  packets = set_grows a b p.1 g q.packets;
}

-- entries stay entries as store and sets grow
pub pairs_on : (a b : StoreState) (ss nss : List (List ℕ)) (r : ℕ) (ps : List (ℕ × ℕ)) → Grows a b → SetsGrow ss nss → ArePairs a ss r ps → ArePairs b nss r ps
pairs_on a b ss nss r ps g h q = record {
  each = each_weaker (IsPair a ss r) (IsPair b nss r) ps (λ p. pair_on a b ss nss r p g h) q.each;
  once = q.once;
}

-- a node stays in a level as store and sets grow
pub within_on : (a b : StoreState) (ss nss : List (List ℕ)) (r : ℕ) (ps : List (ℕ × ℕ)) (n : Node) → Grows a b → SetsGrow ss nss → ArePairs a ss r ps → Within a ss ps n → Within b nss ps n
within_on a b ss nss r ps n g h q w =
    let k = named_known a ss r ps w.0 q.each (under_named a ps w.0 n.1 w.2) in
    (w.0, sets_same ss nss w.0 h k.0 ∙ w.1, under_on a b ps w.0 n.1 g (packets_of a ss r ps q.each) w.2)

-- a node in a level of the grown store was there
pub within_back : (a b : StoreState) (ss nss : List (List ℕ)) (r : ℕ) (ps : List (ℕ × ℕ)) (n : Node) → Grows a b → SetsGrow ss nss → ArePairs a ss r ps → Within b nss ps n → Within a ss ps n
within_back a b ss nss r ps n g h q w =
    let u = under_back a b ps w.0 n.1 g (packets_of a ss r ps q.each) w.2 in
    let k = named_known a ss r ps w.0 q.each (under_named a ps w.0 n.1 u) in
    (w.0, sym (sets_same ss nss w.0 h k.0) ∙ w.1, u)

-- the members of a set within a level have places
pub within_places : (st : StoreState) (ss : List (List ℕ)) (r : ℕ) (ps : List (ℕ × ℕ)) (n : Node) → ArePairs st ss r ps → Within st ss ps n → AreLabelsBelow r n.0
within_places st ss r ps n q w = subst (AreLabelsBelow r) w.1 (named_known st ss r ps w.0 q.each (under_named st ps w.0 n.1 w.2)).1

-- a label of a set that has places has one
pub place_of : (n : ℕ) (set : List ℕ) (l : ℕ) → AreLabelsBelow n set → Contains set l → l < n
place_of n set l p c = subst (λ k. k < n) c.2 (p c.0 l c.1)

-- states that lead do so as the store grows
pub leads_on : (a b : StoreState) (states set x y : List ℕ) (t : ℕ) → Grows a b → AreStates a states → AreLabelsBelow (length states) set → StateLeads a states set x y t → StateLeads b states set x y t
leads_on a b states set x y t g r p q =
    (q.0, q.1, sends_on a b (get_or states q.0 0) x y t g (r.ids q.0 (place_of (length states) set q.0 p q.1)) q.2)

-- states that lead in the grown store did so before
pub leads_back : (a b : StoreState) (states set x y : List ℕ) (t : ℕ) → Grows a b → AreStates a states → AreLabelsBelow (length states) set → StateLeads b states set x y t → StateLeads a states set x y t
leads_back a b states set x y t g r p q =
    (q.0, q.1, sends_back a b (get_or states q.0 0) x y t g (r.ids q.0 (place_of (length states) set q.0 p q.1)) q.2)

-- states stay states as the store grows
pub states_grow : (a b : StoreState) (states : List ℕ) → Grows a b → AreStates a states → AreStates b states
states_grow a b states g r = record {
  ids = λ k l. g.ids (get_or states k 0) (r.ids k l);
  targets = λ l pk y t m p s. r.targets l pk y t m (packet_back a b pk g p) (sends_back a b (get_or states l 0) pk y t g (r.ids l m) s);
}

-- a step stays one as the store grows
pub step_on : (a b : StoreState) (states : List ℕ) (m n : Node) → Grows a b → AreStates a states → AreLabelsBelow (length states) m.0 → IsStep a states m n → IsStep b states m n
step_on a b states m n g r p s = record {
  packet = packet_on a b n.1 g s.packet;
  some = s.some;
  ascend = s.ascend;
  every = λ l. (
    λ c. let q = (s.every l).0 c in (q.0, leads_on a b states m.0 m.1 n.1 l g r p q.1),
    λ q. (s.every l).1 (q.0, leads_back a b states m.0 m.1 n.1 l g r p q.1),
  );
}

-- a step of the grown store was one before
pub step_back : (a b : StoreState) (states : List ℕ) (m n : Node) → Grows a b → AreStates a states → AreLabelsBelow (length states) m.0 → IsStep b states m n → IsStep a states m n
step_back a b states m n g r p s = record {
  packet = packet_back a b n.1 g s.packet;
  some = s.some;
  ascend = s.ascend;
  every = λ l. (
    λ c. let q = (s.every l).0 c in (q.0, leads_back a b states m.0 m.1 n.1 l g r p q.1),
    λ q. (s.every l).1 (q.0, leads_on a b states m.0 m.1 n.1 l g r p q.1),
  );
}

-- the members of a set that is recorded next have places
pub step_places : (st : StoreState) (states : List ℕ) (m n : Node) → AreStates st states → AreLabelsBelow (length states) m.0 → IsStorePacket st m.1 → IsStep st states m n → AreLabelsBelow (length states) n.0
step_places st states m n r p w s k d l =
    let q = (s.every (get_or n.0 k d)).0 (k, l, get_or_default n.0 k (get_or n.0 k d) d l) in
    r.targets q.1.0 m.1 n.1 (get_or n.0 k d) (place_of (length states) m.0 q.1.0 p q.1.1) w q.1.2

-- lists of numbers are equal or not
pub lists_differ : (xs ys : List ℕ) → (xs ≡ ys) ⊎ (xs ≡ ys → ⊥)
lists_differ [] [] = inl refl
lists_differ [] (y ∷ ys) = inr (λ e. cc)
lists_differ (x ∷ xs) [] = inr (λ e. cc)
lists_differ (x ∷ xs) (y ∷ ys) = elim (eqb_tells x y) [
  | inl same ↦ let e : x ≡ y = same.1 in elim (lists_differ xs ys) [ inl rest ↦ inl (cc) | inr other ↦ inr (λ h. other (cc)) ]
  | inr other ↦ inr (λ h. other.1 (cc))
]

-- a packet is in a set or not
pub has_or_not : (b : Bool) → (b ≡ true) ⊎ (b ≡ true → ⊥)
has_or_not true = inl refl
has_or_not false = inr (λ e. cc)

-- a node of a level is one with an entry more
pub within_more : (st : StoreState) (ss : List (List ℕ)) (p : ℕ × ℕ) (ps : List (ℕ × ℕ)) (n : Node) → Within st ss ps n → Within st ss (p ∷ ps) n
within_more st ss p ps n w = (w.0, w.1, inr w.2)

-- whether a node is in a level
pub within_or_not : (st : StoreState) (ss : List (List ℕ)) (ps : List (ℕ × ℕ)) (n : Node) → Within st ss ps n ⊎ (Within st ss ps n → ⊥)
within_or_not st ss [] n = inr (λ q. absurd q.2)
within_or_not st ss (p ∷ ps) n = elim (within_or_not st ss ps n) [
  | inl later ↦ inl (within_more st ss p ps n later)
  | inr not_later ↦ elim (lists_differ (get_or ss p.0 []) n.0) [
    | inl same ↦ elim (has_or_not (is_in st p.1 n.1)) [
      | inl has ↦ inl (p.0, same, inl (refl, has))
      | inr none ↦ inr (λ q. elim q.2 [
        | inl here ↦ none here.1
        | inr there ↦ not_later (q.0, q.1, there)
      ])
    ]
    | inr other ↦ inr (λ q. elim q.2 [
      | inl here ↦ other (ap (λ i. get_or ss i []) here.0 ∙ q.1)
      | inr there ↦ not_later (q.0, q.1, there)
    ])
  ]
]

-- entries with packets keep them
pub filled_on : (a b : StoreState) (ps : List (ℕ × ℕ)) → Grows a b → HaveSets a ps → EachPair (λ p. IsFilled a p.1) ps → EachPair (λ p. IsFilled b p.1) ps
filled_on a b [] g e f = tt
filled_on a b (p ∷ ps) g e f = ((f.0.0, packet_on a b f.0.0 g f.0.1, has_on a b p.1 f.0.0 g e.0.id f.0.2), filled_on a b ps g e.1 f.1)

-- entries over fewer states are entries over more
pub pairs_more : (st : StoreState) (ss : List (List ℕ)) (r k : ℕ) (ps : List (ℕ × ℕ)) → r ≤ k → ArePairs st ss r ps → ArePairs st ss k ps
pairs_more st ss r k ps l q = record {
  each = each_weaker (IsPair st ss r) (IsPair st ss k) ps (λ p e. record { known = e.known; packets = e.packets; places = λ j d m. omega (arith, l, e.places j d m) }) q.each;
  once = q.once;
}
