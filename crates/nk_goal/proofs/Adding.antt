-- Entries found, added and taken away.
use Rattle.std.proofs.Common.{◌≡◌, ℕ, suc, zero, ◌<◌, ◌≤◌, ◌+◌, ◌⊎◌, Bool, true, false, inl, inr, refl, sym, ◌∙◌, ap, subst, arith, List, [], ◌∷◌, ◌++◌, length, get_or, take, Some, None, cond, eqb}
use Rattle.std.specs.Prelude.{◌||◌, ◌&&◌, not}
use Rattle.std.specs.Map.{lookup}
use Rattle.std.proofs.lemmas.Bool.Decides.{eqb_tells}
use Rattle.nk_store.specs.StoreState.{StoreState, IsWhole, look, Grows, HasLeaves}
use Rattle.nk_apply.specs.Leaves.{merged}
use Rattle.nk_apply.specs.Predicates.{IsPredicate}
use Rattle.nk_sets.specs.PacketSets.{has_some_out, is_in, IsSet, IsPacketSetOf}
use Rattle.nk_sets.proofs.SetLemmas.{set_grows, merged_out}
use Rattle.nk_sets.proofs.Kept.{Has, packet_on, has_on, has_back}
use Rattle.nk_determ.specs.Pairs.{Under, Named, Once, EachPair}
use Rattle.nk_goal.specs.Entries.{HaveSets, IsJoined, IsMerged, IsAdded, IsRest, with_packets}
use Rattle.nk_goal.proofs.Growing.{under_on, under_back, under_named, each_weaker}

-- a set that isn't found has no entry
pub not_found : (ps : List (ℕ × ℕ)) (t : ℕ) → lookup (eqb t) ps ≡ None → Named ps t → ⊥
not_found [] t e n = n
not_found (p ∷ ps) t e n = elim (eqb_tells t p.0) [
  | inl same ↦ let z = sym (ap (λ b. cond b (Some p.1) (lookup (eqb t) ps)) same.0) ∙ e in absurd cc
  | inr other ↦ elim n [
    | inl here ↦ other.1 (sym here)
    | inr later ↦ not_found ps t (sym (ap (λ b. cond b (Some p.1) (lookup (eqb t) ps)) other.0) ∙ e) later
  ]
]

-- what is found is an entry's set of packets
pub found_set : (st : StoreState) (ps : List (ℕ × ℕ)) (t v : ℕ) → lookup (eqb t) ps ≡ Some v → HaveSets st ps → IsSet st v
found_set st [] t v e h = absurd cc
found_set st (p ∷ ps) t v e h = elim (eqb_tells t p.0) [
  | inl same ↦
      let z : Some p.1 ≡ Some v = sym (ap (λ b. cond b (Some p.1) (lookup (eqb t) ps)) same.0) ∙ e in
      let w : p.1 ≡ v = cc in subst (IsSet st) w h.0
  | inr other ↦ found_set st ps t v (sym (ap (λ b. cond b (Some p.1) (lookup (eqb t) ps)) other.0) ∙ e) h.1
]

-- what is found stands under the set
pub found_under : (st : StoreState) (ps : List (ℕ × ℕ)) (t v : ℕ) (x : List ℕ) → lookup (eqb t) ps ≡ Some v → Has st v x → Under st ps t x
found_under st [] t v x e h = absurd cc
found_under st (p ∷ ps) t v x e h = elim (eqb_tells t p.0) [
  | inl same ↦
      let z : Some p.1 ≡ Some v = sym (ap (λ b. cond b (Some p.1) (lookup (eqb t) ps)) same.0) ∙ e in
      let w : p.1 ≡ v = cc in inl (sym same.1, subst (λ k. Has st k x) (sym w) h)
  | inr other ↦ inr (found_under st ps t v x (sym (ap (λ b. cond b (Some p.1) (lookup (eqb t) ps)) other.0) ∙ e) h)
]

-- what stands under a set with one entry is in what is found
pub under_found : (st : StoreState) (ps : List (ℕ × ℕ)) (t v : ℕ) (x : List ℕ) → Once ps → lookup (eqb t) ps ≡ Some v → Under st ps t x → Has st v x
under_found st [] t v x o e u = absurd u
under_found st (p ∷ ps) t v x o e u = elim (eqb_tells t p.0) [
  | inl same ↦
      let z : Some p.1 ≡ Some v = sym (ap (λ b. cond b (Some p.1) (lookup (eqb t) ps)) same.0) ∙ e in
      let w : p.1 ≡ v = cc in
      elim u [
        | inl here ↦ subst (λ k. Has st k x) w here.1
        | inr later ↦ absurd (o.0 (subst (λ k. Named ps k) same.1 (under_named st ps t x later)))
      ]
  | inr other ↦ elim u [
    | inl here ↦ absurd (other.1 (sym here.0))
    | inr later ↦ under_found st ps t v x o.1 (sym (ap (λ b. cond b (Some p.1) (lookup (eqb t) ps)) other.0) ∙ e) later
  ]
]

-- one of two tests that hold together
pub either_true : (a b : Bool) → (a || b) ≡ true → (a ≡ true) ⊎ (b ≡ true)
either_true true b e = inl refl
either_true false b e = inr e

-- the first of two tests
pub left_true : (a b : Bool) → a ≡ true → (a || b) ≡ true
left_true true b e = refl
left_true false b e = cc

-- the second of two tests
pub right_true : (a b : Bool) → b ≡ true → (a || b) ≡ true
right_true true b e = refl
right_true false b e = e

-- the packets of a set that is found, and others
pub joined_some : (st new : StoreState) (ps : List (ℕ × ℕ)) (t y v r : ℕ) → Once ps → HaveSets st ps → lookup (eqb t) ps ≡ Some v → IsSet st y →
    HasLeaves new r (λ pk. merged (look st v pk) (look st y pk)) → (IsPredicate st v → IsPredicate st y → IsPredicate new r) → IsJoined st ps t y new r
joined_some st new ps t y v r o h e s g p =
    let sv : IsSet st v = found_set st ps t v e h in
    let at : (x : List ℕ) → IsWhole x → is_in new r x ≡ (is_in st v x || is_in st y x) = λ x w. ap has_some_out (g.leaf x w) ∙ merged_out (look st v x) (look st y x) in
    record {
      packets = record { id = g.id; predicate = p sv.predicate s.predicate };
      either = λ x w u. elim (either_true (is_in st v x) (is_in st y x) (sym (at x w.0) ∙ u)) [
        | inl a ↦ inl (found_under st ps t v x e a)
        | inr b ↦ inr b
      ];
      old = λ x w u. at x w.0 ∙ left_true (is_in st v x) (is_in st y x) (under_found st ps t v x o e u);
      more = λ x w u. at x w.0 ∙ right_true (is_in st v x) (is_in st y x) u;
    }

-- the others alone, where the set is not found
pub joined_none : (st : StoreState) (ps : List (ℕ × ℕ)) (t y : ℕ) → lookup (eqb t) ps ≡ None → IsSet st y → IsJoined st ps t y st y
joined_none st ps t y e s = record {
  packets = s;
  either = λ x w u. inr u;
  old = λ x w u. absurd (not_found ps t e (under_named st ps t x u));
  more = λ x w u. u;
}

-- where the set has no entry, all is left
pub rest_none : (st : StoreState) (ps : List (ℕ × ℕ)) (t y : ℕ) → IsSet st y → lookup (eqb t) ps ≡ None → IsRest st ps t y st y
rest_none st ps t y p e = record {
  packets = p;
  first = λ x g h. h;
  second = λ x g h u. not_found ps t e (under_named st ps t x u);
  both = λ x g h n. h;
}

-- the first of two tests that hold both
first_true : (a b : Bool) → (a && not b) ≡ true → a ≡ true
first_true true b e = refl
first_true false b e = cc

-- the second one fails
second_false : (a b : Bool) → (a && not b) ≡ true → b ≡ true → ⊥
second_false true true e h = cc
second_false true false e h = cc
second_false false b e h = cc

-- a test holds where another one fails
first_alone : (a b : Bool) → a ≡ true → (b ≡ true → ⊥) → (a && not b) ≡ true
first_alone true true e n = absurd (n refl)
first_alone true false e n = refl
first_alone false b e n = cc

-- where the set has an entry, what is left is the difference
pub rest_some : (st new : StoreState) (ps : List (ℕ × ℕ)) (t y v r : ℕ) → Once ps → lookup (eqb t) ps ≡ Some v → IsPacketSetOf new r (λ pk. is_in st y pk && not (is_in st v pk)) → IsRest st ps t y new r
rest_some st new ps t y v r o e m = record {
  packets = m.set;
  first = λ x g h. first_true (is_in st y x) (is_in st v x) (sym (m.at x g.0) ∙ h);
  second = λ x g h u. second_false (is_in st y x) (is_in st v x) (sym (m.at x g.0) ∙ h) (under_found st ps t v x o e u);
  both = λ x g h n. m.at x g.0 ∙ first_alone (is_in st y x) (is_in st v x) h (λ b. n (found_under st ps t v x e b));
}

-- a packet under two lists together is under one of them
pub under_append : (st : StoreState) (ps qs : List (ℕ × ℕ)) (i : ℕ) (x : List ℕ) → Under st (ps ++ qs) i x → Under st ps i x ⊎ Under st qs i x
under_append st [] qs i x u = inr u
under_append st (p ∷ ps) qs i x u = elim u [
  | inl here ↦ inl (inl here)
  | inr later ↦ elim (under_append st ps qs i x later) [ inl a ↦ inl (inr a) | inr b ↦ inr b ]
]

-- a packet under the first list is under both together
pub under_left : (st : StoreState) (ps qs : List (ℕ × ℕ)) (i : ℕ) (x : List ℕ) → Under st ps i x → Under st (ps ++ qs) i x
under_left st [] qs i x u = absurd u
under_left st (p ∷ ps) qs i x u = elim u [ inl here ↦ inl here | inr later ↦ inr (under_left st ps qs i x later) ]

-- a packet under the second list is under both together
pub under_right : (st : StoreState) (ps qs : List (ℕ × ℕ)) (i : ℕ) (x : List ℕ) → Under st qs i x → Under st (ps ++ qs) i x
under_right st [] qs i x u = u
under_right st (p ∷ ps) qs i x u = inr (under_right st ps qs i x u)

-- a set named in two lists together is named in one of them
pub named_append : (ps qs : List (ℕ × ℕ)) (i : ℕ) → Named (ps ++ qs) i → Named ps i ⊎ Named qs i
named_append [] qs i n = inr n
named_append (p ∷ ps) qs i n = elim n [
  | inl here ↦ inl (inl here)
  | inr later ↦ elim (named_append ps qs i later) [ inl a ↦ inl (inr a) | inr b ↦ inr b ]
]

-- a set named in the first list is named in both together
pub named_left : (ps qs : List (ℕ × ℕ)) (i : ℕ) → Named ps i → Named (ps ++ qs) i
named_left [] qs i n = absurd n
named_left (p ∷ ps) qs i n = elim n [ inl here ↦ inl here | inr later ↦ inr (named_left ps qs i later) ]

-- a set named in the second list is named in both together
pub named_right : (ps qs : List (ℕ × ℕ)) (i : ℕ) → Named qs i → Named (ps ++ qs) i
named_right [] qs i n = n
named_right (p ∷ ps) qs i n = inr (named_right ps qs i n)

-- what holds of the entries of two lists holds of both together
pub each_append : (P : ℕ × ℕ → Type 0) (ps qs : List (ℕ × ℕ)) → EachPair P ps → EachPair P qs → EachPair P (ps ++ qs)
each_append P [] qs a b = b
each_append P (p ∷ ps) qs a b = (a.0, each_append P ps qs a.1 b)

-- a list with each set once, and an entry of another set
pub once_push : (ps : List (ℕ × ℕ)) (p : ℕ × ℕ) → Once ps → (Named ps p.0 → ⊥) → Once (ps ++ p ∷ [])
once_push [] p o n = (λ e. e, tt)
once_push (q ∷ qs) p o n = (
  λ m. elim (named_append qs (p ∷ []) q.0 m) [
    | inl was ↦ o.0 was
    | inr now ↦ elim now [ inl e ↦ n (inl (sym e)) | inr z ↦ z ]
  ],
  once_push qs p o.1 (λ m. n (inr m)),
)

-- in a list with each set once, an entry's set isn't named before it
pub once_apart : (ps qs : List (ℕ × ℕ)) (p : ℕ × ℕ) → Once (ps ++ p ∷ qs) → Named ps p.0 → ⊥
once_apart [] qs p o n = n
once_apart (q ∷ ps) qs p o n = elim n [
  | inl here ↦ o.0 (subst (λ k. Named (ps ++ p ∷ qs) k) (sym here) (named_right ps (p ∷ qs) p.0 (inl refl)))
  | inr later ↦ once_apart ps qs p o.1 later
]

-- what stands under entries of which one was written stood there, or is new
pub put_either : (st new : StoreState) (ps : List (ℕ × ℕ)) (t v i : ℕ) (x : List ℕ) → Grows st new → HaveSets st ps → Under new (with_packets ps t v) i x → Under st ps i x ⊎ ((i ≡ t) × Has new v x)
put_either st new [] t v i x g h u = elim u [ inl here ↦ inr (sym here.0, here.1) | inr z ↦ absurd z ]
put_either st new (p ∷ ps) t v i x g h u = elim (eqb_tells t p.0) [
  | inl same ↦
      let w : Under new ((p.0, v) ∷ ps) i x = subst (λ b. Under new (cond b ((p.0, v) ∷ ps) (p ∷ with_packets ps t v)) i x) same.0 u in
      elim w [
        | inl here ↦ inr (sym here.0 ∙ sym same.1, here.1)
        | inr later ↦ inl (inr (under_back st new ps i x g h.1 later))
      ]
  | inr other ↦
      let w : Under new (p ∷ with_packets ps t v) i x = subst (λ b. Under new (cond b ((p.0, v) ∷ ps) (p ∷ with_packets ps t v)) i x) other.0 u in
      elim w [
        | inl here ↦ inl (inl (here.0, has_back st new p.1 x g h.0.id here.1))
        | inr later ↦ elim (put_either st new ps t v i x g h.1 later) [ inl a ↦ inl (inr a) | inr b ↦ inr b ]
      ]
]

-- what stood under another set stands there
pub put_other : (st new : StoreState) (ps : List (ℕ × ℕ)) (t v i : ℕ) (x : List ℕ) → Grows st new → HaveSets st ps → (i ≡ t → ⊥) → Under st ps i x → Under new (with_packets ps t v) i x
put_other st new [] t v i x g h n u = absurd u
put_other st new (p ∷ ps) t v i x g h n u = elim (eqb_tells t p.0) [
  | inl same ↦ subst (λ b. Under new (cond b ((p.0, v) ∷ ps) (p ∷ with_packets ps t v)) i x) (sym same.0) (elim u [
    | inl here ↦ absurd (n (sym here.0 ∙ sym same.1))
    | inr later ↦ inr (under_on st new ps i x g h.1 later)
  ])
  | inr other ↦ subst (λ b. Under new (cond b ((p.0, v) ∷ ps) (p ∷ with_packets ps t v)) i x) (sym other.0) (elim u [
    | inl here ↦ inl (here.0, has_on st new p.1 x g h.0.id here.1)
    | inr later ↦ inr (put_other st new ps t v i x g h.1 n later)
  ])
]

-- the written packets stand under their set
pub put_here : (new : StoreState) (ps : List (ℕ × ℕ)) (t v : ℕ) (x : List ℕ) → Has new v x → Under new (with_packets ps t v) t x
put_here new [] t v x h = inl (refl, h)
put_here new (p ∷ ps) t v x h = elim (eqb_tells t p.0) [
  | inl same ↦ subst (λ b. Under new (cond b ((p.0, v) ∷ ps) (p ∷ with_packets ps t v)) t x) (sym same.0) (inl (sym same.1, h))
  | inr other ↦ subst (λ b. Under new (cond b ((p.0, v) ∷ ps) (p ∷ with_packets ps t v)) t x) (sym other.0) (inr (put_here new ps t v x h))
]

-- a written entry names its set alone besides
pub put_named : (ps : List (ℕ × ℕ)) (t v i : ℕ) → Named (with_packets ps t v) i → Named ps i ⊎ (i ≡ t)
put_named [] t v i n = elim n [ inl here ↦ inr (sym here) | inr z ↦ absurd z ]
put_named (p ∷ ps) t v i n = elim (eqb_tells t p.0) [
  | inl same ↦
      let w : Named ((p.0, v) ∷ ps) i = subst (λ b. Named (cond b ((p.0, v) ∷ ps) (p ∷ with_packets ps t v)) i) same.0 n in
      elim w [ inl here ↦ inl (inl here) | inr later ↦ inl (inr later) ]
  | inr other ↦
      let w : Named (p ∷ with_packets ps t v) i = subst (λ b. Named (cond b ((p.0, v) ∷ ps) (p ∷ with_packets ps t v)) i) other.0 n in
      elim w [
        | inl here ↦ inl (inl here)
        | inr later ↦ elim (put_named ps t v i later) [ inl a ↦ inl (inr a) | inr b ↦ inr b ]
      ]
]

-- written entries have sets of packets
pub put_sets : (st new : StoreState) (ps : List (ℕ × ℕ)) (t v : ℕ) → Grows st new → HaveSets st ps → IsSet new v → HaveSets new (with_packets ps t v)
put_sets st new [] t v g h s = (s, tt)
put_sets st new (p ∷ ps) t v g h s = elim (eqb_tells t p.0) [
  | inl same ↦ subst (λ b. HaveSets new (cond b ((p.0, v) ∷ ps) (p ∷ with_packets ps t v))) (sym same.0)
      (s, each_weaker (λ r. IsSet st r.1) (λ r. IsSet new r.1) ps (λ r w. set_grows st new r.1 g w) h.1)
  | inr other ↦ subst (λ b. HaveSets new (cond b ((p.0, v) ∷ ps) (p ∷ with_packets ps t v))) (sym other.0)
      (set_grows st new p.1 g h.0, put_sets st new ps t v g h.1 s)
]

-- written entries have each set once
pub put_once : (ps : List (ℕ × ℕ)) (t v : ℕ) → Once ps → Once (with_packets ps t v)
put_once [] t v o = (λ n. n, tt)
put_once (p ∷ ps) t v o = elim (eqb_tells t p.0) [
  | inl same ↦ subst (λ b. Once (cond b ((p.0, v) ∷ ps) (p ∷ with_packets ps t v))) (sym same.0) o
  | inr other ↦ subst (λ b. Once (cond b ((p.0, v) ∷ ps) (p ∷ with_packets ps t v))) (sym other.0)
      (λ n. elim (put_named ps t v p.0 n) [ inl a ↦ o.0 a | inr b ↦ other.1 (sym b) ], put_once ps t v o.1)
]

-- the joined packets written under their set
pub added_put : (st new : StoreState) (ps : List (ℕ × ℕ)) (t y v : ℕ) → Grows st new → HaveSets st ps → Once ps → IsJoined st ps t y new v → IsAdded st ps t y new (with_packets ps t v)
added_put st new ps t y v g h o j = record {
  either = λ i x w u. elim (put_either st new ps t v i x g h u) [
    | inl was ↦ inl was
    | inr now ↦ elim (j.either x w now.1) [
      | inl a ↦ inl (subst (λ k. Under st ps k x) (sym now.0) a)
      | inr b ↦ inr (now.0, b)
    ]
  ];
  old = λ i x w u. elim (eqb_tells i t) [
    | inl same ↦ subst (λ k. Under new (with_packets ps t v) k x) (sym same.1) (put_here new ps t v x (j.old x w (subst (λ k. Under st ps k x) same.1 u)))
    | inr other ↦ put_other st new ps t v i x g h other.1 u
  ];
  more = λ x w u. put_here new ps t v x (j.more x w u);
  named = λ i n. put_named ps t v i n;
  packets = put_sets st new ps t v g h j.packets;
  once = put_once ps t v o;
}

-- one entry more
pub merged_push : (a st new : StoreState) (visited level all more : List (ℕ × ℕ)) (p : ℕ × ℕ) → IsMerged a visited level st all → Grows a st → IsSet a p.1 → IsAdded st all p.0 p.1 new more → IsMerged a visited (level ++ p ∷ []) new more
merged_push a st new visited level all more p m g k d = record {
  either = λ i x w u. elim (d.either i x (packet_on a st x g w) u) [
    | inl was ↦ elim (m.either i x w was) [ inl q ↦ inl q | inr q ↦ inr (under_left a level (p ∷ []) i x q) ]
    | inr now ↦ inr (under_right a level (p ∷ []) i x (inl (sym now.0, has_back a st p.1 x g k.id now.1)))
  ];
  old = λ i x w u. d.old i x (packet_on a st x g w) (m.old i x w u);
  more = λ i x w u. elim (under_append a level (p ∷ []) i x u) [
    | inl was ↦ d.old i x (packet_on a st x g w) (m.more i x w was)
    | inr now ↦ elim now [
      | inl here ↦ subst (λ j. Under new more j x) here.0 (d.more x (packet_on a st x g w) (has_on a st p.1 x g k.id here.1))
      | inr z ↦ absurd z
    ]
  ];
  named = λ i n. elim (d.named i n) [
    | inl was ↦ elim (m.named i was) [ inl q ↦ inl q | inr q ↦ inr (named_left level (p ∷ []) i q) ]
    | inr now ↦ inr (named_right level (p ∷ []) i (inl (sym now)))
  ];
  packets = d.packets;
  once = d.once;
}

-- merged entries stay so while the store grows
pub merged_on : (a st new : StoreState) (visited level all : List (ℕ × ℕ)) → IsMerged a visited level st all → Grows st new → IsMerged a visited level new all
merged_on a st new visited level all m g = record {
  either = λ i x w u. m.either i x w (under_back st new all i x g m.packets u);
  old = λ i x w u. under_on st new all i x g m.packets (m.old i x w u);
  more = λ i x w u. under_on st new all i x g m.packets (m.more i x w u);
  named = m.named;
  packets = each_weaker (λ q. IsSet st q.1) (λ q. IsSet new q.1) all (λ q s. set_grows st new q.1 g s) m.packets;
  once = m.once;
}

-- one item more, taken from the front
pub take_more : (ps : List (ℕ × ℕ)) (k : ℕ) (p : ℕ × ℕ) → k < length ps → p ≡ get_or ps k p → take (k + 1) ps ≡ take k ps ++ p ∷ []
take_more [] k p l is = absurd (omega (arith, l))
take_more (q ∷ qs) zero p l is = ap (λ (r : ℕ × ℕ). r ∷ []) (sym is)
take_more (q ∷ qs) (suc k) p l is =
    let e : suc k + 1 ≡ suc (k + 1) = omega arith in
    subst (λ j. take j (q ∷ qs) ≡ q ∷ (take k qs ++ p ∷ [])) (sym e) (ap (λ r. q ∷ r) (take_more qs k p (omega (arith, l)) is))

-- all items taken are the list
pub take_whole : (ps : List (ℕ × ℕ)) (k : ℕ) → length ps ≤ k → take k ps ≡ ps
take_whole [] zero l = refl
take_whole [] (suc k) l = refl
take_whole (q ∷ qs) zero l = absurd (omega (arith, l))
take_whole (q ∷ qs) (suc k) l = ap (λ r. q ∷ r) (take_whole qs k (omega (arith, l)))

-- the list with its entry at a place shown
pub split_at : (ps : List (ℕ × ℕ)) (k : ℕ) (p : ℕ × ℕ) → k < length ps → p ≡ get_or ps k p → (qs : List (ℕ × ℕ)) × (ps ≡ take k ps ++ p ∷ qs)
split_at [] k p l is = absurd (omega (arith, l))
split_at (q ∷ qs) zero p l is = (qs, ap (λ (r : ℕ × ℕ). r ∷ qs) (sym is))
split_at (q ∷ qs) (suc k) p l is = let w = split_at qs k p (omega (arith, l)) is in (w.0, ap (λ r. q ∷ r) w.1)

-- the set of an entry is not named before its place
pub once_before : (ps : List (ℕ × ℕ)) (k : ℕ) (p : ℕ × ℕ) → Once ps → k < length ps → p ≡ get_or ps k p → Named (take k ps) p.0 → ⊥
once_before ps k p o l is = let w = split_at ps k p l is in once_apart (take k ps) w.0 p (subst (λ (q : List (ℕ × ℕ)). Once q) w.1 o)
