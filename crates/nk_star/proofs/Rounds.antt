-- Rounds of copies: each round's leaf is got from the one before, so a packet whose leaf stays once stays for ever.
use Rattle.std.proofs.Common.{◌≡◌, ℕ, zero, suc, ◌+◌, ◌-◌, ◌<◌, ◌≤◌, Bool, true, false, List, [], ◌∷◌, length, refl, sym, ◌∙◌, ap, subst, arith, set, ◌⊎◌, ◌↔◌, inl, inr, Contains}
use Rattle.std.proofs.lemmas.Bool.Decides.{leb_tells, eqb_tells}
use Rattle.std.proofs.lemmas.List.{length-set, set-set, set_comm}
use Rattle.nk_field.specs.Act.{applied, act_then}
use Rattle.nk_store.specs.declared.node.Out.{Out}
use Rattle.nk_store.specs.declared.node.Node.{Node}
use Rattle.nk_store.specs.declared.node.Node.TheVariants.{Leaf, Case}
use Rattle.nk_store.specs.Leaves.{Every, Strict}
use Rattle.nk_store.specs.StoreState.{StoreState, IsId, IsWhole, look, root_field, Grows, HasLeaves, IsNodeOf, IsStill, IsReduced}
use Rattle.nk_apply.specs.Leaves.{merged}
use Rattle.nk_apply.specs.Seqs.{no_out, out_after, prefixed, seq_leaf}
use Rattle.nk_apply.specs.Predicates.{IsPass, HasOnlyFinals}
use Rattle.nk_apply.proofs.Sorted.{merged_strict, prefixed_strict}
use Rattle.nk_apply.proofs.Members.{Has, has_contains, contains_has, every_has, merged_left, merged_right, merged_has, merged_grows, strict_same, gathered_strict, seq_leaf_is, seq_leaf_has, has_seq_leaf}
use Rattle.nk_apply.proofs.Predicates.{whole_applied, pass_seq, ends_merged, ends_seq}
use Rattle.nk_star.specs.Steps.{Steps, rounds, IsLastRound}
use Rattle.nk_store.specs.Operations.{has_out, lacking}
use Rattle.nk_star.proofs.Lacks.{found_has, lacking_has, has_lacking}
use Rattle.nk_star.proofs.Room.{room}

-- the next round's leaf
abbrev pub next_round : (List ℕ → List Out) → List ℕ → List Out → List Out
next_round D pk L = merged L (seq_leaf L D pk)

-- after n rounds the leaf has more than n outs, or the next round adds nothing
pub climbs : (D : List ℕ → List Out) (pk : List ℕ) (n : ℕ) →
    (n < length (rounds D n pk)) ⊎ (rounds D (suc n) pk ≡ rounds D n pk)
climbs D pk zero = inl (omega arith)
climbs D pk (suc n) = elim (climbs D pk n) [
  | inl less ↦ elim (merged_grows (rounds D n pk) (seq_leaf (rounds D n pk) D pk)) [
    | inl more ↦ inl (omega (arith, less, more))
    | inr same ↦ inr (ap (next_round D pk) same)
  ]
  | inr same ↦ inr (ap (next_round D pk) same)
]

-- the outs of each round go to target 0
pub rounds_end : (D : List ℕ → List Out) (n : ℕ) (pk : List ℕ) → HasOnlyFinals D → IsWhole pk →
    Every (λ o. o.target ≡ 0) (rounds D n pk)
rounds_end D zero pk z w = (refl, tt)
rounds_end D (suc n) pk z w =
    ends_merged (rounds D n pk) (seq_leaf (rounds D n pk) D pk) (rounds_end D n pk z w) (ends_seq (rounds D n pk) D pk w z)

-- what a sequence makes ascends
pub seq_strict : (os : List Out) (B : List ℕ → List Out) (pk : List ℕ) → Strict (seq_leaf os B pk)
seq_strict os B pk = subst Strict (sym (seq_leaf_is os B pk)) (gathered_strict (λ o. prefixed o.act (B (applied o.act pk))) os (λ o. prefixed_strict o.act (B (applied o.act pk))))

-- each round ascends
pub rounds_strict : (D : List ℕ → List Out) (n : ℕ) (pk : List ℕ) → Strict (rounds D n pk)
rounds_strict D zero pk = (tt, tt)
rounds_strict D (suc n) pk = merged_strict (rounds D n pk) (seq_leaf (rounds D n pk) D pk) (rounds_strict D n pk) (seq_strict (rounds D n pk) D pk)

-- what the rounds have, some number of copies make
pub rounds_step : (D : List ℕ → List Out) (n : ℕ) (pk : List ℕ) (o : Out) → HasOnlyFinals D → IsWhole pk →
    Has (rounds D n pk) o → (m : ℕ) × Steps D m pk o.act
rounds_step D zero pk o z w (inl e) = (0, ap (λ (x : Out). x.act) (sym e))
rounds_step D zero pk o z w (inr h) = absurd h
rounds_step D (suc n) pk o z w h = elim (merged_has o (rounds D n pk) (seq_leaf (rounds D n pk) D pk) h) [
  | inl k ↦ rounds_step D n pk o z w k
  | inr k ↦
      let r = has_seq_leaf (rounds D n pk) D pk o k in
      let q : r.1.target ≡ 0 = every_has (λ (x : Out). x.target ≡ 0) (D (applied r.0.act pk)) r.1 (z (applied r.0.act pk) (whole_applied r.0.act pk w)) r.3 in
      let before = rounds_step D n pk r.0 z w r.2 in
      let is : r.1 ≡ record { act = r.1.act; target = 0 } = ap (λ t. record { act = r.1.act; target = t }) q in
      (suc before.0, (r.0.act, r.1.act, before.1, has_contains (D (applied r.0.act pk)) (record { act = r.1.act; target = 0 }) (subst (Has (D (applied r.0.act pk))) is r.3), ap (λ (x : Out). x.act) (sym r.4)))
]

-- the packet itself is in each round
pub rounds_first : (D : List ℕ → List Out) (n : ℕ) (pk : List ℕ) → Has (rounds D n pk) no_out
rounds_first D zero pk = inl refl
rounds_first D (suc n) pk = merged_left no_out (rounds D n pk) (seq_leaf (rounds D n pk) D pk) (rounds_first D n pk)

-- where one more round adds nothing, all numbers of copies are in
pub rounds_all : (D : List ℕ → List Out) (n : ℕ) (pk : List ℕ) → rounds D (suc n) pk ≡ rounds D n pk → (m : ℕ)
    (g : List (ℕ × ℕ)) → Steps D m pk g → Has (rounds D n pk) (record { act = g; target = 0 })
rounds_all D n pk same zero g s = subst (λ x. Has (rounds D n pk) (record { act = x; target = 0 })) (sym s) (rounds_first D n pk)
rounds_all D n pk same (suc m) g s =
    let L = rounds D n pk in
    let before : Has L (record { act = s.0; target = 0 }) = rounds_all D n pk same m s.0 s.2 in
    let made : Has (seq_leaf L D pk) (record { act = act_then s.0 s.1; target = 0 }) = seq_leaf_has L D pk (record { act = s.0; target = 0 }) (record { act = s.1; target = 0 }) before (contains_has (D (applied s.0 pk)) (record { act = s.1; target = 0 }) s.3) in
    subst (λ x. Has L (record { act = x; target = 0 })) (sym s.4)
    (subst (λ xs. Has xs (record { act = act_then s.0 s.1; target = 0 })) same (merged_right (record { act = act_then s.0 s.1; target = 0 }) L (seq_leaf L D pk) made))

-- the outs of the last round are those that some number of copies make
pub last_steps : (st : StoreState) (r : ℕ) (D : List ℕ → List Out) → HasOnlyFinals D → IsLastRound st r D → (pk : List ℕ)
    (g : List (ℕ × ℕ)) → IsWhole pk →
    Contains (look st r pk) (record { act = g; target = 0 }) ↔ ((m : ℕ) × Steps D m pk g)
last_steps st r D z last pk g w = (
  λ c. rounds_step D last.count pk (record { act = g; target = 0 }) z w (subst (λ xs. Has xs (record { act = g; target = 0 })) (last.leaves.leaf pk w) (contains_has (look st r pk) (record { act = g; target = 0 }) c)),
  λ s. has_contains (look st r pk) (record { act = g; target = 0 }) (subst (λ xs. Has xs (record { act = g; target = 0 })) (sym (last.leaves.leaf pk w)) (rounds_all D last.count pk (last.still pk w) s.0 g s.1)),
)

-- the outs of the last round go to target 0
pub last_ends : (st : StoreState) (r : ℕ) (D : List ℕ → List Out) → HasOnlyFinals D → IsLastRound st r D → HasOnlyFinals (look st r)
last_ends st r D z last = λ pk w. subst (Every (λ o. o.target ≡ 0)) (sym (last.leaves.leaf pk w)) (rounds_end D last.count pk z w)

-- what one more copy makes, it makes after the outs of this diagram, or it is there after n copies
pub record IsFresh (st : StoreState) (fresh : ℕ) (D : List ℕ → List Out) (n : ℕ) : Type 0 where
  pub id : IsId st fresh
  pub enough : (pk : List ℕ) → IsWhole pk → merged (rounds D n pk) (seq_leaf (look st fresh pk) D pk) ≡ rounds D (suc n) pk

-- what a copy makes of an out
made_by : (D : List ℕ → List Out) (pk : List ℕ) (o p q : Out) (xs : List Out) → Has xs p →
    Has (D (applied p.act pk)) q → out_after p.act q ≡ o → Has (seq_leaf xs D pk) o
made_by D pk o p q xs h k is = subst (Has (seq_leaf xs D pk)) is (seq_leaf_has xs D pk p q h k)

-- the outs that a round added are enough to make the next one: L is the round before, N the round, M what was put to L
pub fresh_enough : (D : List ℕ → List Out) (pk : List ℕ) (L M N : List Out) → Strict N → merged L (seq_leaf L D pk) ≡ N →
    merged L M ≡ N → merged N (seq_leaf (lacking M L) D pk) ≡ merged N (seq_leaf N D pk)
fresh_enough D pk L M N s round e =
    strict_same (merged N (seq_leaf (lacking M L) D pk)) (merged N (seq_leaf N D pk)) (merged_strict N (seq_leaf (lacking M L) D pk) s (seq_strict (lacking M L) D pk)) (merged_strict N (seq_leaf N D pk) s (seq_strict N D pk)) to back
  where
    -- an out that was added is one of the round's
    added : (p : Out) → Has (lacking M L) p → Has N p
    added p h = subst (λ xs. Has xs p) e (merged_right p L M (has_lacking M L p h))

    to : (o : Out) → Has (merged N (seq_leaf (lacking M L) D pk)) o → Has (merged N (seq_leaf N D pk)) o
    to o h = elim (merged_has o N (seq_leaf (lacking M L) D pk) h) [
      | inl k ↦ merged_left o N (seq_leaf N D pk) k
      | inr k ↦ let r = has_seq_leaf (lacking M L) D pk o k in merged_right o N (seq_leaf N D pk) (made_by D pk o r.0 r.1 N (added r.0 r.2) r.3 r.4)
    ]

    -- what a copy makes of an out that was there before is one of the round's
    old : (o : Out) → Has (seq_leaf L D pk) o → Has (merged N (seq_leaf (lacking M L) D pk)) o
    old o k = merged_left o N (seq_leaf (lacking M L) D pk) (subst (λ xs. Has xs o) round (merged_right o L (seq_leaf L D pk) k))

    tell : (o p q : Out) (b : Bool) → has_out L p ≡ b → Has M p → Has (D (applied p.act pk)) q → out_after p.act q ≡ o →
        Has (merged N (seq_leaf (lacking M L) D pk)) o
    tell o p q true t h k is = old o (made_by D pk o p q L (found_has L p t) k is)
    tell o p q false t h k is = merged_right o N (seq_leaf (lacking M L) D pk) (made_by D pk o p q (lacking M L) (lacking_has M L p h t) k is)

    back : (o : Out) → Has (merged N (seq_leaf N D pk)) o → Has (merged N (seq_leaf (lacking M L) D pk)) o
    back o h = elim (merged_has o N (seq_leaf N D pk) h) [
      | inl k ↦ merged_left o N (seq_leaf (lacking M L) D pk) k
      | inr k ↦
          let r = has_seq_leaf N D pk o k in
          elim (merged_has r.0 L M (subst (λ xs. Has xs r.0) (sym e) r.2)) [
            | inl there ↦ old o (made_by D pk o r.0 r.1 L there r.3 r.4)
            | inr new ↦ tell o r.0 r.1 (has_out L r.0) refl new r.3 r.4
          ]
    ]

-- leaves stay in a store that grew
pub leaves_on : (old new : StoreState) (d : ℕ) (F : List ℕ → List Out) → Grows old new → HasLeaves old d F → HasLeaves new d F
leaves_on old new d F g k = record { id = g.ids d k.id; leaf = λ pk w. g.leaves d pk k.id ∙ k.leaf pk w }

-- the measure falls
pub room_falls : (st new : StoreState) (n m : ℕ) → new.maxes ≡ st.maxes → m ≡ n + 1 → n < room new.maxes →
    room new.maxes - m < room st.maxes - n
room_falls st new n m e is h = let k : room new.maxes ≡ room st.maxes = ap (λ ms. room ms) e in omega (arith, k, is, h)

-- a predicate's rounds are the packet itself
rounds_pass : (D : List ℕ → List Out) (n : ℕ) (pk : List ℕ) → IsWhole pk → ((p : List ℕ) → IsWhole p → IsPass (D p)) →
    rounds D n pk ≡ no_out ∷ []
rounds_pass D zero pk w p = refl
rounds_pass D (suc n) pk w p =
    ap (next_round D pk) (rounds_pass D n pk w p) ∙ beside (seq_leaf (no_out ∷ []) D pk) (pass_seq (no_out ∷ []) D pk w (refl, refl) p)
  where
    beside : (b : List Out) → IsPass b → merged (no_out ∷ []) b ≡ no_out ∷ []
    beside [] q = refl
    beside (y ∷ ys) q = ap (λ z. merged (no_out ∷ []) (z ∷ ys)) q.0 ∙ ap (λ zs. merged (no_out ∷ []) (no_out ∷ zs)) q.1

-- the last round of a predicate is the packet itself
pub last_pass : (st : StoreState) (r : ℕ) (D : List ℕ → List Out) → IsLastRound st r D →
    ((p : List ℕ) → IsWhole p → IsPass (D p)) → HasLeaves st r (λ pk. no_out ∷ [])
last_pass st r D last p = record { id = last.leaves.id; leaf = λ pk w. last.leaves.leaf pk w ∙ rounds_pass D last.count pk w p }

-- a leaf that doesn't depend on a field doesn't after an act
applied_still : (D : List ℕ → List Out) (f : ℕ) → ((v : ℕ) (p : List ℕ) → D (set p f v) ≡ D p) → (g : List (ℕ × ℕ)) (v : ℕ)
    (pk : List ℕ) → D (applied g (set pk f v)) ≡ D (applied g pk)
applied_still D f still [] v pk = still v pk
applied_still D f still (s ∷ ss) v pk = elim (eqb_tells f s.0) [
  | inl same ↦ ap (λ i. D (applied ss (set (set pk i v) s.0 s.1))) same.1 ∙ ap (λ p. D (applied ss p)) (set-set pk s.0 v s.1)
  | inr other ↦ ap (λ p. D (applied ss p)) (set_comm pk f s.0 v s.1 other.1) ∙ applied_still D f still ss v (set pk s.0 s.1)
]

-- nor does what it makes of outs
seq_still : (D : List ℕ → List Out) (f v : ℕ) (pk : List ℕ) → ((v : ℕ) (p : List ℕ) → D (set p f v) ≡ D p) →
    (os : List Out) → seq_leaf os D (set pk f v) ≡ seq_leaf os D pk
seq_still D f v pk still [] = refl
seq_still D f v pk still (o ∷ os) =
    ap (λ x. merged (prefixed o.act x) (seq_leaf os D (set pk f v))) (applied_still D f still o.act v pk)
    ∙ ap (λ y. merged (prefixed o.act (D (applied o.act pk))) y) (seq_still D f v pk still os)

-- nor do rounds
rounds_still : (D : List ℕ → List Out) (f v n : ℕ) (pk : List ℕ) → ((v : ℕ) (p : List ℕ) → D (set p f v) ≡ D p) →
    rounds D n (set pk f v) ≡ rounds D n pk
rounds_still D f v zero pk still = refl
rounds_still D f v (suc n) pk still =
    ap (λ x. merged x (seq_leaf x D (set pk f v))) (rounds_still D f v n pk still)
    ∙ ap (λ y. merged (rounds D n pk) y) (seq_still D f v pk still (rounds D n pk))

-- a diagram tests one of the eighteen fields or none
root_field_bound : (st : StoreState) (d : ℕ) (n : Node) → IsNodeOf st d n → root_field st d ≤ 18
root_field_bound st d (Leaf outs) k = omega (arith, k.root_field_is)
root_field_bound st d (Case f ps) k = omega (arith, k.root_field_is, k.parts_ok.field)

-- the last round tests no field before the diagram does
pub last_later : (old st : StoreState) (d r : ℕ) (n : Node) → Grows old st → IsId old d → IsNodeOf st d n → IsStill st d →
    IsReduced st r → IsLastRound st r (look old d) → root_field old d ≤ root_field st r
last_later old st d r n g id node at reduced last =
    let f = root_field st r in
    let most : root_field st d ≤ 18 = root_field_bound st d n node in
    let root_fields : root_field st d ≡ root_field old d = g.root_fields d id in
    elim (leb_tells (root_field old d) f) [
      | inl ok ↦ ok.1
      | inr less ↦ absurd (reduced.tests f (omega (arith, less.1, most, root_fields)) refl (λ v pk w.
          last.leaves.leaf (set pk f v) (length-set pk f v ∙ w)
          ∙ rounds_still (look old d) f v last.count pk (λ u p. sym (g.leaves d (set p f u) id) ∙ at.leaf f u p (omega (arith, less.1, root_fields)) ∙ g.leaves d p id)
          ∙ sym (last.leaves.leaf pk w)))
    ]
