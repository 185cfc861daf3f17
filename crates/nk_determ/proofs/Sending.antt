-- Where diagrams send packets that are made of others.
use Rattle.std.proofs.Common.{◌≡◌, ℕ, zero, suc, ◌+◌, ◌<◌, ◌≤◌, ◌⊎◌, inl, inr, ⊎_elim, List, [], ◌∷◌, refl, sym, ap, subst, ◌∙◌, arith, set}
use Rattle.std.specs.Prelude.{slice_index, Contains}
use Rattle.nk_field.specs.Act.{applied, act_then, AscendsFrom}
use Rattle.nk_field.proofs.Thens.{then_applied}
use Rattle.nk_store.specs.declared.node.Out.{Out}
use Rattle.nk_store.specs.Leaves.{Suits, IsActFrom}
use Rattle.nk_store.specs.Nodes.{InRange}
use Rattle.nk_store.specs.StoreState.{StoreState, IsId, IsWhole, IsStorePacket, look, Grows, HasLeaves, AreTidy}
use Rattle.nk_store.proofs.Same.{set_in_range}
use Rattle.nk_apply.specs.Leaves.{merged}
use Rattle.nk_apply.specs.Seqs.{seq_leaf}
use Rattle.nk_apply.specs.Unions.{unions}
use Rattle.nk_apply.proofs.Members.{Has, contains_has, has_contains, every_has, merged_left, merged_right, merged_has, seq_leaf_has, has_seq_leaf}
use Rattle.nk_determ.specs.Exact.{Sends}

-- the out of an act to a target
abbrev pub out_of : List (ℕ × ℕ) → ℕ → Out
out_of g t = record { act = g; target = t }

-- where a diagram of an earlier store sends, it sends in the later one
pub sends_on : (old new : StoreState) (d : ℕ) (pk y : List ℕ) (t : ℕ) → Grows old new → IsId old d →
    Sends old d pk y t → Sends new d pk y t
sends_on old new d pk y t g id s = (s.0, subst (λ os. Contains os (out_of s.0 t)) (sym (g.leaves d pk id)) s.1, s.2)

-- and where it sends in the later one, it did
pub sends_back : (old new : StoreState) (d : ℕ) (pk y : List ℕ) (t : ℕ) → Grows old new → IsId old d →
    Sends new d pk y t → Sends old d pk y t
sends_back old new d pk y t g id s = (s.0, subst (λ os. Contains os (out_of s.0 t)) (g.leaves d pk id) s.1, s.2)

-- an act in range ascends
ascends : (maxes : List ℕ) (low : ℕ) (g : List (ℕ × ℕ)) → IsActFrom maxes low g → AscendsFrom low g
ascends maxes low [] a = tt
ascends maxes low (s ∷ ss) a = (a.0, ascends maxes (s.0 + 1) ss a.3)

-- the act of a member ascends
act_ascends : (st : StoreState) (d : ℕ) (pk : List ℕ) (o : Out) → AreTidy st → Has (look st d pk) o → AscendsFrom 0 o.act
act_ascends st d pk o tidy h = ascends st.maxes 0 o.act (every_has (Suits st.maxes) (look st d pk) o ((tidy d).suits pk) h)

-- an act in range leads from packets of the fields to packets of the fields
applied_in_range : (maxes : List ℕ) (low : ℕ) (g : List (ℕ × ℕ)) (x : List ℕ) → IsActFrom maxes low g →
    InRange maxes x → InRange maxes (applied g x)
applied_in_range maxes low [] x act r = r
applied_in_range maxes low (s ∷ ss) x act r =
    applied_in_range maxes (s.0 + 1) ss (set x s.0 s.1) act.3 (set_in_range maxes x s.0 s.1 r act.2)

-- from a packet of the fields a diagram sends to packets of the fields
pub sent_in_range : (st : StoreState) (d : ℕ) (pk y : List ℕ) (t : ℕ) → AreTidy st → IsStorePacket st pk → Sends st d pk y t →
    IsStorePacket st y
sent_in_range st d pk y t tidy r s =
    subst (InRange st.maxes) (sym s.2)
    (applied_in_range st.maxes 0 s.0 pk (every_has (Suits st.maxes) (look st d pk) (out_of s.0 t) ((tidy d).suits pk) (contains_has (look st d pk) (out_of s.0 t) s.1)) r)

-- a sequence sends where the second diagram sends from where the first one sent
pub seq_sends : (st new : StoreState) (a b r : ℕ) (pk y : List ℕ) (t : ℕ) → AreTidy new → Grows st new → IsId st a → IsId st b →
    HasLeaves new r (λ pk. seq_leaf (look st a pk) (look st b) pk) → IsWhole pk → Sends new r pk y t →
    (z : List ℕ) × (u : ℕ) × Sends st a pk z u × Sends st b z y t
seq_sends st new a b r pk y t tidy grown ia ib h w s =
    let m : Has (seq_leaf (look st a pk) (look st b) pk) (out_of s.0 t) = subst (λ os. Has os (out_of s.0 t)) (h.leaf pk w) (contains_has _ _ s.1) in
    let k = has_seq_leaf (look st a pk) (look st b) pk (out_of s.0 t) m in
    let p = k.0 in
    let q = k.1 in
    let z = applied p.act pk in
    let first : AscendsFrom 0 p.act = act_ascends new a pk p tidy (subst (λ os. Has os p) (sym (grown.leaves a pk ia)) k.2) in
    let second : AscendsFrom 0 q.act = act_ascends new b z q tidy (subst (λ os. Has os q) (sym (grown.leaves b z ib)) k.3) in
    let act_is : act_then p.act q.act ≡ s.0 = ap (λ o. o.act) k.4 in
    let target_is : q.target ≡ t = ap (λ o. o.target) k.4 in (
      z,
      p.target,
      (p.act, has_contains _ _ k.2, refl),
      (
        q.act,
        subst (λ n. Contains (look st b z) (out_of q.act n)) target_is (has_contains _ _ k.3),
        s.2 ∙ ap (λ g. applied g pk) (sym act_is) ∙ then_applied p.act 0 q.act pk first second,
      ),
    )

-- and there it sends
pub sends_seq : (st new : StoreState) (a b r : ℕ) (pk z y : List ℕ) (u t : ℕ) → AreTidy new → Grows st new → IsId st a →
    IsId st b → HasLeaves new r (λ pk. seq_leaf (look st a pk) (look st b) pk) → IsWhole pk → Sends st a pk z u →
    Sends st b z y t → Sends new r pk y t
sends_seq st new a b r pk z y u t tidy grown ia ib h w s m =
    let p = out_of s.0 u in
    let q = out_of m.0 t in
    let has_first : Has (look st a pk) p = contains_has _ _ s.1 in
    let has_second : Has (look st b (applied s.0 pk)) q = subst (λ x. Has (look st b x) q) s.2 (contains_has _ _ m.1) in
    let first : AscendsFrom 0 s.0 = act_ascends new a pk p tidy (subst (λ os. Has os p) (sym (grown.leaves a pk ia)) has_first) in
    let second : AscendsFrom 0 m.0 = act_ascends new b (applied s.0 pk) q tidy (subst (λ os. Has os q) (sym (grown.leaves b (applied s.0 pk) ib)) has_second) in (
      act_then s.0 m.0,
      has_contains _ _ (subst (λ os. Has os (out_of (act_then s.0 m.0) t)) (sym (h.leaf pk w)) (seq_leaf_has (look st a pk) (look st b) pk p q has_first has_second)),
      m.2 ∙ ap (λ x. applied m.0 x) s.2 ∙ sym (then_applied s.0 0 m.0 pk first second),
    )

-- two diagrams together send where one of them does
pub union_sends : (st new : StoreState) (a b r : ℕ) (pk y : List ℕ) (t : ℕ) →
    HasLeaves new r (λ pk. merged (look st a pk) (look st b pk)) → IsWhole pk → Sends new r pk y t →
    Sends st a pk y t ⊎ Sends st b pk y t
union_sends st new a b r pk y t h w s =
    let m : Has (merged (look st a pk) (look st b pk)) (out_of s.0 t) = subst (λ os. Has os (out_of s.0 t)) (h.leaf pk w) (contains_has _ _ s.1) in
    ⊎_elim
    (λ k. inl (s.0, has_contains _ _ k, s.2))
    (λ k. inr (s.0, has_contains _ _ k, s.2))
    (merged_has (out_of s.0 t) (look st a pk) (look st b pk) m)

-- and they send where the first one does
pub sends_left : (st new : StoreState) (a b r : ℕ) (pk y : List ℕ) (t : ℕ) →
    HasLeaves new r (λ pk. merged (look st a pk) (look st b pk)) → IsWhole pk → Sends st a pk y t → Sends new r pk y t
sends_left st new a b r pk y t h w s =
    (s.0, has_contains _ _ (subst (λ os. Has os (out_of s.0 t)) (sym (h.leaf pk w)) (merged_left (out_of s.0 t) (look st a pk) (look st b pk) (contains_has _ _ s.1))), s.2)

-- and where the second one does
pub sends_right : (st new : StoreState) (a b r : ℕ) (pk y : List ℕ) (t : ℕ) →
    HasLeaves new r (λ pk. merged (look st a pk) (look st b pk)) → IsWhole pk → Sends st b pk y t → Sends new r pk y t
sends_right st new a b r pk y t h w s =
    (s.0, has_contains _ _ (subst (λ os. Has os (out_of s.0 t)) (sym (h.leaf pk w)) (merged_right (out_of s.0 t) (look st a pk) (look st b pk) (contains_has _ _ s.1))), s.2)

-- an out of many diagrams together is one of theirs
pub unions_has : (st : StoreState) (ids : List ℕ) (from n : ℕ) (pk : List ℕ) (o : Out) → Has (unions st ids from n pk) o →
    (k : ℕ) × (k < from + n) × Has (look st (slice_index ids k) pk) o
unions_has st ids from zero pk o h = absurd h
unions_has st ids from (suc n) pk o h =
    ⊎_elim
    (λ a. (from, omega arith, a))
    (λ b. let r = unions_has st ids (from + 1) n pk o b in (r.0, omega (arith, r.1), r.2))
    (merged_has o (look st (slice_index ids from) pk) (unions st ids (from + 1) n pk) h)

-- and each of theirs is one
pub has_unions : (st : StoreState) (ids : List ℕ) (from n : ℕ) (pk : List ℕ) (o : Out) (k : ℕ) → from ≤ k → k < from + n →
    Has (look st (slice_index ids k) pk) o → Has (unions st ids from n pk) o
has_unions st ids from zero pk o k le lt h = absurd (omega arith)
has_unions st ids from (suc n) pk o k le lt h = elim (from_here from k le) [
  | inl e ↦ merged_left o (look st (slice_index ids from) pk) (unions st ids (from + 1) n pk) (subst (λ i. Has (look st (slice_index ids i) pk) o) (sym e) h)
  | inr l ↦ merged_right o (look st (slice_index ids from) pk) (unions st ids (from + 1) n pk) (has_unions st ids (from + 1) n pk o k (omega (arith, l)) (omega (arith, lt)) h)
]
  where
    from_here : (a b : ℕ) → a ≤ b → (a ≡ b) ⊎ (a < b)
    from_here zero zero l = inl refl
    from_here zero (suc b) l = inr (omega arith)
    from_here (suc a) zero l = absurd (omega arith)
    from_here (suc a) (suc b) l = ⊎_elim (λ e. inl (ap (λ n. suc n) e)) (λ m. inr (omega (arith, m))) (from_here a b (omega (arith, l)))
