-- What split keeps, and why equal meanings are equal leaves.
use Rattle.std.proofs.Common.{◌≡◌, ◌≢◌, ℕ, zero, suc, ◌+◌, ◌<◌, ◌≤◌, min, cond, List, [], ◌∷◌, length, refl, sym, ◌∙◌, ap, subst, arith, get_or, set, get_or-set_same, get_or-set_other, ◌↔◌, inl, inr}
use Rattle.std.proofs.lemmas.Bool.Decides.{eqb_tells}
use Rattle.std.proofs.lemmas.List.{length-set}
use Rattle.nk_field.specs.Act.{applied}
use Rattle.nk_field.proofs.Thens.{order}
use Rattle.nk_store.specs.declared.node.Out.{Out}
use Rattle.nk_store.specs.Nodes.{InRange}
use Rattle.nk_store.specs.Leaves.{IsActFrom, Every, Suits}
use Rattle.nk_store.specs.StoreState.{StoreState, IsWhole, IsStorePacket, look, Grows, HasLeaves, AreTidy, Agree}
use Rattle.nk_apply.proofs.Members.{Has, has_contains, contains_has, every_has, every_from, gathered_has, has_gathered, strict_same}
use Rattle.nk_determ.specs.Exact.{exact, exact_out, split_leaf, IsExact, AreExact, Sends}

-- writing the value that is there changes nothing
set_there : (pk : List ℕ) (f n : ℕ) → f < length pk → get_or pk f 0 ≡ n → set pk f n ≡ pk
set_there [] f n l e = absurd (omega arith)
set_there (x ∷ xs) zero n l e = ap (λ y. y ∷ xs) (sym e)
set_there (x ∷ xs) (suc f) n l e = ap (λ ys. x ∷ ys) (set_there xs f n (omega arith) e)

-- a packet keeps its values of fields before those that the act assigns
pub applied_keeps : (maxes : List ℕ) (low f : ℕ) (g : List (ℕ × ℕ)) (pk : List ℕ) → IsActFrom maxes low g →
    f < low → get_or (applied g pk) f 0 ≡ get_or pk f 0
applied_keeps maxes low f [] pk a l = refl
applied_keeps maxes low f (s ∷ ss) pk a l =
    let ne : f ≢ s.0 = omega (arith, a.0) in
    applied_keeps maxes (s.0 + 1) f ss (set pk s.0 s.1) a.3 (omega (arith, a.0)) ∙ get_or-set_other pk s.0 f s.1 0 ne

-- a value within the range counts as itself
min_within : (v high n : ℕ) → v ≤ high → min v high ≡ n → v ≡ n
min_within v high n l e = omega (arith, e)

-- a value within the range that doesn't count as n isn't n
not_there : (v high n : ℕ) → v ≤ high → (min v high ≡ n → ⊥) → v ≡ n → ⊥
not_there v high n l k e = k (omega (arith, e))

-- the assignments that change the packet make of it what all make
pub exact_applied : (maxes pk qk : List ℕ) (low : ℕ) (g : List (ℕ × ℕ)) → InRange maxes pk → IsWhole qk →
    IsActFrom maxes low g → ((k : ℕ) → low ≤ k → get_or qk k 0 ≡ get_or pk k 0) →
    applied (exact maxes pk g) qk ≡ applied g qk
exact_applied maxes pk qk low [] r w a same = refl
exact_applied maxes pk qk low (s ∷ ss) r w a same =
    let v = get_or pk s.0 0 in
    let high = get_or maxes s.0 0 in
    elim (eqb_tells (min v high) s.1) [
      | inl there ↦
          let is : get_or qk s.0 0 ≡ s.1 = same s.0 a.0 ∙ min_within v high s.1 (r.1 s.0) there.1 in
          ap (λ b. applied (cond b (exact maxes pk ss) (s ∷ exact maxes pk ss)) qk) there.0
          ∙ exact_applied maxes pk qk (s.0 + 1) ss r w a.3 (λ k l. same k (omega (arith, a.0, l)))
          ∙ ap (λ p. applied ss p) (sym (set_there qk s.0 s.1 (omega (arith, a.1, w)) is))
      | inr other ↦
          ap (λ b. applied (cond b (exact maxes pk ss) (s ∷ exact maxes pk ss)) qk) other.0
          ∙ exact_applied maxes pk (set qk s.0 s.1) (s.0 + 1) ss r (length-set qk s.0 s.1 ∙ w) a.3 (λ k l. let ne : k ≢ s.0 = omega (arith, l) in get_or-set_other qk s.0 k s.1 0 ne ∙ same k (omega (arith, a.0, l)))
    ]

-- each of them changes the packet
pub exact_changes : (maxes pk : List ℕ) (g : List (ℕ × ℕ)) → InRange maxes pk → IsExact pk (exact maxes pk g)
exact_changes maxes pk [] r = tt
exact_changes maxes pk (s ∷ ss) r =
    let v = get_or pk s.0 0 in
    let high = get_or maxes s.0 0 in
    elim (eqb_tells (min v high) s.1) [
      | inl there ↦ subst (λ b. IsExact pk (cond b (exact maxes pk ss) (s ∷ exact maxes pk ss))) (sym there.0) (exact_changes maxes pk ss r)
      | inr other ↦ subst (λ b. IsExact pk (cond b (exact maxes pk ss) (s ∷ exact maxes pk ss))) (sym other.0) (not_there v high s.1 (r.1 s.0) other.1, exact_changes maxes pk ss r)
    ]

-- a write before the fields of an act leaves it exact
exact_set : (maxes pk : List ℕ) (f n low : ℕ) (g : List (ℕ × ℕ)) → IsActFrom maxes low g → f < low →
    IsExact pk g → IsExact (set pk f n) g
exact_set maxes pk f n low [] a l e = tt
exact_set maxes pk f n low (s ∷ ss) a l e =
    let ne : s.0 ≢ f = omega (arith, a.0) in
    (λ k. e.0 (sym (get_or-set_other pk f s.0 n 0 ne) ∙ k), exact_set maxes pk f n (s.0 + 1) ss a.3 (omega (arith, a.0)) e.1)

-- what an act's first assignment writes is there in the end
pub first_there : (maxes pk : List ℕ) (low : ℕ) (s : ℕ × ℕ) (ss : List (ℕ × ℕ)) → IsWhole pk →
    IsActFrom maxes low (s ∷ ss) → get_or (applied (s ∷ ss) pk) s.0 0 ≡ s.1
first_there maxes pk low s ss w a = applied_keeps maxes (s.0 + 1) s.0 ss (set pk s.0 s.1) a.3 (omega arith) ∙ get_or-set_same pk s.0 s.1 0 (omega (arith, a.1, w))

-- two exact acts that make one packet of a packet are one
pub exact_one : (maxes pk : List ℕ) (low : ℕ) (g h : List (ℕ × ℕ)) → IsWhole pk → IsActFrom maxes low g →
    IsActFrom maxes low h → IsExact pk g → IsExact pk h → applied g pk ≡ applied h pk → g ≡ h
exact_one maxes pk low [] [] w a b x y e = refl
exact_one maxes pk low [] (t ∷ ts) w a b x y e = absurd (y.0 (ap (λ p. get_or p t.0 0) e ∙ first_there maxes pk low t ts w b))
exact_one maxes pk low (s ∷ ss) [] w a b x y e = absurd (x.0 (ap (λ p. get_or p s.0 0) (sym e) ∙ first_there maxes pk low s ss w a))
exact_one maxes pk low (s ∷ ss) (t ∷ ts) w a b x y e =
    elim (order s.0 t.0) [
      | inl less ↦ absurd (x.0 (sym (applied_keeps maxes t.0 s.0 (t ∷ ts) pk (omega arith, b.1, b.2, b.3) less) ∙ ap (λ p. get_or p s.0 0) (sym e) ∙ first_there maxes pk low s ss w a))
      | inr (inr more) ↦ absurd (y.0 (sym (applied_keeps maxes s.0 t.0 (s ∷ ss) pk (omega arith, a.1, a.2, a.3) more) ∙ ap (λ p. get_or p t.0 0) e ∙ first_there maxes pk low t ts w b))
      | inr (inl same) ↦
          let value : s.1 ≡ t.1 = sym (first_there maxes pk low s ss w a) ∙ ap (λ p. get_or p s.0 0) e ∙ ap (λ f. get_or (applied (t ∷ ts) pk) f 0) same ∙ first_there maxes pk low t ts w b in
          let one : s ≡ t = λ i. (same i, value i) in
          let ts_too : IsActFrom maxes (s.0 + 1) ts = subst (λ f. IsActFrom maxes (f + 1) ts) (sym same) b.3 in
          let made : applied ss (set pk s.0 s.1) ≡ applied ts (set pk s.0 s.1) = e ∙ ap (λ (r : ℕ × ℕ). applied ts (set pk r.0 r.1)) (sym one) in
          ap (λ r. r ∷ ss) one ∙ ap (λ rs. t ∷ rs) (exact_one maxes (set pk s.0 s.1) (s.0 + 1) ss ts (length-set pk s.0 s.1 ∙ w) a.3 ts_too
          (exact_set maxes pk s.0 s.1 (s.0 + 1) ss a.3 (omega arith) x.1) (exact_set maxes pk s.0 s.1 (s.0 + 1) ts ts_too (omega arith) y.1) made)
    ]

-- two diagrams with exact acts that mean the same give the same leaves
pub same_meaning : (st : StoreState) (d e : ℕ) → AreTidy st → AreExact st d → AreExact st e →
    ((pk y : List ℕ) (t : ℕ) → IsStorePacket st pk → Sends st d pk y t ↔ Sends st e pk y t) → Agree st d e
same_meaning st d e tidy xd xe same = λ pk r.
    strict_same (look st d pk) (look st e pk) ((tidy d).sorted pk) ((tidy e).sorted pk)
    (λ o h. one_way d e pk r (xd pk r) (xe pk r) (λ y t s. (same pk y t r).0 s) o h)
    (λ o h. one_way e d pk r (xe pk r) (xd pk r) (λ y t s. (same pk y t r).1 s) o h)
  where
    one_way : (a b : ℕ) (pk : List ℕ) → IsStorePacket st pk → Every (λ o. IsExact pk o.act) (look st a pk) →
        Every (λ o. IsExact pk o.act) (look st b pk) →
        ((y : List ℕ) (t : ℕ) → Sends st a pk y t → Sends st b pk y t) → (o : Out) → Has (look st a pk) o →
        Has (look st b pk) o
    one_way a b pk r xa xb go o h =
        let s = go (applied o.act pk) o.target (o.act, has_contains (look st a pk) o h, refl) in
        let k : Has (look st b pk) (record { act = s.0; target = o.target }) = contains_has (look st b pk) (record { act = s.0; target = o.target }) s.1 in
        let one : o.act ≡ s.0 = exact_one st.maxes pk 0 o.act s.0 r.0 (every_has (Suits st.maxes) (look st a pk) o ((tidy a).suits pk) h) (every_has (Suits st.maxes) (look st b pk) _ ((tidy b).suits pk) k)
        (every_has (λ x. IsExact pk x.act) (look st a pk) o xa h) (every_has (λ x. IsExact pk x.act) (look st b pk) _ xb k) s.2 in
        subst (λ g. Has (look st b pk) (record { act = g; target = o.target })) (sym one) k

-- the member of a list of one
only : {X : Type 0} {a o : X} → Has (a ∷ []) o → a ≡ o
only (inl e) = e
only (inr k) = absurd k

-- a split diagram's acts are exact
pub split_exact : (old new : StoreState) (d r : ℕ) → Grows old new →
    HasLeaves new r (λ pk. split_leaf old.maxes pk (look old d pk)) → AreExact new r
split_exact old new d r g k = λ pk p.
    let range : InRange old.maxes pk = subst (λ ms. InRange ms pk) g.maxes p in
    subst (Every (λ o. IsExact pk o.act)) (sym (k.leaf pk p.0)) (every_from (λ o. IsExact pk o.act) (split_leaf old.maxes pk (look old d pk)) (λ o h.
    let s = has_gathered (λ x. exact_out old.maxes pk x ∷ []) (look old d pk) o h in
    subst (λ (x : Out). IsExact pk x.act) (only s.2) (exact_changes old.maxes pk s.0.act range)))

-- a split diagram means what it was made of means
pub split_means : (old new : StoreState) (d r : ℕ) → AreTidy old → Grows old new →
    HasLeaves new r (λ pk. split_leaf old.maxes pk (look old d pk)) → (pk y : List ℕ) (t : ℕ) →
    IsStorePacket old pk → Sends new r pk y t ↔ Sends old d pk y t
split_means old new d r tidy g k pk y t p = (
  λ s.
      let h = has_gathered (λ x. exact_out old.maxes pk x ∷ []) (look old d pk) (record { act = s.0; target = t }) (subst (λ os. Has os (record { act = s.0; target = t })) (k.leaf pk p.0) (contains_has (look new r pk) (record { act = s.0; target = t }) s.1)) in
      let is : exact_out old.maxes pk h.0 ≡ record { act = s.0; target = t } = only h.2 in
      let to : h.0.target ≡ t = ap (λ (x : Out). x.target) is in
      let from : h.0 ≡ record { act = h.0.act; target = t } = ap (λ u. record { act = h.0.act; target = u }) to in
      let act : exact old.maxes pk h.0.act ≡ s.0 = ap (λ (x : Out). x.act) is in (
        h.0.act,
        has_contains (look old d pk) (record { act = h.0.act; target = t }) (subst (Has (look old d pk)) from h.1),
        s.2 ∙ ap (λ a. applied a pk) (sym act) ∙ exact_applied old.maxes pk pk 0 h.0.act p p.0 (every_has (Suits old.maxes) (look old d pk) h.0 ((tidy d).suits pk) h.1) (λ j l. refl),
      ),
  λ s.
      let o : Out = record { act = s.0; target = t } in
      let h : Has (look old d pk) o = contains_has (look old d pk) o s.1 in
      let made : Has (split_leaf old.maxes pk (look old d pk)) (exact_out old.maxes pk o) = gathered_has (λ x. exact_out old.maxes pk x ∷ []) (look old d pk) o (exact_out old.maxes pk o) h (inl refl) in (
        exact old.maxes pk s.0,
        has_contains (look new r pk) (exact_out old.maxes pk o) (subst (λ os. Has os (exact_out old.maxes pk o)) (sym (k.leaf pk p.0)) made),
        s.2 ∙ sym (exact_applied old.maxes pk pk 0 s.0 p p.0 (every_has (Suits old.maxes) (look old d pk) o ((tidy d).suits pk) h) (λ j l. refl)),
      ),
)
