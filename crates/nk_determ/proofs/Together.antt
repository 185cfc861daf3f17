-- All that diagrams do together, split.
use Rattle.std.proofs.Common.{◌≡◌, ℕ, zero, suc, ◌+◌, ◌<◌, ◌≤◌, List, [], ◌∷◌, ◌++◌, length, refl, sym, ◌∙◌, ap, subst, arith, get_or, inl, inr}
use Rattle.std.proofs.lemmas.List.{get_or_default, get_or_append_left}
use Rattle.std.proofs.Math.Seq.{get_or-append_seam}
use Rattle.std.proofs.lemmas.Bool.Decides.{leb_tells}
use Rattle.nk_store.specs.declared.node.Out.{Out}
use Rattle.nk_store.specs.StoreState.{StoreState, IsId, look, Grows, HasLeaves}
use Rattle.nk_apply.specs.Unions.{AreIds, unions}
use Rattle.nk_apply.proofs.Members.{Has, has_contains, contains_has, merged_left, merged_right, merged_has}
use Rattle.nk_determ.specs.Exact.{split_leaf}
use Rattle.nk_determ.specs.States.{HaveEach, IsTogether}

-- what many leaves together have, one of them has
pub unions_has : (st : StoreState) (ds : List ℕ) (from n : ℕ) (pk : List ℕ) (o : Out) → Has (unions st ds from n pk) o →
    (k : ℕ) × (from ≤ k) × (k < from + n) × Has (look st (get_or ds k 0) pk) o
unions_has st ds from zero pk o h = absurd h
unions_has st ds from (suc n) pk o h = elim (merged_has o (look st (get_or ds from 0) pk) (unions st ds (from + 1) n pk) h) [
  | inl k ↦ (from, omega arith, omega arith, k)
  | inr k ↦ let r = unions_has st ds (from + 1) n pk o k in (r.0, omega (arith, r.1), omega (arith, r.2), r.3)
]

-- and the other way round
pub has_unions : (st : StoreState) (ds : List ℕ) (from n k : ℕ) (pk : List ℕ) (o : Out) → from ≤ k → k < from + n →
    Has (look st (get_or ds k 0) pk) o → Has (unions st ds from n pk) o
has_unions st ds from zero k pk o a b h = absurd (omega (arith, a, b))
has_unions st ds from (suc n) k pk o a b h = elim (leb_tells k from) [
  | inl here ↦
      let same : k ≡ from = omega (arith, a, here.1) in
      merged_left o (look st (get_or ds from 0) pk) (unions st ds (from + 1) n pk) (subst (λ j. Has (look st (get_or ds j 0) pk) o) same h)
  | inr after ↦ merged_right o (look st (get_or ds from 0) pk) (unions st ds (from + 1) n pk) (has_unions st ds (from + 1) n k pk o (omega (arith, after.1)) (omega (arith, b)) h)
]

-- a diagram has the same leaves in a store that grew
leaves_grow : (st new : StoreState) (d : ℕ) (F : List ℕ → List Out) → Grows st new → HasLeaves st d F → HasLeaves new d F
leaves_grow st new d F g h = record { id = g.ids d h.id; leaf = λ pk w. g.leaves d pk h.id ∙ h.leaf pk w }

-- one diagram more
pub length_more : (ds : List ℕ) (d : ℕ) → length (ds ++ d ∷ []) ≡ length ds + 1
length_more [] d = refl
length_more (x ∷ ds) d = let e = length_more ds d in omega (arith, e)

-- one diagram more has its leaves
pub each_more : (st new : StoreState) (ds more : List ℕ) (i d : ℕ) (F : ℕ → List ℕ → List Out) → Grows st new → length ds ≡ i → more ≡ ds ++ d ∷ [] →
    HaveEach st ds F i → HasLeaves new d (F i) → HaveEach new more F (i + 1)
each_more st new ds more i d F h len is all one k below = elim (leb_tells i k) [
  | inr before ↦
      subst (λ j. HasLeaves new j (F k)) (sym (ap (λ xs. get_or xs k 0) is ∙ get_or_append_left ds (d ∷ []) 0 k (omega (arith, before.1, len))))
      (leaves_grow st new (get_or ds k 0) (F k) h (all k before.1))
  | inl here ↦
      let same : i ≡ k = omega (arith, here.1, below) in
      let last : get_or more k 0 ≡ d = ap (λ xs. get_or xs k 0) is ∙ ap (λ j. get_or (ds ++ d ∷ []) j 0) (sym (len ∙ same)) ∙ get_or-append_seam ds d [] 0 in
      subst (λ j. HasLeaves new j (F k)) (sym last) (subst (λ j. HasLeaves new d (F j)) same one)
]

-- diagrams with leaves are diagrams of the store
pub each_ids : (st : StoreState) (ds : List ℕ) (n : ℕ) (F : ℕ → List ℕ → List Out) → n ≡ length ds → HaveEach st ds F n → AreIds st ds
each_ids st ds n F e all k l = (all k (omega (arith, l, e))).id

-- what these diagrams have for leaves, split
abbrev pub split_each : StoreState → List ℕ → ℕ → List ℕ → List Out
split_each st ds k pk = split_leaf st.maxes pk (look st (get_or ds k 0) pk)

-- a diagram is split in a store that grew
pub split_before : (old st new : StoreState) (ds : List ℕ) (i d r : ℕ) → Grows old st → IsId old d → d ≡ get_or ds i 0 →
    HasLeaves new r (λ pk. split_leaf st.maxes pk (look st d pk)) → HasLeaves new r (split_each old ds i)
split_before old st new ds i d r g id is one = record {
  id = one.id;
  leaf = λ pk w.
      one.leaf pk w ∙ ap (λ ms. split_leaf ms pk (look st d pk)) g.maxes ∙ ap (λ os. split_leaf old.maxes pk os) (g.leaves d pk id)
      ∙ ap (λ j. split_leaf old.maxes pk (look old j pk)) is;
}

-- all split diagrams together
pub all_together : (old st new : StoreState) (ds split : List ℕ) (r : ℕ) → length split ≡ length ds →
    HaveEach st split (split_each old ds) (length split) → HasLeaves new r (λ pk. unions st split 0 (length split) pk) → IsTogether old ds new r
all_together old st new ds split r len all u = record {
  id = u.id;
  sends = λ pk g t w.
      let o : Out = record { act = g; target = t } in (
        λ c.
            let h = unions_has st split 0 (length split) pk o (subst (λ os. Has os o) (u.leaf pk w) (contains_has (look new r pk) o c)) in
            let within : h.0 < length split = omega (arith, h.2) in
            let d = get_or ds h.0 0 in (
              d,
              (h.0, omega (arith, within, len), get_or_default ds h.0 d 0 (omega (arith, within, len))),
              has_contains (split_each old ds h.0 pk) o (subst (λ os. Has os o) ((all h.0 within).leaf pk w) h.3),
            ),
        λ s.
            let k = s.1.0 in
            let within : k < length split = omega (arith, s.1.1, len) in
            let is : s.0 ≡ get_or ds k 0 = sym s.1.2 ∙ get_or_default ds k s.0 0 s.1.1 in
            let whole = split_leaf old.maxes pk (look old s.0 pk) in
            let there : Has (look st (get_or split k 0) pk) o = subst (λ os. Has os o) (ap (λ j. split_leaf old.maxes pk (look old j pk)) is ∙ sym ((all k within).leaf pk w)) (contains_has whole o s.2) in
            has_contains (look new r pk) o (subst (λ os. Has os o) (sym (u.leaf pk w)) (has_unions st split 0 (length split) k pk o (omega arith) (omega (arith, within)) there)),
      );
}
