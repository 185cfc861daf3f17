-- What is made of the outs of a leaf, by halves.
use Rattle.std.proofs.Common.{◌≡◌, ℕ, zero, suc, ◌+◌, ◌-◌, ◌≤◌, List, [], length, sym, ◌∙◌, ap, subst, arith, get_or, drop}
use Rattle.std.proofs.lemmas.List.{drop_more, drop_all}
use Rattle.nk_field.specs.Act.{applied}
use Rattle.nk_store.specs.declared.node.Out.{Out}
use Rattle.nk_store.specs.Leaves.{Strict}
use Rattle.nk_store.specs.StoreState.{StoreState, IsId, look, Grows, HasLeaves}
use Rattle.nk_apply.specs.Leaves.{merged, gathered}
use Rattle.nk_apply.specs.Seqs.{prefixed, seq_leaf, outs_of, no_out, out_made}
use Rattle.nk_apply.specs.Unions.{over_places}
use Rattle.nk_apply.proofs.Members.{seq_leaf_is}
use Rattle.nk_apply.proofs.Sequences.{outs_grow, same_looks}
use Rattle.nk_apply.proofs.Shorts.{no_items}
use Rattle.nk_apply.proofs.Sorted.{merged_strict, prefixed_strict}
use Rattle.nk_apply.proofs.Unite.{merged_assoc}
use Rattle.nk_apply.proofs.Weaves.{merged-nil}

-- what is made of some places ascends strictly
pub places_strict : (F : ℕ → List Out) (from n : ℕ) → ((k : ℕ) → Strict (F k)) → Strict (over_places F from n)
places_strict F from zero s = tt
places_strict F from (suc n) s = merged_strict (F from) (over_places F (from + 1) n) (s from) (places_strict F (from + 1) n s)

-- two halves together are the whole
pub places_halves : (F : ℕ → List Out) (from m n : ℕ) → ((k : ℕ) → Strict (F k)) →
    merged (over_places F from m) (over_places F (from + m) n) ≡ over_places F from (m + n)
places_halves F from zero n s =
    let e : from + 0 ≡ from = omega arith in
    let c : n ≡ 0 + n = omega arith in
    ap (λ k. over_places F k n) e ∙ ap (λ m. over_places F from m) c
places_halves F from (suc m) n s =
    let next : from + suc m ≡ (from + 1) + m = omega arith in
    let count : (suc m) + n ≡ suc (m + n) = omega arith in
    ap (λ k. merged (over_places F from (suc m)) (over_places F k n)) next
    ∙ merged_assoc (F from) (over_places F (from + 1) m) (over_places F ((from + 1) + m) n) (s from) (places_strict F (from + 1) m s) (places_strict F ((from + 1) + m) n s)
    ∙ ap (λ zs. merged (F from) zs) (places_halves F (from + 1) m n s)
    ∙ ap (λ k. over_places F from k) (sym count)

-- what is made of all places is gathered
pub places_gathered : (G : Out → List Out) (os : List Out) (e : Out) (from n : ℕ) → from + n ≡ length os →
    over_places (λ k. G (get_or os k e)) from n ≡ gathered G (drop from os)
places_gathered G os e from zero l = ap (λ xs. gathered G xs) (sym (drop_all from os (omega (arith, l))))
places_gathered G os e from (suc n) l =
    ap (λ z. merged (G (get_or os from e)) z) (places_gathered G os e (from + 1) n (omega (arith, l)))
    ∙ ap (λ xs. gathered G xs) (sym (drop_more os from e (omega (arith, l))))

-- both halves together
pub halves_made : (F : List ℕ → ℕ → List Out) (s1 s2 s3 : StoreState) (from middle to left right new : ℕ) →
    ((pk : List ℕ) (k : ℕ) → Strict (F pk k)) → from ≤ middle → middle ≤ to → Grows s1 s2 →
    HasLeaves s1 left (λ pk. over_places (F pk) from (middle - from)) →
    HasLeaves s2 right (λ pk. over_places (F pk) middle (to - middle)) →
    HasLeaves s3 new (λ pk. merged (look s2 left pk) (look s2 right pk)) →
    HasLeaves s3 new (λ pk. over_places (F pk) from (to - from))
halves_made F s1 s2 s3 from middle to left right new s a b h gl gr gn = record {
  id = gn.id;
  leaf = λ pk w.
      let at : middle ≡ from + (middle - from) = omega arith in
      let count : (middle - from) + (to - middle) ≡ to - from = omega arith in
      gn.leaf pk w ∙ ap (λ x. merged x (look s2 right pk)) (h.leaves left pk gl.id ∙ gl.leaf pk w)
      ∙ ap (λ y. merged (over_places (F pk) from (middle - from)) y) (gr.leaf pk w ∙ ap (λ k. over_places (F pk) k (to - middle)) at)
      ∙ places_halves (F pk) from (middle - from) (to - middle) (s pk) ∙ ap (λ n. over_places (F pk) from n) count;
}

-- a single place
pub one_made : (F : List ℕ → ℕ → List Out) (st : StoreState) (from n d : ℕ) → n ≡ 1 → HasLeaves st d (λ pk. F pk from) →
    HasLeaves st d (λ pk. over_places (F pk) from n)
one_made F st from n d e h = record { id = h.id; leaf = λ pk w. h.leaf pk w ∙ sym (merged-nil (F pk from)) ∙ ap (λ m. over_places (F pk) from m) (sym e) }

-- what the second diagram makes of an out ascends strictly
pub out_strict : (outs : List Out) (B : List ℕ → List Out) (pk : List ℕ) (k : ℕ) → Strict (out_made outs B pk k)
out_strict outs B pk k = prefixed_strict (get_or outs k no_out).act (B (applied (get_or outs k no_out).act pk))

-- a place among the outs is one in a store that grew
pub outs_within : (old new : StoreState) (a n : ℕ) → Grows old new → IsId old a → n ≤ length (outs_of old a) →
    n ≤ length (outs_of new a)
outs_within old new a n g i l = subst (λ os. n ≤ length os) (sym (outs_grow old new a g i)) l

-- what it makes of some outs is the same in a store that grew
pub outs_made_grown : (old st new : StoreState) (a b from n d : ℕ) → Grows old st → IsId old a → IsId old b →
    HasLeaves new d (λ pk. over_places (out_made (outs_of st a) (look st b) pk) from n) →
    HasLeaves new d (λ pk. over_places (out_made (outs_of old a) (look old b) pk) from n)
outs_made_grown old st new a b from n d g ia ib h =
    subst (λ os. HasLeaves new d (λ pk. over_places (out_made os (look old b) pk) from n)) (outs_grow old st a g ia)
    (subst (λ B. HasLeaves new d (λ pk. over_places (out_made (outs_of st a) B pk) from n)) (same_looks old st b g ib) h)

-- what it makes of all outs is the sequence
pub outs_made_all : (old st : StoreState) (a b n d : ℕ) → n ≡ length (outs_of old a) →
    ((pk : List ℕ) → look old a pk ≡ outs_of old a) →
    HasLeaves st d (λ pk. over_places (out_made (outs_of old a) (look old b) pk) 0 n) →
    HasLeaves st d (λ pk. seq_leaf (look old a pk) (look old b) pk)
outs_made_all old st a b n d is leaf h = record {
  id = h.id;
  leaf = λ pk w.
      h.leaf pk w ∙ places_gathered (λ o. prefixed o.act (look old b (applied o.act pk))) (outs_of old a) no_out 0 n (omega (arith, is))
      ∙ sym (seq_leaf_is (outs_of old a) (look old b) pk) ∙ ap (λ os. seq_leaf os (look old b) pk) (sym (leaf pk));
}

-- of no out it makes nothing
pub no_outs_made : (old st : StoreState) (a b d : ℕ) → length (outs_of old a) ≡ 0 →
    ((pk : List ℕ) → look old a pk ≡ outs_of old a) → HasLeaves st d (λ pk. []) →
    HasLeaves st d (λ pk. seq_leaf (look old a pk) (look old b) pk)
no_outs_made old st a b d none leaf h = record { id = h.id; leaf = λ pk w. h.leaf pk w ∙ ap (λ os. seq_leaf os (look old b) pk) (sym (leaf pk ∙ no_items (outs_of old a) none)) }
