-- Where putting leaves together gives one of them.
use Rattle.std.proofs.Common.{◌≡◌, ℕ, List, [], ◌∷◌, length, arith, refl, sym, ◌∙◌, ap, inl, inr}
use Rattle.nk_field.specs.Act.{applied}
use Rattle.nk_store.specs.declared.node.Out.{Out}
use Rattle.std.specs.declared.cmp.Ordering.TheVariants.{Less}
use Rattle.nk_store.specs.Leaves.{Every, Strict, out_cmp}
use Rattle.nk_store.specs.StoreState.{StoreState, IsId, look, HasLeaves, AreTidy, Grows}
use Rattle.nk_apply.specs.Leaves.{merged}
use Rattle.nk_apply.specs.Seqs.{prefixed}
use Rattle.nk_apply.proofs.Sorted.{weave-at, merged_strict}
use Rattle.nk_apply.proofs.Members.{merged_left, merged_has, strict_same}
use Rattle.nk_apply.proofs.Weaves.{merged-nil}

-- a leaf together with itself
pub merged_same : (a : List Out) → Strict a → merged a a ≡ a
merged_same a s = strict_same (merged a a) a (merged_strict a a s s) s (λ o h. elim (merged_has o a a h) [ inl k ↦ k | inr k ↦ k ]) (λ o h. merged_left o a a h)

-- each out after no assignment is the out
pub prefixed_none : (os : List Out) → Strict os → prefixed [] os ≡ os
prefixed_none [] s = refl
prefixed_none (o ∷ os) s = ap (λ zs. merged (o ∷ []) zs) (prefixed_none os s.1) ∙ before o os s.0
  where
    before : (o : Out) (os : List Out) → Every (λ y. out_cmp o y ≡ Less) os → merged (o ∷ []) os ≡ o ∷ os
    before o [] e = refl
    before o (y ∷ ys) e = weave-at Less o y [] ys (merged []) e.0

-- a diagram together with itself
pub united_same : (st : StoreState) (a b : ℕ) → IsId st a → AreTidy st → a ≡ b →
    HasLeaves st a (λ pk. merged (look st a pk) (look st b pk))
united_same st a b ia t e = record { id = ia; leaf = λ pk w. sym (merged_same (look st a pk) ((t a).sorted pk)) ∙ ap (λ k. merged (look st a pk) (look st k pk)) e }

-- a diagram together with one that drops each packet
pub united_left : (st : StoreState) (a b : ℕ) → IsId st a → ((pk : List ℕ) → look st b pk ≡ []) →
    HasLeaves st a (λ pk. merged (look st a pk) (look st b pk))
united_left st a b ia e = record { id = ia; leaf = λ pk w. sym (ap (λ y. merged (look st a pk) y) (e pk) ∙ merged-nil (look st a pk)) }

-- a diagram together with the one that drops each packet
pub beside_none : (st : StoreState) (none x y : ℕ) → IsId st x → HasLeaves st none (λ pk. []) → y ≡ none →
    HasLeaves st x (λ pk. merged (look st x pk) (look st y pk))
beside_none st none x y ix h is = record {
  id = ix;
  leaf = λ pk w. sym (ap (λ z. merged (look st x pk) z) (ap (λ d. look st d pk) is ∙ h.leaf pk w) ∙ merged-nil (look st x pk));
}

-- the one that drops each packet together with a diagram
pub none_beside : (st : StoreState) (none x y : ℕ) → IsId st y → HasLeaves st none (λ pk. []) → x ≡ none →
    HasLeaves st y (λ pk. merged (look st x pk) (look st y pk))
none_beside st none x y iy h is = record {
  id = iy;
  leaf = λ pk w. sym (ap (λ z. merged z (look st y pk)) (ap (λ d. look st d pk) is ∙ h.leaf pk w));
}

-- a diagram keeps its leaves in a store that grew
pub leaves_grown : (old new : StoreState) (d : ℕ) (F : List ℕ → List Out) → Grows old new → HasLeaves old d F → HasLeaves new d F
leaves_grown old new d F g h = record { id = g.ids d h.id; leaf = λ pk w. g.leaves d pk h.id ∙ h.leaf pk w }

-- a list without items is empty
pub no_items : {A : Type 0} (xs : List A) → length xs ≡ 0 → xs ≡ []
no_items [] e = refl
no_items (x ∷ xs) e = absurd (omega (arith, e))

-- a diagram after an act that assigns nothing
pub after_nothing : (st : StoreState) (d : ℕ) (g : List (ℕ × ℕ)) → IsId st d → AreTidy st → g ≡ [] →
    HasLeaves st d (λ pk. prefixed g (look st d (applied g pk)))
after_nothing st d g i t e = record { id = i; leaf = λ pk w. sym (ap (λ h. prefixed h (look st d (applied h pk))) e ∙ prefixed_none (look st d pk) ((t d).sorted pk)) }
