-- Two strictly ascending leaves put together ascend strictly, and have the members of both.
use Rattle.std.proofs.Common.{◌≡◌, ℕ, List, [], ◌∷◌, refl, sym, ◌∙◌, ap, subst}
use Rattle.std.specs.Cmp.{IsTotalOrder}
use Rattle.std.specs.declared.cmp.Ordering.{Ordering}
use Rattle.std.specs.declared.cmp.Ordering.TheVariants.{Less, Equal, Greater}
use Rattle.std.specs.Ordering.{ordering_reverse}
use Rattle.nk_store.specs.declared.node.Out.{Out}
use Rattle.nk_store.specs.Leaves.{out_cmp, Every, Strict}
use Rattle.nk_apply.specs.Seqs.{prefixed, out_after}
use Rattle.nk_store.specs.contracts.node.OutOrd.TheImpl.Laws.{total-law}
use Rattle.nk_apply.specs.Leaves.{by_order, weave, merged}

-- the order of outs is total
pub out_order : IsTotalOrder out_cmp
out_order = total-law

-- what follows from a property of each out holds of each
every_weaker : (P Q : Out → Type 0) (xs : List Out) → ((x : Out) → P x → Q x) → Every P xs → Every Q xs
every_weaker P Q [] f e = tt
every_weaker P Q (x ∷ xs) f e = (f x e.0, every_weaker P Q xs f e.1)

-- how two lists are put together is told by their first outs
pub weave-at : (r : Ordering) (x y : Out) (xs ys : List Out) (rest : List Out → List Out) → out_cmp x y ≡ r →
    weave x xs rest (y ∷ ys) ≡ by_order r (x ∷ rest (y ∷ ys)) (x ∷ rest ys) (y ∷ weave x xs rest ys)
weave-at r x y xs ys rest e = ap (λ o. by_order o (x ∷ rest (y ∷ ys)) (x ∷ rest ys) (y ∷ weave x xs rest ys)) e

-- what holds of each of both lists holds of each of the woven one
weave_every : (P : Out → Type 0) (x : Out) (xs : List Out) (rest : List Out → List Out) →
    ((ys : List Out) → Every P xs → Every P ys → Every P (rest ys)) → (ys : List Out) → Every P (x ∷ xs) →
    Every P ys → Every P (weave x xs rest ys)
weave_every P x xs rest ih [] a b = a
weave_every P x xs rest ih (y ∷ ys) a b = by (out_cmp x y) refl (λ k. weave_every P x xs rest ih ys a k)
  where
    by : (r : Ordering) → out_cmp x y ≡ r → (Every P ys → Every P (weave x xs rest ys)) →
        Every P (weave x xs rest (y ∷ ys))
    by Less e go = subst (Every P) (sym (weave-at Less x y xs ys rest e)) (a.0, ih (y ∷ ys) a.1 b)
    by Equal e go = subst (Every P) (sym (weave-at Equal x y xs ys rest e)) (a.0, ih ys a.1 b.1)
    by Greater e go = subst (Every P) (sym (weave-at Greater x y xs ys rest e)) (b.0, go b.1)

-- what holds of each of both lists holds of each of the merged one
pub merged_every : (P : Out → Type 0) (xs ys : List Out) → Every P xs → Every P ys → Every P (merged xs ys)
merged_every P [] ys a b = b
merged_every P (x ∷ xs) ys a b = weave_every P x xs (merged xs) (λ zs p q. merged_every P xs zs p q) ys a b

-- an out that is greater has the other one before it
other_way : (x y : Out) → out_cmp x y ≡ Greater → out_cmp y x ≡ Less
other_way x y e = out_order.antisymm y x ∙ ap ordering_reverse e

-- a woven list of two that ascend ascends
weave_strict : (x : Out) (xs : List Out) (rest : List Out → List Out) →
    ((P : Out → Type 0) (ys : List Out) → Every P xs → Every P ys → Every P (rest ys)) →
    ((ys : List Out) → Strict xs → Strict ys → Strict (rest ys)) → (ys : List Out) → Strict (x ∷ xs) →
    Strict ys → Strict (weave x xs rest ys)
weave_strict x xs rest ev ih [] a b = a
weave_strict x xs rest ev ih (y ∷ ys) a b = by (out_cmp x y) refl (weave_strict x xs rest ev ih ys a b.1)
  where
    by : (r : Ordering) → out_cmp x y ≡ r → Strict (weave x xs rest ys) → Strict (weave x xs rest (y ∷ ys))
    by Less e go = subst Strict (sym (weave-at Less x y xs ys rest e))
        (ev (λ z. out_cmp x z ≡ Less) (y ∷ ys) a.0 (e, every_weaker (λ z. out_cmp y z ≡ Less) (λ z. out_cmp x z ≡ Less) ys (λ z l. out_order.trans x y z e l) b.0), ih (y ∷ ys) a.1 b)
    by Equal e go = subst Strict (sym (weave-at Equal x y xs ys rest e))
        (ev (λ z. out_cmp x z ≡ Less) ys a.0 (every_weaker (λ z. out_cmp y z ≡ Less) (λ z. out_cmp x z ≡ Less) ys (λ z l. out_order.congr x y z e ∙ l) b.0), ih ys a.1 b.1)
    by Greater e go =
        let back : out_cmp y x ≡ Less = other_way x y e in
        subst Strict (sym (weave-at Greater x y xs ys rest e)) (
          weave_every (λ z. out_cmp y z ≡ Less) x xs rest (λ zs p q. ev (λ z. out_cmp y z ≡ Less) zs p q) ys (back, every_weaker (λ z. out_cmp x z ≡ Less) (λ z. out_cmp y z ≡ Less) xs (λ z l. out_order.trans y x z back l) a.0) b.0,
          go,
        )

-- a merged list of two that ascend ascends
pub merged_strict : (xs ys : List Out) → Strict xs → Strict ys → Strict (merged xs ys)
merged_strict [] ys a b = b
merged_strict (x ∷ xs) ys a b = weave_strict x xs (merged xs) (λ P zs p q. merged_every P xs zs p q) (λ zs p q. merged_strict xs zs p q) ys a b

-- outs put after an act ascend
pub prefixed_strict : (g : List (ℕ × ℕ)) (outs : List Out) → Strict (prefixed g outs)
prefixed_strict g [] = tt
prefixed_strict g (o ∷ os) = merged_strict (out_after g o ∷ []) (prefixed g os) (tt, tt) (prefixed_strict g os)
