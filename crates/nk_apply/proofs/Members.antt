-- The members of leaves that are put together.
use Rattle.std.proofs.Common.{◌≡◌, ℕ, zero, suc, ◌<◌, List, [], ◌∷◌, length, refl, sym, ◌∙◌, ap, subst, arith, get_or, ◌⊎◌, ◌↔◌, inl, inr}
use Rattle.std.specs.List.{Contains}
use Rattle.std.specs.Ordering.{ordering_reverse, is_eq}
use Rattle.std.specs.declared.cmp.Ordering.{Ordering}
use Rattle.std.specs.declared.cmp.Ordering.TheVariants.{Less, Equal, Greater}
use Rattle.nk_field.specs.Act.{applied}
use Rattle.nk_store.specs.declared.node.Out.{Out}
use Rattle.nk_store.specs.Leaves.{out_cmp, Every, Strict, Suits}
use Rattle.nk_store.specs.contracts.node.OutOrd.TheImpl.Laws.{matches_eq-law}
use Rattle.nk_store.proofs.NodeEq.{out_decides}
use Rattle.nk_apply.specs.Leaves.{weave, merged, gathered, out_to, aimed}
use Rattle.nk_apply.specs.Seqs.{out_after, prefixed, seq_leaf}
use Rattle.nk_apply.proofs.Sorted.{out_order, weave-at, merged_every, merged_strict}

-- o is one of the items
abbrev pub Has : {X : Type 0} → List X → X → Type 0
Has [] o = ⊥
Has (x ∷ xs) o = (x ≡ o) ⊎ Has xs o

-- a member, in the words of std
pub has_contains : {X : Type 0} (xs : List X) (o : X) → Has xs o → Contains xs o
has_contains [] o h = absurd h
has_contains (x ∷ xs) o (inl e) = (0, omega arith, e)
has_contains (x ∷ xs) o (inr h) = let k = has_contains xs o h in (suc k.0, omega (arith, k.1), k.2)

-- what stands at a place is a member
contains_at : {X : Type 0} (xs : List X) (o : X) (k : ℕ) → k < length xs → get_or xs k o ≡ o → Has xs o
contains_at [] o k l e = absurd (omega arith)
contains_at (x ∷ xs) o zero l e = inl e
contains_at (x ∷ xs) o (suc k) l e = inr (contains_at xs o k (omega arith) e)

-- a member, in the words of these lemmas
pub contains_has : {X : Type 0} (xs : List X) (o : X) → Contains xs o → Has xs o
contains_has xs o c = contains_at xs o c.0 c.1 c.2

-- what holds of each out holds of a member
pub every_has : (P : Out → Type 0) (xs : List Out) (o : Out) → Every P xs → Has xs o → P o
every_has P [] o e h = absurd h
every_has P (x ∷ xs) o e (inl is) = subst P is e.0
every_has P (x ∷ xs) o e (inr h) = every_has P xs o e.1 h

-- what holds of each member holds of each out
pub every_from : (P : Out → Type 0) (xs : List Out) → ((o : Out) → Has xs o → P o) → Every P xs
every_from P [] f = tt
every_from P (x ∷ xs) f = (f x (inl refl), every_from P xs (λ o h. f o (inr h)))

-- outs that the order doesn't tell apart are one
pub tied_same : (x y : Out) → out_cmp x y ≡ Equal → x ≡ y
tied_same x y e = (out_decides x y).0 (matches_eq-law x y ∙ ap is_eq e)

-- a member of x and xs is one of the woven list
weave_left : (o x : Out) (xs : List Out) (rest : List Out → List Out) →
    ((ys : List Out) → Has xs o → Has (rest ys) o) → (ys : List Out) → Has (x ∷ xs) o →
    Has (weave x xs rest ys) o
weave_left o x xs rest ih [] a = a
weave_left o x xs rest ih (y ∷ ys) a = by (out_cmp x y) refl (weave_left o x xs rest ih ys a)
  where
    lift : (zs : List Out) → Has (x ∷ xs) o → Has (x ∷ rest zs) o
    lift zs (inl e) = inl e
    lift zs (inr h) = inr (ih zs h)

    by : (r : Ordering) → out_cmp x y ≡ r → Has (weave x xs rest ys) o → Has (weave x xs rest (y ∷ ys)) o
    by Less e go = subst (λ zs. Has zs o) (sym (weave-at Less x y xs ys rest e)) (lift (y ∷ ys) a)
    by Equal e go = subst (λ zs. Has zs o) (sym (weave-at Equal x y xs ys rest e)) (lift ys a)
    by Greater e go = subst (λ zs. Has zs o) (sym (weave-at Greater x y xs ys rest e)) (inr go)

-- a member of ys is one of the woven list
weave_right : (o x : Out) (xs : List Out) (rest : List Out → List Out) →
    ((ys : List Out) → Has ys o → Has (rest ys) o) → (ys : List Out) → Has ys o → Has (weave x xs rest ys) o
weave_right o x xs rest ih [] b = absurd b
weave_right o x xs rest ih (y ∷ ys) b = by (out_cmp x y) refl (λ k. weave_right o x xs rest ih ys k)
  where
    at_tie : x ≡ y → Has (y ∷ ys) o → Has (x ∷ rest ys) o
    at_tie e (inl is) = inl (e ∙ is)
    at_tie e (inr h) = inr (ih ys h)

    later : (Has ys o → Has (weave x xs rest ys) o) → Has (y ∷ ys) o → Has (y ∷ weave x xs rest ys) o
    later go (inl is) = inl is
    later go (inr h) = inr (go h)

    by : (r : Ordering) → out_cmp x y ≡ r → (Has ys o → Has (weave x xs rest ys) o) →
        Has (weave x xs rest (y ∷ ys)) o
    by Less e go = subst (λ zs. Has zs o) (sym (weave-at Less x y xs ys rest e)) (inr (ih (y ∷ ys) b))
    by Equal e go = subst (λ zs. Has zs o) (sym (weave-at Equal x y xs ys rest e)) (at_tie (tied_same x y e) b)
    by Greater e go = subst (λ zs. Has zs o) (sym (weave-at Greater x y xs ys rest e)) (later go b)

-- a member of the first list is one of the merged list
pub merged_left : (o : Out) (xs ys : List Out) → Has xs o → Has (merged xs ys) o
merged_left o [] ys a = absurd a
merged_left o (x ∷ xs) ys a = weave_left o x xs (merged xs) (λ zs h. merged_left o xs zs h) ys a

-- a member of the second list is one of the merged list
pub merged_right : (o : Out) (xs ys : List Out) → Has ys o → Has (merged xs ys) o
merged_right o [] ys b = b
merged_right o (x ∷ xs) ys b = weave_right o x xs (merged xs) (λ zs h. merged_right o xs zs h) ys b

-- a member of the merged list is one of either list
pub merged_has : (o : Out) (xs ys : List Out) → Has (merged xs ys) o → Has xs o ⊎ Has ys o
merged_has o xs ys h =
    every_has (λ z. Has xs z ⊎ Has ys z) (merged xs ys) o
    (merged_every (λ z. Has xs z ⊎ Has ys z) xs ys (every_from (λ z. Has xs z ⊎ Has ys z) xs (λ z k. inl k)) (every_from (λ z. Has xs z ⊎ Has ys z) ys (λ z k. inr k))) h

-- an out is in the merged list exactly where it is in one of both
pub merged_members : (o : Out) (xs ys : List Out) →
    Contains (merged xs ys) o ↔ (Contains xs o ⊎ Contains ys o)
merged_members o xs ys = (
  λ c. elim (merged_has o xs ys (contains_has _ _ c)) [ inl h ↦ inl (has_contains _ _ h) | inr h ↦ inr (has_contains _ _ h) ],
  λ s. elim s [ inl c ↦ has_contains _ _ (merged_left o xs ys (contains_has _ _ c)) | inr c ↦ has_contains _ _ (merged_right o xs ys (contains_has _ _ c)) ],
)

-- no out is before itself
pub not_before_itself : (x : Out) → out_cmp x x ≡ Less → ⊥
not_before_itself x e = let k : Less ≡ Greater = sym e ∙ out_order.antisymm x x ∙ ap ordering_reverse e in cc

-- two strictly ascending lists with the same members are one
pub strict_same : (xs ys : List Out) → Strict xs → Strict ys → ((o : Out) → Has xs o → Has ys o) →
    ((o : Out) → Has ys o → Has xs o) → xs ≡ ys
strict_same [] [] a b f g = refl
strict_same [] (y ∷ ys) a b f g = absurd (g y (inl refl))
strict_same (x ∷ xs) [] a b f g = absurd (f x (inl refl))
strict_same (x ∷ xs) (y ∷ ys) a b f g =
    let same : x ≡ y = first (f x (inl refl)) (g y (inl refl)) in
    ap (λ z. z ∷ xs) same ∙ ap (λ zs. y ∷ zs) (strict_same xs ys a.1 b.1 (λ o h. rest_left same o h (f o (inr h))) (λ o h. rest_right same o h (g o (inr h))))
  where
    first : Has (y ∷ ys) x → Has (x ∷ xs) y → x ≡ y
    first (inl e) k = sym e
    first (inr h) (inl e) = e
    first (inr h) (inr k) = absurd (not_before_itself x (out_order.trans x y x (every_has (λ z. out_cmp x z ≡ Less) xs y a.0 k) (every_has (λ z. out_cmp y z ≡ Less) ys x b.0 h)))

    rest_left : x ≡ y → (o : Out) → Has xs o → Has (y ∷ ys) o → Has ys o
    rest_left same o h (inl e) = absurd (not_before_itself o (subst (λ z. out_cmp z o ≡ Less) (same ∙ e) (every_has (λ z. out_cmp x z ≡ Less) xs o a.0 h)))
    rest_left same o h (inr k) = k

    rest_right : x ≡ y → (o : Out) → Has ys o → Has (x ∷ xs) o → Has xs o
    rest_right same o h (inl e) = absurd (not_before_itself o (subst (λ z. out_cmp z o ≡ Less) (sym same ∙ e) (every_has (λ z. out_cmp y z ≡ Less) ys o b.0 h)))
    rest_right same o h (inr k) = k

-- a merged list is longer than the first one, or it is that one
weave_grows : (x : Out) (xs : List Out) (rest : List Out → List Out) →
    ((ys : List Out) → (length xs < length (rest ys)) ⊎ (rest ys ≡ xs)) → (ys : List Out) →
    (length (x ∷ xs) < length (weave x xs rest ys)) ⊎ (weave x xs rest ys ≡ x ∷ xs)
weave_grows x xs rest ih [] = inr refl
weave_grows x xs rest ih (y ∷ ys) = by (out_cmp x y) refl (weave_grows x xs rest ih ys)
  where
    Grown : List Out → Type 0
    Grown zs = (length (x ∷ xs) < length zs) ⊎ (zs ≡ x ∷ xs)

    lift : (zs : List Out) → ((length xs < length zs) ⊎ (zs ≡ xs)) → Grown (x ∷ zs)
    lift zs (inl l) = inl (omega arith)
    lift zs (inr e) = inr (ap (λ k. x ∷ k) e)

    push : (zs : List Out) → Grown zs → Grown (y ∷ zs)
    push zs (inl l) = inl (omega arith)
    push zs (inr e) = let k : length zs ≡ length (x ∷ xs) = ap (λ k. length k) e in inl (omega (arith, k))

    by : (r : Ordering) → out_cmp x y ≡ r → Grown (weave x xs rest ys) → Grown (weave x xs rest (y ∷ ys))
    by Less e go = subst Grown (sym (weave-at Less x y xs ys rest e)) (lift (rest (y ∷ ys)) (ih (y ∷ ys)))
    by Equal e go = subst Grown (sym (weave-at Equal x y xs ys rest e)) (lift (rest ys) (ih ys))
    by Greater e go = subst Grown (sym (weave-at Greater x y xs ys rest e)) (push (weave x xs rest ys) go)

-- a merged list is longer than the first one, or it is that one
pub merged_grows : (xs ys : List Out) → (length xs < length (merged xs ys)) ⊎ (merged xs ys ≡ xs)
merged_grows [] [] = inr refl
merged_grows [] (y ∷ ys) = inl (omega arith)
merged_grows (x ∷ xs) ys = weave_grows x xs (merged xs) (λ zs. merged_grows xs zs) ys

-- what F makes of a member is gathered
pub gathered_has : (F : Out → List Out) (os : List Out) (p o : Out) → Has os p → Has (F p) o →
    Has (gathered F os) o
gathered_has F [] p o h k = absurd h
gathered_has F (x ∷ os) p o (inl e) k = merged_left o (F x) (gathered F os) (subst (λ z. Has (F z) o) (sym e) k)
gathered_has F (x ∷ os) p o (inr h) k = merged_right o (F x) (gathered F os) (gathered_has F os p o h k)

-- what is gathered is made of some member
pub has_gathered : (F : Out → List Out) (os : List Out) (o : Out) → Has (gathered F os) o →
    (p : Out) × Has os p × Has (F p) o
has_gathered F [] o h = absurd h
has_gathered F (x ∷ os) o h = elim (merged_has o (F x) (gathered F os) h) [
  | inl k ↦ (x, inl refl, k)
  | inr k ↦ let r = has_gathered F os o k in (r.0, inr r.1, r.2)
]

-- what is gathered ascends strictly
pub gathered_strict : (F : Out → List Out) (os : List Out) → ((o : Out) → Strict (F o)) →
    Strict (gathered F os)
gathered_strict F [] s = tt
gathered_strict F (o ∷ os) s = merged_strict (F o) (gathered F os) (s o) (gathered_strict F os s)

-- what holds of all that F makes holds of what is gathered
pub gathered_every : (P Q : Out → Type 0) (F : Out → List Out) (os : List Out) →
    ((o : Out) → Q o → Every P (F o)) → Every Q os → Every P (gathered F os)
gathered_every P Q F [] f e = tt
gathered_every P Q F (o ∷ os) f e = merged_every P (F o) (gathered F os) (f o e.0) (gathered_every P Q F os f e.1)

-- the outs with one target suit the highest values
pub aimed_suits : (maxes : List ℕ) (t : ℕ) (os : List Out) → Every (Suits maxes) os →
    Every (Suits maxes) (aimed t os)
aimed_suits maxes t os e = gathered_every (Suits maxes) (Suits maxes) (λ o. out_to t o ∷ []) os (λ o k. (k, tt)) e

-- each out after an act, as gathered outs
pub prefixed_is : (g : List (ℕ × ℕ)) (os : List Out) → prefixed g os ≡ gathered (λ o. out_after g o ∷ []) os
prefixed_is g [] = refl
prefixed_is g (o ∷ os) = ap (λ z. merged (out_after g o ∷ []) z) (prefixed_is g os)

-- the leaf of a sequence, as gathered outs
pub seq_leaf_is : (os : List Out) (B : List ℕ → List Out) (pk : List ℕ) →
    seq_leaf os B pk ≡ gathered (λ o. prefixed o.act (B (applied o.act pk))) os
seq_leaf_is [] B pk = refl
seq_leaf_is (o ∷ os) B pk = ap (λ z. merged (prefixed o.act (B (applied o.act pk))) z) (seq_leaf_is os B pk)

-- what the second diagram makes of what a member gives is in the sequence
pub seq_leaf_has : (os : List Out) (B : List ℕ → List Out) (pk : List ℕ) (p q : Out) → Has os p →
    Has (B (applied p.act pk)) q → Has (seq_leaf os B pk) (out_after p.act q)
seq_leaf_has os B pk p q h k =
    subst (λ zs. Has zs (out_after p.act q)) (sym (seq_leaf_is os B pk))
    (gathered_has (λ o. prefixed o.act (B (applied o.act pk))) os p (out_after p.act q) h
    (subst (λ zs. Has zs (out_after p.act q)) (sym (prefixed_is p.act (B (applied p.act pk))))
    (gathered_has (λ o. out_after p.act o ∷ []) (B (applied p.act pk)) q (out_after p.act q) k (inl refl))))

-- a member of the sequence comes from a member of the first leaf and one of the second
pub has_seq_leaf : (os : List Out) (B : List ℕ → List Out) (pk : List ℕ) (o : Out) →
    Has (seq_leaf os B pk) o →
    (p : Out) × (q : Out) × Has os p × Has (B (applied p.act pk)) q × (out_after p.act q ≡ o)
has_seq_leaf os B pk o h =
    let r = has_gathered (λ o. prefixed o.act (B (applied o.act pk))) os o (subst (λ zs. Has zs o) (seq_leaf_is os B pk) h) in
    let s = has_gathered (λ o. out_after r.0.act o ∷ []) (B (applied r.0.act pk)) o (subst (λ zs. Has zs o) (prefixed_is r.0.act (B (applied r.0.act pk))) r.2) in
    (r.0, s.0, r.1, s.1, only s.2)
  where
    only : {a : Out} → Has (a ∷ []) o → a ≡ o
    only (inl e) = e
    only (inr k) = absurd k
