-- What is made of each out, one after the other, comes in order to what is gathered.
use Rattle.std.proofs.Common.{◌≡◌, ℕ, List, [], ◌∷◌, ◌++◌, map, refl, sym, subst, ◌⊎◌, inl, inr}
use Rattle.std.specs.List.{flat_map}
use Rattle.std.proofs.lemmas.List.Concat.{flat_map_single}
use Rattle.nk_store.specs.declared.node.Out.{Out}
use Rattle.nk_store.specs.Leaves.{Every, Strict, AreOrdered}
use Rattle.nk_apply.specs.Leaves.{merged, gathered, out_to, aimed}
use Rattle.nk_apply.specs.Seqs.{prefixed, out_after}
use Rattle.nk_apply.proofs.Sorted.{merged_strict}
use Rattle.nk_apply.proofs.Members.{Has, merged_left, merged_right, merged_has, has_contains, contains_has, every_has, every_from, strict_same, gathered_strict, gathered_has, has_gathered, prefixed_is}

-- outs in order, each once, are one list
pub same_order : (outs r s : List Out) → AreOrdered outs r → AreOrdered outs s → r ≡ s
same_order outs r s a b =
    strict_same r s a.sorted b.sorted
    (λ o h. contains_has s o ((b.members o).1 ((a.members o).0 (has_contains r o h))))
    (λ o h. contains_has r o ((a.members o).1 ((b.members o).0 (has_contains s o h))))

-- what holds of each out in order holds of each
pub every_unordered : (P : Out → Type 0) (outs r : List Out) → AreOrdered outs r → Every P r → Every P outs
every_unordered P outs r a e = every_from P outs (λ o h. every_has P r o e (contains_has r o ((a.members o).1 (has_contains outs o h))))

-- a member stays one before other items
pub has_front : (xs ys : List Out) (o : Out) → Has xs o → Has (xs ++ ys) o
has_front [] ys o h = absurd h
has_front (x ∷ xs) ys o (inl e) = inl e
has_front (x ∷ xs) ys o (inr h) = inr (has_front xs ys o h)

-- and after them
pub has_back : (xs ys : List Out) (o : Out) → Has ys o → Has (xs ++ ys) o
has_back [] ys o h = h
has_back (x ∷ xs) ys o h = inr (has_back xs ys o h)

-- a member of two lists one after the other is one of one of them
pub has_either : (xs ys : List Out) (o : Out) → Has (xs ++ ys) o → Has xs o ⊎ Has ys o
has_either [] ys o h = inr h
has_either (x ∷ xs) ys o (inl e) = inl (inl e)
has_either (x ∷ xs) ys o (inr h) = elim (has_either xs ys o h) [ inl k ↦ inl (inr k) | inr k ↦ inr k ]

-- outs that ascend in front of others come in order to the leaf with both
pub ordered_more : (xs outs r : List Out) → Strict xs → AreOrdered outs r → AreOrdered (xs ++ outs) (merged xs r)
ordered_more xs outs r s a = record {
  sorted = merged_strict xs r s a.sorted;
  members = λ o. (
    λ c. has_contains (xs ++ outs) o (there o (merged_has o xs r (contains_has (merged xs r) o c))),
    λ c. has_contains (merged xs r) o (back o (has_either xs outs o (contains_has (xs ++ outs) o c))),
  );
}
  where
    there : (o : Out) → Has xs o ⊎ Has r o → Has (xs ++ outs) o
    there o (inl h) = has_front xs outs o h
    there o (inr h) = has_back xs outs o (contains_has outs o ((a.members o).0 (has_contains r o h)))

    back : (o : Out) → Has xs o ⊎ Has outs o → Has (merged xs r) o
    back o (inl h) = merged_left o xs r h
    back o (inr h) = merged_right o xs r (contains_has r o ((a.members o).1 (has_contains outs o h)))

-- what F makes of a member is there
flat_has : (F : Out → List Out) (os : List Out) (p o : Out) → Has os p → Has (F p) o → Has (flat_map F os) o
flat_has F [] p o h k = absurd h
flat_has F (x ∷ os) p o (inl e) k = has_front (F x) (flat_map F os) o (subst (λ z. Has (F z) o) (sym e) k)
flat_has F (x ∷ os) p o (inr h) k = has_back (F x) (flat_map F os) o (flat_has F os p o h k)

-- and all that is there is made of a member
has_flat : (F : Out → List Out) (os : List Out) (o : Out) → Has (flat_map F os) o → (p : Out) × Has os p × Has (F p) o
has_flat F [] o h = absurd h
has_flat F (x ∷ os) o h = elim (has_either (F x) (flat_map F os) o h) [
  | inl k ↦ (x, inl refl, k)
  | inr k ↦ let r = has_flat F os o k in (r.0, inr r.1, r.2)
]

-- what F makes of each out, one after the other, comes in order to what is gathered
pub flat_ordered : (F : Out → List Out) (os : List Out) → ((o : Out) → Strict (F o)) → AreOrdered (flat_map F os) (gathered F os)
flat_ordered F os s = record {
  sorted = gathered_strict F os s;
  members = λ o. (
    λ c. let r = has_gathered F os o (contains_has (gathered F os) o c) in has_contains (flat_map F os) o (flat_has F os r.0 o r.1 r.2),
    λ c. let r = has_flat F os o (contains_has (flat_map F os) o c) in has_contains (gathered F os) o (gathered_has F os r.0 o r.1 r.2),
  );
}

-- where one out is made of each out, what is made comes in order to what is gathered
pub map_ordered : (G : Out → Out) (os : List Out) → AreOrdered (map G os) (gathered (λ o. G o ∷ []) os)
map_ordered G os =
    subst (λ xs. AreOrdered xs (gathered (λ o. G o ∷ []) os)) (flat_map_single G os)
    (flat_ordered (λ o. G o ∷ []) os (λ o. (tt, tt)))

-- outs with one target
pub aimed_ordered : (t : ℕ) (os all : List Out) → all ≡ map (out_to t) os → AreOrdered all (aimed t os)
aimed_ordered t os all e = subst (λ xs. AreOrdered xs (aimed t os)) (sym e) (map_ordered (out_to t) os)

-- outs after an act
pub prefixed_ordered : (g : List (ℕ × ℕ)) (os all : List Out) → all ≡ map (out_after g) os → AreOrdered all (prefixed g os)
prefixed_ordered g os all e =
    subst (λ xs. AreOrdered xs (prefixed g os)) (sym e)
    (subst (AreOrdered (map (out_after g) os)) (sym (prefixed_is g os)) (map_ordered (out_after g) os))
