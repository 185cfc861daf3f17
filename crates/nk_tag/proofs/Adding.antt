-- The sets of one level more.
use Rattle.std.proofs.Common.{◌≡◌, ℕ, ◌<◌, Bool, cond, inl, inr, ⊎_elim, List, [], ◌∷◌, length, get_or, refl, sym, ap, subst, ◌∙◌, arith}
use Rattle.std.specs.Prelude.{not, map, filter, AllPairs, All, nat_eq, slice_index_or}
use Rattle.std.specs.List.{list_any}
use Rattle.std.specs.List.Sorted.{IsPermutation, IsSorted}
use Rattle.std.proofs.lemmas.List.Elements.{All-map, All-weaker, All-filter}
use Rattle.std.proofs.lemmas.List.Sorted.{All-permutation, Contains-permutation, IsPermutation-map, IsPermutation-sym}
use Rattle.indexmap.specs.IndexSet.{insert_all}
use Rattle.nk_field.specs.Order.{IsListedBefore}
use Rattle.nk_field.proofs.Lists.{In, in_from_contains, contains_from_in, NoDup}
use Rattle.nk_determ.specs.Sets.{HasEachSetOnce}
use Rattle.nk_determ.specs.Pairs.{Named, Once}
use Rattle.nk_tag.specs.Steps.{set_of, unseen, set_cmp, IsAdded}
use Rattle.nk_determ.proofs.Naming.{pairs_mapped}
use Rattle.nk_tag.proofs.Listed.{number_of, no_dup_pairs, sorted_listed, no_dup_permuted, any_tells, inserted}

-- an entry whose set has no number
abbrev is_new : List ℕ → ℕ × ℕ → Bool
is_new old p = not (list_any (nat_eq p.0) old)

-- the numbers of the sets of entries
abbrev numbers : List (List ℕ) → List (ℕ × ℕ) → List ℕ
numbers ss ps = map number_of (map (set_of ss) ps)

-- one more entry, where it is taken
abbrev taken : Bool → ℕ × ℕ → List (ℕ × ℕ) → List (ℕ × ℕ)
taken b p ps = cond b (p ∷ ps) ps

module _ (ss : List (List ℕ)) (old : List ℕ) where
  -- what stands among the unseen is named and has no number
  unseen_named : (level : List (ℕ × ℕ)) (s : ℕ) → In (numbers ss (filter (is_new old) level)) s
      → Named level s × (In old s → ⊥)
  unseen_named [] s i = absurd i
  unseen_named (p ∷ ps) s i =
      ⊎_elim
      (λ seen.
      let r = unseen_named ps s (subst (λ b. In (numbers ss (taken b p (filter (is_new old) ps))) s) (ap not seen.0) i) in
      (inr r.0, r.1))
      (λ new.
      ⊎_elim
      (λ e. (inl (sym e), λ o. new.1 (subst (λ z. In old z) e o)))
      (λ k. let r = unseen_named ps s k in (inr r.0, r.1))
      (subst (λ b. In (numbers ss (taken b p (filter (is_new old) ps))) s) (ap not new.0) i))
      (any_tells p.0 old)

  -- and what is named and has no number stands there
  named_unseen : (level : List (ℕ × ℕ)) (s : ℕ) → Named level s → (In old s → ⊥)
      → In (numbers ss (filter (is_new old) level)) s
  named_unseen [] s h free = absurd h
  named_unseen (p ∷ ps) s h free =
      ⊎_elim
      (λ seen.
      subst (λ b. In (numbers ss (taken b p (filter (is_new old) ps))) s) (sym (ap not seen.0))
      (⊎_elim (λ e. absurd (free (subst (λ z. In old z) e seen.1))) (λ k. named_unseen ps s k free) h))
      (λ new.
      subst (λ b. In (numbers ss (taken b p (filter (is_new old) ps))) s) (sym (ap not new.0))
      (⊎_elim (λ e. inl (sym e)) (λ k. inr (named_unseen ps s k free)) h))
      (any_tells p.0 old)

  -- each once
  unseen_no_dup : (level : List (ℕ × ℕ)) → Once level → NoDup (numbers ss (filter (is_new old) level))
  unseen_no_dup [] o = tt
  unseen_no_dup (p ∷ ps) o =
      ⊎_elim
      (λ seen.
      subst (λ b. NoDup (numbers ss (taken b p (filter (is_new old) ps)))) (sym (ap not seen.0)) (unseen_no_dup ps o.1))
      (λ new.
      subst (λ b. NoDup (numbers ss (taken b p (filter (is_new old) ps)))) (sym (ap not new.0))
      ((λ i. o.0 (unseen_named ps p.0 i).0), unseen_no_dup ps o.1))
      (any_tells p.0 old)

-- a set of the sets, with its members
abbrev IsKnown : List (List ℕ) → List ℕ × ℕ → Type 0
IsKnown ss x = (x.0 ≡ slice_index_or ss x.1 []) × (x.1 < length ss)

-- each of the unseen is known
unseen_known : (ss : List (List ℕ)) (old : List ℕ) (level : List (ℕ × ℕ)) → All (λ p. p.0 < length ss) level
    → All (IsKnown ss) (unseen ss old level)
unseen_known ss old level known =
    All-map (IsKnown ss) (set_of ss) (filter (is_new old) level)
    (All-weaker (λ p. p.0 < length ss) (λ p. IsKnown ss (set_of ss p)) (λ p lt. (refl, lt)) (filter (is_new old) level)
    (All-filter (is_new old) (λ p. p.0 < length ss) level known))

-- one level's sets put in
pub added : (ss : List (List ℕ)) (level : List (ℕ × ℕ)) (old new : List ℕ) (sets sorted : List (List ℕ × ℕ)) → HasEachSetOnce ss
    → All (λ p. p.0 < length ss) level → Once level → sets ≡ unseen ss old level → IsPermutation sets sorted
    → IsSorted set_cmp sorted → new ≡ insert_all nat_eq old (map number_of sorted) → IsAdded ss level old new
added ss level old new sets sorted differ known once made moved up put = record {
  more = map number_of sorted;
  is = put ∙ inserted old (map number_of sorted) apart (λ s i. (from s i).1);
  which = λ s. (
    λ c. let f = from s (in_from_contains (map number_of sorted) s c) in (f.0, λ o. f.1 (in_from_contains old s o)),
    λ h.
        let i = named_unseen ss old level s h.0 (λ o. h.1 (contains_from_in old s o)) in
        let j = subst (λ l. In (map number_of l) s) (sym made) i in
        Contains-permutation (map number_of sets) (map number_of sorted) s moves (contains_from_in (map number_of sets) s j),
  );
  in_order = pairs_mapped
      (λ x y. IsListedBefore (slice_index_or ss x.1 []) (slice_index_or ss y.1 []))
      (λ s t. IsListedBefore (slice_index_or ss s []) (slice_index_or ss t []))
      number_of
      (λ x y h. h)
      sorted
      by_members;
}
  where
    moves : IsPermutation (map number_of sets) (map number_of sorted)
    moves = IsPermutation-map number_of sets sorted moved

    apart : NoDup (map number_of sorted)
    apart = no_dup_permuted sets sorted moved (subst (λ l. NoDup (map number_of l)) (sym made) (unseen_no_dup ss old level once))

    from : (s : ℕ) → In (map number_of sorted) s → Named level s × (In old s → ⊥)
    from s i =
        let c = Contains-permutation (map number_of sorted) (map number_of sets) s (IsPermutation-sym (map number_of sets) (map number_of sorted) moves) (contains_from_in (map number_of sorted) s i) in
        unseen_named ss old level s (subst (λ l. In (map number_of l) s) made (in_from_contains (map number_of sets) s c))

    each : All (IsKnown ss) sorted
    each = All-permutation (IsKnown ss) sets sorted moved (subst (λ l. All (IsKnown ss) l) (sym made) (unseen_known ss old level known))

    differing : AllPairs (λ x y. x.0 ≡ y.0 → ⊥) sorted
    differing i j d lt less =
        let before : i < length sorted = omega (arith, lt, less) in
        let x = each i d before in
        let y = each j d less in
        λ e. no_dup_pairs sorted apart i j d lt less (differ (get_or sorted i d).1 (get_or sorted j d).1 x.1 y.1 (sym x.0 ∙ e ∙ y.0))

    by_members : AllPairs (λ x y. IsListedBefore (slice_index_or ss x.1 []) (slice_index_or ss y.1 [])) sorted
    by_members i j d lt less =
        let before : i < length sorted = omega (arith, lt, less) in
        let x = each i d before in
        let y = each j d less in
        subst (λ m. IsListedBefore m (slice_index_or ss (get_or sorted j d).1 [])) x.0
        (subst (λ m. IsListedBefore (get_or sorted i d).0 m) y.0 (sorted_listed sorted up differing i j d lt less))
