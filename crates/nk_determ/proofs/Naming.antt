-- Entries of levels that name a set.
use Rattle.std.proofs.Common.{◌≡◌, ℕ, zero, suc, ◌<◌, inl, inr, ⊎_elim, List, [], ◌∷◌, length, sym, subst, arith}
use Rattle.std.specs.Prelude.{slice_index_or, map, All, AllPairs}
use Rattle.nk_field.proofs.Lists.{Decided, numbers_decided, from_mapped}
use Rattle.nk_field.proofs.Ascending.{all_from_members, first_before, rest_in_order}
use Rattle.std.proofs.lemmas.List.Elements.{All-nil, All-cons}
use Rattle.std.proofs.lemmas.List.Kept.{AllPairs-cons}
use Rattle.nk_store.specs.StoreState.{StoreState}
use Rattle.nk_determ.specs.Pairs.{Named, EachPair, IsPair, ArePairs}
use Rattle.nk_determ.specs.InOrder.{AreEntries}

-- a level that names a set is one of the levels
pub named_within : (ls : List (List (ℕ × ℕ))) (i s : ℕ) → Named (slice_index_or ls i []) s → i < length ls
named_within [] i s h = absurd h
named_within (l ∷ ls) zero s h = omega arith
named_within (l ∷ ls) (suc i) s h = let r = named_within ls i s h in omega (arith, r)

-- whether entries name a set is decided
pub named_decided : (ps : List (ℕ × ℕ)) (s : ℕ) → Decided (Named ps s)
named_decided [] s = inr (λ h. h)
named_decided (p ∷ ps) s = by (numbers_decided p.0 s) (named_decided ps s)
  where
    by : Decided (p.0 ≡ s) → Decided (Named ps s) → Decided (Named (p ∷ ps) s)
    by (inl e) rest = inl (inl e)
    by (inr other) (inl h) = inl (inr h)
    by (inr other) (inr none) = inr (λ h. ⊎_elim other none h)

-- a set that is named has an entry, and what holds of each entry holds of it
pub named_entry : (P : ℕ × ℕ → Type 0) (ps : List (ℕ × ℕ)) (s : ℕ) → Named ps s → EachPair P ps
    → (p : ℕ × ℕ) × P p × (p.0 ≡ s)
named_entry P [] s h e = absurd h
named_entry P (p ∷ ps) s (inl is) e = (p, e.0, is)
named_entry P (p ∷ ps) s (inr h) e = named_entry P ps s h e.1

-- what holds of each entry holds of all
pub all_entries : (P Q : ℕ × ℕ → Type 0) → ((p : ℕ × ℕ) → P p → Q p) → (ps : List (ℕ × ℕ)) → EachPair P ps → All Q ps
all_entries P Q f [] e = All-nil Q
all_entries P Q f (p ∷ ps) e = All-cons Q p ps (f p e.0) (all_entries P Q f ps e.1)

-- levels of pairs are levels of entries
pub pairs_are_entries : (st : StoreState) (ss : List (List ℕ)) (states : ℕ) (ls : List (List (ℕ × ℕ)))
    → ((i : ℕ) → i < length ls → ArePairs st ss states (slice_index_or ls i [])) → AreEntries ss ls
pairs_are_entries st ss states ls pairs i lt =
    let h = pairs i lt in
    (all_entries (IsPair st ss states) (λ p. p.0 < length ss) (λ p e. e.known) (slice_index_or ls i []) h.each, h.once)

-- images in order
pub pairs_mapped : {X Y : Type 0} (R : X → X → Type 0) (S : Y → Y → Type 0) (f : X → Y) → ((x y : X) → R x y → S (f x) (f y))
    → (xs : List X) → AllPairs R xs → AllPairs S (map f xs)
pairs_mapped R S f g [] h = λ i j e lt less. absurd (omega (arith, less))
pairs_mapped R S f g (x ∷ xs) h =
    AllPairs-cons S (f x) (map f xs)
    (all_from_members (λ y. S (f x) y) (map f xs) (λ y i.
    let m = from_mapped f xs y i in
    subst (λ z. S (f x) z) (sym m.2) (g x m.0 (first_before R x xs h m.0 m.1))))
    (pairs_mapped R S f g xs (rest_in_order R x xs h))
