-- The laws of sets that are alike, in the words of their members.
use Rattle.std.proofs.Common.{◌≡◌, ℕ, ◌<◌, ⊎_elim, inl, List, [], ◌∷◌, length, refl, sym, subst}
use Rattle.std.specs.Prelude.{◌↔◌, map, Contains}
use Rattle.nk_field.proofs.Lists.{In, in_from_contains, contains_from_in, in_mapped, from_mapped}
use Rattle.nk_field.proofs.Ascending.{all_from_members}
use Rattle.nk_store.specs.StoreState.{StoreState, IsStorePacket, AreTidy}
use Rattle.nk_determ.specs.Pairs.{AreLabelsBelow, AreStates}
use Rattle.nk_goal.proofs.Growing.{place_of}
use Rattle.nk_merge.specs.Alike.{SetGives, AreAlike, AreTagsAlike}
use Rattle.nk_merge.specs.Classes.{IsEquivalence}
use Rattle.nk_merge.specs.DisjointCopies.{again, label_count, AreDisjointCopies}
use Rattle.nk_merge.proofs.Runs.{LabelGives, gives_runs}
use Rattle.nk_merge.proofs.Copies.{once_within, twice_within, rows_are, once_gives, disjoint_gives}

-- to be alike is an equivalence
pub alike_back_to : (st : StoreState) (states s t : List ℕ) → AreAlike st states s t → AreAlike st states t s
alike_back_to st states s t h x r w y = let e = h x r w y in (e.1, e.0)

pub alike_on_to : (st : StoreState) (states s t u : List ℕ) → AreAlike st states s t → AreAlike st states t u → AreAlike st states s u
alike_on_to st states s t u h k x r w y =
    let e = h x r w y in
    let f = k x r w y in
    (λ g. f.0 (e.0 g), λ g. e.1 (f.1 g))

pub tags_equivalence : (st : StoreState) (states : List ℕ) (ss : List (List ℕ)) (tags : List ℕ) → IsEquivalence (AreTagsAlike st states ss tags)
tags_equivalence st states ss tags = record {
  self = λ i x r w y. (λ g. g, λ g. g);
  back = λ i j h x r w y. let e = h x r w y in (e.1, e.0);
  on = λ i j k h l x r w y.
      let e = h x r w y in
      let f = l x r w y in
      (λ g. f.0 (e.0 g), λ g. e.1 (f.1 g));
}

-- the only member of a list of one
one_member : (k l : ℕ) → Contains (k ∷ []) l → l ≡ k
one_member k l c = ⊎_elim (λ e. e) (λ i. absurd i) (in_from_contains (k ∷ []) l c)

-- what holds of a label holds of a set of it alone
alone_places : (n l : ℕ) → l < n → AreLabelsBelow n (l ∷ [])
alone_places n l lt = all_from_members (λ k. k < n) (l ∷ []) (λ k i. ⊎_elim (λ e. subst (λ z. z < n) (sym e) lt) (λ z. absurd z) i)

module _ (st : StoreState) (states : List ℕ) (ok : AreStates st states) (tidy : AreTidy st) where
  -- a set gives what its members give
  pub gives_members : (set x : List ℕ) (w : List (List ℕ)) (y : List ℕ) → AreLabelsBelow (length states) set → IsStorePacket st x
      → SetGives st states set x w y ↔ ((l : ℕ) × Contains set l × SetGives st states (l ∷ []) x w y)
  gives_members set x w y p r =
      let e = gives_runs st states ok tidy set x w y p r in (
        λ g.
            let h = e.0 g in
            let one = alone_places (length states) h.0 (place_of (length states) set h.0 p h.1) in
            (h.0, h.1, (gives_runs st states ok tidy (h.0 ∷ []) x w y one r).1 (h.0, contains_from_in (h.0 ∷ []) h.0 (inl refl), h.2)),
        λ h.
            let one = alone_places (length states) h.0 (place_of (length states) set h.0 p h.1) in
            let m = (gives_runs st states ok tidy (h.0 ∷ []) x w y one r).0 h.2 in
            e.1 (h.0, h.1, subst (λ l. LabelGives st states l x w y) (one_member h.0 m.0 m.1) m.2),
      )

  module _ (rows : List ℕ) (tw : AreDisjointCopies st states rows) (set x : List ℕ) (w : List (List ℕ)) (y : List ℕ) (p : AreLabelsBelow (length states) set) (r : IsStorePacket st x) where
    within : (l : ℕ) → Contains set l → l < length states
    within l c = place_of (length states) set l p c

    -- the first copy of a set gives what the set gives
    pub first_copy : SetGives st rows set x w y ↔ SetGives st states set x w y
    first_copy =
        let rp : AreLabelsBelow (length rows) set = all_from_members (λ l. l < length rows) set (λ l i. once_within st states rows tw l (within l (contains_from_in set l i))) in
        let e = gives_runs st rows (rows_are st states rows tw ok tidy) tidy set x w y rp r in
        let f = gives_runs st states ok tidy set x w y p r in (
          λ g. let h = e.0 g in f.1 (h.0, h.1, (once_gives st states rows tw ok tidy h.0 x w y (within h.0 h.1) r).0 h.2),
          λ g. let h = f.0 g in e.1 (h.0, h.1, (once_gives st states rows tw ok tidy h.0 x w y (within h.0 h.1) r).1 h.2),
        )

    -- and so does the second one
    pub second_copy : ((l : ℕ) → Contains set l → 0 < l) → SetGives st rows (map (again (label_count states)) set) x w y ↔ SetGives st states set x w y
    second_copy above =
        let marked : List ℕ = map (again (label_count states)) set in
        let f = gives_runs st states ok tidy set x w y p r in
        let rp : AreLabelsBelow (length rows) marked = all_from_members (λ l. l < length rows) marked (λ l i. placed l i) in
        let e = gives_runs st rows (rows_are st states rows tw ok tidy) tidy marked x w y rp r in (
          λ g.
              let h = e.0 g in
              let m = from_mapped (again (label_count states)) set h.0 (in_from_contains marked h.0 h.1) in
              let c = contains_from_in set m.0 m.1 in
              f.1 (m.0, c, (disjoint_gives st states rows tw ok tidy m.0 x w y (above m.0 c) (within m.0 c) r).0 (subst (λ l. LabelGives st rows l x w y) m.2 h.2)),
          λ g.
              let h = f.0 g in
              let c = contains_from_in marked (again (label_count states) h.0) (in_mapped (again (label_count states)) set h.0 (in_from_contains set h.0 h.1)) in
              e.1 (again (label_count states) h.0, c, (disjoint_gives st states rows tw ok tidy h.0 x w y (above h.0 h.1) (within h.0 h.1) r).1 h.2),
        )
      where
        placed : (l : ℕ) → In (map (again (label_count states)) set) l → l < length rows
        placed l i =
            let m = from_mapped (again (label_count states)) set l i in
            let c = contains_from_in set m.0 m.1 in
            subst (λ k. k < length rows) (sym m.2) (twice_within st states rows tw m.0 (above m.0 c) (within m.0 c))
