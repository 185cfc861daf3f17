-- The packets of levels put in by set, one entry after the other.
use Rattle.std.proofs.Common.{◌≡◌, ℕ, zero, suc, ◌+◌, ◌<◌, ◌↔◌, ◌⊎◌, inl, inr, ⊎_elim, true, List, [], ◌∷◌, ◌++◌, length, get_or, set, take, refl, sym, ap, subst, ◌∙◌, arith, append_assoc, append-nil, length-append, length-set, get_or-set_other, get_or-set_same}
use Rattle.std.specs.Prelude.{All, map}
use Rattle.std.proofs.lemmas.List.{take_more, get_or_append_left, get_or_default}
use Rattle.std.specs.List.Sorted.{IsStrictlyIncreasing}
use Rattle.nk_field.proofs.Lists.{In, numbers_decided, from_mapped}
use Rattle.nk_field.proofs.Ascending.{Rising, rising_from, increasing_from, members_from_all}
use Rattle.nk_store.specs.declared.node.Out.{Out}
use Rattle.nk_store.specs.StoreState.{StoreState, IsId, IsWhole, look, Grows, HasLeaves}
use Rattle.nk_apply.specs.Leaves.{merged}
use Rattle.nk_apply.specs.PacketSets.{has_some_out, is_in}
use Rattle.nk_apply.proofs.Members.{Has, merged_has, merged_left, merged_right}
use Rattle.nk_determ.specs.Sets.{IsSetOf, SetsGrow, HasEachSetOnce}
use Rattle.nk_determ.specs.Pairs.{Under, EachPair}
use Rattle.nk_group.specs.Tagged.{set_of_tag}
use Rattle.nk_group.proofs.Growing.{set_kept, sets_longer}
use Rattle.nk_merge.specs.Alike.{labels_after}
use Rattle.nk_compact.specs.MetPackets.{entries_of, AreUnder, AreMet}

-- a leaf with an out has one
some_out : (os : List Out) → has_some_out os ≡ true → (o : Out) × Has os o
some_out [] e = absurd cc
some_out (o ∷ os) e = (o, inl refl)

-- and the other way
out_some : (os : List Out) (o : Out) → Has os o → has_some_out os ≡ true
out_some [] o h = absurd h
out_some (x ∷ os) o h = refl

-- the packets of two sets together
both_in : (a b : List Out) → (has_some_out (merged a b) ≡ true) ↔ ((has_some_out a ≡ true) ⊎ (has_some_out b ≡ true))
both_in a b = (
  λ e.
      let o = some_out (merged a b) e in
      ⊎_elim (λ h. inl (out_some a o.0 h)) (λ h. inr (out_some b o.0 h)) (merged_has o.0 a b o.1),
  λ h.
      ⊎_elim
      (λ e. let o = some_out a e in out_some (merged a b) o.0 (merged_left o.0 a b o.1))
      (λ e. let o = some_out b e in out_some (merged a b) o.0 (merged_right o.0 a b o.1))
      h,
)

-- what stands under a set in one entry more
under_more : (st : StoreState) (before : List (ℕ × ℕ)) (s p k : ℕ) (x : List ℕ) →
    Under st (before ++ (s, p) ∷ []) k x ↔ (Under st before k x ⊎ ((s ≡ k) × (is_in st p x ≡ true)))
under_more st [] s p k x = (λ h. ⊎_elim (λ e. inr e) (λ n. absurd n) h, λ h. ⊎_elim (λ n. absurd n) (λ e. inl e) h)
under_more st (e ∷ before) s p k x =
    let r = under_more st before s p k x in (
      λ h. ⊎_elim (λ a. inl (inl a)) (λ b. ⊎_elim (λ c. inl (inr c)) (λ d. inr d) (r.0 b)) h,
      λ h. ⊎_elim (λ a. ⊎_elim (λ c. inl c) (λ d. inr (r.1 (inl d))) a) (λ b. inr (r.1 (inr b))) h,
    )

-- an entry is put in
pub entry_put : (base st new : StoreState) (before : List (ℕ × ℕ)) (all longer : List ℕ) (s p d : ℕ) → Grows base st → Grows st new → IsId base p → s < length all →
    HasLeaves new d (λ pk. merged (look st (get_or all s 0) pk) (look st p pk)) → longer ≡ set all s d → AreUnder base st before all → AreUnder base new (before ++ (s, p) ∷ []) longer
entry_put base st new before all longer s p d first then id lt made is k =
    subst (AreUnder base new (before ++ (s, p) ∷ [])) (sym is)
    record {
      ids = λ i less. by_id i (subst (λ n. i < n) (length-set all s d) less) (numbers_decided i s);
      under = λ i x less w. by i x (subst (λ n. i < n) (length-set all s d) less) w (numbers_decided i s);
    }
  where
    by_id : (i : ℕ) → i < length all → (i ≡ s) ⊎ (i ≡ s → ⊥) → IsId new (get_or (set all s d) i 0)
    by_id i less (inl e) = subst (IsId new) (sym (ap (λ n. get_or (set all s d) n 0) e ∙ get_or-set_same all s d 0 lt)) made.id
    by_id i less (inr ne) = subst (IsId new) (sym (get_or-set_other all s i d 0 ne)) (then.ids (get_or all i 0) (k.ids i less))

    by : (i : ℕ) (x : List ℕ) → i < length all → IsWhole x → (i ≡ s) ⊎ (i ≡ s → ⊥) → (is_in new (get_or (set all s d) i 0) x ≡ true) ↔ Under base (before ++ (s, p) ∷ []) i x
    by i x less w (inl e) =
        let here : is_in new (get_or (set all s d) i 0) x ≡ has_some_out (merged (look st (get_or all s 0) x) (look st p x)) =
        ap (λ n. is_in new n x) (ap (λ n. get_or (set all s d) n 0) e ∙ get_or-set_same all s d 0 lt) ∙ ap has_some_out (made.leaf x w) in
        let more = under_more base before s p i x in
        let two = both_in (look st (get_or all s 0) x) (look st p x) in
        let old = k.under s x lt w in
        let same : is_in st p x ≡ is_in base p x = ap has_some_out (first.leaves p x id) in (
          λ h. more.1 (⊎_elim (λ a. inl (subst (λ n. Under base before n x) (sym e) (old.0 a))) (λ b. inr (sym e, sym same ∙ b)) (two.0 (sym here ∙ h))),
          λ h. here ∙ two.1 (⊎_elim (λ a. inl (old.1 (subst (λ n. Under base before n x) e a))) (λ b. inr (same ∙ b.1)) (more.0 h)),
        )
    by i x less w (inr ne) =
        let here : is_in new (get_or (set all s d) i 0) x ≡ is_in st (get_or all i 0) x =
        ap (λ n. is_in new n x) (get_or-set_other all s i d 0 ne) ∙ ap has_some_out (then.leaves (get_or all i 0) x (k.ids i less)) in
        let more = under_more base before s p i x in
        let old = k.under i x less w in (
          λ h. more.1 (inl (old.0 (sym here ∙ h))),
          λ h. here ∙ ⊎_elim (λ a. old.1 a) (λ b. absurd (ne (sym b.0))) (more.0 h),
        )

-- what holds of each entry holds of the one at a place
pub each_at : (P : ℕ × ℕ → Type 0) (xs : List (ℕ × ℕ)) (i : ℕ) (d : ℕ × ℕ) → EachPair P xs → i < length xs → P (get_or xs i d)
each_at P [] i d e lt = absurd (omega (arith, lt))
each_at P (x ∷ xs) zero d e lt = e.0
each_at P (x ∷ xs) (suc i) d e lt = each_at P xs i d e.1 (omega (arith, lt))

-- one entry of a level more
pub level_more : (base old st new : StoreState) (before level : List (ℕ × ℕ)) (i s p : ℕ) (first all more : List ℕ) → i < length level → (s, p) ≡ get_or level i (0, 0) →
    AreUnder base new ((before ++ take i level) ++ (s, p) ∷ []) more → AreUnder base new (before ++ take (i + 1) level) more
level_more base old st new before level i s p first all more lt at k =
    subst (λ l. AreUnder base new l more)
    (append_assoc before (take i level) ((s, p) ∷ []) ∙ ap (λ e. before ++ (take i level ++ e ∷ [])) at ∙ ap (λ l. before ++ l) (sym (take_more level i (0, 0) lt)))
    k

-- the entries of levels after others
entries_append : (a b : List (List (ℕ × ℕ))) → entries_of (a ++ b) ≡ entries_of a ++ entries_of b
entries_append [] b = refl
entries_append (l ∷ a) b = ap (λ q. l ++ q) (entries_append a b) ∙ sym (append_assoc l (entries_of a) (entries_of b))

-- one level more
pub levels_more : (base st : StoreState) (levels : List (List (ℕ × ℕ))) (i : ℕ) (level : List (ℕ × ℕ)) (all : List ℕ) → i < length levels → level ≡ get_or levels i level →
    AreUnder base st (entries_of (take i levels) ++ level) all → AreUnder base st (entries_of (take (i + 1) levels)) all
levels_more base st levels i level all lt at k =
    subst (λ l. AreUnder base st l all)
    (ap (λ l. entries_of (take i levels) ++ l) (sym (append-nil level)) ∙ sym (entries_append (take i levels) (level ∷ [])) ∙ ap (λ l. entries_of (take i levels ++ l ∷ [])) at ∙ ap (λ l. entries_of l) (sym (take_more levels i level lt)))
    k

-- what stands under a set in entries after others
under_either : (st : StoreState) (xs ys : List (ℕ × ℕ)) (k : ℕ) (x : List ℕ) → Under st (xs ++ ys) k x ↔ (Under st xs k x ⊎ Under st ys k x)
under_either st [] ys k x = (λ h. inr h, λ h. ⊎_elim (λ n. absurd n) (λ b. b) h)
under_either st (e ∷ xs) ys k x =
    let r = under_either st xs ys k x in (
      λ h. ⊎_elim (λ a. inl (inl a)) (λ b. ⊎_elim (λ c. inl (inr c)) (λ d. inr d) (r.0 b)) h,
      λ h. ⊎_elim (λ a. ⊎_elim (λ c. inl c) (λ d. inr (r.1 (inl d))) a) (λ b. inr (r.1 (inr b))) h,
    )

-- in all levels, in one of them
under_some : (st : StoreState) (levels : List (List (ℕ × ℕ))) (k : ℕ) (x : List ℕ) → Under st (entries_of levels) k x ↔ ((j : ℕ) × Under st (get_or levels j []) k x)
under_some st [] k x = (λ h. absurd h, λ h. absurd (none h.0 h.1))
  where
    none : (j : ℕ) → Under st (get_or [] j []) k x → ⊥
    none zero h = h
    none (suc j) h = h
under_some st (l ∷ levels) k x =
    let e = under_either st l (entries_of levels) k x in
    let r = under_some st levels k x in (
      λ h. ⊎_elim (λ a. (0, a)) (λ b. let q = r.0 b in (suc q.0, q.1)) (e.0 h),
      λ h. e.1 (by r.1 h.0 h.1),
    )
  where
    by : (((j : ℕ) × Under st (get_or levels j []) k x) → Under st (entries_of levels) k x) → (j : ℕ) → Under st (get_or (l ∷ levels) j []) k x → Under st l k x ⊎ Under st (entries_of levels) k x
    by more zero h = inl h
    by more (suc j) h = inr (more (j, h))

-- a set under which something stands is one of the known ones
under_known : (st : StoreState) (n : ℕ) (l : List (ℕ × ℕ)) (k : ℕ) (x : List ℕ) → ((e : ℕ × ℕ) → In l e → e.0 < n) → Under st l k x → k < n
under_known st n [] k x h u = absurd u
under_known st n (e ∷ l) k x h u = ⊎_elim (λ a. subst (λ m. m < n) a.0 (h e (inl refl))) (λ b. under_known st n l k x (λ q i. h q (inr i)) b) u

-- in each level
level_known : (st : StoreState) (n : ℕ) (levels : List (List (ℕ × ℕ))) (j k : ℕ) (x : List ℕ) → All (λ l. All (λ (e : ℕ × ℕ). e.0 < n) l) levels → Under st (get_or levels j []) k x → k < n
level_known st n levels j k x all u = by levels j (λ l i. members_from_all (λ l. All (λ (e : ℕ × ℕ). e.0 < n) l) levels all l i) u
  where
    by : (ls : List (List (ℕ × ℕ))) (j : ℕ) → ((l : List (ℕ × ℕ)) → In ls l → All (λ (e : ℕ × ℕ). e.0 < n) l) → Under st (get_or ls j []) k x → k < n
    by [] j h u = absurd (none j u)
      where
        none : (j : ℕ) → Under st (get_or [] j []) k x → ⊥
        none zero h = h
        none (suc j) h = h
    by (l ∷ ls) zero h u = under_known st n l k x (λ e i. members_from_all (λ (e : ℕ × ℕ). e.0 < n) l (h l (inl refl)) e i) u
    by (l ∷ ls) (suc j) h u = by ls j (λ q i. h q (inr i)) u

-- the diagram by the number of a set has what some level has under a set with its members
pub set_met : (base st : StoreState) (ss more : List (List ℕ)) (levels : List (List (ℕ × ℕ))) (by_set : List ℕ) (e : ℕ) (labels : List ℕ) → SetsGrow ss more → HasEachSetOnce more → length by_set ≡ length more →
    All (λ l. All (λ (e : ℕ × ℕ). e.0 < length ss) l) levels → IsSetOf more e labels → AreUnder base st (entries_of levels) by_set → AreMet base ss levels labels st (get_or by_set e 0)
set_met base st ss more levels by_set e labels grew differ many known is k =
    let here : e < length by_set = subst (λ n. e < n) (sym many) is.within in
    record {
      id = k.ids e here;
      met = λ x w.
          let u = k.under e x here w in
          let some = under_some base levels e x in (
            λ h.
                let q = some.0 (u.0 h) in
                let lt = level_known base (length ss) levels q.0 e x known q.1 in
                (q.0, (e, sym (kept e lt) ∙ is.members, q.1)),
            λ h.
                let l = h.1 in
                let lt = level_known base (length ss) levels h.0 l.0 x known l.2 in
                let one : l.0 ≡ e = differ l.0 e (inside l.0 lt) is.within (kept l.0 lt ∙ l.1 ∙ sym is.members) in
                u.1 (some.1 (h.0, subst (λ n. Under base (get_or levels h.0 []) n x) one l.2)),
          );
    }
  where
    kept : (i : ℕ) → i < length ss → get_or more i [] ≡ get_or ss i []
    kept i lt = ap (λ (l : List (List ℕ)). get_or l i []) grew.1 ∙ get_or_append_left ss grew.0 [] i lt

    inside : (i : ℕ) → i < length ss → i < length more
    inside i lt = longer (ap (λ (l : List (List ℕ)). length l) grew.1 ∙ length-append ss grew.0)
      where
        longer : length more ≡ length ss + length grew.0 → i < length more
        longer e = omega (arith, e, lt)

-- labels that rise rise with one more each
pub rising_raised : (xs : List ℕ) → Rising xs → Rising (map (λ l. l + 1) xs)
rising_raised [] r = tt
rising_raised (x ∷ xs) r = (
  λ y i. let m = from_mapped (λ l. l + 1) xs y i in let lt = r.0 m.0 m.1 in omega (arith, lt, m.2),
  rising_raised xs r.1,
)

pub after_increasing : (xs labels : List ℕ) → IsStrictlyIncreasing xs → labels ≡ labels_after xs → IsStrictlyIncreasing labels
after_increasing xs labels h is = subst IsStrictlyIncreasing (sym is) (increasing_from (labels_after xs) (rising_raised xs (rising_from xs h)))

-- the element after a list
append_at : (xs : List ℕ) (y : ℕ) → get_or (xs ++ y ∷ []) (length xs) 0 ≡ y
append_at [] y = refl
append_at (x ∷ xs) y = append_at xs y

-- one more set after a tag's
pub following_more : (first ss more : List (List ℕ)) (tags : List ℕ) (i s b : ℕ) (all longer : List ℕ) → SetsGrow first ss → SetsGrow ss more → All (λ n. n < length first) tags → i < length tags →
    s ≡ get_or tags i s → IsSetOf more b (labels_after (get_or ss s [])) → length all ≡ i → longer ≡ all ++ b ∷ [] →
    ((k : ℕ) → k < i → IsSetOf ss (get_or all k 0) (labels_after (set_of_tag first tags k))) → (k : ℕ) → k < i + 1 → IsSetOf more (get_or longer k 0) (labels_after (set_of_tag first tags k))
following_more first ss more tags i s b all longer g h known lt at one many is k j less = by (numbers_decided j i)
  where
    by : (j ≡ i) ⊎ (j ≡ i → ⊥) → IsSetOf more (get_or longer j 0) (labels_after (set_of_tag first tags j))
    by (inl e) =
        let here : get_or longer j 0 ≡ b = ap (λ (l : List ℕ). get_or l j 0) is ∙ ap (λ n. get_or (all ++ b ∷ []) n 0) (e ∙ sym many) ∙ append_at all b in
        let tag : s ≡ get_or tags j 0 = at ∙ get_or_default tags i s 0 lt ∙ ap (λ n. get_or tags n 0) (sym e) in
        let inside : j < length tags = subst (λ n. n < length tags) (sym e) lt in
        let set : get_or ss s [] ≡ set_of_tag first tags j = ap (λ n. get_or ss n []) tag ∙ set_kept first ss (get_or tags j 0) g (known j 0 inside) in
        subst (λ n. IsSetOf more n (labels_after (set_of_tag first tags j))) (sym here) (subst (λ l. IsSetOf more b (labels_after l)) set one)
    by (inr ne) =
        let low : j < i = omega (arith, less, ne) in
        let inside : j < length all = omega (arith, low, many) in
        let old = k j low in
        let here : get_or longer j 0 ≡ get_or all j 0 = ap (λ (l : List ℕ). get_or l j 0) is ∙ get_or_append_left all (b ∷ []) 0 j inside in
        let wide = sets_longer ss more h in
        subst (λ n. IsSetOf more n (labels_after (set_of_tag first tags j))) (sym here)
        record { within = omega (arith, old.within, wide); members = set_kept ss more (get_or all j 0) h old.within ∙ old.members }
