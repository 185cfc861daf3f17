-- One tag more is put into a class.
use Rattle.std.proofs.Common.{◌≡◌, ℕ, suc, ◌+◌, ◌<◌, ◌≤◌, Bool, true, false, cond, eqb, Some, List, [], ◌∷◌, ◌++◌, length, get_or, sym, ap, subst, ◌∙◌, arith}
use Rattle.std.specs.Prelude.{slice_index, All}
use Rattle.std.specs.Map.{lookup}
use Rattle.std.proofs.lemmas.List.{get_or_default, append-nil}
use Rattle.nk_store.specs.StoreState.{StoreState, Grows}
use Rattle.nk_determ.specs.Sets.{SetsGrow}
use Rattle.nk_determ.specs.Pairs.{AreLabelsBelow, AreStates}
use Rattle.nk_store.proofs.Stores.{grows_on}
use Rattle.nk_determ.proofs.Interned.{sets_on}
use Rattle.nk_goal.proofs.Growing.{sets_same, sets_known, states_grow}
use Rattle.nk_merge.specs.Alike.{labels_after, tag_set, AreAlike, AreTagsAlike}
use Rattle.nk_merge.specs.Classes.{AreClasses, AreFirsts, with_first_member}
use Rattle.nk_merge.proofs.Growing.{alike_on, alike_back}
use Rattle.nk_merge.specs.Seen.{DoesTogether, IsSeenAt, AreSeenDiagrams}
use Rattle.nk_reach.proofs.OneSided.{table_put}
use Rattle.nk_merge.proofs.Numbering.{before, last_is, longer, next_classes, next_firsts}
use Rattle.nk_merge.proofs.Seeing.{does_on, seen_on, seen_longer, seen_one}
use Rattle.nk_merge.proofs.Lawful.{tags_equivalence}

module _ (old mid : StoreState) (ss more : List (List ℕ)) (states : List ℕ) (s t : ℕ) (g : Grows old mid) (sets : SetsGrow ss more) (ok : AreStates old states)
    (ks : s < length ss) (kt : t < length ss) (sp : AreLabelsBelow (length states) (labels_after (get_or ss s []))) (tp : AreLabelsBelow (length states) (labels_after (get_or ss t []))) where
  -- two sets have the labels that they had
  first_set_same : get_or more s [] ≡ get_or ss s []
  first_set_same = sets_same ss more s sets ks

  second_set_same : get_or more t [] ≡ get_or ss t []
  second_set_same = sets_same ss more t sets kt

  -- so they are alike exactly where they were
  pub sets_alike_back : AreAlike mid states (labels_after (get_or more s [])) (labels_after (get_or more t [])) → AreAlike old states (labels_after (get_or ss s [])) (labels_after (get_or ss t []))
  sets_alike_back h =
      alike_back old mid states g ok (labels_after (get_or ss s [])) (labels_after (get_or ss t [])) sp tp
      (subst (λ (z : List ℕ). AreAlike mid states (labels_after z) (labels_after (get_or ss t []))) first_set_same
      (subst (λ (z : List ℕ). AreAlike mid states (labels_after (get_or more s [])) (labels_after z)) second_set_same h))

  pub sets_alike_on : AreAlike old states (labels_after (get_or ss s [])) (labels_after (get_or ss t [])) → AreAlike mid states (labels_after (get_or more s [])) (labels_after (get_or more t []))
  sets_alike_on h =
      subst (λ (z : List ℕ). AreAlike mid states (labels_after z) (labels_after (get_or more t []))) (sym first_set_same)
      (subst (λ (z : List ℕ). AreAlike mid states (labels_after (get_or ss s [])) (labels_after z)) (sym second_set_same)
      (alike_on old mid states g ok (labels_after (get_or ss s [])) (labels_after (get_or ss t [])) sp tp h))

-- first members are tags
pub firsts_within : (numbers firsts : List ℕ) (i count : ℕ) → AreFirsts numbers firsts → length numbers ≡ i → i < count → All (λ k. k < count) firsts
firsts_within numbers firsts i count f len lt c d less = from (get_or firsts c d) (slice_index firsts c) same (f.member c less).0
  where
    same : get_or firsts c d ≡ slice_index firsts c
    same = get_or_default firsts c d 0 less

    from : (a b : ℕ) → a ≡ b → b < length numbers → a < count
    from a b e within = omega (arith, e, within, len, lt)

-- there are no more first members than tags
pub few_firsts : (firsts new : List ℕ) (i c : ℕ) → new ≡ with_first_member firsts i c → length firsts ≤ i → length new ≤ i + 1
few_firsts firsts new i c e le = by (eqb c (length firsts)) e
  where
    by : (b : Bool) → new ≡ cond b (firsts ++ i ∷ []) firsts → length new ≤ i + 1
    by true is = let l = ap length is ∙ longer firsts i in omega (arith, l, le)
    by false is = let l = ap length is in omega (arith, l, le)

module _ (st : StoreState) (states : List ℕ) (ss : List (List ℕ)) (tags : List ℕ) (i : ℕ) (numbers firsts more_numbers more_firsts : List ℕ) (c : ℕ)
    (k : AreClasses (AreTagsAlike st states ss tags) i numbers) (f : AreFirsts numbers firsts) (le : c ≤ length firsts)
    (yes : c < length firsts → AreTagsAlike st states ss tags (slice_index firsts c) i) (none : c ≡ length firsts → (b : ℕ) → b < c → AreTagsAlike st states ss tags (slice_index firsts b) i → ⊥)
    (numbers_are : more_numbers ≡ numbers ++ suc c ∷ []) (firsts_are : more_firsts ≡ with_first_member firsts i c) where
  pub classes_more : AreClasses (AreTagsAlike st states ss tags) (suc i) more_numbers
  classes_more =
      subst (λ v. AreClasses (AreTagsAlike st states ss tags) (suc i) v) (sym numbers_are)
      (next_classes (AreTagsAlike st states ss tags) (tags_equivalence st states ss tags) i numbers firsts k f c le yes none)

  pub firsts_more : AreFirsts more_numbers more_firsts
  firsts_more =
      subst (λ v. AreFirsts v more_firsts) (sym numbers_are)
      (subst (λ v. AreFirsts (numbers ++ suc c ∷ []) v) (sym firsts_are)
      (next_firsts (AreTagsAlike st states ss tags) (tags_equivalence st states ss tags) i numbers firsts k f c le yes none))

-- the first members are those of before, and perhaps one more
firsts_stay : (firsts new : List ℕ) (i c : ℕ) → new ≡ with_first_member firsts i c → (b : ℕ) → b < length firsts → (b < length new) × (slice_index new b ≡ slice_index firsts b)
firsts_stay firsts new i c e b lt = by (eqb c (length firsts)) e
  where
    by : (v : Bool) → new ≡ cond v (firsts ++ i ∷ []) firsts → (b < length new) × (slice_index new b ≡ slice_index firsts b)
    by true is = (
      (let l = ap length is ∙ longer firsts i in omega (arith, l, lt)),
      ap (λ xs. get_or xs b 0) is ∙ before firsts i b lt,
    )
    by false is = ((let l = ap length is in omega (arith, l, lt)), ap (λ xs. get_or xs b 0) is)

module _ (old now mid new : StoreState) (ss sn nss : List (List ℕ)) (states tags numbers firsts nn nf : List ℕ) (i c d : ℕ) (entries after : List (ℕ × ℕ))
    (begun : Grows old now) (further : Grows now mid) (last : Grows mid new) (sets : SetsGrow ss sn) (more : SetsGrow sn nss) (ok : AreStates old states)
    (known : All (λ s. s < length ss) tags) (places : All (λ s. AreLabelsBelow (length states) (labels_after (get_or ss s []))) tags) (lt : i < length tags)
    (f : AreFirsts numbers firsts) (len : length numbers ≡ i)
    (k : AreClasses (AreTagsAlike old states ss tags) (suc i) nn) (nf_are : AreFirsts nn nf) (numbers_are : nn ≡ numbers ++ suc c ∷ []) (firsts_are : nf ≡ with_first_member firsts i c)
    (does : DoesTogether mid states (labels_after (get_or sn (slice_index tags i) [])) d)
    (seen : AreSeenDiagrams now states sn tags firsts entries)
    (put : (q : ℕ) → lookup (eqb q) after ≡ cond (eqb d q) (Some c) (lookup (eqb q) entries)) where
  whole : Grows old new
  whole = grows_on _ _ _ begun (grows_on _ _ _ further last)

  -- the tag's number is that of its class
  numbered : slice_index nn i ≡ suc c
  numbered = ap (λ xs. get_or xs i 0) numbers_are ∙ last_is numbers (suc c) i (sym len)

  class_within : c < length nf
  class_within =
      let less : i < length nn = (let e = ap length numbers_are ∙ longer numbers (suc c) in omega (arith, e, len)) in
      let top = nf_are.all i less in
      omega (arith, top, numbered)

  -- the first tag of that class stands among the tags, and the tag is alike it
  first_at : slice_index nf c < suc i
  first_at = let w = (nf_are.member c class_within).0 in let e = k.one_each in omega (arith, w, e)

  alike_first : AreTagsAlike old states ss tags (slice_index nf c) i
  alike_first =
      let here : i < suc i = omega arith in
      (k.same (slice_index nf c) i first_at here).0 ((nf_are.member c class_within).1 ∙ sym numbered)

  -- in the store as it is now
  alike_now : AreAlike new states (labels_after (tag_set nss tags (slice_index nf c))) (labels_after (get_or nss (slice_index tags i) []))
  alike_now =
      let at : slice_index nf c < length tags = (let w = first_at in omega (arith, w, lt)) in
      sets_alike_on old new ss nss states (slice_index tags (slice_index nf c)) (slice_index tags i) whole (sets_on _ _ _ sets more) ok
      (known (slice_index nf c) 0 at) (known i 0 lt) (places (slice_index nf c) 0 at) (places i 0 lt) alike_first

  -- the tag's set is what it was
  set_then : get_or sn (slice_index tags i) [] ≡ get_or ss (slice_index tags i) []
  set_then = sets_same ss sn (slice_index tags i) sets (known i 0 lt)

  set_now : get_or nss (slice_index tags i) [] ≡ get_or ss (slice_index tags i) []
  set_now = sets_same ss nss (slice_index tags i) (sets_on _ _ _ sets more) (known i 0 lt)

  does_now : DoesTogether new states (labels_after (get_or nss (slice_index tags i) [])) d
  does_now =
      let there : AreLabelsBelow (length states) (labels_after (get_or sn (slice_index tags i) [])) = subst (λ (z : List ℕ). AreLabelsBelow (length states) (labels_after z)) (sym set_then) (places i 0 lt) in
      subst (λ (z : List ℕ). DoesTogether new states (labels_after z) d) (set_then ∙ sym set_now)
      (does_on mid new states (labels_after (get_or sn (slice_index tags i) [])) d last (states_grow old mid states (grows_on _ _ _ begun further) ok) there does)

  -- what was seen, and the new one
  pub seen_next : AreSeenDiagrams new states nss tags nf after
  seen_next =
      table_put (λ q r. IsSeenAt new states nss tags nf q r) d c entries after
      (seen_longer new states nss tags firsts nf entries (firsts_stay firsts nf i c firsts_are)
      (seen_on now new sn nss states tags firsts (grows_on _ _ _ further last) more (states_grow old now states begun ok) known_now places_now entries seen))
      (seen_one new states nss tags nf d c (labels_after (get_or nss (slice_index tags i) [])) class_within does_now alike_now)
      put
    where
      at : (b : ℕ) → b < length firsts → slice_index firsts b < length tags
      at b less = firsts_within numbers firsts i (length tags) f len lt b 0 less

      known_now : (b : ℕ) → b < length firsts → slice_index tags (slice_index firsts b) < length sn
      known_now b less = sets_known ss sn (slice_index tags (slice_index firsts b)) sets (known (slice_index firsts b) 0 (at b less))

      places_now : (b : ℕ) → b < length firsts → AreLabelsBelow (length states) (labels_after (tag_set sn tags (slice_index firsts b)))
      places_now b less =
          subst (λ (z : List ℕ). AreLabelsBelow (length states) (labels_after z)) (sym (sets_same ss sn (slice_index tags (slice_index firsts b)) sets (known (slice_index firsts b) 0 (at b less))))
          (places (slice_index firsts b) 0 (at b less))

-- what was seen before the tag's diagram was made
pub seen_then : (old now mid : StoreState) (ss sn : List (List ℕ)) (states tags numbers firsts given : List ℕ) (i : ℕ) (entries : List (ℕ × ℕ))
    → Grows old now → Grows now mid → SetsGrow ss sn → AreStates old states
    → All (λ s. s < length ss) tags → All (λ s. AreLabelsBelow (length states) (labels_after (get_or ss s []))) tags → i < length tags
    → AreFirsts numbers firsts → length numbers ≡ i → given ≡ firsts → AreSeenDiagrams now states sn tags firsts entries → AreSeenDiagrams mid states sn tags given entries
seen_then old now mid ss sn states tags numbers firsts given i entries begun further sets ok known places lt f len is seen =
    subst (λ (z : List ℕ). AreSeenDiagrams mid states sn tags z entries) (sym is)
    (seen_on now mid sn sn states tags firsts further ([], sym (append-nil sn)) (states_grow old now states begun ok)
    (λ b less. sets_known ss sn (slice_index tags (slice_index firsts b)) sets (known (slice_index firsts b) 0 (firsts_within numbers firsts i (length tags) f len lt b 0 less)))
    (λ b less.
    subst (λ (z : List ℕ). AreLabelsBelow (length states) (labels_after z)) (sym (sets_same ss sn (slice_index tags (slice_index firsts b)) sets (known (slice_index firsts b) 0 (firsts_within numbers firsts i (length tags) f len lt b 0 less))))
    (places (slice_index firsts b) 0 (firsts_within numbers firsts i (length tags) f len lt b 0 less)))
    entries seen)
