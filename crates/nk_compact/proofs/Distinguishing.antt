-- What tells two classes apart, while the store and the sets grow.
use Rattle.std.proofs.Common.{◌≡◌, ℕ, zero, suc, ◌+◌, ◌<◌, ◌≤◌, ltb, true, false, cond, Option, Some, None, List, [], ◌∷◌, ◌++◌, length, get_or, refl, sym, ap, subst, ◌∙◌, arith, append_assoc, append-nil}
use Rattle.std.specs.Prelude.{slice_index}
use Rattle.std.proofs.lemmas.Bool.Decides.{nat_tests}
use Rattle.nk_store.specs.StoreState.{StoreState, Grows}
use Rattle.nk_store.proofs.Stores.{grows_same, grows_on}
use Rattle.nk_determ.specs.Sets.{SetsGrow}
use Rattle.nk_determ.specs.Pairs.{AreLabelsBelow}
use Rattle.nk_witness.specs.declared.found.Found as declared
use Rattle.nk_goal.proofs.Growing.{states_grow}
use Rattle.nk_group.proofs.Growing.{set_kept, sets_grow_on, known_kept}
use Rattle.nk_group.proofs.Matching.{matched_push}
use Rattle.nk_merge.specs.Alike.{AreAlike, labels_after}
use Rattle.nk_merge.specs.Distinguish.{Distinguishes, IsLeastOfOne}
use Rattle.nk_merge.specs.Classes.{AreFirsts}
use Rattle.nk_merge.proofs.Growing.{alike_back, least_back}
use Rattle.nk_compile.specs.Refusals.{found_from}
use Rattle.nk_compact.specs.declared.compact.DistinguishingHistory.{DistinguishingHistory}
use Rattle.nk_compact.specs.Told.{number_on_side, first_member_set, IsDistinguished, pairs_after, first_pairs, AreDistinguished, IsBase}

module _ (st : StoreState) (states : List ℕ) (ss : List (List ℕ)) (tags firsts : List ℕ) (i j s t : ℕ) (s_is : s ≡ get_or tags (get_or firsts i 0) 0) (t_is : t ≡ get_or tags (get_or firsts j 0) 0) where
  -- in the words of classes
  of_classes : (o : Option declared.Found) → Distinguishes st states (labels_after (get_or ss s [])) (labels_after (get_or ss t [])) o → Distinguishes st states (first_member_set ss tags firsts i) (first_member_set ss tags firsts j) o
  of_classes o k =
      subst (λ q. Distinguishes st states (first_member_set ss tags firsts i) (labels_after (get_or ss q [])) o) t_is
      (subst (λ q. Distinguishes st states (labels_after (get_or ss q [])) (labels_after (get_or ss t [])) o) s_is k)

  -- where nothing is found they are alike
  pub none_alike : (o : Option declared.Found) → o ≡ None → Distinguishes st states (labels_after (get_or ss s [])) (labels_after (get_or ss t [])) o → AreAlike st states (first_member_set ss tags firsts i) (first_member_set ss tags firsts j)
  none_alike o e k = subst (Distinguishes st states (first_member_set ss tags firsts i) (first_member_set ss tags firsts j)) e (of_classes o k)

  -- and what is found is told
  pub some_told : (o : Option declared.Found) (f : declared.Found) → o ≡ Some f → Distinguishes st states (labels_after (get_or ss s [])) (labels_after (get_or ss t [])) o → (a : DistinguishingHistory) →
      a ≡ record { first = i + 1; second = j + 1; alone = number_on_side f.side (i + 1) (j + 1); start = f.start; history = f.history } → IsDistinguished st states ss tags firsts i j a
  some_told o f e k a is =
      let found = subst (Distinguishes st states (first_member_set ss tags firsts i) (first_member_set ss tags firsts j)) e (of_classes o k) in
      subst (IsDistinguished st states ss tags firsts i j) (sym is)
      (record { first_is = omega arith; second_is = omega arith; side = f.side; alone_is = refl; least = found.0 })

module _ (base : StoreState) (first : List (List ℕ)) (st : StoreState) (ss : List (List ℕ)) (states tags firsts : List ℕ) (b : IsBase base first st ss states tags firsts) where
  -- a store that has grown further
  pub base_on : (new : StoreState) (more : List (List ℕ)) → Grows st new → SetsGrow ss more → IsBase base first new more states tags firsts
  base_on new more g s = record {
    grows = grows_on base st new b.grows g;
    sets = sets_grow_on first ss more b.sets s;
    states_are = b.states_are;
    known = b.known;
    places = b.places;
    within = b.within;
  }

  -- a tag's set stays
  tag_kept : (s : ℕ) → s < length first → get_or ss s [] ≡ get_or first s []
  tag_kept s lt = set_kept first ss s b.sets lt

  -- the grown one is one of its own
  pub base_here : IsBase st ss st ss states tags firsts
  base_here = record {
    grows = grows_same st;
    sets = ([], sym (append-nil ss));
    states_are = states_grow base st states b.grows b.states_are;
    known = known_kept first ss tags b.sets b.known;
    places = λ k d lt. subst (λ l. AreLabelsBelow (length states) (labels_after l)) (sym (tag_kept (get_or tags k d) (b.known k d lt))) (b.places k d lt);
    within = b.within;
  }

  -- the set of a first member stays
  first_kept : (i : ℕ) → i < length firsts → first_member_set ss tags firsts i ≡ first_member_set first tags firsts i
  first_kept i lt = ap labels_after (tag_kept (get_or tags (get_or firsts i 0) 0) (b.known (get_or firsts i 0) 0 (b.within i 0 lt)))

  first_places : (i : ℕ) → i < length firsts → AreLabelsBelow (length states) (first_member_set first tags firsts i)
  first_places i lt = b.places (get_or firsts i 0) 0 (b.within i 0 lt)

  -- sets that are alike there were so
  pub alike_then : (i j : ℕ) → i < length firsts → j < length firsts → AreAlike st states (first_member_set ss tags firsts i) (first_member_set ss tags firsts j) → AreAlike base states (first_member_set first tags firsts i) (first_member_set first tags firsts j)
  alike_then i j li lj k =
      alike_back base st states b.grows b.states_are (first_member_set first tags firsts i) (first_member_set first tags firsts j) (first_places i li) (first_places j lj)
      (subst (λ s. AreAlike st states (first_member_set first tags firsts i) s) (first_kept j lj) (subst (λ s. AreAlike st states s (first_member_set ss tags firsts j)) (first_kept i li) k))

  -- what is told there is told of the beginning
  pub told_then : (i j : ℕ) → i < length firsts → j < length firsts → (a : DistinguishingHistory) → IsDistinguished st states ss tags firsts i j a → IsDistinguished base states first tags firsts i j a
  told_then i j li lj a k = record {
    first_is = k.first_is;
    second_is = k.second_is;
    side = k.side;
    alone_is = k.alone_is;
    least =
        least_back base st states b.grows b.states_are (first_member_set first tags firsts i) (first_member_set first tags firsts j) (first_places i li) (first_places j lj) k.side (found_from a.start a.history)
        (subst (λ s. IsLeastOfOne st states (first_member_set first tags firsts i) s k.side (found_from a.start a.history)) (first_kept j lj)
        (subst (λ s. IsLeastOfOne st states s (first_member_set ss tags firsts j) k.side (found_from a.start a.history)) (first_kept i li) k.least));
  }

  -- one more in a row
  pub told_more : (i j : ℕ) → i < j → j < length firsts → (pairs : List (ℕ × ℕ)) (all longer : List DistinguishingHistory) (a : DistinguishingHistory) → IsDistinguished st states ss tags firsts i j a → longer ≡ all ++ a ∷ [] →
      AreDistinguished base states first tags firsts (pairs ++ pairs_after i j) all → AreDistinguished base states first tags firsts (pairs ++ pairs_after i (j + 1)) longer
  told_more i j lt inside pairs all longer a one is k =
      let li : i < length firsts = omega (arith, lt, inside) in
      let less : ltb i j ≡ true = grind (arith, nat_tests, lt) in
      let next : suc j ≡ j + 1 = omega arith in
      let here : pairs_after i (j + 1) ≡ pairs_after i j ++ (i, j) ∷ [] = ap (pairs_after i) (sym next) ∙ ap (λ t. pairs_after i j ++ cond t ((i, j) ∷ []) []) less in
      subst (λ l. AreDistinguished base states first tags firsts l longer) (append_assoc pairs (pairs_after i j) ((i, j) ∷ []) ∙ ap (λ l. pairs ++ l) (sym here))
      (subst (AreDistinguished base states first tags firsts ((pairs ++ pairs_after i j) ++ (i, j) ∷ [])) (sym is)
      (matched_push (λ (q : ℕ × ℕ) (x : DistinguishingHistory). IsDistinguished base states first tags firsts q.0 q.1 x) (pairs ++ pairs_after i j) all (i, j) a k (told_then i j li inside a one)))

-- a row begins after its place
row_none : (i j : ℕ) → j ≤ suc i → pairs_after i j ≡ []
row_none i zero le = refl
row_none i (suc j) le =
    let low : j ≤ suc i = omega (arith, le) in
    let less : ltb i j ≡ false = grind (arith, nat_tests, le) in
    ap (λ l. l ++ cond (ltb i j) ((i, j) ∷ []) []) (row_none i j low) ∙ ap (λ t. cond t ((i, j) ∷ []) []) less

pub row_start : (base : StoreState) (states : List ℕ) (first : List (List ℕ)) (tags firsts : List ℕ) (i : ℕ) (pairs : List (ℕ × ℕ)) (all : List DistinguishingHistory) → AreDistinguished base states first tags firsts pairs all →
    AreDistinguished base states first tags firsts (pairs ++ pairs_after i (i + 1)) all
row_start base states first tags firsts i pairs all k =
    subst (λ l. AreDistinguished base states first tags firsts l all) (sym (ap (λ l. pairs ++ l) (row_none i (i + 1) (omega arith)) ∙ append-nil pairs)) k

-- one row more
pub rows_more : (base : StoreState) (states : List ℕ) (first : List (List ℕ)) (tags firsts : List ℕ) (n i : ℕ) (all : List DistinguishingHistory) → AreDistinguished base states first tags firsts (first_pairs n i ++ pairs_after i n) all →
    AreDistinguished base states first tags firsts (first_pairs n (i + 1)) all
rows_more base states first tags firsts n i all k =
    let next : suc i ≡ i + 1 = omega arith in
    subst (λ m. AreDistinguished base states first tags firsts (first_pairs n m) all) next k

-- the first members of two classes are of two
pub firsts_differ : (classes firsts : List ℕ) → AreFirsts classes firsts → (i j : ℕ) → i < j → j < length firsts → slice_index classes (slice_index firsts i) ≡ slice_index classes (slice_index firsts j) → ⊥
firsts_differ classes firsts k i j lt inside e =
    let a = (k.member i (omega (arith, lt, inside))).1 in
    let b = (k.member j inside).1 in
    omega (arith, lt, a, b, e)
