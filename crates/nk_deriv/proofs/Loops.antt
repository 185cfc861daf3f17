-- The loops over the parts of sums and sequences, and the whole list of rests.
use Rattle.std.proofs.Common.{◌≡◌, ℕ, zero, suc, ◌+◌, ◌-◌, ◌^◌, ◌<◌, ◌≤◌, true, false, inl, ⊎_elim, List, [], ◌∷◌, ◌++◌, All, length, get_or, drop, append_assoc, append-nil, refl, sym, ap, subst, ◌∙◌, arith}
use Rattle.std.specs.Prelude.{map, if◌then◌else◌}
use Rattle.std.proofs.lemmas.List.{drop_all}
use Rattle.std.proofs.lemmas.List.Elements.{All-nil, All-weaker}
use Rattle.nk_field.specs.Packet.{IsValue}
use Rattle.nk_policy.specs.declared.policy.Pol.{Pol}
use Rattle.nk_policy.specs.Policy.{Policy, Policies, sum_of, seq_of, not_of, star_of, link, no_part, part, dups_of, dups_of_all, numbers_of, numbers_of_all, marked_from, all_marked_from, MarksBelow, AllMarksBelow}
use Rattle.nk_policy.specs.Tree.{tree_of, trees_of}
use Rattle.nk_policy.specs.Meaning.{Gives}
use Rattle.nk_policy.specs.After.{id_policy, has_dup, some_has_dup, after, after_some, after_all}
use Rattle.nk_policy.specs.Distinct.{AllDistinct}
use Rattle.nk_policy.proofs.Tests.{or_left, or_right}
use Rattle.nk_policy.proofs.Steps.{left_is}
use Rattle.nk_policy.proofs.Remade.{numbers_are}
use Rattle.nk_policy.proofs.DupsOfRuns.{rest_dups}
use Rattle.nk_policy.proofs.Uses.{rest_uses}
use Rattle.nk_deriv.specs.declared.values.Part.{Part}
use Rattle.nk_deriv.specs.Part.{AllNegatePredicates, IsBuiltOf, IsLegOf, IsWithin, LegsGive, IsPartOfDerivative}
use Rattle.nk_deriv.specs.Turns.{IsPlacedIn, ArePartsOf, IsSequencedBefore, IsFollowed, AreRests}
use Rattle.nk_deriv.proofs.Silent.{none_ends}
use Rattle.nk_deriv.proofs.Steps.{made_id}
use Rattle.nk_deriv.proofs.Collected.{in_itself, within_in}
use Rattle.nk_deriv.proofs.Rests.{rests_none, rests_joined, rests_as, rests_silent, followed_seq, no_dups}

-- what is asked of the parts that are left
pub record AreFit (left : Policies) : Type 0 where
  pub distinct : AllDistinct left
  pub complements : AllNegatePredicates left
  pub fit : AllMarksBelow left (2 ^ 32 - 1)

-- the entries so far are those of the parts before the ones that are left
pub record IsResting (old out : List (ℕ × Part)) (next : Part) (rest : Policies → ℕ → Policy)
    (left all : Policies) : Type 0 where
  pub done : List ℕ
  pub rests : AreRests old out (rest all) done next
  pub labels : done ++ numbers_of_all left ≡ numbers_of_all all
  pub agree : (l : ℕ) → some_has_dup left l ≡ true → rest left l ≡ rest all l
  pub fit : AreFit left

-- at first all parts are left
pub resting_none : (old : List (ℕ × Part)) (next : Part) (rest : Policies → ℕ → Policy) (all : Policies)
    → AreFit all → IsResting old old next rest all all
resting_none old next rest all f = record {
  done = [];
  rests = rests_none old (rest all) next;
  labels = refl;
  agree = λ l h. refl;
  fit = f;
}

-- one more part
resting_one : (old out new : List (ℕ × Part)) (next : Part) (rest : Policies → ℕ → Policy) (p : Policy) (left all : Policies)
    → ((l : ℕ) → has_dup p l ≡ false → rest (part p left) l ≡ rest left l)
    → AreRests out new (rest (part p left)) (numbers_of p) next
    → IsResting old out next rest (part p left) all → IsResting old new next rest left all
resting_one old out new next rest p left all skip more inv = record {
  done = inv.done ++ numbers_of p;
  rests = rests_joined old out new (rest all) inv.done (numbers_of p) next inv.rests
      (rests_as out new (rest (part p left)) (rest all) (numbers_of p) next next
      (λ l r h f. subst (λ s. IsFollowed r s next) (inv.agree l (or_left (has_dup p l) (some_has_dup left l) ((numbers_are p l).0 h))) f)
      more);
  labels = append_assoc inv.done (numbers_of p) (numbers_of_all left) ∙ inv.labels;
  agree = λ l h.
      sym (skip l (inv.fit.distinct.2 l h)) ∙ inv.agree l (or_right (has_dup p l) (some_has_dup left l) h);
  fit = record { distinct = inv.fit.distinct.1; complements = inv.fit.complements.1; fit = inv.fit.fit.1 };
}

-- one more part of a sum
sum_one : (old out new : List (ℕ × Part)) (next : Part) (p : Policy) (left all : Policies)
    → AreRests out new (after p) (numbers_of p) next
    → IsResting old out next after_some (part p left) all → IsResting old new next after_some left all
sum_one old out new next p left all more inv =
    resting_one old out new next after_some p left all
    (λ l h. ap (λ b. if b then after p l else after_some left l) h)
    (rests_as out new (after p) (after_some (part p left)) (numbers_of p) next next
    (λ l r h f. subst (λ b. IsFollowed r (if b then after p l else after_some left l) next) (sym ((numbers_are p l).0 h)) f)
    more)
    inv

-- of a sequence, the part that goes on being that of the parts after it and then of the next
seq_one : (old out new : List (ℕ × Part)) (next following : Part) (states : List Part) (p : Policy) (left all : Policies)
    → ArePartsOf states left → IsSequencedBefore following states next
    → AreRests out new (after p) (numbers_of p) following
    → IsResting old out next after_all (part p left) all → IsResting old new next after_all left all
seq_one old out new next following states p left all h c more inv =
    resting_one old out new next after_all p left all
    (λ l g. ap (λ b. if b then seq_of (part (after p l) left) else after_all left l) g)
    (rests_as out new (after p) (after_all (part p left)) (numbers_of p) following next
    (λ l r g f.
    subst (λ b. IsFollowed r (if b then seq_of (part (after p l) left) else after_all left l) next) (sym ((numbers_are p l).0 g))
    (followed_seq r following next (after p l) states left c h f))
    more)
    inv

-- a part without dups
silent_one : (old out new : List (ℕ × Part)) (next : Part) (rest : Policies → ℕ → Policy) (p : Policy) (left all : Policies)
    → ((l : ℕ) → has_dup p l ≡ false → rest (part p left) l ≡ rest left l)
    → dups_of p ≡ 0 → new ≡ out
    → IsResting old out next rest (part p left) all → IsResting old new next rest left all
silent_one old out new next rest p left all skip none e inv =
    resting_one old out new next rest p left all skip
    (rests_silent out new (rest (part p left)) (numbers_of p) next e (no_dups p none))
    inv

-- the loop over a sum, after one more part
pub sum_next : (old out new : List (ℕ × Part)) (next : Part) (q : Pol) (xs : List Pol) (i : ℕ)
    → i < length xs → q ≡ get_or xs i q
    → AreRests out new (after (tree_of q)) (numbers_of (tree_of q)) next
    → IsResting old out next after_some (trees_of (drop i xs)) (trees_of xs)
    → IsResting old new next after_some (trees_of (drop (i + 1) xs)) (trees_of xs)
sum_next old out new next q xs i lt is more inv =
    sum_one old out new next (tree_of q) (trees_of (drop (i + 1) xs)) (trees_of xs) more
    (subst (λ l. IsResting old out next after_some (trees_of l) (trees_of xs)) (left_is xs i q lt is) inv)

-- the parts of what is left
pub parts_from : (states : List Part) (xs : List Pol) (k : ℕ) → ArePartsOf states (trees_of xs)
    → ArePartsOf (drop k states) (trees_of (drop k xs))
parts_from states xs zero h = h
parts_from [] [] (suc k) h = tt
parts_from [] (x ∷ xs) (suc k) h = absurd h
parts_from (s ∷ states) [] (suc k) h = absurd h
parts_from (s ∷ states) (x ∷ xs) (suc k) h = parts_from states xs k h.1

-- there are as many
pub parts_many : (states : List Part) (xs : List Pol) → ArePartsOf states (trees_of xs) → length states ≡ length xs
parts_many [] [] h = refl
parts_many [] (x ∷ xs) h = absurd h
parts_many (s ∷ states) [] h = absurd h
parts_many (s ∷ states) (x ∷ xs) h = ap suc (parts_many states xs h.1)

-- the loop over a sequence, after one more part
pub seq_next : (old out new : List (ℕ × Part)) (next following : Part) (states followings : List Part) (q : Pol) (xs : List Pol) (i : ℕ)
    → i < length xs → q ≡ get_or xs i q → ArePartsOf states (trees_of xs) → followings ≡ drop (i + 1) states
    → IsSequencedBefore following followings next
    → AreRests out new (after (tree_of q)) (numbers_of (tree_of q)) following
    → IsResting old out next after_all (trees_of (drop i xs)) (trees_of xs)
    → IsResting old new next after_all (trees_of (drop (i + 1) xs)) (trees_of xs)
seq_next old out new next following states followings q xs i lt is h e c more inv =
    seq_one old out new next following (drop (i + 1) states) (tree_of q) (trees_of (drop (i + 1) xs)) (trees_of xs)
    (parts_from states xs (i + 1) h) (subst (λ b. IsSequencedBefore following b next) e c) more
    (subst (λ l. IsResting old out next after_all (trees_of l) (trees_of xs)) (left_is xs i q lt is) inv)

-- after a part without dups
pub seq_silent : (old out new : List (ℕ × Part)) (next : Part) (q : Pol) (xs : List Pol) (i : ℕ)
    → i < length xs → q ≡ get_or xs i q → dups_of (tree_of q) ≡ 0 → new ≡ out
    → IsResting old out next after_all (trees_of (drop i xs)) (trees_of xs)
    → IsResting old new next after_all (trees_of (drop (i + 1) xs)) (trees_of xs)
seq_silent old out new next q xs i lt is none e inv =
    silent_one old out new next after_all (tree_of q) (trees_of (drop (i + 1) xs)) (trees_of xs)
    (λ l g. ap (λ b. if b then seq_of (part (after (tree_of q) l) (trees_of (drop (i + 1) xs))) else after_all (trees_of (drop (i + 1) xs)) l) g)
    none e
    (subst (λ l. IsResting old out next after_all (trees_of l) (trees_of xs)) (left_is xs i q lt is) inv)

-- where no part is left
pub resting_done : (old out : List (ℕ × Part)) (next : Part) (rest : Policies → ℕ → Policy) (xs : List Pol) (i : ℕ)
    → length xs ≤ i → IsResting old out next rest (trees_of (drop i xs)) (trees_of xs)
    → AreRests old out (rest (trees_of xs)) (numbers_of_all (trees_of xs)) next
resting_done old out next rest xs i le h =
    let inv : IsResting old out next rest no_part (trees_of xs) = subst (λ l. IsResting old out next rest (trees_of l) (trees_of xs)) (drop_all i xs le) h in
    subst (λ ls. AreRests old out (rest (trees_of xs)) ls next) (sym (append-nil inv.done) ∙ inv.labels) inv.rests

-- followed by the end alone
pub part_of_rest : (r end : Part) (s : Policy) → tree_of end.free ≡ id_policy → end.legs ≡ [] → IsFollowed r s end → IsPartOfDerivative r s
part_of_rest r end s e f h = record {
  ends = λ pk x. (
    λ g.
        let t = (h.ends pk x).0 g in
        let is : x ≡ t.0 = (none_ends t.0 x).0 (subst (λ q. Gives q t.0 [] x) e t.2) in
        subst (λ z. Gives s pk [] z) (sym is) t.1,
    λ g. (h.ends pk x).1 (x, g, subst (λ q. Gives q x [] x) (sym e) ((none_ends x x).1 refl)),
  );
  records = λ pk y l. (
    λ g.
        ⊎_elim
        (λ a. a)
        (λ a. absurd (subst (λ legs. LegsGive legs a.0 y l) f a.2))
        ((h.records pk y l).0 g),
    λ g. (h.records pk y l).1 (inl g),
  );
  within = h.within s (in_itself s) record {
    free = subst (IsBuiltOf s) (sym e) (made_id s);
    legs = subst (All (IsLegOf s)) (sym f) (All-nil (IsLegOf s));
  };
}

-- what is left of a policy is in the policy
pub in_rest : (p : Policy) (l : ℕ) → IsPlacedIn p (after p l)
in_rest p l = record { over = λ fields h. rest_uses (IsValue fields) p l h; dups = λ k h. rest_dups p l k h }

-- the entries are the parts of what is left
pub parts_of_rests : (out : List (ℕ × Part)) (end : Part) (p : Policy) → tree_of end.free ≡ id_policy → end.legs ≡ []
    → AreRests [] out (after p) (numbers_of p) end
    → (map (λ e. e.0) out ≡ numbers_of p) × All (λ e. IsPartOfDerivative e.1 (after p e.0)) out × All (λ e. IsWithin p e.1) out
parts_of_rests out end p e f h =
    let parts : All (λ t. IsPartOfDerivative t.1 (after p t.0)) h.added =
    All-weaker (λ t. IsFollowed t.1 (after p t.0) end) (λ t. IsPartOfDerivative t.1 (after p t.0)) (λ t g. part_of_rest t.1 end (after p t.0) e f g) h.added h.follow in
    let within : All (λ t. IsWithin p t.1) h.added =
    All-weaker (λ t. IsPartOfDerivative t.1 (after p t.0)) (λ t. IsWithin p t.1) (λ t g. within_in p (after p t.0) t.1 (in_rest p t.0) g.within) h.added parts in
    let is : out ≡ h.added = h.is in
    (ap (map (λ t. t.0)) is ∙ h.labelled, subst (All (λ t. IsPartOfDerivative t.1 (after p t.0))) (sym is) parts, subst (All (λ t. IsWithin p t.1)) (sym is) within)

-- marks that are numbered within 32 bits
mutual
  pub marks_below : (p : Policy) (n most : ℕ) → n + dups_of p ≤ most + 1 → MarksBelow (marked_from p n) most
  marks_below (sum_of ps) n most h = all_marks_below ps n most h
  marks_below (seq_of ps) n most h = all_marks_below ps n most h
  marks_below (not_of p) n most h = marks_below p n most h
  marks_below (star_of p) n most h = marks_below p n most h
  marks_below (link a m b k l) n most h = omega (arith, h)
  marks_below p n most h = tt

  -- of parts
  pub all_marks_below : (ps : Policies) (n most : ℕ) → n + dups_of_all ps ≤ most + 1 → AllMarksBelow (all_marked_from ps n) most
  all_marks_below no_part n most h = tt
  all_marks_below (part p ps) n most h =
      (marks_below p n most (omega (arith, h)), all_marks_below ps (n + dups_of p) most (omega (arith, h)))

-- so a numbered policy's marks are
pub numbered_marks : (p : Policy) (n : ℕ) → n + dups_of p ≤ 2 ^ 32 → marked_from p n ≡ p → MarksBelow p (2 ^ 32 - 1)
numbered_marks p n le e = subst (λ q. MarksBelow q (2 ^ 32 - 1)) e (marks_below p n (2 ^ 32 - 1) le)
