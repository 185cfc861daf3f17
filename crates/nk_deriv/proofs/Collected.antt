-- The part of each form of policy, from those of what it is made of.
use Rattle.std.proofs.Common.{◌≡◌, ℕ, ◌+◌, ◌<◌, ◌≤◌, true, ◌⊎◌, inl, inr, ⊎_elim, ◌↔◌, List, [], ◌∷◌, ◌++◌, All, length, get_or, take, drop, refl, sym, ap, subst, ◌∙◌}
use Rattle.std.specs.Prelude.{◌==◌}
use Rattle.std.proofs.lemmas.List.{drop_all, take_more}
use Rattle.std.proofs.lemmas.List.Elements.{All-nil, All-cons, All-push, All-weaker}
use Rattle.nk_field.specs.declared.packet.Packet.{Packet}
use Rattle.nk_policy.specs.declared.policy.Pol.{Pol}
use Rattle.nk_policy.specs.Policy.{Policy, Policies, test, range, assign, sum_of, seq_of, not_of, star_of, dup, link, no_part, part, is_predicate, are_predicates}
use Rattle.nk_policy.specs.Tree.{tree_of, trees_of}
use Rattle.nk_policy.specs.Meaning.{Gives}
use Rattle.nk_policy.specs.Progress.{RecordsAt}
use Rattle.nk_policy.specs.After.{id_policy, drop_policy, has_dup, some_has_dup}
use Rattle.nk_policy.specs.declared.policy.Pol.TheViews.{Sum, Seq}
use Rattle.nk_policy.specs.declared.policy.Pols.{Pols}
use Rattle.nk_policy.proofs.Trees.{tree_of_sum, tree_of_seq}
use Rattle.nk_policy.proofs.Tests.{both_true, or_left, or_right, same_number}
use Rattle.nk_policy.proofs.Steps.{left_is}
use Rattle.nk_deriv.specs.declared.values.Part.{Part}
use Rattle.nk_deriv.specs.Part.{NegatesPredicates, AllNegatePredicates, IsDupFree, AllDupFree, IsBuiltOf, IsLegOf, IsWithin, LegsGive, IsPartOfDerivative}
use Rattle.nk_deriv.specs.Turns.{IsPlacedIn, IsEither, IsRounds, ArePutAfter, AllEnd, AllRecord, AreInTurn, IsCollected, ArePartsOf}
use Rattle.nk_deriv.proofs.Silent.{seq_ends, seq_records, none_ends, star_records, star_as, dup_third_ends, dup_third_records}
use Rattle.nk_deriv.proofs.Steps.{made_drop, made_id}
use Rattle.nk_deriv.proofs.Legs.{legs_push}

-- a predicate has no dup, and its complements are of predicates
mutual
  pub predicate_dup_free : (p : Policy) → is_predicate p ≡ true → IsDupFree p
  predicate_dup_free (sum_of ps) h = predicates_dup_free ps h
  predicate_dup_free (seq_of ps) h = predicates_dup_free ps h
  predicate_dup_free (not_of p) h = (h, predicate_dup_free p h)
  predicate_dup_free (star_of p) h = cc
  predicate_dup_free (dup l) h = cc
  predicate_dup_free (link a m b n l) h = cc
  predicate_dup_free p h = tt

  -- nor have parts that are predicates
  pub predicates_dup_free : (ps : Policies) → are_predicates ps ≡ true → AllDupFree ps
  predicates_dup_free no_part h = tt
  predicates_dup_free (part p ps) h =
      let b = both_true (is_predicate p) (are_predicates ps) h in
      (predicate_dup_free p b.0, predicates_dup_free ps b.1)

-- a policy is in itself
pub in_itself : (p : Policy) → IsPlacedIn p p
in_itself p = record { over = λ fields h. h; dups = λ l h. h }

-- the first part of a sequence is in what the sequence is in
pub in_head : (s p : Policy) (ps : Policies) → IsPlacedIn s (seq_of (part p ps)) → IsPlacedIn s p
in_head s p ps i = record {
  over = λ fields h. (i.over fields h).0;
  dups = λ l h. i.dups l (or_left (has_dup p l) (some_has_dup ps l) h);
}

-- and so are the parts after it
pub in_tail : (s p : Policy) (ps : Policies) → IsPlacedIn s (seq_of (part p ps)) → IsPlacedIn s (seq_of ps)
in_tail s p ps i = record {
  over = λ fields h. (i.over fields h).1;
  dups = λ l h. i.dups l (or_right (has_dup p l) (some_has_dup ps l) h);
}

-- what is made of a policy is made of what that is in
pub made_in : (s p q : Policy) → IsPlacedIn s p → IsBuiltOf p q → IsBuiltOf s q
made_in s p q i m = record { dup_free = m.dup_free; over = λ fields h. m.over fields (i.over fields h) }

-- so are legs
legs_in : (s p : Policy) (legs : List (Pol × ℕ)) → IsPlacedIn s p → All (IsLegOf p) legs → All (IsLegOf s) legs
legs_in s p legs i h =
    All-weaker (IsLegOf p) (IsLegOf s) (λ leg r. (made_in s p (tree_of leg.0) i r.0, i.dups leg.1 r.1)) legs h

-- and parts
pub within_in : (s p : Policy) (r : Part) → IsPlacedIn s p → IsWithin p r → IsWithin s r
within_in s p r i w = record { free = made_in s p (tree_of r.free) i w.free; legs = legs_in s p r.legs i w.legs }

-- what is collected from nothing is the part
pub part_is : (r : Part) (p : Policy) → IsCollected [] r.legs (tree_of r.free) p → IsPartOfDerivative r p
part_is r p c =
    let w = c.within p (in_itself p) (All-nil (IsLegOf p)) in
    record {
      ends = c.ends;
      records = λ pk y l. (
        λ g. ⊎_elim (λ a. absurd a) (λ b. b) ((c.records pk y l).0 g),
        λ g. (c.records pk y l).1 (inr g),
      );
      within = record { free = w.0; legs = w.1 };
    }

-- a policy without a dup is its own free policy
pub collected_same : (old new : List (Pol × ℕ)) (free p : Policy) → new ≡ old → free ≡ p → IsDupFree p
    → ((pk y : Packet) (l : ℕ) → RecordsAt p pk [] y l → ⊥) → IsCollected old new free p
collected_same old new free p e f d none =
    let here : IsCollected old old p p = record {
      ends = λ pk x. (λ g. g, λ g. g);
      records = λ pk y l. (λ g. inl g, λ g. ⊎_elim (λ a. a) (λ b. absurd (none pk y l b)) g);
      within = λ s i o. (record { dup_free = d; over = i.over }, o);
    } in
    subst (λ n. IsCollected old n free p) (sym e) (subst (λ q. IsCollected old old q p) (sym f) here)

-- states in turn end where the sequence of their policies does
pub all_end : (states : List Part) (ps : Policies) → ArePartsOf states ps
    → (pk x : Packet) → AllEnd states pk x ↔ Gives (seq_of ps) pk [] x
all_end [] no_part h pk x = (λ g. (none_ends pk x).1 g, λ g. (none_ends pk x).0 g)
all_end [] (part p ps) h pk x = absurd h
all_end (s ∷ states) no_part h pk x = absurd h
all_end (s ∷ states) (part p ps) h pk x = (
  λ g. (seq_ends p ps pk x).1 (g.0, (h.0.ends pk g.0).0 g.1, (all_end states ps h.1 g.0 x).0 g.2),
  λ g.
      let t = (seq_ends p ps pk x).0 g in
      (t.0, (h.0.ends pk t.0).1 t.1, (all_end states ps h.1 t.0 x).1 t.2),
)

-- and record first what it does
pub all_record : (states : List Part) (ps : Policies) → ArePartsOf states ps
    → (pk y : Packet) (l : ℕ) → AllRecord states pk y l ↔ RecordsAt (seq_of ps) pk [] y l
all_record [] no_part h pk y l = (λ g. g, λ g. g)
all_record [] (part p ps) h pk y l = absurd h
all_record (s ∷ states) no_part h pk y l = absurd h
all_record (s ∷ states) (part p ps) h pk y l = (
  λ g.
      (seq_records p ps pk y l).1
      (⊎_elim
      (λ a. inl ((h.0.records pk y l).0 a))
      (λ a. inr (a.0, (h.0.ends pk a.0).0 a.1, (all_record states ps h.1 a.0 y l).0 a.2))
      g),
  λ g.
      ⊎_elim
      (λ a. inl ((h.0.records pk y l).1 a))
      (λ a. inr (a.0, (h.0.ends pk a.0).1 a.1, (all_record states ps h.1 a.0 y l).1 a.2))
      ((seq_records p ps pk y l).0 g),
)

-- they are made of what that is in
pub all_within : (s : Policy) (states : List Part) (ps : Policies) → ArePartsOf states ps
    → IsPlacedIn s (seq_of ps) → All (IsWithin s) states
all_within s [] no_part h i = All-nil (IsWithin s)
all_within s [] (part p ps) h i = absurd h
all_within s (q ∷ states) no_part h i = absurd h
all_within s (q ∷ states) (part p ps) h i =
    All-cons (IsWithin s) q states (within_in s p q (in_head s p ps i) h.0.within) (all_within s states ps h.1 (in_tail s p ps i))

-- a sequence
pub collected_seq : (old new : List (Pol × ℕ)) (free : Policy) (states : List Part) (ps : Policies)
    → ArePartsOf states ps → AreInTurn old new free states → IsCollected old new free (seq_of ps)
collected_seq old new free states ps h turns = record {
  ends = λ pk x. (
    λ g. (all_end states ps h pk x).0 ((turns.ends pk x).0 g),
    λ g. (turns.ends pk x).1 ((all_end states ps h pk x).1 g),
  );
  records = λ pk y l. (
    λ g. ⊎_elim (λ a. inl a) (λ b. inr ((all_record states ps h pk y l).0 b)) ((turns.records pk y l).0 g),
    λ g. (turns.records pk y l).1 (⊎_elim (λ a. inl a) (λ b. inr ((all_record states ps h pk y l).1 b)) g),
  );
  within = λ s i o. turns.within s o (all_within s states ps h i);
}

-- a star
pub collected_star : (old new legs : List (Pol × ℕ)) (free f p : Policy) → IsCollected [] legs f p
    → IsRounds free f → ArePutAfter old new free legs → IsCollected old new free (star_of p)
collected_star old new legs free f p c rounds put = record {
  ends = λ pk x. (
    λ g. star_as f p (λ a b r. (c.ends a b).0 r) pk x ((rounds.ends pk x).0 g),
    λ g. (rounds.ends pk x).1 (star_as p f (λ a b r. (c.ends a b).1 r) pk x g),
  );
  records = λ pk y l. (
    λ g.
        ⊎_elim
        (λ a. inl a)
        (λ a.
        inr ((star_records p pk y l).1 (
          a.0,
          star_as f p (λ t b r. (c.ends t b).0 r) pk a.0 ((rounds.ends pk a.0).0 a.1),
          ⊎_elim (λ b. absurd b) (λ b. b) ((c.records a.0 y l).0 a.2),
        )))
        ((put.records pk y l).0 g),
    λ g.
        (put.records pk y l).1
        (⊎_elim
        (λ a. inl a)
        (λ a.
        let t = (star_records p pk y l).0 a in
        inr (t.0, (rounds.ends pk t.0).1 (star_as p f (λ u b r. (c.ends u b).1 r) pk t.0 t.1), (c.records t.0 y l).1 (inr t.2)))
        g),
  );
  within = λ s i o.
      let within_round = c.within s record { over = i.over; dups = i.dups } (All-nil (IsLegOf s)) in
      let here = rounds.within s within_round.0 in
      (here, put.within s o here within_round.1);
}

-- what records at one dup before it ends
pub collected_one : (old new : List (Pol × ℕ)) (free p : Policy) (ways : Pol) (l : ℕ)
    → new ≡ old ++ (ways, l) ∷ [] → free ≡ drop_policy
    → ((pk x : Packet) → Gives p pk [] x → ⊥)
    → ((pk y : Packet) (k : ℕ) → ((l ≡ k) × Gives (tree_of ways) pk [] y) ↔ RecordsAt p pk [] y k)
    → IsBuiltOf p (tree_of ways) → has_dup p l ≡ true
    → IsCollected old new free p
collected_one old new free p ways l e f none first made held =
    let here : IsCollected old (old ++ (ways, l) ∷ []) drop_policy p = record {
      ends = λ pk x. (λ g. absurd g, λ g. absurd (none pk x g));
      records = λ pk y k. (
        λ g. ⊎_elim (λ a. inl a) (λ b. inr ((first pk y k).0 b)) ((legs_push old (ways, l) pk y k).0 g),
        λ g. (legs_push old (ways, l) pk y k).1 (⊎_elim (λ a. inl a) (λ b. inr ((first pk y k).1 b)) g),
      );
      within = λ s i o. (made_drop s, All-push (IsLegOf s) old (ways, l) o (made_in s p (tree_of ways) i made, i.dups l held));
    } in
    subst (λ n. IsCollected old n free p) (sym e) (subst (λ q. IsCollected old (old ++ (ways, l) ∷ []) q p) (sym f) here)

-- a dup
pub collected_dup : (old new : List (Pol × ℕ)) (free : Policy) (ways : Pol) (l : ℕ)
    → tree_of ways ≡ id_policy → new ≡ old ++ (ways, l) ∷ [] → free ≡ drop_policy → IsCollected old new free (dup l)
collected_dup old new free ways l w e f =
    collected_one old new free (dup l) ways l e f
    (λ pk x g. let h = g.0 in absurd cc)
    (λ pk y k. (
      λ g. (refl, (none_ends pk y).0 (subst (λ t. Gives t pk [] y) w g.1), sym g.0),
      λ g. (sym g.2, subst (λ t. Gives t pk [] y) (sym w) ((none_ends pk y).1 g.1)),
    ))
    (subst (IsBuiltOf (dup l)) (sym w) (made_id (dup l)))
    (same_number l)

-- a link literal
pub collected_link : (old new : List (Pol × ℕ)) (free : Policy) (ways : Pol) (a m b n l : ℕ)
    → tree_of ways ≡ seq_of (part (test 0 a) (part (test 1 m) no_part))
    → new ≡ old ++ (ways, l) ∷ [] → free ≡ drop_policy → IsCollected old new free (link a m b n l)
collected_link old new free ways a m b n l w e f =
    collected_one old new free (link a m b n l) ways l e f
    (λ pk x g. dup_third_ends (test 0 a) (test 1 m) l (part (assign 0 b) (part (assign 1 n) (part (dup (l + 1)) no_part))) pk x g)
    (λ pk y k.
    let t = dup_third_records (test 0 a) (test 1 m) l (part (assign 0 b) (part (assign 1 n) (part (dup (l + 1)) no_part))) (λ p q j r. r) (λ p q j r. r) pk y k in (
      λ g. t.0 (g.0, subst (λ q. Gives q pk [] y) w g.1),
      λ g. let u = t.1 g in (u.0, subst (λ q. Gives q pk [] y) (sym w) u.1),
    ))
    (subst (IsBuiltOf (link a m b n l)) (sym w) record { dup_free = (tt, (tt, tt)); over = λ fields h. (h.0, (h.1, tt)) })
    (or_left (l == l) (l == (l + 1)) (same_number l))

-- the terms and legs so far, and then the parts that are left, come to the whole sum
pub record IsSumming (old legs : List (Pol × ℕ)) (terms : Policy) (left all : Policies) : Type 0 where
  pub ends : (pk x : Packet) → (Gives terms pk [] x ⊎ Gives (sum_of left) pk [] x) ↔ Gives (sum_of all) pk [] x
  pub records : (pk y : Packet) (l : ℕ)
      → (LegsGive legs pk y l ⊎ RecordsAt (sum_of left) pk [] y l) ↔ (LegsGive old pk y l ⊎ RecordsAt (sum_of all) pk [] y l)
  pub within : (s : Policy) → IsPlacedIn s (sum_of all) → All (IsLegOf s) old
      → IsBuiltOf s terms × All (IsLegOf s) legs × IsPlacedIn s (sum_of left)
  pub complements : AllNegatePredicates left

-- at first all parts are left
pub summing_none : (old : List (Pol × ℕ)) (terms : List Pol) (all : Policies) → terms ≡ [] → AllNegatePredicates all
    → IsSumming old old (sum_of (trees_of terms)) all all
summing_none old terms all e n =
    subst (λ t. IsSumming old old (sum_of (trees_of t)) all all) (sym e) record {
      ends = λ pk x. (λ g. ⊎_elim (λ a. absurd a) (λ b. b) g, λ g. inr g);
      records = λ pk y l. (λ g. g, λ g. g);
      within = λ s i o. (made_drop s, o, i);
      complements = n;
    }

-- one more part
summing_one : (old legs legs' : List (Pol × ℕ)) (terms terms' free p : Policy) (left all : Policies)
    → IsCollected legs legs' free p → IsEither terms' terms free
    → IsSumming old legs terms (part p left) all → IsSumming old legs' terms' left all
summing_one old legs legs' terms terms' free p left all c e inv = record {
  ends = λ pk x. (
    λ g.
        (inv.ends pk x).0
        (⊎_elim
        (λ a. ⊎_elim (λ b. inl b) (λ b. inr (inl ((c.ends pk x).0 b))) ((e.ends pk x).0 a))
        (λ a. inr (inr a))
        g),
    λ g.
        ⊎_elim
        (λ a. inl ((e.ends pk x).1 (inl a)))
        (λ a. ⊎_elim (λ b. inl ((e.ends pk x).1 (inr ((c.ends pk x).1 b)))) (λ b. inr b) a)
        ((inv.ends pk x).1 g),
  );
  records = λ pk y l. (
    λ g.
        (inv.records pk y l).0
        (⊎_elim
        (λ a. ⊎_elim (λ b. inl b) (λ b. inr (inl b)) ((c.records pk y l).0 a))
        (λ a. inr (inr a))
        g),
    λ g.
        ⊎_elim
        (λ a. inl ((c.records pk y l).1 (inl a)))
        (λ a. ⊎_elim (λ b. inl ((c.records pk y l).1 (inr b))) (λ b. inr b) a)
        ((inv.records pk y l).1 g),
  );
  within = λ s i o.
      let h = inv.within s i o in
      let whole : IsPlacedIn s (seq_of (part p left)) = record { over = h.2.over; dups = h.2.dups } in
      let rest = in_tail s p left whole in
      let here = c.within s (in_head s p left whole) h.1 in
      (e.within s h.0 here.0, here.1, record { over = rest.over; dups = rest.dups });
  complements = inv.complements.1;
}

-- by its place in the list
pub summing_more : (old legs legs' : List (Pol × ℕ)) (terms terms' free : Policy) (q : Pol) (xs : List Pol) (i : ℕ)
    → i < length xs → q ≡ get_or xs i q
    → IsCollected legs legs' free (tree_of q) → IsEither terms' terms free
    → IsSumming old legs terms (trees_of (drop i xs)) (trees_of xs)
    → IsSumming old legs' terms' (trees_of (drop (i + 1) xs)) (trees_of xs)
summing_more old legs legs' terms terms' free q xs i lt is c e inv =
    summing_one old legs legs' terms terms' free (tree_of q) (trees_of (drop (i + 1) xs)) (trees_of xs) c e
    (subst (λ l. IsSumming old legs terms (trees_of l) (trees_of xs)) (left_is xs i q lt is) inv)

-- the part at the place negates predicates
pub complements_at : (q : Pol) (xs : List Pol) (i : ℕ) → i < length xs → q ≡ get_or xs i q
    → AllNegatePredicates (trees_of (drop i xs))
    → NegatesPredicates (tree_of q) × AllNegatePredicates (trees_of (drop (i + 1) xs))
complements_at q xs i lt is h =
    let t : AllNegatePredicates (trees_of (q ∷ drop (i + 1) xs)) = subst (λ l. AllNegatePredicates (trees_of l)) (left_is xs i q lt is) h in
    (t.0, t.1)

-- where no part is left
pub summing_done : (old legs : List (Pol × ℕ)) (terms : Policy) (xs : List Pol) (i : ℕ) → length xs ≤ i
    → IsSumming old legs terms (trees_of (drop i xs)) (trees_of xs)
    → IsCollected old legs terms (sum_of (trees_of xs))
summing_done old legs terms xs i le h =
    let inv : IsSumming old legs terms no_part (trees_of xs) = subst (λ l. IsSumming old legs terms (trees_of l) (trees_of xs)) (drop_all i xs le) h in
    record {
      ends = λ pk x. (
        λ g. (inv.ends pk x).0 (inl g),
        λ g. ⊎_elim (λ a. a) (λ b. absurd b) ((inv.ends pk x).1 g),
      );
      records = λ pk y l. (
        λ g. (inv.records pk y l).0 (inl g),
        λ g. ⊎_elim (λ a. a) (λ b. absurd b) ((inv.records pk y l).1 g),
      );
      within = λ s i o. let t = inv.within s i o in (t.0, t.1);
    }

-- one more policy with its part
pub parts_push : (states : List Part) (xs : List Pol) (s : Part) (q : Pol) → ArePartsOf states (trees_of xs)
    → IsPartOfDerivative s (tree_of q) → ArePartsOf (states ++ s ∷ []) (trees_of (xs ++ q ∷ []))
parts_push [] [] s q h p = (p, tt)
parts_push [] (x ∷ xs) s q h p = absurd h
parts_push (t ∷ states) [] s q h p = absurd h
parts_push (t ∷ states) (x ∷ xs) s q h p = (h.0, parts_push states xs s q h.1 p)

-- the tree of a sum
pub sum_tree : (p : Pol) (ps : Pols) (xs : List Pol) → p ≡ Sum ps → xs ≡ ps.items.items → sum_of (trees_of xs) ≡ tree_of p
sum_tree p ps xs e f = ap (λ l. sum_of (trees_of l)) f ∙ sym (ap tree_of e ∙ tree_of_sum ps)

-- of a sequence
pub seq_tree : (p : Pol) (ps : Pols) (xs : List Pol) → p ≡ Seq ps → xs ≡ ps.items.items → seq_of (trees_of xs) ≡ tree_of p
seq_tree p ps xs e f = ap (λ l. seq_of (trees_of l)) f ∙ sym (ap tree_of e ∙ tree_of_seq ps)

-- told of another tree that is the same
pub collected_as : (old new : List (Pol × ℕ)) (free p q : Policy) → p ≡ q → IsCollected old new free p → IsCollected old new free q
collected_as old new free p q e c = subst (IsCollected old new free) e c

-- a range
pub collected_range : (legs : List (Pol × ℕ)) (f lo hi : ℕ) → IsCollected legs legs (range f lo hi) (range f lo hi)
collected_range legs f lo hi = collected_same legs legs (range f lo hi) (range f lo hi) refl refl tt (λ pk y l r. r)

-- a test
pub collected_test : (legs : List (Pol × ℕ)) (f n : ℕ) → IsCollected legs legs (test f n) (test f n)
collected_test legs f n = collected_same legs legs (test f n) (test f n) refl refl tt (λ pk y l r. r)

-- an assignment
pub collected_assign : (legs : List (Pol × ℕ)) (f n : ℕ) → IsCollected legs legs (assign f n) (assign f n)
collected_assign legs f n = collected_same legs legs (assign f n) (assign f n) refl refl tt (λ pk y l r. r)

-- a complement
pub collected_not : (legs : List (Pol × ℕ)) (free p q : Policy) → not_of q ≡ p → free ≡ p → NegatesPredicates p
    → IsCollected legs legs free p
collected_not legs free p q e f h =
    let n : NegatesPredicates (not_of q) = subst NegatesPredicates (sym e) h in
    collected_as legs legs free (not_of q) p e (collected_same legs legs free (not_of q) refl (f ∙ sym e) (n.0, predicate_dup_free q n.0) (λ pk y l r. r))

-- the policies so far have their parts, and one more has
pub parts_next : (xs : List Pol) (i : ℕ) (q : Pol) (states new : List Part) (s : Part)
    → i < length xs → q ≡ get_or xs i q → new ≡ states ++ s ∷ [] → IsPartOfDerivative s (tree_of q)
    → ArePartsOf states (trees_of (take i xs)) → ArePartsOf new (trees_of (take (i + 1) xs))
parts_next xs i q states new s lt is e p h =
    let more : take (i + 1) xs ≡ take i xs ++ q ∷ [] = take_more xs i q lt ∙ ap (λ r. take i xs ++ r ∷ []) (sym is) in
    subst (λ n. ArePartsOf n (trees_of (take (i + 1) xs))) (sym e)
    (subst (λ l. ArePartsOf (states ++ s ∷ []) (trees_of l)) (sym more) (parts_push states (take i xs) s q h p))
