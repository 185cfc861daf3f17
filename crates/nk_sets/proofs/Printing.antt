-- The policy that is made for a set is the predicate of its tree, term by term.
use Rattle.std.proofs.Common.{◌≡◌, ◌≢◌, ℕ, ◌+◌, ◌-◌, ◌<◌, Bool, true, false, cond, List, [], ◌∷◌, ◌++◌, length, refl, sym, ap, subst, ◌∙◌, arith, eqb, append_assoc, append-nil}
use Rattle.std.specs.Prelude.{◌==◌, map, nat_lt}
use Rattle.std.specs.List.{flat_map}
use Rattle.std.proofs.lemmas.Bool.Decides.{nat_tests}
use Rattle.nk_policy.specs.declared.policy.Pol.{Pol}
use Rattle.nk_policy.specs.Policy.{Policy, sum_of, not_of, part}
use Rattle.nk_policy.specs.Tree.{tree_of, trees_of}
use Rattle.nk_policy.specs.After.{id_policy, drop_policy}
use Rattle.nk_store.specs.declared.node.Node.{Node}
use Rattle.nk_store.specs.declared.node.Node.TheVariants.{Leaf, Case}
use Rattle.nk_store.specs.declared.node.Out.{Out}
use Rattle.nk_store.specs.Nodes.{is_empty_leaf, Each, Sound}
use Rattle.nk_store.specs.StoreState.{StoreState, IsId, node_of, IsNodeOf}
use Rattle.nk_store.specs.Diagram.{leaf, case}
use Rattle.nk_store.specs.Intervals.{same_tree, with_most, values_with}
use Rattle.nk_store.specs.ElseChild.{Span, spans, size_of, largest, else_of}
use Rattle.nk_sets.specs.PacketSets.{has_some_out, IsSet}
use Rattle.nk_sets.specs.Predicate.{SetTree, SetInterval, same_outs, is_empty_set, parts_of, sum_of_terms, guarded_predicate, within, terms_of, conditions_of, else_terms, predicate_of}
use Rattle.nk_sets.specs.Trees.{branches_of, set_tree}
use Rattle.nk_sets.specs.PolicyOf.{interval_at, intervals_at}
use Rattle.nk_sets.proofs.SetTrees.{set_leaf, set_case, same_is}

-- a leaf is not empty where it has some out
pub some_counted : (outs : List Out) (n : ℕ) → n ≡ length outs → nat_lt 0 n ≡ has_some_out outs
some_counted [] n e = ap (λ k. nat_lt 0 k) e
some_counted (o ∷ os) n e = let h : 0 < n = omega (arith, e) in grind (arith, nat_tests, h)

-- the tree of a node that is a choice
pub case_kind :
    (st : StoreState) (c f : ℕ) (ps : List (ℕ × ℕ)) (n : Node) → IsId st c → n ≡ node_of st c → n ≡ Case f ps
    → IsNodeOf st c n → set_tree st c ≡ case f (branches_of ps (set_tree st))
case_kind st c f ps n id at is means = set_case st c f ps id (sym at ∙ is) (subst (IsNodeOf st c) is means).below

-- the tree of a node is that of the empty set exactly where the node is the leaf with no out
pub empty_leaf_is :
    (st : StoreState) (c : ℕ) (n : Node) → IsId st c → n ≡ node_of st c → IsNodeOf st c n
    → is_empty_leaf n ≡ is_empty_set (set_tree st c)
empty_leaf_is st c (Leaf []) id at means = sym (ap is_empty_set (set_leaf st c [] id (sym at)))
empty_leaf_is st c (Leaf (o ∷ os)) id at means = sym (ap is_empty_set (set_leaf st c (o ∷ os) id (sym at)))
empty_leaf_is st c (Case f ps) id at means = sym (ap is_empty_set (case_kind st c f ps (Case f ps) id at refl means))

-- one more element
pub mapped_push : {A B : Type 0} (g : A → B) (xs : List A) (y : A) → map g (xs ++ y ∷ []) ≡ map g xs ++ g y ∷ []
mapped_push g [] y = refl
mapped_push g (x ∷ xs) y = ap (λ l. g x ∷ l) (mapped_push g xs y)

-- the parts of policies
trees_are : (xs : List Pol) → trees_of xs ≡ parts_of (map tree_of xs)
trees_are [] = refl
trees_are (x ∷ xs) = ap (part (tree_of x)) (trees_are xs)

-- several terms, or none, are a sum
pub sum_is : (xs : List Pol) → length xs ≢ 1 → sum_of (trees_of xs) ≡ sum_of_terms (map tree_of xs)
sum_is [] n = refl
sum_is (x ∷ []) n = absurd (n (omega arith))
sum_is (x ∷ y ∷ ys) n = ap sum_of (trees_are (x ∷ y ∷ ys))

-- a step of a loop over parts
pub part_step :
    (st : StoreState) (g : SetInterval → List Policy) (mid more all : List Policy) (p : ℕ × ℕ) (rest whole : List (ℕ × ℕ)) (from : ℕ)
    → whole ≡ p ∷ rest → mid ++ flat_map g (intervals_at st whole from) ≡ all
    → more ≡ mid ++ g (interval_at st from p.0 p.1)
    → more ++ flat_map g (intervals_at st rest (p.0 + 1)) ≡ all
part_step st g mid more all p rest whole from split made h =
    ap (λ l. l ++ flat_map g (intervals_at st rest (p.0 + 1))) h
    ∙ append_assoc mid (g (interval_at st from p.0 p.1)) (flat_map g (intervals_at st rest (p.0 + 1)))
    ∙ ap (λ l. mid ++ flat_map g (intervals_at st l from)) (sym split)
    ∙ made

-- its end
pub parts_end :
    (st : StoreState) (g : SetInterval → List Policy) (mid all : List Policy) (rest : List (ℕ × ℕ)) (from : ℕ)
    → rest ≡ [] → mid ++ flat_map g (intervals_at st rest from) ≡ all → mid ≡ all
parts_end st g mid all rest from none made =
    sym (append-nil mid) ∙ ap (λ l. mid ++ flat_map g (intervals_at st l from)) (sym none) ∙ made

module _ (st : StoreState) (sound : Sound st.maxes st.nodes) where
  -- in either order
  same_back :
      (c k : ℕ) → IsSet st c → IsSet st k → same_tree (set_tree st c) same_outs (set_tree st k) ≡ eqb k c
  same_back c k g h = same_is st c k sound g h ∙ turn c k
    where
      turn : (m n : ℕ) → (m == n) ≡ (n == m)
      turn m n = grind (arith, nat_tests)

  -- the else-child's interval has no condition
  pub conditions_none :
      (f other first last c : ℕ) (items : List Policy) → IsSet st other → IsSet st c → eqb c other ≡ true
      → items ≡ items ++ conditions_of f (set_tree st other) (interval_at st first last c)
  conditions_none f other first last c items g h e =
      sym (append-nil items) ∙ ap (λ b. items ++ cond b [] (within f first last ∷ [])) (sym (same_back other c g h ∙ e))

  -- another one's has one
  pub conditions_one :
      (f other first last c : ℕ) (items more : List Policy) → IsSet st other → IsSet st c → eqb c other ≡ false
      → more ≡ items ++ within f first last ∷ []
      → more ≡ items ++ conditions_of f (set_tree st other) (interval_at st first last c)
  conditions_one f other first last c items more g h e made =
      made ∙ ap (λ b. items ++ cond b [] (within f first last ∷ [])) (sym (same_back other c g h ∙ e))

  -- the else-child's interval has no term
  pub terms_none :
      (f other first last c : ℕ) (items : List Policy) → IsSet st other → IsSet st c → eqb c other ≡ true
      → items ≡ items ++ terms_of f (set_tree st other) (interval_at st first last c)
  terms_none f other first last c items g h e =
      sym (append-nil items) ∙ ap (λ b. items ++ cond b [] (cond (is_empty_set (set_tree st c)) [] (guarded_predicate (within f first last) (set_tree st c) (predicate_of (set_tree st c)) ∷ []))) (sym (same_back other c g h ∙ e))

  -- an empty one's has none
  pub terms_empty :
      (f other first last c : ℕ) (items : List Policy) → IsSet st other → IsSet st c → eqb c other ≡ false
      → is_empty_set (set_tree st c) ≡ true
      → items ≡ items ++ terms_of f (set_tree st other) (interval_at st first last c)
  terms_empty f other first last c items g h e n =
      sym (append-nil items)
      ∙ ap (λ b. items ++ cond b [] (guarded_predicate (within f first last) (set_tree st c) (predicate_of (set_tree st c)) ∷ [])) (sym n)
      ∙ ap (λ b. items ++ cond b [] (cond (is_empty_set (set_tree st c)) [] (guarded_predicate (within f first last) (set_tree st c) (predicate_of (set_tree st c)) ∷ []))) (sym (same_back other c g h ∙ e))

  -- another one's has one
  pub terms_one :
      (f other first last c : ℕ) (items more : List Policy) → IsSet st other → IsSet st c → eqb c other ≡ false
      → is_empty_set (set_tree st c) ≡ false
      → more ≡ items ++ guarded_predicate (within f first last) (set_tree st c) (predicate_of (set_tree st c)) ∷ []
      → more ≡ items ++ terms_of f (set_tree st other) (interval_at st first last c)
  terms_one f other first last c items more g h e n made =
      made
      ∙ ap (λ b. items ++ cond b [] (guarded_predicate (within f first last) (set_tree st c) (predicate_of (set_tree st c)) ∷ [])) (sym n)
      ∙ ap (λ b. items ++ cond b [] (cond (is_empty_set (set_tree st c)) [] (guarded_predicate (within f first last) (set_tree st c) (predicate_of (set_tree st c)) ∷ []))) (sym (same_back other c g h ∙ e))

  -- as many values have a tree as have its number
  size_is :
      (c : ℕ) (ps : List (ℕ × ℕ)) (from : ℕ) → IsSet st c → Each (IsSet st) ps
      → values_with same_outs (set_tree st c) (intervals_at st ps from) ≡ size_of c (spans ps from)
  size_is c [] from g e = refl
  size_is c (p ∷ ps) from g e =
      ap (λ b. cond b (p.0 + 1 - from) 0 + values_with same_outs (set_tree st c) (intervals_at st ps (p.0 + 1))) (same_is st c p.1 sound g e.0)
      ∙ ap (λ n. cond (c == p.1) (p.0 + 1 - from) 0 + n) (size_is c ps (p.0 + 1) g e.1)

  -- the interval that is found has the child that is found
  record IsAt (i : SetInterval) (c : ℕ) : Type 0 where
    child : i.child ≡ set_tree st c
    made : i.made ≡ predicate_of (set_tree st c)
    good : IsSet st c

  -- the else-child is found alike by trees and by numbers
  most_is :
      (all : List SetInterval) (ss : List Span)
      → ((c : ℕ) → IsSet st c → values_with same_outs (set_tree st c) all ≡ size_of c ss)
      → (i : SetInterval) (b : ℕ) (ps : List (ℕ × ℕ)) (from : ℕ) → IsAt i b → Each (IsSet st) ps
      → IsAt (with_most same_outs all i (intervals_at st ps from)) (largest ss b ps)
  most_is all ss sizes i b [] from a e = a
  most_is all ss sizes i b (p ∷ ps) from a e =
      let j = interval_at st from p.0 p.1 in
      let t : nat_lt (values_with same_outs i.child all) (values_with same_outs (set_tree st p.1) all) ≡ nat_lt (size_of b ss) (size_of p.1 ss) =
      ap (λ x. nat_lt (values_with same_outs x all) (values_with same_outs (set_tree st p.1) all)) a.child
      ∙ ap (λ n. nat_lt n (values_with same_outs (set_tree st p.1) all)) (sizes b a.good)
      ∙ ap (λ n. nat_lt (size_of b ss) n) (sizes p.1 e.0) in
      subst (λ x. IsAt (cond x (with_most same_outs all j (intervals_at st ps (p.0 + 1))) (with_most same_outs all i (intervals_at st ps (p.0 + 1)))) (cond (nat_lt (size_of b ss) (size_of p.1 ss)) (largest ss p.1 ps) (largest ss b ps))) (sym t)
      (by (nat_lt (size_of b ss) (size_of p.1 ss))
      (most_is all ss sizes j p.1 ps (p.0 + 1) record { child = refl; made = refl; good = e.0 } e.1)
      (most_is all ss sizes i b ps (p.0 + 1) a e.1))
    where
      by :
          (x : Bool) → IsAt (with_most same_outs all (interval_at st from p.0 p.1) (intervals_at st ps (p.0 + 1))) (largest ss p.1 ps)
          → IsAt (with_most same_outs all i (intervals_at st ps (p.0 + 1))) (largest ss b ps)
          → IsAt (cond x (with_most same_outs all (interval_at st from p.0 p.1) (intervals_at st ps (p.0 + 1))) (with_most same_outs all i (intervals_at st ps (p.0 + 1)))) (cond x (largest ss p.1 ps) (largest ss b ps))
      by true x y = x
      by false x y = y

  -- the last term depends on the else-child alone
  else_same :
      (f : ℕ) (i j : SetInterval) (is : List SetInterval) → i.child ≡ j.child → i.made ≡ j.made
      → else_terms f i is ≡ else_terms f j is
  else_same f i j is c m =
      ap (λ t. term t i.made) c ∙ ap (λ p. term j.child p) m
    where
      term : SetTree → Policy → List Policy
      term t p = cond (is_empty_set t) [] (guarded_predicate (not_of (sum_of_terms (flat_map (conditions_of f t) is))) t p ∷ [])

  -- the predicate of a choice, by the else-child's number
  pub choice_is :
      (f : ℕ) (ps : List (ℕ × ℕ)) → 0 < length ps → Each (IsSet st) ps
      → sum_of_terms (flat_map (terms_of f (set_tree st (else_of ps))) (intervals_at st ps 0) ++ else_terms f (interval_at st 0 0 (else_of ps)) (intervals_at st ps 0)) ≡ predicate_of (case f (branches_of ps (set_tree st)))
  choice_is f [] h e = absurd (omega (arith, h))
  choice_is f (p ∷ ps) h e =
      let i = interval_at st 0 p.0 p.1 in
      let all = intervals_at st (p ∷ ps) 0 in
      let ss = spans (p ∷ ps) 0 in
      let other = with_most same_outs all i all in
      let a : IsAt other (else_of (p ∷ ps)) = most_is all ss (λ k g. size_is k (p ∷ ps) 0 g e) i p.1 (p ∷ ps) 0 record { child = refl; made = refl; good = e.0 } e in
      ap (λ t. sum_of_terms (flat_map (terms_of f t) all ++ else_terms f (interval_at st 0 0 (else_of (p ∷ ps))) all)) (sym a.child)
      ∙ ap (λ l. sum_of_terms (flat_map (terms_of f other.child) all ++ l)) (sym (else_same f other (interval_at st 0 0 (else_of (p ∷ ps))) all a.child a.made))
      ∙ ap (λ (o : SetInterval). sum_of_terms (flat_map (terms_of f o.child) all ++ else_terms f o all)) (itself (values_with same_outs (set_tree st p.1) all))
    where
      -- a test between a thing and itself
      itself :
          (n : ℕ)
          → cond (nat_lt n n) (with_most same_outs (intervals_at st (p ∷ ps) 0) (interval_at st 0 p.0 p.1) (intervals_at st ps (p.0 + 1))) (with_most same_outs (intervals_at st (p ∷ ps) 0) (interval_at st 0 p.0 p.1) (intervals_at st ps (p.0 + 1))) ≡ with_most same_outs (intervals_at st (p ∷ ps) 0) (interval_at st 0 p.0 p.1) (intervals_at st ps (p.0 + 1))
      itself n = by (nat_lt n n)
        where
          by :
              (b : Bool)
              → cond b (with_most same_outs (intervals_at st (p ∷ ps) 0) (interval_at st 0 p.0 p.1) (intervals_at st ps (p.0 + 1))) (with_most same_outs (intervals_at st (p ∷ ps) 0) (interval_at st 0 p.0 p.1) (intervals_at st ps (p.0 + 1))) ≡ with_most same_outs (intervals_at st (p ∷ ps) 0) (interval_at st 0 p.0 p.1) (intervals_at st ps (p.0 + 1))
          by true = refl
          by false = refl

-- the predicate of a leaf without an out
pub none_is : (outs : List Out) → length outs ≡ 0 → predicate_of (leaf outs) ≡ drop_policy
none_is [] e = refl
none_is (o ∷ os) e = absurd (omega (arith, e))

-- and of one with an out
pub some_is : (outs : List Out) → length outs ≢ 0 → predicate_of (leaf outs) ≡ id_policy
some_is [] n = absurd (n refl)
some_is (o ∷ os) n = refl
