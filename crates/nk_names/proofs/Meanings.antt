-- The policy that a tree without fault stands for has fields and values of the program, and complements of predicates.
use Rattle.std.proofs.Common.{◌≡◌, ℕ, zero, suc, ◌<◌, ◌≤◌, Bool, true, false, cond, Option, Some, None, not, min, List, [], ◌∷◌, length, get_or, take, refl, sym, ap, ◌∙◌, arith}
use Rattle.std.specs.Prelude.{slice_index, is_none, unwrap_or, All}
use Rattle.std.specs.Str.{bytes_eq}
use Rattle.std.proofs.lemmas.List.{length-take, get_or-take}
use Rattle.std.proofs.lemmas.List.Quantifiers.{position-Some}
use Rattle.nk_field.specs.Packet.{FieldTable, IsFieldTable, IsValue, field_named}
use Rattle.nk_policy.specs.Policy.{Policy, is_predicate}
use Rattle.nk_policy.specs.Policy as policy
use Rattle.nk_lex.specs.declared.ident.Ident.{Ident}
use Rattle.nk_lex.specs.declared.ident.Number.{Number}
use Rattle.nk_grammar.specs.Tree.{Tree, Trees, name_of, test, range, assign, sum_of, seq_of, not_of, star_of, dup, link, no_part, part}
use Rattle.nk_names.specs.declared.fault.FaultKind.TheVariants as kind
use Rattle.nk_names.specs.Meant.{Lets, policy_among, no_value, no_range, place_of_field, most_in, policy_for, policies_for, unknown_in, unknown_among, misplaced_in, misplaced_among}
use Rattle.nk_policy.specs.Ranges.{IsOverFields}
use Rattle.nk_names.specs.Complements.{NegatesPredicates, AllNegatePredicates}
use Rattle.nk_names.proofs.Good.{AreOver}
use Rattle.nk_declare.proofs.Checks.{none_both}
use Rattle.nk_names.proofs.Declarations.{not_wrong, in_bound}

-- what holds of the first of a list
pub all_head : {X : Type 0} (P : X → Type 0) (x : X) (xs : List X) → All P (x ∷ xs) → P x
all_head P x xs h = h 0 x (omega arith)

-- and of the others
pub all_tail : {X : Type 0} (P : X → Type 0) (x : X) (xs : List X) → All P (x ∷ xs) → All P xs
all_tail P x xs h = λ k d lt. h (suc k) d (omega (arith, lt))

-- what holds of all policies and of none that has no name holds of a name's
pub named : (Q : Policy → Type 0) (lets : Lets) (name : List ℕ) → All (λ l. Q l.1) lets → Q (policy.sum_of policy.no_part)
    → Q (unwrap_or (policy_among lets name) (policy.sum_of policy.no_part))
named Q [] name h d = d
named Q (l ∷ ls) name h d = by_test (bytes_eq l.0 name) (named Q ls name (all_tail (λ m. Q m.1) l ls h) d)
  where
    by_test : (b : Bool) → Q (unwrap_or (policy_among ls name) (policy.sum_of policy.no_part))
        → Q (unwrap_or (cond b (Some l.1) (policy_among ls name)) (policy.sum_of policy.no_part))
    by_test true later = all_head (λ m. Q m.1) l ls h
    by_test false later = later

-- an option that isn't none has its value
some_of : (o : Option ℕ) → is_none o ≡ false → o ≡ Some (unwrap_or o 0)
some_of None h = absurd cc
some_of (Some k) h = refl

-- the largest numbers of a switch and of a port
abbrev largest : List ℕ
largest = 65535 ∷ 65535 ∷ []

-- both are the same
both_same : (k : ℕ) → k < 2 → get_or largest k 0 ≡ 65535
both_same zero lt = refl
both_same (suc zero) lt = refl
both_same (suc (suc k)) lt = absurd (omega (arith, lt))

module _ (fields : FieldTable) (table : IsFieldTable fields) where
  -- a name and a number without fault are a field and a value of it
  value_is : (w : Ident) (n : Number) → no_value fields w n ≡ None → IsValue fields (place_of_field fields w) n.value
  value_is w n h =
      let r = none_both _ _ h in
      let found : field_named fields w.text ≡ Some (place_of_field fields w) = some_of (field_named fields w.text) (not_wrong _ kind.UnknownField w.line r.0) in
      let at = position-Some (bytes_eq w.text) fields.names (place_of_field fields w) [] found in
      (omega (arith, at.0, table.named), in_bound (most_in fields w) n r.1)

  -- and a name and two numbers are a field and two values of it
  range_is : (w : Ident) (low high : Number) → no_range fields w low high ≡ None
      → IsValue fields (place_of_field fields w) low.value × IsValue fields (place_of_field fields w) high.value
  range_is w low high h =
      let r = none_both _ _ h in
      let first = value_is w low r.0 in
      (first, (first.0, in_bound (most_in fields w) high r.1))

  -- the largest number of the switch and of the port
  built_in : (k : ℕ) → k < 2 → IsValue fields k 65535
  built_in k lt =
      let two : length (take 2 fields.maxima) ≡ 2 = ap length table.built_in_maxima in
      let some : 2 ≤ length fields.maxima = omega (arith, sym (length-take 2 fields.maxima) ∙ two) in
      let is : slice_index fields.maxima k ≡ 65535 =
      sym (get_or-take 2 fields.maxima k 0 lt) ∙ ap (λ l. get_or l k 0) table.built_in_maxima ∙ both_same k lt in
      (omega (arith, lt, some), omega (arith, is))

  -- a number at most that is one of the field's
  below : (k v : ℕ) → k < 2 → IsValue fields k (min v 65535)
  below k v lt = let b = built_in k lt in (b.0, omega (arith, b.1))

  module _ (lets : Lets) where
    mutual
      pub over_meant : All (λ l. IsOverFields fields l.1) lets → (t : Tree) → unknown_in fields lets t ≡ None → IsOverFields fields (policy_for fields lets t)
      over_meant known (name_of w) h = named (IsOverFields fields) lets w.text known tt
      over_meant known (test w n) h = value_is w n h
      over_meant known (range w low high) h = range_is w low high h
      over_meant known (assign w n) h = value_is w n h
      over_meant known (sum_of ts) h = all_over_meant known ts h
      over_meant known (seq_of ts) h = all_over_meant known ts h
      over_meant known (not_of t line) h = over_meant known t h
      over_meant known (star_of t) h = over_meant known t h
      over_meant known dup h = tt
      over_meant known (link a m b n) h =
          (below 0 a.value (omega arith), below 1 m.value (omega arith), below 0 b.value (omega arith), below 1 n.value (omega arith))

      -- the policies that parts without an unknown name or value stand for are over the fields
      pub all_over_meant : All (λ l. IsOverFields fields l.1) lets → (ts : Trees) → unknown_among fields lets ts ≡ None → AreOver fields (policies_for fields lets ts)
      all_over_meant known no_part h = tt
      all_over_meant known (part t ts) h = let r = none_both _ _ h in (over_meant known t r.0, all_over_meant known ts r.1)

-- a negation that fails
pub of_not : (b : Bool) → not b ≡ false → b ≡ true
of_not true h = refl
of_not false h = cc

module _ (fields : FieldTable) (lets : Lets) where
  mutual
    pub negates_meant : All (λ l. NegatesPredicates l.1) lets → (t : Tree) → misplaced_in fields lets t ≡ None → NegatesPredicates (policy_for fields lets t)
    negates_meant known (name_of w) h = named NegatesPredicates lets w.text known tt
    negates_meant known (sum_of ts) h = all_negate_meant known ts h
    negates_meant known (seq_of ts) h = all_negate_meant known ts h
    negates_meant known (not_of t line) h =
        let r = none_both _ _ h in
        (of_not (is_predicate (policy_for fields lets t)) (not_wrong _ kind.NotAPredicate line r.0), negates_meant known t r.1)
    negates_meant known (star_of t) h = negates_meant known t h
    negates_meant known t h = tt

    -- the policies that parts without a misplaced `~` stand for have complements of predicates alone
    pub all_negate_meant : All (λ l. NegatesPredicates l.1) lets → (ts : Trees) → misplaced_among fields lets ts ≡ None → AllNegatePredicates (policies_for fields lets ts)
    all_negate_meant known no_part h = tt
    all_negate_meant known (part t ts) h = let r = none_both _ _ h in (negates_meant known t r.0, all_negate_meant known ts r.1)
