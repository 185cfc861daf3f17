-- The predicate of a set's reduced tree keeps exactly the packets at which its leaf is not empty.
use Rattle.std.proofs.Common.{◌≡◌, ℕ, ◌+◌, ◌<◌, ◌≤◌, ◌⊎◌, Bool, true, false, cond, inl, inr, List, [], ◌∷◌, ◌++◌, refl, sym, ap, subst, ◌∙◌, arith}
use Rattle.std.specs.Prelude.{◌↔◌, nat_le, nat_lt, slice_index}
use Rattle.std.specs.List.{flat_map}
use Rattle.std.proofs.lemmas.Bool.Decides.{eqb_tells, leb_tells}
use Rattle.nk_policy.specs.Policy.{Policy, test, range, seq_of, not_of, no_part, part}
use Rattle.nk_policy.specs.Meaning.{Gives, way_of, some_way_of}
use Rattle.nk_store.specs.declared.node.Out.{Out}
use Rattle.nk_store.specs.Nodes.{Sound, InRange}
use Rattle.nk_store.specs.StoreState.{StoreState, IsId, IsStorePacket}
use Rattle.nk_store.specs.Diagram.{Branches, leaf, case, no_branch, branch, leaf_at, leaf_among, IsReduced, AreReduced, AreTwo}
use Rattle.nk_store.specs.Intervals.{same_tree, with_most, values_with}
use Rattle.nk_sets.specs.PacketSets.{has_some_out, is_in}
use Rattle.nk_sets.specs.Predicate.{SetTree, SetInterval, same_outs, is_empty_set, is_full_set, parts_of, sum_of_terms, guarded_predicate, within, terms_of, conditions_of, else_condition, else_terms, predicate_of, intervals_of}
use Rattle.nk_sets.specs.Trees.{set_tree}
use Rattle.nk_sets.proofs.SetTrees.{same_looks, set_reduced, set_leaves}

-- the policy keeps the packet
abbrev Keeps : Policy → List ℕ → Type 0
Keeps p pk = Gives p pk [] pk

-- one of the policies does
abbrev SomeKeeps : List Policy → List ℕ → Type 0
SomeKeeps [] pk = ⊥
SomeKeeps (p ∷ ps) pk = Keeps p pk ⊎ SomeKeeps ps pk

-- the packet has an out at the tree
abbrev IsAtTree : SetTree → List ℕ → Type 0
IsAtTree d pk = has_some_out (leaf_at d [] pk) ≡ true

-- the parts of a sum, one of which keeps the packet
parts_keep : (ps : List Policy) (pk : List ℕ) → some_way_of (parts_of ps) (λ l x. x) pk [] pk ↔ SomeKeeps ps pk
parts_keep [] pk = ((λ k. k), (λ k. k))
parts_keep (p ∷ ps) pk =
    let rest = parts_keep ps pk in (
      (λ k. elim k [ inl a ↦ inl a | inr b ↦ inr (rest.0 b) ]),
      (λ k. elim k [ inl a ↦ inl a | inr b ↦ inr (rest.1 b) ]),
    )

-- a sum of terms keeps what one of them keeps
sum_keeps : (ps : List Policy) (pk : List ℕ) → Keeps (sum_of_terms ps) pk ↔ SomeKeeps ps pk
sum_keeps [] pk = ((λ k. k), (λ k. k))
sum_keeps (p ∷ []) pk = ((λ k. inl k), (λ k. elim k [ inl a ↦ a | inr b ↦ absurd b ]))
sum_keeps (p ∷ q ∷ ps) pk = parts_keep (p ∷ q ∷ ps) pk

-- of two lists
append_keeps : (ps qs : List Policy) (pk : List ℕ) → SomeKeeps (ps ++ qs) pk ↔ (SomeKeeps ps pk ⊎ SomeKeeps qs pk)
append_keeps [] qs pk = ((λ k. inr k), (λ k. elim k [ inl a ↦ absurd a | inr b ↦ b ]))
append_keeps (p ∷ ps) qs pk =
    let rest = append_keeps ps qs pk in (
      (λ k. elim k [ inl a ↦ inl (inl a) | inr b ↦ elim (rest.0 b) [ inl c ↦ inl (inr c) | inr d ↦ inr d ] ]),
      (λ k. elim k [ inl a ↦ elim a [ inl b ↦ inl b | inr c ↦ inr (rest.1 (inl c)) ] | inr d ↦ inr (rest.1 (inr d)) ]),
    )

-- of one policy
one_keeps : (p : Policy) (pk : List ℕ) → SomeKeeps (p ∷ []) pk ↔ Keeps p pk
one_keeps p pk = ((λ k. elim k [ inl a ↦ a | inr b ↦ absurd b ]), (λ k. inl k))

-- a policy keeps a packet exactly where P holds, and does nothing else
record Tells (p : Policy) (pk : List ℕ) (P : Type 0) : Type 0 where
  does : (w : List (List ℕ)) (x : List ℕ) → way_of p (λ l y. y) pk w x → P × (w ≡ []) × (x ≡ pk)
  keeps : P → Keeps p pk

within_tells :
    (f first last : ℕ) (pk : List ℕ)
    → Tells (within f first last) pk ((first ≤ slice_index pk f) × (slice_index pk f ≤ last))
within_tells f first last pk = elim (eqb_tells first last) [
  | inl same ↦ subst (λ b. Tells (cond b (test f first) (range f first last)) pk ((first ≤ slice_index pk f) × (slice_index pk f ≤ last))) (sym same.0) (one same.1)
  | inr other ↦ subst (λ b. Tells (cond b (test f first) (range f first last)) pk ((first ≤ slice_index pk f) × (slice_index pk f ≤ last))) (sym other.0) several
]
  where
    one : first ≡ last → Tells (test f first) pk ((first ≤ slice_index pk f) × (slice_index pk f ≤ last))
    one same = record {
      does = λ w x k. let is = k.0 in ((omega (arith, is), omega (arith, is, same)), k.1, k.2);
      keeps = λ h. let low = h.0 in let high = h.1 in (omega (arith, low, high, same), refl, refl);
    }

    several : Tells (range f first last) pk ((first ≤ slice_index pk f) × (slice_index pk f ≤ last))
    several = record {
      does = λ w x k. ((k.0, k.1), k.2, k.3);
      keeps = λ h. (h.0, h.1, refl, refl);
    }

not_tells : (p : Policy) (pk : List ℕ) → Tells (not_of p) pk (¬ (Keeps p pk))
not_tells p pk = record { does = λ w x k. (k.1, k.0.0, k.0.1); keeps = λ n. ((refl, refl), n) }

-- a list joined of two that is empty
joined_none : (u v : List (List ℕ)) → [] ≡ u ++ v → u ≡ [] → v ≡ []
joined_none [] v e h = sym e
joined_none (x ∷ u) v e h = absurd cc

-- a condition and then a policy keep what both keep
pair_keeps :
    (c rest : Policy) (pk : List ℕ) (P : Type 0) → Tells c pk P
    → Keeps (seq_of (part c (part rest no_part))) pk ↔ (P × Keeps rest pk)
pair_keeps c rest pk P t = (
  (λ k.
      let first = t.does k.0 k.2 k.4 in
      let second = k.5 in
      let none : k.1 ≡ [] = joined_none k.0 k.1 k.3 first.1 in
      let way : way_of rest (λ l y. y) pk second.0 pk =
      subst (λ z. way_of rest (λ l y. y) z second.0 pk) first.2 (subst (λ z. way_of rest (λ l y. y) k.2 second.0 z) (sym second.5.1) second.4) in
      let quiet : second.0 ≡ [] = front_none second.0 second.1 (sym none ∙ second.3) in
      (first.0, subst (λ z. way_of rest (λ l y. y) pk z pk) quiet way)),
  (λ k. ([], [], pk, refl, t.keeps k.0, ([], [], pk, refl, k.1, (refl, refl)))),
)
  where
    front_none : (u v : List (List ℕ)) → [] ≡ u ++ v → u ≡ []
    front_none [] v e = refl
    front_none (x ∷ u) v e = absurd cc

-- a guarded predicate keeps what the condition keeps and the child has
guarded_keeps :
    (c rest : Policy) (child : SetTree) (pk : List ℕ) (P : Type 0) → Tells c pk P
    → Keeps rest pk ↔ IsAtTree child pk → Keeps (guarded_predicate c child rest) pk ↔ (P × IsAtTree child pk)
guarded_keeps c rest child pk P t r = by (is_full_set child) refl
  where
    full : (d : SetTree) → is_full_set d ≡ true → IsAtTree d pk
    full (leaf outs) e = e
    full (case f bs) e = absurd cc

    by :
        (b : Bool) → is_full_set child ≡ b
        → Keeps (cond b c (seq_of (part c (part rest no_part)))) pk ↔ (P × IsAtTree child pk)
    by true e = ((λ k. ((t.does [] pk k).0, full child e)), (λ k. t.keeps k.0))
    by false e =
        let both = pair_keeps c rest pk P t in
        ((λ k. let x = both.0 k in (x.0, r.0 x.1)), (λ k. both.1 (k.0, r.1 k.1)))

-- the predicate of a tree keeps exactly its packets
abbrev IsExact : List ℕ → SetTree → Type 0
IsExact pk d = Keeps (predicate_of d) pk ↔ IsAtTree d pk

-- each child has the property
abbrev EachTree : (SetTree → Type 0) → Branches (List Out) → Type 0
EachTree P no_branch = Unit {0}
EachTree P (branch end d bs) = P d × EachTree P bs

-- the child at a value, past the branches the empty one
abbrev child_in : Branches (List Out) → ℕ → SetTree
child_in no_branch v = leaf []
child_in (branch end d bs) v = cond (nat_le v end) d (child_in bs v)

-- the leaf among branches is that of the child
among_child : (bs : Branches (List Out)) (v : ℕ) (pk : List ℕ) → leaf_among bs [] v pk ≡ leaf_at (child_in bs v) [] pk
among_child no_branch v pk = refl
among_child (branch end d bs) v pk = by (nat_le v end) (among_child bs v pk)
  where
    by :
        (b : Bool) → leaf_among bs [] v pk ≡ leaf_at (child_in bs v) [] pk
        → cond b (leaf_at d [] pk) (leaf_among bs [] v pk) ≡ leaf_at (cond b d (child_in bs v)) [] pk
    by true e = refl
    by false e = e

-- branches rise from one value to the largest one
abbrev Rising : ℕ → ℕ → Branches (List Out) → Type 0
Rising most from no_branch = from ≡ most + 1
Rising most from (branch end d bs) = (from ≤ end) × Rising most (end + 1) bs

rising :
    (maxima : List ℕ) (f end from : ℕ) (d : SetTree) (bs : Branches (List Out)) → from ≤ end
    → AreReduced (branch end d bs) maxima f → Rising (slice_index maxima f) from (branch end d bs)
rising maxima f end from d no_branch h r = (h, omega (arith, r.0))
rising maxima f end from d (branch next e bs) h r = (h, rising maxima f next (end + 1) e bs (omega (arith, r.0)) r.3)

rising_all :
    (maxima : List ℕ) (f : ℕ) (bs : Branches (List Out)) → AreTwo bs → AreReduced bs maxima f
    → Rising (slice_index maxima f) 0 bs
rising_all maxima f no_branch two r = absurd two
rising_all maxima f (branch end d bs) two r = rising maxima f end 0 d bs (omega arith) r

-- an interval whose child is this tree
abbrev interval_of : ℕ → ℕ → SetTree → SetInterval
interval_of first last d = record { first = first; last = last; child = d; made = predicate_of d }

module _ (pk : List ℕ) (v : ℕ) (h : SetInterval → List Policy) (H : SetTree → Type 0) (hk : (d : SetTree) (first last : ℕ) → IsExact pk d → SomeKeeps (h (interval_of first last d)) pk ↔ ((first ≤ v) × (v ≤ last) × H d)) where
  -- intervals above the value have nothing
  none_below :
      (most from : ℕ) (bs : Branches (List Out)) → Rising most from bs → EachTree (IsExact pk) bs → v < from
      → SomeKeeps (flat_map h (intervals_of bs from)) pk → ⊥
  none_below most from no_branch r e l k = k
  none_below most from (branch end d bs) r e l k =
      elim ((append_keeps (h (interval_of from end d)) (flat_map h (intervals_of bs (end + 1))) pk).0 k) [
        | inl a ↦ let x = (hk d from end e.0).0 a in omega (arith, x.0, l)
        | inr b ↦ none_below most (end + 1) bs r.1 e.1 (omega (arith, r.0, l)) b
      ]

  -- of all intervals that of the value has what its child has
  some_at :
      (most from : ℕ) (bs : Branches (List Out)) → Rising most from bs → EachTree (IsExact pk) bs → from ≤ v
      → v ≤ most → SomeKeeps (flat_map h (intervals_of bs from)) pk ↔ H (child_in bs v)
  some_at most from no_branch r e lo hi = absurd (omega (arith, r, lo, hi))
  some_at most from (branch end d bs) r e lo hi =
      let both = append_keeps (h (interval_of from end d)) (flat_map h (intervals_of bs (end + 1))) pk in
      let here = hk d from end e.0 in
      elim (leb_tells v end) [
        | inl within ↦ (
          (λ k. subst (λ b. H (cond b d (child_in bs v))) (sym within.0) (elim (both.0 k) [
            | inl a ↦ (here.0 a).2
            | inr b ↦ absurd (none_below most (end + 1) bs r.1 e.1 (omega (arith, within.1)) b)
          ])),
          (λ x. both.1 (inl (here.1 (lo, within.1, subst (λ b. H (cond b d (child_in bs v))) within.0 x)))),
        )
        | inr past ↦
            let rest = some_at most (end + 1) bs r.1 e.1 (omega (arith, past.1)) hi in (
              (λ k. subst (λ b. H (cond b d (child_in bs v))) (sym past.0) (elim (both.0 k) [
                | inl a ↦ let x = (here.0 a).1 in absurd (omega (arith, x, past.1))
                | inr b ↦ rest.0 b
              ])),
              (λ x. both.1 (inr (rest.1 (subst (λ b. H (cond b d (child_in bs v))) past.0 x)))),
            )
      ]

-- the terms of an interval
terms_keep :
    (pk : List ℕ) (f : ℕ) (other d : SetTree) (first last : ℕ) → IsExact pk d
    → SomeKeeps (terms_of f other (interval_of first last d)) pk ↔ ((first ≤ slice_index pk f) × (slice_index pk f ≤ last) × ((same_tree other same_outs d ≡ false) × IsAtTree d pk))
terms_keep pk f other d first last exact = by (same_tree other same_outs d) refl (is_empty_set d) refl
  where
    empty : (t : SetTree) → is_empty_set t ≡ true → IsAtTree t pk → ⊥
    empty (leaf []) e k = absurd cc
    empty (leaf (o ∷ os)) e k = absurd cc
    empty (case g bs) e k = absurd cc

    by :
        (b : Bool) → same_tree other same_outs d ≡ b → (n : Bool) → is_empty_set d ≡ n
        → SomeKeeps (cond b [] (cond n [] (guarded_predicate (within f first last) d (predicate_of d) ∷ []))) pk ↔ ((first ≤ slice_index pk f) × (slice_index pk f ≤ last) × ((same_tree other same_outs d ≡ false) × IsAtTree d pk))
    by true s n e = ((λ k. absurd k), (λ k. let x : true ≡ false = sym s ∙ k.2.0 in cc))
    by false s true e = ((λ k. absurd k), (λ k. absurd (empty d e k.2.1)))
    by false s false e =
        let one = one_keeps (guarded_predicate (within f first last) d (predicate_of d)) pk in
        let both = guarded_keeps (within f first last) (predicate_of d) d pk ((first ≤ slice_index pk f) × (slice_index pk f ≤ last)) (within_tells f first last pk) exact in (
          (λ k. let x = both.0 (one.0 k) in (x.0.0, x.0.1, (s, x.1))),
          (λ k. one.1 (both.1 ((k.0, k.1), k.2.1))),
        )

-- the condition of an interval
conditions_keep :
    (pk : List ℕ) (f : ℕ) (other d : SetTree) (first last : ℕ)
    → SomeKeeps (conditions_of f other (interval_of first last d)) pk ↔ ((first ≤ slice_index pk f) × (slice_index pk f ≤ last) × (same_tree other same_outs d ≡ false))
conditions_keep pk f other d first last = by (same_tree other same_outs d) refl
  where
    by :
        (b : Bool) → same_tree other same_outs d ≡ b
        → SomeKeeps (cond b [] (within f first last ∷ [])) pk ↔ ((first ≤ slice_index pk f) × (slice_index pk f ≤ last) × (same_tree other same_outs d ≡ false))
    by true s = ((λ k. absurd k), (λ k. let x : true ≡ false = sym s ∙ k.2 in cc))
    by false s =
        let one = one_keeps (within f first last) pk in
        let tells = within_tells f first last pk in (
          (λ k. let x = (tells.does [] pk (one.0 k)).0 in (x.0, x.1, s)),
          (λ k. one.1 (tells.keeps (k.0, k.1))),
        )

-- what holds of each interval holds of the one with the most values
most_has :
    (Q : SetInterval → Type 0) (all : List SetInterval) (best : SetInterval) (bs : Branches (List Out)) (from : ℕ)
    → Q best → EachTree (λ d. (first last : ℕ) → Q (interval_of first last d)) bs
    → Q (with_most same_outs all best (intervals_of bs from))
most_has Q all best no_branch from q e = q
most_has Q all best (branch end d bs) from q e =
    by (nat_lt (values_with same_outs best.child all) (values_with same_outs d all)) (most_has Q all (interval_of from end d) bs (end + 1) (e.0 from end) e.1) (most_has Q all best bs (end + 1) q e.1)
  where
    by :
        (b : Bool) → Q (with_most same_outs all (interval_of from end d) (intervals_of bs (end + 1)))
        → Q (with_most same_outs all best (intervals_of bs (end + 1)))
        → Q (cond b (with_most same_outs all (interval_of from end d) (intervals_of bs (end + 1))) (with_most same_outs all best (intervals_of bs (end + 1))))
    by true x y = x
    by false x y = y

-- a weaker property of each child
each_weaker :
    (P Q : SetTree → Type 0) (bs : Branches (List Out)) → ((d : SetTree) → P d → Q d) → EachTree P bs → EachTree Q bs
each_weaker P Q no_branch f e = tt
each_weaker P Q (branch end d bs) f e = (f d e.0, each_weaker P Q bs f e.1)

-- the terms of a node keep what the child at the packet's value has
module _ (pk : List ℕ) (f most : ℕ) (bs : Branches (List Out)) (rise : Rising most 0 bs) (each : EachTree (IsExact pk) bs) (within_most : slice_index pk f ≤ most) (other : SetInterval) (exact : Keeps other.made pk ↔ IsAtTree other.child pk) where
  abbrev value : ℕ
  value = slice_index pk f

  abbrev all : List SetInterval
  all = intervals_of bs 0

  abbrev there : SetTree
  there = child_in bs value

  terms_have : SomeKeeps (flat_map (terms_of f other.child) all) pk ↔ ((same_tree other.child same_outs there ≡ false) × IsAtTree there pk)
  terms_have = some_at pk value (terms_of f other.child) (λ d. (same_tree other.child same_outs d ≡ false) × IsAtTree d pk) (λ d first last e. terms_keep pk f other.child d first last e) most 0 bs rise each (omega arith) within_most

  conditions_have : SomeKeeps (flat_map (conditions_of f other.child) all) pk ↔ (same_tree other.child same_outs there ≡ false)
  conditions_have = some_at pk value (conditions_of f other.child) (λ d. same_tree other.child same_outs d ≡ false) (λ d first last e. conditions_keep pk f other.child d first last) most 0 bs rise each (omega arith) within_most

  abbrev conditions : List Policy
  conditions = flat_map (conditions_of f other.child) all

  outside : Keeps (sum_of_terms conditions) pk ↔ (same_tree other.child same_outs there ≡ false)
  outside = ((λ k. conditions_have.0 ((sum_keeps conditions pk).0 k)), (λ e. (sum_keeps conditions pk).1 (conditions_have.1 e)))

  else_keeps : Keeps (guarded_predicate (else_condition f other all) other.child other.made) pk ↔ ((¬ (Keeps (sum_of_terms conditions) pk)) × IsAtTree other.child pk)
  else_keeps = guarded_keeps (else_condition f other all) other.made other.child pk (¬ (Keeps (sum_of_terms conditions) pk)) (not_tells (sum_of_terms conditions) pk) exact

  forth : SomeKeeps (flat_map (terms_of f other.child) all ++ else_terms f other all) pk → IsAtTree there pk
  forth k =
      elim ((append_keeps (flat_map (terms_of f other.child) all) (else_terms f other all) pk).0 k) [
        | inl a ↦ (terms_have.0 a).1
        | inr b ↦ last (is_empty_set other.child) b
      ]
    where
      by : (b : Bool) → same_tree other.child same_outs there ≡ b → (¬ (Keeps (sum_of_terms conditions) pk)) × IsAtTree other.child pk → IsAtTree there pk
      by true s x = sym (same_looks other.child there pk s) ∙ x.1
      by false s x = absurd (x.0 (outside.1 s))

      last : (b : Bool) → SomeKeeps (cond b [] (guarded_predicate (else_condition f other all) other.child other.made ∷ [])) pk → IsAtTree there pk
      last true x = absurd x
      last false (inl a) = by (same_tree other.child same_outs there) refl (else_keeps.0 a)
      last false (inr b) = absurd b

  back : IsAtTree there pk → SomeKeeps (flat_map (terms_of f other.child) all ++ else_terms f other all) pk
  back t = by (same_tree other.child same_outs there) refl
    where
      full : (d : SetTree) (b : Bool) → is_empty_set d ≡ b → IsAtTree d pk → b ≡ false
      full (leaf []) b e k = absurd cc
      full (leaf (o ∷ os)) b e k = sym e
      full (case g cs) b e k = sym e

      by : (b : Bool) → same_tree other.child same_outs there ≡ b → SomeKeeps (flat_map (terms_of f other.child) all ++ else_terms f other all) pk
      by false s = (append_keeps (flat_map (terms_of f other.child) all) (else_terms f other all) pk).1 (inl (terms_have.1 (s, t)))
      by true s =
          let has : IsAtTree other.child pk = same_looks other.child there pk s ∙ t in
          let kept : SomeKeeps (guarded_predicate (else_condition f other all) other.child other.made ∷ []) pk =
          inl (else_keeps.1 ((λ k. let x : true ≡ false = sym s ∙ outside.0 k in cc), has)) in
          (append_keeps (flat_map (terms_of f other.child) all) (else_terms f other all) pk).1
          (inr (subst (λ b. SomeKeeps (cond b [] (guarded_predicate (else_condition f other all) other.child other.made ∷ [])) pk) (sym (full other.child (is_empty_set other.child) refl has)) kept))

mutual
  -- the predicate of a reduced tree keeps exactly its packets
  pub tree_exact :
      (maxima : List ℕ) (low : ℕ) (d : SetTree) (pk : List ℕ) → IsReduced d maxima low → InRange maxima pk
      → Gives (predicate_of d) pk [] pk ↔ (has_some_out (leaf_at d [] pk) ≡ true)
  tree_exact maxima low (leaf []) pk r inside = ((λ k. absurd k), (λ e. absurd cc))
  tree_exact maxima low (leaf (o ∷ os)) pk r inside = ((λ k. refl), (λ e. (refl, refl)))
  tree_exact maxima low (case f no_branch) pk r inside = absurd r.1
  tree_exact maxima low (case f (branch end d bs)) pk r inside =
      let all = intervals_of (branch end d bs) 0 in
      let each = trees_exact maxima f (branch end d bs) pk r.2 inside in
      let rise = rising_all maxima f (branch end d bs) r.1 r.2 in
      let other = with_most same_outs all (interval_of 0 end d) (intervals_of bs (end + 1)) in
      let exact : Keeps other.made pk ↔ IsAtTree other.child pk =
      most_has (λ i. Keeps i.made pk ↔ IsAtTree i.child pk) all (interval_of 0 end d) bs (end + 1) each.0
      (each_weaker (IsExact pk) (λ t. ((first last : ℕ) → IsExact pk t)) bs (λ t e first last. e) each.1) in
      let terms = flat_map (terms_of f other.child) all ++ else_terms f other all in
      let leaf_is = among_child (branch end d bs) (slice_index pk f) pk in (
        (λ k. ap has_some_out leaf_is ∙ forth pk f (slice_index maxima f) (branch end d bs) rise each (inside.1 f) other exact ((sum_keeps terms pk).0 k)),
        (λ e. (sum_keeps terms pk).1 (back pk f (slice_index maxima f) (branch end d bs) rise each (inside.1 f) other exact (ap has_some_out (sym leaf_is) ∙ e))),
      )

  -- likewise each child of branches
  trees_exact :
      (maxima : List ℕ) (f : ℕ) (bs : Branches (List Out)) (pk : List ℕ) → AreReduced bs maxima f
      → InRange maxima pk → EachTree (IsExact pk) bs
  trees_exact maxima f no_branch pk r inside = tt
  trees_exact maxima f (branch end d bs) pk r inside = (tree_exact maxima (f + 1) d pk r.1 inside, trees_exact maxima f bs pk r.3 inside)

-- the predicate of a set of the store keeps exactly the set's packets
pub set_exact :
    (st : StoreState) (s : ℕ) (p : Policy) (pk : List ℕ) → Sound st.maxes st.nodes → IsId st s → IsStorePacket st pk
    → p ≡ predicate_of (set_tree st s) → Gives p pk [] pk ↔ (is_in st s pk ≡ true)
set_exact st s p pk sound id r e =
    let both = tree_exact st.maxes 0 (set_tree st s) pk (set_reduced st s sound id) r in
    let leaf_is = set_leaves st s pk sound id r in (
      (λ k. ap has_some_out (sym leaf_is) ∙ both.0 (subst (λ q. Gives q pk [] pk) e k)),
      (λ t. subst (λ q. Gives q pk [] pk) (sym e) (both.1 (ap has_some_out leaf_is ∙ t))),
    )
