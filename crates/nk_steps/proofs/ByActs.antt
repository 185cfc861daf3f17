-- The steps of leaves together, act by act.
use Rattle.std.proofs.Common.{◌≡◌, ℕ, ◌+◌, ◌<◌, ◌≤◌, Bool, true, false, cond, eqb, not, ◌↔◌, List, [], ◌∷◌, ◌++◌, length, take, refl, sym, ◌∙◌, ap, subst, arith, get_or, inl, inr}
use Rattle.std.specs.List.{Contains, dedup}
use Rattle.std.specs.List.Sorted.{IsPermutation, IsSorted, IsStrictlyIncreasing}
use Rattle.std.specs.Ordering.{nat_cmp}
use Rattle.std.proofs.lemmas.Bool.Decides.{nat_tests, leb_tells}
use Rattle.std.proofs.lemmas.List.{append_assoc, get_or_default, take_more, flat_map_more, get_or_append_left, length-append}
use Rattle.std.proofs.lemmas.List.Elements.{Contains-append_left, Contains-push, Contains-push_cases}
use Rattle.std.proofs.lemmas.List.Kept.{Contains-dedup_nat, Contains-from_dedup}
use Rattle.std.proofs.lemmas.List.Sorted.{Contains-permutation, IsPermutation-sym}
use Rattle.std.proofs.lemmas.Map.Keys.{IsStrictlyIncreasing-dedup}
use Rattle.nk_field.specs.Act.{applied}
use Rattle.nk_field.specs.contracts.act.ActPartialEq.TheImpl.{ghosts}
use Rattle.nk_store.specs.declared.node.Out.{Out}
use Rattle.nk_store.specs.Leaves.{IsActFrom, Every, Suits, AreOrdered}
use Rattle.nk_store.specs.StoreState.{StoreState, IsId, IsStorePacket, node_of, look, root_field, HasLeaves, AreTidy}
use Rattle.nk_apply.specs.Seqs.{outs_of}
use Rattle.nk_apply.specs.Unions.{AreIds, AreFrom, outs_in_turn}
use Rattle.nk_apply.proofs.PartSums.{AreNodes}
use Rattle.nk_apply.proofs.AtOnce.{leaf_outs}
use Rattle.nk_apply.proofs.Members.{has_contains, contains_has, every_has, every_from}
use Rattle.nk_determ.specs.Exact.{Sends}
use Rattle.nk_steps.specs.Plain.{fields_in}
use Rattle.nk_determ.specs.Sets.{SetsGrow, holds, place_in}
use Rattle.nk_determ.specs.Branches.{targets_of, labels, labels_of}
use Rattle.nk_determ.specs.States.{SomeLeads, AreLedTo, IsSetOfMet}
use Rattle.nk_steps.specs.ByAct.{AreActsOf, IsTargetOf, AreOutsByAct}
use Rattle.nk_determ.proofs.Ascents.{act_decides}
use Rattle.nk_determ.proofs.Interned.{place_holds}
use Rattle.nk_determ.proofs.Regrouped.{flat_has, has_flat}
use Rattle.nk_determ.proofs.Runs.{target_has, has_target, label_has, has_label}
use Rattle.nk_steps.proofs.PlainSteps.{same_act}

module _ (before : List Out) (o : Out) (acts : List (List (ℕ × ℕ))) (are : AreActsOf before acts) where
  -- one out more that is a final, or whose act is there
  pub acts_kept : (0 < o.target → Contains acts o.act) → AreActsOf (before ++ o ∷ []) acts
  acts_kept there = record {
    among = λ g c. let r = are.among g c in (r.0, r.1, Contains-append_left before (o ∷ []) _ r.2);
    each = λ p c pos. elim (Contains-push_cases before o p c) [
      | inl k ↦ are.each p k pos
      | inr e ↦ subst (λ (q : Out). Contains acts q.act) e (there (subst (λ (q : Out). 0 < q.target) (sym e) pos))
    ];
    alike = are.alike;
  }

  -- one out more whose act assigns the same fields as the first one
  pub acts_put : 0 < o.target → (0 < length acts → fields_in (get_or acts 0 []) ≡ fields_in o.act) → AreActsOf (before ++ o ∷ []) (acts ++ o.act ∷ [])
  acts_put pos goes = record {
    among = λ g c. elim (Contains-push_cases acts o.act g c) [
      | inl k ↦ let r = are.among g k in (r.0, r.1, Contains-append_left before (o ∷ []) _ r.2)
      | inr e ↦ (o.target, pos, subst (λ h. Contains (before ++ o ∷ []) (record { act = h; target = o.target })) e (Contains-push before o))
    ];
    each = λ p c pos. elim (Contains-push_cases before o p c) [
      | inl k ↦ Contains-append_left acts (o.act ∷ []) p.act (are.each p k pos)
      | inr e ↦ subst (λ (q : Out). Contains (acts ++ o.act ∷ []) q.act) e (Contains-push acts o.act)
    ];
    alike = λ g h a b. as_last g a ∙ sym (as_last h b);
  }
    where
      as_last : (g : List (ℕ × ℕ)) → Contains (acts ++ o.act ∷ []) g → fields_in g ≡ fields_in o.act
      as_last g c = elim (Contains-push_cases acts o.act g c) [
        | inl k ↦
            let some : 0 < length acts = omega (arith, k.1) in
            let first = get_or acts 0 [] in
            are.alike g first k (0, some, get_or_default acts 0 first [] some) ∙ goes some
        | inr e ↦ ap (λ x. fields_in x) (sym e)
      ]

-- an act that was found is there
pub act_there : (acts : List (List (ℕ × ℕ))) (a act : List (ℕ × ℕ)) (i : ℕ) → i < length acts → a ≡ get_or acts i a → ghosts.eq a act ≡ true → Contains acts act
act_there acts a act i l is e = let same : a ≡ act = (act_decides a act).0 e in (i, l, get_or_default acts i act a l ∙ sym is ∙ same)

-- the acts with those of one out more
pub acts_more : (first so_far new : List (List (ℕ × ℕ))) (outs : List Out) (i : ℕ) (o : Out) → i < length outs → o ≡ get_or outs i o →
    ((before : List Out) → AreActsOf before first → AreActsOf (before ++ take i outs) so_far) → ((before : List Out) → AreActsOf before so_far → AreActsOf (before ++ o ∷ []) new) →
    (before : List Out) → AreActsOf before first → AreActsOf (before ++ take (i + 1) outs) new
acts_more first so_far new outs i o l is had put before are =
    subst (λ os. AreActsOf os new)
    (append_assoc before (take i outs) (o ∷ []) ∙ ap (λ os. before ++ os) (ap (λ k. take i outs ++ k ∷ []) is ∙ sym (take_more outs i o l)))
    (put (before ++ take i outs) (had before are))

-- one leaf more
pub leaves_more : (st : StoreState) (ds : List ℕ) (i d : ℕ) → i < length ds → d ≡ get_or ds i d → ((k : ℕ) → k < i → 18 ≤ root_field st (get_or ds k 0)) → 18 ≤ root_field st d →
    (k : ℕ) → k < i + 1 → 18 ≤ root_field st (get_or ds k 0)
leaves_more st ds i d l is had one k m = elim (leb_tells i k) [
  | inr before ↦ had k before.1
  | inl here ↦
      let same : i ≡ k = omega (arith, here.1, m) in
      subst (λ j. 18 ≤ root_field st (get_or ds j 0)) same (subst (λ e. 18 ≤ root_field st e) (is ∙ get_or_default ds i d 0 l) one)
]

-- one leaf's outs more
pub turn_on : (st : StoreState) (ds : List ℕ) (i d : ℕ) → i < length ds → d ≡ get_or ds i d → outs_in_turn st (take i ds) ++ outs_of st d ≡ outs_in_turn st (take (i + 1) ds)
turn_on st ds i d l is =
    flat_map_more (outs_of st) [] (take i ds) d ∙ ap (λ k. outs_in_turn st (take i ds ++ k ∷ [])) is ∙ ap (λ xs. outs_in_turn st xs) (sym (take_more ds i d l))

-- the labels of outs one list after the other
pub labels_append : (g : List (ℕ × ℕ)) (os ys : List Out) → labels_of g (os ++ ys) ≡ labels_of g os ++ labels_of g ys
labels_append g [] ys = refl
labels_append g (o ∷ os) ys = by (ghosts.eq o.act g) (labels_append g os ys)
  where
    put : (b : Bool) (zs ws us : List ℕ) → zs ≡ ws ++ us → cond b (o.target ∷ zs) zs ≡ cond b (o.target ∷ ws) ws ++ us
    put true zs ws us e = ap (λ xs. o.target ∷ xs) e
    put false zs ws us e = e

    by : (b : Bool) → labels (targets_of g (os ++ ys)) ≡ labels (targets_of g os) ++ labels (targets_of g ys) →
        labels (cond b (o.target ∷ targets_of g (os ++ ys)) (targets_of g (os ++ ys))) ≡ labels (cond b (o.target ∷ targets_of g os) (targets_of g os)) ++ labels (targets_of g ys)
    by true e = put (not (eqb o.target 0)) (labels (targets_of g (os ++ ys))) (labels (targets_of g os)) (labels (targets_of g ys)) e
    by false e = e

-- the label of an out with the act
pub label_put : (g : List (ℕ × ℕ)) (o : Out) → ghosts.eq o.act g ≡ true → 0 < o.target → labels_of g (o ∷ []) ≡ o.target ∷ []
label_put g o e pos = ap (λ b. labels (cond b (o.target ∷ []) [])) e ∙ by (eqb o.target 0) refl
  where
    by : (b : Bool) → eqb o.target 0 ≡ b → cond (not b) (o.target ∷ []) [] ≡ o.target ∷ []
    by true is = let z : o.target ≡ 0 = grind (arith, nat_tests, is) in absurd (omega (arith, z, pos))
    by false is = refl

-- an out with another act
pub label_of_other : (g : List (ℕ × ℕ)) (o : Out) → ghosts.eq o.act g ≡ false → labels_of g (o ∷ []) ≡ []
label_of_other g o e = ap (λ b. labels (cond b (o.target ∷ []) [])) e

-- a final
pub label_of_final : (g : List (ℕ × ℕ)) (o : Out) → o.target ≡ 0 → labels_of g (o ∷ []) ≡ []
label_of_final g o z = by (ghosts.eq o.act g)
  where
    by : (b : Bool) → labels (cond b (o.target ∷ []) []) ≡ []
    by true = ap (λ t. cond (not (eqb t 0)) (o.target ∷ []) []) z
    by false = refl

-- one out more
pub label_more : (outs : List Out) (g : List (ℕ × ℕ)) (i : ℕ) (o : Out) (so_far before new : List ℕ) → i < length outs → o ≡ get_or outs i o →
    so_far ≡ before ++ labels_of g (take i outs) → new ≡ so_far ++ labels_of g (o ∷ []) → new ≡ before ++ labels_of g (take (i + 1) outs)
label_more outs g i o so_far before new l is e put =
    put ∙ ap (λ xs. xs ++ labels_of g (o ∷ [])) e ∙ append_assoc before (labels_of g (take i outs)) (labels_of g (o ∷ []))
    ∙ ap (λ xs. before ++ xs) (sym (labels_append g (take i outs) (o ∷ [])) ∙ ap (λ k. labels_of g (take i outs ++ k ∷ [])) is ∙ ap (λ xs. labels_of g xs) (sym (take_more outs i o l)))

-- the labels with which outs have an act
pub labels_met : (g : List (ℕ × ℕ)) (all : List Out) (l : ℕ) → Contains (labels_of g all) l ↔ ((0 < l) × Contains all (record { act = g; target = l }))
labels_met g all l = (
  λ c. let r = label_has (targets_of g all) l (contains_has (labels_of g all) l c) in (r.0, has_contains all (record { act = g; target = l }) (target_has g all l r.1)),
  λ q. has_contains (labels_of g all) l (has_label (targets_of g all) l q.0 (has_target g all l (contains_has all (record { act = g; target = l }) q.1))),
)

-- in any order, each once
pub met_in_order : (all : List Out) (g : List (ℕ × ℕ)) (found ordered ls : List ℕ) → found ≡ labels_of g all → ((l : ℕ) → Contains ordered l ↔ Contains found l) → ls ≡ ordered →
    (l : ℕ) → Contains ls l ↔ ((0 < l) × Contains all (record { act = g; target = l }))
met_in_order all g found ordered ls is members same l =
    let met = labels_met g all l in (
      λ c. met.0 (subst (λ (xs : List ℕ). Contains xs l) is ((members l).0 (subst (λ (xs : List ℕ). Contains xs l) same c))),
      λ q. subst (λ (xs : List ℕ). Contains xs l) (sym same) ((members l).1 (subst (λ (xs : List ℕ). Contains xs l) (sym is) (met.1 q))),
    )

-- labels that were sorted and whose doubles were dropped are the same ones
pub sorted_members : (ls all r : List ℕ) → IsPermutation ls all → r ≡ dedup eqb all → (l : ℕ) → Contains r l ↔ Contains ls l
sorted_members ls all r moved is l =
    subst (λ (xs : List ℕ). Contains xs l ↔ Contains ls l) (sym is) (
      λ h. Contains-permutation all ls l (IsPermutation-sym ls all moved) (Contains-from_dedup eqb all l h),
      λ h. Contains-dedup_nat all l (Contains-permutation ls all l moved h),
    )

-- and each is there once
pub sorted_rise : (all r : List ℕ) → IsSorted nat_cmp all → r ≡ dedup eqb all → IsStrictlyIncreasing r
sorted_rise all r rising is = subst (λ xs. IsStrictlyIncreasing xs) (sym is) (IsStrictlyIncreasing-dedup all rising)

-- the target of a set that was put in
pub target_is : (sets : List (List ℕ)) (all : List Out) (g : List (ℕ × ℕ)) (ls : List ℕ) (i t : ℕ) → ((l : ℕ) → Contains ls l ↔ ((0 < l) × Contains all (record { act = g; target = l }))) →
    ((l : ℕ) × (0 < l) × Contains all (record { act = g; target = l })) → i ≡ place_in sets ls → holds sets ls ≡ true → t ≡ i + 1 → IsTargetOf sets all g t
target_is sets all g ls i t met some is there to =
    let at = place_holds sets ls there in
    let members : get_or sets i [] ≡ ls = ap (λ k. get_or sets k []) is ∙ at.1 in (
      i,
      to,
      record {
        within = subst (λ k. k < length sets) (sym is) at.0;
        some = λ none. let c : Contains [] some.0 = subst (λ (xs : List ℕ). Contains xs some.0) (sym members ∙ none) ((met some.0).1 (some.1, some.2)) in absurd (omega (arith, c.1));
        every = λ l. subst (λ (xs : List ℕ). Contains xs l ↔ ((0 < l) × Contains all (record { act = g; target = l }))) (sym members) (met l);
      },
    )

-- it stays so while more sets are put in
pub target_later : (old new : List (List ℕ)) (all : List Out) (g : List (ℕ × ℕ)) (t : ℕ) → SetsGrow old new → IsTargetOf old all g t → IsTargetOf new all g t
target_later old new all g t grow k =
    let s = k.2 in
    let longer : length new ≡ length old + length grow.0 = ap (λ (xs : List (List ℕ)). length xs) grow.1 ∙ length-append old grow.0 in
    let same : get_or new k.0 [] ≡ get_or old k.0 [] = ap (λ (xs : List (List ℕ)). get_or xs k.0 []) grow.1 ∙ get_or_append_left old grow.0 [] k.0 s.within in (
      k.0,
      k.1,
      record {
        within = omega (arith, longer, s.within);
        some = λ none. s.some (sym same ∙ none);
        every = λ l. subst (λ (xs : List ℕ). Contains xs l ↔ ((0 < l) × Contains all (record { act = g; target = l }))) (sym same) (s.every l);
      },
    )

-- one act more
pub outs_more : (old new : List (List ℕ)) (all : List Out) (acts : List (List (ℕ × ℕ))) (outs : List Out) (g : List (ℕ × ℕ)) (t : ℕ) → SetsGrow old new →
    AreOutsByAct old all acts outs → IsTargetOf new all g t → AreOutsByAct new all (acts ++ g ∷ []) (outs ++ record { act = g; target = t } ∷ [])
outs_more old new all acts outs g t grow are to =
    let last : Out = record { act = g; target = t } in
    record {
      among = λ o c. elim (Contains-push_cases outs last o c) [
        | inl k ↦ let r = are.among o k in (Contains-append_left acts (g ∷ []) o.act r.0, target_later old new all o.act o.target grow r.1)
        | inr e ↦ subst (λ (p : Out). Contains (acts ++ g ∷ []) p.act × IsTargetOf new all p.act p.target) e (Contains-push acts g, to)
      ];
      each = λ h c. elim (Contains-push_cases acts g h c) [
        | inl k ↦ let r = are.each h k in (r.0, Contains-append_left outs (last ∷ []) (record { act = h; target = r.0 }) r.1)
        | inr e ↦ (t, subst (λ x. Contains (outs ++ last ∷ []) (record { act = x; target = t })) e (Contains-push outs last))
      ];
    }

module _ (st : StoreState) (ds : List ℕ) (nodes : AreNodes st) (ids : AreIds st ds) (leaves : AreFrom st 18 ds) where
  -- a leaf has its outs at each packet
  leaf_at_all : (pk : List ℕ) (d : ℕ) → Contains ds d → look st d pk ≡ outs_of st d
  leaf_at_all pk d c =
      let is : get_or ds c.0 0 ≡ d = get_or_default ds c.0 0 d c.1 ∙ c.2 in
      leaf_outs st d (node_of st d) refl (nodes d (subst (IsId st) is (ids c.0 c.1))) (subst (λ e. 18 ≤ root_field st e) is (leaves c.0 c.1)) pk

  -- an out of some leaves is one of one of them, at each packet
  one_has : (pk : List ℕ) (o : Out) → Contains (outs_in_turn st ds) o → (d : ℕ) × Contains ds d × Contains (look st d pk) o
  one_has pk o c =
      let r = has_flat (outs_of st) ds o (contains_has (outs_in_turn st ds) o c) in
      let d = has_contains ds r.0 r.1 in
      (r.0, d, subst (λ os. Contains os o) (sym (leaf_at_all pk r.0 d)) (has_contains (outs_of st r.0) o r.2))

  -- and the other way round
  turn_has : (pk : List ℕ) (o : Out) (d : ℕ) → Contains ds d → Contains (look st d pk) o → Contains (outs_in_turn st ds) o
  turn_has pk o d c h =
      has_contains (outs_in_turn st ds) o (flat_has (outs_of st) ds d o (contains_has ds d c) (contains_has (outs_of st d) o (subst (λ os. Contains os o) (leaf_at_all pk d c) h)))

  module _ (tidy : AreTidy st) (acts : List (List (ℕ × ℕ))) (are : AreActsOf (outs_in_turn st ds) acts) where
    -- the acts are in range
    acts_suit : (g : List (ℕ × ℕ)) → Contains acts g → IsActFrom st.maxes 0 g
    acts_suit g c =
        let r = are.among g c in
        let o : Out = record { act = g; target = r.0 } in
        let at = one_has [] o r.2 in
        every_has (Suits st.maxes) (look st at.0 []) o ((tidy at.0).suits []) (contains_has (look st at.0 []) o at.2)

    module _ (sets : List (List ℕ)) (outs : List Out) (by : AreOutsByAct sets (outs_in_turn st ds) acts outs) where
      -- so are the outs by them
      pub outs_suit : Every (Suits st.maxes) outs
      outs_suit = every_from (Suits st.maxes) outs (λ o h. acts_suit o.act (by.among o (has_contains outs o h)).0)

      module _ (new : StoreState) (rs : List Out) (r : ℕ) (ordered : AreOrdered outs rs) (h : HasLeaves new r (λ pk. rs)) where
        -- where the leaf of the outs leads, the leaves lead
        pub act_leads : (pk y : List ℕ) (i : ℕ) → IsStorePacket st pk → Sends new r pk y (i + 1) → AreLedTo sets st ds pk y i
        act_leads pk y i p s =
            let g = s.0 in
            let o : Out = record { act = g; target = i + 1 } in
            let a = by.among o ((ordered.members o).0 (subst (λ os. Contains os o) (h.leaf pk p.0) s.1)) in
            let same : a.1.0 ≡ i = omega (arith, a.1.1) in
            let to : IsSetOfMet sets i (λ l. Contains (outs_in_turn st ds) (record { act = g; target = l })) = subst (λ k. IsSetOfMet sets k (λ l. Contains (outs_in_turn st ds) (record { act = g; target = l }))) same a.1.2 in
            record {
              within = to.within;
              some = to.some;
              every = λ l. (
                λ c. let q = (to.every l).0 c in let at = one_has pk (record { act = g; target = l }) q.1 in (q.0, (at.0, at.1, (g, at.2, s.2))),
                λ q. (to.every l).1 (q.0, back pk y g l p a.0 s.2 q.0 q.1),
              );
            }
          where
            back : (pk y : List ℕ) (g : List (ℕ × ℕ)) (l : ℕ) → IsStorePacket st pk → Contains acts g → y ≡ applied g pk → 0 < l → SomeLeads st ds pk y l → Contains (outs_in_turn st ds) (record { act = g; target = l })
            back pk y g l p a e pos m =
                let k = m.2.0 in
                let c = turn_has pk (record { act = k; target = l }) m.0 m.1 m.2.1 in
                let b : Contains acts k = are.each (record { act = k; target = l }) c pos in
                let one : g ≡ k = same_act st.maxes pk 0 g k p.0 (acts_suit g a) (acts_suit k b) (are.alike g k a b) (sym e ∙ m.2.2) in
                subst (λ x. Contains (outs_in_turn st ds) (record { act = x; target = l })) (sym one) c

        -- and the other way round
        pub act_led : (pk y : List ℕ) (l : ℕ) → IsStorePacket st pk → 0 < l → SomeLeads st ds pk y l → (i : ℕ) × Sends new r pk y (i + 1)
        act_led pk y l p pos m =
            let g = m.2.0 in
            let c = turn_has pk (record { act = g; target = l }) m.0 m.1 m.2.1 in
            let k = by.each g (are.each (record { act = g; target = l }) c pos) in
            let a = by.among (record { act = g; target = k.0 }) k.1 in
            let i = a.1.0 in
            let o : Out = record { act = g; target = i + 1 } in
            let there : Contains outs o = subst (λ t. Contains outs (record { act = g; target = t })) a.1.1 k.1 in
            (i, (g, subst (λ os. Contains os o) (sym (h.leaf pk p.0)) ((ordered.members o).1 there), m.2.2))
