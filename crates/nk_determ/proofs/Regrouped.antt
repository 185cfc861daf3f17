-- What the diagram of a set state has.
use Rattle.std.proofs.Common.{◌≡◌, ℕ, ◌+◌, ◌<◌, Bool, true, false, cond, eqb, ◌||◌, ◌↔◌, List, [], ◌∷◌, ◌++◌, length, refl, sym, ◌∙◌, ap, subst, arith, get_or, ◌⊎◌, inl, inr}
use Rattle.std.specs.List.{Contains, list_any, flat_map}
use Rattle.std.proofs.lemmas.Bool.Decides.{nat_tests}
use Rattle.nk_field.specs.contracts.act.ActPartialEq.TheImpl.{ghosts}
use Rattle.nk_store.specs.declared.node.Out.{Out}
use Rattle.nk_store.specs.Nodes.{InRange}
use Rattle.nk_store.specs.Leaves.{IsActFrom, Every, Strict, Suits, AreOrdered}
use Rattle.nk_store.specs.StoreState.{StoreState, IsWhole, look}
use Rattle.nk_apply.proofs.Members.{Has, has_contains, contains_has, every_from, gathered_has, has_gathered, gathered_strict}
use Rattle.nk_determ.specs.Exact.{exact_out, split_leaf, IsExact, AreExact}
use Rattle.nk_determ.specs.Sets.{holds, place_in}
use Rattle.nk_determ.specs.Branches.{Branch, with_target, begun, runs, branches, targets_of, labels, labels_of}
use Rattle.nk_determ.specs.States.{SomeSends, AreFollowed, IsSetOfMet, HasAll, IsStateOf, IsThere, final_of, out_to_set, branch_outs, regrouped}
use Rattle.nk_determ.proofs.Laws.{exact_changes}
use Rattle.nk_determ.proofs.Interned.{place_holds}
use Rattle.nk_determ.proofs.StatesAt.{met_same}
use Rattle.nk_determ.proofs.Runs.{branch_for, branches_are, target_has, has_target, label_has, has_label}

-- the member of a list of one
only : {X : Type 0} {a o : X} → Has (a ∷ []) o → a ≡ o
only (inl e) = e
only (inr k) = absurd k

-- a member stays one before other items
has_front : {X : Type 0} (xs ys : List X) (o : X) → Has xs o → Has (xs ++ ys) o
has_front [] ys o h = absurd h
has_front (x ∷ xs) ys o (inl e) = inl e
has_front (x ∷ xs) ys o (inr h) = inr (has_front xs ys o h)

-- and after them
has_back : {X : Type 0} (xs ys : List X) (o : X) → Has ys o → Has (xs ++ ys) o
has_back [] ys o h = h
has_back (x ∷ xs) ys o h = inr (has_back xs ys o h)

-- a member of two lists one after the other is one of one of them
has_either : {X : Type 0} (xs ys : List X) (o : X) → Has (xs ++ ys) o → Has xs o ⊎ Has ys o
has_either [] ys o h = inr h
has_either (x ∷ xs) ys o (inl e) = inl (inl e)
has_either (x ∷ xs) ys o (inr h) = elim (has_either xs ys o h) [ inl k ↦ inl (inr k) | inr k ↦ inr k ]

-- what F makes of a member is there
pub flat_has : {X Y : Type 0} (F : X → List Y) (xs : List X) (x : X) (y : Y) → Has xs x → Has (F x) y → Has (flat_map F xs) y
flat_has F [] x y h k = absurd h
flat_has F (z ∷ zs) x y (inl e) k = has_front (F z) (flat_map F zs) y (subst (λ w. Has (F w) y) (sym e) k)
flat_has F (z ∷ zs) x y (inr h) k = has_back (F z) (flat_map F zs) y (flat_has F zs x y h k)

-- and all that is there is made of a member
pub has_flat : {X Y : Type 0} (F : X → List Y) (xs : List X) (y : Y) → Has (flat_map F xs) y → (x : X) × Has xs x × Has (F x) y
has_flat F [] y h = absurd h
has_flat F (z ∷ zs) y h = elim (has_either (F z) (flat_map F zs) y h) [
  | inl k ↦ (z, inl refl, k)
  | inr k ↦ let r = has_flat F zs y k in (r.0, inr r.1, r.2)
]

-- where the test for 0 passes, 0 is a target
zero_in : (ts : List ℕ) → list_any (λ t. eqb t 0) ts ≡ true → Has ts 0
zero_in [] e = cc
zero_in (t ∷ ts) e = by (eqb t 0) refl e (λ k. zero_in ts k)
  where
    by : (b : Bool) → eqb t 0 ≡ b → b || list_any (λ t. eqb t 0) ts ≡ true → (list_any (λ t. eqb t 0) ts ≡ true → Has ts 0) → Has (t ∷ ts) 0
    by true is k go = let z : t ≡ 0 = grind (arith, nat_tests, is) in inl z
    by false is k go = inr (go k)

-- and the other way round
in_zero : (ts : List ℕ) → Has ts 0 → list_any (λ t. eqb t 0) ts ≡ true
in_zero [] h = absurd h
in_zero (t ∷ ts) (inl e) = ap (λ z. eqb z 0 || list_any (λ t. eqb t 0) ts) e
in_zero (t ∷ ts) (inr h) = by (eqb t 0) (in_zero ts h)
  where
    by : (b : Bool) → list_any (λ t. eqb t 0) ts ≡ true → b || list_any (λ t. eqb t 0) ts ≡ true
    by true k = refl
    by false k = k

-- a final act
final_has : (g : List (ℕ × ℕ)) (ts : List ℕ) (o : Out) → Has (final_of g ts) o → (record { act = g; target = 0 } ≡ o) × Has ts 0
final_has g ts o h = by (list_any (λ t. eqb t 0) ts) refl h
  where
    by : (b : Bool) → list_any (λ t. eqb t 0) ts ≡ b → Has {X = Out} (cond b (record { act = g; target = 0 } ∷ []) []) o → (record { act = g; target = 0 } ≡ o) × Has ts 0
    by true e (inl is) = (is, zero_in ts e)
    by true e (inr k) = absurd k
    by false e k = absurd k

-- and the other way round
has_final : (g : List (ℕ × ℕ)) (ts : List ℕ) → Has ts 0 → Has (final_of g ts) (record { act = g; target = 0 })
has_final g ts h = subst (λ b. Has {X = Out} (cond b (record { act = g; target = 0 } ∷ []) []) (record { act = g; target = 0 })) (sym (in_zero ts h)) (inl refl)

-- an act to a set
set_has : (sets : List (List ℕ)) (g : List (ℕ × ℕ)) (ls : List ℕ) (o : Out) → Has (out_to_set sets g ls) o → ((l : ℕ) × Has ls l) × (record { act = g; target = place_in sets ls + 1 } ≡ o)
set_has sets g [] o h = absurd h
set_has sets g (l ∷ ls) o (inl e) = ((l, inl refl), e)
set_has sets g (l ∷ ls) o (inr k) = absurd k

-- and the other way round
has_set : (sets : List (List ℕ)) (g : List (ℕ × ℕ)) (ls : List ℕ) (l : ℕ) → Has ls l → Has (out_to_set sets g ls) (record { act = g; target = place_in sets ls + 1 })
has_set sets g [] l h = absurd h
has_set sets g (x ∷ xs) l h = inl refl

-- what is regrouped is made of a branch
regrouped_has : (sets : List (List ℕ)) (os : List Out) (o : Out) → Has (regrouped sets os) o → (c : Branch) × Has (branches os) c × Has (branch_outs sets c) o
regrouped_has sets os o h =
    let r = has_gathered (λ x. x ∷ []) (flat_map (branch_outs sets) (branches os)) o h in
    has_flat (branch_outs sets) (branches os) o (subst (Has (flat_map (branch_outs sets) (branches os))) (only r.2) r.1)

-- and the other way round
has_regrouped : (sets : List (List ℕ)) (os : List Out) (c : Branch) (o : Out) → Has (branches os) c → Has (branch_outs sets c) o → Has (regrouped sets os) o
has_regrouped sets os c o h k = gathered_has (λ x. x ∷ []) (flat_map (branch_outs sets) (branches os)) o o (flat_has (branch_outs sets) (branches os) c o h k) (inl refl)

-- the outs of the branches come in order to what is regrouped
pub regrouped_ordered : (sets : List (List ℕ)) (os all : List Out) → all ≡ flat_map (branch_outs sets) (branches os) → AreOrdered all (regrouped sets os)
regrouped_ordered sets os all e =
    let made = flat_map (branch_outs sets) (branches os) in
    subst (λ xs. AreOrdered xs (regrouped sets os)) (sym e) (record {
      sorted = gathered_strict (λ x. x ∷ []) made (λ o. (tt, tt));
      members = λ o. (
        λ c. let r = has_gathered (λ x. x ∷ []) made o (contains_has (regrouped sets os) o c) in has_contains made o (subst (Has made) (only r.2) r.1),
        λ c. has_contains (regrouped sets os) o (gathered_has (λ x. x ∷ []) made o o (contains_has made o c) (inl refl)),
      );
    })

-- the acts of branches are in range
branch_suits : (maxes : List ℕ) (b : Branch) (os : List Out) → IsActFrom maxes 0 b.act → Every (Suits maxes) os → (c : Branch) → Has (runs b os) c → IsActFrom maxes 0 c.act
branch_suits maxes b [] a e c h = subst (λ (z : Branch). IsActFrom maxes 0 z.act) (only h) a
branch_suits maxes b (o ∷ os) a e c h = by (ghosts.eq o.act b.act) h (branch_suits maxes (with_target b o.target) os a e.1 c) (branch_suits maxes (with_target (begun o.act) o.target) os e.0 e.1 c)
  where
    by : (t : Bool) → Has (cond t (runs (with_target b o.target) os) (b ∷ runs (with_target (begun o.act) o.target) os)) c →
        (Has (runs (with_target b o.target) os) c → IsActFrom maxes 0 c.act) → (Has (runs (with_target (begun o.act) o.target) os) c → IsActFrom maxes 0 c.act) → IsActFrom maxes 0 c.act
    by true k f g = f k
    by false (inl is) f g = subst (λ (z : Branch). IsActFrom maxes 0 z.act) is a
    by false (inr k) f g = g k

-- what is made of a branch has its act
branch_act : (sets : List (List ℕ)) (c : Branch) (o : Out) → Has (branch_outs sets c) o → c.act ≡ o.act
branch_act sets c o h = elim (has_either (final_of c.act c.targets) (out_to_set sets c.act (labels c.targets)) o h) [
  | inl k ↦ ap (λ (x : Out). x.act) (final_has c.act c.targets o k).0
  | inr k ↦ ap (λ (x : Out). x.act) (set_has sets c.act (labels c.targets) o k).1
]

-- the outs of the branches are in range
pub regrouped_suits : (maxes : List ℕ) (sets : List (List ℕ)) (os all : List Out) → all ≡ flat_map (branch_outs sets) (branches os) → Every (Suits maxes) os → Every (Suits maxes) all
regrouped_suits maxes sets os all is e =
    subst (Every (Suits maxes)) (sym is) (every_from (Suits maxes) (flat_map (branch_outs sets) (branches os)) (λ o h.
    let r = has_flat (branch_outs sets) (branches os) o h in
    subst (IsActFrom maxes 0) (branch_act sets r.0 o r.2) (branch_suits maxes (begun []) os tt e r.0 r.1)))

module _ (sets : List (List ℕ)) (os : List Out) (s : Strict os) where
  -- the finals are those of the leaf
  final_only : (g : List (ℕ × ℕ)) → Has (regrouped sets os) (record { act = g; target = 0 }) → Has os (record { act = g; target = 0 })
  final_only g h =
      let r = regrouped_has sets os (record { act = g; target = 0 }) h in
      let c = r.0 in
      elim (has_either (final_of c.act c.targets) (out_to_set sets c.act (labels c.targets)) (record { act = g; target = 0 }) r.2) [
        | inl k ↦
            let f = final_has c.act c.targets (record { act = g; target = 0 }) k in
            subst (λ a. Has os (record { act = a; target = 0 })) (ap (λ (x : Out). x.act) f.0) (target_has c.act os 0 (subst (λ ts. Has ts 0) (branches_are os s c r.1) f.1))
        | inr k ↦ let t : place_in sets (labels c.targets) + 1 ≡ 0 = ap (λ (x : Out). x.target) (set_has sets c.act (labels c.targets) (record { act = g; target = 0 }) k).1 in absurd (omega (arith, t))
      ]

  -- and stay so
  final_stays : (g : List (ℕ × ℕ)) → Has os (record { act = g; target = 0 }) → Has (regrouped sets os) (record { act = g; target = 0 })
  final_stays g h =
      let r = branch_for (begun []) os (record { act = g; target = 0 }) h in
      let c = r.0 in
      let there : Has c.targets 0 = subst (λ ts. Has ts 0) (sym (branches_are os s c r.1)) (has_target c.act os 0 (subst (λ a. Has os (record { act = a; target = 0 })) (sym r.2) h)) in
      subst (λ a. Has (regrouped sets os) (record { act = a; target = 0 })) r.2
      (has_regrouped sets os c (record { act = c.act; target = 0 }) r.1 (has_front (final_of c.act c.targets) (out_to_set sets c.act (labels c.targets)) _ (has_final c.act c.targets there)))

  -- an out to a further set: its act is recorded, and the set's place is that of all labels of the act
  pub next_only : (g : List (ℕ × ℕ)) (i : ℕ) → Has (regrouped sets os) (record { act = g; target = i + 1 }) → (l : ℕ) × (0 < l) × Has os (record { act = g; target = l }) × (place_in sets (labels_of g os) ≡ i)
  next_only g i h =
      let r = regrouped_has sets os (record { act = g; target = i + 1 }) h in
      let c = r.0 in
      let are = branches_are os s c r.1 in
      elim (has_either (final_of c.act c.targets) (out_to_set sets c.act (labels c.targets)) (record { act = g; target = i + 1 }) r.2) [
        | inl k ↦ let t : 0 ≡ i + 1 = ap (λ (x : Out). x.target) (final_has c.act c.targets (record { act = g; target = i + 1 }) k).0 in absurd (omega (arith, t))
        | inr k ↦
            let f = set_has sets c.act (labels c.targets) (record { act = g; target = i + 1 }) k in
            let act : c.act ≡ g = ap (λ (x : Out). x.act) f.1 in
            let t : place_in sets (labels c.targets) + 1 ≡ i + 1 = ap (λ (x : Out). x.target) f.1 in
            let l = label_has c.targets f.0.0 f.0.1 in
            let place : place_in sets (labels c.targets) ≡ i = omega (arith, t) in (
              f.0.0,
              l.0,
              subst (λ a. Has os (record { act = a; target = f.0.0 })) act (target_has c.act os f.0.0 (subst (λ ts. Has ts f.0.0) are l.1)),
              ap (λ a. place_in sets (labels_of a os)) (sym act) ∙ ap (λ ts. place_in sets (labels ts)) (sym are) ∙ place,
            )
      ]

  -- an act that some label records goes to the set of all labels of it
  pub next_there : (g : List (ℕ × ℕ)) (l : ℕ) → 0 < l → Has os (record { act = g; target = l }) → Has (regrouped sets os) (record { act = g; target = place_in sets (labels_of g os) + 1 })
  next_there g l p h =
      let r = branch_for (begun []) os (record { act = g; target = l }) h in
      let c = r.0 in
      let are = branches_are os s c r.1 in
      let there : Has (labels c.targets) l = has_label c.targets l p (subst (λ ts. Has ts l) (sym are) (has_target c.act os l (subst (λ a. Has os (record { act = a; target = l })) (sym r.2) h))) in
      let made : Has (regrouped sets os) (record { act = c.act; target = place_in sets (labels c.targets) + 1 }) = has_regrouped sets os c _ r.1 (has_back (final_of c.act c.targets) (out_to_set sets c.act (labels c.targets)) _ (has_set sets c.act (labels c.targets) l there)) in
      subst (λ a. Has (regrouped sets os) (record { act = a; target = place_in sets (labels_of a os) + 1 })) r.2
      (subst (λ ts. Has (regrouped sets os) (record { act = c.act; target = place_in sets (labels ts) + 1 })) are made)

  -- each act is one of the leaf's
  act_only : (o : Out) → Has (regrouped sets os) o → (t : ℕ) × Has os (record { act = o.act; target = t })
  act_only o h =
      let r = regrouped_has sets os o h in
      let c = r.0 in
      let are = branches_are os s c r.1 in
      elim (has_either (final_of c.act c.targets) (out_to_set sets c.act (labels c.targets)) o r.2) [
        | inl k ↦
            let f = final_has c.act c.targets o k in
            (0, subst (λ a. Has os (record { act = a; target = 0 })) (ap (λ (x : Out). x.act) f.0) (target_has c.act os 0 (subst (λ ts. Has ts 0) are f.1)))
        | inr k ↦
            let f = set_has sets c.act (labels c.targets) o k in
            let l = label_has c.targets f.0.0 f.0.1 in
            (f.0.0, subst (λ a. Has os (record { act = a; target = f.0.0 })) (ap (λ (x : Out). x.act) f.1) (target_has c.act os f.0.0 (subst (λ ts. Has ts f.0.0) are l.1)))
      ]

-- labels that are there are one of the sets, if there are any
there_holds : (sets : List (List ℕ)) (ls : List ℕ) (l : ℕ) → Has ls l → IsThere sets ls → holds sets ls ≡ true
there_holds sets [] l h t = absurd h
there_holds sets (x ∷ xs) l h t = t

-- a further set has exactly the labels of the acts that go to it
pub set_of_act : (sets : List (List ℕ)) (os : List Out) → Strict os → HasAll sets os → (g : List (ℕ × ℕ)) (i : ℕ) → Has (regrouped sets os) (record { act = g; target = i + 1 }) →
    IsSetOfMet sets i (λ l. Has os (record { act = g; target = l }))
set_of_act sets os s held g i h =
    let n = next_only sets os s g i h in
    let label : Has (labels_of g os) n.0 = has_label (targets_of g os) n.0 n.1 (has_target g os n.0 n.2) in
    let at = place_holds sets (labels_of g os) (there_holds sets (labels_of g os) n.0 label (held g)) in
    let members : get_or sets i [] ≡ labels_of g os = ap (λ j. get_or sets j []) (sym n.3) ∙ at.1 in
    record {
      within = subst (λ j. j < length sets) n.3 at.0;
      some = λ e. subst (λ ls. Has ls n.0) (sym members ∙ e) label;
      every = λ l. (
        λ m. let q = label_has (targets_of g os) l (subst (λ ls. Has ls l) members (contains_has (get_or sets i []) l m)) in (q.0, target_has g os l q.1),
        λ m. has_contains (get_or sets i []) l (subst (λ ls. Has ls l) (sym members) (has_label (targets_of g os) l m.0 (has_target g os l m.1))),
      );
    }

-- what a split leaf sends is by an exact act
leaf_exact : (maxes pk : List ℕ) (os : List Out) (g : List (ℕ × ℕ)) (t : ℕ) → InRange maxes pk → Contains (split_leaf maxes pk os) (record { act = g; target = t }) → IsExact pk g
leaf_exact maxes pk os g t range c =
    let s = has_gathered (λ x. exact_out maxes pk x ∷ []) os (record { act = g; target = t }) (contains_has (split_leaf maxes pk os) (record { act = g; target = t }) c) in
    subst (IsExact pk) (ap (λ (x : Out). x.act) (only s.2)) (exact_changes maxes pk s.0.act range)

module _ (old mid new : StoreState) (sets : List (List ℕ)) (ds : List ℕ) (d r : ℕ) (k : IsStateOf old mid new sets ds d r) where
  -- what the leaf has is what was regrouped
  to_leaf : (pk : List ℕ) (o : Out) → IsWhole pk → Contains (look new r pk) o → Has (regrouped sets (look mid d pk)) o
  to_leaf pk o w c = subst (λ os. Has os o) (k.leaves.leaf pk w) (contains_has (look new r pk) o c)

  -- and the other way round
  from_leaf : (pk : List ℕ) (o : Out) → IsWhole pk → Has (regrouped sets (look mid d pk)) o → Contains (look new r pk) o
  from_leaf pk o w h = has_contains (look new r pk) o (subst (λ os. Has os o) (sym (k.leaves.leaf pk w)) h)

  -- a member of the united diagrams is sent by one of them
  to_diagram : (pk : List ℕ) (g : List (ℕ × ℕ)) (t : ℕ) → IsWhole pk → Has (look mid d pk) (record { act = g; target = t }) → SomeSends old ds pk g t
  to_diagram pk g t w h = (k.together.sends pk g t w).0 (has_contains (look mid d pk) (record { act = g; target = t }) h)

  -- and the other way round
  from_diagram : (pk : List ℕ) (g : List (ℕ × ℕ)) (t : ℕ) → IsWhole pk → SomeSends old ds pk g t → Has (look mid d pk) (record { act = g; target = t })
  from_diagram pk g t w s = contains_has (look mid d pk) (record { act = g; target = t }) ((k.together.sends pk g t w).1 s)

  -- the finals of a set state
  pub finals_are : (pk : List ℕ) (g : List (ℕ × ℕ)) → IsWhole pk → Contains (look new r pk) (record { act = g; target = 0 }) ↔ SomeSends old ds pk g 0
  finals_are pk g w = (
    λ c. to_diagram pk g 0 w (final_only sets (look mid d pk) (k.sorted pk) g (to_leaf pk (record { act = g; target = 0 }) w c)),
    λ s. from_leaf pk (record { act = g; target = 0 }) w (final_stays sets (look mid d pk) (k.sorted pk) g (from_diagram pk g 0 w s)),
  )

  -- an out to a further set says exactly which labels follow
  pub next_is : (pk : List ℕ) (g : List (ℕ × ℕ)) (i : ℕ) → IsWhole pk → Contains (look new r pk) (record { act = g; target = i + 1 }) → AreFollowed sets old ds pk g i
  next_is pk g i w c =
      met_same sets i (λ l. Has (look mid d pk) (record { act = g; target = l })) (λ l. SomeSends old ds pk g l) (λ l. (λ h. to_diagram pk g l w h, λ q. from_diagram pk g l w q))
      (set_of_act sets (look mid d pk) (k.sorted pk) (k.held pk) g i (to_leaf pk (record { act = g; target = i + 1 }) w c))

  -- some diagram records an act that goes to a further set
  pub next_from : (pk : List ℕ) (g : List (ℕ × ℕ)) (i : ℕ) → IsWhole pk → Contains (look new r pk) (record { act = g; target = i + 1 }) → (l : ℕ) × SomeSends old ds pk g l
  next_from pk g i w c =
      let n = next_only sets (look mid d pk) (k.sorted pk) g i (to_leaf pk (record { act = g; target = i + 1 }) w c) in
      (n.0, to_diagram pk g n.0 w n.2)

  -- what some label records goes to a further set
  pub next_comes : (pk : List ℕ) (g : List (ℕ × ℕ)) (l : ℕ) → IsWhole pk → 0 < l → SomeSends old ds pk g l → (i : ℕ) × Contains (look new r pk) (record { act = g; target = i + 1 })
  next_comes pk g l w p s =
      let os = look mid d pk in
      (place_in sets (labels_of g os), from_leaf pk (record { act = g; target = place_in sets (labels_of g os) + 1 }) w (next_there sets os (k.sorted pk) g l p (from_diagram pk g l w s)))

  -- to one set alone
  pub next_once : (pk : List ℕ) (g : List (ℕ × ℕ)) (i j : ℕ) → IsWhole pk → Contains (look new r pk) (record { act = g; target = i + 1 }) → Contains (look new r pk) (record { act = g; target = j + 1 }) → i ≡ j
  next_once pk g i j w a b =
      let os = look mid d pk in
      sym (next_only sets os (k.sorted pk) g i (to_leaf pk (record { act = g; target = i + 1 }) w a)).3 ∙ (next_only sets os (k.sorted pk) g j (to_leaf pk (record { act = g; target = j + 1 }) w b)).3

  -- the acts are exact
  pub state_exact : AreExact new r
  state_exact pk p =
      let range : InRange old.maxes pk = subst (λ ms. InRange ms pk) k.maxes p in
      every_from (λ o. IsExact pk o.act) (look new r pk) (λ o h.
      let a = act_only sets (look mid d pk) (k.sorted pk) o (to_leaf pk o p.0 (has_contains (look new r pk) o h)) in
      let s = to_diagram pk o.act a.0 p.0 a.1 in
      leaf_exact old.maxes pk (look old s.0 pk) o.act a.0 range s.2)
