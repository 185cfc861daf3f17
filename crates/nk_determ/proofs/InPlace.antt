-- A leaf's branches one after the other, each as the outs that stand next to each other with one act.
use Rattle.std.proofs.Common.{◌≡◌, ℕ, ◌<◌, Bool, true, false, cond, eqb, nat_eq, ◌||◌, List, [], ◌∷◌, ◌++◌, length, take, drop, get_or, refl, sym, ◌∙◌, ap, subst, arith, ◌⊎◌, inl, inr}
use Rattle.std.specs.List.{flat_map, list_any}
use Rattle.std.specs.List.Sorted.{IsStrictlyIncreasing}
use Rattle.std.proofs.lemmas.List.{append-nil}
use Rattle.nk_store.specs.declared.node.Out.{Out}
use Rattle.nk_store.specs.Leaves.{Strict}
use Rattle.nk_apply.proofs.Members.{Has}
use Rattle.nk_determ.specs.Branches.{Branch, branches, branches_in, first_act, targets_in, branch_of, labels}
use Rattle.nk_determ.specs.Sets.{SetsGrow}
use Rattle.nk_determ.specs.States.{IsThere, HasAll, final_of, branch_outs}
use Rattle.nk_determ.proofs.Runs.{labels_ascend}
use Rattle.nk_determ.proofs.HaveSets.{leaf_has}

-- the first act is that of the out at place 0
first_at : (outs : List Out) (d : Out) → 0 < length outs → (get_or outs 0 d).act ≡ first_act outs
first_at [] d l = absurd (omega (arith, l))
first_at (o ∷ os) d l = refl

-- what is cut off at a run's end
pub run_is : (outs run following : List Out) (n : ℕ) → branches_in outs ≡ branch_of (take n outs) ∷ branches_in (drop n outs) → run ≡ take n outs → following ≡ drop n outs →
    branches_in outs ≡ branch_of run ∷ branches_in following
run_is outs run following n e front back =
    e ∙ ap (λ os. branch_of os ∷ branches_in (drop n outs)) (sym front) ∙ ap (λ os. branch_of run ∷ branches_in os) (sym back)

-- a target is 0 where an out is to the end
any_ends : (outs : List Out) → list_any (λ t. eqb t 0) (targets_in outs) ≡ list_any (λ o. nat_eq o.target 0) outs
any_ends [] = refl
any_ends (o ∷ os) = ap (λ b. eqb o.target 0 || b) (any_ends os)

-- the final of outs of one act
final_is : (outs : List Out) (b : Bool) → list_any (λ o. nat_eq o.target 0) outs ≡ b → final_of (first_act outs) (targets_in outs) ≡ cond b (record { act = first_act outs; target = 0 } ∷ []) []
final_is outs b e = ap (λ t. cond t (record { act = first_act outs; target = 0 } ∷ []) []) (any_ends outs ∙ e)

-- is put after what was made before
pub final_put : (outs all new : List Out) (o : Out) (g : List (ℕ × ℕ)) → 0 < length outs → g ≡ (get_or outs 0 o).act → new ≡ all ++ record { act = g; target = 0 } ∷ [] →
    list_any (λ o. nat_eq o.target 0) outs ≡ true → new ≡ all ++ final_of (first_act outs) (targets_in outs)
final_put outs all new o g l copied put e =
    let act : g ≡ first_act outs = copied ∙ first_at outs o l in
    put ∙ ap (λ a. all ++ record { act = a; target = 0 } ∷ []) act ∙ ap (λ xs. all ++ xs) (sym (final_is outs true e))

-- and none is put where no out is to the end
pub final_left : (outs all : List Out) → list_any (λ o. nat_eq o.target 0) outs ≡ false → all ≡ all ++ final_of (first_act outs) (targets_in outs)
final_left outs all e = sym (append-nil all) ∙ ap (λ xs. all ++ xs) (sym (final_is outs false e))

-- what is done and what is left to do of a leaf, whose rest it is
pub record IsLeft (old sets : List (List ℕ)) (outs all rest : List Out) : Type 0 where
  pub grows : SetsGrow old sets
  pub made : (later : List (List ℕ)) → SetsGrow sets later → all ++ flat_map (branch_outs later) (branches_in rest) ≡ flat_map (branch_outs later) (branches outs)
  pub within : (c : Branch) → Has (branches_in rest) c → Has (branches outs) c
  pub there : (c : Branch) → Has (branches outs) c → Has (branches_in rest) c ⊎ IsThere sets (labels c.targets)

module _ (old sets : List (List ℕ)) (outs all rest run following : List Out) (k : IsLeft old sets outs all rest) (is : branches_in rest ≡ branch_of run ∷ branches_in following) where
  -- the labels of the run ascend
  pub run_ascends : Strict outs → IsStrictlyIncreasing (labels (targets_in run))
  run_ascends s = labels_ascend outs s (branch_of run) (k.within (branch_of run) (subst (λ bs. Has bs (branch_of run)) (sym is) (inl refl)))

-- where nothing is left, the leaf has its sets
pub all_there : (old sets : List (List ℕ)) (outs all rest : List Out) → length rest ≡ 0 → Strict outs → IsLeft old sets outs all rest → HasAll sets outs
all_there old sets outs all rest e s k = leaf_has sets outs s (λ c h. elim (k.there c h) [ inl j ↦ absurd (none_in rest c e j) | inr t ↦ t ])
  where
    none_in : (os : List Out) (c : Branch) → length os ≡ 0 → Has (branches_in os) c → ⊥
    none_in [] c e j = j
    none_in (o ∷ os) c e j = absurd (omega (arith, e))
