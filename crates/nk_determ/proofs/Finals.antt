-- A leaf of finals is what it is regrouped to, and has no labels.
use Rattle.std.proofs.Common.{◌≡◌, ℕ, ◌<◌, Bool, true, false, cond, nat_eq, ◌&&◌, List, [], ◌∷◌, refl, sym, ◌∙◌, ap, subst, arith, inl}
use Rattle.std.specs.List.{flat_map, list_all}
use Rattle.std.proofs.lemmas.Bool.Decides.{nat_tests}
use Rattle.nk_field.specs.contracts.act.ActPartialEq.TheImpl.{ghosts}
use Rattle.nk_store.specs.declared.node.Out.{Out}
use Rattle.nk_store.specs.Leaves.{out_cmp, Every, Strict}
use Rattle.std.specs.declared.cmp.Ordering.TheVariants.{Less}
use Rattle.nk_store.specs.StoreState.{StoreState, IsId, IsLeaf}
use Rattle.nk_apply.proofs.Members.{Has, every_has}
use Rattle.nk_apply.proofs.Gathers.{same_order}
use Rattle.nk_determ.specs.Branches.{with_target, begun, runs, branches, targets_of, labels_of}
use Rattle.nk_determ.specs.States.{IsThere, HasAll, IsRegrouped, branch_outs, regrouped}
use Rattle.nk_determ.proofs.Ascents.{act_decides, targets_rise}
use Rattle.nk_determ.proofs.Runs.{act_differs, target_has, label_has}
use Rattle.nk_determ.proofs.Regrouped.{regrouped_ordered}

-- each out is to the end
abbrev AreFinal : List Out → Type 0
AreFinal os = Every (λ o. o.target ≡ 0) os

-- so it is where the test of all passes
all_final : (os : List Out) → list_all (λ o. nat_eq o.target 0) os ≡ true → AreFinal os
all_final [] e = tt
all_final (o ∷ os) e = by (nat_eq o.target 0) refl e (λ k. all_final os k)
  where
    by : (b : Bool) → nat_eq o.target 0 ≡ b → b && list_all (λ x. nat_eq x.target 0) os ≡ true → (list_all (λ x. nat_eq x.target 0) os ≡ true → AreFinal os) → AreFinal (o ∷ os)
    by true is k go = let z : o.target ≡ 0 = grind (arith, nat_tests, is) in (z, go k)
    by false is k go = cc

-- a final out
abbrev final : List (ℕ × ℕ) → Out
final g = record { act = g; target = 0 }

-- an out to the end is the final of its act
is_final : (o : Out) → o.target ≡ 0 → final o.act ≡ o
is_final o e = λ i. record { act = o.act; target = sym e i }

-- two finals in order have different acts
finals_differ : (g h : List (ℕ × ℕ)) → out_cmp (final g) (final h) ≡ Less → h ≡ g → ⊥
finals_differ g h e same = let l : 0 < 0 = targets_rise g 0 0 (subst (λ a. out_cmp (final g) (final a) ≡ Less) same e) in absurd (omega (arith, l))

-- of a branch with a final and finals after it the same finals are made
finals_made : (sets : List (List ℕ)) (g : List (ℕ × ℕ)) (os : List Out) → Strict (final g ∷ os) → AreFinal os →
    flat_map (branch_outs sets) (runs (with_target (begun g) 0) os) ≡ final g ∷ os
finals_made sets g [] s f = refl
finals_made sets g (o ∷ os) s f =
    let is = is_final o f.0 in
    let other : ghosts.eq o.act g ≡ false = act_differs o.act g (finals_differ g o.act (subst (λ y. out_cmp (final g) y ≡ Less) (sym is) s.0.0)) in
    ap (λ b. flat_map (branch_outs sets) (cond b (runs (with_target (with_target (begun g) 0) o.target) os) (with_target (begun g) 0 ∷ runs (with_target (begun o.act) o.target) os))) other
    ∙ ap (λ t. final g ∷ flat_map (branch_outs sets) (runs (with_target (begun o.act) t) os)) f.0
    ∙ ap (λ xs. final g ∷ xs) (finals_made sets o.act os (subst (λ y. Strict (y ∷ os)) (sym is) s.1) f.1)
    ∙ ap (λ y. final g ∷ y ∷ os) is

-- of finals the same finals are made
finals_stay : (sets : List (List ℕ)) (os : List Out) → Strict os → AreFinal os → os ≡ flat_map (branch_outs sets) (branches os)
finals_stay sets [] s f = refl
finals_stay sets (o ∷ os) s f =
    let is = is_final o f.0 in
    let made : flat_map (branch_outs sets) (runs (with_target (begun o.act) o.target) os) ≡ o ∷ os =
    ap (λ t. flat_map (branch_outs sets) (runs (with_target (begun o.act) t) os)) f.0
    ∙ finals_made sets o.act os (subst (λ y. Strict (y ∷ os)) (sym is) s) f.1
    ∙ ap (λ y. y ∷ os) is in
    by (ghosts.eq o.act []) refl made
  where
    by : (b : Bool) → ghosts.eq o.act [] ≡ b → flat_map (branch_outs sets) (runs (with_target (begun o.act) o.target) os) ≡ o ∷ os →
        o ∷ os ≡ flat_map (branch_outs sets) (cond b (runs (with_target (begun []) o.target) os) (begun [] ∷ runs (with_target (begun o.act) o.target) os))
    by true e made = sym made ∙ ap (λ a. flat_map (branch_outs sets) (runs (with_target (begun a) o.target) os)) ((act_decides o.act []).0 e)
    by false e made = sym made

-- a leaf of finals is what it is regrouped to
finals_regrouped : (sets : List (List ℕ)) (os : List Out) → Strict os → AreFinal os → regrouped sets os ≡ os
finals_regrouped sets os s f =
    same_order os (regrouped sets os) os (regrouped_ordered sets os os (finals_stay sets os s f)) (record { sorted = s; members = λ o. (λ c. c, λ c. c) })

-- finals have no labels
finals_have : (sets : List (List ℕ)) (os : List Out) → AreFinal os → HasAll sets os
finals_have sets os f g = by (labels_of g os) refl
  where
    by : (ls : List ℕ) → labels_of g os ≡ ls → IsThere sets ls
    by [] e = tt
    by (l ∷ ls) e =
        let r = label_has (targets_of g os) l (subst (λ xs. Has xs l) (sym e) (inl refl)) in
        let zero : l ≡ 0 = every_has (λ o. o.target ≡ 0) os (record { act = g; target = l }) f (target_has g os l r.1) in
        absurd (omega (arith, zero, r.0))

-- the number of such a leaf is its regrouped diagram's
pub final_leaf : (st : StoreState) (sets : List (List ℕ)) (d : ℕ) (outs : List Out) → IsId st d → IsLeaf st d outs → list_all (λ o. nat_eq o.target 0) outs ≡ true → IsRegrouped st d st sets d
final_leaf st sets d outs i node e =
    let f = all_final outs e in
    record {
      leaves = λ later g. record { id = i; leaf = λ pk w. sym (ap (λ os. regrouped later os) (node.leaf pk) ∙ finals_regrouped later outs node.sorted f ∙ sym (node.leaf pk)) };
      held = λ pk. subst (HasAll sets) (sym (node.leaf pk)) (finals_have sets outs f);
    }
