-- The violations of one side.
use Rattle.std.proofs.Common.{◌≡◌, ℕ, zero, suc, inl, refl, sym, subst, Some, None, List, [], ◌∷◌, Contains}
use Rattle.nk_store.specs.declared.node.Out.{Out}
use Rattle.nk_apply.proofs.Members.{Has, has_contains, contains_has, gathered_has, has_gathered}
use Rattle.nk_determ.specs.Targets.{out_by_table, retargeted}
use Rattle.nk_witness.specs.Finds.{target_of}
use Rattle.nk_witness.specs.declared.found.Side.{Side}
use Rattle.nk_witness.specs.declared.found.Side.TheVariants.{Left, Right}
use Rattle.nk_backward.specs.CounterexampleStarts.{of_side}

-- a list that isn't empty has a member
some_member : (os : List Out) → (os ≡ [] → ⊥) → (o : Out) × Has os o
some_member [] n = absurd (n refl)
some_member (o ∷ os) n = (o, inl refl)

-- a list with a member isn't empty
member_some : (os : List Out) (o : Out) → Has os o → os ≡ [] → ⊥
member_some [] o h e = h
member_some (p ∷ ps) o h e = absurd cc

-- an out with that act and target
abbrev to : List (ℕ × ℕ) → ℕ → Out
to g t = record { act = g; target = t }

-- a left out of the table is of an out with target 0
left_out : (p o : Out) → Has (out_by_table (Some 0 ∷ []) p) o → p.target ≡ 0
left_out p o k = at p.target refl
  where
    at : (t : ℕ) → p.target ≡ t → p.target ≡ 0
    at zero e = e
    at (suc t) e = let q : ⊥ = subst (λ (t : ℕ). Has (out_by_table (Some 0 ∷ []) (to p.act t)) o) e k in absurd q

-- a right one is of an out with target 1
right_out : (p o : Out) → Has (out_by_table (None ∷ Some 0 ∷ []) p) o → p.target ≡ 1
right_out p o k = at p.target refl
  where
    at : (t : ℕ) → p.target ≡ t → p.target ≡ 1
    at zero e = let q : ⊥ = subst (λ (t : ℕ). Has (out_by_table (None ∷ Some 0 ∷ []) (to p.act t)) o) e k in absurd q
    at (suc zero) e = e
    at (suc (suc t)) e = let q : ⊥ = subst (λ (t : ℕ). Has (out_by_table (None ∷ Some 0 ∷ []) (to p.act t)) o) e k in absurd q

-- where a side has a violation, one of the violations has its target
pub side_has : (side : Side) (outs : List Out) → (of_side side outs ≡ [] → ⊥) → (o : Out) × Contains outs o × (o.target ≡ target_of side)
side_has Left outs n =
    let m = some_member (retargeted (Some 0 ∷ []) outs) n in
    let w = has_gathered (out_by_table (Some 0 ∷ [])) outs m.0 m.1 in
    (w.0, has_contains outs w.0 w.1, left_out w.0 m.0 w.2)
side_has Right outs n =
    let m = some_member (retargeted (None ∷ Some 0 ∷ []) outs) n in
    let w = has_gathered (out_by_table (None ∷ Some 0 ∷ [])) outs m.0 m.1 in
    (w.0, has_contains outs w.0 w.1, right_out w.0 m.0 w.2)

-- where one of the violations has a side's target, the side has a violation
pub has_side : (side : Side) (outs : List Out) (o : Out) → Contains outs o → o.target ≡ target_of side → of_side side outs ≡ [] → ⊥
has_side Left outs o c e =
    member_some (retargeted (Some 0 ∷ []) outs) (to o.act 0)
    (gathered_has (out_by_table (Some 0 ∷ [])) outs o (to o.act 0) (contains_has outs o c) (subst (λ (t : ℕ). Has (out_by_table (Some 0 ∷ []) (to o.act t)) (to o.act 0)) (sym e) (inl refl)))
has_side Right outs o c e =
    member_some (retargeted (None ∷ Some 0 ∷ []) outs) (to o.act 0)
    (gathered_has (out_by_table (None ∷ Some 0 ∷ [])) outs o (to o.act 0) (contains_has outs o c) (subst (λ (t : ℕ). Has (out_by_table (None ∷ Some 0 ∷ []) (to o.act t)) (to o.act 0)) (sym e) (inl refl)))
