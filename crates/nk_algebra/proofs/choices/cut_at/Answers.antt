use Rattle.std.proofs.Common.{ℕ, ◌≤◌, ◌<◌, List, [], ◌∷◌, ◌++◌, take, length, sym, subst, arith}
use Rattle.nk_store.specs.StoreState.{IsId, root_field}
use Rattle.nk_algebra.specs.Choices.{IsCut}
use Rattle.nk_algebra.proofs.Chosen.{each_place}
use Rattle.nk_algebra.proofs.Cuts.{cut_push, taken}
use Rattle.nk_algebra.proofs.choices.cut_at.Goals as goal

pub part_at-until-requires-clause-id : goal.part_at-until-requires-clause-id
part_at-until-requires-clause-id c = subst (λ (p : ℕ × ℕ). IsId c.args.st.now p.1) (sym c.at.ensures) (each_place (IsId c.args.st.now) c.args.parts.now c.loop-i.i c.at.result.now c.requires.ids (omega (arith, c.len-i-end.ensures, c.loop-i-test.true)))

pub part_at-until-requires-clause-first : goal.part_at-until-requires-clause-first
part_at-until-requires-clause-first c = subst (λ (p : ℕ × ℕ). c.args.g ≤ root_field c.args.st.now p.1) (sym c.at.ensures) (each_place (λ k. c.args.g ≤ root_field c.args.st.now k) c.args.parts.now c.loop-i.i c.at.result.now c.requires.first (omega (arith, c.len-i-end.ensures, c.loop-i-test.true)))

pub loop-i-preserved : goal.loop-i-preserved
loop-i-preserved c =
    let st = c.args.st.now in
    let ps = c.args.parts.now in
    let p = c.at.result.now in
    let less : c.loop-i.i < length ps = omega (arith, c.len-i-end.ensures, c.loop-i-test.true) in
    let next = cut_push st c.args.g c.args.v c.loop-i.end c.min-end.result (take c.loop-i.i ps) c.loop-i.cut p c.part_at-until.result c.loop-i.invariant c.part_at-until.ensures c.min-end.ensures in
    subst (λ (qs : List (ℕ × ℕ)). IsCut st c.args.g c.args.v qs (c.min-end.result, c.push.new.self)) (sym (taken ps c.loop-i.i p less c.at.ensures))
    (subst (λ (cut : List (ℕ × ℕ)). IsCut st c.args.g c.args.v (take c.loop-i.i ps ++ p ∷ []) (c.min-end.result, cut)) (sym c.in_ok-push.ensures.ok) next)
