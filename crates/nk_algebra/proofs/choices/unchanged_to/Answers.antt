use Rattle.std.proofs.Common.{ℕ, ◌≤◌, sym, subst, arith}
use Rattle.nk_store.specs.StoreState.{IsId, root_field}
use Rattle.nk_algebra.proofs.Chosen.{each_place}
use Rattle.nk_algebra.proofs.choices.unchanged_to.Goals as goal

pub part_at-until-requires-clause-id : goal.part_at-until-requires-clause-id
part_at-until-requires-clause-id c = subst (λ (p : ℕ × ℕ). IsId c.args.st.now p.1) (sym c.at.ensures) (each_place (IsId c.args.st.now) c.args.parts.now c.loop-i.i c.at.result.now c.requires.ids (omega (arith, c.len-i-end.ensures, c.loop-i-test.true)))

pub part_at-until-requires-clause-first : goal.part_at-until-requires-clause-first
part_at-until-requires-clause-first c = subst (λ (p : ℕ × ℕ). c.args.g ≤ root_field c.args.st.now p.1) (sym c.at.ensures) (each_place (λ k. c.args.g ≤ root_field c.args.st.now k) c.args.parts.now c.loop-i.i c.at.result.now c.requires.first (omega (arith, c.len-i-end.ensures, c.loop-i-test.true)))
