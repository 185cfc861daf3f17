use Rattle.std.proofs.Common.{ℕ, sym, subst, arith}
use Rattle.nk_store.specs.StoreState.{IsId}
use Rattle.nk_algebra.proofs.Chosen.{each_place}
use Rattle.nk_algebra.proofs.choices.earliest.Goals as goal

pub earlier-first-requires-clause-id : goal.earlier-first-requires-clause-id
earlier-first-requires-clause-id c = subst (λ (p : ℕ × ℕ). IsId c.args.st.now p.1) (sym c.at.ensures) (each_place (IsId c.args.st.now) c.args.parts.now c.loop-i.i c.at.result.now c.requires.ids (omega (arith, c.len-i-end.ensures, c.loop-i-test.true)))
