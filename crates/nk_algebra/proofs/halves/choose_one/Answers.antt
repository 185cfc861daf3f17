use Rattle.std.proofs.Common.{ℕ, sym, subst, ap}
use Rattle.std.proofs.lemmas.Result.{IfOk-weaker}
use Rattle.nk_store.specs.StoreState.{IsId}
use Rattle.nk_algebra.proofs.Chosen.{each_place}
use Rattle.nk_algebra.proofs.Halved.{chosen_one}
use Rattle.nk_algebra.proofs.halves.choose_one.Goals as goal

pub both_later-requires-clause-right : goal.both_later-requires-clause-right
both_later-requires-clause-right c = c.range.ensures.grows.ids _ (subst (λ (p : ℕ × ℕ). IsId c.args.st.now p.1) (sym c.at.ensures) (each_place (IsId c.args.st.now) c.args.parts.now c.args.k c.at.result.now c.requires.choices.ids c.requires.within))

pub returns-clause-ok : goal.returns-clause-ok
returns-clause-ok c = IfOk-weaker c.both_later.result _ _
    (λ d h. chosen_one c.args.st.now c.range.new.st c.both_later.new.st c.args.f c.args.parts.now c.args.k c.first_value-from.result c.at.result.now.0 c.at.result.now.1 c.in_ok-guard.guard d c.at.result.now
    c.requires.choices c.requires.within c.first_value-from.ensures (ap (λ (p : ℕ × ℕ). p.0) c.at.ensures) (ap (λ (p : ℕ × ℕ). p.1) c.at.ensures) c.range.ensures.grows c.in_ok-guard.ensures.ok h) c.both_later.ensures.ok
