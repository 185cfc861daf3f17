use Rattle.std.proofs.Common.{ℕ, ◌≤◌, ◌∙◌, sym, subst, arith}
use Rattle.nk_apply.proofs.Parts.{found_serves}
use Rattle.nk_apply.proofs.part.found_near.Goals as goal

pub returns-clause-from : goal.returns-clause-from
returns-clause-from c =
    subst (λ (q : ℕ × ℕ). c.args.v ≤ q.0) (sym (c.index-parts-place.is ∙ c.place_near-place.ensures.found c.index-parts-place.result))
    (found_serves c.args.max 0 0 c.args.v (0, 0) c.args.parts.now c.requires.rise (omega arith) c.requires.within).from

pub returns-clause-within : goal.returns-clause-within
returns-clause-within c =
    subst (λ (q : ℕ × ℕ). q.0 ≤ c.args.max) (sym (c.index-parts-place.is ∙ c.place_near-place.ensures.found c.index-parts-place.result))
    (found_serves c.args.max 0 0 c.args.v (0, 0) c.args.parts.now c.requires.rise (omega arith) c.requires.within).within
