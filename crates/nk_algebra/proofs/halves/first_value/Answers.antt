use Rattle.std.proofs.Common.{◌≡◌, ℕ, ◌-◌, ◌+◌, ◌≤◌, suc, ◌∙◌, sym, ap, arith, get_or}
use Rattle.nk_algebra.specs.Halves.{start}
use Rattle.nk_algebra.proofs.Halved.{start_next, end_within}
use Rattle.nk_algebra.proofs.halves.first_value.Goals as goal

starts : (c : goal.After-at) → c.at.result.now.0 + 1 ≡ start 0 c.args.parts.now c.args.k
starts c =
    let k = c.args.k in
    let up : suc (k - 1) ≡ k = omega (arith, c.if-k-eq0.false) in
    sym (ap (λ n. start 0 c.args.parts.now n) (sym up) ∙ start_next 0 c.args.parts.now (k - 1) c.at.result.now (omega (arith, c.requires.within)) ∙ ap (λ (p : ℕ × ℕ). p.0 + 1) (sym c.at.ensures))

pub overflow_add-result : goal.overflow_add-result
overflow_add-result c =
    let ends = end_within (get_or c.args.st.now.maxes c.args.f 0) 0 c.args.parts.now c.args.k c.at.result.now c.requires.choices.rise c.requires.within in
    let most : c.at.result.now.0 + 1 ≤ c.max-max.result = omega (arith, starts c, ends.0, ends.1, c.max-max.ensures) in
    omega (arith, most)

pub returns-else-k-eq0 : goal.returns-else-k-eq0
returns-else-k-eq0 c = starts c
