use Rattle.std.proofs.Common.{◌≡◌, true, ◌+◌, ◌∙◌, ap, subst, [], ◌∷◌, ◌++◌}
use Rattle.nk_determ.specs.Sets.{holds, place_in}
use Rattle.nk_steps.proofs.single.target_single.Goals as goal

pub returns-clause-ok : goal.returns-clause-ok
returns-clause-ok c = λ later g.
    let are : c.push.new.self ≡ c.args.label ∷ [] = c.in_ok-push.ensures.ok ∙ ap (λ ls. ls ++ c.args.label ∷ []) c.in_ok-labels.ensures in
    c.target.ensures ∙ ap (λ i. i + 1) (c.in_ok-s.ensures.is later g) ∙ ap (λ ls. place_in later ls + 1) are

pub returns-clause-there : goal.returns-clause-there
returns-clause-there c =
    let are : c.push.new.self ≡ c.args.label ∷ [] = c.in_ok-push.ensures.ok ∙ ap (λ ls. ls ++ c.args.label ∷ []) c.in_ok-labels.ensures in
    subst (λ ls. holds c.put.new.self ls ≡ true) are c.in_ok-s.ensures.there
