use Rattle.std.proofs.Common.{◌≢◌, ◌∙◌, ap, length}
use Rattle.nk_policy.specs.Policy.{sum_of}
use Rattle.nk_policy.specs.Tree.{trees_of}
use Rattle.nk_policy.proofs.Trees.{tree_of_sum}
use Rattle.nk_sets.proofs.Printing.{sum_is}
use Rattle.nk_sets.proofs.predicate.sum.Goals as goal

pub returns-then-len-ne1 : goal.returns-then-len-ne1
returns-then-len-ne1 c =
    let several : length c.args.terms.items ≢ 1 = λ e. c.if-len-ne1.true (c.len.ensures ∙ c.args.terms.ok.0 ∙ e) in
    tree_of_sum c.new.result ∙ ap (λ v. sum_of (trees_of v)) (ap (λ v. v.items) c.new.ensures) ∙ sum_is c.args.terms.items several
