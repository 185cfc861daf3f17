use Rattle.std.proofs.Common.{List, ℕ, ap, sym, subst, ◌∙◌}
use Rattle.nk_policy.specs.declared.policy.Pol.{Pol}
use Rattle.nk_check.specs.Judged.{AreLabels}
use Rattle.nk_check.proofs.RowSets.{labels_of}
use Rattle.nk_check.proofs.judge.has_labels.Goals as goal

pub returns-clause-yes : goal.returns-clause-yes
returns-clause-yes c = λ e.
    let row = c.index-later-i.result in
    let same = c.as_slice.ensures ∙ ap (λ (r : List ℕ × Pol). r.0) (sym c.index-later-i.is) in
    subst (AreLabels c.args.count)
    (labels_of c.args.later.now c.args.i row c.as_slice.result.now c.requires c.index-later-i.is same)
    (c.are_labels.ensures.yes e)

pub returns-clause-no : goal.returns-clause-no
returns-clause-no c = λ e are.
    let row = c.index-later-i.result in
    let same = c.as_slice.ensures ∙ ap (λ (r : List ℕ × Pol). r.0) (sym c.index-later-i.is) in
    c.are_labels.ensures.no e
    (subst (AreLabels c.args.count)
    (sym (labels_of c.args.later.now c.args.i row c.as_slice.result.now c.requires c.index-later-i.is same)) are)
