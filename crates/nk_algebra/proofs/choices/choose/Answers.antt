use Rattle.std.proofs.lemmas.Result.{IfOk-weaker}
use Rattle.nk_algebra.proofs.Chosen.{choices_parts}
use Rattle.nk_algebra.proofs.Cuts.{kept_choices, kept_leaves}
use Rattle.nk_algebra.proofs.choices.choose.Goals as goal

pub case-requires : goal.case-requires
case-requires c = choices_parts c.args.st.now c.args.f c.args.parts c.requires (c.are_later.ensures c.if-are_later.true)

pub choose_by-requires-clause-choices : goal.choose_by-requires-clause-choices
choose_by-requires-clause-choices c = kept_choices c.args.st.now c.args.f c.args.parts c.in_ok-kept.kept c.requires c.in_ok-kept.ensures

pub returns-clause-ok : goal.returns-clause-ok
returns-clause-ok c = IfOk-weaker c.choose_by.result _ _
    (λ d h. kept_leaves c.args.st.now c.choose_by.new.st c.args.f d c.args.parts c.in_ok-kept.kept c.requires c.in_ok-kept.ensures h) c.choose_by.ensures.ok
