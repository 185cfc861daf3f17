use Rattle.std.proofs.Common.{◌∙◌}
use Rattle.std.proofs.lemmas.List.{get_or_default}
use Rattle.nk_apply.proofs.Alone.{first_alone, next_alone}
use Rattle.nk_apply.proofs.unions.alone.Goals as goal

pub loop-i-init : goal.loop-i-init
loop-i-init c =
    first_alone c.args.st.now c.args.ds.now c.index-ds-0.result c.requires.ids c.requires.some
    (c.index-ds-0.is ∙ get_or_default c.args.ds.now 0 c.index-ds-0.result 0 c.requires.some)

pub loop-i-preserved : goal.loop-i-preserved
loop-i-preserved c =
    next_alone c.args.st.now c.args.ds.now c.loop-i.i c.loop-i.found c.index-ds-i.result c.in-Some.d c.laws.ensures.tidy c.loop-i.invariant
    (c.index-ds-i.is ∙ get_or_default c.args.ds.now c.loop-i.i c.index-ds-i.result 0 c.loop-i-test.true) c.in-Some.ensures
