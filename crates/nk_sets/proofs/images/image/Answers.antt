use Rattle.std.proofs.lemmas.Result.{IfOk-weaker}
use Rattle.nk_sets.proofs.Imaging.{image_is}
use Rattle.nk_sets.proofs.images.image.Goals as goal

pub returns-clause-ok : goal.returns-clause-ok
returns-clause-ok c =
    IfOk-weaker c.assigned.result _ _
    (λ d h. image_is c.args.st.now c.forget_all.new.st c.assigned.new.st c.args.a.now c.args.s c.in_ok-free.free d c.forget_all.ensures.grows c.requires.act c.in_ok-free.ensures.ok h)
    c.assigned.ensures.ok
