use Rattle.std.proofs.lemmas.Result.{IfOk-weaker}
use Rattle.nk_sets.proofs.Imaging.{preimage_is}
use Rattle.nk_sets.proofs.images.preimage.Goals as goal

pub returns-clause-ok : goal.returns-clause-ok
returns-clause-ok c =
    IfOk-weaker c.shift.result _ _ (λ r h. preimage_is c.args.st.now c.shift.new.st c.args.a.now c.args.s r c.requires h) c.shift.ensures.ok
