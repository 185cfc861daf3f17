use Rattle.std.proofs.Common.{refl}
use Rattle.std.proofs.lemmas.Result.{IfOk-weaker}
use Rattle.nk_reach.proofs.Marking.{marked_of}
use Rattle.nk_reach.proofs.sides.marked_ends.Goals as goal

pub returns-clause-ok : goal.returns-clause-ok
returns-clause-ok c =
    IfOk-weaker c.split.result _ _
    (λ r k. marked_of c.args.st.now c.retarget.new.st c.split.new.st c.args.d c.in_ok-finals.finals r c.args.mark _ refl c.retarget.ensures.grows.maxes c.in_ok-finals.ensures.ok k) c.split.ensures.ok
