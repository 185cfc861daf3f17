use Rattle.std.proofs.lemmas.Result.{IfOk-weaker}
use Rattle.nk_reach.proofs.OneSided.{starts_of}
use Rattle.nk_reach.proofs.sides.marked_starts.Goals as goal

pub returns-clause-ok : goal.returns-clause-ok
returns-clause-ok c =
    IfOk-weaker c.union.result _ _
    (λ r k. starts_of c.args.st.now c.marked_ends.new.st c.marked_ends-2.new.st c.union.new.st c.args.left c.args.right c.in_ok-first.first c.in_ok-second.second r c.requires.right c.marked_ends.ensures.grows c.marked_ends-2.ensures.grows
    c.in_ok-first.ensures.ok c.in_ok-second.ensures.ok k) c.union.ensures.ok
