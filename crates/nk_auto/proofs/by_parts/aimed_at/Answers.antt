use Rattle.std.proofs.lemmas.Result.{IfOk-weaker}
use Rattle.nk_policy.specs.Tree.{tree_of}
use Rattle.nk_auto.proofs.OfParts.{aim_aimed}
use Rattle.nk_auto.proofs.by_parts.aimed_at.Goals as goal

pub returns-clause-ok : goal.returns-clause-ok
returns-clause-ok c =
    IfOk-weaker c.aim.result _ _
    (λ r h. aim_aimed c.silent.new.st c.aim.new.st c.in_ok-d.d r c.args.target (tree_of c.args.p.now) c.aim.ensures.grows c.in_ok-d.ensures.ok h)
    c.aim.ensures.ok
