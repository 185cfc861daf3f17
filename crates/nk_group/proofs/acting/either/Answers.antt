use Rattle.std.proofs.Common.{◌∙◌}
use Rattle.std.proofs.lemmas.Result.{IfOk-weaker}
use Rattle.nk_group.proofs.Fronting.{either_made}
use Rattle.nk_group.proofs.acting.either.Goals as goal

pub returns-clause-ok : goal.returns-clause-ok
returns-clause-ok c =
    IfOk-weaker c.union.result _ _
    (λ r k. record {
      id = k.id;
      leaf = λ pk w.
          k.leaf pk w
          ∙ either_made c.args.st.now c.negate.new.st c.both.new.st c.both-2.new.st c.args.s c.args.first c.args.second c.in_ok-others.others c.in_ok-inside.inside c.in_ok-outside.outside
          c.negate.ensures.grows c.both.ensures.grows c.both-2.ensures.grows c.requires.set c.requires.first c.requires.second
          c.in_ok-others.ensures.ok c.in_ok-inside.ensures.ok c.in_ok-outside.ensures.ok pk w;
    })
    c.union.ensures.ok
