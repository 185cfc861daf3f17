use Rattle.std.proofs.lemmas.Result.{IfOk-weaker}
use Rattle.nk_sets.proofs.SetTrees.{set_reduced, set_leaves}
use Rattle.nk_sets.proofs.Keeping.{set_exact}
use Rattle.nk_sets.proofs.predicate.set_pol.Goals as goal

pub returns : goal.returns
returns c =
    IfOk-weaker c.policy.result _ _
    (λ p e. record {
      is = e;
      reduced = set_reduced c.args.st.now c.args.s c.laws-laws.ensures.sound c.requires.id;
      leaves = λ pk r. set_leaves c.args.st.now c.args.s pk c.laws-laws.ensures.sound c.requires.id r;
      keeps = λ pk r. set_exact c.args.st.now c.args.s _ pk c.laws-laws.ensures.sound c.requires.id r e;
    })
    c.policy.ensures
