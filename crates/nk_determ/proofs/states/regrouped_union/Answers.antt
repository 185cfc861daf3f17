use Rattle.std.proofs.Common.{◌∙◌}
use Rattle.std.proofs.lemmas.Result.{IfOk-weaker}
use Rattle.nk_determ.proofs.Interned.{sets_same}
use Rattle.nk_determ.proofs.states.regrouped_union.Goals as goal

pub returns-clause-made : goal.returns-clause-made
returns-clause-made c = IfOk-weaker c.regroup.result _ _ (λ r h. (
  c.together.new.st,
  c.in_ok-d.d,
  record {
    together = c.in_ok-d.ensures.ok;
    sorted = λ pk. (c.laws.ensures.tidy c.in_ok-d.d).sorted pk;
    leaves = h.leaves c.regroup.new.ss (sets_same c.regroup.new.ss);
    held = h.held;
    maxes = c.regroup.ensures.grows.maxes ∙ c.together.ensures.grows.maxes;
  },
)) (c.regroup.ensures.ok)
