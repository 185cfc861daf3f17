use Rattle.std.proofs.lemmas.Result.{on_ok_weaker}
use Rattle.nk_determ.specs.Unchanged.{leaf_values}
use Rattle.nk_determ.proofs.Collected.{among_back}
use Rattle.nk_determ.proofs.assigned.ValuesOfCollector.add.Goals as goal

pub returns-clause-ok : goal.returns-clause-ok
returns-clause-ok c = on_ok_weaker c.add_values.result
    (λ e. among_back c.args.found.now (leaf_values c.args.self.now.field c.args.outs.now) c.add_values.new.found e) c.add_values.ensures.ok
