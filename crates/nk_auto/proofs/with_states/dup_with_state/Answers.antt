use Rattle.std.proofs.Common.{subst}
use Rattle.nk_auto.specs.Continued.{IsPut}
use Rattle.nk_auto.proofs.Writing.{dup_written}
use Rattle.nk_auto.proofs.with_states.dup_with_state.Goals as goal

pub returns-clause-written : goal.returns-clause-written
returns-clause-written c =
    dup_written c.before_dup.new.st c.args.states.now c.write_state.new.states c.args.base c.args.l c.args.next
    (subst (λ x. IsPut c.args.states.now c.write_state.new.states c.args.base x c.args.next) c.from.ensures c.write_state.ensures)
    (c.before_dup.ensures.grows.ids c.args.next c.requires)
