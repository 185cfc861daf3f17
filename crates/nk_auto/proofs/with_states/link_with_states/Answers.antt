use Rattle.std.proofs.Common.{◌+◌, subst}
use Rattle.nk_policy.specs.Policy.{link}
use Rattle.nk_auto.specs.Continued.{IsPut}
use Rattle.nk_auto.proofs.Going.{continued_grow}
use Rattle.nk_auto.proofs.Writing.{link_written}
use Rattle.nk_auto.proofs.with_states.link_with_states.Goals as goal

pub returns-then-len-eq0-clause-ok : goal.returns-then-len-eq0-clause-ok
returns-then-len-eq0-clause-ok c = c.in_ok-d.ensures.ok c.args.target.0 c.args.target.1 c.args.next c.requires

pub returns-clause-ok : goal.returns-clause-ok
returns-clause-ok c =
    continued_grow c.link_start.new.st c.link_rest.new.st c.in_ok-d.d (link c.args.source.0 c.args.source.1 c.args.target.0 c.args.target.1 c.args.l) c.args.next c.link_rest.ensures.grows
    (c.in_ok-d.ensures.ok c.args.target.0 c.args.target.1 c.args.next c.requires)

pub returns-clause-written : goal.returns-clause-written
returns-clause-written c =
    let next_id = c.link_start.ensures.grows.ids c.args.next c.requires in
    link_written c.link_rest.new.st c.args.states.now c.write_state.new.states c.write_state-2.new.states c.args.base c.args.source.0 c.args.source.1 c.args.target.0 c.args.target.1 c.args.l c.in_ok-moved.moved c.args.next
    (subst (λ x. IsPut c.args.states.now c.write_state.new.states c.args.base (x + 1) c.args.next) c.from.ensures c.write_state.ensures)
    (subst (λ x. IsPut c.write_state.new.states c.write_state-2.new.states c.args.base x c.in_ok-moved.moved) c.from-2.ensures c.write_state-2.ensures)
    (c.link_rest.ensures.grows.ids c.args.next next_id)
    (c.in_ok-moved.ensures.ok c.args.next next_id)
