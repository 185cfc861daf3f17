use Rattle.std.proofs.Common.{[], get_or}
use Rattle.nk_backward.proofs.Tracing.{steps_from_of}
use Rattle.nk_backward.proofs.transitions.outs_from.Goals as goal

pub returns-clause-ok : goal.returns-clause-ok
returns-clause-ok c =
    steps_from_of c.args.st.now c.local_state.new.st c.packets_by_out.new.st c.local_state.new.ss c.args.states.now (get_or c.args.ss.now c.args.s []) c.args.x c.in_ok-d.d c.in_ok-outs.outs
    c.local_state.ensures.grows c.packets_by_out.ensures.grows c.in_ok-d.ensures.ok c.in_ok-outs.ensures.ok
