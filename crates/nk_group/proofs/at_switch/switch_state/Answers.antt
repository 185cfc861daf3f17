use Rattle.std.proofs.Common.{◌∙◌, refl, sym, subst, ap, length}
use Rattle.nk_apply.specs.Unions.{AreIds}
use Rattle.nk_determ.specs.States.{HaveEach}
use Rattle.nk_determ.proofs.Together.{each_ids}
use Rattle.nk_group.proofs.Cutting.{cut_each, state_cut}
use Rattle.nk_group.proofs.at_switch.switch_state.Goals as goal

pub state_of-requires : goal.state_of-requires
state_of-requires c =
    subst (AreIds c.cut_states.new.st) (sym c.as_slice.ensures)
    (each_ids c.cut_states.new.st c.in_ok-cut.cut (length c.in_ok-cut.cut) (cut_each c.args.st.now c.args.states.now c.args.members.now c.args.sw) refl c.in_ok-cut.ensures.ok)

pub returns-clause-state : goal.returns-clause-state
returns-clause-state c =
    state_cut c.args.st.now c.cut_states.new.st c.state_of.new.st c.args.states.now c.args.members.now c.as_slice.result.now c.args.sw
    c.cut_states.ensures.grows c.state_of.ensures.grows c.requires.states c.requires.places
    (ap length c.as_slice.ensures ∙ c.in_ok-cut.ensures.len)
    (subst (λ ds. HaveEach c.cut_states.new.st ds (cut_each c.args.st.now c.args.states.now c.args.members.now c.args.sw) (length ds)) (sym c.as_slice.ensures) c.in_ok-cut.ensures.ok)
    c.state_of.new.ss c.in_ok-d.d c.in_ok-d.ensures.id c.in_ok-d.ensures.exact c.in_ok-d.ensures.ends c.in_ok-d.ensures.leads c.in_ok-d.ensures.led
