use Rattle.std.proofs.Common.{[], ◌∙◌, length, get_or, refl, sym, subst, ap}
use Rattle.nk_apply.specs.Unions.{AreIds}
use Rattle.nk_determ.specs.States.{HaveEach}
use Rattle.nk_determ.proofs.Together.{each_ids}
use Rattle.nk_steps.proofs.Cutting.{cut_each}
use Rattle.nk_steps.proofs.Locals.{state_at_of}
use Rattle.nk_steps.proofs.local.cut_first.Goals as goal

pub steps_together-requires : goal.steps_together-requires
steps_together-requires c =
    subst (AreIds c.cut_states.new.st) (sym c.as_slice.ensures)
    (each_ids c.cut_states.new.st c.in_ok-cut.cut (length c.in_ok-cut.cut) (cut_each c.args.st.now c.args.states.now c.members.result.now c.args.x) refl c.in_ok-cut.ensures.ok)

pub returns-clause-ok : goal.returns-clause-ok
returns-clause-ok c =
    state_at_of c.args.st.now c.cut_states.new.st c.steps_together.new.st c.steps_together.new.ss c.args.states.now c.as_slice.result.now (get_or c.args.ss.now c.args.s []) c.args.x c.in_ok-d.d
    c.cut_states.ensures.grows c.steps_together.ensures.grows
    (ap length c.as_slice.ensures ∙ c.in_ok-cut.ensures.len ∙ ap length c.members.ensures.is)
    (subst (λ ls. HaveEach c.cut_states.new.st c.as_slice.result.now (cut_each c.args.st.now c.args.states.now ls c.args.x) (length c.as_slice.result.now)) c.members.ensures.is
    (subst (λ ds. HaveEach c.cut_states.new.st ds (cut_each c.args.st.now c.args.states.now c.members.result.now c.args.x) (length ds)) (sym c.as_slice.ensures) c.in_ok-cut.ensures.ok))
    c.differ.ensures.ascend c.laws.ensures.tidy c.in_ok-d.ensures.id c.in_ok-d.ensures.leads c.in_ok-d.ensures.led
