use Rattle.std.proofs.Common.{[], ◌<◌, ◌↔◌, ◌∙◌, ℕ, List, length, get_or, sym, subst, ap, Contains}
use Rattle.std.specs.Prelude.{All, map}
use Rattle.nk_apply.specs.Unions.{AreIds}
use Rattle.nk_determ.proofs.StatesAt.{states_ids}
use Rattle.nk_steps.proofs.Alike.{ids_alike}
use Rattle.nk_steps.proofs.Locals.{state_cut_of}
use Rattle.nk_steps.proofs.local.local_state.Goals as goal

pub acts_of-requires : goal.acts_of-requires
acts_of-requires c =
    subst (AreIds c.args.st.now) (sym c.as_slice-diagrams.ensures)
    (ids_alike c.args.st.now c.each_once-once.result c.in_ok-all.all (λ d. (c.each_once-once.ensures.members d).0)
    (states_ids c.args.st.now c.args.states.now c.members.result.now c.in_ok-all.all c.in_ok-all.ensures c.requires.states.ids
    (subst (λ ls. All (λ l. l < length c.args.states.now) ls) (sym c.members.ensures.is) c.requires.places)))

pub steps_by_act-requires-clause-ids : goal.steps_by_act-requires-clause-ids
steps_by_act-requires-clause-ids c =
    subst (AreIds c.args.st.now) (sym c.as_slice-diagrams.ensures)
    (ids_alike c.args.st.now c.each_once-once.result c.in_ok-all.all (λ d. (c.each_once-once.ensures.members d).0)
    (states_ids c.args.st.now c.args.states.now c.members.result.now c.in_ok-all.all c.in_ok-all.ensures c.requires.states.ids
    (subst (λ ls. All (λ l. l < length c.args.states.now) ls) (sym c.members.ensures.is) c.requires.places)))

pub returns-clause-ok : goal.returns-clause-ok
returns-clause-ok c =
    state_cut_of c.args.st.now c.steps_by_act.new.st c.at_packets.new.st c.steps_by_act.new.ss c.args.states.now c.in_ok-all.all c.as_slice-diagrams.result.now (get_or c.args.ss.now c.args.s []) c.args.x c.in_ok-steps.steps c.in_ok-d.d
    c.steps_by_act.ensures.grows c.at_packets.ensures.grows c.requires.packets.id
    (c.in_ok-all.ensures ∙ ap (λ ls. map (λ l. get_or c.args.states.now l 0) ls) c.members.ensures.is)
    (subst (λ (xs : List ℕ). (d : ℕ) → Contains xs d ↔ Contains c.in_ok-all.all d) (sym c.as_slice-diagrams.ensures) c.each_once-once.ensures.members)
    c.differ.ensures.ascend c.laws.ensures.tidy c.in_ok-d.ensures.ok c.in_ok-steps.ensures.leads c.in_ok-steps.ensures.led
