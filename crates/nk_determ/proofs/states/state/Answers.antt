use Rattle.std.proofs.Common.{◌≡◌, ℕ, ◌∙◌, List, [], ap, get_or}
use Rattle.std.specs.Prelude.{map}
use Rattle.nk_determ.specs.States.{SomeSends, SomeLeads, StateSends, StateLeads}
use Rattle.nk_determ.proofs.StatesAt.{states_ids, sends_states, leads_states, met_same}
use Rattle.nk_determ.proofs.states.state.Goals as goal

pub state_of-requires : goal.state_of-requires
state_of-requires c =
    let labels : List ℕ = get_or c.args.ss.now c.args.s [] in
    let are : c.as_slice.result.now ≡ map (λ l. get_or c.args.states.now l 0) labels = c.as_slice.ensures ∙ c.in_ok-diagrams.ensures ∙ ap (λ (ls : List ℕ). map (λ l. get_or c.args.states.now l 0) ls) c.members.ensures.is in
    states_ids c.args.st.now c.args.states.now labels c.as_slice.result.now are c.requires.states c.requires.places

pub returns-clause-finals : goal.returns-clause-finals
returns-clause-finals c = λ pk g w.
    let labels : List ℕ = get_or c.args.ss.now c.args.s [] in
    let are : c.as_slice.result.now ≡ map (λ l. get_or c.args.states.now l 0) labels = c.as_slice.ensures ∙ c.in_ok-diagrams.ensures ∙ ap (λ (ls : List ℕ). map (λ l. get_or c.args.states.now l 0) ls) c.members.ensures.is in
    let e = c.in_ok-r.ensures.finals pk g w in
    let s = sends_states c.args.st.now c.args.states.now labels c.as_slice.result.now are pk g 0 in
    (λ m. s.0 (e.0 m), λ m. e.1 (s.1 m))

pub returns-clause-next : goal.returns-clause-next
returns-clause-next c = λ pk g i w m.
    let labels : List ℕ = get_or c.args.ss.now c.args.s [] in
    let are : c.as_slice.result.now ≡ map (λ l. get_or c.args.states.now l 0) labels = c.as_slice.ensures ∙ c.in_ok-diagrams.ensures ∙ ap (λ (ls : List ℕ). map (λ l. get_or c.args.states.now l 0) ls) c.members.ensures.is in
    met_same c.state_of.new.ss i (λ l. SomeSends c.args.st.now c.as_slice.result.now pk g l) (λ l. StateSends c.args.st.now c.args.states.now labels pk g l)
    (λ l. sends_states c.args.st.now c.args.states.now labels c.as_slice.result.now are pk g l) (c.in_ok-r.ensures.next pk g i w m)

pub returns-clause-recorded : goal.returns-clause-recorded
returns-clause-recorded c = λ pk g l w p m.
    let labels : List ℕ = get_or c.args.ss.now c.args.s [] in
    let are : c.as_slice.result.now ≡ map (λ l. get_or c.args.states.now l 0) labels = c.as_slice.ensures ∙ c.in_ok-diagrams.ensures ∙ ap (λ (ls : List ℕ). map (λ l. get_or c.args.states.now l 0) ls) c.members.ensures.is in
    c.in_ok-r.ensures.recorded pk g l w p ((sends_states c.args.st.now c.args.states.now labels c.as_slice.result.now are pk g l).1 m)

pub returns-clause-ends : goal.returns-clause-ends
returns-clause-ends c = λ pk y p.
    let labels : List ℕ = get_or c.args.ss.now c.args.s [] in
    let are : c.as_slice.result.now ≡ map (λ l. get_or c.args.states.now l 0) labels = c.as_slice.ensures ∙ c.in_ok-diagrams.ensures ∙ ap (λ (ls : List ℕ). map (λ l. get_or c.args.states.now l 0) ls) c.members.ensures.is in
    let e = c.in_ok-r.ensures.ends pk y p in
    let s = leads_states c.args.st.now c.args.states.now labels c.as_slice.result.now are pk y 0 in
    (λ m. s.0 (e.0 m), λ m. e.1 (s.1 m))

pub returns-clause-leads : goal.returns-clause-leads
returns-clause-leads c = λ pk y i p m.
    let labels : List ℕ = get_or c.args.ss.now c.args.s [] in
    let are : c.as_slice.result.now ≡ map (λ l. get_or c.args.states.now l 0) labels = c.as_slice.ensures ∙ c.in_ok-diagrams.ensures ∙ ap (λ (ls : List ℕ). map (λ l. get_or c.args.states.now l 0) ls) c.members.ensures.is in
    met_same c.state_of.new.ss i (λ l. SomeLeads c.args.st.now c.as_slice.result.now pk y l) (λ l. StateLeads c.args.st.now c.args.states.now labels pk y l)
    (λ l. leads_states c.args.st.now c.args.states.now labels c.as_slice.result.now are pk y l) (c.in_ok-r.ensures.leads pk y i p m)

pub returns-clause-led : goal.returns-clause-led
returns-clause-led c = λ pk y l p pos m.
    let labels : List ℕ = get_or c.args.ss.now c.args.s [] in
    let are : c.as_slice.result.now ≡ map (λ l. get_or c.args.states.now l 0) labels = c.as_slice.ensures ∙ c.in_ok-diagrams.ensures ∙ ap (λ (ls : List ℕ). map (λ l. get_or c.args.states.now l 0) ls) c.members.ensures.is in
    c.in_ok-r.ensures.led pk y l p pos ((leads_states c.args.st.now c.args.states.now labels c.as_slice.result.now are pk y l).1 m)
