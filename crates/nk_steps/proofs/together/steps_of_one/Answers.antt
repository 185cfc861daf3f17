use Rattle.std.proofs.Common.{◌≡◌, ◌∷◌, [], length, arith, sym, subst}
use Rattle.std.proofs.lemmas.Option.{IfSome_then}
use Rattle.nk_determ.specs.States.{SomeLeads, AreLedTo}
use Rattle.nk_steps.proofs.StepsTogether.{list_of_one}
use Rattle.nk_steps.proofs.together.steps_of_one.Goals as goal

pub returns-clause-leads : goal.returns-clause-leads
returns-clause-leads c =
    let one : length c.args.diagrams.now ≡ 1 = omega arith in
    let are : c.index-diagrams-0.result ∷ [] ≡ c.args.diagrams.now = list_of_one c.args.diagrams.now c.index-diagrams-0.result _ one c.index-diagrams-0.is in
    IfSome_then c.in_ok-steps.steps c.in_ok-steps.ensures.leads (λ r h. λ pk y i p s. subst (λ ds. AreLedTo c.steps_single.new.ss c.args.st.now ds pk y i) are (h pk y i p s))

pub returns-clause-led : goal.returns-clause-led
returns-clause-led c =
    let one : length c.args.diagrams.now ≡ 1 = omega arith in
    let are : c.index-diagrams-0.result ∷ [] ≡ c.args.diagrams.now = list_of_one c.args.diagrams.now c.index-diagrams-0.result _ one c.index-diagrams-0.is in
    IfSome_then c.in_ok-steps.steps c.in_ok-steps.ensures.led (λ r h. λ pk y l p pos s. h pk y l p pos (subst (λ ds. SomeLeads c.args.st.now ds pk y l) (sym are) s))
