use Rattle.std.proofs.lemmas.Result.{IfOk-weaker}
use Rattle.nk_determ.specs.States.{SomeLeads}
use Rattle.nk_determ.proofs.Interned.{sets_same}
use Rattle.nk_determ.proofs.StatesAt.{met_same}
use Rattle.nk_steps.proofs.PlainSteps.{plain_leads, plain_led, grown_leads, packet_later}
use Rattle.nk_steps.proofs.steps.steps_of.Goals as goal

pub returns-then-branch-clause-id : goal.returns-then-branch-clause-id
returns-then-branch-clause-id c = IfOk-weaker c.regroup.result _ _ (λ r h. (h.leaves c.regroup.new.ss (sets_same c.regroup.new.ss)).id) c.regroup.ensures.ok

pub returns-then-branch-clause-leads : goal.returns-then-branch-clause-leads
returns-then-branch-clause-leads c = IfOk-weaker c.regroup.result _ _ (λ r h.
    plain_leads c.args.st.now c.union_all.new.st c.regroup.new.st c.regroup.new.ss c.args.diagrams.now c.in_ok-d.d r c.in_ok-d.ensures.ok c.laws.ensures.tidy
    (h.leaves c.regroup.new.ss (sets_same c.regroup.new.ss)) h.held (c.in_ok-is_plain.ensures c.if-branch.true)) c.regroup.ensures.ok

pub returns-then-branch-clause-led : goal.returns-then-branch-clause-led
returns-then-branch-clause-led c = IfOk-weaker c.regroup.result _ _ (λ r h.
    plain_led c.args.st.now c.union_all.new.st c.regroup.new.st c.regroup.new.ss c.args.diagrams.now c.in_ok-d.d r c.in_ok-d.ensures.ok c.laws.ensures.tidy
    (h.leaves c.regroup.new.ss (sets_same c.regroup.new.ss)) h.held) c.regroup.ensures.ok

pub returns-else-branch-clause-leads : goal.returns-else-branch-clause-leads
returns-else-branch-clause-leads c = IfOk-weaker c.state_of.result _ _ (λ r h pk y i p s.
    met_same c.state_of.new.ss i (λ l. SomeLeads c.union_all.new.st c.args.diagrams.now pk y l) (λ l. SomeLeads c.args.st.now c.args.diagrams.now pk y l)
    (λ l. grown_leads c.args.st.now c.union_all.new.st c.args.diagrams.now c.union_all.ensures.grows c.requires pk y l)
    (h pk y i (packet_later c.args.st.now c.union_all.new.st pk c.union_all.ensures.grows p) s)) c.state_of.ensures.leads

pub returns-else-branch-clause-led : goal.returns-else-branch-clause-led
returns-else-branch-clause-led c = IfOk-weaker c.state_of.result _ _ (λ r h pk y l p pos s.
    h pk y l (packet_later c.args.st.now c.union_all.new.st pk c.union_all.ensures.grows p) pos
    ((grown_leads c.args.st.now c.union_all.new.st c.args.diagrams.now c.union_all.ensures.grows c.requires pk y l).1 s)) c.state_of.ensures.led
