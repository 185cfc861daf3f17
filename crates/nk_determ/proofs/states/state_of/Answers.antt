use Rattle.nk_determ.proofs.Regrouped.{finals_are, next_is, next_comes, next_once, state_exact}
use Rattle.nk_determ.proofs.Followed.{ends_are, led_to, led_on}
use Rattle.nk_determ.proofs.states.state_of.Goals as goal

pub returns-clause-id : goal.returns-clause-id
returns-clause-id c = let m = c.in_ok-r.ensures.made in m.2.leaves.id

pub returns-clause-exact : goal.returns-clause-exact
returns-clause-exact c = let m = c.in_ok-r.ensures.made in state_exact c.args.st.now m.0 c.regrouped_union.new.st c.regrouped_union.new.ss c.args.diagrams.now m.1 c.in_ok-r.r m.2

pub returns-clause-finals : goal.returns-clause-finals
returns-clause-finals c = let m = c.in_ok-r.ensures.made in finals_are c.args.st.now m.0 c.regrouped_union.new.st c.regrouped_union.new.ss c.args.diagrams.now m.1 c.in_ok-r.r m.2

pub returns-clause-next : goal.returns-clause-next
returns-clause-next c = let m = c.in_ok-r.ensures.made in next_is c.args.st.now m.0 c.regrouped_union.new.st c.regrouped_union.new.ss c.args.diagrams.now m.1 c.in_ok-r.r m.2

pub returns-clause-recorded : goal.returns-clause-recorded
returns-clause-recorded c = let m = c.in_ok-r.ensures.made in next_comes c.args.st.now m.0 c.regrouped_union.new.st c.regrouped_union.new.ss c.args.diagrams.now m.1 c.in_ok-r.r m.2

pub returns-clause-once : goal.returns-clause-once
returns-clause-once c = let m = c.in_ok-r.ensures.made in next_once c.args.st.now m.0 c.regrouped_union.new.st c.regrouped_union.new.ss c.args.diagrams.now m.1 c.in_ok-r.r m.2

pub returns-clause-ends : goal.returns-clause-ends
returns-clause-ends c = let m = c.in_ok-r.ensures.made in ends_are c.args.st.now m.0 c.regrouped_union.new.st c.regrouped_union.new.ss c.args.diagrams.now m.1 c.in_ok-r.r m.2 c.laws.ensures.tidy

pub returns-clause-leads : goal.returns-clause-leads
returns-clause-leads c = let m = c.in_ok-r.ensures.made in led_to c.args.st.now m.0 c.regrouped_union.new.st c.regrouped_union.new.ss c.args.diagrams.now m.1 c.in_ok-r.r m.2 c.laws.ensures.tidy

pub returns-clause-led : goal.returns-clause-led
returns-clause-led c = let m = c.in_ok-r.ensures.made in led_on c.args.st.now m.0 c.regrouped_union.new.st c.regrouped_union.new.ss c.args.diagrams.now m.1 c.in_ok-r.r m.2 c.laws.ensures.tidy
