use Rattle.std.proofs.Common.{[], get_or, arith}
use Rattle.nk_goal.proofs.Violations.{no_violation_at, some_violation}
use Rattle.nk_goal.proofs.goal.pair_violation.Goals as goal

pub returns-clause-yes : goal.returns-clause-yes
returns-clause-yes g c = λ h.
    some_violation c.args.st.now c.bad.new.st c.at_packets.new.st c.args.x c.in_ok-b.b c.in_ok-met.met (g.G.Goal.violations_of c.args.g.now c.args.st.now (get_or c.args.ss.now c.args.s []))
    c.bad.ensures.grows c.requires.packets c.in_ok-b.ensures.ok c.at_packets.ensures.grows c.in_ok-met.ensures.ok (c.is_empty.ensures.no (grind arith))

pub returns-clause-no : goal.returns-clause-no
returns-clause-no g c = λ h.
    no_violation_at c.args.st.now c.bad.new.st c.at_packets.new.st c.args.x c.in_ok-b.b c.in_ok-met.met (g.G.Goal.violations_of c.args.g.now c.args.st.now (get_or c.args.ss.now c.args.s []))
    c.bad.ensures.grows c.requires.packets c.in_ok-b.ensures.ok c.in_ok-met.ensures.ok (c.is_empty.ensures.yes (grind arith))
