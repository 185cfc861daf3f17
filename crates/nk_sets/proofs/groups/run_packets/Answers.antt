use Rattle.nk_sets.proofs.Running.{run_of}
use Rattle.nk_sets.proofs.groups.run_packets.Goals as goal

pub returns-clause-ok : goal.returns-clause-ok
returns-clause-ok c =
    run_of c.args.st.now c.case.new.self c.args.f c.args.ss.now c.args.from c.in_ok-to.to c.in_ok-packets.packets c.in_ok-to.parts c.in_ok-to.ensures c.in_ok-packets.ensures.ok c.in_ok-packets.ensures.later
