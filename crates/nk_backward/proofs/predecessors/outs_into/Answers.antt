use Rattle.std.proofs.Common.{sym, ◌∙◌}
use Rattle.nk_backward.proofs.Preceding.{shown_some}
use Rattle.nk_backward.proofs.predecessors.outs_into.Goals as goal

pub returns-in_ok-outs-in-Some-clause-ok : goal.returns-in_ok-outs-in-Some-clause-ok
returns-in_ok-outs-in-Some-clause-ok c =
    shown_some c.args.st.now c.at_packets.new.st c.packets_by_out.new.st c.args.pre.now.into.entries c.args.t c.args.x c.in-Some.d c.in_ok-there-in-Some.there c.in_ok-outs-in-Some.outs (sym c.found.ensures ∙ c.in-Some.is) c.at_packets.ensures.grows c.packets_by_out.ensures.grows c.in_ok-there-in-Some.ensures.ok c.in_ok-outs-in-Some.ensures.ok
