use Rattle.std.proofs.Common.{sym, ◌∙◌}
use Rattle.nk_backward.proofs.Joining.{found_some}
use Rattle.nk_backward.proofs.predecessors.with_found.Goals as goal

pub union-requires-clause-left : goal.union-requires-clause-left
union-requires-clause-left c = c.requires.into c.args.t c.in-Some.e (sym c.found.ensures ∙ c.in-Some.is)

pub returns-in_ok-r-in-Some-clause-ok : goal.returns-in_ok-r-in-Some-clause-ok
returns-in_ok-r-in-Some-clause-ok c = found_some c.args.st.now c.union.new.st c.args.into.now.entries c.args.t c.args.d c.in-Some.e c.in_ok-r-in-Some.r (sym c.found.ensures ∙ c.in-Some.is) c.in_ok-r-in-Some.ensures.ok
