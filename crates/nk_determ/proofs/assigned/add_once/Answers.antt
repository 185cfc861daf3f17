use Rattle.std.proofs.Common.{◌∙◌, sym}
use Rattle.nk_determ.proofs.AssignedFields.{found_contains}
use Rattle.nk_determ.proofs.assigned.add_once.Goals as goal

pub returns-then-is_among-clause-ok : goal.returns-then-is_among-clause-ok
returns-then-is_among-clause-ok c = found_contains c.args.found.now c.args.n (sym c.is_among.ensures ∙ c.if-is_among.true)
