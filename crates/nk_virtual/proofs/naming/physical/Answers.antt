use Rattle.std.proofs.Common.{sym}
use Rattle.nk_names.proofs.Named.{let_named}
use Rattle.nk_virtual.proofs.naming.physical.Goals as goal

pub answer_for-requires : goal.answer_for-requires
answer_for-requires c = let_named c.args.program.now c.args.name.now c.in-Some.policy.now c.in-Some.ensures.is (sym c.in-Some.ensures.found)
