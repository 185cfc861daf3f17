use Rattle.std.proofs.Common.{sym, subst}
use Rattle.nk_backward.specs.Closures.{IsWholeFrontier}
use Rattle.nk_backward.proofs.Taking.{frontier_all}
use Rattle.nk_backward.proofs.closure.close_by.Goals as goal

pub take_all_back-requires-clause-frontier : goal.take_all_back-requires-clause-frontier
take_all_back-requires-clause-frontier c = subst (λ ps. IsWholeFrontier c.args.st.now ps c.args.back.now) (sym c.in_ok-all.ensures) (frontier_all c.args.st.now c.args.back.now c.requires.back)
