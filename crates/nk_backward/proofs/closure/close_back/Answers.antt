use Rattle.std.proofs.Common.{subst}
use Rattle.nk_goal.specs.Entries.{IsMerged}
use Rattle.nk_backward.proofs.Tracing.{outs_suit_on}
use Rattle.nk_backward.proofs.Preceding.{known_on}
use Rattle.nk_backward.proofs.Taking.{closure_from}
use Rattle.nk_backward.proofs.closure.close_back.Goals as goal

pub close_all-requires-clause-suits_store : goal.close_all-requires-clause-suits_store
close_all-requires-clause-suits_store c = outs_suit_on c.args.st.now c.add_level.new.st c.args.ts.now c.add_level.ensures.grows c.requires.suits_store

pub close_all-requires-clause-pre : goal.close_all-requires-clause-pre
close_all-requires-clause-pre c = known_on c.args.st.now c.add_level.new.st c.args.ts.now c.args.pre.now c.add_level.ensures.grows c.requires.suits_store c.requires.pre

pub returns-clause-ok : goal.returns-clause-ok
returns-clause-ok c =
    closure_from c.args.st.now c.add_level.new.st c.close_all.new.st c.args.ts.now c.args.goal c.add_level.new.self c.close_all.new.back c.add_level.ensures.grows c.requires.suits_store
    (subst (λ ps. IsMerged c.args.st.now ps c.args.goal c.add_level.new.st c.add_level.new.self) c.new-back.ensures c.in_ok-add_level.ensures.ok) c.in_ok-close_all.ensures.ok
