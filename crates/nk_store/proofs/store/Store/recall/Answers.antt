use Rattle.std.proofs.Common.{IfSome, subst}
use Rattle.nk_store.specs.StoreState.{StoreState}
use Rattle.nk_store.specs.KeptAnswers.{IsKeptAnswer}
use Rattle.nk_store.proofs.Kept.{recalled_answer}
use Rattle.nk_store.proofs.store.Store.recall.Goals as goal

pub returns-clause-answer : goal.returns-clause-answer
returns-clause-answer c = subst (λ (s : StoreState). IfSome c.recall.result (λ d. IsKeptAnswer s c.args.operation c.args.a c.args.b d)) c.self.view_is
    (recalled_answer c.self.inside.table c.args.operation c.args.a c.args.b c.recall.result c.self.invariant.0 c.recall.ensures)
