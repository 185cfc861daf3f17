use Rattle.std.proofs.Common.{subst}
use Rattle.nk_store.specs.StoreState.{StoreState}
use Rattle.nk_store.specs.KeptAnswers.{AreAnswers}
use Rattle.nk_store.proofs.Kept.{recalled_is}
use Rattle.nk_store.proofs.store.Store.laws.Goals as goal

pub returns-clause-answers : goal.returns-clause-answers
returns-clause-answers c = recalled_is c.args.self.now (subst (λ (s : StoreState). AreAnswers s s.kept) c.self.view_is c.self.invariant.0)
