use Rattle.std.proofs.Common.{sym, subst}
use Rattle.nk_lex.specs.Lex.{LexReturns}
use Rattle.nk_lex.specs.Kept.{IsFed}
use Rattle.nk_lex.specs.NextPiece.{end_answer}
use Rattle.nk_lex.proofs.Ends.{fed_ends}
use Rattle.nk_lex.proofs.Given.{end_small, end_texts}
use Rattle.nk_lex.proofs.feeding.Feed.end.Goals as goal

pub returns-clause-tokens : goal.returns-clause-tokens
returns-clause-tokens c = λ text f.
    fed_ends (λ v. v.items) text
    (record { fed = c.self.inside.fed; line = c.self.inside.line; pending = c.self.inside.pending; held = c.self.inside.held.items })
    c.ending.result (subst (IsFed text) (sym c.self.view_is) f)
    (subst (λ h. LexReturns (λ v. v.items) c.ending.result (end_answer c.self.inside.pending h c.self.inside.fed c.self.inside.line))
    c.deref.ensures.value c.ending.ensures)

pub returns-clause-small : goal.returns-clause-small
returns-clause-small c = λ text f. end_small (λ v. v.items) text c.ending.result (returns-clause-tokens c text f)

pub returns-clause-texts : goal.returns-clause-texts
returns-clause-texts c = λ text f. end_texts (λ v. v.items) text c.ending.result (returns-clause-tokens c text f)
