use Rattle.std.proofs.Common.{rules, ◌∙◌, ◌≡◌, false}
use Rattle.std.proofs.lemmas.Result.{IfOk-weaker}
use Rattle.std.proofs.Math.Bool.{or-false}
use Rattle.nk_words.proofs.words.with_wanted.Goals as goal

pub returns-clause-local : goal.returns-clause-local
returns-clause-local c =
    let not_global : c.required-argument.result.global ≡ false = search rules in
    IfOk-weaker c.arg.result _ _ (λ r h. h.globals ∙ rw not_global (or-false _)) c.arg.ensures
