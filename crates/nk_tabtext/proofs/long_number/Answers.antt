use Rattle.std.proofs.Common.{◌+◌, ◌/◌, ◌%◌, ◌∷◌, [], ◌++◌, ap, sym, ◌∙◌}
use Rattle.std.proofs.lemmas.List.{append_assoc}
use Rattle.nk_tabtext.proofs.Digits.{two_digits}
use Rattle.nk_tabtext.proofs.long_number.Goals as goal

-- the tens, then the ones
pub returns-then-n-lt100 : goal.returns-then-n-lt100
returns-then-n-lt100 c =
    c.in_ok-push-2.ensures.items
    ∙ ap (λ l. l ++ ((48 + c.args.n % 10) ∷ [])) c.in_ok-push.ensures.items
    ∙ append_assoc c.args.out.now.items ((48 + c.args.n / 10) ∷ []) ((48 + c.args.n % 10) ∷ [])
    ∙ ap (λ l. c.args.out.now.items ++ l) (sym (two_digits c.args.n c.requires c.if-n-lt100.true))
