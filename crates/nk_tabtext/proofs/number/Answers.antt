use Rattle.std.proofs.Common.{◌++◌, ap, sym, ◌∙◌}
use Rattle.std.proofs.lemmas.Fmt.{decimal_digit}
use Rattle.nk_tabtext.proofs.number.Goals as goal

-- a number below ten is its one digit
pub returns-then-n-lt10 : goal.returns-then-n-lt10
returns-then-n-lt10 c = c.in_ok-push.ensures.items ∙ ap (λ l. c.args.out.now.items ++ l) (sym (decimal_digit c.args.n c.if-n-lt10.true))
