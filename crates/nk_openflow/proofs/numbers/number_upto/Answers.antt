use Rattle.std.proofs.Common.{◌≢◌, get_or, lit<}
use Rattle.std.proofs.lemmas.Str.Pattern.{starts_char}
use Rattle.nk_field.proofs.Items.{parsed_ok, parsed_err}
use Rattle.nk_openflow.proofs.numbers.number_upto.Goals as goal

pub returns-in-Ok-clause-is : goal.returns-in-Ok-clause-is
returns-in-Ok-clause-is c =
    let tells = starts_char 43 c.args.digits.now c.starts_with.result c.starts_with.ensures.cases (lit< tt) (lit< tt) in
    let plain : get_or c.args.digits.now 0 0 ≢ 43 = λ e. absurd (let plus = tells.1 e in let none = c.if-starts_with.false in cc) in
    parsed_ok c.args.max c.in-Ok.n c.args.digits.now c.in-Ok.ensures.value.0 plain c.if-n-max.true

pub returns-in_default-2-clause-is : goal.returns-in_default-2-clause-is
returns-in_default-2-clause-is c =
    let tells = starts_char 43 c.args.digits.now c.starts_with.result c.starts_with.ensures.cases (lit< tt) (lit< tt) in
    let plain : get_or c.args.digits.now 0 0 ≢ 43 = λ e. absurd (let plus = tells.1 e in let none = c.if-starts_with.false in cc) in
    parsed_err c.args.max c.args.digits.now c.in_default.ensures.value.0 plain c.ranges.max.fits
