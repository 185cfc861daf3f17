use Rattle.std.proofs.Common.{lit<}
use Rattle.std.proofs.lemmas.Str.Pattern.{strip_prefix_char}
use Rattle.nk_field.proofs.Items.{digits_some, digits_none, stripped}
use Rattle.nk_field.proofs.reading.digits_in.Goals as goal

pub returns-in-None : goal.returns-in-None
returns-in-None c = digits_none c.args.name.now c.args.item.now c.in-None.ensures.cases

pub returns-in-Some : goal.returns-in-Some
returns-in-Some c =
    digits_some c.args.name.now c.args.item.now c.in-Some.rest.now c.strip_prefix-in-Some.result
    (stripped c.args.name.now c.args.item.now c.in-Some.rest.now c.in-Some.ensures.cases)
    (strip_prefix_char 61 c.in-Some.rest.now c.strip_prefix-in-Some.result c.strip_prefix-in-Some.ensures.cases (lit< tt))
