use Rattle.std.proofs.Common.{◌∙◌, ap, sym}
use Rattle.nk_field.specs.Texts.{rest_after_prefix, number_if_any}
use Rattle.nk_field.proofs.Items.{after_here, after_none, stripped}
use Rattle.nk_picture.proofs.way.number_after.Goals as goal

-- the front is there
pub returns-in-Some : goal.returns-in-Some
returns-in-Some c =
    c.number_upto.ensures
    ∙ sym (ap (number_if_any 65535)
    (ap (rest_after_prefix c.args.front.now) (stripped c.args.front.now c.args.item.now c.in-Some.digits.now c.in-Some.ensures.cases)
    ∙ after_here c.args.front.now c.in-Some.digits.now))

-- it isn't
pub returns-in-None : goal.returns-in-None
returns-in-None c = sym (ap (number_if_any 65535) (after_none c.args.front.now c.args.item.now c.in-None.ensures.cases))
