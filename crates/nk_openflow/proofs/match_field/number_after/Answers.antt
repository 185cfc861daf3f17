use Rattle.std.proofs.Common.{◌∙◌, ap, sym}
use Rattle.nk_field.specs.Texts.{rest_after_prefix}
use Rattle.nk_field.proofs.Items.{after_here, after_none, stripped}
use Rattle.nk_openflow.specs.MatchFields.{canonical_if_any}
use Rattle.nk_openflow.proofs.match_field.number_after.Goals as goal

-- the front is there
pub returns-in-Some : goal.returns-in-Some
returns-in-Some c =
    c.canonical_upto.ensures
    ∙ sym (ap (canonical_if_any c.args.largest)
    (ap (rest_after_prefix c.args.front.now) (stripped c.args.front.now c.args.word.now c.in-Some.digits.now c.in-Some.ensures.cases)
    ∙ after_here c.args.front.now c.in-Some.digits.now))

-- it isn't
pub returns-in-None : goal.returns-in-None
returns-in-None c = sym (ap (canonical_if_any c.args.largest) (after_none c.args.front.now c.args.word.now c.in-None.ensures.cases))
