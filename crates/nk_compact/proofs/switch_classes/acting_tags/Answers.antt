use Rattle.std.proofs.Common.{◌∙◌, ◌++◌, ◌∷◌, [], get_or, ap, sym}
use Rattle.nk_compact.specs.ClassesAtSwitches.{acting_of}
use Rattle.nk_compact.proofs.ActingTags.{acting_more}
use Rattle.nk_compact.proofs.switch_classes.acting_tags.Goals as goal

pub loop-t-preserved : goal.loop-t-preserved
loop-t-preserved c =
    c.in_ok-push_acting.ensures
    ∙ ap (λ l. l ++ acting_of c.args.classes.now c.args.met.now c.args.class (get_or c.args.tags.now c.loop-t.t-index 0 ∷ [])) c.loop-t.invariant
    ∙ sym (acting_more c.args.classes.now c.args.met.now c.args.class c.args.tags.now c.loop-t.t-index c.loop-t-test.true)
