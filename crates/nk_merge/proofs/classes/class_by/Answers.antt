use Rattle.std.proofs.Common.{[], get_or, sym, ◌∙◌}
use Rattle.nk_merge.specs.Alike.{labels_after}
use Rattle.nk_merge.proofs.classes.class_by.Goals as goal

pub returns-in-Some-clause-yes : goal.returns-in-Some-clause-yes
returns-in-Some-clause-yes c = λ _.
    (c.requires.seen c.args.d c.in-Some.place (sym c.seen_at.ensures ∙ c.in-Some.is)).alike (labels_after (get_or c.args.ss.now c.args.s [])) c.requires.tag_places c.requires.diagram
