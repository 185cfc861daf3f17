use Rattle.std.proofs.Common.{ap, ◌∙◌}
use Rattle.std.specs.Prelude.{map, nat_eq}
use Rattle.indexmap.specs.IndexSet.{insert_all}
use Rattle.nk_tag.proofs.Listed.{number_of}
use Rattle.nk_tag.proofs.Adding.{added}
use Rattle.nk_tag.proofs.numbers.add_sets.Goals as goal

pub returns : goal.returns
returns c =
    added c.args.ss.now c.args.level.now c.args.all.now.keys c.append.new.all.keys c.in_ok-sets.sets.items c.sort_sets.new.sets.items
    c.differ.ensures.differ c.requires.known c.requires.once c.in_ok-sets.ensures c.sort_sets.ensures.same c.sort_sets.ensures.sorted
    (c.in_ok-append.ensures ∙ ap (λ l. insert_all nat_eq c.args.all.now.keys (map number_of l)) c.as_slice.ensures.value)
