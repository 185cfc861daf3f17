use Rattle.std.proofs.Common.{◌<◌, ◌∙◌, ap, sym, subst, length}
use Rattle.std.proofs.lemmas.List.{length-set}
use Rattle.std.specs.Prelude.{slice_set}
use Rattle.std.specs.List.{concat}
use Rattle.nk_flight.proofs.Blocks.{emptied, taken_out}
use Rattle.nk_flight.proofs.waiting.take_out.Goals as goal

pub returns-then-len-eq0 : goal.returns-then-len-eq0
returns-then-len-eq0 c =
    let there : c.args.block < length (slice_set c.args.blocks.now.items c.args.block c.take.new.self) =
    subst (λ n. c.args.block < n) (sym (length-set c.args.blocks.now.items c.args.block c.take.new.self)) c.requires.there in
    ap concat c.remove-emptied.ensures.items
    ∙ emptied (slice_set c.args.blocks.now.items c.args.block c.take.new.self) c.args.block c.index.result.now there c.index.ensures (sym c.len.ensures ∙ c.if-len-eq0.true)
    ∙ taken_out c.args.blocks.now.items c.args.block c.args.within c.index_mut.result.now c.take.new.self c.requires.there c.requires.within c.index_mut.ensures.value c.take.ensures

pub returns-else-len-eq0 : goal.returns-else-len-eq0
returns-else-len-eq0 c =
    taken_out c.args.blocks.now.items c.args.block c.args.within c.index_mut.result.now c.take.new.self c.requires.there c.requires.within c.index_mut.ensures.value c.take.ensures
