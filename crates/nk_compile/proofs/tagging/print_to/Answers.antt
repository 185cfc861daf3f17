use Rattle.std.proofs.Common.{◌<◌, ◌∙◌, sym, subst, ap, length}
use Rattle.std.specs.Prelude.{All}
use Rattle.std.proofs.lemmas.Result.{on_ok_weaker}
use Rattle.nk_compile.specs.Preparing.{AreLinkEnds}
use Rattle.nk_compile.specs.Ready.{sets_of, IsReady}
use Rattle.nk_compile.proofs.Levelled.{prepared_known, prepared_ready}
use Rattle.nk_compile.proofs.tagging.print_to.Goals as goal

pub following-requires : goal.following-requires
following-requires g c =
    let k = c.requires.prepared in
    prepared_known k.0 c.args.topo.now k.2 k.1 c.args.prepared k.3 c.args.tags.now c.requires.numbers

pub tag_tables-requires : goal.tag_tables-requires
tag_tables-requires g c =
    let k = c.requires.prepared in
    record {
      ready = (
        c.args.first,
        k.0,
        k.1,
        k.2,
        k.3.begun.clear,
        subst (λ states. AreLinkEnds k.1 (length states) c.args.ends.now) (sym c.as_slice-states.ensures) k.4,
        subst (λ states. IsReady c.args.first k.0 c.args.topo.now k.1 c.args.prepared.store c.following.new.ss states c.as_slice.result.now) (sym c.as_slice-states.ensures)
            (prepared_ready k.0 c.args.topo.now k.2 k.1 c.args.prepared k.3 c.args.tags.now c.requires.numbers c.args.first c.following.new.ss c.as_slice.result.now
            c.differ.ensures.ascend c.laws.ensures.fields
            (subst (All (λ s. s < length c.following.new.ss)) (sym c.as_slice.ensures) c.in_ok-all.ensures.known)
            (ap (sets_of c.following.new.ss) c.as_slice.ensures ∙ c.in_ok-all.ensures.sets)),
      );
    }

pub returns : goal.returns
returns g c =
    on_ok_weaker c.tag_tables.result (λ made. (
      made.0,
      made.1,
      λ fields p tag prepared ends.
          made.2 c.args.first fields p tag prepared.begun.clear (subst (λ states. AreLinkEnds p (length states) c.args.ends.now) (sym c.as_slice-states.ensures) ends)
          (subst (λ states. IsReady c.args.first fields c.args.topo.now p c.args.prepared.store c.following.new.ss states c.as_slice.result.now) (sym c.as_slice-states.ensures)
          (prepared_ready fields c.args.topo.now tag p c.args.prepared prepared c.args.tags.now c.requires.numbers c.args.first c.following.new.ss c.as_slice.result.now
          c.differ.ensures.ascend c.laws.ensures.fields
          (subst (All (λ s. s < length c.following.new.ss)) (sym c.as_slice.ensures) c.in_ok-all.ensures.known)
          (ap (sets_of c.following.new.ss) c.as_slice.ensures ∙ c.in_ok-all.ensures.sets))),
    )) c.tag_tables.ensures
