use Rattle.std.proofs.Common.{refl, sym, subst, length}
use Rattle.nk_names.specs.Accepted.{IsStartPacket}
use Rattle.nk_tag.specs.Numbers.{AreNumbers}
use Rattle.nk_compile.specs.Counted.{HasTagSets}
use Rattle.nk_compile.specs.Preparing.{AreLinkEnds}
use Rattle.nk_compile.proofs.Levelled.{prepared_compilable, prepared_counted, prepared_few}
use Rattle.nk_compile.proofs.Padding.{table_alone}
use Rattle.nk_compile.proofs.numbered.tables_to.Goals as goal

pub print_to-requires-clause-prepared : goal.print_to-requires-clause-prepared
print_to-requires-clause-prepared g c =
    let n = c.requires.numbered.2 in (
      c.requires.numbered.0,
      c.requires.numbered.1,
      n.tag,
      n.prepared,
      subst (AreLinkEnds c.requires.numbered.1 (length c.args.numbered.prepared.states)) (sym c.as_slice.ensures) n.ends,
    )

pub print_to-requires-clause-numbers : goal.print_to-requires-clause-numbers
print_to-requires-clause-numbers g c =
    let b = c.args.numbered.prepared in
    subst (AreNumbers b.sets b.levels.levels) (sym c.as_slice-2.ensures) c.requires.numbered.2.numbers

pub returns-clause-made : goal.returns-clause-made
returns-clause-made g c = λ fields p n.
    let made = c.in_ok-print_to.ensures in
    let few = n.few in (
      made.0,
      made.1,
      record {
        compilable = prepared_compilable fields c.args.topo.now n.tag p c.args.numbered.prepared n.prepared;
        few = prepared_few fields c.args.topo.now n.tag p c.args.numbered.prepared n.prepared c.args.numbered.tags n.numbers _ refl few;
        printed = table_alone fields c.args.topo.now (IsStartPacket fields c.args.topo.now) p _ (made.2 fields p n.tag n.prepared
            (subst (AreLinkEnds p (length c.args.numbered.prepared.states)) (sym c.as_slice.ensures) n.ends) _ refl refl refl);
      },
    )

pub returns-clause-counted : goal.returns-clause-counted
returns-clause-counted g c = λ fields p n.
    subst (λ m. HasTagSets fields c.args.topo.now p m) (sym c.len-count.ensures)
    (prepared_counted fields c.args.topo.now n.tag p c.args.numbered.prepared n.prepared c.args.numbered.tags n.numbers)
