use Rattle.nk_compile.proofs.Levelled.{prepared_entries}
use Rattle.nk_compact.proofs.compact.all_numbers.Goals as goal

pub odd_sets-requires : goal.odd_sets-requires
odd_sets-requires c =
    let k = c.requires.prepared in
    prepared_entries k.0 k.1 k.2 k.3 c.args.b.now k.4
