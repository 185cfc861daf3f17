use Rattle.std.proofs.Common.{◌≡◌, ◌∙◌, sym, arith, length}
use Rattle.std.proofs.lemmas.Bool.Decides.{nat_tests}
use Rattle.nk_apply.proofs.Shorts.{after_nothing, no_items}
use Rattle.nk_algebra.proofs.seqs.after.Goals as goal

pub returns-then-is_empty-clause-ok : goal.returns-then-is_empty-clause-ok
returns-then-is_empty-clause-ok c =
    let none : length c.as_slice.result.now ≡ 0 = grind (arith, nat_tests, c.is_empty.ensures, c.if-is_empty.true) in
    after_nothing c.args.st.now c.args.d c.args.act.now c.requires.id c.laws.ensures.tidy (sym c.as_slice.ensures ∙ no_items c.as_slice.result.now none)
