use Rattle.std.proofs.Common.{◌≡◌, arith}
use Rattle.std.proofs.lemmas.Bool.Decides.{nat_tests}
use Rattle.nk_apply.proofs.Shorts.{beside_none, none_beside}
use Rattle.nk_apply.proofs.sums.union_beside.Goals as goal

pub returns-then-eq-clause-ok : goal.returns-then-eq-clause-ok
returns-then-eq-clause-ok c =
    let same : c.args.y ≡ c.args.none = grind (arith, nat_tests, c.eq.ensures, c.if-eq.true) in
    beside_none c.args.st.now c.args.none c.args.x c.args.y c.requires.left c.requires.none same

pub returns-then-eq-2-clause-ok : goal.returns-then-eq-2-clause-ok
returns-then-eq-2-clause-ok c =
    let same : c.args.x ≡ c.args.none = grind (arith, nat_tests, c.eq-2.ensures, c.if-eq-2.true) in
    none_beside c.args.st.now c.args.none c.args.x c.args.y c.requires.right c.requires.none same
