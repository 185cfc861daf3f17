use Rattle.std.proofs.Common.{◌≡◌, arith}
use Rattle.std.proofs.lemmas.Bool.Decides.{nat_tests}
use Rattle.nk_apply.proofs.Shorts.{united_same, united_left}
use Rattle.nk_apply.proofs.leaves.united.Goals as goal
use Rattle.nk_apply.proofs.leaves.united.Goals.{then-eq-via-then-eq, then-eq-via-else-eq+then-drops}

pub returns-then-eq : goal.returns-then-eq
returns-then-eq c = elim c.then-eq.branch [
  | then-eq-via-then-eq w ↦
      let same : c.args.a ≡ c.args.b = grind (arith, nat_tests, c.eq.ensures, w.if-eq.true) in
      united_same c.args.st.now c.args.a c.args.b c.requires.left c.laws.ensures.tidy same
  | then-eq-via-else-eq+then-drops w ↦
      united_left c.args.st.now c.args.a c.args.b c.requires.left (w.drops.ensures.yes w.if-drops.true)
]
