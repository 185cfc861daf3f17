use Rattle.std.proofs.Common.{◌≡◌, arith}
use Rattle.std.proofs.lemmas.Bool.Decides.{nat_tests}
use Rattle.std.proofs.lemmas.Result.{IfOk-weaker}
use Rattle.nk_auto.proofs.Passing.{ended_itself, sequence_before}
use Rattle.nk_auto.proofs.silence.ended_then.Goals as goal

pub returns-then-eq-clause-ok : goal.returns-then-eq-clause-ok
returns-then-eq-clause-ok c =
    let same : c.args.next ≡ c.in_ok-passing.passing = grind (arith, nat_tests, c.eq.ensures, c.if-eq.true) in
    ended_itself c.args.st.now c.identity.new.st c.args.d c.args.next c.in_ok-passing.passing c.laws.ensures.tidy c.identity.ensures.grows c.requires.id c.requires.next c.requires.ends c.in_ok-passing.ensures.ok same

pub returns-clause-ok : goal.returns-clause-ok
returns-clause-ok c =
    IfOk-weaker c.seq.result _ _
    (λ r h. sequence_before c.args.st.now c.identity.new.st c.seq.new.st c.args.d c.args.next r c.identity.ensures.grows c.requires.id c.requires.next h)
    c.seq.ensures.ok
