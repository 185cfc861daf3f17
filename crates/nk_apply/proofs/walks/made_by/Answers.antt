use Rattle.std.proofs.Common.{◌≡◌, ℕ, ap, arith}
use Rattle.std.proofs.lemmas.Bool.Decides.{nat_tests}
use Rattle.nk_apply.proofs.walks.made_by.Goals as goal

pub returns-then-eq : goal.returns-then-eq
returns-then-eq c =
    let same : c.args.pair.0 ≡ c.args.d = grind (arith, nat_tests, c.eq.ensures, c.if-eq.true) in
    ap (λ (e : ℕ). (e, c.args.pair.1)) same
