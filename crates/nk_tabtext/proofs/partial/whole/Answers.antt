use Rattle.std.proofs.Common.{◌<◌, sym, subst}
use Rattle.std.specs.Prelude.{AllPairs}
use Rattle.nk_tabtext.proofs.Numbers.{numbers_rise}
use Rattle.nk_tabtext.proofs.partial.whole.Goals as goal

pub each-requires : goal.each-requires
each-requires c =
    subst (AllPairs (λ p q. p < q)) (sym c.switches.ensures.numbers) (numbers_rise c.in_ok-topo.topo c.switches.ensures.is)
