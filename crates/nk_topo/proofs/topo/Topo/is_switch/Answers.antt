use Rattle.std.proofs.Common.{ℕ, ◌<◌, sym, ◌∙◌, subst, ap}
use Rattle.std.specs.Prelude.{AllPairs, is_some}
use Rattle.nk_topo.proofs.Insides.{numbers_rise, switch_found}
use Rattle.nk_topo.proofs.topo.Topo.is_switch.Goals as goal

pub find_in-requires : goal.find_in-requires
find_in-requires c =
    subst (λ ns. AllPairs {X = ℕ} (λ p q. p < q) ns) (sym c.as_slice.ensures.value) (numbers_rise _ _ _ c.self.invariant.inside)

pub returns : goal.returns
returns c =
    c.is_some.ensures ∙ ap is_some c.find_in.ensures.place
    ∙ switch_found _ c.as_slice.result.now _ _ _ c.args.n c.self.invariant.inside c.self.view_is c.as_slice.ensures.value
