use Rattle.std.proofs.Common.{◌≡◌, ◌&&◌, true, false, None, Some, arith, sym, ◌∙◌, ap}
use Rattle.std.specs.Prelude.{◌==◌, map, if◌then◌else◌}
use Rattle.std.specs.List.{prefix_len}
use Rattle.std.proofs.lemmas.Bool.Decides.{nat_tests}
use Rattle.nk_topo.specs.Topology.{starts_below}
use Rattle.nk_topo.specs.Inside.{link_of}
use Rattle.nk_topo.proofs.Insides.{link_found, link_missed}
use Rattle.nk_topo.proofs.topo.Topo.link_from.Goals as goal
use Rattle.nk_topo.proofs.topo.Topo.link_from.Goals.{else-a-sw-via-then-a-sw+else-m-pt, else-a-sw-via-else-a-sw}

pub returns-then-m-pt : goal.returns-then-m-pt
returns-then-m-pt c =
    let at =
    link_found c.self.inside.numbers.items (map (λ p. p.items) c.self.inside.ports.items) c.self.inside.links.items c.args.self.now
    c.link_place-place.result c.args.sw c.args.pt c.index.result.now c.self.invariant.inside c.self.view_is
    (c.link_place-place.ensures.place ∙ ap (λ l. prefix_len (starts_below c.args.sw c.args.pt) (map link_of l)) c.as_slice.ensures.value)
    (omega arith) c.index.ensures in
    let both : ((c.index.result.now.0 == c.args.sw) && (c.index.result.now.1 == c.args.pt)) ≡ true = grind (arith, nat_tests) in
    sym (at ∙ ap (λ b. if b then Some (c.index.result.now.2, c.index.result.now.3) else None) both)

pub returns-else-a-sw : goal.returns-else-a-sw
returns-else-a-sw c =
    let at =
    link_found c.self.inside.numbers.items (map (λ p. p.items) c.self.inside.ports.items) c.self.inside.links.items c.args.self.now
    c.link_place-place.result c.args.sw c.args.pt c.index.result.now c.self.invariant.inside c.self.view_is
    (c.link_place-place.ensures.place ∙ ap (λ l. prefix_len (starts_below c.args.sw c.args.pt) (map link_of l)) c.as_slice.ensures.value)
    (omega arith) c.index.ensures in
    let other : ((c.index.result.now.0 == c.args.sw) && (c.index.result.now.1 == c.args.pt)) ≡ false =
    elim c.else-a-sw.branch [
      | else-a-sw-via-then-a-sw+else-m-pt w ↦ grind (arith, nat_tests)
      | else-a-sw-via-else-a-sw w ↦ grind (arith, nat_tests)
    ] in
    sym (at ∙ ap (λ b. if b then Some (c.index.result.now.2, c.index.result.now.3) else None) other)

pub returns-else-place-len : goal.returns-else-place-len
returns-else-place-len c =
    sym (link_missed c.self.inside.numbers.items (map (λ p. p.items) c.self.inside.ports.items) c.self.inside.links.items c.args.self.now
    c.link_place-place.result c.args.sw c.args.pt c.self.invariant.inside c.self.view_is
    (c.link_place-place.ensures.place ∙ ap (λ l. prefix_len (starts_below c.args.sw c.args.pt) (map link_of l)) c.as_slice.ensures.value)
    (omega arith))
