use Rattle.std.proofs.Common.{◌≡◌, ◌++◌, ◌∷◌, ◌&&◌, [], sym, ap, subst, ◌∙◌, arith}
use Rattle.std.specs.Prelude.{◌==◌}
use Rattle.std.proofs.lemmas.Grind.{common_steps}
use Rattle.nk_topo.proofs.Gathers.{on_ok}
use Rattle.nk_names.specs.ProgramValue.{VirtualLink}
use Rattle.nk_names.specs.Virtual.{AreVirtualEnds}
use Rattle.nk_names.proofs.Fabrics.{ports_with}
use Rattle.nk_names.proofs.virtuals.Virtuals.add.Goals as goal

pub invariant_of-self-in_err-reserve-3 : goal.invariant_of-self-in_err-reserve-3
invariant_of-self-in_err-reserve-3 c =
    let links : c.reserve.new.self.items ≡ c.self.inside.links.items = grind (arith, common_steps) in
    subst (λ l. AreVirtualEnds l c.reserve-2.new.self.keys c.reserve-3.new.self.keys) (sym links)
    (record {
      sources = λ sw pt. c.in_ok-reserve-2.ensures.keys.2 (sw, pt) ∙ c.self.invariant.sources sw pt;
      targets = λ sw pt. c.in_err-reserve-3.ensures.keys.2 (sw, pt) ∙ c.self.invariant.targets sw pt;
    })

-- the ports of one more link are found
pub invariant_of-self-2 : goal.invariant_of-self-2
invariant_of-self-2 c =
    let before = c.self.inside in
    let k = c.args.link in
    let links : c.push.new.self.items ≡ before.links.items ++ k ∷ [] = grind (arith, common_steps) in
    record {
      sources =
          ports_with (λ (l : VirtualLink) sw pt. (l.ends.from_switch == sw) && (l.ends.from_port == pt)) before.links.items c.push.new.self.items k
          c.reserve-2.new.self.keys c.insert.new.self.keys (c.link.inside.from_switch, c.link.inside.from_port) links
          (λ sw pt. c.in_ok-reserve-2.ensures.keys.2 (sw, pt) ∙ c.self.invariant.sources sw pt)
          (λ sw pt. ap (λ (l : VirtualLink). (l.ends.from_switch == sw) && (l.ends.from_port == pt)) (sym c.link.view_is))
          (on_ok c.insert.result c.unwrap.result c.unwrap.ensures c.insert.ensures.updates).0;
      targets =
          ports_with (λ (l : VirtualLink) sw pt. (l.ends.to_switch == sw) && (l.ends.to_port == pt)) before.links.items c.push.new.self.items k
          c.reserve-3.new.self.keys c.insert-2.new.self.keys (c.link.inside.to_switch, c.link.inside.to_port) links
          (λ sw pt. c.in_ok-reserve-3.ensures.keys.2 (sw, pt) ∙ c.self.invariant.targets sw pt)
          (λ sw pt. ap (λ (l : VirtualLink). (l.ends.to_switch == sw) && (l.ends.to_port == pt)) (sym c.link.view_is))
          (on_ok c.insert-2.result c.unwrap-2.result c.unwrap-2.ensures c.insert-2.ensures.updates).0;
    }
