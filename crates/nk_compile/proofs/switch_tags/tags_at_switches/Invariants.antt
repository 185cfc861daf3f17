use Rattle.std.proofs.Common.{◌≡◌}
use Rattle.std.specs.Prelude.{map, All}
use Rattle.nk_topo.specs.Topology.{numbers_of}
use Rattle.nk_group.specs.declared.switch_tags.SwitchTags.{SwitchTags}
use Rattle.nk_compile.specs.Comings.{HasComing}
use Rattle.nk_compile.proofs.switch_tags.tags_at_switches.Given as goal

-- the tags so far stand where they come
abbrev pub invariant-loop-s : goal.invariant-loop-s
invariant-loop-s l = record {
  tag : l.tag ≡ l.s-index;
  switches : map (λ (s : SwitchTags). s.switch) l.all.items ≡ numbers_of l.topo;
  coming : All (HasComing l.ends l.ss l.tags l.s-index) l.all.items;
}
