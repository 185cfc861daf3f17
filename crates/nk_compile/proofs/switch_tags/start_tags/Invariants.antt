use Rattle.std.proofs.Common.{◌≡◌, take, [], ◌∷◌}
use Rattle.std.specs.Prelude.{map, All}
use Rattle.nk_group.specs.declared.switch_tags.SwitchTags.{SwitchTags}
use Rattle.nk_compile.proofs.switch_tags.start_tags.Given as goal

-- the switches so far
abbrev pub invariant-loop-sw : goal.invariant-loop-sw
invariant-loop-sw l = record {
  switches : map (λ (s : SwitchTags). s.switch) l.all.items ≡ take l.sw-index l.switches;
  tags : All (λ (s : SwitchTags). s.tags ≡ 0 ∷ []) l.all.items;
}
