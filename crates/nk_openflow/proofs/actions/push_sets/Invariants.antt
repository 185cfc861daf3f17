use Rattle.std.proofs.Common.{◌≡◌, ◌++◌, drop}
use Rattle.std.specs.List.{flat_map}
use Rattle.nk_openflow.specs.Actions.{set_actions}
use Rattle.nk_openflow.proofs.actions.push_sets.Given as goal

-- what is made so far, then the rest, is the whole
abbrev pub invariant-loop-f : goal.invariant-loop-f
invariant-loop-f l =
    l.out.items ++ flat_map (set_actions l.mapping l.header) (drop l.f-index l.sets) ≡ l.fn.out.items ++ flat_map (set_actions l.mapping l.header) l.sets
