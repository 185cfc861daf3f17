use Rattle.std.proofs.Common.{◌≡◌, ◌++◌, drop}
use Rattle.std.specs.List.{flat_map}
use Rattle.nk_openflow.specs.Matches.{flow_match_text}
use Rattle.nk_openflow.proofs.matches.push_matches.Given as goal

-- what is made so far, then the rest, is the whole
abbrev pub invariant-loop-m : goal.invariant-loop-m
invariant-loop-m l =
    l.out.items ++ flat_map (flow_match_text l.fs l.mapping) (drop l.m-index l.matches) ≡ l.fn.out.items ++ flat_map (flow_match_text l.fs l.mapping) l.matches
