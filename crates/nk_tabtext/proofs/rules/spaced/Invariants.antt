use Rattle.std.proofs.Common.{◌≡◌, ◌++◌, drop}
use Rattle.std.specs.Prelude.{codes}
use Rattle.std.specs.List.{flat_map}
use Rattle.nk_tabtext.specs.Text.{bucket_text}
use Rattle.nk_tabtext.proofs.rules.spaced.Given as goal

-- what is made so far, then the rest, is the whole
abbrev pub invariant-loop-b : goal.invariant-loop-b
invariant-loop-b l =
    l.out.items ++ flat_map (λ b. codes " " ++ bucket_text l.fs b) (drop l.b-index l.bs)
    ≡ l.fn.out.items ++ flat_map (λ b. codes " " ++ bucket_text l.fs b) l.bs
