use Rattle.std.proofs.Common.{◌≡◌, not, drop}
use Rattle.std.specs.List.{list_any}
use Rattle.nk_tabtext.specs.Text.{is_exact}
use Rattle.nk_tabtext.proofs.rules.some_prefix.Given as goal

-- none of the matches so far is a prefix
abbrev pub invariant-loop-m : goal.invariant-loop-m
invariant-loop-m l =
    list_any (λ m. not (is_exact l.fs m)) (drop l.m-index l.ms) ≡ list_any (λ m. not (is_exact l.fs m)) l.ms
