use Rattle.std.proofs.Common.{◌≡◌, drop}
use Rattle.std.specs.List.{list_all}
use Rattle.nk_table.specs.Rules.{agrees_at}
use Rattle.nk_table.proofs.search.agrees.Given as goal

-- the packet agrees with the matches passed
abbrev pub invariant-loop-at : goal.invariant-loop-at
invariant-loop-at l =
    list_all (agrees_at l.fields.maxima l.p) (drop l.at-index l.row.matches) ≡ list_all (agrees_at l.fields.maxima l.p) l.row.matches
