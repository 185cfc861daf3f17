use Rattle.std.proofs.Common.{◌≡◌, drop}
use Rattle.std.specs.List.{list_any}
use Rattle.nk_table.specs.Rules.{rows_of}
use Rattle.nk_tabtext.specs.Text.{have_prefix, AreTablesFrom}
use Rattle.nk_tabtext.proofs.rules.some_table.Given as goal

-- none of the switches so far has a prefix, and what is left has the tables of those from the last one on
abbrev pub invariant-loop-n : goal.invariant-loop-n
invariant-loop-n l = record {
  none : list_any (λ n. have_prefix l.t.fields (rows_of l.t.tables n)) (drop l.n-index l.numbers)
      ≡ list_any (λ n. have_prefix l.t.fields (rows_of l.t.tables n)) l.numbers;
  left : AreTablesFrom l.last l.t.tables l.rest;
}
