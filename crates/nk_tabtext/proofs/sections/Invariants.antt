use Rattle.std.proofs.Common.{◌≡◌, ◌++◌, drop}
use Rattle.std.specs.List.{flat_map}
use Rattle.nk_tabtext.specs.Text.{section_text, AreTablesFrom}
use Rattle.nk_tabtext.proofs.sections.Given as goal

-- what is made so far, then the rest, is the whole, and what is left has the tables of the switches from the last one on
abbrev pub invariant-loop-n : goal.invariant-loop-n
invariant-loop-n l = record {
  made : l.out.items ++ flat_map (λ n. section_text l.t.fields l.t.tables n) (drop l.n-index l.numbers)
      ≡ l.fn.out.items ++ flat_map (λ n. section_text l.t.fields l.t.tables n) l.numbers;
  left : AreTablesFrom l.last l.t.tables l.rest;
}
