use Rattle.std.proofs.Common.{◌≡◌, ◌++◌, drop}
use Rattle.nk_tabtext.specs.Text.{table_field_lines, fields_text}
use Rattle.nk_tabtext.proofs.head.fields.Given as goal

-- what is made so far, then the rest, is the whole
abbrev pub invariant-loop-place : goal.invariant-loop-place
invariant-loop-place l =
    l.out.items ++ table_field_lines (drop l.place l.fs.names) (drop l.place l.fs.maxima) ≡ l.fn.out.items ++ fields_text l.fs
