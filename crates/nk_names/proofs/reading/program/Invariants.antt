use Rattle.std.proofs.Common.{map, take}
use Rattle.nk_grammar.specs.File.{declaration_of}
use Rattle.nk_names.specs.Declaring.{IsDeclared}
use Rattle.nk_names.proofs.reading.program.Given as goal

-- the declarations so far are declared
abbrev pub invariant-loop-decl : goal.invariant-loop-decl
invariant-loop-decl l = IsDeclared (map declaration_of (take l.decl-index l.f.decls)) l.reader
