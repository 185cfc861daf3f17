-- Declarations of fields, the tag, switches and links in a program.
use Rattle.std.specs.Prelude.{◌≡◌, List, map}
use Rattle.nk_declare.specs.Declarations.{declared_by}
use Rattle.nk_declare.specs.Declarations as declare
use Rattle.nk_grammar.specs.File.{Declaration, field, tag, switch, declared_link}
use Rattle.nk_names.specs.ProgramOf.{program_of, empty_program, program_beside}

-- such a declaration as a program's
abbrev pub in_program : declare.NetworkDeclaration → Declaration
in_program (declare.field w n) = field w n
in_program (declare.tag w) = tag w
in_program (declare.switch n ps) = switch n ps
in_program (declare.link a m b n) = declared_link a m b n

-- a program of such declarations says what they declare, or has their first fault at its line
abbrev pub SaysDeclared : Type 0
SaysDeclared = (ds : List declare.NetworkDeclaration) → program_of (map in_program ds) ≡ program_beside empty_program (declared_by ds)
