-- The declarations of a table text are those of any text: they say what such declarations declare, and their first fault is a
-- table fault at its line.
use Rattle.std.specs.Prelude.{◌≡◌, List, map}
use Rattle.nk_declare.specs.Declarations.{nothing_declared, declared_by}
use Rattle.nk_tabgrammar.specs.declared.written.Declaration.{Declaration}
use Rattle.nk_tabtext.specs.Values.{plain_declaration, read_of, said_after}

-- a table text's declarations have a fault exactly where the same declarations of any text have one, at the same line; else
-- they say what those declare
abbrev pub DeclaresAlike : Type 0
DeclaresAlike = (ds : List Declaration) → said_after ds nothing_declared ≡ read_of (declared_by (map plain_declaration ds))
