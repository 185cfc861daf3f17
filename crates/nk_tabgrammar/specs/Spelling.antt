-- The grammar of table texts: what is written, and the tokens that spell it.
--
--   text    : tables NUMBER decl* section*
--   decl    : field NAME NUMBER | tag NAME | switch NUMBER ports NUMBER { , NUMBER }
--           | link NUMBER : NUMBER -> NUMBER : NUMBER
--   section : table NUMBER { groupd } { rowd }
--   groupd  : group NUMBER = bucket { bucket }
--   rowd    : row NUMBER : { NAME = NUMBER | NAME = NUMBER / NUMBER } -> target
--   target  : bucket | group NUMBER | drop
--   bucket  : [ { NAME := NUMBER } out NUMBER ] | [ { NAME := NUMBER } out in ]
use Rattle.std.specs.Prelude.{◌≡◌, Option, Some, None, List, [], ◌∷◌, ◌++◌}
use Rattle.std.specs.List.{flat_map}
use Rattle.nk_lex.specs.declared.kind.Kind.TheVariants as kind
use Rattle.nk_lex.specs.declared.ident.Number.{Number}
use Rattle.nk_tabgrammar.specs.declared.written.Pair.{Pair}
use Rattle.nk_tabgrammar.specs.declared.written.Declaration.{Declaration}
use Rattle.nk_tabgrammar.specs.declared.written.Declaration.TheVariants as declared
use Rattle.nk_tabgrammar.specs.declared.written.Way.{Way}
use Rattle.nk_tabgrammar.specs.declared.written.Way.TheVariants as way
use Rattle.nk_tabgrammar.specs.declared.written.WrittenMatch.{WrittenMatch}
use Rattle.nk_tabgrammar.specs.declared.written.WrittenBucket.{WrittenBucket}
use Rattle.nk_tabgrammar.specs.declared.written.WrittenTarget.{WrittenTarget}
use Rattle.nk_tabgrammar.specs.declared.written.WrittenTarget.TheVariants as target
use Rattle.nk_tabgrammar.specs.declared.written.WrittenRow.{WrittenRow}
use Rattle.nk_tabgrammar.specs.declared.written.WrittenGroup.{WrittenGroup}
use Rattle.nk_tabgrammar.specs.declared.written.WrittenTable.{WrittenTable}
use Rattle.nk_tabgrammar.specs.declared.written.WrittenTables.{WrittenTables}
use Rattle.nk_tabgrammar.specs.Terminal.{Terminal, name, number, mark}

-- further ports
abbrev pub spell_port : Number → List Terminal
spell_port p = mark kind.Comma ∷ number p ∷ []

-- a declaration
abbrev pub spell_table_declaration : Declaration → List Terminal
spell_table_declaration (declared.Field w n) = mark kind.Field ∷ name w ∷ number n ∷ []
spell_table_declaration (declared.Tag w) = mark kind.Tag ∷ name w ∷ []
spell_table_declaration (declared.Switch n p ps) =
    mark kind.Switch ∷ number n ∷ mark kind.Ports ∷ number p ∷ flat_map spell_port ps
spell_table_declaration (declared.Link a m b n) =
    mark kind.Link ∷ number a ∷ mark kind.Colon ∷ number m ∷ mark kind.Arrow ∷ number b ∷ mark kind.Colon ∷ number n ∷ []

-- how many digits of a match's value count, where it is written
abbrev pub spell_length : Option Number → List Terminal
spell_length None = []
spell_length (Some n) = mark kind.Slash ∷ number n ∷ []

-- a match
abbrev pub spell_match : WrittenMatch → List Terminal
spell_match m = name m.name ∷ mark kind.Equal ∷ number m.number ∷ spell_length m.length

-- an assignment
abbrev pub spell_set : Pair → List Terminal
spell_set p = name p.name ∷ mark kind.Assign ∷ number p.number ∷ []

-- an exit
abbrev pub way_token : Way → Terminal
way_token way.Back = mark kind.In
way_token (way.Port n) = number n

-- a bucket
abbrev pub spell_bucket : WrittenBucket → List Terminal
spell_bucket b =
    mark kind.OpenBracket ∷ (flat_map spell_set b.sets ++ mark kind.Out ∷ way_token b.way ∷ mark kind.CloseBracket ∷ [])

-- a target
abbrev pub spell_target : WrittenTarget → List Terminal
spell_target (target.Bucket b) = spell_bucket b
spell_target (target.Group n) = mark kind.Group ∷ number n ∷ []
spell_target target.Discard = mark kind.Drop ∷ []

-- a row up to its matches
abbrev pub spell_matches : Number → List WrittenMatch → List Terminal
spell_matches p ms = mark kind.Row ∷ number p ∷ mark kind.Colon ∷ flat_map spell_match ms

-- a row
abbrev pub spell_table_row : WrittenRow → List Terminal
spell_table_row r = spell_matches r.priority r.matches ++ mark kind.Arrow ∷ spell_target r.target

-- a group
abbrev pub spell_group : WrittenGroup → List Terminal
spell_group g =
    mark kind.Group ∷ number g.number ∷ mark kind.Equal ∷ (spell_bucket g.first ++ flat_map spell_bucket g.more)

-- a table
abbrev pub spell_table : WrittenTable → List Terminal
spell_table t = mark kind.Table ∷ number t.switch ∷ (flat_map spell_group t.groups ++ flat_map spell_table_row t.rows)

-- a text
abbrev pub spell_text : WrittenTables → List Terminal
spell_text x =
    mark kind.Tables ∷ number x.version ∷ (flat_map spell_table_declaration x.declarations ++ flat_map spell_table x.tables)

-- a text goes on with these tokens
abbrev pub TableTextGoesOn : List Terminal → Type 0
TableTextGoesOn ts = (more : List Terminal) × (x : WrittenTables) × (ts ++ more ≡ spell_text x)
