-- What a text tells, from its first token to its end: each name and each number by what it stands for, and where a bucket, a
-- row, a group and the ports of a switch are whole. It is what the states tell of its tokens one by one.
use Rattle.std.specs.Prelude.{◌≡◌, ◌↔◌, List, [], ◌∷◌, ◌++◌, map, Option, Some, None, option_map, option_and_then}
use Rattle.std.specs.List.{flat_map}
use Rattle.nk_lex.specs.declared.token.Token.{Token}
use Rattle.nk_lex.specs.declared.ident.Ident.{Ident}
use Rattle.nk_lex.specs.declared.ident.Number.{Number}
use Rattle.nk_tabgrammar.specs.declared.written.Pair.{Pair}
use Rattle.nk_tabgrammar.specs.declared.written.Declaration.{Declaration}
use Rattle.nk_tabgrammar.specs.declared.written.Declaration.TheVariants as declared
use Rattle.nk_tabgrammar.specs.declared.written.Way.{Way}
use Rattle.nk_tabgrammar.specs.declared.written.Way.TheVariants as way
use Rattle.nk_tabgrammar.specs.declared.written.WrittenMatch.{WrittenMatch}
use Rattle.nk_tabgrammar.specs.declared.written.WrittenBucket.{WrittenBucket}
use Rattle.nk_tabgrammar.specs.declared.written.WrittenTarget.{WrittenTarget}
use Rattle.nk_tabgrammar.specs.declared.written.WrittenTarget.TheVariants as target
use Rattle.nk_tabgrammar.specs.declared.written.WrittenRow.{WrittenRow}
use Rattle.nk_tabgrammar.specs.declared.written.WrittenGroup.{WrittenGroup}
use Rattle.nk_tabgrammar.specs.declared.written.WrittenTable.{WrittenTable}
use Rattle.nk_tabgrammar.specs.declared.written.WrittenTables.{WrittenTables}
use Rattle.nk_tabgrammar.specs.declared.states.State.{State}
use Rattle.nk_tabgrammar.specs.declared.states.State.TheVariants as state
use Rattle.nk_tabgrammar.specs.declared.states.Tells.{Tells}
use Rattle.nk_tabgrammar.specs.declared.states.Tells.TheVariants as tells
use Rattle.nk_tabgrammar.specs.Terminal.{Terminal, name, number, mark, table_terminal_of}
use Rattle.nk_tabgrammar.specs.Spelling.{spell_text}
use Rattle.nk_tabgrammar.specs.Answer.{table_terminals}
use Rattle.nk_tabgrammar.specs.States.{after_token, at_end}

-- what is told, and the name or number that tells it, where one does
abbrev pub Telling : Type 0
Telling = Tells × Option Terminal

abbrev pub told_by_name : Tells → Ident → Telling
told_by_name e w = (e, Some (name w))

abbrev pub told_by_number : Tells → Number → Telling
told_by_number e n = (e, Some (number n))

abbrev pub told_alone : Tells → Telling
told_alone e = (e, None)

-- ---- of what is written

abbrev pub told_declaration : Declaration → List Telling
told_declaration (declared.Field w n) = told_by_name tells.FieldName w ∷ told_by_number tells.FieldMax n ∷ []
told_declaration (declared.Tag w) = told_by_name tells.Tag w ∷ []
told_declaration (declared.Switch n p ps) =
    told_by_number tells.Switch n ∷ told_by_number tells.Port p ∷ (map (told_by_number tells.Port) ps ++ told_alone tells.SwitchEnds ∷ [])
told_declaration (declared.Link a m b n) =
    told_by_number tells.LinkSwitch a ∷ told_by_number tells.LinkPort m ∷ told_by_number tells.LinkToSwitch b ∷ told_by_number tells.LinkToPort n ∷ []

abbrev pub told_set : Pair → List Telling
told_set p = told_by_name tells.SetName p.name ∷ told_by_number tells.SetValue p.number ∷ []

abbrev pub told_way : Way → Telling
told_way way.Back = told_alone tells.OutBack
told_way (way.Port n) = told_by_number tells.OutPort n

-- a bucket, and what its end tells
abbrev pub told_bucket : Tells → WrittenBucket → List Telling
told_bucket ends b = flat_map told_set b.sets ++ told_way b.way ∷ told_alone ends ∷ []

abbrev pub told_group : WrittenGroup → List Telling
told_group g =
    (told_by_number tells.Group g.number ∷ (told_bucket tells.GroupBucket g.first ++ flat_map (told_bucket tells.GroupBucket) g.more))
    ++ told_alone tells.GroupEnds ∷ []

abbrev pub told_length : Option Number → List Telling
told_length None = []
told_length (Some n) = told_by_number tells.MatchLength n ∷ []

abbrev pub told_match : WrittenMatch → List Telling
told_match m = told_by_name tells.MatchName m.name ∷ told_by_number tells.MatchValue m.number ∷ told_length m.length

abbrev pub told_target : WrittenTarget → List Telling
told_target (target.Bucket b) = told_bucket tells.RowBucket b
told_target (target.Group n) = told_by_number tells.RowGroup n ∷ []
told_target target.Discard = told_alone tells.RowDrop ∷ []

abbrev pub told_row : WrittenRow → List Telling
told_row r = told_by_number tells.Row r.priority ∷ (flat_map told_match r.matches ++ told_target r.target)

abbrev pub told_table : WrittenTable → List Telling
told_table t = told_by_number tells.Table t.switch ∷ (flat_map told_group t.groups ++ flat_map told_row t.rows)

abbrev pub told_text : WrittenTables → List Telling
told_text x = told_by_number tells.Version x.version ∷ (flat_map told_declaration x.declarations ++ flat_map told_table x.tables)

-- ---- of tokens

-- the name or number that a token is
abbrev pub worded : Terminal → Option Terminal
worded (mark k) = None
worded t = Some t

-- what is told, where something is
abbrev pub told_by : Tells → Option Terminal → List Telling
told_by tells.Nothing t = []
told_by e t = (e, t) ∷ []

-- what these tokens and the end after them tell from a state on; none where no text goes on or ends so
abbrev pub tellings_from : List Token → State → Option (List Telling)
tellings_from [] s = option_map (λ e. told_by e None) (at_end s)
tellings_from (t ∷ ts) s =
    option_and_then (λ p. option_map (λ l. told_by p.1 (worded (table_terminal_of t)) ++ l) (tellings_from ts p.0)) (after_token s t.kind)

abbrev pub tellings_of : List Token → Option (List Telling)
tellings_of ts = tellings_from ts state.Start

-- the states take tokens to an end exactly where they spell a text, and tell what is written
abbrev pub TellTexts : Type 0
TellTexts =
    (ts : List Token) (l : List Telling)
    → (tellings_of ts ≡ Some l) ↔ ((x : WrittenTables) × (table_terminals ts ≡ spell_text x) × (l ≡ told_text x))
