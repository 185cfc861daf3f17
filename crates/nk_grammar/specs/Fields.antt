-- What a text declares as a field has a name by the lexical rules, no keyword, and a maximum that a text can write.
use Rattle.std.specs.Prelude.{◌≡◌, ◌≤◌, ℕ, List, Ok, All, ⊤}
use Rattle.nk_lex.specs.declared.token.Token.{Token}
use Rattle.nk_lex.specs.Lex.{largest, tokens_of}
use Rattle.nk_lex.specs.Spelling.{IsName}
use Rattle.nk_grammar.specs.File.{Declaration, field}
use Rattle.nk_grammar.specs.FileMachine.{file_of}

-- a field, if it is one, that a text can declare
abbrev pub IsFieldOfText : Declaration → Type 0
IsFieldOfText (field w n) = IsName w.text × (n.value ≤ largest)
IsFieldOfText d = ⊤

-- all fields that a text declares are
abbrev pub DeclaresFields : Type 0
DeclaresFields = (text : List ℕ) (ts : List Token) (ds : List Declaration) → tokens_of text ≡ Ok ts → file_of ts ≡ Ok ds
    → All IsFieldOfText ds
