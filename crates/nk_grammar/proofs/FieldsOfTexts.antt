-- What a text declares as a field has a name and a maximum of a text.
use Rattle.std.proofs.Common.{◌≡◌, ◌≤◌, ℕ, List, [], ◌∷◌, ◌++◌, refl, sym, subst, Option}
use Rattle.std.proofs.lemmas.List.Elements.{All-from_recursion, recursion_from_All}
use Rattle.std.specs.Prelude.{All, Some, None, Ok, Err, map, ⊤}
use Rattle.std.specs.List.{AllByRecursion}
use Rattle.std.specs.declared.result.Result.{Result}
use Rattle.nk_lex.specs.declared.kind.Kind.{Kind}
use Rattle.nk_lex.specs.declared.kind.Kind.TheVariants as kind
use Rattle.nk_lex.specs.declared.token.Token.{Token}
use Rattle.nk_lex.specs.declared.token.LexError.{LexError}
use Rattle.nk_lex.specs.Lex.{answer_with, largest, scan, tokens_of}
use Rattle.nk_lex.specs.Spans.{ValuesAreSmall}
use Rattle.nk_lex.specs.Spelling.{IsName, NamesAreNames}
use Rattle.nk_grammar.specs.Terminal.{Terminal, name, number, terminal_from}
use Rattle.nk_grammar.specs.File.{Declaration, Written, written_field, written_tag, written_switch, written_declared_link, written_let, written_fabric, written_virtual, spell_declaration, spell_file, declared}
use Rattle.nk_grammar.specs.FileMachine.{file_of}
use Rattle.nk_grammar.specs.Answer.{terminals, IsParse}
use Rattle.nk_grammar.specs.Fields.{IsFieldOfText}
use Rattle.nk_grammar.proofs.Answering.{answers}

-- a token as a text gives it
abbrev IsOfText : Token → Type 0
IsOfText t = (t.kind ≡ kind.Name → IsName t.text) × (t.value ≤ largest)

-- its terminal
abbrev IsTerminalOfText : Terminal → Type 0
IsTerminalOfText (name w) = IsName w.text
IsTerminalOfText (number n) = n.value ≤ largest
IsTerminalOfText t = ⊤

terminal_fits : (k : Kind) (line value : ℕ) (text : List ℕ) → (k ≡ kind.Name → IsName text) → value ≤ largest
    → IsTerminalOfText (terminal_from k line value text)
terminal_fits kind.Name line value text h le = h refl
terminal_fits kind.Number line value text h le = le
terminal_fits k line value text h le = tt

terminals_fit : (ts : List Token) → AllByRecursion IsOfText ts → AllByRecursion IsTerminalOfText (terminals ts)
terminals_fit [] h = tt
terminals_fit (t ∷ ts) h = (terminal_fits t.kind t.line t.value t.text h.0.0 h.0.1, terminals_fit ts h.1)

-- what holds of all holds of those after
following : (P : Terminal → Type 0) (xs ys : List Terminal) → AllByRecursion P (xs ++ ys) → AllByRecursion P ys
following P [] ys h = h
following P (x ∷ xs) ys h = following P xs ys h.1

fields_fit : (ws : List Written) → AllByRecursion IsTerminalOfText (spell_file ws) → AllByRecursion IsFieldOfText (map declared ws)
fields_fit [] h = tt
fields_fit (written_field w n ∷ ws) h = ((h.1.0, h.1.1.0), fields_fit ws h.1.1.1)
fields_fit (written_tag w ∷ ws) h = (tt, fields_fit ws (following IsTerminalOfText (spell_declaration (written_tag w)) (spell_file ws) h))
fields_fit (written_switch n p ps ∷ ws) h = (tt, fields_fit ws (following IsTerminalOfText (spell_declaration (written_switch n p ps)) (spell_file ws) h))
fields_fit (written_declared_link a m b n ∷ ws) h = (tt, fields_fit ws (following IsTerminalOfText (spell_declaration (written_declared_link a m b n)) (spell_file ws) h))
fields_fit (written_let line w p ∷ ws) h = (tt, fields_fit ws (following IsTerminalOfText (spell_declaration (written_let line w p)) (spell_file ws) h))
fields_fit (written_fabric line w p ∷ ws) h = (tt, fields_fit ws (following IsTerminalOfText (spell_declaration (written_fabric line w p)) (spell_file ws) h))
fields_fit (written_virtual a m b n w ∷ ws) h = (tt, fields_fit ws (following IsTerminalOfText (spell_declaration (written_virtual a m b n w)) (spell_file ws) h))

-- the tokens of a text without fault are those before its fault
all_tokens : (ts us : List Token) (o : Option LexError) → answer_with us o ≡ Ok ts → us ≡ ts
all_tokens ts us None e = cc
all_tokens ts us (Some x) e = absurd (not_ok e)
  where
    not_ok : ◌≡◌ {A = Result (List Token) LexError} (Err x) (Ok ts) → ⊥
    not_ok e = cc

pub declares_fields : NamesAreNames → ValuesAreSmall → (text : List ℕ) (ts : List Token) (ds : List Declaration)
    → tokens_of text ≡ Ok ts → file_of ts ≡ Ok ds → All IsFieldOfText ds
declares_fields names values text ts ds cut read =
    let all : All IsOfText ts = subst (All IsOfText) (all_tokens ts (scan text 0 1 0).0 (scan text 0 1 0).1 cut)
    (λ k d lt. (names text k d lt, values text k d lt)) in
    let answer : IsParse ts (Ok ds) = subst (IsParse ts) read (answers ts) in
    All-from_recursion IsFieldOfText ds
    (subst (AllByRecursion IsFieldOfText) (sym answer.0.2)
    (fields_fit answer.0.0 (subst (AllByRecursion IsTerminalOfText) answer.0.1 (terminals_fit ts (recursion_from_All IsOfText ts all)))))
