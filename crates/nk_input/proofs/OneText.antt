-- What the bytes of a text declare is one, a text that declares something has no fault, and a fault is told by one line.
use Rattle.std.proofs.Common.{◌≡◌, ℕ, List, sym, ap, subst, ◌∙◌}
use Rattle.std.specs.Prelude.{Ok, Err}
use Rattle.std.specs.declared.result.Result.{Result}
use Rattle.nk_lex.specs.declared.token.Token.{Token}
use Rattle.nk_lex.specs.declared.token.LexError.{LexError}
use Rattle.nk_lex.specs.declared.token.LexError.TheVariants as lexical
use Rattle.nk_lex.specs.Lex.{tokens_of}
use Rattle.nk_grammar.specs.declared.decl.GrammarError.{GrammarError}
use Rattle.nk_grammar.specs.declared.decl.GrammarError.TheVariants as grammar
use Rattle.nk_grammar.specs.File.{Declaration}
use Rattle.nk_grammar.specs.FileMachine.{file_of}
use Rattle.nk_names.specs.declared.fault.NamesError.{NamesError}
use Rattle.nk_names.specs.declared.fault.NamesError.TheVariants as naming
use Rattle.nk_names.specs.ProgramOf.{DeclaredProgram, program_of}
use Rattle.nk_input.specs.ProgramText.{Declares, HasFault, TellsGrammar, TellsLexical, TellsNames, IsFaultOfNames, IsFaultOfTokens, IsFaultOfBytes}

pub ok_is : {X E : Type 0} (x y : X) → ◌≡◌ {A = Result X E} (Ok x) (Ok y) → x ≡ y
ok_is x y e = cc

-- ---- what is declared is one

pub declares_once : (bytes : List ℕ) (s t : DeclaredProgram) → Declares bytes s → Declares bytes t → s ≡ t
declares_once bytes s t d k =
    let tokens = ok_is d.tokens k.tokens (sym d.cut ∙ k.cut) in
    let declarations = ok_is d.declarations k.declarations (sym d.read ∙ ap file_of tokens ∙ k.read) in
    ok_is s t (sym d.means ∙ ap program_of declarations ∙ k.means)

-- ---- what declares something has no fault

pub no_fault : (bytes : List ℕ) (s : DeclaredProgram) (text : List ℕ) → Declares bytes s → HasFault bytes text → ⊥
no_fault bytes s text d h =
    subst (λ r. IsFaultOfNames r text) d.means
    (subst (λ r. IsFaultOfTokens r text) d.read (subst (λ r. IsFaultOfBytes r text) d.cut h))

-- ---- a fault is told by one line

pub lexical_once : (e : LexError) (x y : List ℕ) → TellsLexical e x → TellsLexical e y → x ≡ y
lexical_once (lexical.BadByte line) x y h k = h ∙ sym k
lexical_once (lexical.NumberTooLarge line) x y h k = h ∙ sym k
lexical_once lexical.NoMemory x y h k = absurd h

pub grammar_once : (e : GrammarError) (x y : List ℕ) → TellsGrammar e x → TellsGrammar e y → x ≡ y
grammar_once (grammar.Unexpected line) x y h k = h ∙ sym k
grammar_once (grammar.TooDeep line) x y h k = h ∙ sym k
grammar_once grammar.NoMemory x y h k = absurd h

pub naming_once : (e : NamesError) (x y : List ℕ) → TellsNames e x → TellsNames e y → x ≡ y
naming_once (naming.Fault kind line) x y h k = h ∙ sym k
naming_once naming.NoMemory x y h k = absurd h

names_once : (r : Result DeclaredProgram NamesError) (x y : List ℕ) → IsFaultOfNames r x → IsFaultOfNames r y → x ≡ y
names_once (Ok s) x y h k = absurd h
names_once (Err e) x y h k = naming_once e x y h k

tokens_once : (r : Result (List Declaration) GrammarError) (x y : List ℕ) → IsFaultOfTokens r x → IsFaultOfTokens r y → x ≡ y
tokens_once (Ok ds) x y h k = names_once (program_of ds) x y h k
tokens_once (Err e) x y h k = grammar_once e x y h k

bytes_once : (r : Result (List Token) LexError) (x y : List ℕ) → IsFaultOfBytes r x → IsFaultOfBytes r y → x ≡ y
bytes_once (Ok ts) x y h k = tokens_once (file_of ts) x y h k
bytes_once (Err e) x y h k = lexical_once e x y h k

pub one_fault : (bytes x y : List ℕ) → HasFault bytes x → HasFault bytes y → x ≡ y
one_fault bytes x y h k = bytes_once (tokens_of bytes) x y h k
