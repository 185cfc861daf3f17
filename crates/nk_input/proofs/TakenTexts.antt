-- A text in memory whose tokens are taken as they come.
use Rattle.std.proofs.Common.{◌≡◌, ℕ, List, ◌++◌, sym, ap, subst, ◌∙◌, append_assoc}
use Rattle.std.specs.declared.result.Result.{Result}
use Rattle.std.specs.Prelude.{Ok, Err, IfOk, OnOk, Option, Some, None, All, ◌≤◌}
use Rattle.std.specs.declared.alloc.AllocError.{AllocError}
use Rattle.nk_lex.specs.declared.token.Token.{Token}
use Rattle.nk_lex.specs.declared.token.LexError.{LexError}
use Rattle.nk_lex.specs.Kept.{FeedState, IsFed}
use Rattle.nk_lex.specs.Lex.{answer_with, largest, scan, tokens_of}
use Rattle.nk_lex.specs.Spans.{ValuesAreSmall}
use Rattle.nk_lex.specs.Pieces.{completed}
use Rattle.nk_grammar.specs.declared.decl.GrammarError.{GrammarError}
use Rattle.nk_grammar.specs.File.{Declaration}
use Rattle.nk_grammar.specs.declared.decl.GrammarError.TheVariants as grammar
use Rattle.nk_grammar.specs.FileMachine.{file_of}
use Rattle.nk_grammar.specs.FileMachine as grammars
use Rattle.nk_input.specs.declared.program_text.ReadText.{ReadText}
use Rattle.nk_input.specs.declared.program_text.ReadText.TheVariants as read
use Rattle.nk_input.specs.ProgramText.{IsFaultOfBytes, IsFaultOfTokens}
use Rattle.nk_input.specs.ReadText.{IsGrammarFault, IsLexicalFault, IsReadOf, IsReadOfNames, IsReadOfTokens}

-- the front of the text was fed, and its tokens were taken; this is the rest
pub record IsTakenSoFar (text rest : List ℕ) (P : List Token → Type 0) (s : FeedState) : Type 0 where
  pub front : List ℕ
  pub whole : front ++ rest ≡ text
  pub fed : IsFed front s
  pub taken : P (completed front)

-- a piece more
pub piece_more : (text rest piece more : List ℕ) (P Q : List Token → Type 0) (s t : FeedState) (so : IsTakenSoFar text rest P s) → rest ≡ piece ++ more
    → IsFed (so.front ++ piece) t → Q (completed (so.front ++ piece)) → IsTakenSoFar text more Q t
piece_more text rest piece more P Q s t so split fed taken = record {
  front = so.front ++ piece;
  whole = append_assoc so.front piece more ∙ ap (λ l. so.front ++ l) (sym split) ∙ so.whole;
  fed = fed;
  taken = taken;
}

-- the numbers of a text's tokens are small
pub small_of : ValuesAreSmall → (text : List ℕ) (ts : List Token) → tokens_of text ≡ Ok ts → All (λ t. t.value ≤ largest) ts
small_of small text ts e = subst (All (λ t. t.value ≤ largest)) (same (scan text 0 1 0).0 (scan text 0 1 0).1 e) (small text)
  where
    same : (us : List Token) (o : Option LexError) → answer_with us o ≡ Ok ts → us ≡ ts
    same us None e = cc
    same us (Some f) e = absurd cc

-- what holds of a value that is there
pub if_ok : {X E : Type 0} {P Q : X → Type 0} (r : Result X E) → ((x : X) → P x → Q x) → IfOk r P → IfOk r Q
if_ok (Ok x) f h = f x h
if_ok (Err e) f h = tt

-- what is read of the declarations is read of the tokens
pub of_declarations : (ts : List Token) (ds : List Declaration) (r : Result ReadText AllocError) → file_of ts ≡ Ok ds → IfOk r (IsReadOfNames ds)
    → IfOk r (IsReadOfTokens ts)
of_declarations ts ds r is h = if_ok r of h
  where
    of : (x : ReadText) → IsReadOfNames ds x → IsReadOfTokens ts x
    of (read.Program p) h = record { declarations = ds; read = is; of = h }
    of (read.Fault text) h = subst (λ x. IsFaultOfTokens x text.items) (sym is) h

-- what is read of the tokens is read of the text
pub of_tokens : (bytes : List ℕ) (ts : List Token) (r : Result ReadText AllocError) → tokens_of bytes ≡ Ok ts → IfOk r (IsReadOfTokens ts)
    → IfOk r (IsReadOf bytes)
of_tokens bytes ts r cut h = if_ok r of h
  where
    of : (x : ReadText) → IsReadOfTokens ts x → IsReadOf bytes x
    of (read.Program p) h = record { tokens = ts; cut = cut; of = h }
    of (read.Fault text) h = subst (λ x. IsFaultOfBytes x text.items) (sym cut) h

-- a fault of the tokens is told
pub grammar_told : (ts : List Token) (e : GrammarError) (r : Result ReadText AllocError) → grammars.ParseFails e (file_of ts) → IfOk r (IsGrammarFault e)
    → IfOk r (IsReadOfTokens ts)
grammar_told ts e r is h = if_ok r (of e is) h
  where
    of : (e : GrammarError) → grammars.ParseFails e (file_of ts) → (x : ReadText) → IsGrammarFault e x → IsReadOfTokens ts x
    of e is (read.Program p) h = absurd h
    of grammar.NoMemory is (read.Fault text) h = absurd h
    of (grammar.Unexpected line) is (read.Fault text) h = subst (λ x. IsFaultOfTokens x text.items) (sym is) h
    of (grammar.TooDeep line) is (read.Fault text) h = subst (λ x. IsFaultOfTokens x text.items) (sym is) h

-- a lexical fault is told
pub lexical_fault_told : (bytes : List ℕ) (e : LexError) (r : Result ReadText AllocError) → tokens_of bytes ≡ Err e → IfOk r (IsLexicalFault e)
    → IfOk r (IsReadOf bytes)
lexical_fault_told bytes e r is h = if_ok r of h
  where
    of : (x : ReadText) → IsLexicalFault e x → IsReadOf bytes x
    of (read.Program p) h = absurd h
    of (read.Fault text) h = subst (λ x. IsFaultOfBytes x text.items) (sym is) h

pub on_ok : {X E P Q : Type 0} (r : Result X E) → (P → Q) → OnOk r P → OnOk r Q
on_ok (Ok x) f h = f h
on_ok (Err e) f h = tt
