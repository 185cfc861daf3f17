-- What reading a text's tokens answers.
use Rattle.std.proofs.Common.{◌≡◌, ℕ, subst, List, [], ◌∷◌, ◌++◌, refl, sym, ◌∙◌, ap, append_assoc, append-nil, Option, inl, inr}
use Rattle.std.specs.Prelude.{Some, None, Ok, option_and_then}
use Rattle.nk_lex.specs.declared.token.Token.{Token}
use Rattle.nk_tabgrammar.specs.declared.written.WrittenTables.{WrittenTables}
use Rattle.nk_tabgrammar.specs.Terminal.{Terminal, table_terminal_of}
use Rattle.nk_tabgrammar.specs.Spelling.{spell_text, TableTextGoesOn}
use Rattle.nk_tabgrammar.specs.Machine.{Reading, read_table_token, read_table_tokens, first_table_reading, written_at_end, table_judged, rest_of_text, written_of}
use Rattle.nk_lex.specs.Spans.{last_line}
use Rattle.nk_lex.specs.Faults.{and_then}
use Rattle.nk_tabgrammar.specs.Answer.{table_terminals, IsUnexpectedEnd, IsTableParse}
use Rattle.nk_tabgrammar.proofs.Spelled.{front_of, ends, none_some, some_same}
use Rattle.nk_tabgrammar.proofs.Passing.{text_passes}
use Rattle.nk_tabgrammar.proofs.Completing.{completes}

-- tokens in two parts
read_append : (xs ys : List Terminal) (r : Reading) → read_table_tokens (xs ++ ys) r ≡ option_and_then (read_table_tokens ys) (read_table_tokens xs r)
read_append [] ys r = refl
read_append (x ∷ xs) ys r = by_step (read_table_token r x) (read_append xs ys)
  where
    by_step : (o : Option Reading)
        → ((r : Reading) → read_table_tokens (xs ++ ys) r ≡ option_and_then (read_table_tokens ys) (read_table_tokens xs r))
        → option_and_then (read_table_tokens (xs ++ ys)) o ≡ option_and_then (read_table_tokens ys) (option_and_then (read_table_tokens xs) o)
    by_step None go = refl
    by_step (Some r) go = go r

-- tokens that are taken are the front of a text
pub text_goes_on : (ts : List Terminal) (r : Reading) → read_table_tokens ts first_table_reading ≡ Some r → TableTextGoesOn ts
text_goes_on ts r e = let at = front_of ts r e in subst TableTextGoesOn (sym at.0) (completes r.stage r.text r.table at.1)

-- tokens that are refused are the front of none
pub text_stops : (ts : List Terminal) → read_table_tokens ts first_table_reading ≡ None → TableTextGoesOn ts → ⊥
text_stops ts e g =
    let refused : read_table_tokens (ts ++ g.0) first_table_reading ≡ None = read_append ts g.0 first_table_reading ∙ ap (option_and_then (read_table_tokens g.0)) e in
    none_some g.1 (ap (option_and_then written_at_end) (sym refused) ∙ ap (λ l. option_and_then written_at_end (read_table_tokens l first_table_reading)) g.2 ∙ text_passes g.1)

-- what may end is spelled
text_ends : (ts : List Terminal) (r : Reading) (x : WrittenTables) → read_table_tokens ts first_table_reading ≡ Some r → written_at_end r ≡ Some x → ts ≡ spell_text x
text_ends ts r x e f = let at = front_of ts r e in at.0 ∙ ends r.stage r.text r.table x at.1 f

-- the terminals of one more token
terminals_more : (xs : List Token) (t : Token) → table_terminals (xs ++ t ∷ []) ≡ table_terminals xs ++ table_terminal_of t ∷ []
terminals_more [] t = refl
terminals_more (x ∷ xs) t = ap (λ l. table_terminal_of x ∷ l) (terminals_more xs t)

-- the last token's line
last_more : (line : ℕ) (xs : List Token) (t : Token) → last_line line (xs ++ t ∷ []) ≡ t.line
last_more line [] t = refl
last_more line (x ∷ xs) t = last_more x.line xs t

-- the tokens that are left, after tokens that were read
rest_answers : (all rest before : List Token) (r : Reading) → all ≡ before ++ rest
    → read_table_tokens (table_terminals before) first_table_reading ≡ Some r → IsTableParse all (rest_of_text rest r (last_line 1 before))
rest_answers all [] before r parts read = by_end (written_at_end r) refl
  where
    same : all ≡ before
    same = parts ∙ append-nil before

    by_end : (o : Option WrittenTables) → written_at_end r ≡ o → IsTableParse all (table_judged (last_line 1 before) o)
    by_end (Some x) e = ap table_terminals same ∙ text_ends (table_terminals before) r x read e
    by_end None e = inr (subst (λ ts. IsUnexpectedEnd ts (last_line 1 before)) (sym same) (record {
      line_is = refl;
      goes_on = text_goes_on (table_terminals before) r read;
      no_text = λ x h. none_some x (sym ended ∙ ap (λ l. option_and_then written_at_end (read_table_tokens l first_table_reading)) h ∙ text_passes x);
    }))
      where
        ended : option_and_then written_at_end (read_table_tokens (table_terminals before) first_table_reading) ≡ None
        ended = ap (option_and_then written_at_end) read ∙ e
rest_answers all (t ∷ rest) before r parts read = by_step (read_table_token r (table_terminal_of t)) refl (λ s more. rest_answers all rest (before ++ t ∷ []) s parts' more)
  where
    parts' : all ≡ (before ++ t ∷ []) ++ rest
    parts' = parts ∙ sym (append_assoc before (t ∷ []) rest)

    all_read : (o : Option Reading) → read_table_token r (table_terminal_of t) ≡ o
        → read_table_tokens (table_terminals (before ++ t ∷ [])) first_table_reading ≡ o
    all_read o e = ap (λ l. read_table_tokens l first_table_reading) (terminals_more before t) ∙ read_append (table_terminals before) (table_terminal_of t ∷ []) first_table_reading
        ∙ ap (option_and_then (read_table_tokens (table_terminal_of t ∷ []))) read ∙ ap (option_and_then (read_table_tokens [])) e ∙ id_option o
      where
        id_option : (o : Option Reading) → option_and_then (read_table_tokens []) o ≡ o
        id_option None = refl
        id_option (Some s) = refl

    by_step : (o : Option Reading) → read_table_token r (table_terminal_of t) ≡ o
        → ((s : Reading) → read_table_tokens (table_terminals (before ++ t ∷ [])) first_table_reading ≡ Some s → IsTableParse all (rest_of_text rest s (last_line 1 (before ++ t ∷ []))))
        → IsTableParse all (and_then (table_judged t.line o) (λ s. rest_of_text rest s t.line))
    by_step None e go = inl (record {
      before = before;
      token = t;
      rest = rest;
      parts = parts;
      line_is = refl;
      goes_on = text_goes_on (table_terminals before) r read;
      stops = text_stops (table_terminals (before ++ t ∷ [])) (all_read None e);
    })
    by_step (Some s) e go = subst (λ line. IsTableParse all (rest_of_text rest s line)) (last_more 1 before t) (go s (all_read (Some s) e))

-- what is answered is what is written, or the first fault
pub answers : (ts : List Token) → IsTableParse ts (written_of ts)
answers ts = rest_answers ts ts [] first_table_reading refl refl

-- tokens that are taken to the end are read
pub rest_reads : (ts : List Token) (r : Reading) (line : ℕ) (x : WrittenTables)
    → option_and_then written_at_end (read_table_tokens (table_terminals ts) r) ≡ Some x → rest_of_text ts r line ≡ Ok x
rest_reads [] r line x e = ap (table_judged line) e
rest_reads (t ∷ ts) r line x e = by_step (read_table_token r (table_terminal_of t)) e (λ s f. rest_reads ts s t.line x f)
  where
    by_step : (o : Option Reading) → option_and_then written_at_end (option_and_then (read_table_tokens (table_terminals ts)) o) ≡ Some x
        → ((s : Reading) → option_and_then written_at_end (read_table_tokens (table_terminals ts) s) ≡ Some x → rest_of_text ts s t.line ≡ Ok x)
        → and_then (table_judged t.line o) (λ s. rest_of_text ts s t.line) ≡ Ok x
    by_step None e go = absurd (none_some x e)
    by_step (Some s) e go = go s e

-- a spelling is read
pub reads : (ts : List Token) (x : WrittenTables) → table_terminals ts ≡ spell_text x → written_of ts ≡ Ok x
reads ts x h =
    rest_reads ts first_table_reading 1 x (ap (λ l. option_and_then written_at_end (read_table_tokens l first_table_reading)) h ∙ text_passes x)

-- and is one
pub unique : (x y : WrittenTables) → spell_text x ≡ spell_text y → x ≡ y
unique x y h =
    some_same x y (sym (text_passes x) ∙ ap (λ l. option_and_then written_at_end (read_table_tokens l first_table_reading)) h ∙ text_passes y)
