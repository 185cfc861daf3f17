-- What is read from tokens of a text with a certificate: its declarations and positions are those of a text.
use Rattle.std.proofs.Common.{◌≡◌, ◌≤◌, subst, List, [], ◌∷◌, ◌++◌, refl, sym, ap, arith}
use Rattle.std.proofs.lemmas.List.Elements.{All-nil, All-cons, All-tail}
use Rattle.std.specs.Prelude.{Ok, Err, IfOk, map, All}
use Rattle.std.specs.declared.result.Result.{Result}
use Rattle.nk_lex.specs.declared.token.Token.{Token}
use Rattle.nk_lex.specs.Lex.{largest}
use Rattle.nk_lex.specs.declared.ident.Number.{Number}
use Rattle.nk_grammar.specs.Terminal.{Terminal, number, opening, colon, outside, certificate_word, row_word, start_word}
use Rattle.nk_grammar.specs.Grammar.{spell_pol, pol_tree}
use Rattle.nk_grammar.specs.File.{Declaration, IsWritten, spell_file}
use Rattle.nk_grammar.specs.Certified.{Row, row, row_value, IsWrittenRow, WrittenRow, written_row, spell_numbers, spell_row, spell_rows, number_value, row_of, spell_certificate, certified}
use Rattle.nk_grammar.specs.CertifiedMachine.{certified_of}
use Rattle.nk_grammar.specs.CertifiedAnswer.{IsCertifiedAnswer}
use Rattle.nk_grammar.specs.CertifiedProgress.{BeginsWithStart}
use Rattle.nk_grammar.specs.FileMachine.{ParseReturns}
use Rattle.nk_grammar.specs.declared.decl.CertRow.{CertRow}
use Rattle.nk_grammar.specs.declared.decl.GrammarError.{GrammarError}
use Rattle.nk_grammar.proofs.CertifiedAnswering.{answers}
use Rattle.nk_grammar.proofs.Completing.{last_has}
use Rattle.nk_grammar.proofs.Written.{IsSmall, are_small, written_all}

-- what stands in front
all_before : (P : Terminal → Type 0) (xs ys : List Terminal) → All P (xs ++ ys) → All P xs
all_before P [] ys h = All-nil P
all_before P (x ∷ xs) ys h = All-cons P x xs (h 0 opening (omega arith)) (all_before P xs ys (All-tail P x (xs ++ ys) h))

-- what stands after
all_after : (P : Terminal → Type 0) (xs ys : List Terminal) → All P (xs ++ ys) → All P ys
all_after P [] ys h = h
all_after P (x ∷ xs) ys h = all_after P xs ys (All-tail P x (xs ++ ys) h)

-- numbers that are spelled
numbers_small : (ns : List Number) → All IsSmall (spell_numbers ns) → All (λ n. n ≤ largest) (map number_value ns)
numbers_small [] h = All-nil (λ n. n ≤ largest)
numbers_small (n ∷ ns) h =
    All-cons (λ n. n ≤ largest) n.value (map number_value ns) (h 0 opening (omega arith))
    (numbers_small ns (All-tail IsSmall (number n) (spell_numbers ns) h))

-- a row that is spelled
row_small : (w : WrittenRow) → All IsSmall (spell_row w) → IsWrittenRow (row_of w)
row_small (written_row line n ns p) h =
    let numbers : List Terminal = spell_numbers ns ++ colon ∷ spell_pol p in
    let rest : All IsSmall numbers = All-tail IsSmall (number n) numbers (All-tail IsSmall (outside (row_word line)) (number n ∷ numbers) h) in
    All-cons (λ n. n ≤ largest) n.value (map number_value ns) (h 1 opening (omega arith))
    (numbers_small ns (all_before IsSmall (spell_numbers ns) (colon ∷ spell_pol p) rest))

-- rows that are spelled
rows_small : (ws : List WrittenRow) → All IsSmall (spell_rows ws) → All IsWrittenRow (map row_of ws)
rows_small [] h = All-nil IsWrittenRow
rows_small (w ∷ ws) h =
    All-cons IsWrittenRow (row_of w) (map row_of ws) (row_small w (all_before IsSmall (spell_row w) (spell_rows ws) h))
    (rows_small ws (all_after IsSmall (spell_row w) (spell_rows ws) h))

-- the declarations that are read
pub declarations_written : (ts : List Token) (ds : List Declaration) (rs : List Row) → certified_of ts ≡ Ok (certified ds rs)
    → All (λ t. t.value ≤ largest) ts → All IsWritten ds
declarations_written ts ds rs e v =
    let answer : IsCertifiedAnswer ts (Ok (certified ds rs)) = subst (IsCertifiedAnswer ts) e (answers ts) in
    let h = answer.0 in
    let following : List Terminal = outside certificate_word ∷ spell_certificate h.line h.pred h.others in
    let spelled : All IsSmall (spell_file h.decls ++ following) = subst (All IsSmall) h.tokens (are_small ts v) in
    subst (All IsWritten) (sym (ap (λ c. c.declarations) h.value))
    (written_all h.decls (all_before IsSmall (spell_file h.decls) following spelled))

-- the rows that are read
pub rows_written : (ts : List Token) (ds : List Declaration) (rs : List Row) → certified_of ts ≡ Ok (certified ds rs)
    → All (λ t. t.value ≤ largest) ts → All IsWrittenRow rs
rows_written ts ds rs e v =
    let answer : IsCertifiedAnswer ts (Ok (certified ds rs)) = subst (IsCertifiedAnswer ts) e (answers ts) in
    let h = answer.0 in
    let front : List Terminal = outside certificate_word ∷ outside (row_word h.line) ∷ outside start_word ∷ colon ∷ [] in
    let following : List Terminal = spell_pol h.pred ++ spell_rows h.others in
    let spelled : All IsSmall (spell_file h.decls ++ (front ++ following)) = subst (All IsSmall) h.tokens (are_small ts v) in
    let certificate : All IsSmall following = all_after IsSmall front following (all_after IsSmall (spell_file h.decls) (front ++ following) spelled) in
    subst (All IsWrittenRow) (sym (ap (λ c. c.rows) h.value))
    (All-cons IsWrittenRow (row [] (pol_tree h.pred) h.line) (map row_of h.others) (All-nil (λ n. n ≤ largest))
    (rows_small h.others (all_after IsSmall (spell_pol h.pred) (spell_rows h.others) certificate)))

-- the last row that is read
pub last_row_written : (ts : List Token) (ds : List Declaration) (rs : List Row) (r : Result CertRow GrammarError) → All (λ t. t.value ≤ largest) ts
    → ParseReturns (λ x. certified ds (rs ++ row_value x ∷ [])) r (certified_of ts) → IfOk r (λ x. IsWrittenRow (row_value x))
last_row_written ts ds rs (Ok x) v e = last_has IsWrittenRow rs (row_value x) (rows_written ts ds (rs ++ row_value x ∷ []) e v)
last_row_written ts ds rs (Err f) v e = tt

-- and the first, which may be that
pub last_row_begins : (ts : List Token) (ds : List Declaration) (rs : List Row) (r : Result CertRow GrammarError)
    → ParseReturns (λ x. certified ds (rs ++ row_value x ∷ [])) r (certified_of ts) → IfOk r (λ x. BeginsWithStart (rs ++ row_value x ∷ []))
last_row_begins ts ds rs (Ok x) e =
    let answer : IsCertifiedAnswer ts (Ok (certified ds (rs ++ row_value x ∷ []))) = subst (IsCertifiedAnswer ts) e (answers ts) in
    subst (λ c. BeginsWithStart c.rows) (sym answer.0.value) refl
last_row_begins ts ds rs (Err f) e = tt
