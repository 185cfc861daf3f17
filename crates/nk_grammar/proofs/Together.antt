-- A program's text in front of its certificate.
use Rattle.std.proofs.Common.{◌≡◌, ◌+◌, ℕ, List, [], ◌∷◌, ◌++◌, Bool, true, false, length, refl, sym, subst, ◌∙◌, ap, Option}
use Rattle.std.specs.Prelude.{Some, None, Ok, Err, map, if◌then◌else◌, nat_le}
use Rattle.std.specs.declared.result.Result.{Result}
use Rattle.nk_lex.specs.declared.token.Token.{Token}
use Rattle.nk_lex.specs.Lex.{tokens_of}
use Rattle.nk_lex.specs.Spans.{line_feeds}
use Rattle.nk_lex.specs.Joined.{token_moved, joined_after, JoinsTexts}
use Rattle.nk_lex.specs.Faults.{and_then}
use Rattle.nk_grammar.specs.declared.decl.GrammarError.{GrammarError}
use Rattle.nk_grammar.specs.declared.decl.GrammarError.TheVariants as error
use Rattle.nk_grammar.specs.Terminal.{Terminal, outside, certificate_word, terminal_of}
use Rattle.nk_grammar.specs.File.{Declaration, Written, declared, spell_file}
use Rattle.nk_grammar.specs.FileMachine.{Reading, read_one, first_reading, declarations_at_end, open_count, judged, ended_at, rest_of_file, file_of}
use Rattle.nk_grammar.specs.Answer.{terminals}
use Rattle.nk_grammar.specs.Certified.{Row, certified, spell_certificate}
use Rattle.nk_grammar.specs.CertifiedMachine.{declaring, row_wanted, certifying, certificate_begins, still_declaring, certify_one, judged_certified, rest_of_certified, certified_of}
use Rattle.nk_grammar.specs.CertifiedAnswer.{IsCertifiedAnswer}
use Rattle.nk_grammar.specs.Moved.{row_moved, IsReadTogether}
use Rattle.nk_grammar.proofs.Certificates.{as_declaring, declaring_judged}
use Rattle.nk_grammar.proofs.CertifiedTexts.{not_certificate}
use Rattle.nk_grammar.proofs.CertifiedAnswering.{answers}
use Rattle.nk_grammar.proofs.Carried.{rows_following, rows_further}
use Rattle.nk_grammar.proofs.Moves.{terminal_moved, token_terminal}

-- ---- the program in front

-- a fault is no value
no_value : {X A : Type 0} (e : GrammarError) (x : X) → ◌≡◌ {A = Result X GrammarError} (Err e) (Ok x) → A
no_value e x f = absurd cc

-- what is left of the tokens after a program's
record IsRead (ts us : List Token) (r : Reading) (ds : List Declaration) (line : ℕ) : Type 0 where
  left : Reading
  last : ℕ
  ends : declarations_at_end left ≡ Some ds
  rest : rest_of_certified (ts ++ us) (certifying (declaring r) [] []) line ≡ rest_of_certified us (certifying (declaring left) [] []) last

front_read : (ts us : List Token) (r : Reading) (ds : List Declaration) (line : ℕ) → rest_of_file ts r line ≡ Ok ds → IsRead ts us r ds line
front_read [] us r ds line e = record { left = r; last = line; ends = at_end (declarations_at_end r) e; rest = refl }
  where
    at_end : (o : Option (List Declaration)) → ended_at line o ≡ Ok ds → o ≡ Some ds
    at_end None f = no_value (error.Unexpected line) ds f
    at_end (Some es) f = same f
      where
        same : ◌≡◌ {A = Result (List Declaration) GrammarError} (Ok es) (Ok ds) → ◌≡◌ {A = Option (List Declaration)} (Some es) (Some ds)
        same f = cc
front_read (t ∷ ts) us r ds line e = by_step (read_one r (terminal_of t)) refl e (λ s f. front_read ts us s ds t.line f)
  where
    by_step : (o : Option Reading) → read_one r (terminal_of t) ≡ o → and_then (judged t.line o) (λ s. rest_of_file ts s t.line) ≡ Ok ds
        → ((s : Reading) → rest_of_file ts s t.line ≡ Ok ds → IsRead ts us s ds t.line) → IsRead (t ∷ ts) us r ds line
    by_step None f g more = no_value (error.Unexpected t.line) ds g
    by_step (Some s) f g more = by_test (nat_le (open_count s) 256) refl g
      where
        by_test : (b : Bool) → nat_le (open_count s) 256 ≡ b
            → and_then (if b then Ok s else Err (error.TooDeep t.line)) (λ q. rest_of_file ts q t.line) ≡ Ok ds → IsRead (t ∷ ts) us r ds line
        by_test false h i = no_value (error.TooDeep t.line) ds i
        by_test true h i =
            let next = more s i in record {
              left = next.left;
              last = next.last;
              ends = next.ends;
              rest =
                  ap (λ b. and_then (judged_certified t.line (if b then certificate_begins [] (declarations_at_end r) else still_declaring [] (read_one r (terminal_of t)))) (λ c. rest_of_certified (ts ++ us) c t.line))
                  (not_certificate r s (terminal_of t) f)
                  ∙ ap (λ o. and_then (judged_certified t.line (still_declaring [] o)) (λ c. rest_of_certified (ts ++ us) c t.line)) f
                  ∙ ap (λ x. and_then x (λ c. rest_of_certified (ts ++ us) c t.line)) (declaring_judged [] t.line (Some s))
                  ∙ ap (λ b. and_then (as_declaring [] (if b then Ok s else Err (error.TooDeep t.line))) (λ c. rest_of_certified (ts ++ us) c t.line)) h
                  ∙ next.rest;
            }

-- ---- the word `certificate`

-- the tokens begin with it
record BeginsWithWord (us : List Token) : Type 0 where
  word : Token
  rest : List Token
  parts : us ≡ word ∷ rest
  is : terminal_of word ≡ outside certificate_word

first_word : (us : List Token) (ws : List Written) (ts : List Terminal) → terminals us ≡ spell_file ws ++ outside certificate_word ∷ ts
    → [] ≡ map declared ws → BeginsWithWord us
first_word us (w ∷ ws) ts e f = absurd (none f)
  where
    none : [] ≡ declared w ∷ map declared ws → ⊥
    none f = cc
first_word [] [] ts e f = absurd (none e)
  where
    none : [] ≡ outside certificate_word ∷ ts → ⊥
    none e = cc
first_word (u ∷ us) [] ts e f = record { word = u; rest = us; parts = refl; is = first e }
  where
    first : terminal_of u ∷ terminals us ≡ outside certificate_word ∷ ts → terminal_of u ≡ outside certificate_word
    first e = cc

begins : (us : List Token) (rs : List Row) → certified_of us ≡ Ok (certified [] rs) → BeginsWithWord us
begins us rs e =
    let answer : IsCertifiedAnswer us (Ok (certified [] rs)) = subst (IsCertifiedAnswer us) e (answers us) in
    let h = answer.0 in
    first_word us h.decls (spell_certificate h.line h.pred h.others) h.tokens (ap (λ c. c.declarations) h.value)

-- it ends the declarations
word_read : (u : Token) (us : List Token) (r : Reading) (ds : List Declaration) (line : ℕ) → terminal_of u ≡ outside certificate_word
    → declarations_at_end r ≡ Some ds
    → rest_of_certified (u ∷ us) (certifying (declaring r) [] []) line ≡ rest_of_certified us (certifying row_wanted ds []) u.line
word_read u us r ds line e f =
    ap (λ x. and_then (judged_certified u.line (certify_one (certifying (declaring r) [] []) x)) (λ c. rest_of_certified us c u.line)) e
    ∙ ap (λ o. and_then (judged_certified u.line (certificate_begins [] o)) (λ c. rest_of_certified us c u.line)) f

-- ---- the laws

-- a program's tokens stay that program in front of a certificate's
pub stays : (ts us : List Token) (ds : List Declaration) (rs : List Row) → file_of ts ≡ Ok ds
    → certified_of us ≡ Ok (certified [] rs) → certified_of (ts ++ us) ≡ Ok (certified ds rs)
stays ts us ds rs e f =
    let b = begins us rs f in
    let front = front_read ts us first_reading ds 1 e in
    let alone : rest_of_certified b.rest (certifying row_wanted [] []) b.word.line ≡ Ok (certified [] rs)
    = sym (word_read b.word b.rest first_reading [] 1 b.is refl) ∙ sym (ap certified_of b.parts) ∙ f in
    front.rest
    ∙ ap (λ l. rest_of_certified l (certifying (declaring front.left) [] []) front.last) b.parts
    ∙ word_read b.word b.rest front.left ds front.last b.is front.ends
    ∙ rows_following ds b.rest rs [] [] [] b.word.line alone

-- a certificate's tokens further on
pub moves : (us : List Token) (rs : List Row) (lines places : ℕ) → certified_of us ≡ Ok (certified [] rs)
    → certified_of (map (token_moved lines places) us) ≡ Ok (certified [] (map (row_moved lines) rs))
moves us rs lines places f =
    let b = begins us rs f in
    let alone : rest_of_certified b.rest (certifying row_wanted [] []) b.word.line ≡ Ok (certified [] rs)
    = sym (word_read b.word b.rest first_reading [] 1 b.is refl) ∙ sym (ap certified_of b.parts) ∙ f in
    ap (λ l. certified_of (map (token_moved lines places) l)) b.parts
    ∙ word_read (token_moved lines places b.word) (map (token_moved lines places) b.rest) first_reading [] 1
    (token_terminal lines places b.word ∙ ap (terminal_moved lines) b.is) refl
    ∙ rows_further lines places b.rest rs b.word.line alone

-- the texts of both with a line feed between them
pub together : JoinsTexts → (a b : List ℕ) (ts us : List Token) (ds : List Declaration) (rs : List Row)
    → tokens_of a ≡ Ok ts → file_of ts ≡ Ok ds → tokens_of b ≡ Ok us → certified_of us ≡ Ok (certified [] rs) → IsReadTogether a b ds rs
together joins a b ts us ds rs e f g h =
    let lines : ℕ = line_feeds a + 1 in
    let places : ℕ = length a + 1 in
    record {
      tokens = ts ++ map (token_moved lines places) us;
      cut = joins a b ∙ ap (λ x. joined_after x lines places (tokens_of b)) e ∙ ap (joined_after (Ok ts) lines places) g;
      read = stays ts (map (token_moved lines places) us) ds (map (row_moved lines) rs) f (moves us rs lines places h);
    }
