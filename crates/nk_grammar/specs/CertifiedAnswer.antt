-- What reading the tokens of a text with a certificate answers, in the grammar's own words.
use Rattle.std.specs.Prelude.{◌≡◌, ◌<◌, ℕ, List, [], ◌∷◌, ◌++◌, Some, Ok, Err, ◌⊎◌}
use Rattle.std.specs.declared.result.Result.{Result}
use Rattle.nk_lex.specs.declared.token.Token.{Token}
use Rattle.nk_grammar.specs.declared.decl.GrammarError.{GrammarError}
use Rattle.nk_grammar.specs.declared.decl.GrammarError.TheVariants as error
use Rattle.nk_grammar.specs.Terminal.{Terminal}
use Rattle.nk_grammar.specs.Certified.{Certified, HasCertificate, CertifiedGoesOn}
use Rattle.nk_grammar.specs.Answer.{terminals}
use Rattle.nk_lex.specs.Spans.{last_line}
use Rattle.nk_grammar.specs.CertifiedMachine.{Certifying, certify_all, first_certifying, open_certified, certified_of}

-- after these tokens more than 256 parentheses and `~` are open
abbrev pub IsCertifiedTooDeep : List Terminal → Type 0
IsCertifiedTooDeep ts = (r : Certifying) × (certify_all ts first_certifying ≡ Some r) × (256 < open_certified r)

-- after no front of these tokens more than 256 are open
abbrev pub IsCertifiedShallow : List Terminal → Type 0
IsCertifiedShallow ts = (xs ys : List Terminal) → ts ≡ xs ++ ys → IsCertifiedTooDeep xs → ⊥

-- a text goes on with the tokens before this one, and with it none does
pub record IsCertifiedUnexpectedToken (ts : List Token) (line : ℕ) : Type 0 where
  pub before : List Token
  pub token : Token
  pub rest : List Token
  pub parts : ts ≡ before ++ token ∷ rest
  pub line_is : line ≡ token.line
  pub shallow : IsCertifiedShallow (terminals before)
  pub goes_on : CertifiedGoesOn (terminals before)
  pub stops : CertifiedGoesOn (terminals (before ++ token ∷ [])) → ⊥

-- a text goes on with the tokens, and they are none
pub record IsCertifiedUnexpectedEnd (ts : List Token) (line : ℕ) : Type 0 where
  pub line_is : line ≡ last_line 1 ts
  pub shallow : IsCertifiedShallow (terminals ts)
  pub goes_on : CertifiedGoesOn (terminals ts)
  pub no_text : (ds : Certified) → HasCertificate (terminals ts) ds → ⊥

-- a text goes on with the tokens up to this one, which opens one more than 256
pub record IsCertifiedDeepToken (ts : List Token) (line : ℕ) : Type 0 where
  pub before : List Token
  pub token : Token
  pub rest : List Token
  pub parts : ts ≡ before ++ token ∷ rest
  pub line_is : line ≡ token.line
  pub shallow : IsCertifiedShallow (terminals before)
  pub goes_on : CertifiedGoesOn (terminals (before ++ token ∷ []))
  pub deep : IsCertifiedTooDeep (terminals (before ++ token ∷ []))

-- the declarations and rows, or the first fault
abbrev pub IsCertifiedAnswer : List Token → Result (Certified) GrammarError → Type 0
IsCertifiedAnswer ts (Ok ds) = HasCertificate (terminals ts) ds × IsCertifiedShallow (terminals ts)
IsCertifiedAnswer ts (Err (error.Unexpected line)) = IsCertifiedUnexpectedToken ts line ⊎ IsCertifiedUnexpectedEnd ts line
IsCertifiedAnswer ts (Err (error.TooDeep line)) = IsCertifiedDeepToken ts line
IsCertifiedAnswer ts (Err error.NoMemory) = ⊥

-- what reading answers is that
abbrev pub AnswersCertifiedTexts : Type 0
AnswersCertifiedTexts = (ts : List Token) → IsCertifiedAnswer ts (certified_of ts)

-- the tokens of a text are those of no other
abbrev pub IsUniqueCertified : Type 0
IsUniqueCertified = (ts : List Terminal) (ds es : Certified) → HasCertificate ts ds → HasCertificate ts es → ds ≡ es
