-- What reading the tokens of a text with a certificate answers.
use Rattle.std.proofs.Common.{◌≡◌, List, [], ◌∷◌, ◌++◌, refl, sym, ◌∙◌, ap, Option, inl, inr}
use Rattle.std.specs.Prelude.{Some, None, option_and_then}
use Rattle.nk_lex.specs.declared.token.Token.{Token}
use Rattle.nk_lex.specs.Spans.{last_line}
use Rattle.nk_grammar.specs.Terminal.{Terminal}
use Rattle.nk_grammar.specs.Certified.{Certified, HasCertificate}
use Rattle.nk_grammar.specs.CertifiedMachine.{Certifying, first_certifying, certify_all, certified_at_end, judged_certified, certified_end_at, rest_of_certified, certified_of}
use Rattle.nk_grammar.specs.Answer.{terminals}
use Rattle.nk_grammar.specs.CertifiedAnswer.{IsCertifiedShallow, IsCertifiedAnswer}
use Rattle.nk_grammar.proofs.Machines.{Answers, all_answers}
use Rattle.nk_grammar.proofs.CertifiedTexts.{certified_machine, reads_certified, ends_certified, certified_goes_on, certified_stops}
use Rattle.nk_grammar.proofs.Fronts.{none_some, some_same}

abbrev answers_of_certified : Answers certified_machine Certified
answers_of_certified = record {
  rest = rest_of_certified;
  judged = judged_certified;
  refused = λ line. refl;
  taken = λ line c. refl;
  more = λ t ts c line. refl;
}

-- the end, after tokens that were read
at_end : (ts : List Token) (c : Certifying) → certify_all (terminals ts) first_certifying ≡ Some c → IsCertifiedShallow (terminals ts)
    → IsCertifiedAnswer ts (certified_end_at (last_line 1 ts) (certified_at_end c))
at_end ts c read shallow = by_end (certified_at_end c) refl
  where
    by_end : (o : Option Certified) → certified_at_end c ≡ o → IsCertifiedAnswer ts (certified_end_at (last_line 1 ts) o)
    by_end (Some x) e = (ends_certified (terminals ts) c x read e, shallow)
    by_end None e = inr (record {
      line_is = refl;
      shallow = shallow;
      goes_on = certified_goes_on (terminals ts) c read;
      no_text = λ x h. none_some x (sym (ap (option_and_then certified_at_end) read ∙ e) ∙ reads_certified (terminals ts) x h);
    })

-- what is answered is the value or the first fault
pub answers : (ts : List Token) → IsCertifiedAnswer ts (certified_of ts)
answers ts =
    all_answers certified_machine answers_of_certified IsCertifiedAnswer at_end
    (λ ts at e. inl (record {
      before = at.before;
      token = at.token;
      rest = at.rest;
      parts = at.parts;
      line_is = refl;
      shallow = at.shallow;
      goes_on = certified_goes_on (terminals at.before) at.state at.taken;
      stops = certified_stops (terminals (at.before ++ at.token ∷ [])) e;
    }))
    (λ ts at c e deep. record {
      before = at.before;
      token = at.token;
      rest = at.rest;
      parts = at.parts;
      line_is = refl;
      shallow = at.shallow;
      goes_on = certified_goes_on (terminals (at.before ++ at.token ∷ [])) c e;
      deep = (c, e, deep);
    }) ts

-- no two trees have the same tokens
pub unique : (ts : List Terminal) (ds es : Certified) → HasCertificate ts ds → HasCertificate ts es → ds ≡ es
unique ts ds es h k = some_same ds es (sym (reads_certified ts ds h) ∙ reads_certified ts es k)
