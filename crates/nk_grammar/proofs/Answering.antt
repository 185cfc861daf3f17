-- What reading a text's tokens answers.
use Rattle.std.proofs.Common.{◌≡◌, List, [], ◌∷◌, ◌++◌, refl, sym, ◌∙◌, ap, Option, inl, inr}
use Rattle.std.specs.Prelude.{Some, None, option_and_then}
use Rattle.nk_lex.specs.declared.token.Token.{Token}
use Rattle.nk_lex.specs.Spans.{last_line}
use Rattle.nk_grammar.specs.Terminal.{Terminal}
use Rattle.nk_grammar.specs.File.{Declaration, HasDeclarations}
use Rattle.nk_grammar.specs.FileMachine.{Reading, first_reading, read_all, declarations_at_end, judged, ended_at, rest_of_file, file_of}
use Rattle.nk_grammar.specs.Answer.{terminals, IsShallow, IsParse}
use Rattle.nk_grammar.proofs.Machines.{Answers, all_answers}
use Rattle.nk_grammar.proofs.Texts.{file_machine, reads_file, ends_file, file_goes_on, file_stops}
use Rattle.nk_grammar.proofs.Fronts.{none_some, some_same}

abbrev answers_of_texts : Answers file_machine (List Declaration)
answers_of_texts = record {
  rest = rest_of_file;
  judged = judged;
  refused = λ line. refl;
  taken = λ line r. refl;
  more = λ t ts r line. refl;
}

-- the end, after tokens that were read
at_end : (ts : List Token) (r : Reading) → read_all (terminals ts) first_reading ≡ Some r → IsShallow (terminals ts)
    → IsParse ts (ended_at (last_line 1 ts) (declarations_at_end r))
at_end ts r read shallow = by_end (declarations_at_end r) refl
  where
    by_end : (o : Option (List Declaration)) → declarations_at_end r ≡ o → IsParse ts (ended_at (last_line 1 ts) o)
    by_end (Some ds) e = (ends_file (terminals ts) r ds read e, shallow)
    by_end None e = inr (record {
      line_is = refl;
      shallow = shallow;
      goes_on = file_goes_on (terminals ts) r read;
      no_text = λ ds h. none_some ds (sym (ap (option_and_then declarations_at_end) read ∙ e) ∙ reads_file (terminals ts) ds h);
    })

-- what is answered is the value or the first fault
pub answers : (ts : List Token) → IsParse ts (file_of ts)
answers ts =
    all_answers file_machine answers_of_texts IsParse at_end
    (λ ts at e. inl (record {
      before = at.before;
      token = at.token;
      rest = at.rest;
      parts = at.parts;
      line_is = refl;
      shallow = at.shallow;
      goes_on = file_goes_on (terminals at.before) at.state at.taken;
      stops = file_stops (terminals (at.before ++ at.token ∷ [])) e;
    }))
    (λ ts at r e deep. record {
      before = at.before;
      token = at.token;
      rest = at.rest;
      parts = at.parts;
      line_is = refl;
      shallow = at.shallow;
      goes_on = file_goes_on (terminals (at.before ++ at.token ∷ [])) r e;
      deep = (r, e, deep);
    }) ts

-- no two trees have the same tokens
pub unique : (ts : List Terminal) (ds es : List Declaration) → HasDeclarations ts ds
    → HasDeclarations ts es → ds ≡ es
unique ts ds es h k = some_same ds es (sym (reads_file ts ds h) ∙ reads_file ts es k)
