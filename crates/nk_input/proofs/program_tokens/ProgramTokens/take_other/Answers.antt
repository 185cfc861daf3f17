use Rattle.std.proofs.Common.{◌++◌, append-nil, subst, sym}
use Rattle.std.specs.Prelude.{OnOk}
use Rattle.nk_grammar.specs.FileReader.{declaration_done}
use Rattle.nk_names.specs.Declaring.{IsDeclared}
use Rattle.nk_input.proofs.TakenTexts.{on_ok}
use Rattle.nk_input.proofs.program_tokens.ProgramTokens.take_other.Goals as goal

pub returns-in-Some : goal.returns-in-Some
returns-in-Some c = λ ts h.
    on_ok c.declare.result (λ said. record {
      declarations = h.declarations ++ declaration_done c.in_ok-done.done;
      read = c.in_ok-done.ensures.tokens ts h.declarations h.read;
      said = said;
    })
    (subst (λ done. OnOk c.declare.result (IsDeclared (h.declarations ++ declaration_done done) c.declare.new.self)) (sym c.in-Some.is)
    (c.declare.ensures.declared h.declarations h.said))

pub returns-in-None : goal.returns-in-None
returns-in-None c = λ ts h. record {
  declarations = h.declarations ++ declaration_done c.in_ok-done.done;
  read = c.in_ok-done.ensures.tokens ts h.declarations h.read;
  said = subst (λ done. IsDeclared (h.declarations ++ declaration_done done) c.args.self.now.program) (sym c.in-None.is)
      (subst (λ ds. IsDeclared ds c.args.self.now.program) (sym (append-nil h.declarations)) h.said);
}
