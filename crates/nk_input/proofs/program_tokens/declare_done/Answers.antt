use Rattle.std.proofs.Common.{◌++◌, subst, sym}
use Rattle.std.specs.Prelude.{OnOk}
use Rattle.nk_grammar.specs.FileReader.{declaration_done}
use Rattle.nk_names.specs.Declaring.{IsDeclared}
use Rattle.nk_input.proofs.program_tokens.declare_done.Goals as goal

pub returns-in-Some : goal.returns-in-Some
returns-in-Some c = λ ds h.
    subst (λ done. OnOk c.declare.result (IsDeclared (ds ++ declaration_done done) c.declare.new.self)) (sym c.in-Some.is) (c.declare.ensures.declared ds h)
