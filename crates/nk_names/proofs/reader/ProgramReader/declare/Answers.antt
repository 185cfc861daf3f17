use Rattle.std.proofs.Common.{◌≡◌, sym, ap, subst, ◌∙◌}
use Rattle.std.specs.Prelude.{OnOk}
use Rattle.nk_grammar.specs.File.{declaration_of}
use Rattle.nk_names.specs.Declaring.{program_on}
use Rattle.nk_names.specs.ProgramOf.{empty_program}
use Rattle.nk_names.proofs.Going.{program_one_more}
use Rattle.nk_names.proofs.reader.ProgramReader.declare.Goals as goal

pub returns-clause-declared : goal.returns-clause-declared
returns-clause-declared c = λ ds h.
    let d = declaration_of c.args.decl.now in
    subst (λ said. OnOk c.put.result (c.put.new.self ≡ said)) (ap (λ s. program_on s d) h ∙ sym (program_one_more ds d empty_program)) c.put.ensures.ok
