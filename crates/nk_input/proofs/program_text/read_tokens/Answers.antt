use Rattle.std.proofs.Common.{◌++◌, sym, subst}
use Rattle.nk_grammar.specs.FileReader.{declaration_done}
use Rattle.nk_grammar.specs.TextProgress.{IsTextRead}
use Rattle.nk_names.specs.Declaring.{IsDeclared}
use Rattle.nk_input.proofs.TakenTexts.{grammar_told, of_declarations}
use Rattle.nk_input.proofs.program_text.read_tokens.Goals as goal

pub read_last-requires : goal.read_last-requires
read_last-requires c =
    let taken = c.requires.small.1 in
    let readers = c.into_readers-grammar.ensures in
    let read = subst (IsTextRead c.requires.small.0 taken.declarations) (sym readers.grammar) taken.read in
    let said = subst (IsDeclared taken.declarations) (sym readers.program) taken.said in
    record { written = (taken.declarations, said, c.in-Ok.ensures.written c.requires.small.0 taken.declarations read c.requires.small.2) }

pub returns-in-Ok : goal.returns-in-Ok
returns-in-Ok c = λ ts taken declared.
    let ds = taken.declarations ++ declaration_done c.in-Ok.last in
    let readers = c.into_readers-grammar.ensures in
    let begun = subst (IsTextRead ts taken.declarations) (sym readers.grammar) taken.read in
    let said = subst (IsDeclared taken.declarations) (sym readers.program) taken.said in
    let read = c.in-Ok.ensures.read ts taken.declarations begun in
    of_declarations ts ds c.read_last.result read (c.read_last.ensures taken.declarations said (declared ds read))

pub returns-in-Err : goal.returns-in-Err
returns-in-Err c = λ ts taken declared.
    let begun = subst (IsTextRead ts taken.declarations) (sym c.into_readers-grammar.ensures.grammar) taken.read in
    grammar_told ts c.in-Err.error c.grammar_fault.result (c.in-Err.ensures.read ts taken.declarations begun) c.grammar_fault.ensures
