-- The fields of a text's program are writable.
use Rattle.std.proofs.Common.{◌≡◌, ℕ, List, Ok, subst}
use Rattle.std.proofs.lemmas.List.Elements.{recursion_from_All}
use Rattle.nk_lex.specs.Lex.{tokens_of}
use Rattle.nk_lex.specs.declared.token.Token.{Token}
use Rattle.nk_declare.specs.Declarations.{declared_with}
use Rattle.nk_declare.specs.Declarations as declare
use Rattle.nk_declare.proofs.Kept.{unless_ok, built_in_writable, fields_kept}
use Rattle.nk_grammar.specs.Fields.{IsFieldOfText, DeclaresFields}
use Rattle.nk_grammar.specs.File.{Declaration, field, tag, switch, declared_link}
use Rattle.nk_grammar.specs.FileMachine.{file_of}
use Rattle.nk_names.specs.ProgramOf.{DeclaredProgram, empty_program, declared_part, program_declaring, program_of}
use Rattle.nk_names.specs.ReadBack.{IsWritable}
use Rattle.nk_names.proofs.Beside.{beside_is, all_said}

-- one more declaration
one_said : (s t : DeclaredProgram) (d : Declaration) → IsWritable s.fields → IsFieldOfText d → program_declaring s d ≡ Ok t → IsWritable t.fields
one_said s t (field w n) h is e =
    let r = beside_is s (declared_with (declared_part s) (declare.field w n)) t e in
    subst (λ x. IsWritable x.fields) r.2 (fields_kept (declared_part s) r.0 (declare.field w n) h is r.1)
one_said s t (tag w) h is e =
    let r = beside_is s (declared_with (declared_part s) (declare.tag w)) t e in
    subst (λ x. IsWritable x.fields) r.2 (fields_kept (declared_part s) r.0 (declare.tag w) h tt r.1)
one_said s t (switch n ps) h is e =
    let r = beside_is s (declared_with (declared_part s) (declare.switch n ps)) t e in
    subst (λ x. IsWritable x.fields) r.2 (fields_kept (declared_part s) r.0 (declare.switch n ps) h tt r.1)
one_said s t (declared_link a m b n) h is e =
    let r = beside_is s (declared_with (declared_part s) (declare.link a m b n)) t e in
    subst (λ x. IsWritable x.fields) r.2 (fields_kept (declared_part s) r.0 (declare.link a m b n) h tt r.1)
one_said s t d h is e = let r = unless_ok _ _ t e in subst (λ x. IsWritable x.fields) r.1 h

pub declares_writable : DeclaresFields → (text : List ℕ) (ts : List Token) (ds : List Declaration) (s : DeclaredProgram)
    → tokens_of text ≡ Ok ts → file_of ts ≡ Ok ds → program_of ds ≡ Ok s → IsWritable s.fields
declares_writable fields text ts ds s cut read said =
    all_said (λ x. IsWritable x.fields) IsFieldOfText one_said ds empty_program s built_in_writable
    (recursion_from_All IsFieldOfText ds (fields text ts ds cut read)) said
