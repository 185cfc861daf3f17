-- What is declared beside policies, and what all declarations keep.
use Rattle.std.proofs.Common.{◌≡◌, Ok, Err, List, [], ◌∷◌, map, refl, sym, ap, subst, ◌∙◌}
use Rattle.std.specs.List.{AllByRecursion}
use Rattle.std.specs.declared.result.Result.{Result}
use Rattle.nk_lex.specs.Faults.{and_then}
use Rattle.nk_declare.specs.declared.fault.DeclareError.{DeclareError}
use Rattle.nk_declare.specs.declared.fault.DeclareError.TheVariants as refused
use Rattle.nk_declare.specs.Declarations.{DeclaredValue, declared_with, declared_after}
use Rattle.nk_declare.specs.Declarations as declare
use Rattle.nk_grammar.specs.File.{Declaration}
use Rattle.nk_names.specs.declared.fault.NamesError.{NamesError}
use Rattle.nk_names.specs.Alike.{in_program, SaysDeclared}
use Rattle.nk_names.specs.ProgramOf.{DeclaredProgram, empty_program, declared_part, text_fault_of, program_beside, program_declaring, program_after, IsNamesFault}

-- what is said with these fields and this topology
abbrev pub beside : DeclaredProgram → DeclaredValue → DeclaredProgram
beside s d = record s { fields = d.fields; topo = d.topo }

-- what is declared is said
pub is_said : (s : DeclaredProgram) (r : Result DeclaredValue DeclareError) (d : DeclaredValue) → r ≡ Ok d → program_beside s r ≡ Ok (beside s d)
is_said s r d h = ap (program_beside s) h

-- a declaration's fault is the program's
pub is_refused : (s : DeclaredProgram) (r : Result DeclaredValue DeclareError) (e : DeclareError) (f : NamesError)
    → declare.IsDeclareFault e r → f ≡ text_fault_of e → IsNamesFault f (program_beside s r)
is_refused s r refused.NoMemory f h is = subst (λ x. IsNamesFault x (program_beside s r)) (sym is) tt
is_refused s r (refused.Fault k line) f h is = subst (λ x. IsNamesFault x (program_beside s r)) (sym is) (ap (program_beside s) h)

not_ok : (e : NamesError) (s : DeclaredProgram) → ◌≡◌ {A = Result DeclaredProgram NamesError} (Err e) (Ok s) → ⊥
not_ok e s h = cc

ok_is : (s t : DeclaredProgram) → ◌≡◌ {A = Result DeclaredProgram NamesError} (Ok s) (Ok t) → s ≡ t
ok_is s t h = cc

-- what is said was declared, without fault
pub beside_is : (s : DeclaredProgram) (r : Result DeclaredValue DeclareError) (t : DeclaredProgram) → program_beside s r ≡ Ok t
    → (d : DeclaredValue) × (r ≡ Ok d) × (beside s d ≡ t)
beside_is s (Ok d) t h = (d, refl, ok_is (beside s d) t h)
beside_is s (Err e) t h = absurd (not_ok (text_fault_of e) t h)

-- going on, both steps are without fault
both_said : (r : Result DeclaredProgram NamesError) (rest : DeclaredProgram → Result DeclaredProgram NamesError) (t : DeclaredProgram) → and_then r rest ≡ Ok t
    → (s : DeclaredProgram) × (r ≡ Ok s) × (rest s ≡ Ok t)
both_said (Ok s) rest t h = (s, refl, h)
both_said (Err e) rest t h = absurd (not_ok e t h)

-- what each declaration keeps, all of them keep
pub all_said : (P : DeclaredProgram → Type 0) (Q : Declaration → Type 0)
    → ((s t : DeclaredProgram) (d : Declaration) → P s → Q d → program_declaring s d ≡ Ok t → P t)
    → (ds : List Declaration) (s t : DeclaredProgram) → P s → AllByRecursion Q ds → program_after ds s ≡ Ok t → P t
all_said P Q one [] s t h are e = subst P (ok_is s t e) h
all_said P Q one (d ∷ ds) s t h are e =
    let r = both_said (program_declaring s d) (program_after ds) t e in
    all_said P Q one ds r.0 t (one s r.0 d h are.0 r.1) are.1 r.2

-- one declaration says in a program what it declares
one_alike : (s : DeclaredProgram) (d : declare.NetworkDeclaration) → program_declaring s (in_program d) ≡ program_beside s (declared_with (declared_part s) d)
one_alike s (declare.field w n) = refl
one_alike s d = refl

-- of fields and a topology the last stand
beside_again : (s : DeclaredProgram) (d : DeclaredValue) (r : Result DeclaredValue DeclareError) → program_beside (beside s d) r ≡ program_beside s r
beside_again s d (Ok x) = refl
beside_again s d (Err e) = refl

-- and so do all
after_alike : (ds : List declare.NetworkDeclaration) (s : DeclaredProgram) → program_after (map in_program ds) s ≡ program_beside s (declared_after ds (declared_part s))
after_alike [] s = refl
after_alike (d ∷ ds) s =
    ap (λ r. and_then r (program_after (map in_program ds))) (one_alike s d)
    ∙ by (declared_with (declared_part s) d) (λ x. after_alike ds (beside s x) ∙ beside_again s x (declared_after ds x))
  where
    by : (r : Result DeclaredValue DeclareError)
        → ((x : DeclaredValue) → program_after (map in_program ds) (beside s x) ≡ program_beside s (declared_after ds x))
        → and_then (program_beside s r) (program_after (map in_program ds)) ≡ program_beside s (and_then r (declared_after ds))
    by (Ok x) h = h x
    by (Err e) h = refl

pub says_declared : SaysDeclared
says_declared ds = after_alike ds empty_program
