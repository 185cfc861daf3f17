-- The declarations of a text taken one by one: what they say so far, or their first fault. What is said after all of them is the
-- program of the text (`program_of`).
use Rattle.std.specs.Prelude.{◌≡◌, ℕ, ◌≤◌, Bool, true, false, Option, Some, None, Ok, Err, List, All}
use Rattle.std.specs.declared.result.Result.{Result}
use Rattle.nk_field.specs.Packet.{IsFieldTable}
use Rattle.nk_lex.specs.Faults.{and_then}
use Rattle.nk_grammar.specs.File.{Declaration}
use Rattle.nk_names.specs.declared.fault.FaultKind.{FaultKind}
use Rattle.nk_names.specs.declared.fault.NamesError.{NamesError}
use Rattle.nk_names.specs.declared.fault.NamesError.TheVariants.{Fault, NoMemory}
use Rattle.nk_names.specs.ProgramOf.{DeclaredProgram, program_of, program_declaring}
use Rattle.nk_names.specs.ProgramValue.{IsLet, AreVirtual}

-- these are the declarations so far
abbrev pub IsDeclared : List Declaration → Result DeclaredProgram NamesError → Type 0
IsDeclared ds said = said ≡ program_of ds

-- what is said after one more declaration; the first fault stays
abbrev pub program_on : Result DeclaredProgram NamesError → Declaration → Result DeclaredProgram NamesError
program_on said d = and_then said (λ s. program_declaring s d)

-- there is a fault
abbrev pub is_faulty : Result DeclaredProgram NamesError → Bool
is_faulty (Ok s) = false
is_faulty (Err e) = true

abbrev pub IsFaulty : Result DeclaredProgram NamesError → Type 0
IsFaulty said = is_faulty said ≡ true

-- a fault and its line
abbrev pub first_fault : NamesError → Option (FaultKind × ℕ)
first_fault NoMemory = None
first_fault (Fault k line) = Some (k, line)

-- the first fault is this one, where there is one
abbrev pub with_first : Option (FaultKind × ℕ) → Result DeclaredProgram NamesError → Result DeclaredProgram NamesError
with_first None said = said
with_first (Some f) said = Err (Fault f.0 f.1)

-- what is said is a program's: the fields are a field table, their largest values are numbers of a text, and the policies, the
-- fabrics and the virtual links are those of a program
pub record HasLets (s : DeclaredProgram) : Type 0 where
  pub table : IsFieldTable s.fields
  pub maxima : All (λ m. m ≤ 281474976710655) s.fields.maxima
  pub policies : All (λ l. IsLet s.fields l.1) s.lets
  pub virtuals : AreVirtual s.fields s.topo s.fabrics s.virtuals
