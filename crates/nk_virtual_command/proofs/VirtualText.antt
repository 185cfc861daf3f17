-- What is said of a name whose physical policy is made, or isn't.
use Rattle.std.proofs.Common.{◌≡◌, ℕ, List, ◌⊎◌, inl, inr, refl, ap, ◌∙◌}
use Rattle.nk_policy.specs.Policy.{Policy}
use Rattle.nk_names.specs.declared.Program.{Program}
use Rattle.nk_names.specs.ProgramOf.{program_by}
use Rattle.nk_names.specs.ProgramValue.{IsProgram}
use Rattle.nk_table.specs.declared.Tables.{Tables}
use Rattle.nk_tabtext.specs.ReadBack.{ReadsPrintedTables}
use Rattle.nk_tabtext.specs.Text.{table_bytes}
use Rattle.nk_tabtext.specs.Values.{tables_of}
use Rattle.nk_compile.specs.declared.refusal.Refusal.{Refusal}
use Rattle.nk_compile.specs.Headline.{IsCompiledPolicy}
use Rattle.nk_compile.specs.Refusals.{IsReason}
use Rattle.nk_virtual.specs.Answers.{IsPhysical}
use Rattle.nk_virtual.specs.Reasons.{IsVirtualReason}
use Rattle.nk_virtual.specs.declared.refusal.VirtualRefusal.{VirtualRefusal}
use Rattle.nk_input.specs.Declarable.{CanBeDeclared}
use Rattle.nk_compile_commands.specs.Messages.{refusal_line}
use Rattle.nk_virtual_command.specs.Messages.{unphysical_line}
use Rattle.nk_compile_commands.specs.TextTables.{PoliciesPrintable}
use Rattle.nk_virtual_command.specs.Virtualizing.{IsVirtualPrinted, LacksPhysical, IsPhysicalRefusal}

-- what is printed of the tables of a physical policy is read back
pub is_virtual_printed :
    PoliciesPrintable → ReadsPrintedTables → (program : Program) (name text : List ℕ) (q : Policy) (t : Tables)
    → IsProgram program.fields program.topo program.lets → CanBeDeclared (program_by program)
    → IsPhysical program name q → IsCompiledPolicy program q t → text ≡ table_bytes t → IsVirtualPrinted (program_by program) name text
is_virtual_printed printable reads program name text q t ok declared physical compiled printed = record {
  program = program;
  says = refl;
  policy = q;
  physical = physical;
  tables = t;
  compiled = compiled;
  printed = printed;
  read = λ few. ap tables_of printed
      ∙ (reads t (printable program q t ok declared.fields declared.topology physical.is.well_formed.in_range compiled few)).read;
}

-- a reason why there is no physical policy
pub told_unphysical :
    (program : Program) (name text : List ℕ) (reason : VirtualRefusal) → IsVirtualReason program name reason
    → text ≡ unphysical_line program.fields reason → LacksPhysical (program_by program) name text ⊎ IsPhysicalRefusal (program_by program) name text
told_unphysical program name text reason refused told =
    inl (record { program = program; says = refl; reason = reason; refused = refused; told = told })

-- a reason to refuse it
pub told_physical :
    (program : Program) (name text : List ℕ) (q : Policy) (reason : Refusal) → IsPhysical program name q
    → IsReason program.fields program.topo q reason → text ≡ refusal_line program.fields reason
    → LacksPhysical (program_by program) name text ⊎ IsPhysicalRefusal (program_by program) name text
told_physical program name text q reason physical refused told =
    inr (record { program = program; says = refl; policy = q; physical = physical; reason = reason; refused = refused; told = told })
