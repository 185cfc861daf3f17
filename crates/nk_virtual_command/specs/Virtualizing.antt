-- What `virtual NAME` answers to the bytes of a text: the first fault of the text; or the first reason why the policy of the name has
-- no physical policy, or else why that one is refused; or the printed tables of the physical policy, which carry it. From each
-- packet in range without a tag each of its histories lies over one of the policy's that ends where it does, and over each of
-- those one of its histories lies that ends there: what the policy does over virtual links, the tables do over the links that there
-- are (virtual networks: Casado et al., PRESTO 2010; Smolka et al., ICFP 2015).
use Rattle.std.specs.Prelude.{◌≡◌, ◌⊎◌, ℕ, List, Ok}
use Rattle.nk_policy.specs.Policy.{Policy}
use Rattle.nk_names.specs.declared.Program.{Program}
use Rattle.nk_names.specs.ProgramOf.{DeclaredProgram, program_by}
use Rattle.nk_table.specs.declared.Tables.{Tables}
use Rattle.nk_tabtext.specs.Text.{table_bytes}
use Rattle.nk_tabtext.specs.Values.{tables_of}
use Rattle.nk_compile.specs.declared.refusal.Refusal.{Refusal}
use Rattle.nk_compile.specs.Headline.{IsCompiledPolicy}
use Rattle.nk_compile.specs.Refusals.{IsReason}
use Rattle.nk_virtual.specs.Answers.{IsPhysical}
use Rattle.nk_virtual.specs.Reasons.{IsVirtualReason}
use Rattle.nk_virtual.specs.declared.refusal.VirtualRefusal.{VirtualRefusal}
use Rattle.nk_compile_commands.specs.TextTables.{HasFewGroups}
use Rattle.nk_compile_commands.specs.Messages.{refusal_line}
use Rattle.nk_virtual_command.specs.Messages.{unphysical_line}
use Rattle.nk_reply.specs.Outcome.{Outcome, done, text_refused, policy_refused}
use Rattle.nk_input.specs.ProgramText.{Declares, HasFault}

-- The text is the printed tables of the physical policy of the program's policy of this name. The program accepts the
-- physical policy, and the tables carry it; how its histories lie over those of the policy is part of what a physical policy is.
-- Read again the text is these tables, unless a switch has more groups than a text has numbers.
pub record IsVirtualPrinted (said : DeclaredProgram) (name text : List ℕ) : Type 0 where
  pub program : Program
  pub says : program_by program ≡ said
  pub policy : Policy
  pub physical : IsPhysical program name policy
  pub tables : Tables
  pub compiled : IsCompiledPolicy program policy tables
  pub printed : text ≡ table_bytes tables
  pub read : HasFewGroups tables → tables_of text ≡ Ok tables

-- the text tells the first reason why the program's policy of this name has no physical policy
pub record LacksPhysical (said : DeclaredProgram) (name text : List ℕ) : Type 0 where
  pub program : Program
  pub says : program_by program ≡ said
  pub reason : VirtualRefusal
  pub refused : IsVirtualReason program name reason
  pub told : text ≡ unphysical_line program.fields reason

-- the text tells the first reason to refuse the physical policy of the program's policy of this name
pub record IsPhysicalRefusal (said : DeclaredProgram) (name text : List ℕ) : Type 0 where
  pub program : Program
  pub says : program_by program ≡ said
  pub policy : Policy
  pub physical : IsPhysical program name policy
  pub reason : Refusal
  pub refused : IsReason program.fields program.topo policy reason
  pub told : text ≡ refusal_line program.fields reason

-- what is answered to a program
abbrev pub ToVirtual : DeclaredProgram → List ℕ → Outcome → Type 0
ToVirtual said name (done text) = IsVirtualPrinted said name text
ToVirtual said name (policy_refused text) = LacksPhysical said name text ⊎ IsPhysicalRefusal said name text
ToVirtual said name outcome = ⊥

-- the answer of virtualizing the policy of this name, over the bytes of a text
abbrev pub IsVirtualizeAnswer : List ℕ → List ℕ → Outcome → Type 0
IsVirtualizeAnswer name bytes (text_refused text) = HasFault bytes text
IsVirtualizeAnswer name bytes outcome = (said : DeclaredProgram) × Declares bytes said × ToVirtual said name outcome
