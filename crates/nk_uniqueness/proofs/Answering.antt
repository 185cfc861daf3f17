-- What compiling a name answers is one, unless memory ran out.
use Rattle.std.proofs.Common.{◌≡◌, ℕ, ◌⊎◌, inl, inr, List, refl, sym, ap}
use Rattle.std.specs.Prelude.{Result, Ok, Err}
use Rattle.nk_names.specs.declared.Program.{Program}
use Rattle.nk_names.specs.ProgramOf.{program_by}
use Rattle.nk_table.specs.declared.Tables.{Tables}
use Rattle.nk_compile.specs.declared.refusal.Refusal.{Refusal}
use Rattle.nk_compile.specs.declared.refusal.CompileError.{CompileError}
use Rattle.nk_compile.specs.declared.refusal.CompileError.TheVariants.{NoMemory, Refused}
use Rattle.nk_compile.specs.Refusals.{IsRefused}
use Rattle.nk_compile.specs.Headline.{IsAcceptedByName, IsCompiled}
use Rattle.nk_compile.specs.Answers.{IsCompileResult}
use Rattle.nk_uniqueness.specs.Packets.{HavePackets}
use Rattle.nk_compile.proofs.ReasonByName.{never_refused, one_refusal}
use Rattle.nk_uniqueness.proofs.ByName.{one_compiled}

abbrev Answer : Type 0
Answer = Result Tables CompileError

abbrev with_tables : Tables → Answer
with_tables t = Ok t

abbrev with_reason : Refusal → Answer
with_reason r = Err (Refused r)

module _ (program other : Program) (same : program_by program ≡ program_by other) (name : List ℕ) where
  -- a name that is accepted
  pub accepted_answer : (a : Answer) → IsAcceptedByName program name → IsCompileResult other name a
      → (a ≡ Err NoMemory) ⊎ ((t : Tables) × (a ≡ Ok t) × IsCompiled other name t)
  accepted_answer (Ok t) accepted h = inr (t, refl, h)
  accepted_answer (Err NoMemory) accepted h = inl refl
  accepted_answer (Err (Refused r)) accepted h = absurd (never_refused program other same name r accepted h)

  -- a name that is refused
  pub refused_answer : (r : Refusal) (a : Answer) → IsRefused program name r → IsCompileResult other name a → (a ≡ Err NoMemory) ⊎ (a ≡ Err (Refused r))
  refused_answer r (Ok t) refused h = absurd (never_refused other program (sym same) name r (h.0, h.1, h.2) refused)
  refused_answer r (Err NoMemory) refused h = inl refl
  refused_answer r (Err (Refused s)) refused h = inr (ap with_reason (sym (one_refusal program other same name r s refused h)))

  -- two answers
  pub one_answer : (a b : Answer) → HavePackets program.fields program.topo → IsCompileResult program name a → IsCompileResult other name b
      → (a ≡ Err NoMemory) ⊎ ((b ≡ Err NoMemory) ⊎ (a ≡ b))
  one_answer (Ok t) (Ok u) there h k = inr (inr (ap with_tables (one_compiled program other same name t u there h k)))
  one_answer (Ok t) (Err NoMemory) there h k = inr (inl refl)
  one_answer (Ok t) (Err (Refused s)) there h k = absurd (never_refused program other same name s (h.0, h.1, h.2) k)
  one_answer (Err NoMemory) b there h k = inl refl
  one_answer (Err (Refused r)) (Ok u) there h k = absurd (never_refused other program (sym same) name r (k.0, k.1, k.2) h)
  one_answer (Err (Refused r)) (Err NoMemory) there h k = inr (inl refl)
  one_answer (Err (Refused r)) (Err (Refused s)) there h k = inr (inr (ap with_reason (one_refusal program other same name r s h k)))
