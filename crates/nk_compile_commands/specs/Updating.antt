-- What `update OLD NEW SEED STEPS PACKET` answers to the bytes of a text: the first fault of the text, or the first reason to
-- refuse the two policies, or the first item at fault of the packet's word, or that the packet stands at no port. Else what has
-- left after so many turns that are drawn from the seed, while the network goes from the old policy's tables to the new one's:
-- the histories in the order of leaving, each with the number and the version of its injection, and the counts.
use Rattle.std.specs.Prelude.{◌≡◌, ◌⊎◌, ◌*◌, ℕ, Option, Some, None, List, [], ◌++◌, codes, decimal, length}
use Rattle.std.specs.List.{flat_map}
use Rattle.nk_field.specs.Packet.{FieldTable}
use Rattle.nk_field.specs.Texts.{packet_of}
use Rattle.nk_names.specs.declared.Program.{Program}
use Rattle.nk_names.specs.ProgramOf.{DeclaredProgram, program_by}
use Rattle.nk_table.specs.declared.Tables.{Tables}
use Rattle.nk_update.specs.declared.plans.Plan.{Plan}
use Rattle.nk_update.specs.Plans.{pair_of}
use Rattle.nk_update.specs.Steps.{plan_of}
use Rattle.nk_compile.specs.declared.pair.TablePair.{TablePair}
use Rattle.nk_compile.specs.declared.refusal.Refusal.{Refusal}
use Rattle.nk_compile.specs.PairAnswers.{IsCompiledPair, IsPairRefused}
use Rattle.nk_flight.specs.declared.copies.Left.{Left}
use Rattle.nk_flight.specs.declared.versions.Version.{Version}
use Rattle.nk_flight.specs.declared.versions.Version.TheVariants.{Old, New}
use Rattle.nk_flight.specs.Updates.{Stages, UpdateState, stages_of, at_the_start, steps_done, switches_in}
use Rattle.nk_flight.specs.UpdateDraws.{after_turns}
use Rattle.nk_trace_commands.specs.Following.{ToPacket, counts_line, history_line}
use Rattle.nk_compile_commands.specs.Messages.{refusal_line}
use Rattle.nk_reply.specs.Outcome.{Outcome, done, text_refused, policy_refused}
use Rattle.nk_input.specs.ProgramText.{Declares, HasFault}

-- the word for a version; nothing has left of an injection that has none
abbrev pub version_word : Option Version → List ℕ
version_word (Some Old) = codes "old"
version_word (Some New) = codes "new"
version_word None = []

-- the line of a history that has left: the number of its injection, that one's version, and the history without the tag
abbrev pub versioned_line : FieldTable → (ℕ → Option Version) → Left → List ℕ
versioned_line fields versions l =
    decimal l.number ++ codes " " ++ version_word (versions l.number) ++ codes " " ++ history_line fields l.history

-- how many plan steps are done, of how many
abbrev pub progress_line : ℕ → ℕ → List ℕ
progress_line steps all = codes "done " ++ decimal steps ++ codes " of " ++ decimal all ++ codes "\n"

-- a line for each history that has left, how many these are and how many copies are in flight, and how many plan steps all
-- switches have done, of three for each
abbrev pub updated_text : FieldTable → Stages → UpdateState → List ℕ
updated_text fields g s =
    flat_map (versioned_line fields s.versions) s.flight.left
    ++ counts_line (length s.flight.left) (length s.flight.flying)
    ++ progress_line (steps_done g s) (3 * length (switches_in g))

-- what is answered to a packet at a port, by a plan
abbrev pub ToTurned : Plan → ℕ → ℕ → Tables → List ℕ → Outcome → Type 0
ToTurned plan seed steps t pk outcome =
    outcome ≡ done (updated_text t.fields (stages_of plan) (after_turns (stages_of plan) seed steps pk (at_the_start (stages_of plan))))

-- the plan by which the new tables take the place of the old ones
abbrev pub plan_for : TablePair → Plan
plan_for pair = plan_of (pair_of pair.old pair.new pair.old_tags)

-- Both policies are accepted and have tables together, by whose plan this is answered to the packet's word. The tables' fields
-- and topology are the program's.
pub record IsPlannedAnswer (said : DeclaredProgram) (old new : List ℕ) (seed steps : ℕ) (word : List ℕ) (outcome : Outcome) : Type 0 where
  pub program : Program
  pub says : program_by program ≡ said
  pub pair : TablePair
  pub compiled : IsCompiledPair program old new pair
  pub told : ToPacket (ToTurned (plan_for pair) seed steps) pair.old (packet_of program.fields word) outcome

-- the text tells the first reason to refuse the program's policies of these names
pub record IsPairRefusal (said : DeclaredProgram) (old new : List ℕ) (outcome : Outcome) : Type 0 where
  pub program : Program
  pub says : program_by program ≡ said
  pub reason : Refusal
  pub refused : IsPairRefused program old new reason
  pub told : outcome ≡ policy_refused (refusal_line program.fields reason)

-- what is answered to a program
abbrev pub ToPair : DeclaredProgram → List ℕ → List ℕ → ℕ → ℕ → List ℕ → Outcome → Type 0
ToPair said old new seed steps word outcome =
    IsPairRefusal said old new outcome ⊎ IsPlannedAnswer said old new seed steps word outcome

-- the answer of updating from the one policy to the other, over the bytes of a text
abbrev pub IsUpdateAnswer : List ℕ → List ℕ → ℕ → ℕ → List ℕ → List ℕ → Outcome → Type 0
IsUpdateAnswer old new seed steps word bytes (text_refused text) = HasFault bytes text
IsUpdateAnswer old new seed steps word bytes outcome =
    (said : DeclaredProgram) × Declares bytes said × ToPair said old new seed steps word outcome
