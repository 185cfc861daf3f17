-- The steps of the job.
use Rattle.std.specs.Prelude.{ℕ, List}
use Rattle.nk.specs.declared.generating.Step.{Step}
use Rattle.nk.specs.declared.generating.Step.TheVariants.{Line, Ends}
use Rattle.nk.specs.Generating.{IsNotDone}
use Rattle.nk_reply.specs.Outcome.{Outcome, done}
use Rattle.nk_reply.specs.Reply.{outcome_of}

-- the step's command is done with a text of which the line counts, or the step ends with the command's answer, which is another
abbrev pub IsJobStep : (Outcome → Type 0) → (List ℕ → List ℕ → Type 0) → Step → Type 0
IsJobStep First Counts (Line line) = (text : List ℕ) × First (done text) × Counts text line.items
IsJobStep First Counts (Ends s) = IsNotDone (outcome_of s) × First (outcome_of s)
