use Rattle.std.proofs.Common.{rules, ◌≡◌, ◌++◌, subst}
use Rattle.std.specs.Prelude.{codes}
use Rattle.nk_names.specs.ProgramOf.{program_by}
use Rattle.nk_verify_commands.specs.Comparing.{ToCompared}
use Rattle.nk_compile_commands.specs.Compiling.{ToProgram}
use Rattle.nk.specs.Generating.{CountsRows, CountsTables}
use Rattle.nk.specs.JobSteps.{IsJobStep}
use Rattle.nk_reply.specs.Reply.{outcome_of}
use Rattle.nk.proofs.Jobs.{all_counted, ends_second, ends_third}
use Rattle.nk.proofs.generating.job_of_program.Goals as goal

pub returns-in-Ends-2 : goal.returns-in-Ends-2
returns-in-Ends-2 c = λ bytes d.
    let program = c.args.program.now in
    let go = subst (IsJobStep (ToProgram (program_by program) (codes "go")) (CountsTables program (codes "go"))) c.in-Line.is c.in_ok-line.ensures in
    let ends = subst (IsJobStep (ToProgram (program_by program) (codes "cast")) (CountsTables program (codes "cast"))) c.in-Ends-2.is c.in_ok-line-2.ensures in
    ends_second bytes program d c.in-Line.line.items go (outcome_of c.in-Ends-2.answer) ends

pub returns-in-Ends-3 : goal.returns-in-Ends-3
returns-in-Ends-3 c = λ bytes d.
    let program = c.args.program.now in
    let go = subst (IsJobStep (ToProgram (program_by program) (codes "go")) (CountsTables program (codes "go"))) c.in-Line.is c.in_ok-line.ensures in
    let cast = subst (IsJobStep (ToProgram (program_by program) (codes "cast")) (CountsTables program (codes "cast"))) c.in-Line-2.is c.in_ok-line-2.ensures in
    let ends = subst (IsJobStep (ToCompared (program_by program) (codes "go") (codes "same")) (CountsRows program (codes "go") (codes "same"))) c.in-Ends-3.is c.in_ok-line-3.ensures in
    ends_third bytes program d c.in-Line.line.items go c.in-Line-2.line.items cast (outcome_of c.in-Ends-3.answer) ends

pub returns : goal.returns
returns c = λ bytes d.
    let program = c.args.program.now in
    let go = subst (IsJobStep (ToProgram (program_by program) (codes "go")) (CountsTables program (codes "go"))) c.in-Line.is c.in_ok-line.ensures in
    let cast = subst (IsJobStep (ToProgram (program_by program) (codes "cast")) (CountsTables program (codes "cast"))) c.in-Line-2.is c.in_ok-line-2.ensures in
    let equal = subst (IsJobStep (ToCompared (program_by program) (codes "go") (codes "same")) (CountsRows program (codes "go") (codes "same"))) c.in-Line-3.is c.in_ok-line-3.ensures in
    let told : c.extend_from_slice-2.new.self.items ≡ c.in-Line.line.items ++ c.in-Line-2.line.items ++ c.in-Line-3.line.items = search rules in
    all_counted bytes program d c.in-Line.line.items go c.in-Line-2.line.items cast c.in-Line-3.line.items equal c.extend_from_slice-2.new.self.items told
