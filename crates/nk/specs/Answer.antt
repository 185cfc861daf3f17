-- The status and the text that the words and the input fix.
use Rattle.std.specs.Prelude.{◌≡◌, ℕ, List, [], Bool, true, false, Option, Some, None, MatchBool, length, nat_lt}
use Rattle.nk_words.specs.declared.words.Command.{Command}
use Rattle.nk_words.specs.declared.words.Command.TheVariants.{Compile, Trace, Equal, Check, Fly}
use Rattle.nk_words.specs.declared.words.Command.TheVariants.{Apart, Waypoint, CheckApart, CheckWaypoint, Gen, Job, Update, Compact, Virtual}
use Rattle.nk_query.specs.Asked.{apart, waypoint}
use Rattle.nk_reply.specs.declared.reply.Reply.{Reply}
use Rattle.nk_reply.specs.Answer.{Answer, answer_of, limit, too_long, usage}
use Rattle.nk_reply.specs.Outcome.{Outcome}
use Rattle.nk_reply.specs.Reply.{IsReplyOf}
use Rattle.nk_verify_commands.specs.Asking.{IsAskAnswer}
use Rattle.nk_verify_commands.specs.Checking.{IsCheckAnswer}
use Rattle.nk_compact_command.specs.Compacting.{IsCompactAnswer}
use Rattle.nk_compile_commands.specs.Compiling.{IsCompileAnswer}
use Rattle.nk_verify_commands.specs.Comparing.{IsEqualAnswer}
use Rattle.nk_trace_commands.specs.Flying.{IsFlyAnswer}
use Rattle.nk.specs.Generating.{IsGenAnswer, IsJobAnswer}
use Rattle.nk_verify_commands.specs.Judging.{IsJudgeAnswer}
use Rattle.nk_trace_commands.specs.Tracing.{IsTraceAnswer}
use Rattle.nk_compile_commands.specs.Updating.{IsUpdateAnswer}
use Rattle.nk_virtual_command.specs.Virtualizing.{IsVirtualizeAnswer}

-- whether a command reads the input
abbrev pub reads : Command → Bool
reads (Gen size seed) = false
reads (Job size seed) = false
reads c = true

-- whether a command takes the input's tokens as they come, so that no text is kept
abbrev pub reads_in_pieces : Command → Bool
reads_in_pieces (Trace hops packet) = true
reads_in_pieces (Fly seed steps packet) = true
reads_in_pieces (Check left right) = true
reads_in_pieces (CheckApart name from target) = true
reads_in_pieces (CheckWaypoint name from middle target) = true
reads_in_pieces c = false

-- what a command answers to an input within the limit
abbrev pub IsOutcome : Command → List ℕ → Outcome → Type 0
IsOutcome (Compile name) bytes outcome = IsCompileAnswer name bytes outcome
IsOutcome (Trace hops packet) bytes outcome = IsTraceAnswer hops packet bytes outcome
IsOutcome (Equal left right) bytes outcome = IsEqualAnswer left right bytes outcome
IsOutcome (Check left right) bytes outcome = IsCheckAnswer left right bytes outcome
IsOutcome (Fly seed steps packet) bytes outcome = IsFlyAnswer seed steps packet bytes outcome
IsOutcome (Apart name from target) bytes outcome = IsAskAnswer (apart name from target) bytes outcome
IsOutcome (Waypoint name from middle target) bytes outcome = IsAskAnswer (waypoint name from middle target) bytes outcome
IsOutcome (CheckApart name from target) bytes outcome = IsJudgeAnswer (apart name from target) bytes outcome
IsOutcome (CheckWaypoint name from middle target) bytes outcome = IsJudgeAnswer (waypoint name from middle target) bytes outcome
IsOutcome (Gen size seed) bytes outcome = IsGenAnswer size seed outcome
IsOutcome (Job size seed) bytes outcome = IsJobAnswer size seed outcome
IsOutcome (Update old new seed steps packet) bytes outcome = IsUpdateAnswer old new seed steps packet bytes outcome
IsOutcome (Compact name) bytes outcome = IsCompactAnswer name bytes outcome
IsOutcome (Virtual name) bytes outcome = IsVirtualizeAnswer name bytes outcome

-- the answer is one that the command has to the input
abbrev pub IsOutcomeOf : Command → List ℕ → Answer → Type 0
IsOutcomeOf c bytes a = (outcome : Outcome) × IsOutcome c bytes outcome × (a ≡ answer_of outcome)

-- the answer to a command, or to words that are none, and the input; a command that doesn't read answers whatever the input is
abbrev pub IsAnswerTo : Option Command → List ℕ → Answer → Type 0
IsAnswerTo None bytes a = a ≡ usage
IsAnswerTo (Some c) bytes a =
    MatchBool (reads c)
    (MatchBool (nat_lt limit (length bytes)) (a ≡ too_long) (IsOutcomeOf c bytes a))
    (IsOutcomeOf c [] a)

-- the reply is what the command answers to the input, or memory ran out
abbrev pub IsReplyTo : Command → List ℕ → Reply → Type 0
IsReplyTo c bytes r = IsReplyOf (IsOutcome c bytes) r
