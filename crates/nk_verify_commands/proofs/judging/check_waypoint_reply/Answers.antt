use Rattle.std.proofs.Common.{subst}
use Rattle.nk_reply.specs.Meant.{IsMeantBy}
use Rattle.nk_reply.specs.Reply.{answer_in}
use Rattle.nk_reply.specs.Use.{use_of}
use Rattle.nk_verify_commands.specs.Judging.{IsJudgeAnswer}
use Rattle.nk_verify_commands.proofs.judging.check_waypoint_reply.Goals as goal

-- the query asks what the words do
pub returns : goal.returns
returns g c =
    subst (λ asked. IsMeantBy (IsJudgeAnswer asked) (use_of g.S.Source.left g.S.Source.faults c.args.source.now c.judge_text.new.source) (answer_in c.judge_text.result))
    c.waypoint_query.ensures c.judge_text.ensures
