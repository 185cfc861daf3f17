use Rattle.std.proofs.Common.{refl, subst, sym}
use Rattle.nk_reply.specs.Meant.{IsMeantBy}
use Rattle.nk_reply.specs.Reply.{answer_in}
use Rattle.nk_reply.specs.Use.{use_of}
use Rattle.nk_trace_commands.specs.Tracing.{IsTraceAnswer}
use Rattle.nk.proofs.Meant.{read_meant}
use Rattle.nk.proofs.top.reply_from.Goals as goal

-- what is meant over the input of a command that reads it is meant to the command
pub returns-in-Trace-clause-meant : goal.returns-in-Trace-clause-meant
returns-in-Trace-clause-meant g c =
    rw c.in-Trace.is
    (read_meant _ _ refl _
    (subst (λ word. IsMeantBy (IsTraceAnswer c.in-Trace.hops word) (use_of g.S.Source.left g.S.Source.faults c.args.source.now c.trace_reply.new.source) (answer_in c.trace_reply.result))
    c.as_str.ensures c.trace_reply.ensures))

pub returns-in-Fly-clause-meant : goal.returns-in-Fly-clause-meant
returns-in-Fly-clause-meant g c =
    rw (c.in-Fly.is, sym c.as_str-in-Fly.ensures) (read_meant _ _ refl _ c.fly_reply.ensures)

pub returns-in-Check-clause-meant : goal.returns-in-Check-clause-meant
returns-in-Check-clause-meant g c =
    rw (c.in-Check.is, sym c.as_str-in-Check.ensures, sym c.as_str-in-Check-2.ensures) (read_meant _ _ refl _ c.check_reply.ensures)

pub returns-in-CheckApart-clause-meant : goal.returns-in-CheckApart-clause-meant
returns-in-CheckApart-clause-meant g c = rw c.in-CheckApart.is (read_meant _ _ refl _ c.check_apart_reply.ensures)

pub returns-in-CheckWaypoint-clause-meant : goal.returns-in-CheckWaypoint-clause-meant
returns-in-CheckWaypoint-clause-meant g c = rw c.in-CheckWaypoint.is (read_meant _ _ refl _ c.check_waypoint_reply.ensures)
