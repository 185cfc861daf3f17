use Rattle.std.proofs.Common.{subst, sym}
use Rattle.nk_flight.specs.Updates.{HaveVersions, stages_of}
use Rattle.nk_flight.proofs.Leaving.{turns_have_versions}
use Rattle.nk_compile_commands.proofs.updating.TurnsFollow.follow.Goals as goal

-- what has left in turns is of injections that have versions
pub updated_text-requires-clause-versions : goal.updated_text-requires-clause-versions
updated_text-requires-clause-versions c =
    subst HaveVersions (sym c.in_ok-flight.ensures.state)
    (turns_have_versions (stages_of c.args.self.now.plan) c.args.self.now.seed c.args.self.now.steps c.args.packet.now)
