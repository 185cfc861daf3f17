use Rattle.std.proofs.lemmas.Result.{IfOk-weaker}
use Rattle.nk_group.proofs.Fronting.{front_made}
use Rattle.nk_group.proofs.acting.in_front.Goals as goal

pub returns-clause-front : goal.returns-clause-front
returns-clause-front c =
    IfOk-weaker c.either.result _ _
    (λ d k.
    front_made c.args.st.now c.tag_state.new.st c.restrict.new.st c.either.new.st c.args.ss.now c.tag_state.new.ss c.args.states.now c.args.tags.now c.args.tag c.args.sw c.args.a
    c.in_ok-e.e c.in_ok-here.here c.args.rest d c.tag_state.ensures.grows c.restrict.ensures.grows c.either.ensures.grows c.requires.states c.requires.acting c.requires.rest
    c.in_ok-e.ensures.state c.in_ok-here.ensures.ok k)
    c.either.ensures.ok
