use Rattle.std.proofs.Common.{arith}
use Rattle.std.proofs.lemmas.Result.{IfOk-weaker}
use Rattle.nk_algebra.proofs.Cuts.{piece_all, split_child}
use Rattle.nk_algebra.proofs.choices.choose_here.Goals as goal

pub returns-clause-ok : goal.returns-clause-ok
returns-clause-ok c = IfOk-weaker c.case.result _ _
    (λ d h. piece_all c.args.st.now c.case.new.self c.args.f d c.args.parts.now c.in_ok-pieces.pieces
    (λ x. split_child c.args.st.now c.args.f c.args.f c.args.parts.now x c.requires.choices (omega arith) c.requires.first c.laws.ensures.nodes)
    c.in_ok-pieces.ensures.ok h) c.case.ensures.ok
