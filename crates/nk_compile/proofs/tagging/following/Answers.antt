use Rattle.std.proofs.Common.{◌<◌, ◌∙◌, sym, subst, ap, length}
use Rattle.std.specs.Prelude.{All}
use Rattle.std.proofs.lemmas.Result.{IfOk-weaker}
use Rattle.nk_group.proofs.Growing.{known_kept}
use Rattle.nk_compile.specs.Ready.{sets_of}
use Rattle.nk_compile.proofs.Padding.{padded_sets, padded_known}
use Rattle.nk_compile.proofs.tagging.following.Goals as goal

pub returns-clause-known : goal.returns-clause-known
returns-clause-known c =
    IfOk-weaker c.padded.result _ _
    (λ r is.
    subst (All (λ s. s < length c.intern.new.self)) (sym is)
    (padded_known (length c.intern.new.self) c.in_ok-none.none c.args.first c.args.tags.now c.in_ok-none.ensures.ok.within (known_kept c.args.ss.now c.intern.new.self c.args.tags.now c.intern.ensures.grows c.requires)))
    c.padded.ensures

pub returns-clause-sets : goal.returns-clause-sets
returns-clause-sets c =
    IfOk-weaker c.padded.result _ _
    (λ r is.
    ap (sets_of c.intern.new.self) is
    ∙ padded_sets c.args.ss.now c.intern.new.self c.in_ok-none.none c.args.first c.args.tags.now c.intern.ensures.grows c.requires (c.in_ok-none.ensures.ok.members ∙ c.new.ensures))
    c.padded.ensures
