use Rattle.std.proofs.Common.{ℕ, ◌+◌, ◌<◌, Some, sym, ap, subst, ◌∙◌}
use Rattle.std.specs.Prelude.{IfOk, IfErr, slice_index}
use Rattle.nk_names.specs.ProgramValue.{ProgramValue}
use Rattle.nk_names.specs.WellFormed.{IsWellFormed}
use Rattle.nk_policy.specs.Tree.{tree_of}
use Rattle.nk_compile.specs.MadePair.{IsMadePair, IsPairError}
use Rattle.nk_compile.proofs.Naming.{named_well_formed, has_room}
use Rattle.nk_compile.proofs.Pairing.{pair_named}
use Rattle.nk_compile.proofs.pair.compile_pair.Goals as goal

pub policy_pair-requires-clause-held_old : goal.policy_pair-requires-clause-held_old
policy_pair-requires-clause-held_old c =
    subst (λ (v : ProgramValue). IsWellFormed v.fields (tree_of c.in_ok-p.p)) (sym c.program.view_is)
    (named_well_formed c.args.program.now c.args.old.now (tree_of c.in_ok-p.p) c.find.ensures.is (sym c.in-Some.ensures.found ∙ ap Some (sym c.in_ok-p.ensures)))

pub policy_pair-requires-clause-held_new : goal.policy_pair-requires-clause-held_new
policy_pair-requires-clause-held_new c =
    subst (λ (v : ProgramValue). IsWellFormed v.fields (tree_of c.in_ok-q.q)) (sym c.program.view_is)
    (named_well_formed c.args.program.now c.args.new.now (tree_of c.in_ok-q.q) c.find.ensures.is (sym c.in-Some-find.ensures.found ∙ ap Some (sym c.in_ok-q.ensures)))

pub policy_pair-requires-clause-room : goal.policy_pair-requires-clause-room
policy_pair-requires-clause-room c =
    subst (λ (v : ProgramValue). (f : ℕ) → slice_index v.fields.maxima f + 1 < 18446744073709551616) (sym c.program.view_is) (has_room c.args.program.now c.find.ensures.is)

pub returns : goal.returns
returns c =
    pair_named c.args.program.now c.args.old.now c.args.new.now (tree_of c.in_ok-p.p) (tree_of c.in_ok-q.q) c.policy_pair.result c.find.ensures.is
    (sym c.in-Some.ensures.found ∙ ap Some (sym c.in_ok-p.ensures)) (sym c.in-Some-find.ensures.found ∙ ap Some (sym c.in_ok-q.ensures))
    (subst (λ (v : ProgramValue). IfOk c.policy_pair.result (IsMadePair v.fields v.topo (tree_of c.in_ok-p.p) (tree_of c.in_ok-q.q))) c.program.view_is c.policy_pair.ensures.made)
    (subst (λ (v : ProgramValue). IfErr c.policy_pair.result (IsPairError v.fields v.topo (tree_of c.in_ok-p.p) (tree_of c.in_ok-q.q))) c.program.view_is c.policy_pair.ensures.error)
