use Rattle.std.proofs.Common.{ℕ, ◌+◌, ◌<◌, Some, sym, ap, subst, ◌∙◌}
use Rattle.std.specs.Prelude.{IfOk, IfErr, slice_index}
use Rattle.nk_names.specs.ProgramValue.{ProgramValue}
use Rattle.nk_names.specs.WellFormed.{IsWellFormed}
use Rattle.nk_policy.specs.Tree.{tree_of}
use Rattle.nk_compile.proofs.Naming.{named_well_formed, has_room}
use Rattle.nk_compact.specs.Compacted.{IsCompactOf, IsCompactError}
use Rattle.nk_compact.proofs.CompactAnswers.{compact_answer_named}
use Rattle.nk_compact.proofs.compact.compile_compact.Goals as goal

pub policy_compact-requires-clause-held : goal.policy_compact-requires-clause-held
policy_compact-requires-clause-held c =
    subst (λ (v : ProgramValue). IsWellFormed v.fields (tree_of c.in_ok-p.p)) (sym c.program.view_is)
    (named_well_formed c.args.program.now c.args.name.now (tree_of c.in_ok-p.p) c.find.ensures.is (sym c.in-Some.ensures.found ∙ ap Some (sym c.in_ok-p.ensures)))

pub policy_compact-requires-clause-room : goal.policy_compact-requires-clause-room
policy_compact-requires-clause-room c =
    subst (λ (v : ProgramValue). (f : ℕ) → slice_index v.fields.maxima f + 1 < 18446744073709551616) (sym c.program.view_is) (has_room c.args.program.now c.find.ensures.is)

pub returns : goal.returns
returns c =
    compact_answer_named c.args.program.now c.args.name.now (tree_of c.in_ok-p.p) c.policy_compact.result c.find.ensures.is (sym c.in-Some.ensures.found ∙ ap Some (sym c.in_ok-p.ensures))
    (subst (λ (v : ProgramValue). IfOk c.policy_compact.result (IsCompactOf v.fields v.topo (tree_of c.in_ok-p.p))) c.program.view_is c.policy_compact.ensures.made)
    (subst (λ (v : ProgramValue). IfErr c.policy_compact.result (IsCompactError v.fields v.topo (tree_of c.in_ok-p.p))) c.program.view_is c.policy_compact.ensures.error)
