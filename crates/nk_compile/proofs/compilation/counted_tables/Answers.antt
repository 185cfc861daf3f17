use Rattle.std.proofs.Common.{ℕ, ◌+◌, ◌<◌, sym, subst}
use Rattle.std.specs.Prelude.{IfOk, IfErr, slice_index}
use Rattle.nk_policy.specs.Tree.{tree_of}
use Rattle.nk_names.specs.ProgramValue.{ProgramValue}
use Rattle.nk_names.specs.WellFormed.{IsWellFormed}
use Rattle.nk_compile.specs.Answers.{IsMade, IsError}
use Rattle.nk_compile.specs.Counted.{HasTagSets}
use Rattle.nk_compile.proofs.Naming.{counted_answer, has_room}
use Rattle.nk_compile.proofs.compilation.counted_tables.Goals as goal

pub policy_tables-requires-clause-held : goal.policy_tables-requires-clause-held
policy_tables-requires-clause-held c =
    subst (λ (v : ProgramValue). IsWellFormed v.fields (tree_of c.args.p.now)) (sym c.program.view_is) c.requires

pub policy_tables-requires-clause-room : goal.policy_tables-requires-clause-room
policy_tables-requires-clause-room c =
    subst (λ (v : ProgramValue). (f : ℕ) → slice_index v.fields.maxima f + 1 < 18446744073709551616) (sym c.program.view_is) (has_room c.args.program.now c.laws.ensures)

pub returns : goal.returns
returns c =
    counted_answer c.args.program.now (tree_of c.args.p.now) c.policy_tables.result c.laws.ensures c.requires
    (subst (λ (v : ProgramValue). IfOk c.policy_tables.result (λ r. IsMade v.fields v.topo (tree_of c.args.p.now) r.tables)) c.program.view_is c.policy_tables.ensures.made)
    (subst (λ (v : ProgramValue). IfOk c.policy_tables.result (λ r. HasTagSets v.fields v.topo (tree_of c.args.p.now) r.tag_sets)) c.program.view_is c.policy_tables.ensures.counted)
    (subst (λ (v : ProgramValue). IfErr c.policy_tables.result (IsError v.fields v.topo (tree_of c.args.p.now))) c.program.view_is c.policy_tables.ensures.error)
