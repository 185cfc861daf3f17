use Rattle.std.proofs.Common.{◌∙◌, sym}
use Rattle.nk_policy.specs.Tree.{tree_of}
use Rattle.nk_compile.proofs.CompileErrors.{refused_with}
use Rattle.nk_compact.specs.Compacted.{IsCompactError}
use Rattle.nk_compact.proofs.CompactAnswers.{early_compact_error}
use Rattle.nk_compact.proofs.compact.policy_compact.Goals as goal

pub max-requires : goal.max-requires
max-requires c = (c.declared-few.ensures.is.tag_past_port c.in-Some.tag (sym c.tag.ensures ∙ c.in-Some.is)).1

pub all_numbers-requires : goal.all_numbers-requires
all_numbers-requires c = record { prepared = (c.args.fields.now, c.args.topo.now, c.in-Some.tag, tree_of c.args.p.now, c.in_ok-prepared.ensures.ok) }

pub returns-in_err-prepared-clause-error : goal.returns-in_err-prepared-clause-error
returns-in_err-prepared-clause-error c =
    refused_with c.from_residual.result c.in_err-prepared.field-0.0 (IsCompactError c.args.fields.now c.args.topo.now (tree_of c.args.p.now)) c.from_residual.ensures.1
    (early_compact_error c.args.fields.now c.args.topo.now (tree_of c.args.p.now) c.in_err-prepared.field-0.0 c.in_err-prepared.ensures.err)
