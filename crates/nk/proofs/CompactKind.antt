-- A policy is compacted exactly where it can be: no refusal is another answer.
use Rattle.std.proofs.Common.{List, ℕ, ◌∙◌, sym, subst}
use Rattle.nk_names.specs.ProgramOf.{program_by}
use Rattle.nk_compact.proofs.CompactReasons.{never_refused_compact}
use Rattle.nk_compact_command.specs.Compacting.{IsCompactAnswer}
use Rattle.nk_reply.specs.Outcome.{Outcome, done, differs, text_refused, policy_refused}
use Rattle.nk_input.specs.ProgramText.{Declares}
use Rattle.nk.specs.Succeeding.{AcceptsMerged}
use Rattle.nk.proofs.ByKind.{Kind}
use Rattle.nk_input.proofs.OneText.{declares_once, no_fault}

pub compact_kind : (name bytes : List ℕ) (o : Outcome) → IsCompactAnswer name bytes o → Kind o (AcceptsMerged name bytes) ⊥
compact_kind name bytes (text_refused t) h = (λ d. no_fault bytes (program_by d.program) t d.declared h, λ x. x)
compact_kind name bytes (done t) h =
    let made = h.2 in
    let of = made.compacted.2 in (
      record {
        program = made.program;
        declared = subst (Declares bytes) (sym made.says) h.1;
        accepted = (made.compacted.0, made.compacted.1, of.compilable, (of.tags, of.classes, of.merged.in_order, of.merged.are_classes, of.few));
      },
      λ x. x,
    )
compact_kind name bytes (differs t) h = absurd h.2
compact_kind name bytes (policy_refused t) h =
    let r = h.2 in (
      λ d. never_refused_compact d.program r.program (declares_once bytes (program_by d.program) h.0 d.declared h.1 ∙ sym r.says) name r.reason d.accepted r.refused,
      λ x. x,
    )
