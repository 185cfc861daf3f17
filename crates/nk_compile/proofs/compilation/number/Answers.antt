use Rattle.std.proofs.Common.{ℕ, ◌+◌, ◌<◌, Some, sym, ap, subst, ◌∙◌}
use Rattle.std.specs.Prelude.{slice_index}
use Rattle.std.proofs.lemmas.Result.{IfOk-weaker, IfErr-weaker}
use Rattle.nk_policy.specs.Tree.{tree_of}
use Rattle.nk_names.specs.ProgramValue.{ProgramValue}
use Rattle.nk_names.specs.WellFormed.{IsWellFormed}
use Rattle.nk_compile.specs.Answers.{IsError}
use Rattle.nk_compile.specs.Preparing.{IsNumberedPolicy}
use Rattle.nk_compile.proofs.TablesOneByOne.{error_named}
use Rattle.nk_compile.proofs.Naming.{named_well_formed, has_room}
use Rattle.nk_compile.proofs.compilation.number.Goals as goal

pub number_tags-requires-clause-held : goal.number_tags-requires-clause-held
number_tags-requires-clause-held c =
    subst (λ (v : ProgramValue). IsWellFormed v.fields (tree_of c.in_ok-p.p)) (sym c.program.view_is)
    (named_well_formed c.args.program.now c.args.name.now (tree_of c.in_ok-p.p) c.laws.ensures (sym c.in-Some.ensures.found ∙ ap Some (sym c.in_ok-p.ensures)))

pub number_tags-requires-clause-room : goal.number_tags-requires-clause-room
number_tags-requires-clause-room c =
    subst (λ (v : ProgramValue). (f : ℕ) → slice_index v.fields.maxima f + 1 < 18446744073709551616) (sym c.program.view_is) (has_room c.args.program.now c.laws.ensures)

pub returns-clause-ok : goal.returns-clause-ok
returns-clause-ok c =
    let named = sym c.in-Some.ensures.found ∙ ap Some (sym c.in_ok-p.ensures) in
    IfOk-weaker c.number_tags.result _ _ (λ n is. record {
      is = c.laws.ensures;
      policy = tree_of c.in_ok-p.p;
      named = named;
      held = named_well_formed c.args.program.now c.args.name.now (tree_of c.in_ok-p.p) c.laws.ensures named;
      numbered = subst (λ (v : ProgramValue). IsNumberedPolicy v.fields v.topo (tree_of c.in_ok-p.p) n) c.program.view_is is;
    }) c.number_tags.ensures.ok

pub returns-clause-error : goal.returns-clause-error
returns-clause-error c =
    IfErr-weaker c.number_tags.result _ _ (λ e is.
    error_named c.args.program.now c.args.name.now (tree_of c.in_ok-p.p) (sym c.in-Some.ensures.found ∙ ap Some (sym c.in_ok-p.ensures)) e
    (subst (λ (v : ProgramValue). IsError v.fields v.topo (tree_of c.in_ok-p.p) e) c.program.view_is is)) c.number_tags.ensures.error
