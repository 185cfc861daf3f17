use Rattle.std.proofs.Common.{◌≡◌, None, sym, ap, subst, ◌∙◌}
use Rattle.std.specs.Prelude.{map, AllPairs}
use Rattle.nk_policy.specs.Tree.{tree_of}
use Rattle.nk_static.specs.StaticFaults.{static_fault_of}
use Rattle.nk_names.specs.ProgramValue.{HaveOneSource}
use Rattle.nk_virtual.specs.Answers.{IsBuilding}
use Rattle.nk_virtual.specs.Physical.{physical}
use Rattle.nk_virtual.proofs.Made.{built_answer}
use Rattle.nk_virtual.proofs.naming.answer_over.Goals as goal

pub ends_of-requires : goal.ends_of-requires
ends_of-requires c =
    subst (AllPairs (λ k l. ¬ (HaveOneSource k l))) (sym c.virtual_links-links.ensures.links) c.virtual_links-links.ensures.virtuals.one_from

pub returns : goal.returns
returns c =
    let program = c.args.program.now in
    let p = tree_of c.args.p.now in
    let plain : static_fault_of c.args.tag (map (λ k. k.ends) program.virtuals) p ≡ None =
    ap
    (λ ls. static_fault_of c.args.tag ls p)
    (sym (c.in_ok-ends.ensures ∙ ap (map (λ k. k.ends)) c.virtual_links-links.ensures.links))
    ∙ sym c.static_fault_among.ensures
    ∙ c.in_default.is in
    built_answer program.fields program.topo program.virtuals c.args.tag p c.virtual_links-links.ensures.is.table c.requires.declared c.requires.usable c.virtual_links-links.ensures.virtuals.over c.requires.fit plain c.expanded.result
    (subst (λ ls. IsBuilding (physical ls p) c.expanded.result) c.virtual_links-links.ensures.links c.expanded.ensures)
