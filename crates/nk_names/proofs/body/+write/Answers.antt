use Rattle.std.proofs.Common.{sym, ap, ◌∙◌, ◌+◌, rules, arith}
use Rattle.std.proofs.lemmas.List.{drop_all}
use Rattle.nk_policy.specs.Policy.{all_marked_from}
use Rattle.nk_policy.specs.Tree.{trees_of}
use Rattle.nk_policy.proofs.Trees.{joined, joined_none}
use Rattle.nk_names.specs.Body.{policies_in}
use Rattle.nk_names.specs.declared.body.Body.TheViews.{the_lemmas}
use Rattle.nk_names.proofs.Bodies.{dups_in_name, dups_in_sum, dups_in_seq}
use Rattle.nk_names.proofs.Building.{written_more}
use Rattle.nk_names.proofs.body.+write.Goals as goal

pub all_written_on-loop-q-preserved : goal.all_written_on-loop-q-preserved
all_written_on-loop-q-preserved t c =
    written_more c.args.parts.now _ c.q-item.result _ c.loop-q.out.items _ c.loop-q.before _ c.args.before.now c.loop-q-test.true c.q-item.is c.in_ok-push.ensures.items c.in_ok-part_written_on.ensures.tree c.in_ok-part_written_on.ensures.before c.loop-q.invariant

pub all_written_on-returns-clause-trees : goal.all_written_on-returns-clause-trees
all_written_on-returns-clause-trees t c =
    sym (joined_none (trees_of c.loop-q.out.items))
    ∙ ap (λ l. joined (trees_of c.loop-q.out.items) (all_marked_from (policies_in l) (c.loop-q.before + 1))) (sym (drop_all c.loop-q.q-index c.args.parts.now c.loop-q-test.false))
    ∙ c.loop-q.invariant.0

pub written_on-written_on-requires : goal.written_on-written_on-requires
written_on-written_on-requires t c =
    (search (rules, the_lemmas), omega (arith, c.requires.fit, dups_in_name c.args.body.now c.in-Name.s c.deref.result.now c.in-Name.is c.deref.ensures))

pub written_on-all_written_on-requires : goal.written_on-all_written_on-requires
written_on-all_written_on-requires t c =
    (search (rules, the_lemmas), omega (arith, c.requires.fit, dups_in_sum c.args.body.now c.in-Sum.ps c.as_slice.result.now c.in-Sum.is c.as_slice.ensures))

pub written_on-all_written_on-requires-in-Seq : goal.written_on-all_written_on-requires-in-Seq
written_on-all_written_on-requires-in-Seq t c =
    (search (rules, the_lemmas), omega (arith, c.requires.fit, dups_in_seq c.args.body.now c.in-Seq.ps c.as_slice-in-Seq.result.now c.in-Seq.is c.as_slice-in-Seq.ensures))
