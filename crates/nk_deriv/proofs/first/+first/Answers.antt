use Rattle.std.proofs.Common.{sym, ap, subst, ◌∙◌, rules}
use Rattle.nk_policy.specs.Policy.{sum_of, star_of}
use Rattle.nk_policy.specs.Tree.{tree_of, trees_of}
use Rattle.nk_policy.specs.declared.policy.Pol.TheViews.{the_lemmas}
use Rattle.nk_policy.proofs.Trees.{tree_of_sum}
use Rattle.nk_deriv.specs.Part.{NegatesPredicates}
use Rattle.nk_deriv.specs.Turns.{IsCollected, ArePutAfter, AreInTurn}
use Rattle.nk_deriv.proofs.Collected.{sum_tree, seq_tree, collected_as, collected_range, collected_test, collected_assign, collected_not, collected_seq, collected_star, collected_dup, collected_link, summing_none, summing_more, summing_done, complements_at, parts_next, part_is}
use Rattle.nk_deriv.proofs.first.+first.Goals as goal

pub collected-returns-in-Range : goal.collected-returns-in-Range
collected-returns-in-Range t c =
    collected_as _ _ _ _ _ (sym (ap tree_of c.in-Range.is)) (collected_range _ c.in-Range.f c.in-Range.lo c.in-Range.hi)

pub collected-returns-in-Test : goal.collected-returns-in-Test
collected-returns-in-Test t c = collected_as _ _ _ _ _ (sym (ap tree_of c.in-Test.is)) (collected_test _ c.in-Test.f c.in-Test.n)

pub collected-returns-in-Set : goal.collected-returns-in-Set
collected-returns-in-Set t c = collected_as _ _ _ _ _ (sym (ap tree_of c.in-Set.is)) (collected_assign _ c.in-Set.f c.in-Set.n)

pub collected-returns-in_ok-same-in-Not : goal.collected-returns-in_ok-same-in-Not
collected-returns-in_ok-same-in-Not t c =
    collected_not _ _ _ _ (sym (ap tree_of c.in-Not.is)) c.in_ok-same-in-Not.ensures c.requires.complements

pub collected-collected_any-requires : goal.collected-collected_any-requires
collected-collected_any-requires t c =
    (search (rules, the_lemmas), subst NegatesPredicates (sym (sum_tree _ c.in-Sum.ps _ c.in-Sum.is c.as_slice-terms.ensures)) c.requires.complements)

pub collected-parts_of_all-requires : goal.collected-parts_of_all-requires
collected-parts_of_all-requires t c =
    (search (rules, the_lemmas), subst NegatesPredicates (sym (seq_tree _ c.in-Seq.ps _ c.in-Seq.is c.as_slice-members.ensures)) c.requires.complements)

pub collected-returns-in_ok-all-in-Seq : goal.collected-returns-in_ok-all-in-Seq
collected-returns-in_ok-all-in-Seq t c =
    collected_as _ _ _ _ _ (seq_tree _ c.in-Seq.ps _ c.in-Seq.is c.as_slice-members.ensures)
    (collected_seq _ _ _ c.in_ok-states-in-Seq.states _ c.in_ok-states-in-Seq.ensures
    (subst (AreInTurn c.args.legs.now c.in_turn.new.legs (tree_of c.in_ok-all-in-Seq.all)) c.as_slice-turns.ensures c.in_ok-all-in-Seq.ensures))

pub collected-returns-in_ok-put_following-in-Star : goal.collected-returns-in_ok-put_following-in-Star
collected-returns-in_ok-put_following-in-Star t c =
    collected_as _ _ _ _ _ (ap (λ x. star_of (tree_of x)) c.deref.ensures ∙ sym (ap tree_of c.in-Star.is))
    (collected_star _ _ c.collected.new.legs _ (tree_of c.in_ok-round-in-Star.round) (tree_of c.deref.result.now)
    (subst (λ o. IsCollected o c.collected.new.legs (tree_of c.in_ok-round-in-Star.round) (tree_of c.deref.result.now)) c.new-firsts.ensures c.in_ok-round-in-Star.ensures)
    c.in_ok-star-in-Star.ensures
    (subst (ArePutAfter c.args.legs.now c.put_following.new.out (tree_of c.in_ok-star-in-Star.star)) c.as_slice-following.ensures c.in_ok-put_following-in-Star.ensures))

pub collected-returns-in_ok-push-in-Dup : goal.collected-returns-in_ok-push-in-Dup
collected-returns-in_ok-push-in-Dup t c =
    collected_as _ _ _ _ _ (sym (ap tree_of c.in-Dup.is))
    (collected_dup _ _ _ c.keeping-here.result c.in-Dup.l c.keeping-here.ensures c.in_ok-push-in-Dup.ensures.ok c.dropping-none.ensures)

pub collected-returns-in_ok-push-in-Link : goal.collected-returns-in_ok-push-in-Link
collected-returns-in_ok-push-in-Link t c =
    collected_as _ _ _ _ _ (sym (ap tree_of c.in-Link.is))
    (collected_link _ _ _ c.in_ok-source-in-Link.source c.in-Link.a c.in-Link.m _ _ c.in-Link.l c.in_ok-source-in-Link.ensures c.in_ok-push-in-Link.ensures.ok c.dropping-nothing.ensures)

pub collected_any-loop-q-init : goal.collected_any-loop-q-init
collected_any-loop-q-init t c = summing_none _ _ _ c.new-frees.ensures.items c.requires.complements

pub collected_any-loop-q-preserved : goal.collected_any-loop-q-preserved
collected_any-loop-q-preserved t c =
    summing_more _ c.loop-q.legs _ _ _ (tree_of c.in_ok-free.free) c.q-item.result c.args.ps.now _ c.loop-q-test.true c.q-item.is
    c.in_ok-free.ensures c.in_ok-push_term.ensures c.loop-q.invariant

pub collected_any-collected-requires : goal.collected_any-collected-requires
collected_any-collected-requires t c =
    (search (rules, the_lemmas), (complements_at c.q-item.result c.args.ps.now _ c.loop-q-test.true c.q-item.is c.loop-q.invariant.complements).0)

pub collected_any-returns : goal.collected_any-returns
collected_any-returns t c =
    subst (λ f. IsCollected c.args.legs.now c.loop-q.legs f (sum_of (trees_of c.args.ps.now)))
    (sym (tree_of_sum c.new-sum.result ∙ ap (λ v. sum_of (trees_of v.items)) c.new-sum.ensures))
    (summing_done _ _ _ _ _ c.loop-q-test.false c.loop-q.invariant)

pub parts_of_all-loop-q-preserved : goal.parts_of_all-loop-q-preserved
parts_of_all-loop-q-preserved t c = record {
  made = parts_next c.args.ps.now _ c.q-item.result _ _ _ c.loop-q-test.true c.q-item.is c.in_ok-push.ensures.ok
      (part_is _ _ (subst (λ o. IsCollected o c.collected.new.legs (tree_of c.in_ok-free.free) (tree_of c.q-item.result)) c.new-legs.ensures c.in_ok-free.ensures))
      c.loop-q.invariant.made;
  complements = (complements_at c.q-item.result c.args.ps.now _ c.loop-q-test.true c.q-item.is c.loop-q.invariant.complements).1;
}
