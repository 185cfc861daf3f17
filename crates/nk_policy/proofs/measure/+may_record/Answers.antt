use Rattle.std.proofs.Common.{◌≡◌, ℕ, zero, suc, ◌-◌, ◌<◌, List, [], ◌∷◌, length, get_or, arith, subst}
use Rattle.nk_policy.specs.Policy.{dups_of, dups_of_all}
use Rattle.nk_policy.specs.Tree.{tree_of, trees_of}
use Rattle.nk_policy.specs.declared.policy.Pol.{Pol}
use Rattle.nk_policy.proofs.measure.+may_record.Goals as goal

-- the dups of a part are among those of all parts
dups_among : (ps : List Pol) (i : ℕ) (q : Pol) → i < length ps → q ≡ get_or ps i q → 0 < dups_of (tree_of q)
    → 0 < dups_of_all (trees_of ps)
dups_among [] i q lt is some = absurd (omega (arith, lt))
dups_among (p ∷ ps) zero q lt is some =
    let first : 0 < dups_of (tree_of p) = subst (λ r. 0 < dups_of (tree_of r)) is some in
    omega (arith, first)
dups_among (p ∷ ps) (suc i) q lt is some =
    let later : 0 < dups_of_all (trees_of ps) = dups_among ps i q (omega (arith, lt)) is some in
    omega (arith, later)

pub some_may_record-returns-then-may_record-clause-some : goal.some_may_record-returns-then-may_record-clause-some
some_may_record-returns-then-may_record-clause-some t c = λ e.
    dups_among c.args.ps.now (c.loop-i.i - 1) c.index-ps-i.result (omega (arith, c.loop-i-test.true, c.loop-i.invariant.within)) c.index-ps-i.is (c.may_record.ensures.some c.if-may_record.true)
