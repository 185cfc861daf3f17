use Rattle.std.proofs.Common.{◌<◌, [], length, get_or, ◌∙◌, arith}
use Rattle.nk_store.proofs.Stores.{grows_on}
use Rattle.nk_determ.specs.Pairs.{IsPair}
use Rattle.nk_goal.proofs.Places.{each_at}
use Rattle.nk_sets.proofs.SetLemmas.{set_grows}
use Rattle.nk_goal.proofs.Violations.{none_back, violations_back, none_of, none_more}
use Rattle.nk_goal.proofs.goal.any_violation.Goals as goal

pub pair_violation-requires-clause-packets : goal.pair_violation-requires-clause-packets
pair_violation-requires-clause-packets g c =
    let l : c.loop-i.i < length c.args.level.now = omega (arith, c.loop-i-test.true, c.len-i-end.ensures) in
    let q = each_at (IsPair c.args.st.now c.args.ss.now (g.G.Goal.labels c.args.g.now)) c.args.level.now c.loop-i.i c.at.result.now c.requires.pairs.each l c.at.ensures in
    set_grows c.args.st.now c.loop-i.st c.at.result.now.1 c.loop-i.invariant.grows q.packets

pub returns-then-branch-clause-yes : goal.returns-then-branch-clause-yes
returns-then-branch-clause-yes g c = λ _.
    let l : c.loop-i.i < length c.args.level.now = omega (arith, c.loop-i-test.true, c.len-i-end.ensures) in
    let q = each_at (IsPair c.args.st.now c.args.ss.now (g.G.Goal.labels c.args.g.now)) c.args.level.now c.loop-i.i c.at.result.now c.requires.pairs.each l c.at.ensures in
    let set = get_or c.args.ss.now c.at.result.now.0 [] in
    violations_back c.args.st.now c.loop-i.st c.args.ss.now c.args.level.now c.loop-i.i c.at.result.now (g.G.Goal.violations_of c.args.g.now c.args.st.now) (g.G.Goal.violations_of c.loop-i.g c.loop-i.st set)
    c.loop-i.invariant.grows q.packets.id
    (λ pk. c.loop-i.invariant.same c.loop-i.st set pk ∙ g.met.G.Goal.violations_grow c.args.g.now c.args.st.now c.loop-i.st set pk c.requires.fits c.loop-i.invariant.grows q.places)
    l c.at.ensures (c.in_ok-pair_violation.ensures.yes c.if-branch.true)

pub loop-i-preserved : goal.loop-i-preserved
loop-i-preserved g c =
    let l : c.loop-i.i < length c.args.level.now = omega (arith, c.loop-i-test.true, c.len-i-end.ensures) in
    let q = each_at (IsPair c.args.st.now c.args.ss.now (g.G.Goal.labels c.args.g.now)) c.args.level.now c.loop-i.i c.at.result.now c.requires.pairs.each l c.at.ensures in
    let set = get_or c.args.ss.now c.at.result.now.0 [] in
    record {
      grows = grows_on _ _ _ c.loop-i.invariant.grows c.pair_violation.ensures.grows;
      fits = c.in_ok-pair_violation.ensures.fits;
      labels = c.in_ok-pair_violation.ensures.labels ∙ c.loop-i.invariant.labels;
      same = λ st set pk. c.in_ok-pair_violation.ensures.same st set pk ∙ c.loop-i.invariant.same st set pk;
      none = none_more c.args.st.now c.args.ss.now c.args.level.now c.loop-i.i c.at.result.now (g.G.Goal.violations_of c.args.g.now c.args.st.now) l c.at.ensures c.loop-i.invariant.none
          (none_back c.args.st.now c.loop-i.st c.at.result.now.1 (g.G.Goal.violations_of c.args.g.now c.args.st.now set) (g.G.Goal.violations_of c.loop-i.g c.loop-i.st set) c.loop-i.invariant.grows q.packets.id
          (λ pk. c.loop-i.invariant.same c.loop-i.st set pk ∙ g.met.G.Goal.violations_grow c.args.g.now c.args.st.now c.loop-i.st set pk c.requires.fits c.loop-i.invariant.grows q.places)
          (c.in_ok-pair_violation.ensures.no c.if-branch.false));
    }

pub returns-clause-no : goal.returns-clause-no
returns-clause-no g c = λ _.
    none_of c.args.st.now c.args.ss.now c.args.level.now (g.G.Goal.violations_of c.args.g.now c.args.st.now)
    (λ k l d. c.loop-i.invariant.none k (omega (arith, l, c.loop-i-test.false, c.len-i-end.ensures)) d)
