use Rattle.std.proofs.Common.{◌≡◌, ◌<◌, ◌≤◌, ◌+◌, [], ◌∷◌, ◌++◌, length, get_or, refl, sym, ◌∙◌, ap, subst, arith, length-append}
use Rattle.nk_store.proofs.Stores.{grows_on}
use Rattle.nk_determ.specs.Pairs.{ArePairs}
use Rattle.nk_goal.specs.Entries.{with_packets}
use Rattle.nk_goal.specs.Goals.{MeetsViolation}
use Rattle.nk_goal.proofs.Everything.{all_nodes}
use Rattle.nk_goal.proofs.Growing.{sets_refl, packets_of, pairs_on, states_grow, pairs_more}
use Rattle.nk_determ.proofs.Interned.{sets_on}
use Rattle.nk_goal.proofs.Going.{Going, room}
use Rattle.nk_reach.proofs.Round.{going_start}
use Rattle.nk_reach.proofs.Ends.{levels_broken, last_is, round_done, round_last, falls}
use Rattle.nk_reach.proofs.search.put_levels.Goals as goal

pub loop-st-init : goal.loop-st-init
loop-st-init g c =
    let bad = g.G.Goal.violations_of c.args.g.now c.args.st.now in
    let first = going_start c.args.st.now c.args.ss.now c.args.states.now c.args.s c.args.start bad c.requires.set c.requires.places c.requires.packets in
    let all : c.push.new.self ≡ ((c.args.s, c.args.start) ∷ []) ∷ [] = c.in_ok-push.ensures.ok ∙ ap (λ l. l ++ c.in_ok-first_level.field-0 ∷ []) c.requires.no_level ∙ ap (λ l. l ∷ []) c.in_ok-first_level.ensures in
    let visited : c.insert.new.self ≡ (c.args.s, c.args.start) ∷ [] = c.in_ok-insert.ensures.ok ∙ ap (λ m. with_packets m c.args.s c.args.start) c.requires.none_visited in
    record {
      fits = c.requires.fits;
      labels = refl;
      same = λ st set pk. refl;
      going = (
        0,
        subst (λ ls. Going c.args.st.now c.args.ss.now c.args.st.now c.args.ss.now c.args.states.now c.args.s c.args.start bad c.insert.new.self ls 0) (sym all)
            (subst (λ visited. Going c.args.st.now c.args.ss.now c.args.st.now c.args.ss.now c.args.states.now c.args.s c.args.start bad visited (((c.args.s, c.args.start) ∷ []) ∷ []) 0) (sym visited) first),
      );
    }

pub any_violation-requires-clause-pairs : goal.any_violation-requires-clause-pairs
any_violation-requires-clause-pairs g c =
    let h = c.loop-st.invariant.going.0 in
    let go = c.loop-st.invariant.going.1 in
    let at = last_is c.loop-st.all h c.len-last.result c.at.result.now go.count c.len-last.ensures c.at.ensures in
    let l : length c.args.states.now ≤ g.G.Goal.labels c.loop-st.g = subst (λ k. length c.args.states.now ≤ k) (sym c.loop-st.invariant.labels) c.requires.labels in
    subst (ArePairs c.loop-st.st c.loop-st.ss (g.G.Goal.labels c.loop-st.g)) at
    (pairs_more c.loop-st.st c.loop-st.ss (length c.args.states.now) (g.G.Goal.labels c.loop-st.g) (get_or c.loop-st.all h []) l (go.pairs h (omega arith)))

pub returns-then-branch-clause-ok : goal.returns-then-branch-clause-ok
returns-then-branch-clause-ok g c =
    let h = c.loop-st.invariant.going.0 in
    let go = c.loop-st.invariant.going.1 in
    let at = last_is c.loop-st.all h c.len-last.result c.at.result.now go.count c.len-last.ensures c.at.ensures in
    let now = g.G.Goal.violations_of c.loop-st.g c.loop-st.st in
    levels_broken c.args.st.now c.args.ss.now c.loop-st.st c.any_violation.new.st c.loop-st.ss c.args.states.now c.args.s c.args.start (g.G.Goal.violations_of c.args.g.now c.args.st.now) now c.loop-st.visited c.loop-st.all h
    c.requires.set go c.any_violation.ensures.grows
    (λ n p. c.loop-st.invariant.same c.loop-st.st n.0 n.1 ∙ g.met.G.Goal.violations_grow c.args.g.now c.args.st.now c.loop-st.st n.0 n.1 c.requires.fits go.grows (λ j d m. omega (arith, p j d m, c.requires.labels)))
    (subst (λ q. MeetsViolation c.loop-st.st c.loop-st.ss q now) (sym at) (c.in_ok-any_violation.ensures.yes c.if-branch.true))

pub next_level-requires-clause-visited : goal.next_level-requires-clause-visited
next_level-requires-clause-visited g c =
    pairs_on c.loop-st.st c.any_violation.new.st c.loop-st.ss c.loop-st.ss (length c.args.states.now) c.loop-st.visited c.any_violation.ensures.grows (sets_refl c.loop-st.ss) c.loop-st.invariant.going.1.visited_pairs

pub next_level-requires-clause-states : goal.next_level-requires-clause-states
next_level-requires-clause-states g c =
    states_grow c.args.st.now c.any_violation.new.st c.args.states.now (grows_on _ _ _ c.loop-st.invariant.going.1.grows c.any_violation.ensures.grows) c.requires.states

pub returns-in_err-level-clause-sets : goal.returns-in_err-level-clause-sets
returns-in_err-level-clause-sets g c = sets_on _ _ _ c.loop-st.invariant.going.1.sets c.next_level.ensures.sets

pub returns-then-len-eq0-clause-sets : goal.returns-then-len-eq0-clause-sets
returns-then-len-eq0-clause-sets g c = sets_on _ _ _ c.loop-st.invariant.going.1.sets c.next_level.ensures.sets

pub returns-in_err-add_level-clause-sets : goal.returns-in_err-add_level-clause-sets
returns-in_err-add_level-clause-sets g c = sets_on _ _ _ c.loop-st.invariant.going.1.sets c.next_level.ensures.sets

pub returns-in_err-push-2-clause-sets : goal.returns-in_err-push-2-clause-sets
returns-in_err-push-2-clause-sets g c = sets_on _ _ _ c.loop-st.invariant.going.1.sets c.next_level.ensures.sets

pub next_level-requires-clause-last : goal.next_level-requires-clause-last
next_level-requires-clause-last g c =
    let h = c.loop-st.invariant.going.0 in
    let go = c.loop-st.invariant.going.1 in
    let at = last_is c.loop-st.all h c.len-last.result c.at-in-loop-st.result.now go.count c.len-last.ensures c.at-in-loop-st.ensures in
    subst (ArePairs c.any_violation.new.st c.loop-st.ss (length c.args.states.now)) at
    (pairs_on c.loop-st.st c.any_violation.new.st c.loop-st.ss c.loop-st.ss (length c.args.states.now) (get_or c.loop-st.all h []) c.any_violation.ensures.grows (sets_refl c.loop-st.ss) (go.pairs h (omega arith)))

pub returns-then-len-eq0-clause-ok : goal.returns-then-len-eq0-clause-ok
returns-then-len-eq0-clause-ok g c =
    let h = c.loop-st.invariant.going.0 in
    let go = c.loop-st.invariant.going.1 in
    let at = last_is c.loop-st.all h c.len-last.result c.at.result.now go.count c.len-last.ensures c.at.ensures in
    let again = last_is c.loop-st.all h c.len-last.result c.at-in-loop-st.result.now go.count c.len-last.ensures c.at-in-loop-st.ensures in
    let now = g.G.Goal.violations_of c.loop-st.g c.loop-st.st in
    round_last c.args.st.now c.args.ss.now c.loop-st.st c.any_violation.new.st c.next_level.new.st c.loop-st.ss c.next_level.new.ss c.args.states.now c.args.s c.args.start (g.G.Goal.violations_of c.args.g.now c.args.st.now) now
    c.loop-st.visited c.at.result.now c.at-in-loop-st.result.now c.loop-st.all c.in_ok-level.level h
    c.requires.set c.requires.states go c.any_violation.ensures.grows
    (λ n p. c.loop-st.invariant.same c.loop-st.st n.0 n.1 ∙ g.met.G.Goal.violations_grow c.args.g.now c.args.st.now c.loop-st.st n.0 n.1 c.requires.fits go.grows (λ j d m. omega (arith, p j d m, c.requires.labels)))
    at (c.in_ok-any_violation.ensures.no c.if-branch.false) again c.in_ok-level.ensures.ok c.next_level.ensures.grows c.next_level.ensures.sets (sym c.len.ensures ∙ c.if-len-eq0.true)

pub add_level-requires-clause-visited : goal.add_level-requires-clause-visited
add_level-requires-clause-visited g c =
    let a = pairs_on c.loop-st.st c.any_violation.new.st c.loop-st.ss c.loop-st.ss (length c.args.states.now) c.loop-st.visited c.any_violation.ensures.grows (sets_refl c.loop-st.ss) c.loop-st.invariant.going.1.visited_pairs in
    let b = pairs_on c.any_violation.new.st c.next_level.new.st c.loop-st.ss c.next_level.new.ss (length c.args.states.now) c.loop-st.visited c.next_level.ensures.grows c.next_level.ensures.sets a in
    packets_of c.next_level.new.st c.next_level.new.ss (length c.args.states.now) c.loop-st.visited b.each

pub add_level-requires-clause-level : goal.add_level-requires-clause-level
add_level-requires-clause-level g c = packets_of c.next_level.new.st c.next_level.new.ss (length c.args.states.now) c.in_ok-level.level c.in_ok-level.ensures.ok.pairs.each

pub loop-st-smaller : goal.loop-st-smaller
loop-st-smaller g c =
    let h = c.loop-st.invariant.going.0 in
    let go = c.loop-st.invariant.going.1 in
    let at = last_is c.loop-st.all h c.len-last.result c.at.result.now go.count c.len-last.ensures c.at.ensures in
    let again = last_is c.loop-st.all h c.len-last.result c.at-in-loop-st.result.now go.count c.len-last.ensures c.at-in-loop-st.ensures in
    let now = g.G.Goal.violations_of c.loop-st.g c.loop-st.st in
    let some : 0 < length c.in_ok-level.level = omega (arith, c.len.ensures, c.if-len-eq0.false) in
    let done = round_done c.args.st.now c.args.ss.now c.loop-st.st c.any_violation.new.st c.next_level.new.st c.add_level.new.st c.loop-st.ss c.next_level.new.ss c.args.states.now c.args.s c.args.start (g.G.Goal.violations_of c.args.g.now c.args.st.now) now
    c.loop-st.visited c.add_level.new.self c.at.result.now c.at-in-loop-st.result.now c.loop-st.all c.in_ok-level.level h
    c.requires.states go c.any_violation.ensures.grows
    (λ n p. c.loop-st.invariant.same c.loop-st.st n.0 n.1 ∙ g.met.G.Goal.violations_grow c.args.g.now c.args.st.now c.loop-st.st n.0 n.1 c.requires.fits go.grows (λ j d m. omega (arith, p j d m, c.requires.labels)))
    at (c.in_ok-any_violation.ensures.no c.if-branch.false) again c.in_ok-level.ensures.ok c.next_level.ensures.grows c.next_level.ensures.sets c.in_ok-add_level.ensures.ok c.add_level.ensures.grows some in
    let within = room c.args.st.now c.args.ss.now c.add_level.new.st c.next_level.new.ss c.args.states.now c.args.s c.args.start (g.G.Goal.violations_of c.args.g.now c.args.st.now) c.add_level.new.self (c.loop-st.all ++ c.in_ok-level.level ∷ []) (h + 1) done in
    falls (length (all_nodes c.args.st.now.maxes (length c.args.states.now))) h (length c.loop-st.all) (length c.push-in-loop-st.new.self) go.count
    (ap (λ ls. length ls) c.in_ok-push-2.ensures.ok ∙ length-append c.loop-st.all (c.in_ok-level.level ∷ [])) within

pub loop-st-preserved : goal.loop-st-preserved
loop-st-preserved g c =
    let h = c.loop-st.invariant.going.0 in
    let go = c.loop-st.invariant.going.1 in
    let at = last_is c.loop-st.all h c.len-last.result c.at.result.now go.count c.len-last.ensures c.at.ensures in
    let again = last_is c.loop-st.all h c.len-last.result c.at-in-loop-st.result.now go.count c.len-last.ensures c.at-in-loop-st.ensures in
    let bad = g.G.Goal.violations_of c.args.g.now c.args.st.now in
    let now = g.G.Goal.violations_of c.loop-st.g c.loop-st.st in
    let some : 0 < length c.in_ok-level.level = omega (arith, c.len.ensures, c.if-len-eq0.false) in
    let done = round_done c.args.st.now c.args.ss.now c.loop-st.st c.any_violation.new.st c.next_level.new.st c.add_level.new.st c.loop-st.ss c.next_level.new.ss c.args.states.now c.args.s c.args.start bad now
    c.loop-st.visited c.add_level.new.self c.at.result.now c.at-in-loop-st.result.now c.loop-st.all c.in_ok-level.level h
    c.requires.states go c.any_violation.ensures.grows
    (λ n p. c.loop-st.invariant.same c.loop-st.st n.0 n.1 ∙ g.met.G.Goal.violations_grow c.args.g.now c.args.st.now c.loop-st.st n.0 n.1 c.requires.fits go.grows (λ j d m. omega (arith, p j d m, c.requires.labels)))
    at (c.in_ok-any_violation.ensures.no c.if-branch.false) again c.in_ok-level.ensures.ok c.next_level.ensures.grows c.next_level.ensures.sets c.in_ok-add_level.ensures.ok c.add_level.ensures.grows some in
    record {
      fits = g.met.G.Goal.fits_on c.any_violation.new.g c.any_violation.new.st c.add_level.new.st c.in_ok-any_violation.ensures.fits (grows_on _ _ _ c.next_level.ensures.grows c.add_level.ensures.grows);
      labels = c.in_ok-any_violation.ensures.labels ∙ c.loop-st.invariant.labels;
      same = λ st set pk. c.in_ok-any_violation.ensures.same st set pk ∙ c.loop-st.invariant.same st set pk;
      going = (h + 1, subst (λ ls. Going c.args.st.now c.args.ss.now c.add_level.new.st c.next_level.new.ss c.args.states.now c.args.s c.args.start bad c.add_level.new.self ls (h + 1)) (sym c.in_ok-push-2.ensures.ok) done);
    }

pub returns-then-branch-clause-grows : goal.returns-then-branch-clause-grows
returns-then-branch-clause-grows g c = grows_on _ _ _ c.loop-st.invariant.going.1.grows c.any_violation.ensures.grows

pub returns-then-len-eq0-clause-grows : goal.returns-then-len-eq0-clause-grows
returns-then-len-eq0-clause-grows g c =
    grows_on _ _ _ (grows_on _ _ _ c.loop-st.invariant.going.1.grows c.any_violation.ensures.grows) c.next_level.ensures.grows

pub returns-in_err-add_level-clause-grows : goal.returns-in_err-add_level-clause-grows
returns-in_err-add_level-clause-grows g c =
    grows_on _ _ _ (grows_on _ _ _ (grows_on _ _ _ c.loop-st.invariant.going.1.grows c.any_violation.ensures.grows) c.next_level.ensures.grows)
    c.add_level.ensures.grows

pub returns-in_err-push-2-clause-grows : goal.returns-in_err-push-2-clause-grows
returns-in_err-push-2-clause-grows g c =
    grows_on _ _ _ (grows_on _ _ _ (grows_on _ _ _ c.loop-st.invariant.going.1.grows c.any_violation.ensures.grows) c.next_level.ensures.grows)
    c.add_level.ensures.grows
