use Rattle.std.proofs.Common.{◌≡◌, ◌<◌, ◌+◌, ◌-◌, ℕ, suc, List, [], ◌∷◌, ◌++◌, length, length-append, get_or, refl, sym, ◌∙◌, subst, ap, arith}
use Rattle.nk_store.proofs.Stores.{grows_on}
use Rattle.nk_determ.proofs.Interned.{sets_on}
use Rattle.nk_determ.specs.Pairs.{ArePairs}
use Rattle.nk_goal.proofs.Growing.{sets_refl, states_grow, pairs_on, pairs_more}
use Rattle.nk_witness.specs.Finds.{first_set, first_packets}
use Rattle.nk_witness.specs.Backs.{AreBacks}
use Rattle.nk_witness.proofs.Backing.{level_at, backs_start, backs_round}
use Rattle.nk_witness.proofs.least.backs_of.Goals as goal

-- the last place
last_below : (n k m : ℕ) → 0 < m → n ≡ m → k ≡ n - 1 → k < m
last_below n k m some e is = omega (arith, some, e, is)

pub violation_level-requires-clause-pairs : goal.violation_level-requires-clause-pairs
violation_level-requires-clause-pairs g c =
    let some = c.requires.levels.some in
    let h : ℕ = c.len-last.result - 1 in
    let l : h < length c.args.l.now.levels = last_below c.len-last.result h (length c.args.l.now.levels) some c.len-last.ensures refl in
    pairs_more c.args.st.now c.args.ss.now (length c.args.states.now) (g.G.Goal.labels c.args.g.now) c.at-level.result.now c.requires.labels
    (subst (ArePairs c.args.st.now c.args.ss.now (length c.args.states.now)) (level_at c.args.l.now.levels h c.at-level.result.now c.at-level.ensures l) (c.requires.levels.pairs h l))

pub loop-k-init : goal.loop-k-init
loop-k-init g c =
    let some = c.requires.levels.some in
    let h : ℕ = c.len-last.result - 1 in
    let l : h < length c.args.l.now.levels = last_below c.len-last.result h (length c.args.l.now.levels) some c.len-last.ensures refl in
    let at : get_or c.args.l.now.levels h [] ≡ c.at-level.result.now = level_at c.args.l.now.levels h c.at-level.result.now c.at-level.ensures l in
    let e : h ≡ length c.args.l.now.levels - 1 = ap (λ n. n - 1) c.len-last.ensures in
    let is : c.push.new.self ≡ c.in_ok-first.first ∷ [] = c.in_ok-push.ensures.ok ∙ ap (λ (v : List (List (ℕ × ℕ))). v ++ c.in_ok-first.first ∷ []) c.new-backs.ensures in
    record {
      grows = c.violation_level.ensures.grows;
      sets = sets_refl c.args.ss.now;
      fits = c.in_ok-first.ensures.fits;
      count = ap (λ (v : List (List (ℕ × ℕ))). length v) is;
      backs = subst (λ n. AreBacks c.args.st.now c.violation_level.new.st c.args.ss.now c.args.ss.now c.args.states.now (g.G.Goal.violations_of c.args.g.now c.args.st.now) c.args.l.now.levels n 1 c.push.new.self) e
          (backs_start c.args.st.now c.violation_level.new.st c.args.ss.now c.args.states.now (g.G.Goal.violations_of c.args.g.now c.args.st.now) c.args.l.now.levels h c.at-level.result.now c.in_ok-first.first c.push.new.self is at c.in_ok-first.ensures.ok
          (subst (ArePairs c.args.st.now c.args.ss.now (length c.args.states.now)) at (c.requires.levels.pairs h l)) c.violation_level.ensures.grows);
    }

pub preimage_in_level-requires-clause-states : goal.preimage_in_level-requires-clause-states
preimage_in_level-requires-clause-states g c = states_grow c.args.st.now c.loop-k.st c.args.states.now c.loop-k.invariant.grows c.requires.states

pub preimage_in_level-requires-clause-level : goal.preimage_in_level-requires-clause-level
preimage_in_level-requires-clause-level g c =
    let i : ℕ = c.len-last.result - 1 - 1 - c.loop-k.k in
    let some = c.requires.levels.some in
    let li : i < length c.args.l.now.levels = omega (arith, some, c.len-last.ensures, c.loop-k-test.true) in
    subst (ArePairs c.loop-k.st c.loop-k.ss (length c.args.states.now)) (level_at c.args.l.now.levels i c.at-before.result.now c.at-before.ensures li)
    (pairs_on c.args.st.now c.loop-k.st c.args.ss.now c.loop-k.ss (length c.args.states.now) (get_or c.args.l.now.levels i []) c.loop-k.invariant.grows c.loop-k.invariant.sets (c.requires.levels.pairs i li))

pub returns-in_err-push-2-clause-sets : goal.returns-in_err-push-2-clause-sets
returns-in_err-push-2-clause-sets g c = sets_on c.args.ss.now c.loop-k.ss c.preimage_in_level.new.ss c.loop-k.invariant.sets c.preimage_in_level.ensures.sets

pub loop-k-preserved : goal.loop-k-preserved
loop-k-preserved g c =
    let n : ℕ = c.len-last.result in
    let i : ℕ = n - 1 - 1 - c.loop-k.k in
    let some = c.requires.levels.some in
    let li : i < length c.args.l.now.levels = omega (arith, some, c.len-last.ensures, c.loop-k-test.true) in
    let e : suc i + c.loop-k.k ≡ length c.args.l.now.levels - 1 = omega (arith, some, c.len-last.ensures, c.loop-k-test.true) in
    let count : length c.args.l.now.levels ≡ length c.args.l.now.levels - 1 + 1 = omega (arith, some) in
    let lk : c.loop-k.k < length c.loop-k.backs = let q = c.loop-k.invariant.count in omega (arith, q) in
    let pushed : c.push-in-loop-k.new.self ≡ c.loop-k.backs ++ c.in_ok-back.back ∷ [] = c.in_ok-push-2.ensures.ok in
    record {
      grows = grows_on _ _ _ c.loop-k.invariant.grows c.preimage_in_level.ensures.grows;
      sets = sets_on c.args.ss.now c.loop-k.ss c.preimage_in_level.new.ss c.loop-k.invariant.sets c.preimage_in_level.ensures.sets;
      fits = g.met.G.Goal.fits_on c.violation_level.new.g c.loop-k.st c.preimage_in_level.new.st c.loop-k.invariant.fits c.preimage_in_level.ensures.grows;
      count = let q = c.loop-k.invariant.count in let len : length c.push-in-loop-k.new.self ≡ length (c.loop-k.backs ++ c.in_ok-back.back ∷ []) = ap (λ (v : List (List (ℕ × ℕ))). length v) pushed in omega (arith, q, len, length-append c.loop-k.backs (c.in_ok-back.back ∷ []));
      backs = subst (λ (v : List (List (ℕ × ℕ))). AreBacks c.args.st.now c.preimage_in_level.new.st c.args.ss.now c.preimage_in_level.new.ss c.args.states.now (g.G.Goal.violations_of c.args.g.now c.args.st.now) c.args.l.now.levels (length c.args.l.now.levels - 1) (c.loop-k.k + 1 + 1) v) (sym pushed)
          (backs_round c.args.st.now c.loop-k.st c.preimage_in_level.new.st c.args.ss.now c.loop-k.ss c.preimage_in_level.new.ss c.args.states.now (first_set c.args.l.now.levels) (first_packets c.args.l.now.levels) (g.G.Goal.violations_of c.args.g.now c.args.st.now) c.args.l.now.levels c.args.l.now.broken
          (length c.args.l.now.levels - 1) c.loop-k.k i c.at-before.result.now c.at-next.result.now c.in_ok-back.back c.loop-k.backs c.requires.states c.requires.levels count e c.loop-k.invariant.grows c.loop-k.invariant.sets c.preimage_in_level.ensures.grows c.preimage_in_level.ensures.sets
          c.loop-k.invariant.count c.loop-k.invariant.backs (level_at c.loop-k.backs c.loop-k.k c.at-next.result.now c.at-next.ensures lk) (level_at c.args.l.now.levels i c.at-before.result.now c.at-before.ensures li) c.in_ok-back.ensures.ok);
    }
