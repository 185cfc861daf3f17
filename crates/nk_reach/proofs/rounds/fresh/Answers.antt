use Rattle.std.proofs.Common.{◌≡◌, ℕ, ◌<◌, ◌∷◌, [], ◌++◌, ◌∙◌, length, take, sym, subst, arith}
use Rattle.nk_store.proofs.Stores.{grows_on}
use Rattle.nk_sets.specs.PacketSets.{IsSet}
use Rattle.nk_reach.specs.Rounds.{IsFresh}
use Rattle.nk_goal.proofs.Places.{each_at}
use Rattle.nk_sets.proofs.SetLemmas.{set_grows}
use Rattle.nk_goal.proofs.Growing.{each_weaker}
use Rattle.nk_goal.proofs.Adding.{take_more, once_before}
use Rattle.nk_reach.proofs.Fresh.{fresh_push, fresh_skip}
use Rattle.nk_reach.proofs.rounds.fresh.Goals.{then-not-is_empty+in_ok-push, else-not-is_empty}
use Rattle.nk_reach.proofs.rounds.fresh.Goals as goal

pub unvisited-requires-clause-visited : goal.unvisited-requires-clause-visited
unvisited-requires-clause-visited c = each_weaker (λ p. IsSet c.args.st.now p.1) (λ p. IsSet c.loop-k.st p.1) c.args.visited.now (λ p q. set_grows c.args.st.now c.loop-k.st p.1 c.loop-k.invariant.grows q) c.requires.visited

pub unvisited-requires-clause-packets : goal.unvisited-requires-clause-packets
unvisited-requires-clause-packets c =
    let l : c.loop-k.k < length c.args.raw.now = omega (arith, c.loop-k-test.true, c.len-k-end.ensures) in
    set_grows c.args.st.now c.loop-k.st c.at.result.now.1 c.loop-k.invariant.grows (each_at (λ p. IsSet c.args.st.now p.1) c.args.raw.now c.loop-k.k c.at.result.now c.requires.raw l c.at.ensures)

pub loop-k-preserved : goal.loop-k-preserved
loop-k-preserved c =
    let l : c.loop-k.k < length c.args.raw.now = omega (arith, c.loop-k-test.true, c.len-k-end.ensures) in
    let p : ℕ × ℕ = c.at.result.now in
    let was = each_at (λ p. IsSet c.args.st.now p.1) c.args.raw.now c.loop-k.k c.at.result.now c.requires.raw l c.at.ensures in
    record {
      grows = grows_on _ _ _ c.loop-k.invariant.grows c.unvisited.ensures.grows;
      made = subst (λ q. IsFresh c.args.st.now c.args.visited.now q c.unvisited.new.st c.if-not-is_empty.level) (sym (take_more c.args.raw.now c.loop-k.k c.at.result.now l c.at.ensures))
          (elim c.if-not-is_empty.branch [
            | then-not-is_empty+in_ok-push w ↦
                let e : c.if-not-is_empty.level ≡ c.loop-k.level ++ (c.at.result.now.0, c.in_ok-rest.rest) ∷ [] = w.level-is ∙ w.in_ok-push.ensures.ok in
                subst (IsFresh c.args.st.now c.args.visited.now (take c.loop-k.k c.args.raw.now ++ c.at.result.now ∷ []) c.unvisited.new.st) (sym e)
                (fresh_push c.args.st.now c.loop-k.st c.unvisited.new.st c.args.visited.now (take c.loop-k.k c.args.raw.now) c.loop-k.level c.at.result.now c.in_ok-rest.rest c.requires.visited c.loop-k.invariant.made c.loop-k.invariant.grows was c.unvisited.ensures.grows
                c.in_ok-rest.ensures.ok (c.is_empty.ensures.no (let t = w.if-not-is_empty.true in grind arith)) (once_before c.args.raw.now c.loop-k.k c.at.result.now c.requires.apart l c.at.ensures))
            | else-not-is_empty w ↦
                subst (IsFresh c.args.st.now c.args.visited.now (take c.loop-k.k c.args.raw.now ++ c.at.result.now ∷ []) c.unvisited.new.st) (sym w.level-is)
                (fresh_skip c.args.st.now c.loop-k.st c.unvisited.new.st c.args.visited.now (take c.loop-k.k c.args.raw.now) c.loop-k.level c.at.result.now c.in_ok-rest.rest c.requires.visited c.loop-k.invariant.made c.loop-k.invariant.grows was c.unvisited.ensures.grows
                c.in_ok-rest.ensures.ok (c.is_empty.ensures.yes (let t = w.if-not-is_empty.false in grind arith)))
          ]);
    }
