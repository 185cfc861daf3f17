use Rattle.std.proofs.Common.{ℕ, ◌<◌, ◌≤◌, get_or, take}
use Rattle.nk_store.specs.StoreState.{root_field}
use Rattle.nk_apply.specs.Unions.{outs_in_turn}
use Rattle.nk_steps.specs.ByAct.{AreActsOf}
use Rattle.nk_steps.proofs.by_act.acts_of.Given as goal

-- the diagrams so far are leaves, and the acts are theirs
abbrev pub invariant-loop-d : goal.invariant-loop-d
invariant-loop-d l = record {
  leaves : (k : ℕ) → k < l.d-index → 18 ≤ root_field l.st (get_or l.diagrams k 0);
  acts : AreActsOf (outs_in_turn l.st (take l.d-index l.diagrams)) l.acts;
}
