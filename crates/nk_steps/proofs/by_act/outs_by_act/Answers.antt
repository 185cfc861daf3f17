use Rattle.std.proofs.Common.{[], ◌∷◌, ◌++◌, sym, subst}
use Rattle.nk_apply.specs.Unions.{outs_in_turn}
use Rattle.nk_steps.specs.ByAct.{AreOutsByAct}
use Rattle.nk_determ.proofs.Interned.{sets_on}
use Rattle.nk_steps.proofs.ByActs.{outs_more}
use Rattle.nk_steps.proofs.by_act.outs_by_act.Goals as goal

pub loop-act-preserved : goal.loop-act-preserved
loop-act-preserved c =
    let all = outs_in_turn c.args.st.now c.args.diagrams.now in
    record {
      sets = sets_on _ _ _ c.loop-act.invariant.sets c.target_of.ensures.grows;
      outs = subst (λ os. AreOutsByAct c.target_of.new.ss all (c.loop-act.yielded ++ c.in-Some.act ∷ []) os) (sym c.in_ok-push.ensures.ok)
          (outs_more c.loop-act.ss c.target_of.new.ss all c.loop-act.yielded c.loop-act.outs c.in-Some.act c.in_ok-target.target c.target_of.ensures.grows c.loop-act.invariant.outs c.in_ok-target.ensures.is);
    }
