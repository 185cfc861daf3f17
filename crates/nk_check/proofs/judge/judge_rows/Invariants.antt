use Rattle.std.proofs.Common.{◌≡◌, ℕ, List}
use Rattle.nk_store.specs.StoreState.{StoreState, Grows}
use Rattle.nk_determ.specs.Sets.{SetsGrow}
use Rattle.nk_reach.specs.Sides.{alone, ends_of}
use Rattle.nk_cert.specs.Values.{row_values}
use Rattle.nk_check.specs.Judged.{CanJudge, AreMet}
use Rattle.nk_check.proofs.judge.judge_rows.Given as goal

-- the later rows so far meet all parts
abbrev pub invariant-loop-i : goal.invariant-loop-i
invariant-loop-i l = record {
  grows : Grows l.fn.st l.st;
  sets : SetsGrow l.fn.ss l.ss;
  can : CanJudge l.st l.ss l.judge.states l.judge.told l.goal.ends l.goal.seen.entries;
  same : (st : StoreState) (set pk : List ℕ) → alone (ends_of st l.goal.ends set pk) ≡ alone (ends_of st l.fn.goal.ends set pk);
  met : AreMet l.fn.st l.fn.ss l.judge.states (λ set pk. alone (ends_of l.fn.st l.fn.goal.ends set pk)) l.judge.told (row_values l.later) l.judge.entries l.i;
}
