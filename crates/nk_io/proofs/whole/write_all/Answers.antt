use Rattle.std.proofs.Common.{arith, rules, ℕ}
use Rattle.std.proofs.lemmas.List.{take_rest, length-drop}
use Rattle.nk_io.proofs.Pieces.{Appends-two}
use Rattle.nk_io.proofs.whole.write_all.Goals as goal

pub rest-preserved : goal.rest-preserved
rest-preserved g c =
    let h = simp (take_rest {X = ℕ}, length-drop) at c.in-Ok.ensures.bytes.most in record {
      within = omega arith;
      taken = Appends-two _ _ _ _ _ _ c.rest.invariant.taken
          (simp (take_rest {X = ℕ}) at c.in-Ok.ensures.bytes.bytes);
      same = search rules;
    }
