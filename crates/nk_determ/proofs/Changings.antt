-- Diagrams without the assignments to a field that don't change the packet.
use Rattle.std.proofs.Common.{ℕ, min, [], sym, arith, get_or}
use Rattle.nk_store.specs.StoreState.{StoreState, IsId, look, HasLeaves, AreTidy}
use Rattle.nk_determ.specs.Unchanged.{leaf_changing, HasValues}
use Rattle.nk_determ.proofs.Withouts.{leaf_stays}

-- a diagram of which no act assigns the field stays
pub none_assigned : (st : StoreState) (f d : ℕ) → IsId st d → AreTidy st → HasValues f [] st d →
    HasLeaves st d (λ pk. leaf_changing st.maxes f pk (look st d pk))
none_assigned st f d i tidy none = record {
  id = i;
  leaf = λ pk w.
      sym (leaf_stays f (min (get_or pk f 0) (get_or st.maxes f 0)) (look st d pk) ((tidy d).sorted pk)
      (λ k. let r = none pk (min (get_or pk f 0) (get_or st.maxes f 0)) k in omega (arith, r.1)));
}
