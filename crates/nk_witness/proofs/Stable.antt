-- Levels stay levels as the store and the sets grow.
use Rattle.std.proofs.Common.{◌≡◌, ℕ, ◌<◌, ◌-◌, sym, subst, arith, Bool, List, [], length, get_or}
use Rattle.nk_store.specs.declared.node.Out.{Out}
use Rattle.nk_store.specs.StoreState.{StoreState, Grows}
use Rattle.nk_determ.specs.Sets.{SetsGrow}
use Rattle.nk_determ.specs.Reach.{Exact}
use Rattle.nk_determ.specs.Pairs.{Node, ArePairs, IsStart, IsStep, IsGood}
use Rattle.nk_determ.specs.Levels.{At, InLevel, AreLevels}
use Rattle.nk_goal.proofs.Growing.{sets_same, packets_of, pairs_on, within_on, within_back, filled_on}
use Rattle.nk_goal.proofs.Going.{exact_same}

-- levels in a store and among sets are levels in a store and among sets that have grown from these
pub levels_on : (old st new : StoreState) (ss nss : List (List ℕ)) (states : List ℕ) (set start : ℕ) (bad : List ℕ → List ℕ → List Out) (ls : List (List (ℕ × ℕ))) (broken : Bool) → Grows st new → SetsGrow ss nss → AreLevels old st ss states set start bad ls broken → AreLevels old new nss states set start bad ls broken
levels_on old st new ss nss states set start bad ls broken g s k =
    let r = length states in
    let known : set < length ss = (subst (ArePairs st ss r) k.start_is (k.pairs 0 k.some)).each.0.known in
    let m : get_or nss set [] ≡ get_or ss set [] = sets_same ss nss set s known in
    let on : (i : ℕ) (n : Node) → i < length ls → InLevel st ss ls i n → InLevel new nss ls i n = λ i n l v. within_on st new ss nss r (get_or ls i []) n g s (k.pairs i l) v in
    let back : (i : ℕ) (n : Node) → i < length ls → InLevel new nss ls i n → InLevel st ss ls i n = λ i n l v. within_back st new ss nss r (get_or ls i []) n g s (k.pairs i l) v in
    let some = k.some in
    let last : length ls - 1 < length ls = omega (arith, some) in
    record {
      exact = subst (λ v. Exact (IsStart old v start) (IsStep old states) (IsGood old) (InLevel new nss ls) (length ls)) (sym m)
          (exact_same (IsStart old (get_or ss set []) start) (IsStep old states) (IsGood old) (InLevel st ss ls) (InLevel new nss ls) (length ls) back on k.exact);
      some = k.some;
      start_is = k.start_is;
      pairs = λ i l. pairs_on st new ss nss r (get_or ls i []) g s (k.pairs i l);
      shape = λ i a l. record {
        some = (k.shape i a l).some;
        filled = filled_on st new (get_or ls i []) g (packets_of st ss r (get_or ls i []) (k.pairs i l).each) (k.shape i a l).filled;
      };
      goal = λ i n l p v. k.goal i n l p (back i n (omega (arith, l)) v);
      broken_at = λ e. let w = k.broken_at e in (w.0, w.1, on (length ls - 1) w.0 last w.2, w.3);
      not_broken = λ e n p v. k.not_broken e n p (back (length ls - 1) n last v);
      complete = λ e i n a.
          let w = k.complete e i n (subst (λ v. At old states v start i n) m a) in
          (w.0, w.1, w.2, on w.0 n w.2 w.3);
    }
