-- What holds between two rounds of the levels, and that a round keeps it.
use Rattle.std.proofs.Common.{◌≡◌, ℕ, suc, zero, ◌<◌, ◌≤◌, ◌+◌, refl, subst, arith, List, [], ◌∷◌, ◌++◌, length, get_or}
use Rattle.nk_store.specs.declared.node.Out.{Out}
use Rattle.nk_store.specs.StoreState.{StoreState, Grows}
use Rattle.nk_store.proofs.Stores.{grows_on}
use Rattle.nk_apply.proofs.Members.{Has as Among}
use Rattle.nk_determ.specs.Sets.{SetsGrow}
use Rattle.nk_determ.proofs.Interned.{sets_on}
use Rattle.nk_determ.specs.Reach.{Exact}
use Rattle.nk_determ.specs.Pairs.{Node, Within, ArePairs, IsStart, IsStep, IsGood}
use Rattle.nk_determ.specs.Levels.{InLevel, IsLaterLevel, IsViolation}
use Rattle.nk_goal.proofs.Pigeons.{NoDup, at_most}
use Rattle.nk_goal.proofs.Growing.{packets_of, pairs_on, within_on, within_back, filled_on}
use Rattle.nk_goal.proofs.Everything.{all_nodes}

-- what holds between two rounds, with the levels up to h
pub record Going (old : StoreState) (oss : List (List ℕ)) (st : StoreState) (ss : List (List ℕ)) (states : List ℕ) (set start : ℕ) (bad : List ℕ → List ℕ → List Out) (visited : List (ℕ × ℕ)) (ls : List (List (ℕ × ℕ))) (h : ℕ) : Type 0 where
  pub grows : Grows old st
  pub sets : SetsGrow oss ss
  pub count : length ls ≡ h + 1
  pub exact : Exact (IsStart old (get_or oss set []) start) (IsStep old states) (IsGood old) (InLevel st ss ls) (h + 1)
  pub start_is : get_or ls 0 [] ≡ (set, start) ∷ []
  pub pairs : (i : ℕ) → i < h + 1 → ArePairs st ss (length states) (get_or ls i [])
  pub shape : (i : ℕ) → 1 ≤ i → i < h + 1 → IsLaterLevel st (get_or ls i [])
  pub goal : (i : ℕ) (n : Node) → i < h → IsGood old n → InLevel st ss ls i n → IsViolation bad n → ⊥
  pub visited_pairs : ArePairs st ss (length states) visited
  pub visited_in : (n : Node) → IsGood old n → Within st ss visited n → (j : ℕ) × (j < h + 1) × InLevel st ss ls j n
  pub in_visited : (j : ℕ) (n : Node) → IsGood old n → j < h + 1 → InLevel st ss ls j n → Within st ss visited n
  pub seen : List Node
  pub seen_count : length seen ≡ h
  pub seen_no_dup : NoDup seen
  pub seen_in : (n : Node) → Among seen n → IsGood old n × ((j : ℕ) × (j < h + 1) × InLevel st ss ls j n)
  pub seen_all : (n : Node) → Among seen n → Among (all_nodes old.maxes (length states)) n

-- a further level leaves the ones before it
pub level_old : (ls : List (List (ℕ × ℕ))) (l : List (ℕ × ℕ)) (i : ℕ) → i < length ls → get_or (ls ++ l ∷ []) i [] ≡ get_or ls i []
level_old [] l i h = absurd (omega (arith, h))
level_old (k ∷ ks) l zero h = refl
level_old (k ∷ ks) l (suc i) h = level_old ks l i (omega (arith, h))

-- the further level stands last
pub level_new : (ls : List (List (ℕ × ℕ))) (l : List (ℕ × ℕ)) (i : ℕ) → length ls ≡ i → get_or (ls ++ l ∷ []) i [] ≡ l
level_new [] l i e = subst (λ j. get_or (l ∷ []) j [] ≡ l) e refl
level_new (k ∷ ks) l zero e = absurd (omega (arith, e))
level_new (k ∷ ks) l (suc i) e = level_new ks l i (omega (arith, e))

-- a level more never adds more than there are sets at packets
pub room : (old : StoreState) (oss : List (List ℕ)) (st : StoreState) (ss : List (List ℕ)) (states : List ℕ) (set start : ℕ) (bad : List ℕ → List ℕ → List Out) (visited : List (ℕ × ℕ)) (ls : List (List (ℕ × ℕ))) (h : ℕ) → Going old oss st ss states set start bad visited ls h → h ≤ length (all_nodes old.maxes (length states))
room old oss st ss states set start bad visited ls h g =
    let l : length g.seen ≤ length (all_nodes old.maxes (length states)) = at_most g.seen (all_nodes old.maxes (length states)) g.seen_no_dup g.seen_all in
    omega (arith, l, g.seen_count)

-- a level over a store that has grown
pub level_on : (old : StoreState) (oss : List (List ℕ)) (st new : StoreState) (ss nss : List (List ℕ)) (states : List ℕ) (set start : ℕ) (bad : List ℕ → List ℕ → List Out) (visited : List (ℕ × ℕ)) (ls : List (List (ℕ × ℕ))) (h i : ℕ) (n : Node) → Going old oss st ss states set start bad visited ls h → Grows st new → SetsGrow ss nss → i < h + 1 → InLevel st ss ls i n → InLevel new nss ls i n
level_on old oss st new ss nss states set start bad visited ls h i n go g s l v = within_on st new ss nss (length states) (get_or ls i []) n g s (go.pairs i l) v

-- a level of the grown store, read in the old one
pub level_back : (old : StoreState) (oss : List (List ℕ)) (st new : StoreState) (ss nss : List (List ℕ)) (states : List ℕ) (set start : ℕ) (bad : List ℕ → List ℕ → List Out) (visited : List (ℕ × ℕ)) (ls : List (List (ℕ × ℕ))) (h i : ℕ) (n : Node) → Going old oss st ss states set start bad visited ls h → Grows st new → SetsGrow ss nss → i < h + 1 → InLevel new nss ls i n → InLevel st ss ls i n
level_back old oss st new ss nss states set start bad visited ls h i n go g s l v = within_back st new ss nss (length states) (get_or ls i []) n g s (go.pairs i l) v

-- levels that have the same nodes are as exact
pub exact_same : {N : Type 0} (Start : N → Type 0) (Step : N → N → Type 0) (Good : N → Type 0) (Lev New : ℕ → N → Type 0) (k : ℕ) → ((i : ℕ) (n : N) → i < k → New i n → Lev i n) → ((i : ℕ) (n : N) → i < k → Lev i n → New i n) → Exact Start Step Good Lev k → Exact Start Step Good New k
exact_same Start Step Good Lev New k back on e = record {
  sound = λ i n l g v. e.sound i n l g (back i n l v);
  first = λ i j n l g v. e.first i j n l g (back i n l v);
  full = λ i n l r none. on i n l (e.full i n l r none);
}

-- the round's store grows alone
pub going_on : (old : StoreState) (oss : List (List ℕ)) (st new : StoreState) (ss nss : List (List ℕ)) (states : List ℕ) (set start : ℕ) (bad : List ℕ → List ℕ → List Out) (visited : List (ℕ × ℕ)) (ls : List (List (ℕ × ℕ))) (h : ℕ) → Grows st new → SetsGrow ss nss → Going old oss st ss states set start bad visited ls h → Going old oss new nss states set start bad visited ls h
going_on old oss st new ss nss states set start bad visited ls h g s go =
    let on : (i : ℕ) (n : Node) → i < h + 1 → InLevel st ss ls i n → InLevel new nss ls i n = λ i n l v. level_on old oss st new ss nss states set start bad visited ls h i n go g s l v in
    let back : (i : ℕ) (n : Node) → i < h + 1 → InLevel new nss ls i n → InLevel st ss ls i n = λ i n l v. level_back old oss st new ss nss states set start bad visited ls h i n go g s l v in
    record {
      grows = grows_on old st new go.grows g;
      sets = sets_on oss ss nss go.sets s;
      count = go.count;
      exact = exact_same (IsStart old (get_or oss set []) start) (IsStep old states) (IsGood old) (InLevel st ss ls) (InLevel new nss ls) (h + 1) back on go.exact;
      start_is = go.start_is;
      pairs = λ i l. pairs_on st new ss nss (length states) (get_or ls i []) g s (go.pairs i l);
      shape = λ i a l. record {
        some = (go.shape i a l).some;
        filled = filled_on st new (get_or ls i []) g (packets_of st ss (length states) (get_or ls i []) (go.pairs i l).each) (go.shape i a l).filled;
      };
      goal = λ i n l p v. go.goal i n l p (back i n (omega (arith, l)) v);
      visited_pairs = pairs_on st new ss nss (length states) visited g s go.visited_pairs;
      visited_in = λ n p w. let q = go.visited_in n p (within_back st new ss nss (length states) visited n g s go.visited_pairs w) in (q.0, q.1, on q.0 n q.1 q.2);
      in_visited = λ j n p l v. within_on st new ss nss (length states) visited n g s go.visited_pairs (go.in_visited j n p l (back j n l v));
      seen = go.seen;
      seen_count = go.seen_count;
      seen_no_dup = go.seen_no_dup;
      seen_in = λ n m. let q = go.seen_in n m in (q.0, (q.1.0, q.1.1, on q.1.0 n q.1.1 q.1.2));
      seen_all = go.seen_all;
    }
