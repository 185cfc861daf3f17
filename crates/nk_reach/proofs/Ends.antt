-- How the levels end.
use Rattle.std.proofs.Common.{◌≡◌, ℕ, ◌<◌, ◌≤◌, ◌+◌, ◌-◌, sym, ◌∙◌, ap, subst, arith, List, [], ◌∷◌, ◌++◌, length, get_or, Bool, true, false}
use Rattle.nk_store.specs.declared.node.Out.{Out}
use Rattle.nk_store.specs.StoreState.{StoreState, Grows}
use Rattle.nk_determ.specs.Sets.{SetsGrow}
use Rattle.nk_determ.specs.Reach.{Exact}
use Rattle.nk_determ.specs.Pairs.{Node, Within, AreStates, AreLabelsBelow, IsStart, IsStep, IsGood}
use Rattle.nk_determ.specs.Levels.{At, InLevel, IsViolation, AreLevels}
use Rattle.nk_goal.specs.Goals.{MeetsViolation, MeetsNoViolation}
use Rattle.nk_reach.specs.Rounds.{IsNextLevel}
use Rattle.nk_goal.specs.Entries.{IsMerged}
use Rattle.nk_goal.proofs.Graphs.{complete}
use Rattle.nk_sets.proofs.Kept.{packet_on, packet_back, get_or_same}
use Rattle.nk_goal.proofs.Growing.{sets_refl, sets_same, within_places, step_on, within_or_not}
use Rattle.nk_goal.proofs.Going.{Going, level_on, level_back, going_on}
use Rattle.nk_reach.proofs.Round.{going_next}

-- the parts of AreLevels that both ends share, once the two parts on the last level and the completeness are given
pub levels_of : (old : StoreState) (oss : List (List ℕ)) (st : StoreState) (ss : List (List ℕ)) (states : List ℕ) (set start : ℕ) (bad : List ℕ → List ℕ → List Out) (visited : List (ℕ × ℕ)) (ls : List (List (ℕ × ℕ))) (h : ℕ) (broken : Bool) → (set < length oss) → Going old oss st ss states set start bad visited ls h → (broken ≡ true → (n : Node) × IsGood old n × InLevel st ss ls h n × IsViolation bad n) → (broken ≡ false → (n : Node) → IsGood old n → InLevel st ss ls h n → IsViolation bad n → ⊥) → (broken ≡ false → (i : ℕ) (n : Node) → At old states (get_or oss set []) start i n → (j : ℕ) × (j ≤ i) × (j < h + 1) × InLevel st ss ls j n) → AreLevels old st ss states set start bad ls broken
levels_of old oss st ss states set start bad visited ls h broken known go met_one met_none all =
    let m : get_or ss set [] ≡ get_or oss set [] = sets_same oss ss set go.sets known in
    let last : length ls - 1 ≡ h = omega (arith, go.count) in
    record {
      exact = subst (λ k. Exact (IsStart old (get_or ss set []) start) (IsStep old states) (IsGood old) (InLevel st ss ls) k) (sym go.count)
          (subst (λ s. Exact (IsStart old s start) (IsStep old states) (IsGood old) (InLevel st ss ls) (h + 1)) (sym m) go.exact);
      some = omega (arith, go.count);
      start_is = go.start_is;
      pairs = λ i l. go.pairs i (omega (arith, l, go.count));
      shape = λ i a l. go.shape i a (omega (arith, l, go.count));
      goal = λ i n l. go.goal i n (omega (arith, l, go.count));
      broken_at = λ e. subst (λ k. (n : Node) × IsGood old n × InLevel st ss ls k n × IsViolation bad n) (sym last) (met_one e);
      not_broken = λ e n p v. met_none e n p (subst (λ k. InLevel st ss ls k n) last v);
      complete = λ e i n a.
          let w = all e i n (subst (λ s. At old states s start i n) m a) in
          (w.0, w.1, omega (arith, w.2, go.count), w.3);
    }

-- the levels end at a violation
pub levels_broken : (old : StoreState) (oss : List (List ℕ)) (st new : StoreState) (ss : List (List ℕ)) (states : List ℕ) (set start : ℕ) (bad now : List ℕ → List ℕ → List Out) (visited : List (ℕ × ℕ)) (ls : List (List (ℕ × ℕ))) (h : ℕ) → (set < length oss) → Going old oss st ss states set start bad visited ls h → Grows st new → ((n : Node) → AreLabelsBelow (length states) n.0 → now n.0 n.1 ≡ bad n.0 n.1) → MeetsViolation st ss (get_or ls h []) now → AreLevels old new ss states set start bad ls true
levels_broken old oss st new ss states set start bad now visited ls h known go g same found =
    let n : Node = found.0 in
    let p : AreLabelsBelow (length states) n.0 = within_places st ss (length states) (get_or ls h []) n (go.pairs h (omega arith)) found.2 in
    levels_of old oss new ss states set start bad visited ls h true known (going_on old oss st new ss ss states set start bad visited ls h g (sets_refl ss) go)
    (λ e. (n, packet_back old st n.1 go.grows found.1, level_on old oss st new ss ss states set start bad visited ls h h n go g (sets_refl ss) (omega arith) found.2, λ z. found.3 (same n p ∙ z)))
    (λ e. cc) (λ e. cc)

-- no violation in the last level, as nodes
pub none_last : (old : StoreState) (oss : List (List ℕ)) (st : StoreState) (ss : List (List ℕ)) (states : List ℕ) (set start : ℕ) (bad now : List ℕ → List ℕ → List Out) (visited : List (ℕ × ℕ)) (ls : List (List (ℕ × ℕ))) (h : ℕ) → Going old oss st ss states set start bad visited ls h → ((n : Node) → AreLabelsBelow (length states) n.0 → now n.0 n.1 ≡ bad n.0 n.1) → MeetsNoViolation st ss (get_or ls h []) now → (n : Node) → IsGood old n → InLevel st ss ls h n → IsViolation bad n → ⊥
none_last old oss st ss states set start bad now visited ls h go same none n p v b =
    let q : AreLabelsBelow (length states) n.0 = within_places st ss (length states) (get_or ls h []) n (go.pairs h (omega arith)) v in
    b (sym (same n q) ∙ none n (packet_on old st n.1 go.grows p) v)

-- the levels end where nothing new follows
pub levels_ended : (old : StoreState) (oss : List (List ℕ)) (st new : StoreState) (ss nss : List (List ℕ)) (states : List ℕ) (set start : ℕ) (bad : List ℕ → List ℕ → List Out) (visited : List (ℕ × ℕ)) (ls : List (List (ℕ × ℕ))) (level : List (ℕ × ℕ)) (h : ℕ) → (set < length oss) → AreStates old states → Going old oss st ss states set start bad visited ls h → ((n : Node) → IsGood old n → InLevel st ss ls h n → IsViolation bad n → ⊥) → IsNextLevel st ss states visited (get_or ls h []) new nss level → Grows st new → SetsGrow ss nss → length level ≡ 0 → AreLevels old new nss states set start bad ls false
levels_ended old oss st new ss nss states set start bad visited ls [] h known states_ok go none next g s empty =
    let gn : Going old oss new nss states set start bad visited ls h = going_on old oss st new ss nss states set start bad visited ls h g s go in
    let r = length states in
    let h_in : h < h + 1 = omega arith in
    levels_of old oss new nss states set start bad visited ls h false known gn
    (λ e. cc)
    (λ e n p v. none n p (level_back old oss st new ss nss states set start bad visited ls h h n go g s h_in v))
    (λ e. complete (IsStart old (get_or oss set []) start) (IsStep old states) (IsGood old) (InLevel new nss ls) h (λ n q. q.packet) (λ m n q. q.packet) gn.exact
    (λ j n l p. within_or_not new nss (get_or ls j []) n)
    (λ m n p lev step not.
    let was : Within st ss (get_or ls h []) m = level_back old oss st new ss nss states set start bad visited ls h h m go g s h_in lev in
    let places : AreLabelsBelow r m.0 = within_places st ss r (get_or ls h []) m (go.pairs h h_in) was in
    let made = next.every m n (packet_on old st m.1 go.grows p) was (step_on old st states m n go.grows states_ok places step)
    (λ w. let q = go.visited_in n step.packet w in not q.0 q.1 (level_on old oss st new ss nss states set start bad visited ls h q.0 n go g s q.1 q.2)) in
    made.2))
levels_ended old oss st new ss nss states set start bad visited ls (p ∷ ps) h known states_ok go none next g s empty = absurd (omega (arith, empty))

-- the last level, by its place
pub last_is : (ls : List (List (ℕ × ℕ))) (h x : ℕ) (a : List (ℕ × ℕ)) → length ls ≡ h + 1 → x ≡ length ls → a ≡ get_or ls (x - 1) a → get_or ls h [] ≡ a
last_is ls h x a count is at =
    let k : x - 1 ≡ h = omega (arith, count, is) in
    get_or_same ls h [] a (omega (arith, count)) ∙ ap (λ j. get_or ls j a) (sym k) ∙ sym at

-- what holds after the last level was found to have no violation
pub after_violation : (old : StoreState) (oss : List (List ℕ)) (st new : StoreState) (ss : List (List ℕ)) (states : List ℕ) (set start : ℕ) (bad now : List ℕ → List ℕ → List Out) (visited last : List (ℕ × ℕ)) (ls : List (List (ℕ × ℕ))) (h : ℕ) → Going old oss st ss states set start bad visited ls h → Grows st new → ((n : Node) → AreLabelsBelow (length states) n.0 → now n.0 n.1 ≡ bad n.0 n.1) → get_or ls h [] ≡ last → MeetsNoViolation st ss last now → Going old oss new ss states set start bad visited ls h × ((n : Node) → IsGood old n → InLevel new ss ls h n → IsViolation bad n → ⊥)
after_violation old oss st new ss states set start bad now visited last ls h go g same is none = (
  going_on old oss st new ss ss states set start bad visited ls h g (sets_refl ss) go,
  λ n p v b. none_last old oss st ss states set start bad now visited ls h go same (subst (λ (q : List (ℕ × ℕ)). MeetsNoViolation st ss q now) (sym is) none) n p
      (level_back old oss st new ss ss states set start bad visited ls h h n go g (sets_refl ss) (omega arith) v) b,
)

-- a whole round
pub round_done : (old : StoreState) (oss : List (List ℕ)) (st st1 st2 st3 : StoreState) (ss nss : List (List ℕ)) (states : List ℕ) (set start : ℕ) (bad now : List ℕ → List ℕ → List Out) (visited all last again : List (ℕ × ℕ)) (ls : List (List (ℕ × ℕ))) (level : List (ℕ × ℕ)) (h : ℕ) → AreStates old states → Going old oss st ss states set start bad visited ls h → Grows st st1 → ((n : Node) → AreLabelsBelow (length states) n.0 → now n.0 n.1 ≡ bad n.0 n.1) → get_or ls h [] ≡ last → MeetsNoViolation st ss last now → get_or ls h [] ≡ again → IsNextLevel st1 ss states visited again st2 nss level → Grows st1 st2 → SetsGrow ss nss → IsMerged st2 visited level st3 all → Grows st2 st3 → 0 < length level → Going old oss st3 nss states set start bad all (ls ++ level ∷ []) (h + 1)
round_done old oss st st1 st2 st3 ss nss states set start bad now visited all last again ls level h states_ok go g1 same is none is_again next g2 s merged g3 some =
    let a = after_violation old oss st st1 ss states set start bad now visited last ls h go g1 same is none in
    going_next old oss st1 st2 st3 ss nss states set start bad visited all ls level h states_ok a.0 a.1
    (subst (λ (q : List (ℕ × ℕ)). IsNextLevel st1 ss states visited q st2 nss level) (sym is_again) next) g2 s merged g3 some

-- the levels end after a whole round
pub round_last : (old : StoreState) (oss : List (List ℕ)) (st st1 st2 : StoreState) (ss nss : List (List ℕ)) (states : List ℕ) (set start : ℕ) (bad now : List ℕ → List ℕ → List Out) (visited last again : List (ℕ × ℕ)) (ls : List (List (ℕ × ℕ))) (level : List (ℕ × ℕ)) (h : ℕ) → (set < length oss) → AreStates old states → Going old oss st ss states set start bad visited ls h → Grows st st1 → ((n : Node) → AreLabelsBelow (length states) n.0 → now n.0 n.1 ≡ bad n.0 n.1) → get_or ls h [] ≡ last → MeetsNoViolation st ss last now → get_or ls h [] ≡ again → IsNextLevel st1 ss states visited again st2 nss level → Grows st1 st2 → SetsGrow ss nss → length level ≡ 0 → AreLevels old st2 nss states set start bad ls false
round_last old oss st st1 st2 ss nss states set start bad now visited last again ls level h known states_ok go g1 same is none is_again next g2 s empty =
    let a = after_violation old oss st st1 ss states set start bad now visited last ls h go g1 same is none in
    levels_ended old oss st1 st2 ss nss states set start bad visited ls level h known states_ok a.0 a.1
    (subst (λ (q : List (ℕ × ℕ)). IsNextLevel st1 ss states visited q st2 nss level) (sym is_again) next) g2 s empty

-- the rounds end
pub falls : (n h a b : ℕ) → a ≡ h + 1 → b ≡ a + 1 → h + 1 ≤ n → n + 1 - b < n + 1 - a
falls n h a b e f l = omega arith
