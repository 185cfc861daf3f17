-- The walk forward, by the lists for all levels: its start, one round, and its end.
use Rattle.std.proofs.Common.{◌≡◌, ℕ, suc, ◌<◌, ◌≤◌, ◌+◌, ◌-◌, Bool, true, Some, ◌⊎◌, eqb, refl, sym, ◌∙◌, subst, arith, List, [], ◌∷◌, ◌++◌, length, get_or}
use Rattle.std.specs.Map.{lookup}
use Rattle.nk_field.specs.Order.{Found, IsLeast}
use Rattle.nk_store.specs.declared.node.Out.{Out}
use Rattle.nk_store.specs.StoreState.{StoreState, IsStorePacket, Grows}
use Rattle.nk_sets.specs.PacketSets.{IsLeastPacket}
use Rattle.nk_determ.specs.Sets.{SetsGrow, HasEachSetOnce}
use Rattle.nk_determ.specs.Pairs.{Node, Under, Within, AreStates, AreLabelsBelow, ArePairs, IsStep}
use Rattle.nk_determ.specs.Levels.{InLevel, AreLevels}
use Rattle.nk_goal.specs.Entries.{HaveSets}
use Rattle.nk_goal.proofs.Growing.{packets_of, named_known, under_named}
use Rattle.nk_witness.specs.declared.choice.Choice.{Choice}
use Rattle.nk_witness.specs.declared.found.Side.{Side}
use Rattle.nk_witness.specs.declared.found.Side.TheVariants.{Left, Right}
use Rattle.nk_witness.specs.Backs.{IsBack, AreBacks}
use Rattle.nk_witness.specs.Choices.{IsAny, IsBest}
use Rattle.nk_witness.specs.Finds.{target_of, IsNextLeast, IsForward}
use Rattle.nk_witness.specs.Histories.{IsCounterexampleWithTarget, IsCounterexample, IsGreedy}
use Rattle.nk_witness.proofs.Backing.{back_at, level_at}
use Rattle.nk_witness.proofs.Advancing.{IsFirst, start_some, first_of, forward_start, ahead_of, forward_step}
use Rattle.nk_witness.proofs.Finding.{end_violation, greedy_of, least_of, left_first, best_sided, target_told}
use Rattle.nk_witness.proofs.Greedy.{greedy_breaks}

-- the list for the level that is met
pub here_back : (old st : StoreState) (oss ss : List (List ℕ)) (states : List ℕ) (bad : List ℕ → List ℕ → List Out) (ls : List (List (ℕ × ℕ))) (h n i j : ℕ) (backs : List (List (ℕ × ℕ))) (here : List (ℕ × ℕ)) → AreBacks old st oss ss states bad ls h n backs → j < n → i + j ≡ h → get_or backs j [] ≡ here → IsBack old st ss states bad (InLevel old oss ls i) j here
here_back old st oss ss states bad ls h n i j backs here a l e is = subst (λ (v : List (ℕ × ℕ)). IsBack old st ss states bad (InLevel old oss ls i) j v) is (back_at old st oss ss states bad ls h n i j backs a l e)

-- the place of a list, counted by how many there are
pub place_back : (backs : List (List (ℕ × ℕ))) (n m i j : ℕ) (here : List (ℕ × ℕ)) → n ≡ m → length backs ≡ m → 0 < m → j ≡ n - 1 - i → here ≡ get_or backs j here → get_or backs (m - 1 - i) [] ≡ here
place_back backs n m i j here e many some is at =
    let z : j ≡ m - 1 - i = omega (arith, e, is) in
    let l : m - 1 - i < length backs = omega (arith, many, some) in
    level_at backs (m - 1 - i) here (subst (λ k. here ≡ get_or backs k here) z at) l

-- the list for the first level, and the least packet under the start set
module _ {old st : StoreState} {oss ss : List (List ℕ)} {states : List ℕ} {set start : ℕ} {bad : List ℕ → List ℕ → List Out} {ls : List (List (ℕ × ℕ))} {broken : Bool} {n : ℕ} {whole : List (ℕ × ℕ)}
    (made : List (List (ℕ × ℕ))) (levels : AreLevels old old oss states set start bad ls broken) (all : n ≡ length ls) (many : length made ≡ length ls) (at : whole ≡ get_or made (n - 1) whole)
    (grows : Grows old st) (sets : SetsGrow oss ss) (differ : HasEachSetOnce ss) (backs : AreBacks old st oss ss states bad ls (length ls - 1) (length ls) made) where
  count : length ls ≡ length ls - 1 + 1
  count = let some = levels.some in omega (arith, some)

  is_whole : get_or made (length ls - 1 - 0) [] ≡ whole
  is_whole = place_back made n (length ls) 0 (n - 1) whole all many levels.some (omega arith) at

  back : IsBack old st ss states bad (InLevel old oss ls 0) (length ls - 1) whole
  back =
      let some = levels.some in
      let z : length ls - 1 - 0 ≡ length ls - 1 = omega arith in
      here_back old st oss ss states bad ls (length ls - 1) (length ls) 0 (length ls - 1) made whole backs (omega (arith, some)) (omega arith) (subst (λ j. get_or made j [] ≡ whole) z is_whole)

  pub start_sets : HaveSets st whole
  start_sets = packets_of st ss (length states) whole back.pairs.each

  pub start_held : {s : ℕ} → s ≡ set → broken ≡ true → (z : List ℕ) × IsStorePacket st z × Under st whole s z
  start_held is b =
      let w = start_some old st oss ss states set start bad ls broken (length ls - 1) whole levels b count grows sets differ back in
      (w.0, w.1, subst (λ (v : ℕ). Under st whole v w.0) (sym is) w.2)

  module _ {s : ℕ} {y : List ℕ} (is : s ≡ set) (least : (p : ℕ) × (lookup (eqb s) whole ≡ Some p) × IsLeastPacket st p y) where
    found : lookup (eqb set) whole ≡ Some least.0
    found = subst (λ (v : ℕ). lookup (eqb v) whole ≡ Some least.0) is least.1

    pub start_first : IsFirst old states (get_or oss set []) start bad (length ls - 1) y
    start_first = first_of old st oss ss states set start bad ls broken (length ls - 1) whole least.0 y levels count grows sets differ back found least.2

    -- nothing is recorded yet
    pub start_forward : {records : List (List ℕ)} → records ≡ [] → IsForward old st ss states start bad (length ls - 1) 0 (get_or made (length ls - 1 - 0) []) (get_or oss set []) y records s y
    start_forward {records} none =
        let f = forward_start old st oss ss states set start bad ls broken (length ls - 1) whole least.0 y levels count grows sets differ back found least.2 in
        subst (λ (v : List (ℕ × ℕ)). IsForward old st ss states start bad (length ls - 1) 0 v (get_or oss set []) y records s y) (sym is_whole)
        (subst (λ j. IsForward old st ss states start bad (length ls - 1) 0 whole (get_or oss set []) y records j y) (sym is)
        (subst (λ (v : List (List ℕ)). IsForward old st ss states start bad (length ls - 1) 0 whole (get_or oss set []) y v set y) (sym none) f))

-- one round
module _ {old st : StoreState} {oss ss : List (List ℕ)} {states : List ℕ} {set start : ℕ} {bad : List ℕ → List ℕ → List Out} {ls : List (List (ℕ × ℕ))} {broken : Bool} {n i : ℕ} {here next : List (ℕ × ℕ)} {first x : List ℕ} {records : List (List ℕ)} {s : ℕ}
    (made : List (List (ℕ × ℕ))) (states_ok : AreStates old states) (levels : AreLevels old old oss states set start bad ls broken) (all : n ≡ length ls) (many : length made ≡ length ls) (less : i < n - 1) (at_here : here ≡ get_or made (n - 1 - i) here) (at_next : next ≡ get_or made (n - 1 - i - 1) next)
    (grows : Grows old st) (backs : AreBacks old st oss ss states bad ls (length ls - 1) (length ls) made) (f : IsForward old st ss states start bad (length ls - 1) i (get_or made (length ls - 1 - i) []) (get_or oss set []) first records s x) where
  some : 0 < length ls
  some = levels.some

  is_here : get_or made (length ls - 1 - i) [] ≡ here
  is_here = place_back made n (length ls) i (n - 1 - i) here all many some refl at_here

  is_next : get_or made (length ls - 1 - i - 1) [] ≡ next
  is_next =
      let z : length ls - 1 - (i + 1) ≡ length ls - 1 - i - 1 = omega arith in
      subst (λ j. get_or made j [] ≡ next) z (place_back made n (length ls) (i + 1) (n - 1 - i - 1) next all many some (omega arith) at_next)

  hb : IsBack old st ss states bad (InLevel old oss ls i) (suc (length ls - 1 - i - 1)) here
  hb =
      let z : length ls - 1 - i ≡ suc (length ls - 1 - i - 1) = omega (arith, less, all) in
      subst (λ j. IsBack old st ss states bad (InLevel old oss ls i) j here) z (here_back old st oss ss states bad ls (length ls - 1) (length ls) i (length ls - 1 - i) made here backs (omega (arith, some)) (omega (arith, less, all)) is_here)

  nb : IsBack old st ss states bad (InLevel old oss ls (suc i)) (length ls - 1 - i - 1) next
  nb = here_back old st oss ss states bad ls (length ls - 1) (length ls) (suc i) (length ls - 1 - i - 1) made next backs (omega (arith, some)) (omega (arith, less, all)) is_next

  fw : IsForward old st ss states start bad (length ls - 1) i here (get_or oss set []) first records s x
  fw = subst (λ (v : List (ℕ × ℕ)). IsForward old st ss states start bad (length ls - 1) i v (get_or oss set []) first records s x) is_here f

  count_is : length ls ≡ length ls - 1 + 1
  count_is = omega (arith, some)

  left : suc i + (length ls - 1 - i - 1) ≡ length ls - 1
  left = omega (arith, less, all)

  pub round_here : ArePairs st ss (length states) here
  round_here = hb.pairs

  pub round_next : ArePairs st ss (length states) next
  round_next = nb.pairs

  pub round_under : Under st here s x
  round_under = fw.under

  pub round_ahead : (k : Node) × IsStep st states (get_or ss s [], x) k × Within st ss next k
  round_ahead = ahead_of old st oss ss states set start bad ls broken (length ls - 1) i (length ls - 1 - i - 1) here next first x records s states_ok levels count_is left grows hb nb fw

  pub round_on : {new : StoreState} {nss : List (List ℕ)} {y : List ℕ} {t : ℕ} {more : List (List ℕ)} → Grows st new → SetsGrow ss nss → IsNextLeast st ss states (get_or ss s []) x next t y → more ≡ records ++ y ∷ [] →
      IsForward old new nss states start bad (length ls - 1) (i + 1) (get_or made (length ls - 1 - (i + 1)) []) (get_or oss set []) first more t y
  round_on {new} {nss} {y} {t} {more} g2 s2 nl is =
      let step : IsForward old new nss states start bad (length ls - 1) (suc i) next (get_or oss set []) first (records ++ y ∷ []) t y = forward_step old st new oss ss nss states set start bad ls broken (length ls - 1) i (length ls - 1 - i - 1) here next first x y records s t states_ok levels count_is left grows g2 s2 hb nb fw nl in
      let up : suc i ≡ i + 1 = omega arith in
      let z : length ls - 1 - i - 1 ≡ length ls - 1 - (i + 1) = omega arith in
      subst (λ (v : List (List ℕ)). IsForward old new nss states start bad (length ls - 1) (i + 1) (get_or made (length ls - 1 - (i + 1)) []) (get_or oss set []) first v t y) (sym is)
      (subst (λ j. IsForward old new nss states start bad (length ls - 1) (i + 1) (get_or made j []) (get_or oss set []) first (records ++ y ∷ []) t y) z
      (subst (λ (v : List (ℕ × ℕ)). IsForward old new nss states start bad (length ls - 1) (i + 1) v (get_or oss set []) first (records ++ y ∷ []) t y) (sym is_next)
      (subst (λ j. IsForward old new nss states start bad (length ls - 1) j next (get_or oss set []) first (records ++ y ∷ []) t y) up step)))

-- labels among fewer states are labels among more
pub places_more : (r k : ℕ) (set : List ℕ) → r ≤ k → AreLabelsBelow r set → AreLabelsBelow k set
places_more r k set l p = λ j d m. omega (arith, l, p j d m)

-- the end of the walk, and what is found
module _ {old st : StoreState} {oss ss : List (List ℕ)} {states : List ℕ} {set start : ℕ} {bad : List ℕ → List ℕ → List Out} {ls : List (List (ℕ × ℕ))} {broken : Bool} {i : ℕ} {first x : List ℕ} {records : List (List ℕ)} {s : ℕ}
    (made : List (List (ℕ × ℕ))) (levels : AreLevels old old oss states set start bad ls broken) (last : i ≡ length ls - 1) (backs : AreBacks old st oss ss states bad ls (length ls - 1) (length ls) made) (f : IsForward old st ss states start bad (length ls - 1) i (get_or made (length ls - 1 - i) []) (get_or oss set []) first records s x) where
  fe : IsForward old st ss states start bad (length ls - 1) (length ls - 1) (get_or made 0 []) (get_or oss set []) first records s x
  fe =
      let z : length ls - 1 - i ≡ 0 = omega (arith, last) in
      subst (λ j. IsForward old st ss states start bad (length ls - 1) j (get_or made 0 []) (get_or oss set []) first records s x) last
      (subst (λ j. IsForward old st ss states start bad (length ls - 1) i (get_or made j []) (get_or oss set []) first records s x) z f)

  be : IsBack old st ss states bad (InLevel old oss ls (length ls - 1)) 0 (get_or made 0 [])
  be = back_at old st oss ss states bad ls (length ls - 1) (length ls) (length ls - 1) 0 made backs levels.some (omega arith)

  pub end_known : (s < length ss) × AreLabelsBelow (length states) (get_or ss s [])
  end_known = named_known st ss (length states) (get_or made 0 []) s be.pairs.each (under_named st (get_or made 0 []) s x fe.under)

  pub end_places : {k : ℕ} → length states ≤ k → AreLabelsBelow k (get_or ss s [])
  end_places l = places_more (length states) _ (get_or ss s []) l end_known.1

  pub end_bad : {has : List Out} → has ≡ bad (get_or ss s []) x → has ≡ [] → ⊥
  end_bad same z = end_violation old st ss states start bad (InLevel old oss ls (length ls - 1)) (length ls - 1) (length ls - 1) (get_or made 0 []) (get_or oss set []) first records s x be fe (sym same ∙ z)

  module _ {has : List Out} {b : Choice} (one : IsFirst old states (get_or oss set []) start bad (length ls - 1) first) (same : has ≡ bad (get_or ss s []) x) (best : IsBest IsAny x has (length has) b) where
    abbrev walked : Found
    walked = record { start = first; records = records; last = b.packet }

    greedy : IsGreedy old states (get_or oss set []) start bad (length ls - 1) walked (get_or ss s [], x) b.target
    greedy = greedy_of old st ss states start bad (length ls - 1) (get_or made 0 []) (get_or oss set []) first records s x has b one fe same best

    pub end_breaks : {side : Side} → (b.target ≡ 0 → side ≡ Left) → (b.target ≡ 1 → side ≡ Right) → (best.out.target ≡ 0) ⊎ (best.out.target ≡ 1) → IsCounterexampleWithTarget old states (get_or oss set []) start bad (target_of side) walked
    end_breaks {side} left right sided =
        subst (λ (t : ℕ). IsCounterexampleWithTarget old states (get_or oss set []) start bad t walked) (target_told side b.target left right (best_sided x has b best sided))
        (greedy_breaks old states (get_or oss set []) start bad (length ls - 1) walked (get_or ss s [], x) b.target greedy)

    pub end_least : IsLeast (IsCounterexample old states (get_or oss set []) start bad) walked
    end_least =
        let some = levels.some in
        least_of old oss states set start bad ls broken (length ls - 1) walked (get_or ss s [], x) b.target levels (omega (arith, some)) greedy

    pub end_left : IsCounterexampleWithTarget old states (get_or oss set []) start bad 0 walked → b.target ≡ 0
    end_left w = left_first old states (get_or oss set []) start bad (length ls - 1) walked (get_or ss s [], x) b.target has b greedy same best refl w
