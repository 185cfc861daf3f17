-- The switches that wait for the step of the present stage, through a turn; and the action that a draw takes.
use Rattle.std.proofs.Common.{◌≡◌, ◌≢◌, ℕ, zero, suc, ◌+◌, ◌-◌, ◌<◌, ◌≤◌, Bool, true, false, cond, inl, inr, ⊎_elim, List, [], ◌∷◌, ◌++◌, length, get_or, refl, sym, ap, subst, ◌∙◌, arith, length-append}
use Rattle.std.specs.Prelude.{◌==◌, ◌%◌, ◌&&◌, map, filter, remove, slice_index, slice_index_or, All}
use Rattle.std.specs.List.{range_with_len}
use Rattle.std.proofs.Math.Nat.{mod-lt}
use Rattle.std.proofs.lemmas.List.{get_or_append_left, get_or-append_right, get_or-map, length-map}
use Rattle.std.proofs.lemmas.List.FromFn.{length-map-range_with_len, get_or-map-range_with_len}
use Rattle.nk_field.specs.Lists.{IsWithoutDoubles}
use Rattle.nk_field.proofs.Lists.{In}
use Rattle.nk_topo.proofs.Members.{all_from_members, members_from_all}
use Rattle.nk_update.proofs.Lookup.{true_eq, eq_true}
use Rattle.nk_flight.specs.Updates.{Stages, UpdateState, UpdateEvent, inject, move, plan, at_the_start, planned, switches_in, may_go_on, may_plan}
use Rattle.nk_flight.specs.UpdateDraws.{those_that_may, actions, action_at, IsStage, at_stage, Wait}
use Rattle.nk_flight.proofs.Turns.{from_kept, in_at, all_kept, then_state, still, over, all_at, taken, same_stage, stage_first, step_done, may_is, those_are}

-- with no switch none waits
none_at : (g : Stages) (s : UpdateState) (n : ℕ) → switches_in g ≡ [] → at_stage g s n ≡ []
none_at g s n e = ap (filter (λ sw. s.done sw == n)) e

-- at the start all wait
pub all_wait_first : (g : Stages) → Wait g (at_the_start g) (switches_in g)
all_wait_first g = (0, stage_first g (switches_in g) refl, sym (all_kept (switches_in g)))

-- where the counts are the same, the same ones wait
pub same_wait : (g : Stages) (s t : UpdateState) (w : List ℕ) → t.done ≡ s.done → Wait g s w → Wait g t w
same_wait g s t w e h = (
  h.0,
  ⊎_elim (λ n. inl n) (λ stage. inr (same_stage g s t h.0 e stage)) h.1,
  h.2 ∙ ap (λ (d : ℕ → ℕ). filter (λ sw. d sw == h.0) (switches_in g)) (sym e),
)

-- the switches of the stage are declared, and have done just so many
pub waits_at : (g : Stages) (s : UpdateState) (n : ℕ) (w : List ℕ) → w ≡ at_stage g s n → (i : ℕ) → i < length w
    → In (switches_in g) (slice_index w i) × (s.done (slice_index w i) ≡ n)
waits_at g s n w e i lt =
    let k = from_kept (λ sw. s.done sw == n) (switches_in g) (slice_index w i) (subst (λ l. In l (slice_index w i)) e (in_at w i lt)) in
    (k.0, true_eq (s.done (slice_index w i)) n k.1)

-- so they are numbers of switches
pub wait_small : (g : Stages) (s : UpdateState) (w : List ℕ) → Wait g s w → All (λ n. n < 65536) (switches_in g) → All (λ n. n < 65536) w
wait_small g s w h small =
    all_from_members (λ n. n < 65536) w
    (λ sw i. members_from_all (λ n. n < 65536) (switches_in g) small sw
    (from_kept (λ m. s.done m == h.0) (switches_in g) sw (subst (λ l. In l sw) h.2 i)).0)

-- where none waits, none may
pub none_may : (g : Stages) (s : UpdateState) (w : List ℕ) → Wait g s w → w ≡ [] → those_that_may g s ≡ []
none_may g s w h e = ⊎_elim (λ none. ap (filter (may_plan g s)) none) (λ stage. by stage (may_go_on g s h.0) (those_are g s h.0 stage)) h.1
  where
    by : IsStage g s h.0 → (b : Bool) → those_that_may g s ≡ cond b (at_stage g s h.0) [] → those_that_may g s ≡ []
    by stage true r = r ∙ sym h.2 ∙ e
    by stage false r = r

-- else all of them may, or none, as the first one
pub as_the_first : (g : Stages) (s : UpdateState) (w : List ℕ) → Wait g s w → 0 < length w
    → those_that_may g s ≡ cond (may_plan g s (slice_index w 0)) w []
as_the_first g s w h lt =
    ⊎_elim
    (λ none. let empty : length w ≡ 0 = ap length (h.2 ∙ none_at g s h.0 none) in absurd (omega (arith, lt, empty)))
    (λ stage.
    let first = waits_at g s h.0 w h.2 0 lt in
    let same : may_plan g s (slice_index w 0) ≡ may_go_on g s h.0 =
    may_is g s h.0 stage (slice_index w 0) first.0 ∙ ap (λ b. b && may_go_on g s h.0) (eq_true (s.done (slice_index w 0)) h.0 first.1) in
    those_are g s h.0 stage ∙ ap (λ l. cond (may_go_on g s h.0) l []) (sym h.2) ∙ ap (λ b. cond b w []) (sym same))
    h.1

-- where those that wait may, each of them may
pub waiting_may : (g : Stages) (s : UpdateState) (w : List ℕ) (i : ℕ) → those_that_may g s ≡ w → i < length w → may_plan g s (slice_index w i) ≡ true
waiting_may g s w i e lt =
    (from_kept (may_plan g s) (switches_in g) (slice_index w i) (subst (λ l. In l (slice_index w i)) (sym e) (in_at w i lt))).1

-- after the step of one of them the others wait; where there is none, all wait for the step after
module _ (g : Stages) (s : UpdateState) (w : List ℕ) (i : ℕ) (h : Wait g s w) (lt : i < length w) (distinct : IsWithoutDoubles (switches_in g)) (stage : IsStage g s h.0) where
  place : In (switches_in g) (slice_index w i) × (s.done (slice_index w i) ≡ h.0)
  place = waits_at g s h.0 w h.2 i lt

  abbrev next : UpdateState
  next = then_state g s h.0 stage (slice_index w i) place.0 place.1

  others : remove w i ≡ at_stage g next h.0
  others =
      ap (λ l. remove l i) h.2
      ∙ taken g s h.0 stage (slice_index w i) place.0 place.1 i distinct (subst (λ l. i < length l) h.2 lt) (ap (λ l. slice_index l i) (sym h.2))

  all_again : remove w i ≡ [] → Wait g next (switches_in g)
  all_again e = (
    suc h.0,
    inr (over g s h.0 stage (slice_index w i) place.0 place.1 (sym others ∙ e)),
    sym (all_at g s h.0 stage (slice_index w i) place.0 place.1 (sym others ∙ e)),
  )

  others_on : (l : List ℕ) → remove w i ≡ l → ¬ (length l ≡ 0) → Wait g next l
  others_on [] e more = absurd (more refl)
  others_on (x ∷ xs) e more =
      (h.0, inr (still g s h.0 stage (slice_index w i) place.0 place.1 x xs (sym others ∙ e)), sym e ∙ others)

pub no_items : (xs : List ℕ) → length xs ≡ 0 → xs ≡ []
no_items [] e = refl
no_items (x ∷ xs) e = absurd (omega (arith, e))

module _ (g : Stages) (s t : UpdateState) (w : List ℕ) (i : ℕ) (distinct : IsWithoutDoubles (switches_in g)) (h : Wait g s w) (lt : i < length w)
    (may : those_that_may g s ≡ w) (e : t ≡ planned g (slice_index w i) s) where
  at_one : IsStage g s h.0
  at_one =
      ⊎_elim
      (λ none. let empty : length w ≡ 0 = ap length (h.2 ∙ none_at g s h.0 none) in absurd (omega (arith, lt, empty)))
      (λ stage. stage)
      h.1

  after : t ≡ next g s w i h lt distinct at_one
  after = e ∙ step_done g s (slice_index w i) (waiting_may g s w i may lt)

  pub wait_again : length (remove w i) ≡ 0 → Wait g t (switches_in g)
  wait_again none = subst (λ u. Wait g u (switches_in g)) (sym after) (all_again g s w i h lt distinct at_one (no_items (remove w i) none))

  pub wait_on : ¬ (length (remove w i) ≡ 0) → Wait g t (remove w i)
  wait_on more = subst (λ u. Wait g u (remove w i)) (sym after) (others_on g s w i h lt distinct at_one (remove w i) refl more)

-- what stands after the first one, and after others
following_first : {X : Type 0} (x : X) (xs : List X) (k : ℕ) (d : X) → k ≢ 0 → get_or (x ∷ xs) k d ≡ get_or xs (k - 1) d
following_first x xs zero d other = absurd (other refl)
following_first x xs (suc k) d other = let same : k ≡ suc k - 1 = omega arith in ap (λ j. get_or xs j d) same

-- what can happen in a turn, and what a draw takes of it
module _ (g : Stages) (pk : List ℕ) (s : UpdateState) (copies may x at : ℕ) (c : copies ≡ length s.flight.flying) (m : may ≡ length (those_that_may g s))
    (drawn : at ≡ x % (1 + (copies + may))) where
  abbrev moves : List UpdateEvent
  moves = map move (range_with_len 0 (length s.flight.flying))

  abbrev plans : List UpdateEvent
  plans = map plan (those_that_may g s)

  moves_many : length moves ≡ copies
  moves_many = length-map-range_with_len move 0 (length s.flight.flying) ∙ sym c

  plans_many : length plans ≡ may
  plans_many = length-map (those_that_may g s) plan ∙ sym m

  many : length (actions g pk s) ≡ 1 + (copies + may)
  many = let both = length-append moves plans in omega (arith, both, moves_many, plans_many)

  is_at : action_at x g pk s ≡ slice_index_or (actions g pk s) at (inject pk)
  is_at = ap (λ k. slice_index_or (actions g pk s) k (inject pk)) (ap (λ n. x % n) many ∙ sym drawn)

  below : at < 1 + (copies + may)
  below = let some : 0 < 1 + (copies + may) = omega arith in subst (λ k. k < 1 + (copies + may)) (sym drawn) (mod-lt x some)

  pub takes_inject : at ≡ 0 → action_at x g pk s ≡ inject pk
  takes_inject e = is_at ∙ ap (λ k. slice_index_or (actions g pk s) k (inject pk)) e

  pub takes_move : at ≢ 0 → at ≤ copies → action_at x g pk s ≡ move (at - 1)
  takes_move other le =
      let lt : at - 1 < length moves = omega (arith, le, moves_many, other) in
      let less : at - 1 < length s.flight.flying = omega (arith, le, c, other) in
      let same : 0 + (at - 1) ≡ at - 1 = omega arith in
      is_at ∙ following_first (inject pk) (moves ++ plans) at (inject pk) other
      ∙ get_or_append_left moves plans (inject pk) (at - 1) lt
      ∙ get_or-map-range_with_len move 0 (length s.flight.flying) (at - 1) (at - 1) (inject pk) less same

  pub takes_plan : copies < at → action_at x g pk s ≡ plan (slice_index (those_that_may g s) (at - 1 - copies))
  takes_plan gt =
      let other : at ≢ 0 = λ q. omega (arith, gt, q) in
      let lt : at - 1 - copies < length (those_that_may g s) = omega (arith, gt, below, m) in
      let following : copies ≤ at - 1 = omega (arith, gt) in
      is_at ∙ following_first (inject pk) (moves ++ plans) at (inject pk) other
      ∙ get_or-append_right moves plans copies (at - 1) (inject pk) moves_many following
      ∙ get_or-map plan (those_that_may g s) (at - 1 - copies) 0 (inject pk) lt

  pub plan_there : copies < at → at - 1 - copies < may
  plan_there gt = omega (arith, gt, below)
