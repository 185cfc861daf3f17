-- Turns of an update: the switches are at one stage, and those that wait for its step may do it, or none may.
use Rattle.std.proofs.Common.{◌≡◌, ◌≢◌, ℕ, zero, suc, ◌+◌, ◌<◌, ◌&&◌, ◌⊎◌, Bool, true, false, true≢false, cond, inl, inr, ⊎_elim, List, [], ◌∷◌, length, refl, sym, ap, subst, ◌∙◌, arith}
use Rattle.std.specs.Prelude.{◌==◌, ◌||◌, nat_le, not, map, filter, remove, slice_get, slice_index, Option, Some, None, All}
use Rattle.std.specs.List.{list_all, list_any}
use Rattle.nk_field.specs.Lists.{IsWithoutDoubles}
use Rattle.nk_field.proofs.Lists.{In, in_from_contains, contains_from_in}
use Rattle.nk_topo.specs.Topology.{SwitchPorts, is_switch}
use Rattle.nk_topo.proofs.Members.{all_from_members, members_from_all}
use Rattle.nk_update.proofs.Lookup.{true_or_false, eq_true, eq_false, true_eq, false_eq}
use Rattle.nk_flight.specs.declared.copies.Flying.{Flying}
use Rattle.nk_flight.specs.Updates.{Stages, UpdateState, UpdateEvent, inject, move, plan, at_the_start, handled_there, moved, one_more_event, planned, after_update, after_updates, has_old_tag, switches_in, may_go_on, may_plan}
use Rattle.nk_flight.specs.UpdateDraws.{those_that_may, IsStage, at_stage, MayAtOneStage}

-- tests that agree on what stands in a list keep the same of it
pub kept_same : {X : Type 0} (p q : X → Bool) (xs : List X) → ((x : X) → In xs x → p x ≡ q x) → filter p xs ≡ filter q xs
kept_same p q [] h = refl
kept_same p q (x ∷ xs) h =
    ap (λ b. cond b (x ∷ filter p xs) (filter p xs)) (h x (inl refl))
    ∙ ap (λ l. cond (q x) (x ∷ l) l) (kept_same p q xs (λ y i. h y (inr i)))

-- a test that all fail, or pass
none_kept : {X : Type 0} (xs : List X) → filter (λ x. false) xs ≡ []
none_kept [] = refl
none_kept (x ∷ xs) = none_kept xs

pub all_kept : {X : Type 0} (xs : List X) → filter (λ x. true) xs ≡ xs
all_kept [] = refl
all_kept (x ∷ xs) = ap (λ l. x ∷ l) (all_kept xs)

-- what is kept stood there, and passes
pub from_kept : {X : Type 0} (p : X → Bool) (xs : List X) (x : X) → In (filter p xs) x → In xs x × (p x ≡ true)
from_kept p [] x i = absurd i
from_kept p (y ∷ ys) x i = by (p y) refl (from_kept p ys x) i
  where
    by : (b : Bool) → p y ≡ b → (In (filter p ys) x → In ys x × (p x ≡ true)) → In (cond b (y ∷ filter p ys) (filter p ys)) x → In (y ∷ ys) x × (p x ≡ true)
    by true e r i = ⊎_elim (λ s. (inl s, ap p s ∙ e)) (λ j. (inr (r j).0, (r j).1)) i
    by false e r i = (inr (r i).0, (r i).1)

-- what stands there and passes is kept
into_kept : {X : Type 0} (p : X → Bool) (xs : List X) (x : X) → In xs x → p x ≡ true → In (filter p xs) x
into_kept p [] x i e = absurd i
into_kept p (y ∷ ys) x i e = by (p y) refl (λ j. into_kept p ys x j e)
  where
    by : (b : Bool) → p y ≡ b → (In ys x → In (filter p ys) x) → In (cond b (y ∷ filter p ys) (filter p ys)) x
    by true f r = ⊎_elim (λ s. inl s) (λ j. inr (r j)) i
    by false f r = ⊎_elim (λ s. absurd (true≢false (sym e ∙ ap p s ∙ f))) r i

-- a test with one that passes, or fails
pub and_true : (b : Bool) → (b && true) ≡ b
and_true true = refl
and_true false = refl

and_false : (b : Bool) → (b && false) ≡ false
and_false true = refl
and_false false = refl

-- the first of two that both pass
first_true : (a b : Bool) → (a && b) ≡ true → a ≡ true
first_true true b e = refl
first_true false b e = e

-- an empty list has nothing in it
not_in_none : {X : Type 0} (xs : List X) (x : X) → xs ≡ [] → In xs x → ⊥
not_in_none xs x e i = subst (λ l. In l x) e i

-- what stands at a place stands in the list
pub in_at : (xs : List ℕ) (i : ℕ) → i < length xs → In xs (slice_index xs i)
in_at [] i lt = absurd (omega (arith, lt))
in_at (x ∷ xs) zero lt = inl refl
in_at (x ∷ xs) (suc i) lt = let less : i < length xs = omega (arith, lt) in inr (in_at xs i less)

-- the one at a place of those that are kept taken out: those that are kept without it
kept_without : (p : ℕ → Bool) (xs : List ℕ) (i : ℕ) → IsWithoutDoubles xs → i < length (filter p xs)
    → remove (filter p xs) i ≡ filter (λ x. p x && not (x == slice_index (filter p xs) i)) xs
kept_without p [] i d lt = absurd (omega (arith, lt))
kept_without p (x ∷ xs) i d lt = by (p x) refl (λ k. kept_without p xs k d.1) i lt
  where
    elsewhere : (y : ℕ) → In xs y → not (y == x) ≡ true
    elsewhere y j = ap not (eq_false y x (λ e. d.0 (contains_from_in xs x (subst (λ z. In xs z) e j))))

    others : (y : ℕ) → In xs y → p y ≡ (p y && not (y == x))
    others y j = sym (ap (λ b. p y && b) (elsewhere y j) ∙ and_true (p y))

    by : (b : Bool) → p x ≡ b
        → ((k : ℕ) → k < length (filter p xs) → remove (filter p xs) k ≡ filter (λ y. p y && not (y == slice_index (filter p xs) k)) xs)
        → (k : ℕ) → k < length (cond b (x ∷ filter p xs) (filter p xs))
        → remove (cond b (x ∷ filter p xs) (filter p xs)) k
        ≡ filter (λ y. p y && not (y == slice_index (cond b (x ∷ filter p xs) (filter p xs)) k)) (x ∷ xs)
    by true e r zero lt =
        kept_same p (λ y. p y && not (y == x)) xs others
        ∙ sym (ap (λ b. cond b (x ∷ filter (λ y. p y && not (y == x)) xs) (filter (λ y. p y && not (y == x)) xs))
        (ap (λ b. b && not (x == x)) e ∙ ap not (eq_true x x refl)))
    by true e r (suc k) lt =
        let less : k < length (filter p xs) = omega (arith, lt) in
        let sw = slice_index (filter p xs) k in
        let there : In xs sw = (from_kept p xs sw (in_at (filter p xs) k less)).0 in
        let other : x ≢ sw = λ s. d.0 (contains_from_in xs x (subst (λ z. In xs z) (sym s) there)) in
        ap (λ l. x ∷ l) (r k less)
        ∙ sym (ap (λ b. cond b (x ∷ filter (λ y. p y && not (y == sw)) xs) (filter (λ y. p y && not (y == sw)) xs))
        (ap (λ b. b && not (x == sw)) e ∙ ap not (eq_false x sw other)))
    by false e r k lt =
        let sw = slice_index (filter p xs) k in
        r k lt
        ∙ sym (ap (λ b. cond b (x ∷ filter (λ y. p y && not (y == sw)) xs) (filter (λ y. p y && not (y == sw)) xs))
        (ap (λ b. b && not (x == sw)) e))

-- a switch among the numbers is declared
pub declared_in : (ss : List SwitchPorts) (sw : ℕ) → In (map (λ s. s.switch) ss) sw → list_any (λ s. s.switch == sw) ss ≡ true
declared_in [] sw i = absurd i
declared_in (s ∷ ss) sw i = by (s.switch == sw) refl (declared_in ss sw)
  where
    by : (b : Bool) → (s.switch == sw) ≡ b → (In (map (λ (t : SwitchPorts). t.switch) ss) sw → list_any (λ (t : SwitchPorts). t.switch == sw) ss ≡ true)
        → (b || list_any (λ (t : SwitchPorts). t.switch == sw) ss) ≡ true
    by true e r = refl
    by false e r = ⊎_elim (λ q. absurd (false_eq s.switch sw e (sym q))) r i

-- a declared switch is among the numbers
pub in_declared : (ss : List SwitchPorts) (sw : ℕ) → list_any (λ s. s.switch == sw) ss ≡ true → In (map (λ s. s.switch) ss) sw
in_declared [] sw e = absurd (true≢false (sym e))
in_declared (s ∷ ss) sw e = by (s.switch == sw) refl (in_declared ss sw) e
  where
    by : (b : Bool) → (s.switch == sw) ≡ b → (list_any (λ (t : SwitchPorts). t.switch == sw) ss ≡ true → In (map (λ (t : SwitchPorts). t.switch) ss) sw)
        → (b || list_any (λ (t : SwitchPorts). t.switch == sw) ss) ≡ true → In (map (λ (t : SwitchPorts). t.switch) (s ∷ ss)) sw
    by true q r f = inl (sym (true_eq s.switch sw q))
    by false q r f = inr (r f)

-- not all pass where one fails
one_fails : (p : ℕ → Bool) (xs : List ℕ) (x : ℕ) → In xs x → p x ≡ false → list_all p xs ≡ false
one_fails p [] x i e = absurd i
one_fails p (y ∷ ys) x i e =
    ⊎_elim
    (λ s. ap (λ b. b && list_all p ys) (ap p (sym s) ∙ e))
    (λ j. ap (λ b. p y && b) (one_fails p ys x j e) ∙ and_false (p y))
    i

module _ (g : Stages) (s : UpdateState) (n : ℕ) (stage : IsStage g s n) where
  first : In (switches_in g) stage.first.0
  first = in_from_contains (switches_in g) stage.first.0 stage.first.1

  each : (sw : ℕ) → In (switches_in g) sw → (s.done sw ≡ n) ⊎ (s.done sw ≡ suc n)
  each = members_from_all (λ sw. (s.done sw ≡ n) ⊎ (s.done sw ≡ suc n)) (switches_in g) stage.each

  -- the step after that of the stage waits
  next_waits : (k : ℕ) → k ≡ n → may_go_on g s (suc k) ≡ false
  next_waits zero e = one_fails (λ sw. nat_le 1 (s.done sw)) (switches_in g) stage.first.0 first (ap (nat_le 1) (stage.first.2 ∙ sym e))
  next_waits (suc zero) e =
      ap (λ b. b && list_all (λ f. not (has_old_tag g f)) s.flight.flying)
      (one_fails (λ sw. nat_le 2 (s.done sw)) (switches_in g) stage.first.0 first (ap (nat_le 2) (stage.first.2 ∙ sym e)))
  next_waits (suc (suc k)) e = refl

  -- so a switch may where it has done just so many, and these may
  pub may_is : (sw : ℕ) → In (switches_in g) sw → may_plan g s sw ≡ ((s.done sw == n) && may_go_on g s n)
  may_is sw i =
      ap (λ b. b && may_go_on g s (s.done sw)) (declared_in g.before.topo.switches sw i)
      ∙ ⊎_elim
      (λ e. ap (may_go_on g s) e ∙ sym (ap (λ b. b && may_go_on g s n) (eq_true (s.done sw) n e)))
      (λ e.
      let other : s.done sw ≢ n = λ q. omega (arith, e, q) in
      ap (may_go_on g s) e ∙ next_waits n refl ∙ sym (ap (λ b. b && may_go_on g s n) (eq_false (s.done sw) n other)))
      (each sw i)

  pub those_are : those_that_may g s ≡ cond (may_go_on g s n) (at_stage g s n) []
  those_are = kept_same (may_plan g s) (λ sw. (s.done sw == n) && may_go_on g s n) (switches_in g) may_is ∙ by (may_go_on g s n)
    where
      by : (b : Bool) → filter (λ sw. (s.done sw == n) && b) (switches_in g) ≡ cond b (at_stage g s n) []
      by true = kept_same (λ sw. (s.done sw == n) && true) (λ sw. s.done sw == n) (switches_in g) (λ sw i. and_true (s.done sw == n))
      by false =
          kept_same (λ sw. (s.done sw == n) && false) (λ sw. false) (switches_in g) (λ sw i. and_false (s.done sw == n))
          ∙ none_kept (switches_in g)

  pub one_stage : (those_that_may g s ≡ at_stage g s n) ⊎ (those_that_may g s ≡ [])
  one_stage = by (may_go_on g s n) those_are
    where
      by : (b : Bool) → those_that_may g s ≡ cond b (at_stage g s n) [] → (those_that_may g s ≡ at_stage g s n) ⊎ (those_that_may g s ≡ [])
      by true e = inl e
      by false e = inr e

-- the state after a switch of the stage did its step
module _ (g : Stages) (s : UpdateState) (n : ℕ) (stage : IsStage g s n) (sw : ℕ) (there : In (switches_in g) sw) (here : s.done sw ≡ n) where
  abbrev pub then_state : UpdateState
  then_state = record s { done = one_more_event sw s.done }

  here_then : then_state.done sw ≡ suc n
  here_then =
      let more : s.done sw + 1 ≡ suc n = omega (arith, here) in
      ap (λ b. cond b (s.done sw + 1) (s.done sw)) (eq_true sw sw refl) ∙ more

  elsewhere_then : (m : ℕ) → m ≢ sw → then_state.done m ≡ s.done m
  elsewhere_then m ne = ap (λ b. cond b (s.done m + 1) (s.done m)) (eq_false m sw ne)

  each_then : (m : ℕ) → In (switches_in g) m → (then_state.done m ≡ n) ⊎ (then_state.done m ≡ suc n)
  each_then m i =
      ⊎_elim
      (λ e. inr (ap then_state.done (true_eq m sw e) ∙ here_then))
      (λ e.
      let same = elsewhere_then m (false_eq m sw e) in
      ⊎_elim (λ a. inl (same ∙ a)) (λ b. inr (same ∙ b)) (each g s n stage m i))
      (true_or_false (m == sw))

  -- those of the stage are those from before without it
  at_then : (m : ℕ) → ((s.done m == n) && not (m == sw)) ≡ (then_state.done m == n)
  at_then m =
      ⊎_elim
      (λ e.
      let now : then_state.done m ≡ suc n = ap then_state.done (true_eq m sw e) ∙ here_then in
      let other : then_state.done m ≢ n = λ q. omega (arith, now, q) in
      ap (λ b. (s.done m == n) && not b) e ∙ and_false (s.done m == n) ∙ sym (eq_false (then_state.done m) n other))
      (λ e.
      ap (λ b. (s.done m == n) && not b) e ∙ and_true (s.done m == n)
      ∙ ap (λ d. d == n) (sym (elsewhere_then m (false_eq m sw e))))
      (true_or_false (m == sw))

  pub still : (x : ℕ) (xs : List ℕ) → at_stage g then_state n ≡ x ∷ xs → IsStage g then_state n
  still x xs e =
      let of_it = from_kept (λ m. then_state.done m == n) (switches_in g) x (subst (λ l. In l x) (sym e) (inl refl)) in
      record {
        first = (x, contains_from_in (switches_in g) x of_it.0, true_eq (then_state.done x) n of_it.1);
        each = all_from_members (λ m. (then_state.done m ≡ n) ⊎ (then_state.done m ≡ suc n)) (switches_in g) each_then;
      }

  all_on : at_stage g then_state n ≡ [] → (m : ℕ) → In (switches_in g) m → then_state.done m ≡ suc n
  all_on e m i =
      ⊎_elim
      (λ a. absurd (not_in_none (at_stage g then_state n) m e (into_kept (λ k. then_state.done k == n) (switches_in g) m i (eq_true (then_state.done m) n a))))
      (λ b. b)
      (each_then m i)

  pub over : at_stage g then_state n ≡ [] → IsStage g then_state (suc n)
  over e = record {
    first = (sw, contains_from_in (switches_in g) sw there, here_then);
    each = all_from_members (λ m. (then_state.done m ≡ suc n) ⊎ (then_state.done m ≡ suc (suc n))) (switches_in g) (λ m i. inl (all_on e m i));
  }

  pub all_at : at_stage g then_state n ≡ [] → at_stage g then_state (suc n) ≡ switches_in g
  all_at e =
      kept_same (λ m. then_state.done m == suc n) (λ m. true) (switches_in g) (λ m i. eq_true (then_state.done m) (suc n) (all_on e m i))
      ∙ all_kept (switches_in g)

  pub goes_on : (m : ℕ) × IsStage g then_state m
  goes_on = by (at_stage g then_state n) refl
    where
      by : (l : List ℕ) → at_stage g then_state n ≡ l → (m : ℕ) × IsStage g then_state m
      by [] e = (suc n, over e)
      by (x ∷ xs) e = (n, still x xs e)

  pub taken : (i : ℕ) → IsWithoutDoubles (switches_in g) → i < length (at_stage g s n) → slice_index (at_stage g s n) i ≡ sw
      → remove (at_stage g s n) i ≡ at_stage g then_state n
  taken i d lt e =
      kept_without (λ m. s.done m == n) (switches_in g) i d lt
      ∙ ap (λ k. filter (λ m. (s.done m == n) && not (m == k)) (switches_in g)) e
      ∙ kept_same (λ m. (s.done m == n) && not (m == sw)) (λ m. then_state.done m == n) (switches_in g) (λ m i. at_then m)

-- where the counts are the same, so is the stage
pub same_stage : (g : Stages) (s t : UpdateState) (n : ℕ) → t.done ≡ s.done → IsStage g s n → IsStage g t n
same_stage g s t n e h = record {
  first = (h.first.0, h.first.1, ap (λ (d : ℕ → ℕ). d h.first.0) e ∙ h.first.2);
  each = subst (λ (d : ℕ → ℕ). All (λ sw. (d sw ≡ n) ⊎ (d sw ≡ suc n)) (switches_in g)) (sym e) h.each;
}

-- a copy that is handled leaves the counts
moved_done : (g : Stages) (s : UpdateState) (o : Option Flying) (others : List Flying) → (handled_there g s o others).done ≡ s.done
moved_done g s None others = refl
moved_done g s (Some f) others = refl

pub move_done : (g : Stages) (s : UpdateState) (i : ℕ) → (moved g i s).done ≡ s.done
move_done g s i = moved_done g s (slice_get s.flight.flying i) (remove s.flight.flying i)

-- a plan step that may be done
pub step_done : (g : Stages) (s : UpdateState) (sw : ℕ) → may_plan g s sw ≡ true → planned g sw s ≡ record s { done = one_more_event sw s.done }
step_done g s sw e = ap (λ b. cond b (record s { done = one_more_event sw s.done }) s) e

-- after each event the switches are at one stage
stage_then : (g : Stages) (s : UpdateState) (n : ℕ) (e : UpdateEvent) → IsStage g s n → (m : ℕ) × IsStage g (after_update g e s) m
stage_then g s n (inject pk) h = (n, same_stage g s (after_update g (inject pk) s) n refl h)
stage_then g s n (move i) h = (n, same_stage g s (moved g i s) n (move_done g s i) h)
stage_then g s n (plan sw) h = by (may_plan g s sw) refl
  where
    declared : may_plan g s sw ≡ true → In (switches_in g) sw
    declared e = in_declared g.before.topo.switches sw (first_true (is_switch g.before.topo sw) (may_go_on g s (s.done sw)) e)

    by : (b : Bool) → may_plan g s sw ≡ b → (m : ℕ) × IsStage g (cond b (record s { done = one_more_event sw s.done }) s) m
    by false e = (n, h)
    by true e =
        let there = declared e in
        let at = true_eq (s.done sw) n (first_true (s.done sw == n) (may_go_on g s n) (sym (may_is g s n h sw there) ∙ e)) in
        goes_on g s n h sw there at

stage_later : (g : Stages) (es : List UpdateEvent) (s : UpdateState) (n : ℕ) → IsStage g s n → (m : ℕ) × IsStage g (after_updates g es s) m
stage_later g [] s n h = (n, h)
stage_later g (e ∷ es) s n h = let r = stage_then g s n e h in stage_later g es (after_update g e s) r.0 r.1

-- at the start no step is done
pub stage_first : (g : Stages) (ns : List ℕ) → switches_in g ≡ ns → (ns ≡ []) ⊎ IsStage g (at_the_start g) 0
stage_first g [] e = inl refl
stage_first g (x ∷ xs) e = inr record {
  first = (x, contains_from_in (switches_in g) x (subst (λ l. In l x) (sym e) (inl refl)), refl);
  each = all_from_members (λ sw. ((at_the_start g).done sw ≡ 0) ⊎ ((at_the_start g).done sw ≡ 1)) (switches_in g) (λ sw i. inl refl);
}

pub stages_in_turn : (g : Stages) (es : List UpdateEvent) → MayAtOneStage g (after_updates g es (at_the_start g))
stages_in_turn g es =
    ⊎_elim
    (λ e. inl e)
    (λ h. let r = stage_later g es (at_the_start g) 0 h in inr (r.0, r.1, one_stage g (after_updates g es (at_the_start g)) r.0 r.1))
    (stage_first g (switches_in g) refl)
