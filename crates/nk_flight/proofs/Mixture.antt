-- Whatever comes in whichever order, each injection goes by one of the two tables alone.
use Rattle.std.proofs.Common.{◌≡◌, ◌≢◌, ℕ, zero, suc, ◌+◌, ◌<◌, ◌≤◌, ◌&&◌, ◌||◌, Bool, true, false, true≢false, cond, inl, inr, ⊎_elim, Option, Some, None, List, [], ◌∷◌, ◌++◌, length, refl, sym, ap, subst, ◌∙◌, arith, append-nil, length-append}
use Rattle.std.specs.Prelude.{◌==◌, nat_le, not, if◌then◌else◌, map, filter, remove, slice_get, slice_index, slice_set}
use Rattle.std.specs.List.{list_all, list_any, flat_map}
use Rattle.std.specs.List.Sorted.{IsPermutation}
use Rattle.std.proofs.lemmas.Bool.{cases_lt}
use Rattle.std.proofs.lemmas.List.Sorted.{IsPermutation-refl, IsPermutation-trans}
use Rattle.nk_field.specs.Packet.{FieldTable, without}
use Rattle.nk_field.proofs.Ascending.{members_from_all}
use Rattle.nk_field.proofs.Lists.{In, in_left, in_right, in_either, in_joined, from_mapped, in_decided, numbers_decided}
use Rattle.nk_topo.specs.Topology.{Topology, SwitchPorts, is_switch}
use Rattle.nk_table.specs.declared.Tables.{Tables}
use Rattle.nk_table.specs.Rules.{sent_for}
use Rattle.nk_table.specs.Hops.{Copy, across, leaving, next_of, left_of, waiting, left_after}
use Rattle.nk_update.specs.declared.plans.Plan.{Plan}
use Rattle.nk_update.specs.Plans.{Pair, IsPlannable, place_of, switches_of}
use Rattle.nk_update.specs.Steps.{plan_of, tables_after}
use Rattle.nk_update.specs.Tags.{IsEntering, HaveTheirTags}
use Rattle.nk_update.proofs.Lookup.{true_or_false, le_true, le_false, eq_true, eq_false, true_eq, false_eq, true_le, same_some, clash, both_passed, old_tag, new_tag, untagged_before, untagged_after, nothing_there}
use Rattle.nk_flight.specs.declared.copies.Flying.{Flying}
use Rattle.nk_flight.specs.declared.versions.Version.{Version}
use Rattle.nk_flight.specs.declared.versions.Version.TheVariants.{Old, New}
use Rattle.nk_flight.specs.Flights.{FlightState, copy_flying, flying_as, left_as, flying_next, left_next, injected}
use Rattle.nk_flight.specs.Owed.{flying_from, left_from, with_crossings, owed_by}
use Rattle.nk_flight.specs.Updates.{Stages, stages_of, stage_after, tables_by, UpdateState, at_the_start, has_old_tag, all_have_done, may_go_on, may_plan, one_more_event, planned, noted, noting, steps_at, handled_there, moved, UpdateEvent, inject, move, plan, after_update, after_updates, AreEntering, left_or_owed_by, ByVersion}
use Rattle.nk_flight.proofs.Owing.{start_owes}
use Rattle.nk_flight.proofs.Schedules.{split_at, both_empty, at_end, copies_joined, histories_joined, copies_other, histories_other, one_same, one_other, not_here, handled_keeps}

-- the tables of the plan for two tables
abbrev pub staged : Pair → Stages
staged p = stages_of (plan_of p)

-- after so many steps they are those of the plan
stage_is : (pl : Plan) (d : ℕ) → stage_after (stages_of pl) d ≡ tables_after pl d
stage_is pl zero = refl
stage_is pl (suc zero) = refl
stage_is pl (suc (suc zero)) = refl
stage_is pl (suc (suc (suc n))) = refl

-- a test that passes for all passes for each
each_passes : {X : Type 0} (test : X → Bool) (xs : List X) (x : X) → list_all test xs ≡ true → In xs x → test x ≡ true
each_passes test [] x e i = absurd i
each_passes test (y ∷ ys) x e i = by (test y) refl e i (λ f j. each_passes test ys x f j)
  where
    by : (b : Bool) → test y ≡ b → (b && list_all test ys) ≡ true → In (y ∷ ys) x →
        (list_all test ys ≡ true → In ys x → test x ≡ true) → test x ≡ true
    by true h f i rest = ⊎_elim (λ s. ap test s ∙ h) (λ j. rest f j) i
    by false h f i rest = absurd (true≢false (sym f))

-- a test that is turned round
not_true : (b : Bool) → not b ≡ true → b ≡ false
not_true true e = absurd (true≢false (sym e))
not_true false e = refl

-- the field that was set to 0 is 0
set_there : (pk : List ℕ) (f : ℕ) → slice_index (slice_set pk f 0) f ≡ 0
set_there [] f = refl
set_there (x ∷ xs) zero = refl
set_there (x ∷ xs) (suc f) = set_there xs f

-- a packet on a declared port is at a declared switch
located_in : (ss : List SwitchPorts) (sw pt : ℕ) → list_any (λ s. (s.switch == sw) && list_any (λ p. p == pt) s.ports) ss ≡ true → In (map (λ s. s.switch) ss) sw
located_in [] sw pt e = absurd (true≢false (sym e))
located_in (s ∷ ss) sw pt e = by (s.switch == sw) refl e (located_in ss sw pt)
  where
    by : (b : Bool) → s.switch == sw ≡ b →
        ((b && list_any (λ p. p == pt) s.ports) || list_any (λ (z : SwitchPorts). (z.switch == sw) && list_any (λ p. p == pt) z.ports) ss) ≡ true →
        (list_any (λ (z : SwitchPorts). (z.switch == sw) && list_any (λ p. p == pt) z.ports) ss ≡ true → In (map (λ z. z.switch) ss) sw) →
        In (map (λ z. z.switch) (s ∷ ss)) sw
    by true h e r = inl (sym (true_eq s.switch sw h))
    by false h e r = inr (r e)

-- the two versions are two
old_is_not_new : Old ≡ New → ⊥
old_is_not_new e = cc

-- there is none, or there is one
some_is_not_none : (v : Version) → Some v ≡ None → ⊥
some_is_not_none v e = cc

-- tables with the fields and topology of others
framed : (t : Tables) (fields : FieldTable) (topo : Topology) → fields ≡ t.fields → topo ≡ t.topo → record { fields = fields; topo = topo; tables = t.tables } ≡ t
framed t fields topo e f = λ i. record { fields = e i; topo = f i; tables = t.tables }

-- a copy comes from a packet that entered, by the version's tables
abbrev IsFrom : Pair → Version → Flying → Type 0
IsFrom p v f = (k : ℕ) × (pk : List ℕ) × IsEntering p.old pk × In (waiting (tables_by p v) (suc k) pk) (copy_flying f)

-- a copy whose injection hasn't stepped is a packet that enters; another comes from one
abbrev IsWell : Pair → Option Version → Flying → Type 0
IsWell p None f = (f.records ≡ []) × IsEntering p.old f.packet
IsWell p (Some v) f = IsFrom p v f

-- what holds in each state
record Held (p : Pair) (s : UpdateState) : Type 0 where
  pub second : (sw : ℕ) → 2 ≤ s.done sw → (n : ℕ) → In (switches_of p.old) n → 1 ≤ s.done n
  pub third : (sw : ℕ) → 3 ≤ s.done sw → ((n : ℕ) → In (switches_of p.old) n → 2 ≤ s.done n) × ((f : Flying) → In s.flight.flying f → has_old_tag (staged p) f ≡ false)
  pub copies : (f : Flying) → In s.flight.flying f → IsWell p (s.versions f.number) f
  pub single : (n : ℕ) → s.versions n ≡ None → length (flying_from n s.flight.flying) ≤ 1
  pub newer : (n : ℕ) → s.versions n ≡ Some New → (m : ℕ) → In (switches_of p.old) m → 1 ≤ s.done m
  pub counts : (i : ℕ) (pk : List ℕ) → slice_get s.flight.packets i ≡ Some pk → ByVersion p s.flight (i + 1) pk (s.versions (i + 1))
  pub quiet : (n : ℕ) → length s.flight.packets < n → (flying_from n s.flight.flying ≡ []) × (left_from n s.flight.left ≡ []) × (s.versions n ≡ None)

-- what a copy's step does: it goes by the version's tables, and what it leads to comes by them
record Stepping (p : Pair) (s : UpdateState) (f : Flying) (v : Version) : Type 0 where
  pub same : sent_for (tables_after (plan_of p) (steps_at s f)) f.packet ≡ sent_for (tables_by p v) f.packet
  pub from : (c : Copy) → In (next_of (tables_by p v) (copy_flying f)) c → IsFrom p v (flying_as f.number c)
  pub late : (sw : ℕ) → 3 ≤ s.done sw → v ≡ New
  pub newer : v ≡ New → (m : ℕ) → In (switches_of p.old) m → 1 ≤ s.done m

module _ (p : Pair) (ok : IsPlannable p) (tags : HaveTheirTags p) where
  -- a packet that enters has tag 0
  untagged : (pk : List ℕ) → IsEntering p.old pk → slice_index pk p.tag ≡ 0
  untagged pk e =
      sym (ap (λ l. slice_index l p.tag) (sym (ap (λ o. without o pk) ok.tag) ∙ e.untagged))
      ∙ set_there pk p.tag

  -- and is at a declared switch
  declared : (pk : List ℕ) → IsEntering p.old pk → In (switches_of p.old) (slice_index pk 0)
  declared pk e = located_in p.old.topo.switches (slice_index pk 0) (slice_index pk 1) e.located

  -- what a copy leads to comes as it does
  goes_on : (v : Version) (f : Flying) → IsFrom p v f → (c : Copy) → In (next_of (tables_by p v) (copy_flying f)) c → IsFrom p v (flying_as f.number c)
  goes_on v f w c i = (suc w.0, w.1, w.2, in_joined (next_of (tables_by p v)) (waiting (tables_by p v) (suc w.0) w.1) (copy_flying f) c w.3 i)

  -- what a packet that enters leads to
  begins : (v : Version) (f : Flying) → f.records ≡ [] → IsEntering p.old f.packet → (c : Copy) → In (next_of (tables_by p v) (copy_flying f)) c → IsFrom p v (flying_as f.number c)
  begins v f none e c i =
      let t = tables_by p v in
      let here : In (next_of t record { records = []; packet = f.packet }) c = subst (λ r. In (next_of t record { records = r; packet = f.packet }) c) none i in
      (zero, f.packet, e, in_left (next_of t record { records = []; packet = f.packet }) [] c here)

  -- tags by versions
  old_has : (f : Flying) → IsFrom p Old f → (1 ≤ slice_index f.packet p.tag) × (slice_index f.packet p.tag ≤ p.old_tags)
  old_has f w = members_from_all (λ (c : Copy). (1 ≤ slice_index c.packet p.tag) × (slice_index c.packet p.tag ≤ p.old_tags)) (waiting p.old (suc w.0) w.1) (tags.old w.0 w.1 w.2) (copy_flying f) w.3

  new_has : (f : Flying) → IsFrom p New f → p.old_tags < slice_index f.packet p.tag
  new_has f w = members_from_all (λ (c : Copy). p.old_tags < slice_index c.packet p.tag) (waiting p.new (suc w.0) w.1) (tags.new w.0 w.1 w.2) (copy_flying f) w.3

  -- the place of the tag
  tag_read : (f : Flying) → has_old_tag (staged p) f ≡ (nat_le 1 (slice_index f.packet p.tag) && nat_le (slice_index f.packet p.tag) p.old_tags)
  tag_read f = ap (λ o. nat_le 1 (slice_index f.packet (place_of o)) && nat_le (slice_index f.packet (place_of o)) p.old_tags) ok.tag

  -- a copy with an old tag, and copies without
  is_old : (f : Flying) → IsFrom p Old f → has_old_tag (staged p) f ≡ true
  is_old f w =
      let h = old_has f w in
      tag_read f
      ∙ ap (λ b. b && nat_le (slice_index f.packet p.tag) p.old_tags) (le_true 1 (slice_index f.packet p.tag) h.0) ∙ le_true (slice_index f.packet p.tag) p.old_tags h.1

  and_false : (a b : Bool) → b ≡ false → (a && b) ≡ false
  and_false true b e = e
  and_false false b e = refl

  isnt_old : (f : Flying) → IsFrom p New f → has_old_tag (staged p) f ≡ false
  isnt_old f w = tag_read f ∙ and_false (nat_le 1 (slice_index f.packet p.tag)) (nat_le (slice_index f.packet p.tag) p.old_tags) (le_false (slice_index f.packet p.tag) p.old_tags (new_has f w))

  enters_without : (f : Flying) → IsEntering p.old f.packet → has_old_tag (staged p) f ≡ false
  enters_without f e =
      tag_read f
      ∙ ap (λ n. nat_le 1 n && nat_le n p.old_tags) (untagged f.packet e)

  module _ (s : UpdateState) (h : Held p s) (f : Flying) (there : In s.flight.flying f) where
    abbrev here : ℕ
    here = slice_index f.packet 0

    abbrev steps : ℕ
    steps = s.done here

    -- a first step
    first_step : f.records ≡ [] → IsEntering p.old f.packet → (b : Bool) → nat_le steps 1 ≡ b → Stepping p s f (if b then Old else New)
    first_step none e true le =
        let few : steps ≤ 1 = true_le steps 1 le in
        record {
          same = untagged_before p ok steps f.packet (untagged f.packet e) few;
          from = begins Old f none e;
          late = λ sw three. let two = (h.third sw three).0 here (declared f.packet e) in absurd (omega (arith, two, few));
          newer = λ n. absurd (old_is_not_new n);
        }
    first_step none e false gt =
        let many : 2 ≤ steps =
        ⊎_elim (λ lt. let le : steps ≤ 1 = omega (arith, lt) in absurd (true≢false (sym (le_true steps 1 le) ∙ gt))) (λ ge. ge) (cases_lt steps 2) in
        record {
          same = untagged_after p ok steps f.packet (untagged f.packet e) many;
          from = begins New f none e;
          late = λ sw three. refl;
          newer = λ n. h.second here many;
        }

    -- a later one
    old_step : IsFrom p Old f → Stepping p s f Old
    old_step w =
        let tag = old_has f w in
        let clash_at : (sw : ℕ) → 3 ≤ s.done sw → ⊥ = λ sw three. true≢false (sym (is_old f w) ∙ (h.third sw three).1 f there) in
        let few : steps ≤ 2 = ⊎_elim (λ lt. omega (arith, lt)) (λ ge. absurd (clash_at here ge)) (cases_lt steps 3) in
        record {
          same = old_tag p ok steps f.packet tag.0 tag.1 few;
          from = goes_on Old f w;
          late = λ sw three. absurd (clash_at sw three);
          newer = λ n. absurd (old_is_not_new n);
        }

    new_step : IsFrom p New f → s.versions f.number ≡ Some New → Stepping p s f New
    new_step w e =
        record {
          same =
              ⊎_elim
              (λ i. new_tag p ok steps f.packet (new_has f w) (h.newer f.number e here i))
              (λ n.
              let none = nothing_there p ok steps f.packet n in
              none.0 ∙ sym none.1)
              (in_decided numbers_decided (switches_of p.old) here);
          from = goes_on New f w;
          late = λ sw three. refl;
          newer = λ n. h.newer f.number e;
        }

    -- each step
    stepping : Stepping p s f (noted (s.versions f.number) steps)
    stepping = by (s.versions f.number) refl (h.copies f there)
      where
        by : (o : Option Version) → s.versions f.number ≡ o → IsWell p o f → Stepping p s f (noted o steps)
        by None e w = first_step w.0 w.1 (nat_le steps 1) refl
        by (Some Old) e w = old_step w
        by (Some New) e w = new_step w e

    -- what the switch's table leads to is what the version's tables do
    next_same : (v : Version) → sent_for (tables_after (plan_of p) steps) f.packet ≡ sent_for (tables_by p v) f.packet
        → (next_of (tables_after (plan_of p) steps) (copy_flying f) ≡ next_of (tables_by p v) (copy_flying f)) × (left_of (tables_after (plan_of p) steps) (copy_flying f) ≡ left_of (tables_by p v) (copy_flying f))
    next_same Old e = (ap (flat_map (across p.old f.records)) e, ap (flat_map (leaving p.old f.records)) e)
    next_same New e =
        let frame = framed p.new p.old.fields p.old.topo (sym ok.fields) (sym ok.topo) in
        let t : Tables = record { fields = p.old.fields; topo = p.old.topo; tables = p.new.tables } in (
          ap (flat_map (across t f.records)) e ∙ ap (λ u. flat_map (across u f.records) (sent_for p.new f.packet)) frame,
          ap (flat_map (leaving t f.records)) e ∙ ap (λ u. flat_map (leaving u f.records) (sent_for p.new f.packet)) frame,
        )

  -- what holds of an injection looks at its own copies and histories alone
  by_version_same : (u w : FlightState) (n : ℕ) (pk : List ℕ) (o : Option Version) → flying_from n u.flying ≡ flying_from n w.flying → left_from n u.left ≡ left_from n w.left
      → ByVersion p u n pk o → ByVersion p w n pk o
  by_version_same u w n pk None c l b = (sym c ∙ b.0, sym l ∙ b.1)
  by_version_same u w n pk (Some v) c l b =
      λ k.
      subst (λ z. IsPermutation (left_after (tables_by p v) k pk) (with_crossings k (left_from n w.left) ++ flat_map (owed_by (tables_by p v) k) z)) c
      (subst (λ z. IsPermutation (left_after (tables_by p v) k pk) (with_crossings k z ++ flat_map (owed_by (tables_by p v) k) (flying_from n u.flying))) l (b k))

  -- an injection's count by the version that its step notes holds before the step
  counted_before : (u : FlightState) (n : ℕ) (pk : List ℕ) (o : Option Version) (steps : ℕ) → ByVersion p u n pk o
      → (k : ℕ) → IsPermutation (left_after (tables_by p (noted o steps)) k pk) (left_or_owed_by (tables_by p (noted o steps)) u n k)
  counted_before u n pk None d b k =
      let t = tables_by p (noted None d) in
      let is : left_or_owed_by t u n k ≡ left_after t k pk =
      ap (λ z. with_crossings k z ++ flat_map (owed_by t k) (flying_from n u.flying)) b.1
      ∙ ap (flat_map (owed_by t k)) b.0
      ∙ append-nil (owed_by t k record { records = []; packet = pk })
      ∙ start_owes t k pk in
      subst (IsPermutation (left_after t k pk)) (sym is) (IsPermutation-refl (left_after t k pk))
  counted_before u n pk (Some v) d b k = b k

  -- a copy of a number stands among the copies of that number
  one_there : (n : ℕ) (fs : List Flying) (g : Flying) → In fs g → g.number == n ≡ true → 1 ≤ length (flying_from n fs)
  one_there n [] g i e = absurd i
  one_there n (x ∷ xs) g i e = by (x.number == n) refl i (one_there n xs g)
    where
      by : (b : Bool) → x.number == n ≡ b → In (x ∷ xs) g → (In xs g → g.number == n ≡ true → 1 ≤ length (flying_from n xs)) →
          1 ≤ length (map copy_flying (cond b (x ∷ filter (λ (y : Flying). y.number == n) xs) (filter (λ (y : Flying). y.number == n) xs)))
      by true f i r = omega arith
      by false f i r = ⊎_elim (λ s. absurd (true≢false (sym e ∙ ap (λ (y : Flying). y.number == n) s ∙ f))) (λ j. r j e) i

  module _ (s : UpdateState) (h : Held p s) (f : Flying) (A B : List Flying) (is : s.flight.flying ≡ A ++ f ∷ B) (v : Version) (noting_it : v ≡ noted (s.versions f.number) (s.done (slice_index f.packet 0))) (st : Stepping p s f v) where
    abbrev next : List Flying
    next = flying_next (tables_by p v) f

    -- the flight and the state after the step
    abbrev flight_then : FlightState
    flight_then = record s.flight { flying = (A ++ B) ++ next; left = s.flight.left ++ left_next (tables_by p v) f }

    abbrev then_state : UpdateState
    then_state = record s { flight = flight_then; versions = noting f.number v s.versions }

    -- the versions of this injection and of the others
    version_same : (n : ℕ) → n == f.number ≡ true → noting f.number v s.versions n ≡ Some v
    version_same n e = ap (λ b. if b then Some v else s.versions n) e

    version_other : (n : ℕ) → n == f.number ≡ false → noting f.number v s.versions n ≡ s.versions n
    version_other n e = ap (λ b. if b then Some v else s.versions n) e

    turned : (n : ℕ) → n == f.number ≡ false → f.number == n ≡ false
    turned n e = eq_false f.number n (λ q. false_eq n f.number e (sym q))

    -- the others were there before
    was_there : (g : Flying) → In (A ++ B) g → In s.flight.flying g
    was_there g i =
        subst (λ l. In l g) (sym is)
        (⊎_elim (λ a. in_left A (f ∷ B) g a) (λ b. in_right A (f ∷ B) g (inr b)) (in_either A B g i))

    -- copies of other injections
    copies_others : (n : ℕ) → f.number == n ≡ false → flying_from n ((A ++ B) ++ next) ≡ flying_from n s.flight.flying
    copies_others n e =
        copies_joined n (A ++ B) next
        ∙ ap (λ l. flying_from n (A ++ B) ++ l) (copies_other n f.number e (next_of (tables_by p v) (copy_flying f)))
        ∙ append-nil (flying_from n (A ++ B))
        ∙ copies_joined n A B
        ∙ sym (ap (flying_from n) is ∙ copies_joined n A (f ∷ B) ∙ ap (λ l. flying_from n A ++ l) (copies_joined n (f ∷ []) B ∙ ap (λ l. l ++ flying_from n B) (one_other n f e)))

    histories_others : (n : ℕ) → f.number == n ≡ false → left_from n (s.flight.left ++ left_next (tables_by p v) f) ≡ left_from n s.flight.left
    histories_others n e =
        histories_joined n s.flight.left (left_next (tables_by p v) f)
        ∙ ap (λ l. left_from n s.flight.left ++ l) (histories_other n f.number e (left_of (tables_by p v) (copy_flying f)))
        ∙ append-nil (left_from n s.flight.left)

    -- where there is another copy of the injection, it has stepped
    not_alone : (g : Flying) → In (A ++ B) g → g.number == f.number ≡ true → s.versions f.number ≡ None → ⊥
    not_alone g i e none =
        let n = f.number in
        let parts : length (flying_from n s.flight.flying) ≡ length (flying_from n A ++ (copy_flying f ∷ flying_from n B)) =
        ap length (ap (flying_from n) is ∙ copies_joined n A (f ∷ B) ∙ ap (λ l. flying_from n A ++ l) (copies_joined n (f ∷ []) B ∙ ap (λ l. l ++ flying_from n B) (one_same n f (eq_true n n refl)))) in
        let one = one_there n (A ++ B) g i e in
        let sizes : length (flying_from n (A ++ B)) ≡ length (flying_from n A) + length (flying_from n B) = ap length (copies_joined n A B) ∙ length-append (flying_from n A) (flying_from n B) in
        omega (arith, h.single n none, parts, length-append (flying_from n A) (copy_flying f ∷ flying_from n B), one, sizes)

    -- each copy is well
    copies_then : (g : Flying) → In ((A ++ B) ++ next) g → IsWell p (noting f.number v s.versions g.number) g
    copies_then g i =
        ⊎_elim
        (λ a.
        ⊎_elim
        (λ e.
        let number : g.number ≡ f.number = true_eq g.number f.number e in
        subst (λ o. IsWell p o g) (sym (version_same g.number e))
        (known a e (s.versions f.number) refl (subst (λ n. IsWell p (s.versions n) g) number (h.copies g (was_there g a)))))
        (λ e. subst (λ o. IsWell p o g) (sym (version_other g.number e)) (h.copies g (was_there g a)))
        (true_or_false (g.number == f.number)))
        (λ b.
        let m = from_mapped (flying_as f.number) (next_of (tables_by p v) (copy_flying f)) g b in
        subst (λ z. IsWell p (noting f.number v s.versions z.number) z) (sym m.2)
        (subst (λ o. IsWell p o (flying_as f.number m.0)) (sym (version_same f.number (eq_true f.number f.number refl))) (st.from m.0 m.1)))
        (in_either (A ++ B) next g i)
      where
        known : In (A ++ B) g → g.number == f.number ≡ true → (o : Option Version) → s.versions f.number ≡ o → IsWell p o g → IsFrom p v g
        known a e None q w = absurd (not_alone g a e q)
        known a e (Some u) q w = subst (λ z. IsFrom p z g) (sym (noting_it ∙ ap (λ o. noted o (s.done (slice_index f.packet 0))) q)) w

    -- no copy has an old tag once a third step is done
    third_then : (sw : ℕ) → 3 ≤ s.done sw → (g : Flying) → In ((A ++ B) ++ next) g → has_old_tag (staged p) g ≡ false
    third_then sw three g i =
        ⊎_elim
        (λ a. (h.third sw three).1 g (was_there g a))
        (λ b.
        let m = from_mapped (flying_as f.number) (next_of (tables_by p v) (copy_flying f)) g b in
        let w = subst (λ z. IsFrom p z (flying_as f.number m.0)) (st.late sw three) (st.from m.0 m.1) in
        subst (λ z. has_old_tag (staged p) z ≡ false) (sym m.2) (isnt_old (flying_as f.number m.0) w))
        (in_either (A ++ B) next g i)

    single_then : (n : ℕ) → noting f.number v s.versions n ≡ None → length (flying_from n ((A ++ B) ++ next)) ≤ 1
    single_then n e =
        ⊎_elim
        (λ y. absurd (some_is_not_none v (sym (version_same n y) ∙ e)))
        (λ o. subst (λ l. length l ≤ 1) (sym (copies_others n (turned n o))) (h.single n (sym (version_other n o) ∙ e)))
        (true_or_false (n == f.number))

    newer_then : (n : ℕ) → noting f.number v s.versions n ≡ Some New → (m : ℕ) → In (switches_of p.old) m → 1 ≤ s.done m
    newer_then n e =
        ⊎_elim
        (λ y. st.newer (same_some v New (sym (version_same n y) ∙ e)))
        (λ o. h.newer n (sym (version_other n o) ∙ e))
        (true_or_false (n == f.number))

    counts_then : (i : ℕ) (pk : List ℕ) → slice_get s.flight.packets i ≡ Some pk → ByVersion p flight_then (i + 1) pk (noting f.number v s.versions (i + 1))
    counts_then i pk e =
        ⊎_elim
        (λ y.
        let number : i + 1 ≡ f.number = true_eq (i + 1) f.number y in
        subst (ByVersion p flight_then (i + 1) pk) (sym (version_same (i + 1) y))
        (λ k.
        let before = counted_before s.flight (i + 1) pk (s.versions (i + 1)) (s.done (slice_index f.packet 0)) (h.counts i pk e) k in
        let by : noted (s.versions (i + 1)) (s.done (slice_index f.packet 0)) ≡ v = ap (λ n. noted (s.versions n) (s.done (slice_index f.packet 0))) number ∙ sym noting_it in
        IsPermutation-trans (left_after (tables_by p v) k pk) (left_or_owed_by (tables_by p v) s.flight (i + 1) k) (left_or_owed_by (tables_by p v) flight_then (i + 1) k)
        (subst (λ u. IsPermutation (left_after (tables_by p u) k pk) (left_or_owed_by (tables_by p u) s.flight (i + 1) k)) by before)
        (handled_keeps (tables_by p v) (i + 1) k s.flight.flying A B s.flight.left f is)))
        (λ o.
        subst (ByVersion p flight_then (i + 1) pk) (sym (version_other (i + 1) o))
        (by_version_same s.flight flight_then (i + 1) pk (s.versions (i + 1)) (sym (copies_others (i + 1) (turned (i + 1) o))) (sym (histories_others (i + 1) (turned (i + 1) o))) (h.counts i pk e)))
        (true_or_false (i + 1 == f.number))

    quiet_then : (n : ℕ) → length s.flight.packets < n → (flying_from n ((A ++ B) ++ next) ≡ []) × (left_from n (s.flight.left ++ left_next (tables_by p v) f) ≡ []) × (noting f.number v s.versions n ≡ None)
    quiet_then n lt =
        let none = h.quiet n lt in
        let parts = both_empty (flying_from n A) (flying_from n (f ∷ B)) (sym (copies_joined n A (f ∷ B)) ∙ ap (flying_from n) (sym is) ∙ none.0) in
        let rest = both_empty (flying_from n (f ∷ [])) (flying_from n B) (sym (copies_joined n (f ∷ []) B) ∙ parts.1) in
        let other = not_here n f rest.0 in
        let other' = eq_false n f.number (λ q. false_eq f.number n other (sym q)) in (
          copies_others n other ∙ none.0,
          histories_others n other ∙ none.1,
          version_other n other' ∙ none.2,
        )

    -- so all holds after the step
    step_held : Held p then_state
    step_held = record {
      second = h.second;
      third = λ sw three. ((h.third sw three).0, third_then sw three);
      copies = copies_then;
      single = single_then;
      newer = newer_then;
      counts = counts_then;
      quiet = quiet_then;
    }

  -- a copy that is handled
  handled_held : (s : UpdateState) → Held p s → (f : Flying) (A B : List Flying) → s.flight.flying ≡ A ++ f ∷ B → Held p (handled_there (staged p) s (Some f) (A ++ B))
  handled_held s h f A B is =
      let there : In s.flight.flying f = subst (λ l. In l f) (sym is) (in_right A (f ∷ B) f (inl refl)) in
      let steps = s.done (slice_index f.packet 0) in
      let v = noted (s.versions f.number) steps in
      let st = stepping s h f there in
      let same = next_same s h f there v st.same in
      let next = ap (λ t. next_of t (copy_flying f)) (stage_is (plan_of p) steps) ∙ same.0 in
      let gone = ap (λ t. left_of t (copy_flying f)) (stage_is (plan_of p) steps) ∙ same.1 in
      subst (Held p)
      (λ i. record s {
        flight = record s.flight { flying = (A ++ B) ++ map (flying_as f.number) ((sym next) i); left = s.flight.left ++ map (left_as f.number) ((sym gone) i) };
        versions = noting f.number v s.versions;
      })
      (step_held s h f A B is v refl st)

  -- a move
  moved_held : (s : UpdateState) (i : ℕ) → Held p s → Held p (moved (staged p) i s)
  moved_held s i h =
      ⊎_elim
      (λ e. subst (λ o. Held p (handled_there (staged p) s o (remove s.flight.flying i))) (sym e) h)
      (λ r.
      subst (λ o. Held p (handled_there (staged p) s o (remove s.flight.flying i))) (sym r.3)
      (subst (λ l. Held p (handled_there (staged p) s (Some r.1) l)) (sym r.5) (handled_held s h r.1 r.0 r.2 r.4)))
      (split_at s.flight.flying i)

  module _ (s : UpdateState) (h : Held p s) (new : List ℕ) (enters : IsEntering p.old new) where
    abbrev number : ℕ
    number = length s.flight.packets + 1

    abbrev copy : Flying
    copy = record { number = number; records = []; packet = new }

    later : length s.flight.packets < number
    later = omega arith

    -- the injection's number was not given before
    given : s.versions number ≡ None
    given = (h.quiet number later).2

    copies_other_number : (n : ℕ) → number == n ≡ false → flying_from n (s.flight.flying ++ copy ∷ []) ≡ flying_from n s.flight.flying
    copies_other_number n e =
        copies_joined n s.flight.flying (copy ∷ []) ∙ ap (λ l. flying_from n s.flight.flying ++ l) (one_other n copy e) ∙ append-nil (flying_from n s.flight.flying)

    copies_this_number : (n : ℕ) → number ≡ n → flying_from n (s.flight.flying ++ copy ∷ []) ≡ record { records = []; packet = new } ∷ []
    copies_this_number n e =
        let lt : length s.flight.packets < n = omega (arith, e) in
        copies_joined n s.flight.flying (copy ∷ []) ∙ ap (λ l. l ++ flying_from n (copy ∷ [])) (h.quiet n lt).0 ∙ one_same n copy (eq_true number n e)

    inject_copies : (g : Flying) → In (s.flight.flying ++ copy ∷ []) g → IsWell p (s.versions g.number) g
    inject_copies g i =
        ⊎_elim
        (λ a. h.copies g a)
        (λ b.
        ⊎_elim
        (λ e. subst (λ (z : Flying). IsWell p (s.versions z.number) z) (sym e) (subst (λ o. IsWell p o copy) (sym given) (refl, enters)))
        (λ none. absurd none)
        b)
        (in_either s.flight.flying (copy ∷ []) g i)

    inject_third : (sw : ℕ) → 3 ≤ s.done sw → (g : Flying) → In (s.flight.flying ++ copy ∷ []) g → has_old_tag (staged p) g ≡ false
    inject_third sw three g i =
        ⊎_elim
        (λ a. (h.third sw three).1 g a)
        (λ b. ⊎_elim (λ e. subst (λ z. has_old_tag (staged p) z ≡ false) (sym e) (enters_without copy enters)) (λ none. absurd none) b)
        (in_either s.flight.flying (copy ∷ []) g i)

    inject_single : (n : ℕ) → s.versions n ≡ None → length (flying_from n (s.flight.flying ++ copy ∷ [])) ≤ 1
    inject_single n e =
        ⊎_elim
        (λ y. let one = ap length (copies_this_number n (true_eq number n y)) in omega (arith, one))
        (λ o. subst (λ l. length l ≤ 1) (sym (copies_other_number n o)) (h.single n e))
        (true_or_false (number == n))

    inject_counts : (i : ℕ) (pk : List ℕ) → slice_get (s.flight.packets ++ new ∷ []) i ≡ Some pk → ByVersion p (injected new s.flight) (i + 1) pk (s.versions (i + 1))
    inject_counts i pk e =
        ⊎_elim
        (λ r.
        let other : number ≢ i + 1 = omega (arith, r.0) in
        by_version_same s.flight (injected new s.flight) (i + 1) pk (s.versions (i + 1)) (sym (copies_other_number (i + 1) (eq_false number (i + 1) other))) refl (h.counts i pk r.1))
        (λ r.
        let same : number ≡ i + 1 = omega (arith, r.0) in
        let lt : length s.flight.packets < i + 1 = omega (arith, r.0) in
        subst (ByVersion p (injected new s.flight) (i + 1) pk) (sym (h.quiet (i + 1) lt).2)
        (copies_this_number (i + 1) same ∙ ap (λ (z : List ℕ). record { records = []; packet = z } ∷ []) r.1, (h.quiet (i + 1) lt).1))
        (at_end s.flight.packets new i pk e)

    inject_quiet : (n : ℕ) → length (s.flight.packets ++ new ∷ []) < n → (flying_from n (s.flight.flying ++ copy ∷ []) ≡ []) × (left_from n s.flight.left ≡ []) × (s.versions n ≡ None)
    inject_quiet n lt =
        let lt' : length s.flight.packets < n = omega (arith, length-append s.flight.packets (new ∷ []), lt) in
        let other : number ≢ n = omega (arith, length-append s.flight.packets (new ∷ []), lt) in
        let none = h.quiet n lt' in
        (copies_other_number n (eq_false number n other) ∙ none.0, none.1, none.2)

    -- an injection
    inject_held : Held p (record s { flight = injected new s.flight })
    inject_held = record {
      second = h.second;
      third = λ sw three. ((h.third sw three).0, inject_third sw three);
      copies = inject_copies;
      single = inject_single;
      newer = h.newer;
      counts = inject_counts;
      quiet = inject_quiet;
    }

  module _ (s : UpdateState) (h : Held p s) (sw : ℕ) (may : may_go_on (staged p) s (s.done sw) ≡ true) where
    abbrev done_then : ℕ → ℕ
    done_then = one_more_event sw s.done

    -- counts never fall
    grows : (n : ℕ) → s.done n ≤ done_then n
    grows n = by (n == sw)
      where
        by : (b : Bool) → s.done n ≤ (if b then s.done n + 1 else s.done n)
        by true = omega arith
        by false = omega arith

    done_here : (n : ℕ) → n == sw ≡ true → done_then n ≡ s.done sw + 1
    done_here n e = ap (λ b. if b then s.done n + 1 else s.done n) e ∙ ap (λ m. s.done m + 1) (true_eq n sw e)

    done_other : (n : ℕ) → n == sw ≡ false → done_then n ≡ s.done n
    done_other n e = ap (λ b. if b then s.done n + 1 else s.done n) e

    -- what the next step needed
    needed_first : (d : ℕ) → 1 ≡ d → may_go_on (staged p) s d ≡ true → (n : ℕ) → In (switches_of p.old) n → 1 ≤ s.done n
    needed_first d e m n i = true_le 1 (s.done n) (each_passes (λ z. nat_le 1 (s.done z)) (switches_of p.old) n (subst (λ d. may_go_on (staged p) s d ≡ true) (sym e) m) i)

    needed_second : (d : ℕ) → 2 ≡ d → may_go_on (staged p) s d ≡ true → ((n : ℕ) → In (switches_of p.old) n → 2 ≤ s.done n) × ((f : Flying) → In s.flight.flying f → has_old_tag (staged p) f ≡ false)
    needed_second d e m =
        let both = both_passed (all_have_done (staged p) 2 s.done) (list_all (λ (f : Flying). not (has_old_tag (staged p) f)) s.flight.flying) (subst (λ d. may_go_on (staged p) s d ≡ true) (sym e) m) in (
          λ n i. true_le 2 (s.done n) (each_passes (λ z. nat_le 2 (s.done z)) (switches_of p.old) n both.0 i),
          λ f i. not_true (has_old_tag (staged p) f) (each_passes (λ (z : Flying). not (has_old_tag (staged p) z)) s.flight.flying f both.1 i),
        )

    second_then : (m : ℕ) → 2 ≤ done_then m → (n : ℕ) → In (switches_of p.old) n → 1 ≤ done_then n
    second_then m two n i =
        ⊎_elim
        (λ y.
        let one : 1 ≤ s.done sw = omega (arith, done_here m y, two) in
        ⊎_elim
        (λ lt.
        let first : 1 ≡ s.done sw = omega (arith, one, lt) in
        let all = needed_first (s.done sw) first may n i in
        omega (arith, all, grows n))
        (λ ge. let all = h.second sw ge n i in omega (arith, all, grows n))
        (cases_lt (s.done sw) 2))
        (λ o. let was : 2 ≤ s.done m = subst (λ z. 2 ≤ z) (done_other m o) two in let all = h.second m was n i in omega (arith, all, grows n))
        (true_or_false (m == sw))

    third_planned : (m : ℕ) → 3 ≤ done_then m → ((n : ℕ) → In (switches_of p.old) n → 2 ≤ s.done n) × ((f : Flying) → In s.flight.flying f → has_old_tag (staged p) f ≡ false)
    third_planned m three =
        ⊎_elim
        (λ y.
        let two : 2 ≤ s.done sw = omega (arith, done_here m y, three) in
        ⊎_elim
        (λ lt. let second : 2 ≡ s.done sw = omega (arith, two, lt) in needed_second (s.done sw) second may)
        (λ ge. h.third sw ge)
        (cases_lt (s.done sw) 3))
        (λ o. h.third m (subst (λ z. 3 ≤ z) (done_other m o) three))
        (true_or_false (m == sw))

    -- a plan step
    plan_held : Held p (record s { done = done_then })
    plan_held = record {
      second = second_then;
      third = λ m three. let was = third_planned m three in (λ n i. let all = was.0 n i in omega (arith, all, grows n), was.1);
      copies = h.copies;
      single = h.single;
      newer = λ n e m i. let all = h.newer n e m i in omega (arith, all, grows m);
      counts = h.counts;
      quiet = h.quiet;
    }

  planned_held : (s : UpdateState) (sw : ℕ) → Held p s → Held p (planned (staged p) sw s)
  planned_held s sw h = by (may_plan (staged p) s sw) refl
    where
      by : (b : Bool) → may_plan (staged p) s sw ≡ b → Held p (if b then record s { done = one_more_event sw s.done } else s)
      by true e = plan_held s h sw (both_passed (is_switch p.old.topo sw) (may_go_on (staged p) s (s.done sw)) e).1
      by false e = h

  -- before all
  start_held : Held p (at_the_start (staged p))
  start_held = record {
    second = λ sw two. absurd (omega (arith, two));
    third = λ sw three. absurd (omega (arith, three));
    copies = λ f i. absurd i;
    single = λ n e. omega arith;
    newer = λ n e. absurd (clash New e);
    counts = λ i pk e. absurd (clash pk e);
    quiet = λ n lt. (refl, refl, refl);
  }

  -- whatever happens
  events_held : (es : List UpdateEvent) (s : UpdateState) → AreEntering p.old es → Held p s → Held p (after_updates (staged p) es s)
  events_held [] s a h = h
  events_held (inject pk ∷ es) s a h = events_held es (after_update (staged p) (inject pk) s) a.1 (inject_held s h pk a.0)
  events_held (move i ∷ es) s a h = events_held es (after_update (staged p) (move i) s) a (moved_held s i h)
  events_held (plan sw ∷ es) s a h = events_held es (after_update (staged p) (plan sw) s) a (planned_held s sw h)

  -- no mixture
  pub no_mixture : (es : List UpdateEvent) → AreEntering p.old es → (i : ℕ) (pk : List ℕ) → slice_get (after_updates (staged p) es (at_the_start (staged p))).flight.packets i ≡ Some pk
      → ByVersion p (after_updates (staged p) es (at_the_start (staged p))).flight (i + 1) pk ((after_updates (staged p) es (at_the_start (staged p))).versions (i + 1))
  no_mixture es a i pk e = (events_held es (at_the_start (staged p)) a start_held).counts i pk e
