-- The goal of sides, and the levels up to it, in a store that has grown since.
use Rattle.std.proofs.Common.{◌≡◌, ℕ, ◌+◌, Bool, ⊎_elim, inl, inr, List, [], ◌∷◌, length, sym, ap, subst, ◌∙◌, get_or}
use Rattle.std.specs.Prelude.{slice_index_or}
use Rattle.nk_field.specs.Packet.{FieldTable}
use Rattle.nk_policy.specs.Policy.{Policy, dups_of}
use Rattle.nk_store.specs.declared.node.Out.{Out}
use Rattle.nk_store.specs.StoreState.{StoreState, IsId, IsStorePacket, Grows, AreTidy}
use Rattle.nk_apply.specs.Unions.{AreIds}
use Rattle.nk_auto.proofs.Sending.{sends_on, sends_back}
use Rattle.nk_determ.specs.Pairs.{AreLabelsBelow}
use Rattle.nk_determ.specs.Levels.{AreLevels}
use Rattle.nk_reach.specs.Sides.{alone, alone_sided, ends_of, ends_same, EndsAt, AreOneSided}
use Rattle.nk_goal.proofs.Growing.{place_of}
use Rattle.nk_runs.proofs.Stands.{packet_back, are_states}
use Rattle.nk_store.proofs.Stores.{grows_on}
use Rattle.nk_cert.specs.Together.{either_of}
use Rattle.nk_cert.specs.Levelled.{IsAutomatonOfBoth, HasEach, IsOneSided, AreLevelsOfBoth, AreSideLevels}
use Rattle.nk_cert.proofs.CertRows.{goal_is_one_sided}

module _ (old new : StoreState) (states : List ℕ) (d bound k : ℕ) (g : Grows old new) (id : IsId old d) (ids : AreIds old states) (set pk : List ℕ) (places : AreLabelsBelow (length states) set) (y : List ℕ) where
  -- a side ends where it did
  ends_on : EndsAt old states d bound k set pk y → EndsAt new states d bound k set pk y
  ends_on e =
      ⊎_elim
      (λ h. inl (h.0, sends_on old new d pk y 0 g id h.1))
      (λ h. inr (h.0, h.1, h.2, h.3, sends_on old new (get_or states h.0 0) pk y 0 g (ids h.0 (place_of (length states) set h.0 places h.1)) h.4))
      e

  ends_back : EndsAt new states d bound k set pk y → EndsAt old states d bound k set pk y
  ends_back e =
      ⊎_elim
      (λ h. inl (h.0, sends_back old new d pk y 0 g id h.1))
      (λ h. inr (h.0, h.1, h.2, h.3, sends_back old new (get_or states h.0 0) pk y 0 g (ids h.0 (place_of (length states) set h.0 places h.1)) h.4))
      e

-- what is one-sided stays so while the store grows
pub one_sided_on : (old new : StoreState) (states : List ℕ) (left right bound : ℕ) (bad : List ℕ → List ℕ → List Out) → Grows old new
    → IsId old left → IsId old right → AreIds old states
    → IsOneSided old states left right bound bad → IsOneSided new states left right bound bad
one_sided_on old new states left right bound bad g il ir ids h = record {
  sides = λ set pk places range.
      let s = h.sides set pk places (packet_back old new pk g range) in
      record {
        left_alone = λ y. (
          λ m.
              let w = (s.left_alone y).0 m in (
                ends_on old new states left bound 1 g il ids set pk places y w.0,
                λ e. w.1 (ends_back old new states right bound 2 g ir ids set pk places y e),
              ),
          λ w. (s.left_alone y).1 (
            ends_back old new states left bound 1 g il ids set pk places y w.0,
            λ e. w.1 (ends_on old new states right bound 2 g ir ids set pk places y e),
          ),
        );
        right_alone = λ y. (
          λ m.
              let w = (s.right_alone y).0 m in (
                ends_on old new states right bound 2 g ir ids set pk places y w.0,
                λ e. w.1 (ends_back old new states left bound 1 g il ids set pk places y e),
              ),
          λ w. (s.right_alone y).1 (
            ends_back old new states right bound 2 g ir ids set pk places y w.0,
            λ e. w.1 (ends_on old new states left bound 1 g il ids set pk places y e),
          ),
        );
      };
  targets = λ set pk o c. h.targets set pk o c;
}

-- the levels up to the goal that was made of some states and both starts
pub side_levels : (first made old new : StoreState) (states : List ℕ) (left right bound set start : ℕ) (ss : List (List ℕ)) (ends now : List ℕ) (ls : List (List (ℕ × ℕ))) (broken : Bool)
    → Grows first made → Grows made old → Grows old new → AreTidy old
    → slice_index_or ss set [] ≡ 0 ∷ [] → IsId old start → HasEach old start
    → AreIds made ends → length ends ≡ length states
    → ((s pk : List ℕ) → AreLabelsBelow (length states) s → IsStorePacket first pk → AreOneSided first states left right bound s pk (alone (ends_of made ends s pk)))
    → AreIds new now → length now ≡ length ends
    → ((st : StoreState) (s pk : List ℕ) → alone (ends_of st now s pk) ≡ alone (ends_of st ends s pk))
    → AreLevels old new ss states set start (λ s pk. alone (ends_of old ends s pk)) ls broken
    → AreSideLevels first states left right bound new ss now ls broken
side_levels first made old new states left right bound set start ss ends now ls broken begun further grown tidy set_is id each ids count sided fits labels same levels = record {
  old = old;
  begun = grows_on first made old begun further;
  grown = grown;
  tidy = tidy;
  set = set;
  set_is = set_is;
  start = start;
  start_id = id;
  start_is = each;
  bad = λ s pk. alone (ends_of old ends s pk);
  sided = goal_is_one_sided first made old states left right bound ends ids count begun further sided;
  ids = fits;
  count = labels ∙ count;
  read = λ s pk places.
      let p : AreLabelsBelow (length ends) s = subst (λ n. AreLabelsBelow n s) (sym count) places in
      let kept : AreIds old ends = λ k lt. further.ids (get_or ends k 0) (ids k lt) in
      same new s pk ∙ ap alone (ends_same old new ends s pk grown kept p);
  levels = levels;
}

module _ (fields : FieldTable) (first : StoreState) (states : List ℕ) (left right bound : ℕ) (p q : Policy) (a : IsAutomatonOfBoth fields first states left right p q) (is : bound ≡ 1 + dups_of p)
    (new : StoreState) (ss : List (List ℕ)) (ends : List ℕ) (ls : List (List (ℕ × ℕ))) (broken : Bool) (lv : AreSideLevels first states left right bound new ss ends ls broken) where
  -- they are levels of both policies
  pub levels_of_policies : AreLevelsOfBoth fields p q states left right first lv.old new ss lv.set lv.start lv.bad ls broken
  levels_of_policies = record {
    automaton = a;
    goal = subst (λ b. IsOneSided first states left right b lv.bad) is lv.sided;
    grown = lv.begun;
    tidy = lv.tidy;
    set_is = lv.set_is;
    start_is = lv.start_is;
    levels = lv.levels;
  }

  -- the goal tells of one side in the store as it is now
  pub goal_now : IsOneSided new states left right (1 + dups_of p) (λ set pk. alone (ends_of new ends set pk))
  goal_now =
      let states_are = are_states first states (either_of p q) a.states_are in
      let on = one_sided_on first new states left right bound lv.bad (grows_on first lv.old new lv.begun lv.grown) a.left_start.id a.right_start.id states_are.ids lv.sided in
      subst (λ b. IsOneSided new states left right b (λ set pk. alone (ends_of new ends set pk))) is
      (record {
        sides = λ set pk places range. subst (λ outs. AreOneSided new states left right bound set pk outs) (sym (lv.read set pk places)) (on.sides set pk places range);
        targets = λ set pk o c. alone_sided (ends_of new ends set pk) o c;
      })
