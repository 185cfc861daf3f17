-- The states of an automaton are those of the policy's positions; those of a tag stay at their switch, and are alike
-- whatever the tag.
use Rattle.std.proofs.Common.{◌≡◌, ℕ, zero, suc, ◌+◌, ◌<◌, ◌≤◌, false, ⊎_elim, List, [], ◌∷◌, length, get_or, refl, sym, ap, subst, ◌∙◌, arith}
use Rattle.std.specs.Prelude.{Contains, slice_index, slice_set}
use Rattle.nk_field.proofs.Lists.{in_from_contains, contains_from_in, from_mapped}
use Rattle.nk_policy.specs.Policy.{Policy}
use Rattle.nk_policy.specs.Meaning.{Gives, Runs}
use Rattle.nk_policy.specs.Progress.{RecordsAt}
use Rattle.nk_policy.specs.After.{after}
use Rattle.nk_policy.specs.PositionSets.{at_position}
use Rattle.nk_policy.specs.Distinct.{HasDistinct}
use Rattle.nk_policy.specs.Leaves.{has_leaf, is_dup, is_switch_assignment, is_on_field}
use Rattle.nk_policy.specs.Literals.{Literal, HoldsLiteral}
use Rattle.nk_policy.specs.Crossings.{IsBetween}
use Rattle.nk_policy.specs.Ranges.{UsesOnly}
use Rattle.nk_policy.proofs.Untouched.{IsOther}
use Rattle.nk_policy.proofs.Uses.{rest_uses}
use Rattle.nk_policy.proofs.LinkStructure.{between, off_link}
use Rattle.nk_policy.proofs.LabelSteps.{gives_is_runs}
use Rattle.nk_policy.proofs.Parity.{no_records}
use Rattle.nk_store.specs.StoreState.{StoreState, IsStorePacket}
use Rattle.nk_store.proofs.Same.{set_in_range}
use Rattle.nk_apply.specs.Unions.{AreIds}
use Rattle.nk_determ.specs.States.{StateLeads}
use Rattle.nk_auto.specs.Automaton.{IsState, IsAutomaton}
use Rattle.nk_group.specs.States.{StayAt}
use Rattle.nk_group.specs.Tagged.{set_of_tag, members_of}
use Rattle.nk_compile.proofs.TagFree.{uses_others, assigns_only, keeps_field, records_field, ends_stay, first_records_stay}

-- what is left at a position after a dup
pub at_later : (p : Policy) (l : ℕ) → at_position p (l + 1) ≡ after p (l + 1)
at_later p l = let e : l + 1 ≡ suc l = omega arith in ap (at_position p) e ∙ ap (after p) (sym e)

module _ (st : StoreState) (states : List ℕ) (p : Policy) (auto : IsAutomaton st states 1 p) where
  -- each is the state of its position
  pub position_state : (l : ℕ) → l < length states → IsState st (get_or states l 0) (at_position p l)
  position_state zero lt = auto.start
  position_state (suc l) lt =
      let e : 1 + l ≡ suc l = omega arith in
      subst (λ k. IsState st (get_or states k 0) (after p k)) e (auto.rest l (omega (arith, lt, auto.count)))

  -- and a diagram of the store
  pub state_ids : AreIds st states
  state_ids l lt = (position_state l lt).id

-- a tag's positions: after the second dups of literals of the policy
pub record IsTagged (p : Policy) (ss : List (List ℕ)) (tags : List ℕ) (t : ℕ) : Type 0 where
  pub literal : (l : ℕ) → Contains (set_of_tag ss tags t) l → (k : Literal) × HoldsLiteral p k × (k.mark ≡ l)

-- a position at which a packet can be off links
pub record IsOffLink (p : Policy) (tag : ℕ) (q : Policy) : Type 0 where
  pub between : IsBetween (HoldsLiteral p) q
  pub others : UsesOnly (IsOther tag) q

module _ (p : Policy) (tag : ℕ) (past : 2 ≤ tag) (distinct : HasDistinct p) (no_tag : has_leaf (is_on_field tag) p ≡ false)
    (no_dup : has_leaf is_dup p ≡ false) (no_switch : has_leaf is_switch_assignment p ≡ false) where
  -- the start is one
  start_off : IsOffLink p tag p
  start_off = record { between = between p no_dup no_switch; others = uses_others tag past p no_tag }

  -- and so is what is after a literal
  later_off : (k : Literal) → HoldsLiteral p k → IsOffLink p tag (after p (k.mark + 1))
  later_off k h = record {
    between = off_link p distinct no_dup no_switch k h;
    others = rest_uses (IsOther tag) p (k.mark + 1) (uses_others tag past p no_tag);
  }

  -- the positions of a tag are such
  pub members_off : (ss : List (List ℕ)) (tags : List ℕ) (t : ℕ) → ((i : ℕ) → t ≡ suc i → IsTagged p ss tags i) → (l : ℕ) → Contains (members_of ss tags t) l →
      IsOffLink p tag (at_position p l)
  members_off ss tags zero h l c =
      ⊎_elim (λ e. subst (λ n. IsOffLink p tag (at_position p n)) (sym e) start_off) (λ i. absurd i) (in_from_contains (0 ∷ []) l c)
  members_off ss tags (suc i) h l c =
      let m = from_mapped (λ n. n + 1) (set_of_tag ss tags i) l (in_from_contains _ l c) in
      let k = (h i refl).literal m.0 (contains_from_in _ _ m.1) in
      subst (λ n. IsOffLink p tag (at_position p n)) (ap (λ n. n + 1) k.2 ∙ sym m.2)
      (subst (IsOffLink p tag) (sym (at_later p k.0.mark)) (later_off k.0 k.1))

  module _ (st : StoreState) (states members : List ℕ) (auto : IsAutomaton st states 1 p) (inside : (l : ℕ) → Contains members l → l < length states)
      (off : (l : ℕ) → Contains members l → IsOffLink p tag (at_position p l)) where
    -- a state stays at its switch and keeps the tag
    keeps_at : (pk y : List ℕ) (t : ℕ) → IsStorePacket st pk → StateLeads st states members pk y t → (slice_index y 0 ≡ slice_index pk 0) × (slice_index y tag ≡ slice_index pk tag)
    keeps_at pk y zero r s =
        let o = off s.0 s.1 in
        let g : Gives (at_position p s.0) pk [] y = ((position_state st states p auto s.0 (inside s.0 s.1)).ends pk y r).0 s.2 in
        let v = (gives_is_runs (at_position p s.0) pk [] y).0 g in
        let run = subst (λ w. Runs (at_position p s.0) pk w y) (no_records v.0 v.1) v.2 in
        (o.between.ends pk y run, keeps_field tag (at_position p s.0) (assigns_only tag (at_position p s.0) o.others) pk [] y g)
    keeps_at pk y (suc t) r s =
        let o = off s.0 s.1 in
        let one : 1 ≤ suc t = omega arith in
        let g : RecordsAt (at_position p s.0) pk [] y (suc t) = ((position_state st states p auto s.0 (inside s.0 s.1)).records pk y (suc t) r one).0 s.2 in
        ((o.between.records pk y (suc t) g).4, records_field tag (at_position p s.0) (assigns_only tag (at_position p s.0) o.others) pk [] y (suc t) g)

    -- and does the same for packets that differ in the tag alone
    free_at : (pk y : List ℕ) (t n : ℕ) → IsStorePacket st pk → IsStorePacket st (slice_set pk tag n) → StateLeads st states members pk y t → StateLeads st states members (slice_set pk tag n) (slice_set y tag n) t
    free_at pk y zero n r there s =
        let q = position_state st states p auto s.0 (inside s.0 s.1) in
        (s.0, s.1, (q.ends (slice_set pk tag n) (slice_set y tag n) there).1 (ends_stay tag (at_position p s.0) (off s.0 s.1).others n pk y ((q.ends pk y r).0 s.2)))
    free_at pk y (suc t) n r there s =
        let q = position_state st states p auto s.0 (inside s.0 s.1) in
        let one : 1 ≤ suc t = omega arith in
        (s.0, s.1, (q.records (slice_set pk tag n) (slice_set y tag n) (suc t) there one).1 (first_records_stay tag (at_position p s.0) (off s.0 s.1).others n pk y (suc t) ((q.records pk y (suc t) r one).0 s.2)))

    pub states_stay : (sw : ℕ) → StayAt st tag sw states members
    states_stay sw = record {
      keeps = λ pk y t r here s. let k = keeps_at pk y t r s in (k.0 ∙ here, k.1);
      free = λ pk y t n r here le s. free_at pk y t n r (set_in_range st.maxes pk tag n r le) s;
    }
