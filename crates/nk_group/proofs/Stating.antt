-- The diagrams of the tags of switches, one more at a time, while the store and the sets grow.
use Rattle.std.proofs.Common.{◌≡◌, ℕ, ◌+◌, ◌<◌, List, [], ◌∷◌, ◌++◌, length, get_or, take, sym, ap, subst, ◌∙◌}
use Rattle.std.specs.Prelude.{All, map}
use Rattle.std.proofs.lemmas.List.{map-append, take_more}
use Rattle.std.proofs.lemmas.List.Elements.{All-push}
use Rattle.nk_store.specs.StoreState.{StoreState, Grows}
use Rattle.nk_apply.specs.Unions.{AreIds}
use Rattle.nk_determ.specs.Sets.{SetsGrow}
use Rattle.nk_group.specs.declared.switch_tags.SwitchTags.{SwitchTags}
use Rattle.nk_group.specs.declared.switch_tags.TagState.{TagState}
use Rattle.nk_group.specs.declared.switch_tags.SwitchStates.{SwitchStates}
use Rattle.nk_group.specs.Matched.{Matched}
use Rattle.nk_group.specs.States.{IsStateAtSwitch}
use Rattle.nk_group.specs.Tagged.{members_of}
use Rattle.nk_group.specs.Made.{HasLabelsBelow, TagsHaveLabelsBelow, IsTagState, AreStatesAt}
use Rattle.nk_group.proofs.Growing.{members_kept, places_kept, state_grown}
use Rattle.nk_group.proofs.Matching.{matched_push, matched_weaker}

-- states of an earlier store are states of a later one
pub ids_kept : (st new : StoreState) (states : List ℕ) → Grows st new → AreIds st states → AreIds new states
ids_kept st new states g ids k lt = g.ids (get_or states k 0) (ids k lt)

-- places stay
pub has_places : (ss more : List (List ℕ)) (tags : List ℕ) (count t : ℕ) → SetsGrow ss more → All (λ s. s < length ss) tags → HasLabelsBelow ss count tags t → HasLabelsBelow more count tags t
has_places ss more tags count t g known h = record { within = h.within; places = places_kept ss more tags count t g known h.within h.places }

-- of each switch
pub have_places : (ss more : List (List ℕ)) (tags : List ℕ) (count : ℕ) (s : SwitchTags) → SetsGrow ss more → All (λ s. s < length ss) tags → TagsHaveLabelsBelow ss count tags s → TagsHaveLabelsBelow more count tags s
have_places ss more tags count s g known h k d lt = has_places ss more tags count (get_or s.tags k d) g known (h k d lt)

-- a tag's diagram is one in a later store
pub tag_state_grown : (st new : StoreState) (ss more : List (List ℕ)) (states tags : List ℕ) (sw : ℕ) (e : TagState) → Grows st new → SetsGrow ss more → AreIds st states →
    All (λ s. s < length ss) tags → IsTagState st ss states tags sw e → IsTagState new more states tags sw e
tag_state_grown st new ss more states tags sw e g s ids known k = record {
  within = k.within;
  places = places_kept ss more tags (length states) e.tag s known k.within k.places;
  state =
      subst (λ m. IsStateAtSwitch new more states m sw e.diagram) (sym (members_kept ss more tags e.tag s known k.within))
      (state_grown st new states (members_of ss tags e.tag) g ids k.places ss more sw e.diagram s k.state);
}

-- the diagrams of some tags
pub record AreSoFar (st : StoreState) (ss : List (List ℕ)) (states tags : List ℕ) (sw : ℕ) (ts : List ℕ) (tag_states : List TagState) : Type 0 where
  pub tags_are : map (λ (e : TagState). e.tag) tag_states ≡ ts
  pub each : All (IsTagState st ss states tags sw) tag_states

-- one more
pub states_more : (st new : StoreState) (ss more : List (List ℕ)) (states tags : List ℕ) (sw : ℕ) (ts : List ℕ) (i t d : ℕ) (tag_states longer : List TagState) →
    Grows st new → SetsGrow ss more → AreIds st states → All (λ s. s < length ss) tags → i < length ts → t ≡ get_or ts i t →
    longer ≡ tag_states ++ (record { tag = t; diagram = d }) ∷ [] → HasLabelsBelow ss (length states) tags t → IsStateAtSwitch new more states (members_of ss tags t) sw d →
    AreSoFar st ss states tags sw (take i ts) tag_states → AreSoFar new more states tags sw (take (i + 1) ts) longer
states_more st new ss more states tags sw ts i t d tag_states longer g s ids known lt at is has state k = record {
  tags_are =
      ap (λ l. map (λ (e : TagState). e.tag) l) is
      ∙ map-append (λ (e : TagState). e.tag) tag_states (record { tag = t; diagram = d } ∷ [])
      ∙ ap (λ l. l ++ t ∷ []) k.tags_are
      ∙ ap (λ n. take i ts ++ n ∷ []) at
      ∙ sym (take_more ts i t lt);
  each =
      subst (All (IsTagState new more states tags sw)) (sym is)
      (All-push (IsTagState new more states tags sw) tag_states (record { tag = t; diagram = d })
      (λ j e less. tag_state_grown st new ss more states tags sw (get_or tag_states j e) g s ids known (k.each j e less))
      (record {
        within = has.within;
        places = places_kept ss more tags (length states) t s known has.within has.places;
        state = subst (λ m. IsStateAtSwitch new more states m sw d) (sym (members_kept ss more tags t s known has.within)) state;
      }));
}

-- the diagrams of a switch in a later store
pub states_grown : (st new : StoreState) (ss more : List (List ℕ)) (states tags : List ℕ) (s : SwitchTags) (tag_states : SwitchStates) → Grows st new → SetsGrow ss more → AreIds st states →
    All (λ s. s < length ss) tags → AreStatesAt st ss states tags s tag_states → AreStatesAt new more states tags s tag_states
states_grown st new ss more states tags s tag_states g grew ids known k = record {
  switch = k.switch;
  tags_are = k.tags_are;
  each = λ j e less. tag_state_grown st new ss more states tags s.switch (get_or tag_states.tag_states j e) g grew ids known (k.each j e less);
}

-- one more switch
pub all_more : (st new : StoreState) (ss more : List (List ℕ)) (states tags : List ℕ) (by_switch : List SwitchTags) (i : ℕ) (s : SwitchTags) (tag_states : SwitchStates) (all longer : List SwitchStates) →
    Grows st new → SetsGrow ss more → AreIds st states → All (λ s. s < length ss) tags → i < length by_switch → s ≡ get_or by_switch i s → longer ≡ all ++ tag_states ∷ [] →
    AreStatesAt new more states tags s tag_states → Matched (AreStatesAt st ss states tags) (take i by_switch) all → Matched (AreStatesAt new more states tags) (take (i + 1) by_switch) longer
all_more st new ss more states tags by_switch i s tag_states all longer g grew ids known lt at is one m =
    subst (λ l. Matched (AreStatesAt new more states tags) l longer) (ap (λ x. take i by_switch ++ x ∷ []) at ∙ sym (take_more by_switch i s lt))
    (subst (Matched (AreStatesAt new more states tags) (take i by_switch ++ s ∷ [])) (sym is)
    (matched_push (AreStatesAt new more states tags) (take i by_switch) all s tag_states
    (matched_weaker (AreStatesAt st ss states tags) (AreStatesAt new more states tags) (λ x y k. states_grown st new ss more states tags x y g grew ids known k) (take i by_switch) all m)
    one))
