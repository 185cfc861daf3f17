-- The diagrams of classes: one that does at a set's packets what one diagram does and elsewhere what another does, and such ones in
-- turn, while the store and the sets grow.
use Rattle.std.proofs.Common.{◌≡◌, ℕ, suc, ◌+◌, ◌<◌, cond, List, [], ◌∷◌, ◌++◌, length, get_or, drop, take, set, refl, sym, ap, subst, ◌∙◌, arith, append-nil, drop-cons}
use Rattle.std.specs.Prelude.{All}
use Rattle.std.proofs.lemmas.List.{take_more, drop_all}
use Rattle.nk_store.proofs.Stores.{grows_on}
use Rattle.nk_store.specs.declared.node.Out.{Out}
use Rattle.nk_store.specs.StoreState.{StoreState, IsId, IsWhole, look, Grows, HasLeaves}
use Rattle.nk_apply.specs.Leaves.{merged, guarded, absent}
use Rattle.nk_apply.specs.PacketSets.{has_some_out, is_in}
use Rattle.nk_apply.specs.Unions.{AreIds}
use Rattle.nk_apply.proofs.Weaves.{merged-nil}
use Rattle.nk_determ.specs.Sets.{SetsGrow}
use Rattle.nk_group.specs.declared.switch_tags.ActingTag.{ActingTag}
use Rattle.nk_group.specs.declared.switch_tags.ClassHere.{ClassHere}
use Rattle.nk_group.specs.declared.switch_tags.SwitchClasses.{SwitchClasses}
use Rattle.nk_group.specs.declared.switch_tags.SwitchStates.{SwitchStates}
use Rattle.nk_group.specs.declared.switch_tags.TagState.{TagState}
use Rattle.nk_group.specs.Matched.{Matched}
use Rattle.nk_group.specs.States.{IsStateAtSwitch}
use Rattle.nk_group.specs.Tagged.{members_of}
use Rattle.nk_group.specs.Made.{HasLabelsBelow}
use Rattle.nk_group.specs.Classed.{IsActingTag, HaveActing, HaveClasses, IsInFront, IsActingState, IsClassState, AreClassStates}
use Rattle.nk_group.proofs.Growing.{members_kept, state_grown}
use Rattle.nk_group.proofs.Stating.{has_places}
use Rattle.nk_group.proofs.Matching.{matched_push, matched_weaker}

-- one leaf where there is an out of a set, and the other where there is none
pub either_leaf : (s a b : List Out) → merged (guarded s a) (guarded (absent s s) b) ≡ cond (has_some_out s) a b
either_leaf [] a b = refl
either_leaf (x ∷ xs) a b = merged-nil a

-- so four diagrams make it
pub either_made : (a b c d : StoreState) (s first second others inside outside : ℕ) → Grows a b → Grows b c → Grows c d → IsId a s → IsId a first → IsId a second →
    HasLeaves b others (λ pk. absent (look a s pk) (look a s pk)) → HasLeaves c inside (λ pk. guarded (look b s pk) (look b first pk)) →
    HasLeaves d outside (λ pk. guarded (look c others pk) (look c second pk)) →
    (pk : List ℕ) → IsWhole pk → merged (look d inside pk) (look d outside pk) ≡ cond (is_in a s pk) (look a first pk) (look a second pk)
either_made a b c d s first second others inside outside ab bc cd ids idf idn neg inner rest pk w =
    ap (λ os. merged os (look d outside pk))
    (cd.leaves inside pk inner.id ∙ inner.leaf pk w ∙ ap (λ os. guarded os (look b first pk)) (ab.leaves s pk ids) ∙ ap (guarded (look a s pk)) (ab.leaves first pk idf))
    ∙ ap (merged (guarded (look a s pk) (look a first pk)))
    (rest.leaf pk w ∙ ap (λ os. guarded os (look c second pk)) (bc.leaves others pk neg.id ∙ neg.leaf pk w)
    ∙ ap (guarded (absent (look a s pk) (look a s pk))) (bc.leaves second pk (ab.ids second idn) ∙ ab.leaves second pk idn))
    ∙ either_leaf (look a s pk) (look a first pk) (look a second pk)

-- the sets of tags' packets stay
pub acting_tag_kept : (st new : StoreState) (ss more : List (List ℕ)) (tags : List ℕ) (count : ℕ) (a : ActingTag) → Grows st new → SetsGrow ss more → All (λ s. s < length ss) tags →
    IsActingTag st ss count tags a → IsActingTag new more count tags a
acting_tag_kept st new ss more tags count a g s known h = record { packets = g.ids a.packets h.packets; has = has_places ss more tags count a.tag s known h.has }

-- of a class
pub have_acting : (st new : StoreState) (ss more : List (List ℕ)) (tags : List ℕ) (count : ℕ) (h : ClassHere) → Grows st new → SetsGrow ss more → All (λ s. s < length ss) tags →
    HaveActing st ss count tags h → HaveActing new more count tags h
have_acting st new ss more tags count h g s known k = record {
  acting = λ i d lt. acting_tag_kept st new ss more tags count (get_or h.acting i d) g s known (k.acting i d lt);
  other = has_places ss more tags count h.other s known k.other;
}

-- of a switch
pub have_classes : (st new : StoreState) (ss more : List (List ℕ)) (tags : List ℕ) (count : ℕ) (s : SwitchClasses) → Grows st new → SetsGrow ss more → All (λ s. s < length ss) tags →
    HaveClasses st ss count tags s → HaveClasses new more count tags s
have_classes st new ss more tags count s g grew known k i d lt = have_acting st new ss more tags count (get_or s.classes i d) g grew known (k i d lt)

-- such diagrams are of the store
pub acting_id : (st : StoreState) (ss : List (List ℕ)) (states tags : List ℕ) (tag sw : ℕ) (acting : List ActingTag) (other d : ℕ) → IsActingState st ss states tags tag sw acting other d → IsId st d
acting_id st ss states tags tag sw [] other d k = k.1.id
acting_id st ss states tags tag sw (a ∷ rest) other d k = k.5.id

module _ (st new : StoreState) (ss more : List (List ℕ)) (states tags : List ℕ) (tag sw : ℕ) (g : Grows st new) (s : SetsGrow ss more) (ids : AreIds st states) (known : All (λ n. n < length ss) tags) where
  -- a tag's diagram in a later store
  kept : (t d : ℕ) → HasLabelsBelow ss (length states) tags t → IsStateAtSwitch st ss states (members_of ss tags t) sw d → IsStateAtSwitch new more states (members_of more tags t) sw d
  kept t d has k =
      subst (λ m. IsStateAtSwitch new more states m sw d) (sym (members_kept ss more tags t s known has.within))
      (state_grown st new states (members_of ss tags t) g ids has.places ss more sw d s k)

  -- a diagram in front of another in a later store
  front_grown : (a : ActingTag) (e rest d : ℕ) → IsId st e → IsId st rest → IsInFront st tag a e rest d → IsInFront new tag a e rest d
  front_grown a e rest d ide idr k = record {
    id = g.ids d k.id;
    packets = g.ids a.packets k.packets;
    leaf = λ pk w.
        g.leaves d pk k.id
        ∙ k.leaf pk w
        ∙ ap (λ os. cond (has_some_out os) (look st e pk) (look st rest pk)) (sym (g.leaves a.packets (set pk tag 0) k.packets))
        ∙ ap (λ os. cond (is_in new a.packets (set pk tag 0)) os (look st rest pk)) (sym (g.leaves e pk ide))
        ∙ ap (λ os. cond (is_in new a.packets (set pk tag 0)) (look new e pk) os) (sym (g.leaves rest pk idr));
  }

  -- such diagrams stay
  pub acting_grown : (acting : List ActingTag) (other d : ℕ) → IsActingState st ss states tags tag sw acting other d → IsActingState new more states tags tag sw acting other d
  acting_grown [] other d k = (has_places ss more tags (length states) other s known k.0, kept other d k.0 k.1)
  acting_grown (a ∷ rest) other d k = (
    k.0,
    k.1,
    has_places ss more tags (length states) a.tag s known k.2,
    kept a.tag k.0 k.2 k.3,
    acting_grown rest other k.1 k.4,
    front_grown a k.0 k.1 d k.3.id (acting_id st ss states tags tag sw rest other k.1 k.4) k.5,
  )

  -- those of a class
  pub class_grown : (h : ClassHere) (e : TagState) → IsClassState st ss states tags tag sw h e → IsClassState new more states tags tag sw h e
  class_grown h e k = record { number_is = k.number_is; state = acting_grown h.acting h.other e.diagram k.state }

-- one more tag in front
pub acting_more : (st new : StoreState) (ss more : List (List ℕ)) (states tags : List ℕ) (tag sw : ℕ) (acting : List ActingTag) (i : ℕ) (a : ActingTag) (other rest d : ℕ) →
    Grows st new → SetsGrow ss more → AreIds st states → All (λ n. n < length ss) tags → drop i acting ≡ a ∷ drop (i + 1) acting → HasLabelsBelow ss (length states) tags a.tag →
    ((e : ℕ) × IsStateAtSwitch new more states (members_of ss tags a.tag) sw e × IsInFront new tag a e rest d) →
    IsActingState st ss states tags tag sw (drop (i + 1) acting) other rest → IsActingState new more states tags tag sw (drop i acting) other d
acting_more st new ss more states tags tag sw acting i a other rest d g s ids known at has one k =
    subst (λ l. IsActingState new more states tags tag sw l other d) (sym at) (
      one.0,
      rest,
      has_places ss more tags (length states) a.tag s known has,
      subst (λ m. IsStateAtSwitch new more states m sw one.0) (sym (members_kept ss more tags a.tag s known has.within)) one.1,
      acting_grown st new ss more states tags tag sw g s ids known (drop (i + 1) acting) other rest k,
      one.2,
    )

-- one more class
pub classes_more : (st new : StoreState) (ss more : List (List ℕ)) (states tags : List ℕ) (tag sw : ℕ) (classes : List ClassHere) (i : ℕ) (h : ClassHere) (d : ℕ) (all longer : List TagState) →
    Grows st new → SetsGrow ss more → AreIds st states → All (λ n. n < length ss) tags → i < length classes → h ≡ get_or classes i h → longer ≡ all ++ (record { tag = h.class; diagram = d }) ∷ [] →
    IsActingState new more states tags tag sw h.acting h.other d → Matched (IsClassState st ss states tags tag sw) (take i classes) all →
    Matched (IsClassState new more states tags tag sw) (take (i + 1) classes) longer
classes_more st new ss more states tags tag sw classes i h d all longer g s ids known lt at is one m =
    subst (λ l. Matched (IsClassState new more states tags tag sw) l longer) (ap (λ x. take i classes ++ x ∷ []) at ∙ sym (take_more classes i h lt))
    (subst (Matched (IsClassState new more states tags tag sw) (take i classes ++ h ∷ [])) (sym is)
    (matched_push (IsClassState new more states tags tag sw) (take i classes) all h (record { tag = h.class; diagram = d })
    (matched_weaker (IsClassState st ss states tags tag sw) (IsClassState new more states tags tag sw) (λ x y k. class_grown st new ss more states tags tag sw g s ids known x y k) (take i classes) all m)
    (record { number_is = refl; state = one })))

-- one more switch
pub class_switches_more : (st new : StoreState) (ss more : List (List ℕ)) (states tags : List ℕ) (tag : ℕ) (by_switch : List SwitchClasses) (i : ℕ) (s : SwitchClasses) (one : SwitchStates) (all longer : List SwitchStates) →
    Grows st new → SetsGrow ss more → AreIds st states → All (λ n. n < length ss) tags → i < length by_switch → s ≡ get_or by_switch i s → longer ≡ all ++ one ∷ [] →
    AreClassStates new more states tags tag s one → Matched (AreClassStates st ss states tags tag) (take i by_switch) all →
    Matched (AreClassStates new more states tags tag) (take (i + 1) by_switch) longer
class_switches_more st new ss more states tags tag by_switch i s one all longer g grew ids known lt at is k m =
    subst (λ l. Matched (AreClassStates new more states tags tag) l longer) (ap (λ x. take i by_switch ++ x ∷ []) at ∙ sym (take_more by_switch i s lt))
    (subst (Matched (AreClassStates new more states tags tag) (take i by_switch ++ s ∷ [])) (sym is)
    (matched_push (AreClassStates new more states tags tag) (take i by_switch) all s one
    (matched_weaker (AreClassStates st ss states tags tag) (AreClassStates new more states tags tag) later (take i by_switch) all m)
    k))
  where
    later : (x : SwitchClasses) (y : SwitchStates) → AreClassStates st ss states tags tag x y → AreClassStates new more states tags tag x y
    later x y q = record {
      switch = q.switch;
      each = matched_weaker (IsClassState st ss states tags tag x.switch) (IsClassState new more states tags tag x.switch) (λ h e c. class_grown st new ss more states tags tag x.switch g grew ids known h e c) x.classes y.tag_states q.each;
    }

-- the diagram of a tag's states before another one
pub front_made : (a b c d : StoreState) (ss more : List (List ℕ)) (states tags : List ℕ) (tag sw : ℕ) (x : ActingTag) (e here rest r : ℕ) → Grows a b → Grows b c → Grows c d →
    AreIds a states → IsActingTag a ss (length states) tags x → IsId a rest → IsStateAtSwitch b more states (members_of ss tags x.tag) sw e →
    HasLeaves c here (λ pk. look b x.packets (set pk tag 0)) → HasLeaves d r (λ pk. cond (is_in c here pk) (look c e pk) (look c rest pk)) →
    (n : ℕ) × IsStateAtSwitch d more states (members_of ss tags x.tag) sw n × IsInFront d tag x n rest r
front_made a b c d ss more states tags tag sw x e here rest r ab bc cd ids at idr state cut made = (
  e,
  state_grown b d states (members_of ss tags x.tag) (grows_on b c d bc cd) (λ k lt. ab.ids (get_or states k 0) (ids k lt)) at.has.places more more sw e ([], sym (append-nil more)) state,
  record {
    id = made.id;
    packets = cd.ids x.packets (bc.ids x.packets (ab.ids x.packets at.packets));
    leaf = λ pk w.
        made.leaf pk w
        ∙ ap (λ os. cond (has_some_out os) (look c e pk) (look c rest pk)) (cut.leaf pk w ∙ sym (bc.leaves x.packets (set pk tag 0) (ab.ids x.packets at.packets)) ∙ sym (cd.leaves x.packets (set pk tag 0) (bc.ids x.packets (ab.ids x.packets at.packets))))
        ∙ ap (λ os. cond (is_in d x.packets (set pk tag 0)) os (look c rest pk)) (sym (cd.leaves e pk (bc.ids e state.id)))
        ∙ ap (λ os. cond (is_in d x.packets (set pk tag 0)) (look d e pk) os) (sym (cd.leaves rest pk (bc.ids rest (ab.ids rest idr))));
  },
)

-- after all tags the other one acts
pub acting_last : (st : StoreState) (ss more : List (List ℕ)) (states tags : List ℕ) (tag sw : ℕ) (acting : List ActingTag) (i other d : ℕ) → SetsGrow ss more → All (λ n. n < length ss) tags →
    i ≡ length acting → HasLabelsBelow ss (length states) tags other → IsStateAtSwitch st more states (members_of ss tags other) sw d → IsActingState st more states tags tag sw (drop i acting) other d
acting_last st ss more states tags tag sw acting i other d s known is has state =
    subst (λ l. IsActingState st more states tags tag sw l other d) (sym (drop_all i acting (omega (arith, is))))
    (has_places ss more tags (length states) other s known has, subst (λ m. IsStateAtSwitch st more states m sw d) (sym (members_kept ss more tags other s known has.within)) state)

-- the tags from a place on
pub from_place : (acting items : List ActingTag) (i : ℕ) (a : ActingTag) → items ≡ acting → i < length items → a ≡ get_or items i a → drop i acting ≡ a ∷ drop (i + 1) acting
from_place acting items i a same lt at =
    let less : i < length acting = subst (λ (l : List ActingTag). i < length l) same lt in
    let next : suc i ≡ i + 1 = omega arith in
    drop-cons acting i a less ∙ ap (λ x. x ∷ drop (suc i) acting) (sym (at ∙ ap (λ (l : List ActingTag). get_or l i a) same)) ∙ ap (λ n. a ∷ drop n acting) next
