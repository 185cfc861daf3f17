-- What the levels say of the policy: whether all its histories end at edge ports, and which its tag sets are.
use Rattle.std.proofs.Common.{◌≡◌, ℕ, zero, suc, ◌+◌, ◌*◌, ◌<◌, ◌≤◌, ◌↔◌, inl, inr, Bool, true, false, List, [], ◌∷◌, length, get_or, refl, sym, ap, subst, ◌∙◌, arith}
use Rattle.std.specs.Prelude.{All, IsTrue, not, slice_index}
use Rattle.std.proofs.lemmas.List.{length-map}
use Rattle.std.proofs.lemmas.Bool.Decides.{leb_tells}
use Rattle.nk_field.proofs.Lists.{In, contains_from_in}
use Rattle.nk_field.specs.Packet.{FieldTable}
use Rattle.nk_field.specs.declared.packet.Packet.{Packet}
use Rattle.nk_field.specs.Order.{Found, IsLeast}
use Rattle.nk_field.proofs.Ascending.{all_from_members}
use Rattle.nk_topo.specs.Topology.{Topology, is_edge}
use Rattle.nk_policy.specs.Policy.{Policy}
use Rattle.nk_policy.specs.Meaning.{Gives}
use Rattle.nk_policy.specs.Distinct.{HasDistinct}
use Rattle.nk_policy.specs.Labels.{IsTagSet, AtMost, AtLeast}
use Rattle.nk_policy.specs.Tags.{AreTags, IsShortest, IsTagBefore}
use Rattle.nk_policy.proofs.Numbering.{numbered_distinct}
use Rattle.nk_names.specs.Accepted.{IsStartPacket, IsCompilable, most_tags}
use Rattle.nk_store.specs.declared.node.Out.{Out}
use Rattle.nk_store.specs.StoreState.{StoreState, Grows, IsOver, HasFields, IsStorePacket}
use Rattle.nk_store.proofs.Stores.{grows_on}
use Rattle.nk_store.proofs.InRange.{packet_in_range, over_grown}
use Rattle.nk_determ.specs.Sets.{HasEachSetOnce, HasAscendingSets}
use Rattle.nk_auto.specs.Automaton.{IsAutomaton}
use Rattle.nk_tag.specs.Numbers.{IsAtOdd, AreEntries, AreNumbers}
use Rattle.nk_runs.specs.Labels.{IsAmong}
use Rattle.nk_determ.specs.Levels.{AreLevels}
use Rattle.nk_determ.specs.Pairs.{EachPair, IsPair, Named}
use Rattle.nk_determ.specs.Counterexamples.{IsCounterexample}
use Rattle.nk_runs.proofs.Stands.{stands}
use Rattle.nk_runs.proofs.Ends.{none_ends}
use Rattle.nk_runs.proofs.Breaking.{is_alert, breaks_given}
use Rattle.nk_runs.proofs.TagSets.{are_tags, many_tags}
use Rattle.nk_compile.specs.Edges.{is_start, is_no_edge}
use Rattle.nk_compile.specs.Levelled.{IsLevelled, IsLeastOff}
use Rattle.nk_compile.specs.PacketSets.{IsSetInRange}
use Rattle.nk_compile.specs.NumberedAfter.{tags_after}
use Rattle.nk_compile.specs.OffEdge.{EndsOffEdge, EndsOnEdges}
use Rattle.nk_compile.specs.PairAnswers.{IsUnopposed}
use Rattle.nk_compile.specs.Preparing.{IsPrepared}
use Rattle.nk_compile.specs.declared.prepared.Prepared.{Prepared}
use Rattle.nk_compile.specs.Ready.{sets_of, IsClear, IsReady}
use Rattle.nk_compile.specs.Counted.{HasTagSets}
use Rattle.nk_compile.proofs.Carried.{without_doubles}
use Rattle.nk_compile.proofs.FewTags.{no_dup_from}
use Rattle.nk_compile.proofs.CompileErrors.{is_compilable, none_seen}
use Rattle.nk_compile.proofs.TagPlaces.{never_itself}
use Rattle.nk_compile.proofs.StoreFields.{IsSetUp, start_of, test_of, not_both}
use Rattle.nk_compile.proofs.ProgramFits.{set_up}

module _ (p : Policy) (A B : Packet → Type 0) (to : (pk : Packet) → A pk → B pk) (back : (pk : Packet) → B pk → A pk) where
  -- tag sets from the same packets
  pub tag_set_too : (s : List ℕ) → IsTagSet p A s → IsTagSet p B s
  tag_set_too s h = (h.0, h.1, h.2, to h.0 h.3, h.4, h.5)

  shortest_too : (s : List ℕ) (n : ℕ) → IsShortest p A s n → IsShortest p B s n
  shortest_too s n h = (
    (h.0.0, h.0.1, h.0.2, to h.0.0 h.0.3, h.0.4, h.0.5, h.0.6),
    λ pk u j start size set less. h.1 pk u j (back pk start) size set less,
  )

  before_too : (s t : List ℕ) → IsTagBefore p A s t → IsTagBefore p B s t
  before_too s t h = (h.0, h.1, shortest_too s h.0 h.2, shortest_too t h.1 h.3, h.4)

-- so are the tags in order
pub tags_too : (p : Policy) (A B : Packet → Type 0) → ((pk : Packet) → A pk → B pk) → ((pk : Packet) → B pk → A pk) → (tags : List (List ℕ)) → AreTags p A tags → AreTags p B tags
tags_too p A B to back tags k = record {
  exactly = λ s. (λ c. tag_set_too p A B to back s ((k.exactly s).0 c), λ h. (k.exactly s).1 (tag_set_too p B A back to s h));
  in_order = λ i j d lt within. before_too p A B to back (get_or tags i d) (get_or tags j d) (k.in_order i j d lt within);
}

-- a test that can't fail holds
holds_unless : (b : Bool) → (not b ≡ true → ⊥) → b ≡ true
holds_unless true h = refl
holds_unless false h = absurd (h refl)

-- a test that doesn't hold fails
fails_unless : (b : Bool) → (IsTrue b → ⊥) → not b ≡ true
fails_unless true h = absurd (h refl)
fails_unless false h = refl

module _ (fields : FieldTable) (topo : Topology) (tag : ℕ) (p : Policy) (old first : StoreState) (start : ℕ) (clear : IsClear fields topo tag p) (over : IsOver fields old) (grew : Grows old first)
    (start_is : IsSetInRange first start (is_start topo tag)) where
  setup : IsSetUp fields first.maxes tag
  setup = set_up fields first tag clear.table (over_grown fields old first over grew) clear.tag_is

  -- the packets of the set are those that start
  pub among_is : (pk : Packet) → IsAmong first start pk → IsStartPacket fields topo pk
  among_is pk h = start_of fields topo tag first.maxes setup pk h.0 (sym (start_is.at pk h.0) ∙ h.1)

  pub is_among : (pk : Packet) → IsStartPacket fields topo pk → IsAmong first start pk
  is_among pk h =
      let r : IsStorePacket first pk = packet_in_range fields first pk (over_grown fields old first over grew) h.packet in
      (r, start_is.at pk r ∙ test_of fields topo tag first.maxes setup pk h)

module _ (fields : FieldTable) (topo : Topology) (tag : ℕ) (p : Policy) (old : StoreState) (states : List ℕ) (clear : IsClear fields topo tag p) (over : IsOver fields old) (auto : IsAutomaton old states 1 p) (f : Found)
    (k : IsLeastOff topo tag old states f) where
  -- what breaks the goal is a history off each edge port, and the other way round
  breaks : (g : Found) → IsCounterexample k.first states (0 ∷ []) k.start k.bad g ↔ (IsAmong k.first k.start g.start × Gives p g.start g.records g.last × (is_no_edge topo g.last ≡ true))
  breaks g =
      breaks_given k.first states (λ y. is_no_edge topo y ≡ true) k.bad k.wrong k.start p (stands old k.first states 1 p auto k.grew) (numbered_distinct p 1 clear.numbered) k.tidy g

  off_of : (g : Found) → IsCounterexample k.first states (0 ∷ []) k.start k.bad g → EndsOffEdge fields topo p g
  off_of g b =
      let h = (breaks g).0 b in
      record {
        starts = among_is fields topo tag p old k.first k.start clear over k.grew k.start_is g.start h.0;
        gives = h.1;
        off = not_both (is_edge topo (slice_index g.last 0) (slice_index g.last 1)) h.2;
      }

  of_off : (g : Found) → EndsOffEdge fields topo p g → IsCounterexample k.first states (0 ∷ []) k.start k.bad g
  of_off g e =
      (breaks g).1 (
        is_among fields topo tag p old k.first k.start clear over k.grew k.start_is g.start e.starts,
        e.gives,
        fails_unless (is_edge topo (slice_index g.last 0) (slice_index g.last 1)) e.off,
      )

  -- so the least is the least
  pub least_off : IsLeast (EndsOffEdge fields topo p) f
  least_off = (off_of f k.least.0, λ g e. k.least.1 g (of_off g e))

module _ (fields : FieldTable) (topo : Topology) (tag : ℕ) (p : Policy) (old : StoreState) (states : List ℕ) (new : StoreState) (ss : List (List ℕ)) (ls : List (List (ℕ × ℕ))) (broken : Bool)
    (clear : IsClear fields topo tag p) (over : IsOver fields old) (auto : IsAutomaton old states 1 p) (lv : IsLevelled topo tag old states new ss ls broken) where
  -- the automaton in the store where the levels began
  pub auto_then : IsAutomaton lv.first states 1 p
  auto_then = stands old lv.first states 1 p auto lv.grew

  -- the packets of the first level are those that start
  pub among_start : (pk : Packet) → IsAmong lv.first lv.start pk → IsStartPacket fields topo pk
  among_start = among_is fields topo tag p old lv.first lv.start clear over lv.grew lv.start_is

  pub start_among : (pk : Packet) → IsStartPacket fields topo pk → IsAmong lv.first lv.start pk
  start_among = is_among fields topo tag p old lv.first lv.start clear over lv.grew lv.start_is

  -- where they are not, all histories end at edge ports
  pub all_end : broken ≡ false → (pk : Packet) (w : List Packet) (last : Packet) → IsStartPacket fields topo pk → Gives p pk w last →
      IsTrue (is_edge topo (slice_index last 0) (slice_index last 1))
  all_end e pk w last start gives =
      holds_unless (is_edge topo (slice_index last 0) (slice_index last 1)) (λ off.
      none_ends lv.first new ss states lv.set lv.start lv.bad ls p (λ y. is_no_edge topo y ≡ true) auto_then (numbered_distinct p 1 clear.numbered) lv.tidy lv.set_is (is_alert lv.first states (λ y. is_no_edge topo y ≡ true) lv.bad lv.wrong)
      (subst (AreLevels lv.first new ss states lv.set lv.start lv.bad ls) e lv.are)
      (pk, w, last, start_among pk start, gives, off))

  distinct : HasDistinct p
  distinct = numbered_distinct p 1 clear.numbered

  -- the sets at odd levels in order are the tag sets
  pub numbers_are_tags : broken ≡ false → HasEachSetOnce ss → (r : List ℕ) → AreNumbers ss ls r → AreTags p (IsStartPacket fields topo) (sets_of ss r)
  numbers_are_tags e differ r k =
      tags_too p (IsAmong lv.first lv.start) (IsStartPacket fields topo) among_start start_among (sets_of ss r)
      (are_tags lv.first new ss states lv.set lv.start lv.bad ls p auto_then distinct lv.tidy lv.set_is (subst (AreLevels lv.first new ss states lv.set lv.start lv.bad ls) e lv.are) clear.dups_in_links differ lv.grows r k)

  -- where there are so many of them, there are as many tag sets
  pub many_are_tags : broken ≡ false → HasEachSetOnce ss → (least : ℕ) → AtLeast least (IsAtOdd ls) → AtLeast least (IsTagSet p (IsStartPacket fields topo))
  many_are_tags e differ least k =
      let h = many_tags lv.first new ss states lv.set lv.start lv.bad ls p auto_then distinct lv.tidy lv.set_is (subst (AreLevels lv.first new ss states lv.set lv.start lv.bad ls) e lv.are) differ lv.grows least k in
      (h.0, h.1, h.2, λ i d lt. tag_set_too p (IsAmong lv.first lv.start) (IsStartPacket fields topo) among_start start_among (get_or h.0 i d) (h.3 i d lt))

-- at most so many tag sets
pub tags_few : (p : Policy) (Start : Packet → Type 0) (tags : List (List ℕ)) (most : ℕ) → AreTags p Start tags → length tags ≤ most → AtMost most (IsTagSet p Start)
tags_few p Start tags most k le = (tags, le, λ s h. (k.exactly s).1 h)

-- what holds of each entry holds of each in std's word
all_each : (P : ℕ × ℕ → Type 0) (Q : ℕ × ℕ → Type 0) → ((e : ℕ × ℕ) → P e → Q e) → (xs : List (ℕ × ℕ)) → EachPair P xs → All Q xs
all_each P Q h xs k = all_from_members Q xs (λ e i. there xs k e i)
  where
    there : (ys : List (ℕ × ℕ)) → EachPair P ys → (e : ℕ × ℕ) → In ys e → Q e
    there [] k e i = absurd i
    there (y ∷ ys) k e (inl same) = subst Q (sym same) (h y k.0)
    there (y ∷ ys) k e (inr i) = there ys k.1 e i

-- there are no entries past the last level
none_past : (xs : List (List (ℕ × ℕ))) (i : ℕ) → length xs ≤ i → get_or xs i [] ≡ []
none_past [] i le = refl
none_past (x ∷ xs) zero le = absurd (omega (arith, le))
none_past (x ∷ xs) (suc i) le = none_past xs i (omega (arith, le))

-- a set that is named is known
named_known : (st : StoreState) (ss : List (List ℕ)) (count : ℕ) (xs : List (ℕ × ℕ)) → EachPair (IsPair st ss count) xs → (s : ℕ) → Named xs s → s < length ss
named_known st ss count [] k s h = absurd h
named_known st ss count (x ∷ xs) k s (inl e) = subst (λ n. n < length ss) e k.0.known
named_known st ss count (x ∷ xs) k s (inr h) = named_known st ss count xs k.1 s h

module _ (old st : StoreState) (ss : List (List ℕ)) (states : List ℕ) (set start : ℕ) (bad : List ℕ → List ℕ → List Out) (ls : List (List (ℕ × ℕ))) (broken : Bool)
    (are : AreLevels old st ss states set start bad ls broken) where
  -- the entries of levels are of known sets, a set once
  pub entries_are : AreEntries ss ls
  entries_are i lt =
      let k = are.pairs i lt in
      (all_each (IsPair st ss (length states)) (λ e. e.0 < length ss) (λ e p. p.known) (get_or ls i []) k.each, k.once)

  -- so the numbers of the sets at odd levels are of known sets
  pub numbers_known : (r : List ℕ) → AreNumbers ss ls r → All (λ s. s < length ss) r
  numbers_known r k =
      all_from_members (λ s. s < length ss) r
      (λ s i. let odd = (k.exactly s).0 (contains_from_in r s i) in named (2 * odd.0 + 1) s odd.1)
    where
      named : (i s : ℕ) → Named (get_or ls i []) s → s < length ss
      named i s h = elim (leb_tells (suc i) (length ls)) [
        | inl inside ↦ named_known st ss (length states) (get_or ls i []) (are.pairs i (omega (arith, inside.1))).each s h
        | inr past ↦ absurd (subst (λ (l : List (ℕ × ℕ)). Named l s) (none_past ls i (omega (arith, past.1))) h)
      ]

-- at least as many tag sets as there are tags
pub tags_many : (p : Policy) (Start : Packet → Type 0) (tags : List (List ℕ)) → AreTags p Start tags → AtLeast (length tags) (IsTagSet p Start)
tags_many p Start tags k = (
  tags,
  refl,
  without_doubles tags (no_dup_from (IsTagBefore p Start) (never_itself p Start) tags k.in_order),
  all_from_members (IsTagSet p Start) tags (λ s i. (k.exactly s).0 (contains_from_in tags s i)),
)

module _ (fields : FieldTable) (topo : Topology) (tag : ℕ) (p : Policy) (b : Prepared) (k : IsPrepared fields topo tag p b) where
  prepared_states : IsAutomaton k.before b.states 1 p
  prepared_states = k.begun.automaton

  -- where all its histories end at edge ports
  pub prepared_ends : EndsOnEdges fields topo p
  prepared_ends pk w last start gives =
      all_end fields topo tag p k.before b.states b.store b.sets b.levels.levels b.levels.broken k.begun.clear k.begun.over prepared_states k.levelled k.whole pk w last start gives

  -- its entries are of known sets, a set once
  pub prepared_entries : AreEntries b.sets b.levels.levels
  prepared_entries = let l = k.levelled in entries_are l.first b.store b.sets b.states l.set l.start l.bad b.levels.levels b.levels.broken l.are

  -- it is compilable
  pub prepared_compilable : IsCompilable fields topo p
  prepared_compilable = is_compilable fields topo tag p k.begun.clear prepared_ends

  -- nothing stands against it
  pub prepared_unopposed : IsUnopposed fields topo p
  prepared_unopposed = (none_seen fields topo tag p k.begun.clear.tag_is k.begun.seen, prepared_ends)

  -- where so many sets are at odd levels, there are as many tag sets
  pub prepared_many : (least : ℕ) → AtLeast least (IsAtOdd b.levels.levels) → AtLeast least (IsTagSet p (IsStartPacket fields topo))
  prepared_many least h =
      many_are_tags fields topo tag p k.before b.states b.store b.sets b.levels.levels b.levels.broken k.begun.clear k.begun.over prepared_states k.levelled k.whole k.differ least h

  module _ (r : List ℕ) (numbers : AreNumbers b.sets b.levels.levels r) where
    -- the sets at odd levels in order are the tag sets
    pub prepared_tags : AreTags p (IsStartPacket fields topo) (sets_of b.sets r)
    prepared_tags =
        numbers_are_tags fields topo tag p k.before b.states b.store b.sets b.levels.levels b.levels.broken k.begun.clear k.begun.over prepared_states k.levelled k.whole k.differ r numbers

    -- they are known
    pub prepared_known : All (λ s. s < length b.sets) r
    prepared_known = let l = k.levelled in numbers_known l.first b.store b.sets b.states l.set l.start l.bad b.levels.levels b.levels.broken l.are r numbers

    -- all that the tables are made of is there, after so many tags that stand for none
    pub prepared_ready : (first : ℕ) (more : List (List ℕ)) (tags : List ℕ) → HasAscendingSets more → HasFields b.store → All (λ s. s < length more) tags →
        sets_of more tags ≡ tags_after first (sets_of b.sets r) → IsReady first fields topo p b.store more b.states tags
    prepared_ready first more tags ascend has known numbered =
        let grown = grows_on k.before k.levelled.first b.store k.levelled.grew k.levelled.grows in
        record {
          over = over_grown fields k.before b.store k.begun.over grown;
          has = has;
          automaton = stands k.before b.store b.states 1 p prepared_states grown;
          ascend = ascend;
          known = known;
          sets = sets_of b.sets r;
          numbered = numbered;
          in_order = prepared_tags;
        }

    -- there are as many tag sets as numbers
    pub prepared_counted : HasTagSets fields topo p (length r)
    prepared_counted = (sets_of b.sets r, prepared_tags, sym (length-map r (λ s. get_or b.sets s [])))

    -- at least
    pub prepared_least : AtLeast (length r) (IsTagSet p (IsStartPacket fields topo))
    prepared_least = subst (λ n. AtLeast n (IsTagSet p (IsStartPacket fields topo))) (length-map r (λ s. get_or b.sets s [])) (tags_many p (IsStartPacket fields topo) (sets_of b.sets r) prepared_tags)

    -- and no more than the tag has values above 0, where the numbers are not
    pub prepared_few : (most : ℕ) → most ≡ slice_index fields.maxima tag → length r ≤ most → AtMost (most_tags fields fields.tag) (IsTagSet p (IsStartPacket fields topo))
    prepared_few most is few =
        tags_few p (IsStartPacket fields topo) (sets_of b.sets r) (most_tags fields fields.tag) prepared_tags
        (subst (λ n. n ≤ most_tags fields fields.tag) (sym (length-map r (λ s. get_or b.sets s []))) (subst (λ n. length r ≤ n) (is ∙ sym (ap (most_tags fields) k.begun.clear.tag_is)) few))
