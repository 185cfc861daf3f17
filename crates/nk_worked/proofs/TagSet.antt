-- The policy of two switches has the one tag set, and what compiles it asks.
use Rattle.std.proofs.Common.{◌≡◌, ◌≢◌, ℕ, ◌+◌, ◌*◌, inl, inr, ⊎_elim, List, [], ◌∷◌, ◌++◌, length, refl, sym, ap, subst, ◌∙◌, arith}
use Rattle.std.specs.Prelude.{IsTrue, map, slice_index, Contains}
use Rattle.std.specs.List.Sorted.{IsStrictlyIncreasing}
use Rattle.nk_field.proofs.Lists.{contains_from_in}
use Rattle.nk_field.proofs.Ascending.{rising_from}
use Rattle.nk_topo.specs.Topology.{is_edge}
use Rattle.nk_policy.specs.Meaning.{Gives}
use Rattle.nk_policy.specs.Progress.{Marked, RecordsAt}
use Rattle.nk_policy.specs.Labels.{HasRecorded, IsLabelSet, IsTagSet}
use Rattle.nk_policy.specs.Tags.{AreTags}
use Rattle.nk_names.specs.Accepted.{IsStartPacket, IsCompilable}
use Rattle.nk_table.specs.Worked.{one_link}
use Rattle.nk_worked.specs.TwoSwitches.{dst_and_tag, over_one_link, one_set}
use Rattle.nk_worked.specs.TheirTable.{entering_packet}
use Rattle.nk_worked.proofs.Packets.{is_packet, from_front}
use Rattle.nk_worked.proofs.Crossing.{near, crossed, at_dups, recorded}
use Rattle.nk_worked.proofs.States.{not_empty, only_one, there, one_ascends}

-- the packet enters there
pub starts : IsStartPacket dst_and_tag one_link entering_packet
starts = record { packet = is_packet 1 1 (omega arith) (omega arith); located = refl; untagged = refl }

-- what it has after the switch and the port
abbrev pub its_rest : List ℕ
its_rest = 3 ∷ 0 ∷ 0 ∷ 0 ∷ 0 ∷ 0 ∷ 0 ∷ 0 ∷ 0 ∷ 0 ∷ 0 ∷ 0 ∷ 0 ∷ 0 ∷ 0 ∷ 0 ∷ []

-- a run ends on an edge port, 2:2
ends : (pk : List ℕ) → length pk ≡ 18 → (w : List (List ℕ)) (last : List ℕ) → Gives over_one_link pk w last
    → IsTrue (is_edge one_link (slice_index last 0) (slice_index last 1))
ends pk places =
    from_front
    (λ p. (w : List (List ℕ)) (last : List ℕ) → Gives over_one_link p w last → IsTrue (is_edge one_link (slice_index last 0) (slice_index last 1)))
    (λ sw pt r w last g.
    let c = crossed (sw ∷ pt ∷ r) w last g in
    subst (λ x. IsTrue (is_edge one_link (slice_index x 0) (slice_index x 1))) (sym c.3) refl)
    pk
    places

pub compilable : IsCompilable dst_and_tag one_link over_one_link
compilable = record {
  tag = 3;
  tag_declared = refl;
  tag_free = refl;
  dups_in_links = refl;
  switch_in_links = refl;
  links_declared = refl;
  ends_on_edges = λ pk w last start g. ends pk start.packet.places w last g;
}

-- after an odd number of records a run is at dup 1
at_one : (pk : List ℕ) (u : List (List ℕ)) (n l : ℕ) → length u ≡ 2 * n + 1 → HasRecorded over_one_link pk u l → l ≡ 1
at_one pk u n l odd h =
    ⊎_elim
    (λ a. a.2)
    (λ b.
    let two : u ≡ near pk ∷ h.1 ∷ [] = sym h.2 ∙ ap (λ (f : Marked). map (λ r. r.0) f ++ h.1 ∷ []) b.0 in
    let e : length u ≡ 2 = ap length two in
    absurd (omega (arith, odd, e)))
    (at_dups pk h.0 h.1 l h.3).2

-- an ascending list with the one element 1
one_alone : (s : List ℕ) → s ≢ [] → IsStrictlyIncreasing s → ((l : ℕ) → Contains s l → l ≡ 1) → s ≡ 1 ∷ []
one_alone [] filled up only = absurd (filled refl)
one_alone (a ∷ []) filled up only = ap (λ x. x ∷ []) (only a (contains_from_in (a ∷ []) a (inl refl)))
one_alone (a ∷ b ∷ r) filled up only =
    let first : a ≡ 1 = only a (contains_from_in (a ∷ b ∷ r) a (inl refl)) in
    let second : b ≡ 1 = only b (contains_from_in (a ∷ b ∷ r) b (inr (inl refl))) in
    absurd (omega (arith, (rising_from (a ∷ b ∷ r) up).0 b (inl refl), first, second))

-- a tag set is the one
pub is_the_one : (s : List ℕ) → IsTagSet over_one_link (λ pk. IsStartPacket dst_and_tag one_link pk) s → s ≡ 1 ∷ []
is_the_one s h = one_alone s h.5.0 h.5.1.0 (λ l c. at_one h.0 h.1 h.2 l h.4 ((h.5.1.1 l).0 c))

-- the numbers at which the packet can be that has crossed to the near end
labels : IsLabelSet over_one_link entering_packet (near entering_packet ∷ []) (1 ∷ [])
labels = (
  λ e. not_empty 1 [] (sym e),
  (
    one_ascends 1,
    λ l. (
      λ c. ([], near entering_packet, refl, subst (λ k. RecordsAt over_one_link entering_packet [] (near entering_packet) k) (sym (only_one 1 l c)) (recorded its_rest)),
      λ h. subst (λ k. Contains (1 ∷ []) k) (sym (at_one entering_packet (near entering_packet ∷ []) 0 l refl h)) (there 1),
    ),
  ),
)

-- it is one
pub is_one : IsTagSet over_one_link (λ pk. IsStartPacket dst_and_tag one_link pk) (1 ∷ [])
is_one = (entering_packet, near entering_packet ∷ [], 0, starts, refl, labels)

-- the tag sets in their order
pub are_tags : AreTags over_one_link (IsStartPacket dst_and_tag one_link) one_set
are_tags = record {
  exactly = λ s. (
    λ c. subst (λ q. IsTagSet over_one_link (λ pk. IsStartPacket dst_and_tag one_link pk) q) (sym (only_one (1 ∷ []) s c)) is_one,
    λ h. subst (λ q. Contains one_set q) (sym (is_the_one s h)) (there (1 ∷ [])),
  );
  in_order = λ i j d lt less. absurd (omega (arith, lt, less));
}
