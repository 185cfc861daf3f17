-- What one crossing more does to the copies that wait and to the histories so far.
use Rattle.std.proofs.Common.{◌≡◌, ◌<◌, ◌+◌, ◌-◌, ℕ, zero, suc, List, [], ◌∷◌, ◌++◌, length, refl, sym, ap, subst, ◌∙◌, arith, append-nil, add-one}
use Rattle.std.specs.Prelude.{map, All}
use Rattle.std.specs.List.{flat_map}
use Rattle.std.specs.List.Sorted.{IsPermutation}
use Rattle.std.proofs.lemmas.List.{length-map}
use Rattle.std.proofs.lemmas.List.Concat.{flat_map-append}
use Rattle.std.proofs.lemmas.List.Elements.{All-map}
use Rattle.std.proofs.lemmas.List.Sorted.{IsPermutation-append, All-permutation}
use Rattle.nk_field.specs.declared.history.History.{History}
use Rattle.nk_field.proofs.Lists.{map_joined, map_over_joined}
use Rattle.nk_table.specs.declared.Tables.{Tables}
use Rattle.nk_table.specs.Rules.{sent_for}
use Rattle.nk_table.specs.Hops.{Copy, next_of, left_of, waiting}
use Rattle.nk_table.proofs.Crossing.{joined_same, joined_mapped}
use Rattle.nk_sim.specs.declared.transit.Crossing.{Crossing}
use Rattle.nk_sim.specs.declared.transit.Flying.{Flying}
use Rattle.nk_sim.specs.declared.tracing.State.{State}
use Rattle.nk_sim.specs.declared.tracing.Traced.{Traced}
use Rattle.nk_sim.specs.Flights.{HaveTrails, copy_of, copies_of, sent_flying, crossed, leaves, left_by_hops, AreCrossed, AreWaiting, IsAt, HaveOneLength, IsSortedFrom}
use Rattle.nk_sim.specs.Traces.{as_history, histories_after, histories_before, AreOrderedFrom, IsTrace}
use Rattle.nk_sim.proofs.Trails.{Has}
use Rattle.nk_sim.proofs.Sizes.{all_joined, IsHistorySized, after_sized, before_shorter}
use Rattle.nk_sim.proofs.Orders.{in_order_joined}

-- a packet with the records of a copy
abbrev pub with_packet : Copy → List ℕ → Copy
with_packet c y = record { records = c.records; packet = y }

-- what is sent has the trails of the copies that wait
pub sent_trails : (t : Tables) (cs : List Crossing) (k : ℕ) (fs : List Flying) → HaveTrails cs k fs → HaveTrails cs k (flat_map (sent_flying t) fs)
sent_trails t cs k fs h =
    all_joined (Has cs k) (Has cs k) (sent_flying t)
    (λ f here. All-map (Has cs k) (λ y. record { last = f.last; packet = y }) (sent_for t f.packet) (λ i d lt. here))
    fs h

-- the copies that a switch sends for one
copies_sent : (cs : List Crossing) (k : ℕ) (f : Flying) (ys : List (List ℕ))
    → copies_of cs k (map (λ y. record { last = f.last; packet = y }) ys) ≡ map (with_packet (copy_of cs k f)) ys
copies_sent cs k f [] = refl
copies_sent cs k f (y ∷ ys) = ap (λ l. with_packet (copy_of cs k f) y ∷ l) (copies_sent cs k f ys)

-- what is made of all that is sent
sent_copies : {Z : Type 0} (g : Copy → List Z) (t : Tables) (cs : List Crossing) (k : ℕ) (fs : List Flying)
    → flat_map g (copies_of cs k (flat_map (sent_flying t) fs))
    ≡ flat_map (λ (c : Copy). flat_map g (map (with_packet c) (sent_for t c.packet))) (copies_of cs k fs)
sent_copies g t cs k [] = refl
sent_copies g t cs k (f ∷ fs) =
    ap (flat_map g) (map_joined (copy_of cs k) (sent_flying t f) (flat_map (sent_flying t) fs))
    ∙ flat_map-append g (copies_of cs k (sent_flying t f)) (copies_of cs k (flat_map (sent_flying t) fs))
    ∙ (λ i. flat_map g (copies_sent cs k f (sent_for t f.packet) i) ++ sent_copies g t cs k fs i)

-- the copies after the links are those that the copies lead to
pub sent_lead : (t : Tables) (cs : List Crossing) (k : ℕ) (fs : List Flying)
    → flat_map (crossed t) (copies_of cs k (flat_map (sent_flying t) fs)) ≡ flat_map (next_of t) (copies_of cs k fs)
sent_lead t cs k fs =
    sent_copies (crossed t) t cs k fs
    ∙ joined_same _ _ (λ (c : Copy). joined_mapped (with_packet c) (crossed t) (sent_for t c.packet)) (copies_of cs k fs)

-- and the histories that leave are theirs
pub sent_leave : (t : Tables) (cs : List Crossing) (k : ℕ) (fs : List Flying)
    → flat_map (left_by_hops t cs k) (flat_map (sent_flying t) fs) ≡ map as_history (flat_map (left_of t) (copies_of cs k fs))
sent_leave t cs k fs =
    sym (map_over_joined as_history (λ f. leaves t (copy_of cs k f)) (flat_map (sent_flying t) fs))
    ∙ ap (map as_history) (sym (joined_mapped (copy_of cs k) (leaves t) (flat_map (sent_flying t) fs))
    ∙ sent_copies (leaves t) t cs k fs
    ∙ joined_same _ _ (λ (c : Copy). joined_mapped (with_packet c) (leaves t) (sent_for t c.packet)) (copies_of cs k fs))

-- the copies that wait after one crossing more
pub waits_next : (t : Tables) (pk : List ℕ) (k : ℕ) (cs ds : List Crossing) (fs sent next : List Flying) → AreWaiting t pk k cs fs
    → sent ≡ flat_map (sent_flying t) fs → (HaveTrails cs k sent → AreCrossed t cs ds k sent next) → AreWaiting t pk (k + 1) ds next
waits_next t pk k cs ds fs sent next are e cross =
    let more = cross (subst (HaveTrails cs k) (sym e) (sent_trails t cs k fs are.trails)) in
    let there : AreWaiting t pk (suc k) ds next = record {
      copies = more.copies ∙ ap (λ l. flat_map (crossed t) (copies_of cs k l)) e ∙ sent_lead t cs k fs ∙ ap (flat_map (next_of t)) are.copies;
      trails = more.trails;
    } in
    subst (λ n. AreWaiting t pk n ds next) (sym (add-one k)) there

-- what leaves of them
pub leave_after : (t : Tables) (pk : List ℕ) (k : ℕ) (cs : List Crossing) (fs sent : List Flying) → AreWaiting t pk k cs fs
    → sent ≡ flat_map (sent_flying t) fs → flat_map (left_by_hops t cs k) sent ≡ histories_after t k pk
leave_after t pk k cs fs sent are e =
    ap (flat_map (left_by_hops t cs k)) e ∙ sent_leave t cs k fs ∙ ap (λ cs. map as_history (flat_map (left_of t) cs)) are.copies

-- the histories so far, and those that leave next
pub all_next : (t : Tables) (pk : List ℕ) (k : ℕ) (so_far left later all : List History) → IsPermutation (histories_before t k pk) so_far
    → AreOrderedFrom pk so_far → left ≡ histories_after t k pk → all ≡ so_far ++ later → IsSortedFrom left later
    → IsPermutation (histories_before t (k + 1) pk) all × AreOrderedFrom pk all
all_next t pk k so_far left later all before ordered e joined sorted =
    let after : IsPermutation (histories_after t k pk) later = subst (λ l. IsPermutation l later) e sorted.all in
    let alike : HaveOneLength left = (length pk, k + k, subst (All (IsHistorySized (length pk) (k + k))) (sym e) (after_sized t k pk)) in
    let short : All (λ (h : History). length h.records < k + k) so_far =
    All-permutation (λ (h : History). length h.records < k + k) (histories_before t k pk) so_far before (before_shorter t k pk) in
    let size : All (IsHistorySized (length pk) (k + k)) later =
    All-permutation (IsHistorySized (length pk) (k + k)) (histories_after t k pk) later after (after_sized t k pk) in (
      subst (λ n. IsPermutation (histories_before t n pk) all) (sym (add-one k)) (subst (IsPermutation (histories_before t (suc k) pk)) (sym joined)
          (IsPermutation-append (histories_before t k pk) so_far (histories_after t k pk) later before after)),
      subst (AreOrderedFrom pk) (sym joined)
          (in_order_joined pk so_far later ordered (sorted.ordered alike pk)
          (λ i d lt j e less. let low = short i d lt in let high = size j e less in omega (arith, low, high.0))),
    )

-- where nothing waits, nothing waits later
pub none_waits : (t : Tables) (k j : ℕ) (pk : List ℕ) → waiting t k pk ≡ [] → waiting t (k + j) pk ≡ []
none_waits t k zero pk h = (let e : k + 0 ≡ k = omega arith in ap (λ n. waiting t n pk) e) ∙ h
none_waits t k (suc j) pk h =
    (let e : k + suc j ≡ suc (k + j) = omega arith in ap (λ n. waiting t n pk) e)
    ∙ ap (flat_map (next_of t)) (none_waits t k j pk h)

-- and nothing leaves later
pub none_leaves : (t : Tables) (k j : ℕ) (pk : List ℕ) → waiting t k pk ≡ [] → histories_after t (k + j) pk ≡ []
none_leaves t k j pk h = ap (λ cs. map as_history (flat_map (left_of t) cs)) (none_waits t k j pk h)

-- so all histories have left
pub all_left : (t : Tables) (k j : ℕ) (pk : List ℕ) → waiting t k pk ≡ [] → histories_before t (k + j) pk ≡ histories_before t k pk
all_left t k zero pk h = let e : k + 0 ≡ k = omega arith in ap (λ n. histories_before t n pk) e
all_left t k (suc j) pk h =
    (let e : k + suc j ≡ suc (k + j) = omega arith in ap (λ n. histories_before t n pk) e)
    ∙ ap (λ l. histories_before t (k + j) pk ++ l) (none_leaves t k j pk h)
    ∙ append-nil (histories_before t (k + j) pk)
    ∙ all_left t k j pk h

-- no copy is held, so none waits
none_held : (t : Tables) (pk : List ℕ) (k : ℕ) (cs : List Crossing) (fs : List Flying) → length fs ≡ 0 → AreWaiting t pk k cs fs → waiting t k pk ≡ []
none_held t pk k cs [] e are = sym are.copies
none_held t pk k cs (f ∷ fs) e are = absurd (omega (arith, e))

-- where no copy is held, no history leaves later
pub nothing_after : (t : Tables) (pk : List ℕ) (j k : ℕ) (cs : List Crossing) (fs : List Flying) → length fs ≡ 0 → AreWaiting t pk j cs fs → j < k
    → [] ≡ histories_after t k pk
nothing_after t pk j k cs fs e are less =
    let there : j + (k - j) ≡ k = omega arith in
    sym (ap (λ n. histories_after t n pk) (sym there) ∙ none_leaves t j (k - j) pk (none_held t pk j cs fs e are))

-- what is seen at the end
pub seen_at_end : (t : Tables) (pk : List ℕ) (hops : ℕ) (s : State) (traced : Traced) → IsAt t pk (hops + 1) s
    → traced.histories ≡ s.histories.items → traced.flying ≡ length s.waiting.items → IsTrace t hops pk traced
seen_at_end t pk hops s traced is e flying = record {
  all = subst (IsPermutation (histories_before t (hops + 1) pk)) (sym e) is.all;
  ordered = subst (AreOrderedFrom pk) (sym e) is.ordered;
  flying = flying ∙ sym (length-map s.waiting.items (copy_of s.crossings.items (hops + 1))) ∙ ap length is.waits.copies;
}

-- and where nothing waits before
pub seen_early : (t : Tables) (pk : List ℕ) (k hops : ℕ) (s : State) (traced : Traced) → IsAt t pk k s → length s.waiting.items ≡ 0 → k < hops
    → traced.histories ≡ s.histories.items → traced.flying ≡ length s.waiting.items → IsTrace t hops pk traced
seen_early t pk k hops s traced is none less e flying =
    let there : k + ((hops + 1) - k) ≡ hops + 1 = omega arith in
    let empty = none_held t pk k s.crossings.items s.waiting.items none is.waits in
    record {
      all = subst (λ n. IsPermutation (histories_before t n pk) traced.histories) there
          (subst (λ l. IsPermutation l traced.histories) (sym (all_left t k ((hops + 1) - k) pk empty))
          (subst (IsPermutation (histories_before t k pk)) (sym e) is.all));
      ordered = subst (AreOrderedFrom pk) (sym e) is.ordered;
      flying = flying ∙ none ∙ sym (ap length (ap (λ n. waiting t n pk) (sym there) ∙ none_waits t k ((hops + 1) - k) pk empty));
    }
