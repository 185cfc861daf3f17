-- Hop by hop against histories: a copy that waits after k crossings has recorded 2 * k packets, no two of them the same ones, and
-- from where it is, each history of a tag with its number is, after these records, one of the policy's. A copy may wait that no
-- run of the policy leads to, where the tag that acts records what its own tag doesn't; then no history leaves from it.
use Rattle.std.proofs.Common.{◌≡◌, ◌≢◌, ℕ, zero, suc, ◌+◌, ◌*◌, ◌<◌, Bool, true, false, inl, inr, ⊎_elim, Option, Some, None, List, [], ◌∷◌, ◌++◌, length, refl, sym, ap, subst, ◌∙◌, arith, append_assoc, append-nil, length-append, get_or-set_same}
use Rattle.std.specs.Prelude.{◌&&◌, is_none, if◌then◌else◌, map, slice_get, slice_index, slice_set, Contains}
use Rattle.std.proofs.lemmas.List.{set_comm, set-set}
use Rattle.nk_field.specs.declared.packet.Packet.{Packet}
use Rattle.nk_field.specs.Packet.{erased}
use Rattle.nk_field.proofs.Lists.{In, in_from_contains, contains_from_in, in_joined, from_joined, from_mapped, map_over_joined, NoDup, no_dup_flat, no_dup_from_images, one_of_images, Decided, stable, numbers_decided, lists_decided, in_decided}
use Rattle.nk_field.proofs.Ascending.{rising_from, one_list, not_without_list}
use Rattle.nk_topo.specs.Topology.{link_from, is_edge, is_port}
use Rattle.nk_policy.specs.Policy.{Policy}
use Rattle.nk_policy.specs.Meaning.{Gives}
use Rattle.nk_policy.specs.After.{after}
use Rattle.nk_policy.specs.Progress.{RecordsAt}
use Rattle.nk_policy.specs.Labels.{HasRecorded, HasExactly}
use Rattle.nk_policy.specs.Literals.{Literal, HoldsLiteral, moved_by}
use Rattle.nk_policy.proofs.Untouched.{IsZeroAt}
use Rattle.nk_policy.proofs.Splitting.{holds_dup}
use Rattle.nk_policy.proofs.LabelSteps.{at_next, rest_gives_from}
use Rattle.nk_policy.proofs.LinkStructure.{on_link}
use Rattle.nk_policy.proofs.Parity.{bound_of, dups_below}
use Rattle.nk_names.specs.Accepted.{IsStartPacket}
use Rattle.nk_table.specs.declared.Tables.{Tables}
use Rattle.nk_table.specs.Rules.{sent_for}
use Rattle.nk_table.specs.Hops.{Copy, crossing, across, leaving, next_of, left_of, waiting, left_after, moved_to}
use Rattle.nk_compile.specs.PrintedTable.{StateRecords, IsResult}
use Rattle.nk_compile.proofs.ActingTags.{GivesAs, Acts, Numbering}
use Rattle.nk_compile.proofs.Reached.{Setting, Under, Come, come, same_some, past, erases, tagged_index, result_ok, next_literal}

-- the ends of two lists by two elements
two_last : {A : Type 0} (u v : List A) (a b c d : A) → u ++ a ∷ b ∷ [] ≡ v ++ c ∷ d ∷ [] → (u ≡ v) × (a ≡ c)
two_last [] [] a b c d e = (refl, cc)
two_last [] (y ∷ []) a b c d e = absurd cc
two_last [] (y ∷ z ∷ []) a b c d e = absurd cc
two_last [] (y ∷ z ∷ w ∷ v) a b c d e = absurd cc
two_last (x ∷ []) [] a b c d e = absurd cc
two_last (x ∷ z ∷ []) [] a b c d e = absurd cc
two_last (x ∷ z ∷ w ∷ u) [] a b c d e = absurd cc
two_last (x ∷ u) (y ∷ v) a b c d e =
    let parts : (x ≡ y) × (u ++ a ∷ b ∷ [] ≡ v ++ c ∷ d ∷ []) = (cc, cc) in
    let r = two_last u v a b c d parts.1 in
    (ap (λ z. z ∷ u) parts.0 ∙ ap (λ l. y ∷ l) r.0, r.1)

-- what a copy has recorded
abbrev pub records_of : Copy → List Packet
records_of c = c.records

-- an edge port is no link's source
edge_no_link : (b : Bool) (o : Option (ℕ × ℕ)) (to : ℕ × ℕ) → b && is_none o ≡ true → o ≡ Some to → ⊥
edge_no_link true (Some q) to h e = cc
edge_no_link true None to h e = cc
edge_no_link false o to h e = cc

module _ (t : Tables) (p : Policy) (tag : ℕ) (tags : List (List ℕ)) (g : Setting t p tag tags) (number : ℕ → ℕ) (num : Numbering t p tag tags number) where
  -- the copy at x, with the records u and the number c
  abbrev pub tagged : List Packet → ℕ → Packet → Copy
  tagged u c x = record { records = u; packet = slice_set x tag c }

  -- a crossing of a copy where the tag tg acts: by which result, and to which copy
  record Crossed (tg : ℕ) (x : Packet) (u : List Packet) (y : Packet) (d : Copy) : Type 0 where
    source : Packet
    next : ℕ
    labels : List ℕ
    get : slice_get tags next ≡ Some labels
    any : labels ≢ []
    exact : HasExactly (StateRecords p tags tg x source) labels
    to : ℕ × ℕ
    leads : link_from t.topo (slice_index source 0) (slice_index source 1) ≡ Some to
    sent_is : y ≡ slice_set source tag (number (suc next))
    copy_is : d ≡ tagged (u ++ source ∷ moved_to to source ∷ []) (number (suc next)) (moved_to to source)

  -- a leaving of a copy: by which end, and with which history
  pub record Leaves (tg : ℕ) (x : Packet) (u : List Packet) (y : Packet) (d : Copy) : Type 0 where
    pub end : Packet
    pub ends : IsResult p tags tg x end 0
    pub untagged : IsZeroAt tag end
    pub sent_is : y ≡ end
    pub copy_is : d ≡ record { records = u; packet = end }

  -- where a crossing leads
  from_crossing : (u : List Packet) (y : Packet) (o : Option (ℕ × ℕ)) (d : Copy) → In (crossing t u y o) d → (to : ℕ × ℕ) × (o ≡ Some to) × (d ≡ record { records = u ++ erased t.fields y ∷ erased t.fields (moved_to to y) ∷ []; packet = moved_to to y })
  from_crossing u y None d h = absurd h
  from_crossing u y (Some to) d h = ⊎_elim (λ e. (to, refl, e)) (λ e. absurd e) h

  -- tagging keeps the switch
  index_0 : (x : Packet) (n : ℕ) → slice_index (slice_set x tag n) 0 ≡ slice_index x 0
  index_0 x n = let lt : 0 < 2 = omega arith in tagged_index t p tag tags g 0 n x lt

  -- and the port
  index_1 : (x : Packet) (n : ℕ) → slice_index (slice_set x tag n) 1 ≡ slice_index x 1
  index_1 x n = let lt : 1 < 2 = omega arith in tagged_index t p tag tags g 1 n x lt

  -- moving and tagging are of different fields
  moved_tagged : (to : ℕ × ℕ) (x : Packet) (n : ℕ) → moved_to to (slice_set x tag n) ≡ slice_set (moved_to to x) tag n
  moved_tagged to x n =
      let two = past t p tag tags g in
      let ne0 : tag ≢ 0 = λ e. omega (arith, two, e) in
      let ne1 : tag ≢ 1 = λ e. omega (arith, two, e) in
      ap (λ q. slice_set q 1 to.1) (set_comm x tag 0 n to.0 ne0) ∙ set_comm (slice_set x 0 to.0) tag 1 n to.1 ne1

  -- so it keeps the link
  link_of_sent :
      (z : Packet) (n : ℕ)
      → link_from t.topo (slice_index (slice_set z tag n) 0) (slice_index (slice_set z tag n) 1) ≡ link_from t.topo (slice_index z 0) (slice_index z 1)
  link_of_sent z n =
      ap (λ i. link_from t.topo i (slice_index (slice_set z tag n) 1)) (index_0 z n)
      ∙ ap (λ i. link_from t.topo (slice_index z 0) i) (index_1 z n)

  -- and the edge
  edge_of_sent :
      (z : Packet) (n : ℕ)
      → is_edge t.topo (slice_index (slice_set z tag n) 0) (slice_index (slice_set z tag n) 1) ≡ is_edge t.topo (slice_index z 0) (slice_index z 1)
  edge_of_sent z n =
      ap (λ i. is_edge t.topo i (slice_index (slice_set z tag n) 1)) (index_0 z n)
      ∙ ap (λ i. is_edge t.topo (slice_index z 0) i) (index_1 z n)

  -- erasing takes the tag away again
  erased_again : (z : Packet) (n : ℕ) → IsZeroAt tag z → erased t.fields (slice_set z tag n) ≡ z
  erased_again z n h = erases t p tag tags g (slice_set z tag n) ∙ set-set z tag n 0 ∙ h

  -- number 0 is no tag
  zeroed : (z : Packet) → IsZeroAt tag z → slice_set z tag (number 0) ≡ z
  zeroed z h = ap (λ n. slice_set z tag n) num.zero_is ∙ h

  -- a list that isn't empty has a member
  member_of : (xs : List ℕ) → xs ≢ [] → (l : ℕ) × Contains xs l
  member_of [] h = absurd (h refl)
  member_of (l ∷ ls) h = (l, contains_from_in (l ∷ ls) l (inl refl))

  -- a tag under which x is met
  module _ (tg : ℕ) (x : Packet) (under : Under t p tags tg x) where
    -- how x came there
    came : Come t p tag tags tg x
    came = come t p tag tags g tg x under

    -- an end of the tag is on an edge port
    on_edge : (z : Packet) → IsResult p tags tg x z 0 → is_edge t.topo (slice_index z 0) (slice_index z 1) ≡ true
    on_edge z e = g.compilable.ends_on_edges came.from came.records z came.start (came.reached.ends e.0 z e.1 e.2)

    -- what is recorded next is at the source of a link
    on_link_source :
        (z : Packet) (n : ℕ) → IsResult p tags tg x z (suc n)
        → (to : ℕ × ℕ) × (link_from t.topo (slice_index z 0) (slice_index z 1) ≡ Some to)
    on_link_source z n e =
        let m = member_of e.0 e.2 in
        let q = next_literal t p tag tags g tg x came.reached.at z m.0 ((e.3.1 m.0).0 m.1) in
        ((q.0.to_switch, q.0.to_port), q.3)

    -- what is recorded next is untagged
    result_zero : (z : Packet) (n : ℕ) → IsResult p tags tg x z n → IsZeroAt tag z
    result_zero z n e = (result_ok t p tag tags g tg x came.reached.at z n e).1

    -- a label that records z is followed by the one that records z moved along its link
    module _ (z : Packet) (l : ℕ) (records : StateRecords p tags tg x z l) (to : ℕ × ℕ) (leads : link_from t.topo (slice_index z 0) (slice_index z 1) ≡ Some to) where
      next : (k : Literal) × HoldsLiteral p k × (k.mark ≡ l) × (moved_to to z ≡ moved_by k z)
      next =
          let q = next_literal t p tag tags g tg x came.reached.at z l records in
          let e : (q.0.to_switch, q.0.to_port) ≡ to = same_some (q.0.to_switch, q.0.to_port) to (sym q.3 ∙ leads) in
          (q.0, q.1, q.2, ap (λ o. moved_to o z) (sym e))

      records_moved : RecordsAt (after p l) z [] (moved_to to z) (l + 1)
      records_moved =
          subst (λ j. RecordsAt (after p j) z [] (moved_to to z) (j + 1)) next.2 (subst (λ y. RecordsAt (after p next.0.mark) z [] y (next.0.mark + 1)) (sym next.3) ((on_link p g.distinct next.0 next.1).there z))

      -- so what is left after both is a rest of what the tag gives
      gives_both :
          (w : List Packet) (last : Packet) → Gives (after p (l + 1)) (moved_to to z) w last
          → GivesAs p tags tg x (z ∷ moved_to to z ∷ w) last
      gives_both w last gv =
          let after_z = (rest_gives_from p g.distinct l z (moved_to to z) w last).1 (l + 1, records_moved, gv) in
          (records.0, records.1, (came.reached.at.rests records.0 records.1).comes x z (moved_to to z ∷ w) last l records.2 after_z)

    -- a crossing by a result with a tag leads under this tag
    module _ (z : Packet) (n : ℕ) (result : IsResult p tags tg x z (suc n)) (to : ℕ × ℕ) (leads : link_from t.topo (slice_index z 0) (slice_index z 1) ≡ Some to) where
      next_under : Under t p tags (suc n) (moved_to to z)
      next_under =
          let m = member_of result.0 result.2 in
          let a = (came.reached.same z m.0).1 ((result.3.1 m.0).0 m.1) in
          let set : HasExactly (HasRecorded p came.from (came.records ++ z ∷ [])) result.0 = (result.3.0, λ l. (λ c. (came.reached.same z l).1 ((result.3.1 l).0 c), λ c. (result.3.1 l).1 ((came.reached.same z l).0 c))) in
          let odd : length (came.records ++ z ∷ []) ≡ 2 * came.crossings + 1 = omega (arith, came.reached.size, length-append came.records (z ∷ [])) in
          let moved = records_moved z m.0 ((result.3.1 m.0).0 m.1) to leads in
          (result.0, result.1, (came.from, came.records ++ z ∷ [], came.crossings, came.start, odd, (result.2, set), m.0 + 1, (at_next p g.distinct came.from came.records z (moved_to to z) (m.0 + 1)).1 (m.0, a, moved)))

      next_zero : IsZeroAt tag (moved_to to z)
      next_zero = (come t p tag tags g (suc n) (moved_to to z) next_under).reached.at.zero_tag

      next_gives :
          (w : List Packet) (last : Packet) → GivesAs p tags (suc n) (moved_to to z) w last
          → GivesAs p tags tg x (z ∷ moved_to to z ∷ w) last
      next_gives w last h =
          let of = h.1 in
          let m : Contains result.0 of.1 = subst (λ ls. Contains ls of.1) (same_some of.0 result.0 (sym of.2 ∙ result.1)) of.3 in
          gives_both z of.1 ((result.3.1 of.1).0 m) to leads w last (subst (λ s. Gives s (moved_to to z) w last) of.4 h.2)

  -- a copy with its records and its number at x, and the tag that acts for it
  module _ (u : List Packet) (c : ℕ) (x : Packet) (acts : Acts t p tag tags number c x) where
    crossed_by :
        (y : Packet) → In (sent_for t (slice_set x tag c)) y → (d : Copy) → In (across t u y) d
        → Crossed acts.state x u y d
    crossed_by y i d h =
        let s = (acts.emits y).0 i in
        by s.0 s.1 s.2 s.3
      where
        by : (z : Packet) (n : ℕ) → IsResult p tags acts.state x z n → y ≡ slice_set z tag (number n) → Crossed acts.state x u y d
        by z zero e is =
            let r = from_crossing u y (link_from t.topo (slice_index y 0) (slice_index y 1)) d h in
            let leads = sym (link_of_sent z (number 0)) ∙ ap (λ q. link_from t.topo (slice_index q 0) (slice_index q 1)) (sym is) ∙ r.1 in
            absurd (edge_no_link (is_port t.topo (slice_index z 0) (slice_index z 1)) (link_from t.topo (slice_index z 0) (slice_index z 1)) r.0 (on_edge acts.state x acts.under z e) leads)
        by z (suc n) e is =
            let r = from_crossing u y (link_from t.topo (slice_index y 0) (slice_index y 1)) d h in
            let leads = sym (link_of_sent z (number (suc n))) ∙ ap (λ q. link_from t.topo (slice_index q 0) (slice_index q 1)) (sym is) ∙ r.1 in
            let zero_m = next_zero acts.state x acts.under z n e r.0 leads in
            let zero_z = result_zero acts.state x acts.under z (suc n) e in
            let moved = ap (λ q. moved_to r.0 q) is ∙ moved_tagged r.0 z (number (suc n)) in
            let erased_z = ap (λ q. erased t.fields q) is ∙ erased_again z (number (suc n)) zero_z in
            let erased_m = ap (λ q. erased t.fields q) moved ∙ erased_again (moved_to r.0 z) (number (suc n)) zero_m in
            record {
              source = z;
              next = n;
              labels = e.0;
              get = e.1;
              any = e.2;
              exact = e.3;
              to = r.0;
              leads = leads;
              sent_is = is;
              copy_is =
                  r.2
                  ∙ ap (λ q. record { records = u ++ q ∷ erased t.fields (moved_to r.0 y) ∷ []; packet = moved_to r.0 y }) erased_z
                  ∙ ap (λ q. record { records = u ++ z ∷ q ∷ []; packet = moved_to r.0 y }) erased_m
                  ∙ ap (λ q. record { records = u ++ z ∷ moved_to r.0 z ∷ []; packet = q }) moved;
            }

    -- and each result after a link is crossed to
    crosses :
        (z : Packet) (n : ℕ) → IsResult p tags acts.state x z (suc n) → (to : ℕ × ℕ)
        → link_from t.topo (slice_index z 0) (slice_index z 1) ≡ Some to
        → In (next_of t (tagged u c x)) (tagged (u ++ z ∷ moved_to to z ∷ []) (number (suc n)) (moved_to to z))
    crosses z n e to leads =
        let y = slice_set z tag (number (suc n)) in
        let sent = (acts.emits y).1 (z, suc n, e, refl) in
        let zero_m = next_zero acts.state x acts.under z n e to leads in
        let zero_z = result_zero acts.state x acts.under z (suc n) e in
        let moved = moved_tagged to z (number (suc n)) in
        let erased_z = erased_again z (number (suc n)) zero_z in
        let erased_m = ap (λ q. erased t.fields q) moved ∙ erased_again (moved_to to z) (number (suc n)) zero_m in
        let copy : tagged (u ++ z ∷ moved_to to z ∷ []) (number (suc n)) (moved_to to z) ≡ record { records = u ++ erased t.fields y ∷ erased t.fields (moved_to to y) ∷ []; packet = moved_to to y } =
        sym
        (ap (λ q. record { records = u ++ q ∷ erased t.fields (moved_to to y) ∷ []; packet = moved_to to y }) erased_z
        ∙ ap (λ q. record { records = u ++ z ∷ q ∷ []; packet = moved_to to y }) erased_m
        ∙ ap (λ q. record { records = u ++ z ∷ moved_to to z ∷ []; packet = q }) moved) in
        in_joined
        (across t u)
        (sent_for t (slice_set x tag c))
        y
        (tagged (u ++ z ∷ moved_to to z ∷ []) (number (suc n)) (moved_to to z))
        sent
        (subst (λ o. In (crossing t u y o) (tagged (u ++ z ∷ moved_to to z ∷ []) (number (suc n)) (moved_to to z))) (sym (link_of_sent z (number (suc n)) ∙ leads)) (inl copy))

    pub leaves_by :
        (y : Packet) → In (sent_for t (slice_set x tag c)) y → (d : Copy) → In (leaving t u y) d
        → Leaves acts.state x u y d
    leaves_by y i d h =
        let s = (acts.emits y).0 i in
        by s.0 s.1 s.2 s.3
      where
        edge : (b : Bool) → In (if b then record { records = u; packet = y } ∷ [] else []) d → (b ≡ true) × (d ≡ record { records = u; packet = y })
        edge true h = ⊎_elim (λ e. (refl, e)) (λ e. absurd e) h
        edge false h = absurd h

        by : (z : Packet) (n : ℕ) → IsResult p tags acts.state x z n → y ≡ slice_set z tag (number n) → Leaves acts.state x u y d
        by z zero e is =
            let k = edge (is_edge t.topo (slice_index y 0) (slice_index y 1)) h in
            let zero_z = result_zero acts.state x acts.under z 0 e in
            let same = is ∙ zeroed z zero_z in
            record {
              end = z;
              ends = e;
              untagged = zero_z;
              sent_is = same;
              copy_is = k.1 ∙ ap (λ q. record { records = u; packet = q }) same;
            }
        by z (suc n) e is =
            let k = edge (is_edge t.topo (slice_index y 0) (slice_index y 1)) h in
            let l = on_link_source acts.state x acts.under z n e in
            let here = sym (edge_of_sent z (number (suc n))) ∙ ap (λ q. is_edge t.topo (slice_index q 0) (slice_index q 1)) (sym is) ∙ k.0 in
            absurd (edge_no_link (is_port t.topo (slice_index z 0) (slice_index z 1)) (link_from t.topo (slice_index z 0) (slice_index z 1)) l.0 here l.1)

    -- and each end leaves
    leaves : (z : Packet) → IsResult p tags acts.state x z 0 → In (left_of t (tagged u c x)) record { records = u; packet = z }
    leaves z e =
        let zero_z = result_zero acts.state x acts.under z 0 e in
        let sent = subst (λ q. In (sent_for t (slice_set x tag c)) q) (zeroed z zero_z) ((acts.emits (slice_set z tag (number 0))).1 (z, 0, e, refl)) in
        in_joined
        (leaving t u)
        (sent_for t (slice_set x tag c))
        z
        record { records = u; packet = z }
        sent
        (subst (λ b. In {X = Copy} (if b then record { records = u; packet = z } ∷ [] else []) record { records = u; packet = z }) (sym (on_edge acts.state x acts.under z e)) (inl refl))

  -- two sets of one property are one
  same_set : (P : ℕ → Type 0) (a b : List ℕ) → HasExactly P a → HasExactly P b → a ≡ b
  same_set P a b h i =
      one_list a b (rising_from a h.0) (rising_from b i.0)
      (λ l m. in_from_contains b l ((i.1 l).1 ((h.1 l).0 (contains_from_in a l m))))
      (λ l m. in_from_contains a l ((h.1 l).1 ((i.1 l).0 (contains_from_in b l m))))

  -- one source is sent once
  same_source :
      (tg : ℕ) (x : Packet) (u : List Packet) (y y' : Packet) (d d' : Copy) (c : Crossed tg x u y d) (c' : Crossed tg x u y' d')
      → c.source ≡ c'.source → y ≡ y'
  same_source tg x u y y' d d' c c' e =
      let exact' = subst (λ z. HasExactly (StateRecords p tags tg x z) c'.labels) (sym e) c'.exact in
      let labels = same_set (StateRecords p tags tg x c.source) c.labels c'.labels c.exact exact' in
      let places = g.stand.once c.labels c.next c'.next c.any c.get (c'.get ∙ ap Some (sym labels)) in
      c.sent_is ∙ ap (λ z. slice_set z tag (number (suc c.next))) e ∙ ap (λ n. slice_set c'.source tag (number (suc n))) places ∙ sym c'.sent_is

  module _ (pk : Packet) (start : IsStartPacket t.fields t.topo pk) where
    -- a copy that waits after k crossings
    pub record Waits (k : ℕ) (c : Copy) : Type 0 where
      pub state : ℕ
      pub place : Packet
      pub under : Under t p tags state place
      pub size : length c.records ≡ 2 * k
      pub packet_is : c.packet ≡ slice_set place tag (number state)
      pub gives : (w : List Packet) (last : Packet) → GivesAs p tags state place w last → Gives p pk (c.records ++ w) last

    -- the tag that acts for it
    abbrev pub acting : (k : ℕ) (c : Copy) (w : Waits k c) → Acts t p tag tags number (number w.state) w.place
    acting k c w = num.acts w.state w.place w.under

    -- each of its histories is the policy's
    acting_gives :
        (k : ℕ) (c : Copy) (w : Waits k c) (v : List Packet) (last : Packet)
        → GivesAs p tags (acting k c w).state w.place v last → Gives p pk (c.records ++ v) last
    acting_gives k c w v last h =
        let a = acting k c w in
        w.gives v last (num.alike a.state w.state w.place a.number_is a.under w.under v last h)

    -- each next copy comes by a crossing
    crossed_from :
        (k : ℕ) (c : Copy) (w : Waits k c) (d : Copy) → In (next_of t c) d
        → (y : Packet) × In (sent_for t c.packet) y × Crossed (acting k c w).state w.place c.records y d
    crossed_from k c w d h =
        let s = from_joined (across t c.records) (sent_for t c.packet) d h in
        (s.0, s.1, crossed_by c.records (number w.state) w.place (acting k c w) s.0 (subst (λ q. In (sent_for t q) s.0) w.packet_is s.1) d s.2)

    -- and waits
    next_waits :
        (k : ℕ) (c : Copy) (w : Waits k c) (y : Packet) (d : Copy) → Crossed (acting k c w).state w.place c.records y d
        → Waits (suc k) d
    next_waits k c w y d r =
        let a = acting k c w in
        let result : IsResult p tags a.state w.place r.source (suc r.next) = (r.labels, r.get, r.any, r.exact) in
        let target = moved_to r.to r.source in
        subst
        (λ e. Waits (suc k) e)
        (sym r.copy_is)
        record {
          state = suc r.next;
          place = target;
          under = next_under a.state w.place a.under r.source r.next result r.to r.leads;
          size = omega (arith, w.size, length-append c.records (r.source ∷ target ∷ []));
          packet_is = refl;
          gives = λ v last h.
              subst
              (λ l. Gives p pk l last)
              (sym (append_assoc c.records (r.source ∷ target ∷ []) v))
              (acting_gives k c w (r.source ∷ target ∷ v) last (next_gives a.state w.place a.under r.source r.next result r.to r.leads v last h));
        }

    -- each copy that waits is so
    pub waits : (k : ℕ) (c : Copy) → In (waiting t k pk) c → Waits k c
    waits zero c h =
        ⊎_elim
        (λ e.
        subst
        (λ d. Waits 0 d)
        (sym e)
        record {
          state = 0;
          place = pk;
          under = start;
          size = refl;
          packet_is = sym (zeroed pk ((come t p tag tags g 0 pk start).reached.at.zero_tag));
          gives = λ v last h. subst (λ s. Gives s pk v last) h.1 h.2;
        })
        (λ e. absurd e)
        h
    waits (suc k) c h =
        let s = from_joined (next_of t) (waiting t k pk) c h in
        let w = waits k s.0 s.1 in
        let d = crossed_from k s.0 w c s.2 in
        next_waits k s.0 w d.0 c d.2

    -- a copy that has crossed a link has the number of a set that isn't empty
    pub crossed_number :
        (k : ℕ) (c : Copy) → In (waiting t (suc k) pk) c
        → (n : ℕ) × (labels : List ℕ) × (slice_get tags n ≡ Some labels) × (labels ≢ []) × (slice_index c.packet tag ≡ number (suc n))
    crossed_number k c h =
        let s = from_joined (next_of t) (waiting t k pk) c h in
        let w = waits k s.0 s.1 in
        let d = (crossed_from k s.0 w c s.2).2 in
        let a = acting k s.0 w in
        let under = next_under a.state w.place a.under d.source d.next (d.labels, d.get, d.any, d.exact) d.to d.leads in
        let packet = (come t p tag tags g (suc d.next) (moved_to d.to d.source) under).reached.at.packet in
        let lt = (g.fields_ok.tag_past_port tag g.tag_is).1 in
        let few = g.fields_ok.few in
        let long : tag < length (moved_to d.to d.source) = omega (arith, packet.places, lt, few) in
        (d.next, d.labels, d.get, d.any, ap (λ (e : Copy). slice_index e.packet tag) d.copy_is ∙ get_or-set_same (moved_to d.to d.source) tag (number (suc d.next)) 0 long)

    -- what one copy leads to has different records
    records_no_dup_here : (k : ℕ) (c : Copy) (w : Waits k c) → NoDup (map records_of (next_of t c))
    records_no_dup_here k c w =
        subst
        (λ l. NoDup l)
        (sym (map_over_joined records_of (across t c.records) (sent_for t c.packet)))
        (no_dup_flat
        (λ y. map records_of (across t c.records y))
        (sent_for t c.packet)
        (subst (λ q. NoDup (sent_for t q)) (sym w.packet_is) (acting k c w).apart)
        (λ y i. alone y (link_from t.topo (slice_index y 0) (slice_index y 1)))
        (λ y y' v i i' h h'.
        let a = from_mapped records_of (across t c.records y) v h in
        let b = from_mapped records_of (across t c.records y') v h' in
        let d = crossed_by c.records (number w.state) w.place (acting k c w) y (subst (λ q. In (sent_for t q) y) w.packet_is i) a.0 a.1 in
        let d' = crossed_by c.records (number w.state) w.place (acting k c w) y' (subst (λ q. In (sent_for t q) y') w.packet_is i') b.0 b.1 in
        let e = sym (ap records_of d.copy_is) ∙ sym a.2 ∙ b.2 ∙ ap records_of d'.copy_is in
        same_source (acting k c w).state w.place c.records y y' a.0 b.0 d d' (two_last c.records c.records d.source (moved_to d.to d.source) d'.source (moved_to d'.to d'.source) e).1))
      where
        alone : (y : Packet) (o : Option (ℕ × ℕ)) → NoDup (map records_of (crossing t c.records y o))
        alone y None = tt
        alone y (Some to) = ((λ i. i), tt)

    -- no two copies that wait have the same records
    pub records_no_dup : (k : ℕ) → NoDup (map records_of (waiting t k pk))
    records_no_dup zero = ((λ i. i), tt)
    records_no_dup (suc k) =
        let before = records_no_dup k in
        subst
        (λ l. NoDup l)
        (sym (map_over_joined records_of (next_of t) (waiting t k pk)))
        (no_dup_flat
        (λ c. map records_of (next_of t c))
        (waiting t k pk)
        (no_dup_from_images records_of (waiting t k pk) before)
        (λ c i. records_no_dup_here k c (waits k c i))
        (λ c c' v i i' h h'.
        let a = from_mapped records_of (next_of t c) v h in
        let b = from_mapped records_of (next_of t c') v h' in
        let d = (crossed_from k c (waits k c i) a.0 a.1).2 in
        let d' = (crossed_from k c' (waits k c' i') b.0 b.1).2 in
        let e = sym (ap records_of d.copy_is) ∙ sym a.2 ∙ b.2 ∙ ap records_of d'.copy_is in
        one_of_images records_of (waiting t k pk) before c c' i i' (two_last c.records c'.records d.source (moved_to d.to d.source) d'.source (moved_to d'.to d'.source) e).0))

    -- what leaves from a copy
    pub left_from :
        (k : ℕ) (c : Copy) (w : Waits k c) (d : Copy) → In (left_of t c) d
        → (y : Packet) × In (sent_for t c.packet) y × Leaves (acting k c w).state w.place c.records y d
    left_from k c w d h =
        let s = from_joined (leaving t c.records) (sent_for t c.packet) d h in
        (s.0, s.1, leaves_by c.records (number w.state) w.place (acting k c w) s.0 (subst (λ q. In (sent_for t q) s.0) w.packet_is s.1) d s.2)

    -- what leaves is a history of the policy
    pub left_is_history :
        (k : ℕ) (d : Copy) → In (left_after t k pk) d
        → Gives p pk d.records d.packet × (length d.records ≡ 2 * k) × IsZeroAt tag d.packet
    left_is_history k d h =
        let s = from_joined (left_of t) (waiting t k pk) d h in
        let w = waits k s.0 s.1 in
        let l = (left_from k s.0 w d s.2).2 in
        subst
        (λ e. Gives p pk e.records e.packet × (length e.records ≡ 2 * k) × IsZeroAt tag e.packet)
        (sym l.copy_is)
        (subst (λ v. Gives p pk v l.end) (append-nil s.0.records) (acting_gives k s.0 w [] l.end (l.ends.0, l.ends.1, l.ends.2)), w.size, l.untagged)

    -- equality of packets is decided
    packets_decided : (x y : Packet) → Decided (x ≡ y)
    packets_decided x y = lists_decided numbers_decided x y

    -- and of copies
    copies_decided : (c d : Copy) → Decided (c ≡ d)
    copies_decided c d =
        ⊎_elim
        (λ e.
        ⊎_elim
        (λ f. inl (ap (λ q. record { records = q; packet = c.packet }) e ∙ ap (λ q. record { records = d.records; packet = q }) f))
        (λ n. inr (λ h. n (ap (λ (c : Copy). c.packet) h)))
        (packets_decided c.packet d.packet))
        (λ n. inr (λ h. n (ap (λ (c : Copy). c.records) h)))
        (lists_decided packets_decided c.records d.records)

    -- from a copy that waits, each history of its tag leaves after as many more crossings as it has pairs of records
    arrives : (w : List Packet) (k : ℕ) (u : List Packet) (tg : ℕ) (x : Packet) → Under t p tags tg x → In (waiting t k pk) (tagged u (number tg) x) → (last : Packet) → GivesAs p tags tg x w last → (j : ℕ) → length w ≡ 2 * j → (In (left_after t (k + j) pk) record { records = u ++ w; packet = last } → ⊥) → ⊥
    arrives [] k u tg x under i last gv j e never =
        let a = num.acts tg x under in
        let end = num.alike tg a.state x (sym a.number_is) under a.under [] last gv in
        let none : k + j ≡ k = omega (arith, e) in
        never (subst (λ n. In (left_after t n pk) record { records = u ++ []; packet = last }) (sym none) (subst (λ v. In (left_after t k pk) record { records = v; packet = last }) (sym (append-nil u)) (in_joined (left_of t) (waiting t k pk) (tagged u (number tg) x) record { records = u; packet = last } i (leaves u (number tg) x a last (end.0, end.1, end.2)))))
    arrives (y ∷ []) k u tg x under i last gv j e never = omega (arith, e)
    arrives (y ∷ y' ∷ w) k u tg x under i last gv zero e never = omega (arith, e)
    arrives (y ∷ y' ∷ w) k u tg x under i last gv (suc j) e never =
        let a = num.acts tg x under in
        let r = come t p tag tags g a.state x a.under in
        let own = num.alike tg a.state x (sym a.number_is) under a.under (y ∷ y' ∷ w) last gv in
        let f = (r.reached.at.rests own.0 own.1).goes x y (y' ∷ w) last own.2 in
        let lit = next_literal t p tag tags g a.state x r.reached.at y f.0 (own.0, own.1, f.1) in
        let rest = (rest_gives_from p g.distinct lit.0.mark y y' w last).0 (subst (λ q. Gives (after p q) y (y' ∷ w) last) (sym lit.2) f.2) in
        let on = (on_link p g.distinct lit.0 lit.1).only y y' rest.0 rest.1 in
        let to : ℕ × ℕ = (lit.0.to_switch, lit.0.to_port) in
        not_without_list
        (StateRecords p tags a.state x y)
        (bound_of p)
        (λ l c. let h = (r.reached.same y l).1 c in dups_below p l (holds_dup p r.from h.0 h.1 l h.3))
        (λ N rises exact.
        let has : Contains N f.0 = (exact f.0).1 (own.0, own.1, f.1) in
        let any : N ≢ [] = λ q. empty_has f.0 (subst (λ n. Contains n f.0) q has) in
        let at : HasExactly (HasRecorded p r.from (r.records ++ y ∷ [])) N = (rises, λ l. (λ c. (r.reached.same y l).1 ((exact l).0 c), λ c. (exact l).1 ((r.reached.same y l).0 c))) in
        let odd : length (r.records ++ y ∷ []) ≡ 2 * r.crossings + 1 = omega (arith, r.reached.size, length-append r.records (y ∷ [])) in
        let place = g.stand.stands N (r.from, r.records ++ y ∷ [], r.crossings, r.start, odd, (any, at)) in
        let result : IsResult p tags a.state x y (suc place.0) = (N, place.1, any, (rises, exact)) in
        let next = next_under a.state x a.under y place.0 result to lit.3 in
        let here = crosses u (number tg) x a y place.0 result to lit.3 in
        let there = in_joined (next_of t) (waiting t k pk) (tagged u (number tg) x) (tagged (u ++ y ∷ moved_to to y ∷ []) (number (suc place.0)) (moved_to to y)) i here in
        let size : length w ≡ 2 * j = omega (arith, e) in
        let more : suc k + j ≡ k + suc j = omega arith in
        let goes : Gives (after p (f.0 + 1)) (moved_to to y) w last =
        subst (λ q. Gives (after p (q + 1)) (moved_to to y) w last) lit.2 (subst (λ q. Gives (after p (lit.0.mark + 1)) q w last) on.1 (subst (λ q. Gives (after p q) y' w last) on.0 rest.2)) in
        arrives w (suc k) (u ++ y ∷ moved_to to y ∷ []) (suc place.0) (moved_to to y) next there last (after p (f.0 + 1), (N, f.0, place.1, has, refl), goes) j size
        (λ yes.
        let whole : (u ++ y ∷ moved_to to y ∷ []) ++ w ≡ u ++ y ∷ y' ∷ w =
        append_assoc u (y ∷ moved_to to y ∷ []) w ∙ ap (λ q. u ++ y ∷ q ∷ w) (sym on.1) in
        never (subst (λ n. In (left_after t n pk) record { records = u ++ y ∷ y' ∷ w; packet = last }) more (subst (λ v. In (left_after t (suc k + j) pk) record { records = v; packet = last }) whole yes))))
      where
        empty_has : (l : ℕ) → Contains {X = ℕ} [] l → ⊥
        empty_has l h = in_from_contains [] l h

    -- so each history of the policy leaves
    pub history_leaves : (k : ℕ) (w : List Packet) (last : Packet) → Gives p pk w last → length w ≡ 2 * k → In (left_after t k pk) record { records = w; packet = last }
    history_leaves k w last gv e =
        let zero_tag = (come t p tag tags g 0 pk start).reached.at.zero_tag in
        let same : 0 + k ≡ k = omega arith in
        let first : In (waiting t 0 pk) (tagged [] (number 0) pk) = inl (ap (λ q. record { records = []; packet = q }) (zeroed pk zero_tag)) in
        stable
        (in_decided copies_decided (left_after t k pk) record { records = w; packet = last })
        (λ never. arrives w 0 [] 0 pk start first last (p, refl, gv) k e (λ yes. never (subst (λ n. In (left_after t n pk) record { records = w; packet = last }) same yes)))
