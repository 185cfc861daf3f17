-- Where a run is after an even list of records: at a packet, under the tag of the set of dups that it crossed last.
use Rattle.std.proofs.Common.{◌≡◌, ◌≢◌, ℕ, zero, suc, ◌+◌, ◌*◌, ◌≤◌, ◌<◌, Bool, true, false, ◌⊎◌, inl, inr, ⊎_elim, Some, List, [], ◌∷◌, ◌++◌, length, refl, sym, ap, subst, ◌∙◌, arith, length-append, get_or-set_other, get_or-set_same}
use Rattle.std.specs.Prelude.{◌↔◌, ◌==◌, ◌&&◌, ◌||◌, map, slice_get, slice_index, slice_set, Contains}
use Rattle.std.specs.List.{list_any}
use Rattle.nk_field.specs.declared.packet.Packet.{Packet}
use Rattle.nk_field.specs.Packet.{IsFieldTable, IsPacket, erased, without}
use Rattle.nk_field.proofs.Lists.{In, contains_from_in}
use Rattle.nk_topo.specs.Topology.{SwitchPorts, AreLinks, link_from}
use Rattle.nk_policy.specs.Policy.{Policy}
use Rattle.nk_policy.specs.Meaning.{Gives, Runs}
use Rattle.nk_policy.specs.Progress.{RecordsAt}
use Rattle.nk_policy.specs.After.{after}
use Rattle.nk_policy.specs.Distinct.{HasDistinct}
use Rattle.nk_policy.specs.Ranges.{IsInRange, AssignsOnly}
use Rattle.nk_policy.specs.Labels.{HasRecorded, IsLabelSet}
use Rattle.nk_policy.specs.Leaves.{has_leaf, is_on_field}
use Rattle.nk_policy.specs.Literals.{Literal, HoldsLiteral, IsAtSource, moved_by}
use Rattle.nk_policy.specs.Crossings.{IsBetween}
use Rattle.nk_policy.proofs.Kept
use Rattle.nk_policy.proofs.Untouched.{IsOther, IsZeroAt, assigns_others, others_keep}
use Rattle.nk_policy.proofs.InRange.{ways_keep, records_keep, after_in_range}
use Rattle.nk_policy.proofs.LabelSteps.{packet_of, gives_is_runs, at_first, at_next, gives_at, gives_from, rest_gives_from}
use Rattle.nk_policy.proofs.ListParts.{last_is, last_of_list}
use Rattle.nk_policy.proofs.LinkStructure.{between, on_link, off_link}
use Rattle.nk_policy.proofs.Parity.{no_records, odd_at}
use Rattle.nk_names.specs.Accepted.{IsStartPacket, IsCompilable}
use Rattle.nk_names.proofs.Declared.{link_of, literal_declared, link_at_source}
use Rattle.nk_table.specs.declared.Tables.{Tables}
use Rattle.nk_table.specs.Hops.{moved_to}
use Rattle.nk_compile.specs.PrintedTable.{IsOfTag, StateRecords, IsResult}
use Rattle.nk_compile.specs.MetUnder.{IsMetUnder}
use Rattle.nk_compile.specs.WholeTable.{HasRowsAt, link_end}
use Rattle.nk_compile.proofs.LinkEnds.{end_of_literal}
use Rattle.nk_compile.proofs.TagPlaces.{StandOnce}

-- equal options have equal values
pub same_some : {A : Type 0} (a b : A) → Some a ≡ Some b → a ≡ b
same_some a b e = cc

-- what the law rests on: fields, topology, policy and tag sets, for the tables t
pub record Setting (t : Tables) (p : Policy) (tag : ℕ) (tags : List (List ℕ)) : Type 0 where
  pub fields_ok : IsFieldTable t.fields
  pub links_ok : AreLinks t.topo
  pub distinct : HasDistinct p
  pub in_range : IsInRange p t.fields
  pub compilable : IsCompilable t.fields t.topo p
  pub tag_is : t.fields.tag ≡ Some tag
  pub stand : StandOnce p (IsStartPacket t.fields t.topo) tags

-- a policy that is left between two crossings, with what its runs keep
pub record IsRest (t : Tables) (p : Policy) (tag : ℕ) (s : Policy) : Type 0 where
  pub between : IsBetween (HoldsLiteral p) s
  pub range : IsInRange s t.fields
  pub others : AssignsOnly (IsOther tag) s
  pub goes :
      (x y : Packet) (w : List Packet) (z : Packet) → Gives s x (y ∷ w) z
      → (l : ℕ) × RecordsAt s x [] y l × Gives (after p l) y w z
  pub comes :
      (x y : Packet) (w : List Packet) (z : Packet) (l : ℕ) → RecordsAt s x [] y l → Gives (after p l) y w z
      → Gives s x (y ∷ w) z

-- the packet x can come with the tag tg
pub record AtState (t : Tables) (p : Policy) (tag : ℕ) (tags : List (List ℕ)) (tg : ℕ) (x : Packet) : Type 0 where
  pub packet : IsPacket t.fields x
  pub zero_tag : IsZeroAt tag x
  pub here : In (map (λ (s : SwitchPorts). s.switch) t.topo.switches) (slice_index x 0)
  pub rows : HasRowsAt p tags (slice_index x 0) tg
  pub rests : (s : Policy) → IsOfTag p tags tg s → IsRest t p tag s

-- after the records u, 2 * k of them, runs from pk are at x, with the tag tg
pub record Reached (t : Tables) (p : Policy) (tag : ℕ) (tags : List (List ℕ)) (pk : Packet) (k : ℕ) (u : List Packet) (tg : ℕ) (x : Packet) : Type 0 where
  pub size : length u ≡ 2 * k
  pub at : AtState t p tag tags tg x
  pub same : (y : Packet) (l : ℕ) → HasRecorded p pk (u ++ y ∷ []) l ↔ StateRecords p tags tg x y l
  pub ends : (s : Policy) (z : Packet) → IsOfTag p tags tg s → Gives s x [] z → Gives p pk u z

-- a list that isn't empty has a member
some_member : (xs : List ℕ) → xs ≢ [] → (l : ℕ) × Contains xs l
some_member [] h = absurd (h refl)
some_member (x ∷ xs) h = (x, contains_from_in (x ∷ xs) x (inl refl))

-- two tests that pass together pass each
both_true : (a b : Bool) → a && b ≡ true → (a ≡ true) × (b ≡ true)
both_true true b h = (refl, h)
both_true false b h = absurd cc

-- numbers that pass the test are equal
same_from : (l n : ℕ) → l == n ≡ true → l ≡ n
same_from l n h = grind (arith, h)

-- of two tests that pass together one passes
or_cases : (a b : Bool) → a || b ≡ true → (a ≡ true) ⊎ (b ≡ true)
or_cases true b h = inl refl
or_cases false b h = inr h

-- a declared port's switch is declared
port_switch :
    (switches : List SwitchPorts) (sw pt : ℕ)
    → list_any (λ s. (s.switch == sw) && list_any (λ p. p == pt) s.ports) switches ≡ true
    → In (map (λ (s : SwitchPorts). s.switch) switches) sw
port_switch [] sw pt h = absurd cc
port_switch (s ∷ ss) sw pt h =
    ⊎_elim
    (λ e. inl (sym (same_from s.switch sw (both_true (s.switch == sw) (list_any (λ p. p == pt) s.ports) e).0)))
    (λ e. inr (port_switch ss sw pt e))
    (or_cases ((s.switch == sw) && list_any (λ p. p == pt) s.ports) (list_any (λ (s : SwitchPorts). (s.switch == sw) && list_any (λ p. p == pt) s.ports) ss) h)

module _ (t : Tables) (p : Policy) (tag : ℕ) (tags : List (List ℕ)) (g : Setting t p tag tags) where
  -- the tag is past the port
  pub past : 2 ≤ tag
  past = (g.fields_ok.tag_past_port tag g.tag_is).0

  -- the policy doesn't touch the tag
  no_tag : has_leaf (is_on_field tag) p ≡ false
  no_tag =
      subst (λ f. has_leaf (is_on_field f) p ≡ false) (same_some g.compilable.tag tag (sym g.compilable.tag_declared ∙ g.tag_is)) g.compilable.tag_free

  -- erasing is setting the tag to 0
  pub erases : (x : Packet) → erased t.fields x ≡ slice_set x tag 0
  erases x = ap (λ o. without o x) g.tag_is

  -- the tag changes neither switch nor port
  pub tagged_index : (f n : ℕ) (x : Packet) → f < 2 → slice_index (slice_set x tag n) f ≡ slice_index x f
  tagged_index f n x lt =
      let ne : f ≢ tag = λ e. omega (arith, past, lt, e) in
      get_or-set_other x tag f n 0 ne

  -- the whole policy is such a rest
  start_rest : IsRest t p tag p
  start_rest = record {
    between = between p g.compilable.dups_in_links g.compilable.switch_in_links;
    range = g.in_range;
    others = assigns_others tag past p no_tag;
    goes = λ x y w z gv. (gives_from p g.distinct x y w z).0 gv;
    comes = λ x y w z l r gv. (gives_from p g.distinct x y w z).1 (l, r, gv);
  }

  -- and what is left after a crossing is
  later_rest : (k : Literal) → HoldsLiteral p k → IsRest t p tag (after p (k.mark + 1))
  later_rest k h = record {
    between = off_link p g.distinct g.compilable.dups_in_links g.compilable.switch_in_links k h;
    range = after_in_range t.fields p (k.mark + 1) g.in_range;
    others = Kept.after_assigns (IsOther tag) (IsZeroAt tag) (others_keep tag) p (k.mark + 1) (assigns_others tag past p no_tag);
    goes = λ x y w z gv. (rest_gives_from p g.distinct (k.mark + 1) x y w z).0 gv;
    comes = λ x y w z l r gv. (rest_gives_from p g.distinct (k.mark + 1) x y w z).1 (l, r, gv);
  }

  -- what a tag's policies end at or record is in range, untagged and at its switch
  pub result_ok :
      (tg : ℕ) (x : Packet) → AtState t p tag tags tg x → (z : Packet) (t' : ℕ) → IsResult p tags tg x z t'
      → IsPacket t.fields z × IsZeroAt tag z × (slice_index z 0 ≡ slice_index x 0)
  result_ok tg x a z zero r =
      let s = a.rests r.0 r.1 in
      let v = (gives_is_runs r.0 x [] z).0 r.2 in
      let run = subst (λ w. Runs r.0 x w z) (no_records v.0 v.1) v.2 in
      (ways_keep t.fields r.0 s.range x [] z run a.packet, Kept.ways_keep (IsOther tag) (IsZeroAt tag) (others_keep tag) r.0 s.others x [] z run a.zero_tag, s.between.ends x z run)
  result_ok tg x a z (suc t') r =
      let m = some_member r.0 r.2 in
      let c = (r.3.1 m.0).0 m.1 in
      let s = a.rests c.0 c.1 in
      (records_keep t.fields c.0 s.range x [] z m.0 c.2 a.packet, Kept.records_keep (IsOther tag) (IsZeroAt tag) (others_keep tag) c.0 s.others x [] z m.0 c.2 a.zero_tag, (s.between.records x z m.0 c.2).4)

  -- what is recorded next is at the source of a declared link, by the first dup of a literal
  pub next_literal :
      (tg : ℕ) (x : Packet) → AtState t p tag tags tg x → (z : Packet) (l : ℕ) → StateRecords p tags tg x z l
      → (k : Literal) × HoldsLiteral p k × (k.mark ≡ l) × (link_from t.topo (slice_index z 0) (slice_index z 1) ≡ Some (k.to_switch, k.to_port))
  next_literal tg x a z l c =
      let r = (a.rests c.0 c.1).between.records x z l c.2 in
      (r.0, r.1, r.3, link_at_source t.topo g.links_ok p g.compilable.links_declared r.0 r.1 z r.2)

  module _ (pk : Packet) (start : IsStartPacket t.fields t.topo pk) where
    -- at first
    pub reached_first : Reached t p tag tags pk 0 [] 0 pk
    reached_first = record {
      size = refl;
      at = record {
        packet = start.packet;
        zero_tag = sym (erases pk) ∙ start.untagged;
        here = port_switch t.topo.switches (slice_index pk 0) (slice_index pk 1) start.located;
        rows = tt;
        rests = λ s e. subst (λ q. IsRest t p tag q) (sym e) start_rest;
      };
      same = λ y l. (
        λ a. (p, refl, (at_first p g.distinct pk y l).0 a),
        λ c. (at_first p g.distinct pk y l).1 (subst (λ q. RecordsAt q pk [] y l) c.1 c.2),
      );
      ends = λ s z e gv. subst (λ q. Gives q pk [] z) e gv;
    }

    -- what is recorded is in range and untagged
    recorded :
        (u : List Packet) (x : Packet) (l : ℕ) → HasRecorded p pk (u ++ x ∷ []) l
        → IsPacket t.fields x × IsZeroAt tag x
    recorded u x l a =
        let e = last_is (map packet_of a.0) a.1 u x a.2 in
        let others = assigns_others tag past p no_tag in
        let zero_pk = sym (erases pk) ∙ start.untagged in
        subst
        (λ q. IsPacket t.fields q × IsZeroAt tag q)
        e.1
        (records_keep t.fields p g.in_range pk a.0 a.1 l a.3 start.packet, Kept.records_keep (IsOther tag) (IsZeroAt tag) (others_keep tag) p others pk a.0 a.1 l a.3 zero_pk)

    -- after an odd list of records, whose set of labels is that of a tag, and one record more
    module _ (n : ℕ) (front : List Packet) (z : Packet) (odd : length (front ++ z ∷ []) ≡ 2 * n + 1) (t2 : ℕ) (N : List ℕ) (get : slice_get tags t2 ≡ Some N) (set : IsLabelSet p pk (front ++ z ∷ []) N) (x : Packet) (l0 : ℕ) (at : HasRecorded p pk ((front ++ z ∷ []) ++ x ∷ []) l0) where
      -- each member of the set is the first dup of a literal at whose source the last of them is
      source :
          (l : ℕ) → Contains N l
          → (i : Literal) × HoldsLiteral p i × (i.mark ≡ l) × (link_from t.topo (slice_index z 0) (slice_index z 1) ≡ Some (i.to_switch, i.to_port))
      source l m =
          let q = odd_at p g.distinct g.compilable.dups_in_links n pk (front ++ z ∷ []) l odd ((set.1.1 l).0 m) in
          let e = (last_is front z q.3.0 q.3.1 q.3.2).1 in
          let here = subst (λ y. IsAtSource q.0 y) (sym e) q.3.3 in
          (q.0, q.1, q.2, link_at_source t.topo g.links_ok p g.compilable.links_declared q.0 q.1 z here)

      -- by one of them the record came
      by : (l : ℕ) × Contains N l × RecordsAt (after p l) z [] x l0
      by = let c = (at_next p g.distinct pk front z x l0).0 at in (c.0, (set.1.1 c.0).1 c.1, c.2)

      first :
          (i : Literal) × (x ≡ moved_by i z) × (link_from t.topo (slice_index z 0) (slice_index z 1) ≡ Some (i.to_switch, i.to_port))
      first =
          let q = source by.0 by.1 in
          (q.0, ((on_link p g.distinct q.0 q.1).only z x l0 (subst (λ j. RecordsAt (after p j) z [] x l0) (sym q.2) by.2)).1, q.3)

      -- and each leads there
      literal :
          (l : ℕ) → Contains N l
          → (i : Literal) × HoldsLiteral p i × (i.mark ≡ l) × (x ≡ moved_by i z) × (i.to_switch ≡ first.0.to_switch)
      literal l m =
          let q = source l m in
          let e : (q.0.to_switch, q.0.to_port) ≡ (first.0.to_switch, first.0.to_port) = same_some (q.0.to_switch, q.0.to_port) (first.0.to_switch, first.0.to_port) (sym q.3 ∙ first.2) in
          (q.0, q.1, q.2, first.1 ∙ ap (λ o. moved_to o z) (sym e), ap (λ (o : ℕ × ℕ). o.0) e)

      crossed : (l : ℕ) → Contains N l → RecordsAt (after p l) z [] x (l + 1)
      crossed l m =
          let q = literal l m in
          subst (λ j. RecordsAt (after p j) z [] x (j + 1)) q.2 (subst (λ y. RecordsAt (after p q.0.mark) z [] y (q.0.mark + 1)) (sym q.3) ((on_link p g.distinct q.0 q.1).there z))

      only_next : (l : ℕ) → Contains N l → (y : Packet) (l' : ℕ) → RecordsAt (after p l) z [] y l' → l' ≡ l + 1
      only_next l m y l' c =
          let q = literal l m in
          ((on_link p g.distinct q.0 q.1).only z y l' (subst (λ j. RecordsAt (after p j) z [] y l') (sym q.2) c)).0
          ∙ ap (λ j. j + 1) q.2

      at_target : (l : ℕ) → Contains N l → HasRecorded p pk ((front ++ z ∷ []) ++ x ∷ []) (l + 1)
      at_target l m = (at_next p g.distinct pk front z x (l + 1)).1 (l, (set.1.1 l).0 m, crossed l m)

      is_member : (labels : List ℕ) → slice_get tags t2 ≡ Some labels → (l : ℕ) → Contains labels l → Contains N l
      is_member labels e l m = subst (λ n. Contains n l) (same_some labels N (sym e ∙ get)) m

      next_same :
          (y : Packet) (l : ℕ)
          → HasRecorded p pk (((front ++ z ∷ []) ++ x ∷ []) ++ y ∷ []) l ↔ StateRecords p tags (suc t2) x y l
      next_same y l = (
        λ a.
            let b = (at_next p g.distinct pk (front ++ z ∷ []) x y l).0 a in
            let c = (at_next p g.distinct pk front z x b.0).0 b.1 in
            let m = (set.1.1 c.0).1 c.1 in
            let e = only_next c.0 m x b.0 c.2 in
            (after p (c.0 + 1), (N, c.0, get, m, refl), subst (λ j. RecordsAt (after p j) x [] y l) e b.2),
        λ q.
            let m = is_member q.1.0 q.1.2 q.1.1 q.1.3 in
            let c = subst (λ s. RecordsAt s x [] y l) q.1.4 q.2 in
            (at_next p g.distinct pk (front ++ z ∷ []) x y l).1 (q.1.1 + 1, at_target q.1.1 m, c),
      )

      next_ends :
          (s : Policy) (y : Packet) → IsOfTag p tags (suc t2) s → Gives s x [] y
          → Gives p pk ((front ++ z ∷ []) ++ x ∷ []) y
      next_ends s y q gv =
          let m = is_member q.0 q.2 q.1 q.3 in
          let c = subst (λ s. Gives s x [] y) q.4 gv in
          (gives_at p g.distinct pk (front ++ z ∷ []) x y).1 (q.1 + 1, at_target q.1 m, c)

      next_rests : (s : Policy) → IsOfTag p tags (suc t2) s → IsRest t p tag s
      next_rests s q =
          let i = literal q.1 (is_member q.0 q.2 q.1 q.3) in
          subst (λ s. IsRest t p tag s) (sym q.4) (subst (λ j. IsRest t p tag (after p (j + 1))) i.2 (later_rest i.0 i.1))

      target_switch : slice_index x 0 ≡ first.0.to_switch
      target_switch =
          let ne : ◌≢◌ {A = ℕ} 0 1 = λ e. omega (arith, e) in
          let at_z = recorded front z by.0 ((set.1.1 by.0).0 by.1) in
          let long : 0 < length z = omega (arith, at_z.0.places) in
          ap (λ q. slice_index q 0) first.1
          ∙ get_or-set_other (slice_set z 0 first.0.to_switch) 1 0 first.0.to_port 0 ne
          ∙ get_or-set_same z 0 first.0.to_switch 0 long

      -- a crossing's end is reached under the tag
      pub reached_after : Reached t p tag tags pk (suc n) ((front ++ z ∷ []) ++ x ∷ []) (suc t2) x
      reached_after =
          let m = some_member N set.0 in
          let i = literal m.0 m.1 in
          let here = recorded (front ++ z ∷ []) x l0 at in
          record {
            size = omega (arith, odd, length-append (front ++ z ∷ []) (x ∷ []));
            at = record {
              packet = here.0;
              zero_tag = here.1;
              here =
                  subst
                  (λ w. In (map (λ (s : SwitchPorts). s.switch) t.topo.switches) w)
                  (i.4 ∙ sym target_switch)
                  (port_switch t.topo.switches i.0.to_switch i.0.to_port (g.links_ok.declared (link_of i.0) (contains_from_in t.topo.links (link_of i.0) (literal_declared t.topo.links p g.compilable.links_declared i.0 i.1))));
              rows = (
                N,
                m.0,
                get,
                m.1,
                ap (λ j. link_end p j) (sym i.2) ∙ end_of_literal p g.distinct i.0 i.1 ∙ ap Some (i.4 ∙ sym target_switch),
              );
              rests = next_rests;
            };
            same = next_same;
            ends = next_ends;
          }

-- ---- under a tag

-- a packet is met under the tag: it starts, under tag 0, or it stands after records with the tag's set
abbrev pub Under : Tables → Policy → List (List ℕ) → ℕ → Packet → Type 0
Under t p tags zero x = IsStartPacket t.fields t.topo x
Under t p tags (suc i) x = (labels : List ℕ) × (slice_get tags i ≡ Some labels) × IsMetUnder p (IsStartPacket t.fields t.topo) labels x

-- so from some start a run has come there
pub record Come (t : Tables) (p : Policy) (tag : ℕ) (tags : List (List ℕ)) (tg : ℕ) (x : Packet) : Type 0 where
  pub from : Packet
  pub start : IsStartPacket t.fields t.topo from
  pub crossings : ℕ
  pub records : List Packet
  pub reached : Reached t p tag tags from crossings records tg x

pub come : (t : Tables) (p : Policy) (tag : ℕ) (tags : List (List ℕ)) → Setting t p tag tags → (tg : ℕ) (x : Packet) → Under t p tags tg x → Come t p tag tags tg x
come t p tag tags g zero x h = record {
  from = x;
  start = h;
  crossings = 0;
  records = [];
  reached = reached_first t p tag tags g x h;
}
come t p tag tags g (suc i) x h = following h.2.1 h.2.4 h.2.5 h.2.7
  where
    following : (u : List Packet) → length u ≡ 2 * h.2.2 + 1 → IsLabelSet p h.2.0 u h.0 → HasRecorded p h.2.0 (u ++ x ∷ []) h.2.6 → Come t p tag tags (suc i) x
    following [] odd set at = absurd (omega (arith, odd))
    following (y ∷ u) odd set at =
        let c = last_of_list y u in
        record {
          from = h.2.0;
          start = h.2.3;
          crossings = suc h.2.2;
          records = (c.0 ++ c.1 ∷ []) ++ x ∷ [];
          reached = reached_after t p tag tags g h.2.0 h.2.3 h.2.2 c.0 c.1 (sym (ap length c.2) ∙ odd) i h.0 h.1 (subst (λ v. IsLabelSet p h.2.0 v h.0) c.2 set) x h.2.6 (subst (λ v. HasRecorded p h.2.0 (v ++ x ∷ []) h.2.6) c.2 at);
        }
