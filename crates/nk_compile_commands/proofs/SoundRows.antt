-- Each row of a printed tree has a priority, matches and buckets that a text can write.
use Rattle.std.proofs.Common.{◌≡◌, ◌≢◌, ℕ, ◌<◌, ◌≤◌, ◌⊎◌, inl, inr, ⊎_elim, Bool, Some, List, [], ◌∷◌, length, replicate, refl, sym, subst, ◌∙◌, arith, get_or-set_other, get_or-set_same}
use Rattle.std.specs.Prelude.{◌||◌, not, filter, All, slice_index, slice_set}
use Rattle.std.proofs.lemmas.Bool.Decides.{leb_tells}
use Rattle.std.proofs.lemmas.List.{get_or-replicate, get_or_past}
use Rattle.nk_field.specs.Packet.{FieldTable, IsFieldTable, IsPacket}
use Rattle.nk_field.proofs.Lists.{In, in_right, in_either, contains_from_in, from_mapped}
use Rattle.nk_field.proofs.Ascending.{all_from_members}
use Rattle.nk_store.specs.Diagram.{IsReduced, IsFreeOf, leaf_at}
use Rattle.nk_store.specs.Nodes.{InRange}
use Rattle.nk_store.proofs.Same.{set_in_range}
use Rattle.nk_table.specs.declared.Bucket.{Bucket}
use Rattle.nk_table.specs.declared.Plain.{Plain}
use Rattle.nk_prefix.specs.Prefix.{digits_of}
use Rattle.nk_tabtext.specs.InOrder.{MatchesAscend}
use Rattle.nk_tabtext.specs.ReadBack.{IsPrintableMatch, IsPrintableBucket}
use Rattle.nk_extract.specs.RuleTree.{Path, is_drop_list, paths_of, bit_of, priority_of, exactly, plain_row, rows_for}
use Rattle.nk_extract.specs.Chosen.{IsTop, rank, matching, IsRowTree}
use Rattle.nk_extract.proofs.Bits.{bits_fit}
use Rattle.nk_extract.proofs.Lists.{every_in, in_filter}
use Rattle.nk_extract.proofs.Trees.{Tree, tests_only}
use Rattle.nk_extract.proofs.Highest.{light}
use Rattle.nk_extract.proofs.PlainRows.{rows_give_leaves, rows_are_chosen}
use Rattle.nk_compile_commands.proofs.Matched.{MatchesClimb, climb, climb_matches, put_climbs, in_put_match, exact_match}

-- a row with its whole bucket list that a text can write
pub record IsSoundRow (fields : FieldTable) (r : Plain) : Type 0 where
  pub priority : r.priority ≤ 65535
  pub ascend : MatchesAscend 1 r.matches
  pub matches : All (IsPrintableMatch fields) r.matches
  pub buckets : (b : Bucket) → In r.buckets b → IsPrintableBucket fields b

-- ---- the highest of several

-- it is one of them
in_top : {A : Type 0} (value : A → ℕ) (xs : List A) (x : A) → IsTop A value xs x → In xs x
in_top value xs x t = subst (λ l. In l x) (sym t.is) (in_right t.before (x ∷ t.after) x (inl refl))

-- the others are lower
others_lower :
    {A : Type 0} (value : A → ℕ) (xs : List A) (x y : A) → IsTop A value xs x → In xs y
    → (y ≡ x) ⊎ (value y < value x)
others_lower value xs x y t i =
    ⊎_elim
    (λ l. inr (every_in (λ z. value z < value x) t.before y t.lower_before l))
    (λ r. ⊎_elim (λ e. inl e) (λ s. inr (every_in (λ z. value z < value x) t.after y t.lower_after s)) r)
    (in_either t.before (x ∷ t.after) y (subst (λ l. In l y) t.is i))

-- so there is one
one_top : {A : Type 0} (value : A → ℕ) (xs : List A) (x y : A) → IsTop A value xs x → IsTop A value xs y → x ≡ y
one_top value xs x y a b =
    ⊎_elim
    (λ e. sym e)
    (λ lt. ⊎_elim (λ e. e) (λ gt. absurd (omega (arith, lt, gt))) (others_lower value xs y x b (in_top value xs x a)))
    (others_lower value xs x y a (in_top value xs y b))

-- ---- a packet at a switch with a tag

abbrev zero_packet : List ℕ
zero_packet = replicate 18 0

zeros : (k : ℕ) → slice_index zero_packet k ≡ 0
zeros k =
    elim (leb_tells 18 k) [
      | inl past ↦ get_or_past zero_packet k 0 past.1
      | inr within ↦ get_or-replicate 18 k 0 0 within.1
    ]

zero_in_range : (maxima : List ℕ) → InRange maxima zero_packet
zero_in_range maxima = (refl, λ k. subst (λ n. n ≤ slice_index maxima k) (sym (zeros k)) (omega arith))

abbrev packet_at : (sw tag t : ℕ) → List ℕ
packet_at sw tag t = slice_set (slice_set zero_packet 0 sw) tag t

record IsAt (maxima : List ℕ) (sw tag t : ℕ) (pk : List ℕ) : Type 0 where
  range : InRange maxima pk
  switch : slice_index pk 0 ≡ sw
  tagged : slice_index pk tag ≡ t

at_switch :
    (maxima : List ℕ) (sw tag t : ℕ) → 2 ≤ tag → tag < 18 → sw ≤ slice_index maxima 0 → t ≤ slice_index maxima tag
    → IsAt maxima sw tag t (packet_at sw tag t)
at_switch maxima sw tag t past few sw_in t_in =
    let first = set_in_range maxima zero_packet 0 sw (zero_in_range maxima) sw_in in
    let long : tag < length (slice_set zero_packet 0 sw) = let l = first.0 in omega (arith, l, few) in
    let other : ◌≢◌ {A = ℕ} 0 tag = λ e. omega (arith, past, e) in
    let short : 0 < length zero_packet = let l : length zero_packet ≡ 18 = refl in omega (arith, l) in
    record {
      range = set_in_range maxima (slice_set zero_packet 0 sw) tag t first t_in;
      switch = get_or-set_other (slice_set zero_packet 0 sw) tag 0 t 0 other ∙ get_or-set_same zero_packet 0 sw 0 short;
      tagged = get_or-set_same (slice_set zero_packet 0 sw) tag t 0 long;
    }

-- ---- the rows of a tree

-- A reduced tree over the port and the declared fields but the tag, each of whose buckets at the packets of a switch a text can
-- write.
pub record IsSoundTree (fields : FieldTable) (tag sw : ℕ) (d : Tree) : Type 0 where
  pub reduced : IsReduced d fields.maxima 1
  pub tag_free : IsFreeOf tag d
  pub leaves : (pk : List ℕ) → IsPacket fields pk → slice_index pk 0 ≡ sw → (b : Bucket) → In (leaf_at d [] pk) b → IsPrintableBucket fields b

module _ (fields : FieldTable) (tag : ℕ) (table : IsFieldTable fields) (is : fields.tag ≡ Some tag) (t sw : ℕ) (d : Tree) (tree : IsSoundTree fields tag sw d) (low : t ≤ slice_index fields.maxima tag) (switch : sw ≤ slice_index fields.maxima 0) where
  abbrev width : ℕ
  width = length fields.maxima

  place : (2 ≤ tag) × (tag < width)
  place = table.tag_past_port tag is

  row_tree : IsRowTree fields.maxima tag d
  row_tree = record { reduced = tree.reduced; tag_free = tree.tag_free }

  -- what is known of a row: the way that it stands for
  record IsOfWay (r : Plain) : Type 0 where
    way : Path
    same : r ≡ plain_row fields.maxima tag t way
    small : priority_of width tag way.matches < bit_of width tag 0
    climbs : MatchesClimb fields tag 1 way.matches

  of_way : (r : Plain) → In (rows_for fields.maxima tag t d) r → IsOfWay r
  of_way r i =
      let printed : Path → Bool = λ q. not (is_drop_list q.buckets) || q.shown in
      let q = from_mapped (plain_row fields.maxima tag t) (filter printed (paths_of fields.maxima d)) r i in
      let j = (in_filter printed (paths_of fields.maxima d) q.0 q.1).0 in
      let tests = tests_only fields.maxima tag 1 d tree.reduced tree.tag_free in
      record {
        way = q.0;
        same = q.2;
        small = every_in (λ (w : Path). priority_of width tag w.matches < bit_of width tag 0) (paths_of fields.maxima d) q.0 (light width tag fields.maxima d 0 tree.reduced tests) j;
        climbs = every_in (λ (w : Path). MatchesClimb fields tag 1 w.matches) (paths_of fields.maxima d) q.0 (climb fields tag d 1 tree.reduced tests) j;
      }

  -- each bucket, which is one at some packet in range at the switch that the row matches
  bucketed : (r : Plain) → In (rows_for fields.maxima tag t d) r → (b : Bucket) → In r.buckets b → IsPrintableBucket fields b
  bucketed r i b j =
      let few = table.few in
      let tag_in = place.1 in
      let base = at_switch fields.maxima sw tag t place.0 (omega (arith, tag_in, few)) switch low in
      let c = rows_are_chosen fields.maxima tag t d row_tree few (packet_at sw tag t) base.range base.tagged r (contains_from_in (rows_for fields.maxima tag t d) r i) in
      let rows = matching fields.maxima (rows_for fields.maxima tag t d) c.0 in
      let here : In rows r = in_top rank rows r c.4 in
      let ok : IsPacket fields c.0 = record { places = c.1.0; within = c.1.1 } in
      let same : r.buckets ≡ leaf_at d [] c.0 = ⊎_elim
      (λ q. subst (λ (z : Plain). z.buckets ≡ leaf_at d [] c.0) (one_top rank rows q.0 r q.1 c.4) q.2)
      (λ n. absurd (subst (λ l. In l r) n.0 here))
      (rows_give_leaves fields.maxima tag t d row_tree c.0 record { within = λ f ne. c.1.1 f; tagged = c.3 }) in
      tree.leaves c.0 ok (c.2 ∙ base.switch) b (subst (λ l. In l b) same j)

  -- each match is one that a text can write
  matched : (r : Plain) → IsOfWay r → (m : ℕ × ℕ × ℕ) → In r.matches m → IsPrintableMatch fields m
  matched r w m i =
      ⊎_elim
      (λ e. subst (IsPrintableMatch fields) (sym e) (exact_match fields tag t place.1 low))
      (λ j. climb_matches fields tag 1 w.way.matches m w.climbs j)
      (in_put_match (exactly fields.maxima tag t) w.way.matches m (subst (λ (z : Plain). In z.matches m) w.same i))

  pub sound_row : (r : Plain) → In (rows_for fields.maxima tag t d) r → IsSoundRow fields r
  sound_row r i =
      let w = of_way r i in
      let fits = bits_fit width tag place.0 place.1 table.few in
      let less = w.small in
      let one : 1 ≤ tag = let past = place.0 in omega (arith, past) in
      record {
        priority = subst (λ (z : Plain). z.priority ≤ 65535) (sym w.same) (omega (arith, less, fits));
        ascend = subst (λ (z : Plain). MatchesAscend 1 z.matches) (sym w.same) (put_climbs fields tag t (digits_of (slice_index fields.maxima tag)) 1 w.way.matches one w.climbs);
        matches = all_from_members (IsPrintableMatch fields) r.matches (λ m j. matched r w m j);
        buckets = bucketed r i;
      }
