-- The worked pair of tables meets the conditions of the laws.
use Rattle.std.proofs.Common.{◌≡◌, ℕ, zero, suc, ◌<◌, ◌≤◌, ◌&&◌, Bool, true, false, cond, ◌⊎◌, inl, inr, ⊎_elim, Option, Some, None, List, [], ◌∷◌, length, refl, sym, ap, subst, ◌∙◌, arith}
use Rattle.std.specs.Prelude.{◌==◌, if◌then◌else◌, filter, filter_map, slice_index, slice_set, All, Contains}
use Rattle.std.specs.List.{cons_option}
use Rattle.nk_field.proofs.Ascending.{all_from_members}
use Rattle.nk_field.proofs.Lists.{In, contains_from_in, from_joined}
use Rattle.nk_prefix.specs.Prefix.{digits_of}
use Rattle.nk_table.specs.declared.Tables.{Tables}
use Rattle.nk_table.specs.declared.Row.{Row}
use Rattle.nk_table.specs.declared.Group.{Group}
use Rattle.nk_table.specs.declared.Bucket.{Bucket}
use Rattle.nk_table.specs.declared.Target.TheVariants as target
use Rattle.nk_table.specs.declared.Exit.TheVariants.{Back, Port}
use Rattle.nk_table.specs.Rules.{agrees, agrees_at, highest, rows_of, groups_at_switch, buckets_for, buckets_of_row, sent_by, sent_for}
use Rattle.nk_table.specs.Hops.{Copy, crossing, across, next_of, waiting, moved_to}
use Rattle.nk_table.specs.Worked.{one_crossing, two_fields, row, bucket}
use Rattle.nk_update.specs.Plans.{HasOldTag, HasNewTag, NamesOneOf, AreNumberedFrom, IsPlannable}
use Rattle.nk_update.specs.Tags.{HaveTheirTags}
use Rattle.nk_update.specs.Worked.{worked_pair, sending_back, grouped_pair, two_ways, tag_row}
use Rattle.nk_update.proofs.Lookup.{true_eq, same_some, clash, kept_in, found_in, both_passed, sure}

-- what holds of the rows of one switch, of those of another and of none holds of all that are chosen
chosen : {X : Type 0} (P : List X → Type 0) (a b : Bool) (xs ys : List X) → P xs → P ys → P [] → P (if a then xs else if b then ys else [])
chosen P true b xs ys p q r = p
chosen P false true xs ys p q r = q
chosen P false false xs ys p q r = r

-- of no row, of one and of two
none_of : (P : Row → Type 0) → All P []
none_of P = all_from_members P [] (λ x i. absurd i)

one_of : (P : Row → Type 0) (r : Row) → P r → All P (r ∷ [])
one_of P r p = all_from_members P (r ∷ []) (λ x i. ⊎_elim (λ e. subst P (sym e) p) (λ n. absurd n) i)

two_of : (P : Row → Type 0) (r s : Row) → P r → P s → All P (r ∷ s ∷ [])
two_of P r s p q = all_from_members P (r ∷ s ∷ []) (λ x i. ⊎_elim (λ e. subst P (sym e) p) (λ n. ⊎_elim (λ e. subst P (sym e) q) (λ m. absurd m) n) i)

-- the rows
abbrev old_row : Row
old_row = row 2 ((3, 0, 3) ∷ (1, 1, 16) ∷ []) (target.Bucket (bucket ((3, 1) ∷ []) (Port 2)))

abbrev old_back : Row
old_back = row 2 ((3, 1, 3) ∷ (1, 2, 16) ∷ []) (target.Bucket (bucket ((3, 0) ∷ []) Back))

abbrev old_out : Row
old_out = row 0 ((3, 1, 3) ∷ []) (target.Bucket (bucket ((3, 0) ∷ []) (Port 2)))

abbrev new_row : Row
new_row = row 0 ((3, 0, 3) ∷ (1, 1, 16) ∷ []) (target.Bucket (bucket ((3, 0) ∷ []) Back))

-- a switch that isn't declared has no rows
undeclared : (sw : ℕ) (xs ys : List Row) → (Contains (1 ∷ 2 ∷ []) sw → ⊥) → (if 1 == sw then xs else if 2 == sw then ys else []) ≡ []
undeclared sw xs ys n = by (1 == sw) (2 == sw) refl refl
  where
    by : (a b : Bool) → 1 == sw ≡ a → 2 == sw ≡ b → (if a then xs else if b then ys else []) ≡ []
    by true b e f = absurd (n (contains_from_in (1 ∷ 2 ∷ []) sw (inl (sym (true_eq 1 sw e)))))
    by false true e f = absurd (n (contains_from_in (1 ∷ 2 ∷ []) sw (inr (inl (sym (true_eq 2 sw f))))))
    by false false e f = refl

-- the conditions on two tables
pub worked_is_plannable : IsPlannable worked_pair
worked_is_plannable =
    let le0 : 0 ≤ 1 = omega arith in
    let le1 : 1 ≤ 1 = omega arith in
    record {
      fields = refl;
      topo = refl;
      tag = refl;
      old_rows = λ sw. chosen (All (HasOldTag worked_pair)) (1 == sw) (2 == sw) (old_row ∷ []) (old_back ∷ old_out ∷ [])
          (one_of (HasOldTag worked_pair) old_row (0, refl, le0))
          (two_of (HasOldTag worked_pair) old_back old_out (1, refl, le1) (1, refl, le1))
          (none_of (HasOldTag worked_pair));
      new_rows = λ sw. chosen (All (HasNewTag worked_pair)) (1 == sw) (2 == sw) (new_row ∷ []) []
          (one_of (HasNewTag worked_pair) new_row (0, refl, inl refl))
          (none_of (HasNewTag worked_pair))
          (none_of (HasNewTag worked_pair));
      old_numbers = record {
        groups = λ sw. no_group sw;
        named = λ sw. let P : Row → Type 0 = λ r. NamesOneOf (length (groups_at_switch one_crossing.tables sw)) r.target in
            chosen (All P) (1 == sw) (2 == sw) (old_row ∷ []) (old_back ∷ old_out ∷ []) (one_of P old_row tt) (two_of P old_back old_out tt tt) (none_of P);
      };
      new_numbers = record {
        groups = λ sw. no_group' sw;
        named = λ sw. let P : Row → Type 0 = λ r. NamesOneOf (length (groups_at_switch sending_back.tables sw)) r.target in
            chosen (All P) (1 == sw) (2 == sw) (new_row ∷ []) [] (one_of P new_row tt) (none_of P) (none_of P);
      };
      old_switches = λ sw n. undeclared sw (old_row ∷ []) (old_back ∷ old_out ∷ []) n;
      new_switches = λ sw n. undeclared sw (new_row ∷ []) [] n;
    }
  where
    no_group : (sw : ℕ) → AreNumberedFrom 1 (groups_at_switch one_crossing.tables sw)
    no_group sw = chosen (AreNumberedFrom 1) (1 == sw) (2 == sw) [] [] tt tt tt

    no_group' : (sw : ℕ) → AreNumberedFrom 1 (groups_at_switch sending_back.tables sw)
    no_group' sw = chosen (AreNumberedFrom 1) (1 == sw) (2 == sw) [] [] tt tt tt

-- the rows of the switch with groups
abbrev grouped_old : List Row
grouped_old = tag_row 0 (target.Group 1) ∷ tag_row 1 target.Discard ∷ []

abbrev grouped_new : List Row
grouped_new = tag_row 0 (target.Group 2) ∷ tag_row 2 (target.Group 1) ∷ []

-- a list at one switch
at_one : {X : Type 0} (P : List X → Type 0) (a : Bool) (xs : List X) → P xs → P [] → P (if a then xs else [])
at_one P true xs p q = p
at_one P false xs p q = q

-- rows and groups at one switch
numbered_at_one : (a : Bool) (gs : List Group) (rs : List Row) → All (λ (r : Row). NamesOneOf (length gs) r.target) rs
    → All (λ (r : Row). NamesOneOf (length (if a then gs else [])) r.target) (if a then rs else [])
numbered_at_one true gs rs h = h
numbered_at_one false gs rs h = none_of (λ (r : Row). NamesOneOf 0 r.target)

-- no rows where the switch isn't declared
undeclared_one : (sw : ℕ) (xs : List Row) → (Contains (1 ∷ []) sw → ⊥) → (if 1 == sw then xs else []) ≡ []
undeclared_one sw xs n = by (1 == sw) refl
  where
    by : (a : Bool) → 1 == sw ≡ a → (if a then xs else []) ≡ []
    by true e = absurd (n (contains_from_in (1 ∷ []) sw (inl (sym (true_eq 1 sw e)))))
    by false e = refl

-- the conditions on the tables with groups
pub grouped_is_plannable : IsPlannable grouped_pair
grouped_is_plannable =
    let le0 : 0 ≤ 1 = omega arith in
    let le1 : 1 ≤ 1 = omega arith in
    let le2 : 2 ≤ 2 = omega arith in
    let le3 : 1 ≤ 2 = omega arith in
    let lt : 1 < 2 = omega arith in
    record {
      fields = refl;
      topo = refl;
      tag = refl;
      old_rows = λ sw. at_one (All (HasOldTag grouped_pair)) (1 == sw) grouped_old
          (two_of (HasOldTag grouped_pair) (tag_row 0 (target.Group 1)) (tag_row 1 target.Discard) (0, refl, le0) (1, refl, le1))
          (none_of (HasOldTag grouped_pair));
      new_rows = λ sw. at_one (All (HasNewTag grouped_pair)) (1 == sw) grouped_new
          (two_of (HasNewTag grouped_pair) (tag_row 0 (target.Group 2)) (tag_row 2 (target.Group 1)) (0, refl, inl refl) (2, refl, inr lt))
          (none_of (HasNewTag grouped_pair));
      old_numbers = record {
        groups = λ sw. at_one (AreNumberedFrom 1) (1 == sw) (two_ways 1 ∷ []) (refl, tt) tt;
        named = λ sw. numbered_at_one (1 == sw) (two_ways 1 ∷ []) grouped_old
            (two_of (λ (r : Row). NamesOneOf 1 r.target) (tag_row 0 (target.Group 1)) (tag_row 1 target.Discard) (le1, le1) tt);
      };
      new_numbers = record {
        groups = λ sw. at_one (AreNumberedFrom 1) (1 == sw) (two_ways 1 ∷ two_ways 2 ∷ []) (refl, (refl, tt)) tt;
        named = λ sw. numbered_at_one (1 == sw) (two_ways 1 ∷ two_ways 2 ∷ []) grouped_new
            (two_of (λ (r : Row). NamesOneOf 2 r.target) (tag_row 0 (target.Group 2)) (tag_row 2 (target.Group 1)) (le3, le2) (le1, le3));
      };
      old_switches = λ sw n. undeclared_one sw grouped_old n;
      new_switches = λ sw n. undeclared_one sw grouped_new n;
    }

-- what passes a test, of what is kept
kept_passes : {X : Type 0} (q : X → Bool) (xs : List X) (x : X) → In (filter q xs) x → q x ≡ true
kept_passes q [] x i = absurd i
kept_passes q (y ∷ ys) x i = by (q y) refl i (kept_passes q ys x)
  where
    by : (b : Bool) → q y ≡ b → In (cond b (y ∷ filter q ys) (filter q ys)) x → (In (filter q ys) x → q x ≡ true) → q x ≡ true
    by true e i r = ⊎_elim (λ s. ap q s ∙ e) (λ j. r j) i
    by false e i r = r i

-- where an image comes from
from_images : {X Y : Type 0} (f : X → Option Y) (xs : List X) (y : Y) → In (filter_map f xs) y → (x : X) × In xs x × (f x ≡ Some y)
from_images f [] y h = absurd h
from_images {X} {Y} f (z ∷ zs) y h = by (f z) refl (λ i. from_images f zs y i) h
  where
    by : (o : Option Y) → f z ≡ o → (In (filter_map f zs) y → (x : X) × In zs x × (f x ≡ Some y))
        → In (cons_option o (filter_map f zs)) y → (x : X) × In (z ∷ zs) x × (f x ≡ Some y)
    by (Some w) e g h = ⊎_elim (λ s. (z, inl refl, e ∙ ap Some (sym s))) (λ s. let r = g s in (r.0, inr r.1, r.2)) h
    by None e g h = let r = g h in (r.0, inr r.1, r.2)

-- a packet that is sent is sent by a bucket of a row that matches
record IsSentBy (t : Tables) (x y : List ℕ) : Type 0 where
  pub row : Row
  pub bucket : Bucket
  pub there : In (rows_of t.tables (slice_index x 0)) row
  pub matches : agrees t.fields.maxima x row ≡ true
  pub among : In (buckets_for (groups_at_switch t.tables (slice_index x 0)) row.target) bucket
  pub sends : sent_by x bucket ≡ Some y

sent_row : (t : Tables) (x y : List ℕ) → In (sent_for t x) y → IsSentBy t x y
sent_row t x y i =
    let sw = slice_index x 0 in
    let rows = rows_of t.tables sw in
    let groups = groups_at_switch t.tables sw in
    let mx = t.fields.maxima in
    let found = highest [] (filter (agrees mx x) rows) in
    let r = from_images (sent_by x) (buckets_of_row groups found) y i in
    by found refl r.0 r.1 r.2
  where
    by : (o : Option Row) → highest [] (filter (agrees t.fields.maxima x) (rows_of t.tables (slice_index x 0))) ≡ o → (b : Bucket) → In (buckets_of_row (groups_at_switch t.tables (slice_index x 0)) o) b
        → sent_by x b ≡ Some y → IsSentBy t x y
    by None e b j s = absurd j
    by (Some r) e b j s =
        let rows = rows_of t.tables (slice_index x 0) in
        let mx = t.fields.maxima in
        let k = found_in [] (filter (agrees mx x) rows) r e in
        record { row = r; bucket = b; there = kept_in (agrees mx x) rows r k; matches = kept_passes (agrees mx x) rows r k; among = j; sends = s }

-- an assignment of the tag keeps switch and port
keeps_switch : (x : List ℕ) (v : ℕ) → slice_index (slice_set x 3 v) 0 ≡ slice_index x 0
keeps_switch [] v = refl
keeps_switch (a ∷ x) v = refl

keeps_port : (x : List ℕ) (v : ℕ) → slice_index (slice_set x 3 v) 1 ≡ slice_index x 1
keeps_port [] v = refl
keeps_port (a ∷ []) v = refl
keeps_port (a ∷ b ∷ x) v = refl

keeps_switch_too : (x : List ℕ) (n : ℕ) → slice_index (slice_set x 1 n) 0 ≡ slice_index x 0
keeps_switch_too [] n = refl
keeps_switch_too (a ∷ x) n = refl

-- the port that is sent to
port_sent : (m : Bool) (z y : List ℕ) → (if m then None else Some z) ≡ Some y → y ≡ z
port_sent true z y e = absurd (clash y e)
port_sent false z y e = sym (same_some z y e)

-- the packet after the link
abbrev sent_over : List ℕ → List ℕ
sent_over x = moved_to (2, 1) (slice_set (slice_set x 3 1) 1 2)

-- it has the first tag
over_is : (x : List ℕ) → length x ≡ 18 → (length (sent_over x) ≡ 18) × (slice_index (sent_over x) 3 ≡ 1)
over_is [] l = absurd (omega (arith, l))
over_is (a ∷ []) l = absurd (omega (arith, l))
over_is (a ∷ b ∷ []) l = absurd (omega (arith, l))
over_is (a ∷ b ∷ c ∷ []) l = absurd (omega (arith, l))
over_is (a ∷ b ∷ c ∷ t ∷ x) l = (l, refl)

-- where the link begins, and where it leads
over_link : (t : Tables) (w : List (List ℕ)) (y : List ℕ) (m : Bool) (d : Copy) → In (crossing t w y (if m then Some (2, 1) else None)) d → (m ≡ true) × (d.packet ≡ moved_to (2, 1) y)
over_link t w y true d i = ⊎_elim (λ e. (refl, ap (λ (c : Copy). c.packet) e)) (λ n. absurd n) i
over_link t w y false d i = absurd i

-- rows by their switch
at_switch : (a b : Bool) (xs ys : List Row) (r : Row) → In (if a then xs else if b then ys else []) r → ((a ≡ true) × In xs r) ⊎ ((b ≡ true) × In ys r)
at_switch true b xs ys r i = inl (refl, i)
at_switch false true xs ys r i = inr (refl, i)
at_switch false false xs ys r i = absurd i

-- what the row of switch 1 sends
old_over : (x y : List ℕ) (gs : List Group) (r : Row) (b : Bucket) → r ≡ old_row → In (buckets_for gs r.target) b → sent_by x b ≡ Some y → y ≡ slice_set (slice_set x 3 1) 1 2
old_over x y gs r b e i s =
    let j : In (bucket ((3, 1) ∷ []) (Port 2) ∷ []) b = subst (λ (z : Row). In (buckets_for gs z.target) b) e i in
    ⊎_elim (λ f. port_sent (2 == slice_index x 1) (slice_set (slice_set x 3 1) 1 2) y (subst (λ z. sent_by x z ≡ Some y) f s)) (λ n. absurd n) j

-- what those of switch 2 send stays there
old_stays : (x y : List ℕ) (gs : List Group) (r : Row) (b : Bucket) → In (old_back ∷ old_out ∷ []) r → In (buckets_for gs r.target) b → sent_by x b ≡ Some y → slice_index y 0 ≡ slice_index x 0
old_stays x y gs r b k i s =
    ⊎_elim
    (λ e.
    let j : In (bucket ((3, 0) ∷ []) Back ∷ []) b = subst (λ (z : Row). In (buckets_for gs z.target) b) e i in
    ⊎_elim
    (λ f. ap (λ z. slice_index z 0) (sym (same_some (slice_set x 3 0) y (subst (λ z. sent_by x z ≡ Some y) f s))) ∙ keeps_switch x 0)
    (λ n. absurd n)
    j)
    (λ o.
    ⊎_elim
    (λ e.
    let j : In (bucket ((3, 0) ∷ []) (Port 2) ∷ []) b = subst (λ (z : Row). In (buckets_for gs z.target) b) e i in
    ⊎_elim
    (λ f.
    ap (λ z. slice_index z 0) (port_sent (2 == slice_index x 1) (slice_set (slice_set x 3 0) 1 2) y (subst (λ z. sent_by x z ≡ Some y) f s))
    ∙ keeps_switch_too (slice_set x 3 0) 2
    ∙ keeps_switch x 0)
    (λ n. absurd n)
    j)
    (λ n. absurd n)
    o)
    k

-- a crossing by the old tables
old_crossed : (c : Copy) → length c.packet ≡ 18 → (d : Copy) → In (next_of one_crossing c) d → (length d.packet ≡ 18) × (slice_index d.packet 3 ≡ 1)
old_crossed c l d i =
    let x = c.packet in
    let m = from_joined (across one_crossing c.records) (sent_for one_crossing x) d i in
    let y = m.0 in
    let s = sent_row one_crossing x y m.1 in
    let gs = groups_at_switch one_crossing.tables (slice_index x 0) in
    let o = over_link one_crossing c.records y ((1 == slice_index y 0) && (2 == slice_index y 1)) d m.2 in
    ⊎_elim
    (λ r.
    let one : s.row ≡ old_row = ⊎_elim (λ e. e) (λ n. absurd n) r.1 in
    let is : d.packet ≡ sent_over x = o.1 ∙ ap (moved_to (2, 1)) (old_over x y gs s.row s.bucket one s.among s.sends) in
    subst (λ z. (length z ≡ 18) × (slice_index z 3 ≡ 1)) (sym is) (over_is x l))
    (λ r.
    let two = true_eq 2 (slice_index x 0) r.0 in
    let one = true_eq 1 (slice_index y 0) (both_passed (1 == slice_index y 0) (2 == slice_index y 1) o.0).0 in
    let stays = old_stays x y gs s.row s.bucket r.1 s.among s.sends in
    absurd (omega (arith, two, one, stays)))
    (at_switch (1 == slice_index x 0) (2 == slice_index x 0) (old_row ∷ []) (old_back ∷ old_out ∷ []) s.row s.there)

-- copies that wait have all places
old_places : (k : ℕ) (pk : List ℕ) → length pk ≡ 18 → (c : Copy) → In (waiting one_crossing k pk) c → length c.packet ≡ 18
old_places zero pk l c i = ⊎_elim (λ e. ap (λ (z : Copy). length z.packet) e ∙ l) (λ n. absurd n) i
old_places (suc k) pk l c i =
    let m = from_joined (next_of one_crossing) (waiting one_crossing k pk) c i in
    (old_crossed m.0 (old_places k pk l m.0 m.1) c m.2).0

-- nothing crosses by the new tables
new_crosses_nowhere : (c d : Copy) → In (next_of sending_back c) d → ⊥
new_crosses_nowhere c d i =
    let x = c.packet in
    let m = from_joined (across sending_back c.records) (sent_for sending_back x) d i in
    let y = m.0 in
    let s = sent_row sending_back x y m.1 in
    let gs = groups_at_switch sending_back.tables (slice_index x 0) in
    let o = over_link sending_back c.records y ((1 == slice_index y 0) && (2 == slice_index y 1)) d m.2 in
    ⊎_elim
    (λ r.
    let one : s.row ≡ new_row = ⊎_elim (λ e. e) (λ n. absurd n) r.1 in
    let j : In (bucket ((3, 0) ∷ []) Back ∷ []) s.bucket = subst (λ (z : Row). In (buckets_for gs z.target) s.bucket) one s.among in
    let f : s.bucket ≡ bucket ((3, 0) ∷ []) Back = ⊎_elim (λ e. e) (λ n. absurd n) j in
    let is = same_some (slice_set x 3 0) y (subst (λ z. sent_by x z ≡ Some y) f s.sends) in
    let port : slice_index y 1 ≡ slice_index x 1 = ap (λ z. slice_index z 1) (sym is) ∙ keeps_port x 0 in
    let mx = two_fields.maxima in
    let asks = both_passed (agrees_at mx x (3, 0, 3)) (agrees_at mx x (1, 1, 16) && true) (subst (λ z. agrees mx x z ≡ true) one s.matches) in
    let wide : digits_of 65535 ≡ 16 = refl in
    let all : digits_of 65535 ≤ 16 = omega (arith, wide) in
    let first = sure 1 16 (digits_of 65535) (slice_index x 1) all (both_passed (agrees_at mx x (1, 1, 16)) true asks.1).0 in
    let second = true_eq 2 (slice_index y 1) (both_passed (1 == slice_index y 0) (2 == slice_index y 1) o.0).1 in
    omega (arith, port, first, second))
    (λ r. absurd r.1)
    (at_switch (1 == slice_index x 0) (2 == slice_index x 0) (new_row ∷ []) [] s.row s.there)

-- so crossing copies have their tags
pub worked_have_their_tags : HaveTheirTags worked_pair
worked_have_their_tags = record {
  old = λ k pk e. all_from_members (λ (c : Copy). (1 ≤ slice_index c.packet 3) × (slice_index c.packet 3 ≤ 1)) (waiting one_crossing (suc k) pk) (λ c i.
      let m = from_joined (next_of one_crossing) (waiting one_crossing k pk) c i in
      let is = (old_crossed m.0 (old_places k pk e.packet.places m.0 m.1) c m.2).1 in
      let low : 1 ≤ slice_index c.packet 3 = omega (arith, is) in
      let high : slice_index c.packet 3 ≤ 1 = omega (arith, is) in
      (low, high));
  new = λ k pk e. all_from_members (λ (c : Copy). 1 < slice_index c.packet 3) (waiting sending_back (suc k) pk) (λ c i.
      let m = from_joined (next_of sending_back) (waiting sending_back k pk) c i in
      absurd (new_crosses_nowhere m.0 c m.2));
}
