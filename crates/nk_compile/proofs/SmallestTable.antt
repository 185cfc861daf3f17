-- The smallest printed table is one: what the law on printed tables asks can be met.
use Rattle.std.proofs.Common.{◌≡◌, ◌≢◌, ℕ, ◌<◌, ◌≤◌, zero, suc, Bool, true, inl, ⊎_elim, Some, None, List, [], ◌∷◌, refl, sym, ap, subst, ◌∙◌, arith}
use Rattle.std.specs.Prelude.{◌↔◌, ◌&&◌, ◌==◌, if◌then◌else◌, IsTrue, slice_index, codes, Contains, AllPairs}
use Rattle.nk_field.specs.Packet.{IsFieldTable}
use Rattle.nk_field.proofs.FieldTables.{distinct_with}
use Rattle.nk_field.proofs.Lists.{in_from_contains, contains_from_in}
use Rattle.nk_field.proofs.Ascending.{all_from_members}
use Rattle.nk_topo.specs.Topology.{AreLinks, is_port, is_edge}
use Rattle.nk_policy.specs.After.{id_policy}
use Rattle.nk_policy.specs.Labels.{IsTagSet}
use Rattle.nk_policy.specs.Meaning.{Gives}
use Rattle.nk_names.specs.Accepted.{IsStartPacket, IsCompilable}
use Rattle.nk_store.specs.Diagram.{leaf}
use Rattle.nk_table.specs.declared.Exit.TheVariants.{Back, Port}
use Rattle.nk_extract.specs.Buckets.{bucket_of}
use Rattle.nk_compile.specs.PrintedTable.{IsResult, IsBucketList, IsTreeOfTag}
use Rattle.nk_compile.specs.WholeTable.{HasRowsAt, TagTree, IsSwitchTable}
use Rattle.nk_compile.specs.Smallest.{tag_alone, one_port, straight_back, smallest_table, one_row, MeetsAll}

-- a test and true
and_true : (b : Bool) → b ≡ true → b && true ≡ true
and_true b e = ap (λ c. c && true) e

-- a number passes the test with itself
same_number : (n : ℕ) → n == n ≡ true
same_number n = grind arith

-- none is not some
none_is_none : {A : Type 0} (a : A) → None ≡ Some a → ⊥
none_is_none a e = cc

-- the policy is compilable
compilable : IsCompilable tag_alone one_port id_policy
compilable = record {
  tag = 2;
  tag_declared = refl;
  tag_free = refl;
  dups_in_links = refl;
  switch_in_links = refl;
  links_declared = refl;
  ends_on_edges = λ pk w last start g. subst (λ x. IsTrue (is_edge one_port (slice_index x 0) (slice_index x 1))) (sym g.1) (and_true (is_port one_port (slice_index pk 0) (slice_index pk 1)) start.located);
}

-- nothing is recorded, so there is no tag set
no_tags : (s : List ℕ) → IsTagSet id_policy (λ pk. IsStartPacket tag_alone one_port pk) s → ⊥
no_tags [] h = h.5.0 refl
no_tags (l ∷ ls) h = ((h.5.1.1 l).0 (contains_from_in (l ∷ ls) l (inl refl))).3

-- a packet's one bucket sends it back
bucket_is : (pk : List ℕ) → bucket_of 3 2 pk pk 0 ≡ straight_back
bucket_is pk = ap (λ c. record { sets = (2, 0) ∷ []; exit = if c then Back else Port (slice_index pk 1) }) (same_number (slice_index pk 1))

-- each result's bucket is that one
only_itself : (pk x : List ℕ) (t : ℕ) → IsResult id_policy [] 0 pk x t → bucket_of 3 2 pk x t ≡ straight_back
only_itself pk x zero r =
    let g = subst (λ s. Gives s pk [] x) r.1 r.2 in
    ap (λ y. bucket_of 3 2 pk y 0) g.1 ∙ bucket_is pk
only_itself pk x (suc t) r = absurd (none_is_none r.0 r.1)

-- the bucket list at a packet
buckets : (pk : List ℕ) → IsBucketList 3 2 id_policy [] 0 pk (straight_back ∷ [])
buckets pk = record {
  exactly = λ b. (
    λ c. (pk, 0, (id_policy, refl, (refl, refl)), ⊎_elim (λ e. e ∙ sym (bucket_is pk)) (λ n. absurd n) (in_from_contains (straight_back ∷ []) b c)),
    λ r. contains_from_in (straight_back ∷ []) b (inl (r.3 ∙ only_itself pk r.0 r.1 r.2)),
  );
  in_order = λ i j d lt less. absurd (omega (arith, lt, less));
}

-- only tag 0 has rows
rows_at_zero : (t : ℕ) → Contains (0 ∷ []) t ↔ HasRowsAt id_policy [] 1 t
rows_at_zero zero = (λ c. tt, λ h. contains_from_in (0 ∷ []) 0 (inl refl))
rows_at_zero (suc t) = (
  λ c. absurd (⊎_elim (λ e. omega (arith, e)) (λ n. n) (in_from_contains (0 ∷ []) (suc t) c)),
  λ h. absurd (none_is_none h.0 h.2),
)

-- the table of the switch
switch_table : IsSwitchTable tag_alone 2 id_policy [] smallest_table
switch_table = record {
  trees = record { tag = 0; tree = leaf (straight_back ∷ []) } ∷ [];
  ascending = λ k lt. absurd (omega (arith, lt));
  exactly = rows_at_zero;
  each = all_from_members (λ (e : TagTree). IsTreeOfTag tag_alone 2 id_policy [] e.tag 1 e.tree) (record { tag = 0; tree = leaf (straight_back ∷ []) } ∷ []) (λ e i.
      ⊎_elim
      (λ s. subst (λ (q : TagTree). IsTreeOfTag tag_alone 2 id_policy [] q.tag 1 q.tree) (sym s) record { reduced = tt; tag_free = tt; leaves = λ pk ok sw. buckets pk })
      (λ n. absurd n)
      i);
  groups = refl;
  rows = refl;
}

-- one name is distinct
one_name : AllPairs (λ a b. a ≢ b) (codes "sw" ∷ [])
one_name i j d lt less = absurd (omega (arith, lt, less))

-- and so are the three
names_differ : AllPairs (λ a b. a ≢ b) (codes "sw" ∷ codes "pt" ∷ codes "tag" ∷ [])
names_differ =
    distinct_with (codes "sw" ∷ codes "pt" ∷ []) (codes "tag") (distinct_with (codes "sw" ∷ []) (codes "pt") one_name refl) refl

-- the tag is a field after the port
tag_place : (f : ℕ) → Some 2 ≡ Some f → (2 ≤ f) × (f < 3)
tag_place f e = let s : 2 ≡ f = cc in (omega (arith, s), omega (arith, s))

-- the fields
fields_are : IsFieldTable tag_alone
fields_are = record {
  few = omega arith;
  named = refl;
  built_in_names = refl;
  built_in_maxima = refl;
  distinct = names_differ;
  tag_past_port = tag_place;
}

-- no link
no_link : AreLinks one_port
no_link = record {
  one = λ l c. absurd (in_from_contains [] l c);
  declared = λ l c. absurd (in_from_contains [] l c);
  from_port = λ l c. absurd (in_from_contains [] l c);
  one_to = λ k l c d e f. absurd (in_from_contains [] k c);
}

-- all that is asked
pub meets_all : MeetsAll
meets_all = (
  fields_are,
  no_link,
  tt,
  tt,
  compilable,
  record {
    tag = 2;
    tags = [];
    tag_declared = refl;
    in_order = record { exactly = λ s. (λ c. absurd (in_from_contains [] s c), λ h. absurd (no_tags s h)); in_order = λ i j d lt less. absurd (omega (arith, lt, less)) };
    same_fields = refl;
    same_topology = refl;
    switches = refl;
    each = all_from_members (IsSwitchTable tag_alone 2 id_policy []) one_row.tables (λ table i. ⊎_elim (λ e. subst (λ q. IsSwitchTable tag_alone 2 id_policy [] q) (sym e) switch_table) (λ n. absurd n) i);
  },
)
