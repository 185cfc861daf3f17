-- Small instances of the laws.
use Rattle.std.proofs.Common.{◌≡◌, ℕ, zero, suc, ◌<◌, ◌≤◌, ◌⊎◌, inl, inr, ⊎_elim, List, [], ◌∷◌, length, refl, sym, ap, subst, ◌∙◌, arith}
use Rattle.std.specs.Prelude.{◌↔◌, slice_index, Contains, All}
use Rattle.nk_field.specs.Order.{Found, Precedes, IsLess}
use Rattle.nk_field.specs.Packet.{IsPacket, built_in}
use Rattle.nk_field.proofs.Lists.{in_from_contains, contains_from_in}
use Rattle.nk_field.proofs.Ascending.{all_from_members}
use Rattle.nk_topo.specs.Topology.{SwitchPorts}
use Rattle.nk_policy.specs.After.{id_policy, drop_policy}
use Rattle.nk_policy.specs.Labels.{IsTagSet}
use Rattle.nk_names.specs.Accepted.{IsStartPacket, IsCompilable}
use Rattle.nk_store.specs.Diagram.{leaf}
use Rattle.nk_table.specs.declared.Bucket.{Bucket}
use Rattle.nk_table.specs.declared.Row.{Row}
use Rattle.nk_table.specs.declared.Table.{Table}
use Rattle.nk_table.specs.declared.Tables.{Tables}
use Rattle.nk_compile.specs.PrintedTable.{IsTreeOfTag}
use Rattle.nk_compile.specs.WholeTable.{HasRowsAt, TagTree, IsSwitchTable, IsTableOf}
use Rattle.nk_compile.specs.Smallest.{tag_alone, one_port, straight_back, smallest_table, one_row}
use Rattle.nk_cert.specs.Equality.{Side, on_left, on_right, IsOfOneAlone}
use Rattle.nk_uniqueness.specs.Packets.{HavePackets}
use Rattle.nk_uniqueness.specs.Worked.{far_port, far_tables, ArePrintedFar, HasSeveralTables, AreMetBySmallPolicy, zeros, zeros_stay, IsSmallDifference}
use Rattle.nk_compile.proofs.Reasons.{none_some}
use Rattle.nk_uniqueness.proofs.OneTable.{one_table as one_printed_table}

-- the policy that keeps each packet records nothing, so it has no tag set
no_tag_set : (Start : List ℕ → Type 0) (s : List ℕ) → IsTagSet id_policy Start s → ⊥
no_tag_set Start [] h = h.5.0 refl
no_tag_set Start (l ∷ ls) h = ((h.5.1.1 l).0 (contains_from_in (l ∷ ls) l (inl refl))).3

-- only tag 0 has rows
rows_at_zero : (sw t : ℕ) → Contains (0 ∷ []) t ↔ HasRowsAt id_policy [] sw t
rows_at_zero sw zero = (λ c. tt, λ h. contains_from_in (0 ∷ []) 0 (inl refl))
rows_at_zero sw (suc t) = (
  λ c. absurd (⊎_elim (λ e. omega (arith, e)) (λ n. n) (in_from_contains (0 ∷ []) (suc t) c)),
  λ h. absurd (none_some h.0 h.2),
)

-- any leaf is the tree at a switch without packets
any_tree : (bs : List Bucket) → IsTreeOfTag tag_alone 2 id_policy [] 0 65536 (leaf bs)
any_tree bs = record {
  reduced = tt;
  tag_free = tt;
  leaves = λ pk ok at. let most : slice_index pk 0 ≤ 65535 = ok.within 0 in absurd (omega (arith, most, at));
}

-- a tag with a leaf
abbrev leaf_of : List Bucket → TagTree
leaf_of bs = record { tag = 0; tree = leaf bs }

only_tree : (bs : List Bucket) → All (λ (e : TagTree). IsTreeOfTag tag_alone 2 id_policy [] e.tag 65536 e.tree) (leaf_of bs ∷ [])
only_tree bs =
    all_from_members (λ (e : TagTree). IsTreeOfTag tag_alone 2 id_policy [] e.tag 65536 e.tree) (leaf_of bs ∷ []) (λ e i.
    ⊎_elim
    (λ s. subst (λ (q : TagTree). IsTreeOfTag tag_alone 2 id_policy [] q.tag 65536 q.tree) (sym s) (any_tree bs))
    (λ n. absurd n)
    i)

-- the table with these rows
abbrev far_table : List Row → Table
far_table rows = record { switch = 65536; groups = []; rows = rows }

with_row : IsSwitchTable tag_alone 2 id_policy [] (far_table smallest_table.rows)
with_row = record {
  trees = leaf_of (straight_back ∷ []) ∷ [];
  ascending = λ k lt. absurd (omega (arith, lt));
  exactly = rows_at_zero 65536;
  each = only_tree (straight_back ∷ []);
  groups = refl;
  rows = refl;
}

without_row : IsSwitchTable tag_alone 2 id_policy [] (far_table [])
without_row = record {
  trees = leaf_of [] ∷ [];
  ascending = λ k lt. absurd (omega (arith, lt));
  exactly = rows_at_zero 65536;
  each = only_tree [];
  groups = refl;
  rows = refl;
}

-- printed tables of the one switch
far_printed : (rows : List Row) → IsSwitchTable tag_alone 2 id_policy [] (far_table rows) → ArePrintedFar rows
far_printed rows h = record {
  tag = 2;
  tags = [];
  tag_declared = refl;
  in_order = record { exactly = λ s. (λ c. absurd (in_from_contains [] s c), λ k. absurd (no_tag_set (IsStartPacket tag_alone far_port) s k)); in_order = λ i j d lt less. absurd (omega (arith, lt, less)) };
  same_fields = refl;
  same_topology = refl;
  switches = refl;
  each = all_from_members (IsSwitchTable tag_alone 2 id_policy []) (far_table rows ∷ []) (λ table i. ⊎_elim (λ e. subst (λ q. IsSwitchTable tag_alone 2 id_policy [] q) (sym e) h) (λ n. absurd n) i);
}

-- how many rows the first table has
abbrev first_rows : List Table → ℕ
first_rows [] = 0
first_rows (t ∷ ts) = length t.rows

unlike : far_tables smallest_table.rows ≡ far_tables [] → ⊥
unlike e =
    let n : 1 ≡ 0 = rows_are (far_tables smallest_table.rows) (far_tables []) e in
    omega (arith, n)
  where
    rows_are : (t u : Tables) → t ≡ u → first_rows t.tables ≡ first_rows u.tables
    rows_are t u h = ap (λ (v : Tables). first_rows v.tables) h

far_switch : HavePackets tag_alone far_port → ⊥
far_switch h =
    let first : 0 < length far_port.switches = omega arith in
    let le : 65536 ≤ 65535 = h.switches 0 record { switch = 0; ports = [] } first in
    omega (arith, le)

pub several_tables : HasSeveralTables
several_tables = record {
  one_row = far_printed smallest_table.rows with_row;
  no_row = far_printed [] without_row;
  differ = unlike;
  without_packets = far_switch;
}

-- packets can be at switch 1
packets_there : HavePackets tag_alone one_port
packets_there = record {
  few = omega arith;
  switches = all_from_members (λ (s : SwitchPorts). s.switch ≤ 65535) one_port.switches (λ s i.
      ⊎_elim
      (λ e. let n : s.switch ≡ 1 = ap (λ (z : SwitchPorts). z.switch) e in omega (arith, n))
      (λ n. absurd n)
      i);
}

pub small_policy : IsCompilable tag_alone one_port id_policy → AreMetBySmallPolicy
small_policy compilable = record {
  packets = packets_there;
  compilable = compilable;
  few = ([], omega arith, λ s h. absurd (no_tag_set (IsStartPacket tag_alone one_port) s h));
  refused = refl;
}

-- the smallest table is the one
pub smallest_is_one : IsTableOf tag_alone one_port (IsStartPacket tag_alone one_port) id_policy one_row
    → (u : Tables) → IsTableOf tag_alone one_port (IsStartPacket tag_alone one_port) id_policy u → u ≡ one_row
smallest_is_one h u k = one_printed_table tag_alone one_port (IsStartPacket tag_alone one_port) id_policy u one_row packets_there k h

-- ---- a least difference

-- as many zeros
abbrev zeros_of : ℕ → List ℕ
zeros_of zero = []
zeros_of (suc n) = 0 ∷ zeros_of n

-- are the same as, or come before, each list as long
zeros_first : (n : ℕ) (xs : List ℕ) → length xs ≡ n → (zeros_of n ≡ xs) ⊎ Precedes (zeros_of n) xs
zeros_first zero [] e = inl refl
zeros_first zero (x ∷ xs) e = absurd (omega (arith, e))
zeros_first (suc n) [] e = absurd (omega (arith, e))
zeros_first (suc n) (zero ∷ xs) e =
    ⊎_elim
    (λ s. inl (ap (λ w. 0 ∷ w) s))
    (λ p. inr (inr (refl, p)))
    (zeros_first n xs (omega (arith, e)))
zeros_first (suc n) (suc x ∷ xs) e = inr (inl (omega arith))

-- each of their values is 0
zero_at : (n k : ℕ) → slice_index (zeros_of n) k ≡ 0
zero_at zero k = refl
zero_at (suc n) zero = refl
zero_at (suc n) (suc k) = zero_at n k

zeros_are_packet : IsPacket built_in zeros
zeros_are_packet = record {
  places = refl;
  within = λ f. subst (λ n. n ≤ slice_index built_in.maxima f) (sym (zero_at 18 f)) (omega arith);
}

pub small_difference : IsSmallDifference
small_difference = ((zeros_are_packet, (refl, refl), λ g. g), ((on_left, (zeros_are_packet, (refl, refl), λ g. g)), least))
  where
    following : (f : Found) (s : Side) → IsOfOneAlone built_in id_policy drop_policy s f → (zeros_stay ≡ f) ⊎ IsLess zeros_stay f
    following f on_right h = absurd h.1
    following f on_left h =
        let last : f.start ≡ f.last = sym h.1.1 in
        let records : [] ≡ f.records = sym h.1.0 in
        ⊎_elim
        (λ e. inl (λ i. record { start = e i; records = records i; last = (e ∙ last) i }))
        (λ p. inr (inr (ap length records, inl p)))
        (zeros_first 18 f.start h.0.places)

    least : (f : Found) → ((s : Side) × IsOfOneAlone built_in id_policy drop_policy s f) → (zeros_stay ≡ f) ⊎ IsLess zeros_stay f
    least f h = following f h.0 h.1
