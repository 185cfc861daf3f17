-- Rows as sets of labels and of packets, and as stores and sets grow.
use Rattle.std.proofs.Common.{◌≡◌, ℕ, suc, zero, ◌+◌, ◌<◌, ◌≤◌, inl, inr, ⊎_elim, List, [], ◌∷◌, ◌++◌, length, length-append, get_or, refl, sym, ap, subst, ◌∙◌, arith}
use Rattle.std.specs.Prelude.{◌↔◌, Contains, eqb}
use Rattle.std.specs.List.{dedup}
use Rattle.std.specs.List.Sorted.{IsPermutation, IsSorted, IsStrictlyIncreasing}
use Rattle.std.specs.Ordering.{nat_cmp}
use Rattle.std.proofs.lemmas.Bool.Decides.{eqb_tells}
use Rattle.std.proofs.lemmas.List.{get_or_append_left, get_or_default}
use Rattle.std.proofs.lemmas.List.Kept.{Contains-dedup_nat, Contains-from_dedup}
use Rattle.std.proofs.lemmas.List.Sorted.{Contains-permutation, IsPermutation-sym}
use Rattle.std.proofs.lemmas.Map.Keys.{IsStrictlyIncreasing-dedup}
use Rattle.nk_field.proofs.Lists.{contains_from_in}
use Rattle.nk_field.proofs.Ascending.{all_from_members}
use Rattle.nk_policy.specs.Policy.{Policy}
use Rattle.nk_policy.specs.Tree.{tree_of}
use Rattle.nk_policy.specs.declared.policy.Pol.{Pol}
use Rattle.nk_store.specs.StoreState.{StoreState, Grows}
use Rattle.nk_sets.proofs.SetLemmas.{set_grows}
use Rattle.nk_sets.proofs.Kept.{packet_back, has_on, has_back}
use Rattle.nk_determ.specs.Sets.{SetsGrow, IsSetOf}
use Rattle.nk_determ.specs.Pairs.{AreLabelsBelow, IsPair, EachPair}
use Rattle.nk_goal.specs.Entries.{IsMerged}
use Rattle.nk_goal.proofs.Growing.{sets_same, pair_on, packets_of, pairs_of, named_known, under_on, under_back}
use Rattle.nk_cert.specs.Certificates.{at_dups, RowValue}
use Rattle.nk_cert.specs.Checked.{IsSetAt}
use Rattle.nk_cert.specs.Values.{held_row_value, row_values}
use Rattle.nk_check.specs.Judged.{IsPacketsOf, AreLabels, IsEntryOf, AreEntriesOf, AreTold, row_at, entry_at}

-- numbers that were sorted and whose doubles were dropped
pub sorted_once : (numbers all r : List ℕ) → IsPermutation numbers all → IsSorted nat_cmp all → r ≡ dedup eqb all
    → IsStrictlyIncreasing r × ((l : ℕ) → Contains r l ↔ Contains numbers l)
sorted_once numbers all r moved rising is =
    subst (λ xs. IsStrictlyIncreasing xs × ((l : ℕ) → Contains xs l ↔ Contains numbers l)) (sym is) (
      IsStrictlyIncreasing-dedup all rising,
      λ l. (
        λ c. Contains-permutation _ _ l (IsPermutation-sym _ _ moved) (Contains-from_dedup eqb all l c),
        λ c. Contains-dedup_nat all l (Contains-permutation _ _ l moved c),
      ),
    )

-- where each position at a place is a label, each position is
pub labels_from_places : (n : ℕ) (positions : List ℕ) → ((k : ℕ) → k < length positions → (1 ≤ get_or positions k 0) × (get_or positions k 0 < n))
    → AreLabels n positions
labels_from_places n positions h l c =
    subst (λ v. (1 ≤ v) × (v < n)) (get_or_default positions c.0 0 l c.1 ∙ c.2) (h c.0 c.1)

-- and the position at a place is one
pub label_at : (n : ℕ) (positions : List ℕ) (k : ℕ) → AreLabels n positions → k < length positions
    → (1 ≤ get_or positions k 0) × (get_or positions k 0 < n)
label_at n positions k are lt = are (get_or positions k 0) (k, lt, get_or_default positions k (get_or positions k 0) 0 lt)

-- the entry of a row whose positions are labels
pub entry_there : (st : StoreState) (ss : List (List ℕ)) (n s x : ℕ) (positions labels : List ℕ) (predicate : Policy) → AreLabels n positions
    → IsSetOf ss s labels → ((l : ℕ) → Contains labels l ↔ Contains positions l) → IsPacketsOf st predicate x
    → IsEntryOf st ss n (record { positions = positions; predicate = predicate }) (s, x)
entry_there st ss n s x positions labels predicate are set same packets = record {
  pair = record {
    known = set.within;
    places = subst (AreLabelsBelow n) (sym set.members) (all_from_members (λ l. l < n) labels (λ l i. (are l ((same l).0 (contains_from_in labels l i))).1));
    packets = packets.set;
  };
  members = λ k. subst (IsSetAt (at_dups positions)) (sym set.members) same;
  keeps = λ k. packets.keeps;
  none = λ other. absurd (other are);
}

-- an entry stays one as store and sets grow
pub entry_on : (a b : StoreState) (ss nss : List (List ℕ)) (n : ℕ) (row : RowValue) (e : ℕ × ℕ) → Grows a b → SetsGrow ss nss
    → IsEntryOf a ss n row e → IsEntryOf b nss n row e
entry_on a b ss nss n row e g h k = record {
  pair = pair_on a b ss nss n e g h k.pair;
  members = λ are. subst (IsSetAt (at_dups row.positions)) (sym (sets_same ss nss e.0 h k.pair.known)) (k.members are);
  keeps = λ are pk range.
      let was = k.keeps are pk (packet_back a b pk g range) in (
        λ keeps. has_on a b e.1 pk g k.pair.packets.id (was.0 keeps),
        λ has. was.1 (has_back a b e.1 pk g k.pair.packets.id has),
      );
  none = λ never pk range has. k.none never pk (packet_back a b pk g range) (has_back a b e.1 pk g k.pair.packets.id has);
}

-- packets of a predicate stay so
pub packets_on : (a b : StoreState) (predicate : Policy) (d : ℕ) → Grows a b → IsPacketsOf a predicate d → IsPacketsOf b predicate d
packets_on a b predicate d g k = record {
  set = set_grows a b d g k.set;
  keeps = λ pk range.
      let was = k.keeps pk (packet_back a b pk g range) in (
        λ keeps. has_on a b d pk g k.set.id (was.0 keeps),
        λ has. was.1 (has_back a b d pk g k.set.id has),
      );
}

-- the row at a place of rows that are held
pub row_is : (rows : List (List ℕ × Pol)) (k : ℕ) (d : List ℕ × Pol) → k < length rows → row_at (row_values rows) k ≡ held_row_value (get_or rows k d)
row_is [] k d lt = absurd (omega (arith, lt))
row_is (r ∷ rs) zero d lt = refl
row_is (r ∷ rs) (suc k) d lt = row_is rs k d (omega (arith, lt))

-- a row that is read, with its positions
pub row_from : (rows : List (List ℕ × Pol)) (k : ℕ) (r : List ℕ × Pol) (positions : List ℕ) → k < length rows → r ≡ get_or rows k r → positions ≡ r.0
    → row_at (row_values rows) k ≡ record { positions = positions; predicate = tree_of r.1 }
row_from rows k r positions lt is same =
    let f : List ℕ → RowValue = λ ps. record { positions = ps; predicate = tree_of r.1 } in
    row_is rows k r lt ∙ ap held_row_value (sym is) ∙ ap f (sym same)

-- and these are the positions at its place
pub labels_of : (rows : List (List ℕ × Pol)) (k : ℕ) (r : List ℕ × Pol) (positions : List ℕ) → k < length rows → r ≡ get_or rows k r → positions ≡ r.0
    → positions ≡ (row_at (row_values rows) k).positions
labels_of rows k r positions lt is same = sym (ap (λ (v : RowValue). v.positions) (row_from rows k r positions lt is same))

-- rows that are held are as many
pub rows_count : (rows : List (List ℕ × Pol)) → length (row_values rows) ≡ length rows
rows_count [] = refl
rows_count (r ∷ rs) = ap suc (rows_count rs)

-- the entries of the first i rows
pub record AreEntriesUpTo (st : StoreState) (ss : List (List ℕ)) (n : ℕ) (rows : List RowValue) (i : ℕ) (entries : List (ℕ × ℕ)) : Type 0 where
  pub count : length entries ≡ i
  pub each : (k : ℕ) → k < i → IsEntryOf st ss n (row_at rows k) (entry_at entries k)

pub no_entries : (st : StoreState) (ss : List (List ℕ)) (n : ℕ) (rows : List RowValue) → AreEntriesUpTo st ss n rows 0 []
no_entries st ss n rows = record { count = refl; each = λ k lt. absurd (omega (arith, lt)) }

-- the entry of one row more
pub one_entry_more : (a b : StoreState) (ss nss : List (List ℕ)) (n : ℕ) (rows : List RowValue) (i : ℕ) (entries more : List (ℕ × ℕ)) (e : ℕ × ℕ)
    → Grows a b → SetsGrow ss nss → AreEntriesUpTo a ss n rows i entries → IsEntryOf b nss n (row_at rows i) e → more ≡ entries ++ e ∷ []
    → AreEntriesUpTo b nss n rows (i + 1) more
one_entry_more a b ss nss n rows i entries more e g h so_far now is = record {
  count = ap (λ (l : List (ℕ × ℕ)). length l) is ∙ length-append entries (e ∷ []) ∙ ap (λ k. k + 1) so_far.count;
  each = λ k lt. elim (eqb_tells k i) [
    | inl same ↦
        subst (λ j. IsEntryOf b nss n (row_at rows j) (entry_at more j)) (sym same.1)
        (subst (IsEntryOf b nss n (row_at rows i)) (sym (last i so_far.count)) now)
    | inr other ↦
        let less : k < i = omega (arith, lt, other.1) in
        subst (IsEntryOf b nss n (row_at rows k)) (sym (before k (omega (arith, less, so_far.count))))
        (entry_on a b ss nss n (row_at rows k) (entry_at entries k) g h (so_far.each k less))
  ];
}
  where
    before : (k : ℕ) → k < length entries → entry_at more k ≡ entry_at entries k
    before k lt = ap (λ l. entry_at l k) is ∙ get_or_append_left entries (e ∷ []) (0, 0) k lt

    last : (k : ℕ) → length entries ≡ k → entry_at more k ≡ e
    last k count = ap (λ l. entry_at l k) is ∙ at entries k count
      where
        at : (xs : List (ℕ × ℕ)) (j : ℕ) → length xs ≡ j → entry_at (xs ++ e ∷ []) j ≡ e
        at [] zero q = refl
        at [] (suc j) q = absurd cc
        at (x ∷ xs) zero q = absurd cc
        at (x ∷ xs) (suc j) q = at xs j (omega (arith, q))

-- all rows have their entries
pub all_entries : (st : StoreState) (ss : List (List ℕ)) (n : ℕ) (rows : List RowValue) (i : ℕ) (entries : List (ℕ × ℕ)) → length rows ≡ i
    → AreEntriesUpTo st ss n rows i entries → AreEntriesOf st ss n rows entries
all_entries st ss n rows i entries all k = record { count = k.count ∙ sym all; each = λ j lt. k.each j (omega (arith, lt, all)) }

-- entries stay those of the rows
pub entries_on : (a b : StoreState) (ss nss : List (List ℕ)) (n : ℕ) (rows : List RowValue) (entries : List (ℕ × ℕ)) → Grows a b → SetsGrow ss nss
    → AreEntriesOf a ss n rows entries → AreEntriesOf b nss n rows entries
entries_on a b ss nss n rows entries g h k = record {
  count = k.count;
  each = λ j lt. entry_on a b ss nss n (row_at rows j) (entry_at entries j) g h (k.each j lt);
}

-- rows' entries have sets of packets and known sets of labels
pub entry_pairs : (st : StoreState) (ss : List (List ℕ)) (n : ℕ) (rows : List RowValue) (entries : List (ℕ × ℕ)) → AreEntriesOf st ss n rows entries
    → EachPair (IsPair st ss n) entries
entry_pairs st ss n rows entries k = each entries (λ j lt. (k.each j (omega (arith, lt, k.count))).pair)
  where
    each : (es : List (ℕ × ℕ)) → ((j : ℕ) → j < length es → IsPair st ss n (entry_at es j)) → EachPair (IsPair st ss n) es
    each [] h = tt
    each (e ∷ es) h = (h 0 (omega arith), each es (λ j lt. h (suc j) (omega (arith, lt))))

-- the packets of all entries by their sets, an entry for each set
pub told_by_all : (a b : StoreState) (ss : List (List ℕ)) (n : ℕ) (rows : List RowValue) (entries told : List (ℕ × ℕ)) → Grows a b
    → AreEntriesOf a ss n rows entries → IsMerged a [] entries b told → AreTold b ss n entries told
told_by_all a b ss n rows entries told g k m =
    let pairs = entry_pairs a ss n rows entries k in
    let sets = packets_of a ss n entries pairs in
    record {
      pairs = record {
        each = pairs_of b ss n told (λ i named. named_known a ss n entries i pairs (⊎_elim (λ z. absurd z) (λ z. z) (m.named i named))) m.packets;
        once = m.once;
      };
      from = λ i x range u.
          ⊎_elim (λ z. absurd z) (λ z. under_on a b entries i x g sets z) (m.either i x (packet_back a b x g range) u);
      every = λ i x range u. m.more i x (packet_back a b x g range) (under_back a b entries i x g sets u);
    }

-- the entry at a place is one
pub entry_pair : (st : StoreState) (ss : List (List ℕ)) (n : ℕ) (rows : List (List ℕ × Pol)) (entries : List (ℕ × ℕ)) (k : ℕ) → k < length rows
    → AreEntriesOf st ss n (row_values rows) entries → IsPair st ss n (entry_at entries k)
entry_pair st ss n rows entries k lt h = let m = rows_count rows in (h.each k (omega (arith, m, lt))).pair
