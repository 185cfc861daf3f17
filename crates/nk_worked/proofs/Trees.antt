-- The trees of the two switches: their leaves are the bucket lists that the policy asks for.
use Rattle.std.proofs.Common.{◌≡◌, ℕ, ◌≤◌, Bool, true, false, inl, inr, List, [], ◌∷◌, refl, sym, ap, subst, ◌∙◌, arith}
use Rattle.std.specs.Prelude.{◌==◌, nat_le, if◌then◌else◌, slice_index, Contains, AllPairs}
use Rattle.std.proofs.lemmas.Bool.Decides.{nat_tests}
use Rattle.nk_field.proofs.Lists.{in_from_contains, numbers_decided}
use Rattle.nk_store.specs.Diagram.{Diagram, leaf, case, no_branch, branch, leaf_at}
use Rattle.nk_table.specs.declared.Bucket.{Bucket}
use Rattle.nk_table.specs.declared.Exit.{Exit}
use Rattle.nk_table.specs.declared.Exit.TheVariants.{Back, Port}
use Rattle.nk_extract.specs.Buckets.{bucket_of, IsBucketBefore}
use Rattle.nk_compile.specs.PrintedTable.{IsResult, IsBucketList, IsTreeOfTag}
use Rattle.nk_worked.specs.TwoSwitches.{dst_and_tag, over_one_link, one_set, tagged}
use Rattle.nk_worked.proofs.Packets.{from_front}
use Rattle.nk_worked.proofs.States.{only_one, there, first_result, leads_over, second_result, leads_out}

-- a number passes the test with itself
same_number : (n : ℕ) → n == n ≡ true
same_number n = grind arith

-- a list without two elements is in order
none_before : {X : Type 0} (R : X → X → Type 0) → AllPairs R []
none_before R i j d lt less = absurd (omega (arith, lt, less))

one_before : {X : Type 0} (R : X → X → Type 0) (x : X) → AllPairs R (x ∷ [])
one_before R x i j d lt less = absurd (omega (arith, lt, less))

-- the bucket list of a packet with no result is empty
no_bucket : (t : ℕ) (pk : List ℕ) → ((x : List ℕ) (t' : ℕ) → IsResult over_one_link one_set t pk x t' → ⊥)
    → IsBucketList 4 3 over_one_link one_set t pk []
no_bucket t pk never = record {
  exactly = λ b. (λ c. absurd (in_from_contains [] b c), λ r. absurd (never r.0 r.1 r.2));
  in_order = none_before (IsBucketBefore 3);
}

-- that of a packet with one result is its bucket
one_bucket : (t : ℕ) (pk x : List ℕ) (t' : ℕ) (b : Bucket) → IsResult over_one_link one_set t pk x t'
    → ((y : List ℕ) (u : ℕ) → IsResult over_one_link one_set t pk y u → (y ≡ x) × (u ≡ t')) → bucket_of 4 3 pk x t' ≡ b
    → IsBucketList 4 3 over_one_link one_set t pk (b ∷ [])
one_bucket t pk x t' b is only e = record {
  exactly = λ c. (
    λ h. (x, t', is, only_one b c h ∙ sym e),
    λ r.
        let o = only r.0 r.1 r.2 in
        let same : c ≡ b = r.3 ∙ ap (λ y. bucket_of 4 3 pk y r.1) o.0 ∙ ap (λ u. bucket_of 4 3 pk x u) o.1 ∙ e in
        subst (λ d. Contains (b ∷ []) d) (sym same) (there b),
  );
  in_order = one_before (IsBucketBefore 3) b;
}

-- the bucket of what goes to the link, and of what leaves
over_bucket : (r : List ℕ) → bucket_of 4 3 (1 ∷ 1 ∷ r) (1 ∷ 2 ∷ r) 1 ≡ tagged 1 (Port 2)
over_bucket r = rw (same_number (slice_index r 0))

abbrev out_exit : ℕ → Exit
out_exit pt = if pt == 2 then Back else Port 2

out_bucket : (sw pt : ℕ) (r : List ℕ) → bucket_of 4 3 (sw ∷ pt ∷ r) (sw ∷ 2 ∷ r) 0 ≡ tagged 0 (out_exit pt)
out_bucket sw pt r = rw (same_number (slice_index r 0))

-- at switch 1, for what is untagged
abbrev pub first_tree : Diagram (List Bucket)
first_tree =
    case 1 (branch 0 (leaf []) (branch 1 (leaf (tagged 1 (Port 2) ∷ [])) (branch 65535 (leaf []) no_branch)))

-- at switch 2, for what has tag 1
abbrev pub second_tree : Diagram (List Bucket)
second_tree =
    case 1 (branch 1 (leaf (tagged 0 (Port 2) ∷ [])) (branch 2 (leaf (tagged 0 Back ∷ [])) (branch 65535 (leaf (tagged 0 (Port 2) ∷ [])) no_branch)))

-- a choice between the same
either_way : {X : Type 0} (b : Bool) (x : X) → (if b then x else x) ≡ x
either_way true x = refl
either_way false x = refl

-- a choice by a test that isn't met
other_way : {X : Type 0} (b : Bool) (x y : X) → b ≡ false → (if b then x else y) ≡ y
other_way b x y e = ap (λ c. if c then x else y) e

this_way : {X : Type 0} (b : Bool) (x y : X) → b ≡ true → (if b then x else y) ≡ x
this_way b x y e = ap (λ c. if c then x else y) e

-- the first tree's leaf at another port than 1
elsewhere : (pt : ℕ) (r : List ℕ) → (pt ≡ 1 → ⊥) → leaf_at first_tree [] (1 ∷ pt ∷ r) ≡ []
elsewhere pt r other = elim (numbers_decided pt 0) [
  | inl zeroth ↦ ap (λ n. leaf_at first_tree [] (1 ∷ n ∷ r)) zeroth
  | inr past ↦
      let below : nat_le pt 1 ≡ false = grind (arith, nat_tests, other, past) in
      let least : nat_le pt 0 ≡ false = grind (arith, nat_tests, past) in
      other_way (nat_le pt 0) _ _ least ∙ other_way (nat_le pt 1) _ _ below ∙ either_way (nat_le pt 65535) []
]

-- the second tree's leaf
out_leaf : (sw pt : ℕ) (r : List ℕ) → pt ≤ 65535 → leaf_at second_tree [] (sw ∷ pt ∷ r) ≡ tagged 0 (out_exit pt) ∷ []
out_leaf sw pt r most = elim (numbers_decided pt 2) [
  | inl two ↦ subst (λ n. leaf_at second_tree [] (sw ∷ n ∷ r) ≡ tagged 0 (out_exit n) ∷ []) (sym two) refl
  | inr other ↦
      let test : pt == 2 ≡ false = grind (arith, nat_tests, other) in
      let within : nat_le pt 65535 ≡ true = grind (arith, nat_tests, most) in
      let back : List Bucket = tagged 0 Back ∷ [] in
      let out : List Bucket = tagged 0 (Port 2) ∷ [] in
      let last : (if nat_le pt 65535 then out else []) ≡ out = this_way (nat_le pt 65535) out [] within in
      let e : (if nat_le pt 1 then out else (if nat_le pt 2 then back else (if nat_le pt 65535 then out else []))) ≡ out = grind (arith, nat_tests, other, last) in
      e ∙ ap (λ c. tagged 0 (if c then Back else Port 2) ∷ []) (sym test)
]

-- they are the trees
pub first_tree_is : IsTreeOfTag dst_and_tag 3 over_one_link one_set 0 1 first_tree
first_tree_is = record {
  reduced = (omega arith, tt, (omega arith, tt, λ e. cc, (omega arith, tt, λ e. cc, (refl, tt, tt, tt))));
  tag_free = (λ e. omega (arith, e), (tt, (tt, (tt, tt))));
  leaves = λ pk ok.
      from_front
      (λ p. slice_index p 0 ≡ 1 → IsBucketList 4 3 over_one_link one_set 0 p (leaf_at first_tree [] p))
      (λ sw pt r at. elim (numbers_decided pt 1) [
        | inl one ↦
            subst (λ s. IsBucketList 4 3 over_one_link one_set 0 (s ∷ pt ∷ r) (leaf_at first_tree [] (s ∷ pt ∷ r))) (sym at)
            (subst (λ n. IsBucketList 4 3 over_one_link one_set 0 (1 ∷ n ∷ r) (leaf_at first_tree [] (1 ∷ n ∷ r))) (sym one)
            (one_bucket 0 (1 ∷ 1 ∷ r) (1 ∷ 2 ∷ r) 1 (tagged 1 (Port 2)) (leads_over r)
            (λ y u res. let f = first_result (1 ∷ 1 ∷ r) y u res in (f.2, f.3)) (over_bucket r)))
        | inr other ↦
            subst (λ s. IsBucketList 4 3 over_one_link one_set 0 (s ∷ pt ∷ r) (leaf_at first_tree [] (s ∷ pt ∷ r))) (sym at)
            (subst (λ bs. IsBucketList 4 3 over_one_link one_set 0 (1 ∷ pt ∷ r) bs) (sym (elsewhere pt r other))
            (no_bucket 0 (1 ∷ pt ∷ r) (λ y u res. other (first_result (1 ∷ pt ∷ r) y u res).1)))
      ])
      pk
      ok.places;
}

-- at switch 2 nothing that is untagged is sent
pub empty_tree_is : IsTreeOfTag dst_and_tag 3 over_one_link one_set 0 2 (leaf [])
empty_tree_is = record {
  reduced = tt;
  tag_free = tt;
  leaves = λ pk ok at. no_bucket 0 pk (λ y u res. let one = (first_result pk y u res).0 in absurd (omega (arith, at, one)));
}

-- to go back isn't to go out by port 2
ways_differ : leaf (tagged 0 (Port 2) ∷ []) ≡ leaf (tagged 0 Back ∷ []) → ⊥
ways_differ e =
    let b : tagged 0 (Port 2) ≡ tagged 0 Back = cc in
    let x : Port 2 ≡ Back = ap (λ (a : Bucket). a.exit) b in cc

pub second_tree_is : IsTreeOfTag dst_and_tag 3 over_one_link one_set 1 2 second_tree
second_tree_is = record {
  reduced = (omega arith, tt, (omega arith, tt, λ e. ways_differ e, (omega arith, tt, λ e. ways_differ (sym e), (refl, tt, tt, tt))));
  tag_free = (λ e. omega (arith, e), (tt, (tt, (tt, tt))));
  leaves = λ pk ok at.
      from_front
      (λ p. slice_index p 1 ≤ 65535 → IsBucketList 4 3 over_one_link one_set 1 p (leaf_at second_tree [] p))
      (λ sw pt r most.
      subst (λ bs. IsBucketList 4 3 over_one_link one_set 1 (sw ∷ pt ∷ r) bs) (sym (out_leaf sw pt r most))
      (one_bucket 1 (sw ∷ pt ∷ r) (sw ∷ 2 ∷ r) 0 (tagged 0 (out_exit pt)) (leads_out (sw ∷ pt ∷ r))
      (λ y u res. second_result (sw ∷ pt ∷ r) y u res) (out_bucket sw pt r)))
      pk
      ok.places
      (ok.within 1);
}
