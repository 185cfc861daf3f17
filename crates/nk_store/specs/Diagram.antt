-- Forwarding decision diagrams as plain trees (Smolka et al., ICFP 2015), with intervals of values for branches.
-- A leaf holds a value of any type: a list of outs in the store, a list of buckets where a table is printed.
use Rattle.std.specs.Prelude.{◌≡◌, ◌≢◌, ℕ, ◌+◌, ◌≤◌, ◌<◌, nat_le, if◌then◌else◌, List, [], slice_index, Contains}
use Rattle.nk_field.specs.Act.{applied}
use Rattle.nk_store.specs.declared.node.Out.{Out}

mutual
  -- a leaf with its value, or a choice by the value of a field
  pub data Diagram (L : Type 0) : Type 0 where
    leaf : L → Diagram L
    case : (field : ℕ) → Branches L → Diagram L

  -- neighbouring intervals of values from 0 on, each with its last value and its child
  pub data Branches (L : Type 0) : Type 0 where
    no_branch : Branches L
    branch : (end : ℕ) → Diagram L → Branches L → Branches L

-- the leaf at a packet, and otherwise for a value past the last branch
abbrev mutual
  pub leaf_at : {L : Type 0} → Diagram L → L → List ℕ → L
  leaf_at (leaf a) otherwise pk = a
  leaf_at (case f bs) otherwise pk = leaf_among bs otherwise (slice_index pk f) pk

  -- the leaf at a packet by the branch that holds the value
  pub leaf_among : {L : Type 0} → Branches L → L → ℕ → List ℕ → L
  leaf_among no_branch otherwise v pk = otherwise
  leaf_among (branch end d bs) otherwise v pk =
      if nat_le v end then leaf_at d otherwise pk else leaf_among bs otherwise v pk

-- the outs at a packet
abbrev pub look : Diagram (List Out) → List ℕ → List Out
look d pk = leaf_at d [] pk

-- the diagram leads from the packet to y, and goes on at the target
abbrev pub Means : Diagram (List Out) → List ℕ → List ℕ → ℕ → Type 0
Means d pk y target = (o : Out) × Contains (look d pk) o × (applied o.act pk ≡ y) × (o.target ≡ target)

-- the packets at which the leaf is not empty
abbrev pub IsIn : Diagram (List Out) → List ℕ → Type 0
IsIn d pk = look d pk ≢ []

-- the child of the first branch is not this one
abbrev pub IsOther : {L : Type 0} → Diagram L → Branches L → Type 0
IsOther d no_branch = Unit {0}
IsOther d (branch end e bs) = d ≢ e

-- there is a branch
abbrev pub IsMore : {L : Type 0} → Branches L → Type 0
IsMore no_branch = ⊥
IsMore (branch end d bs) = Unit {0}

-- two branches or more
abbrev pub AreTwo : {L : Type 0} → Branches L → Type 0
AreTwo no_branch = ⊥
AreTwo (branch end d bs) = IsMore bs

-- the last branch ends at the largest value, and another one below the next
abbrev pub EndsRight : {L : Type 0} → ℕ → ℕ → Branches L → Type 0
EndsRight most end no_branch = end ≡ most
EndsRight most end (branch next d bs) = end < next

-- reduced: each node has two parts or more, ends rise to the field's largest value, neighbouring children differ, and
-- children test later fields alone
abbrev mutual
  pub IsReduced : {L : Type 0} → Diagram L → List ℕ → ℕ → Type 0
  IsReduced (leaf a) maxima low = Unit {0}
  IsReduced (case f bs) maxima low = (low ≤ f) × AreTwo bs × AreReduced bs maxima f

  -- each branch is reduced and ends rightly
  pub AreReduced : {L : Type 0} → Branches L → List ℕ → ℕ → Type 0
  AreReduced no_branch maxima f = Unit {0}
  AreReduced (branch end d bs) maxima f =
      EndsRight (slice_index maxima f) end bs × IsReduced d maxima (f + 1) × IsOther d bs × AreReduced bs maxima f

-- no node tests the field
abbrev mutual
  pub IsFreeOf : {L : Type 0} → ℕ → Diagram L → Type 0
  IsFreeOf f (leaf a) = Unit {0}
  IsFreeOf f (case g bs) = (g ≢ f) × AreFreeOf f bs

  -- no branch tests the field
  pub AreFreeOf : {L : Type 0} → ℕ → Branches L → Type 0
  AreFreeOf f no_branch = Unit {0}
  AreFreeOf f (branch end d bs) = IsFreeOf f d × AreFreeOf f bs
