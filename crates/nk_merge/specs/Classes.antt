-- Classes by an equivalence, numbered from 1 by their first members.
use Rattle.std.specs.Prelude.{◌≡◌, ◌==◌, ℕ, suc, ◌<◌, ◌≤◌, ◌↔◌, List, [], ◌∷◌, ◌++◌, if◌then◌else◌, length, slice_index}

-- of so many things the number of each one's class
pub record AreClasses (Alike : ℕ → ℕ → Type 0) (count : ℕ) (numbers : List ℕ) : Type 0 where
  pub one_each : length numbers ≡ count
  pub same : (i j : ℕ) → i < count → j < count → (slice_index numbers i ≡ slice_index numbers j) ↔ Alike i j
  pub from_one : (i : ℕ) → i < count → 1 ≤ slice_index numbers i
  -- each lesser number is that of something before
  pub in_order : (i c : ℕ) → i < count → 1 ≤ c → c < slice_index numbers i → (j : ℕ) × (j < i) × (slice_index numbers j ≡ c)

-- the first member of each class: that of class c stands at place c - 1
pub record AreFirsts (numbers firsts : List ℕ) : Type 0 where
  pub member : (c : ℕ) → c < length firsts → (slice_index firsts c < length numbers) × (slice_index numbers (slice_index firsts c) ≡ suc c)
  pub first : (c i : ℕ) → c < length firsts → slice_index numbers i ≡ suc c → i < slice_index firsts c → ⊥
  pub all : (i : ℕ) → i < length numbers → slice_index numbers i ≤ length firsts

-- what makes a relation an equivalence
pub record IsEquivalence (Alike : ℕ → ℕ → Type 0) : Type 0 where
  pub self : (i : ℕ) → Alike i i
  pub back : (i j : ℕ) → Alike i j → Alike j i
  pub on : (i j k : ℕ) → Alike i j → Alike j k → Alike i k

-- the first members with the next one, where it is of the class after all others
abbrev pub with_first_member : List ℕ → ℕ → ℕ → List ℕ
with_first_member firsts i c = if c == length firsts then firsts ++ i ∷ [] else firsts
