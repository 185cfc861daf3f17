-- Tags: the states that a tag stands for, and where they lead with which tag (Smolka et al., ICFP 2015, section 5).
use Rattle.std.specs.Prelude.{◌≡◌, ◌↔◌, ℕ, zero, suc, ◌+◌, ◌<◌, ◌⊎◌, List, [], ◌∷◌, Option, Some, None, length, map, slice_index, slice_index_or, Contains}
use Rattle.nk_store.specs.StoreState.{StoreState}
use Rattle.nk_determ.specs.Exact.{Sends}
use Rattle.nk_determ.specs.States.{StateLeads}

-- the set of tag t + 1
abbrev pub set_of_tag : List (List ℕ) → List ℕ → ℕ → List ℕ
set_of_tag ss tags t = slice_index_or ss (slice_index tags t) []

-- the states of a tag: that of the start for tag 0, else the one after each label of its set
abbrev pub members_of : List (List ℕ) → List ℕ → ℕ → List ℕ
members_of ss tags zero = 0 ∷ []
members_of ss tags (suc t) = map (λ l. l + 1) (set_of_tag ss tags t)

-- From pk the states lead to y with the tag t': with tag 0 where they end, else where the labels that they send y to are those
-- of the set of that tag, and there are some.
abbrev pub LeadsWith : StoreState → List (List ℕ) → List ℕ → List ℕ → List ℕ → List ℕ → List ℕ → ℕ → Type 0
LeadsWith st ss states tags members pk y zero = StateLeads st states members pk y 0
LeadsWith st ss states tags members pk y (suc t) =
    (t < length tags) × (set_of_tag ss tags t ≡ [] → ⊥) × ((l : ℕ) → Contains (set_of_tag ss tags t) l ↔ ((0 < l) × StateLeads st states members pk y l))

-- from pk the diagram leads to y with the tag that the table has at the target
abbrev pub SendsBy : StoreState → List (Option ℕ) → ℕ → List ℕ → List ℕ → ℕ → Type 0
SendsBy st table d pk y t = (u : ℕ) × Sends st d pk y u × (slice_index_or table u None ≡ Some t)

-- The tags of targets, for the first so many tags: 0 for 0, t + 1 for 1 + the number of the set of that tag where the set has
-- labels, and none for a set that stands at no tag.
pub record IsTagTable (count : ℕ) (ss : List (List ℕ)) (tags : List ℕ) (table : List (Option ℕ)) : Type 0 where
  pub zero_is : slice_index_or table 0 None ≡ Some 0
  pub tagged : (t : ℕ) → t < count → ¬ (set_of_tag ss tags t ≡ []) → slice_index_or table (slice_index tags t + 1) None ≡ Some (t + 1)
  pub only : (u t : ℕ) → slice_index_or table u None ≡ Some t → ((u ≡ 0) × (t ≡ 0)) ⊎ ((i : ℕ) × (i < count) × (u ≡ slice_index tags i + 1) × (t ≡ i + 1))

-- two tags with the same set are one, where the set has labels; the set without labels may stand at many tags
abbrev pub AreOnce : List (List ℕ) → List ℕ → Type 0
AreOnce ss tags =
    (i j : ℕ) → i < length tags → j < length tags → ¬ (set_of_tag ss tags i ≡ []) → slice_index tags i ≡ slice_index tags j → i ≡ j
