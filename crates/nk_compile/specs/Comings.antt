-- Where the links of a policy end, as a list by marks, and which tags come to a switch.
use Rattle.std.specs.Prelude.{◌≡◌, ◌↔◌, ◌==◌, ◌++◌, if◌then◌else◌, ℕ, zero, suc, ◌<◌, ◌≤◌, Option, Some, None, List, [], ◌∷◌, length, map, slice_index_or, Contains, All}
use Rattle.std.specs.List.Sorted.{IsStrictlyIncreasing}
use Rattle.nk_policy.specs.Policy.{Policy, Policies}
use Rattle.nk_group.specs.declared.switch_tags.SwitchTags.{SwitchTags}
use Rattle.nk_group.specs.Tagged.{set_of_tag}
use Rattle.nk_compile.specs.WholeTable.{first_number, link_end, link_end_among}

-- where nothing stood at a mark, there is now the end of the policy's literal with that mark
pub record HasEnds (old new : List (Option ℕ)) (p : Policy) : Type 0 where
  pub count : length new ≡ length old
  pub each : (l : ℕ) → l < length new → slice_index_or new l None ≡ first_number (slice_index_or old l None) (link_end p l)

-- where nothing stood at a mark, there is now the end of the first literal with that mark in the parts
pub record HaveEnds (old new : List (Option ℕ)) (ps : Policies) : Type 0 where
  pub count : length new ≡ length old
  pub each : (l : ℕ) → l < length new → slice_index_or new l None ≡ first_number (slice_index_or old l None) (link_end_among ps l)

-- where the link of the first of these marks ends
abbrev pub first_end : List (Option ℕ) → List ℕ → Option ℕ
first_end ends [] = None
first_end ends (l ∷ ls) = slice_index_or ends l None

-- of tag 0 and the first so many others, the tag comes to the switch: tag 0 to each one, another where its first link ends
abbrev pub ComesTo : List (Option ℕ) → List (List ℕ) → List ℕ → ℕ → ℕ → ℕ → Type 0
ComesTo ends ss tags count sw zero = Unit {0}
ComesTo ends ss tags count sw (suc t) = (t < count) × (first_end ends (set_of_tag ss tags t) ≡ Some sw)

-- the switch's tags ascend and are those that come there, of tag 0 and the first so many others
pub record HasComing (ends : List (Option ℕ)) (ss : List (List ℕ)) (tags : List ℕ) (count : ℕ) (s : SwitchTags) : Type 0 where
  pub ascend : IsStrictlyIncreasing s.tags
  pub within : All (λ t. t ≤ count) s.tags
  pub exactly : (t : ℕ) → Contains s.tags t ↔ ComesTo ends ss tags count s.switch t

-- the switch with one tag more
abbrev pub longer : SwitchTags → ℕ → SwitchTags
longer s tag = record { switch = s.switch; tags = s.tags ++ tag ∷ [] }

-- the tag put at the end of the switch's tags, if it is this switch
abbrev pub with_tag : ℕ → ℕ → SwitchTags → SwitchTags
with_tag sw tag s = if s.switch == sw then longer s tag else s

-- the tag put at the end of the tags of the switch where it comes
abbrev pub with_end : Option ℕ → ℕ → List SwitchTags → List SwitchTags
with_end None tag all = all
with_end (Some sw) tag all = map (with_tag sw tag) all
