-- Which classes have rows at a switch, by the tags that come there; and which of these act for a class at which packets.
use Rattle.std.specs.Prelude.{◌==◌, ℕ, zero, suc, ◌+◌, Bool, false, List, [], ◌∷◌, ◌++◌, if◌then◌else◌, length, slice_index}
use Rattle.nk_group.specs.declared.switch_tags.SwitchTags.{SwitchTags}
use Rattle.nk_group.specs.declared.switch_tags.ActingTag.{ActingTag}
use Rattle.nk_group.specs.declared.switch_tags.ClassHere.{ClassHere}
use Rattle.nk_group.specs.declared.switch_tags.SwitchClasses.{SwitchClasses}

-- whether the tag is of the class; tag 0 is of none
abbrev pub is_of_class : List ℕ → ℕ → ℕ → Bool
is_of_class classes c zero = false
is_of_class classes c (suc i) = slice_index classes i == c

-- the packets that are met under the tag
abbrev pub packets_of : List ℕ → ℕ → ℕ
packets_of met zero = 0
packets_of met (suc i) = slice_index met i

-- those of the tags that are of the class, each with its packets
abbrev pub acting_of : List ℕ → List ℕ → ℕ → List ℕ → List ActingTag
acting_of classes met c [] = []
acting_of classes met c (t ∷ ts) =
    if is_of_class classes c t then record { tag = t; packets = packets_of met t } ∷ acting_of classes met c ts else acting_of classes met c ts

-- the class, if some tag acts for it, with the tag of its first member for other packets
abbrev pub class_among : List ActingTag → ℕ → ℕ → List ClassHere
class_among [] c other = []
class_among (a ∷ more) c other = record { class = c; acting = a ∷ more; other = other } ∷ []

-- class 0, and those of the first so many classes to which some of the tags belong
abbrev pub classes_among : List ℕ → List ℕ → List ℕ → List ℕ → ℕ → List ClassHere
classes_among classes met firsts tags zero = record { class = 0; acting = []; other = 0 } ∷ []
classes_among classes met firsts tags (suc c) =
    classes_among classes met firsts tags c ++ class_among (acting_of classes met (suc c) tags) (suc c) (slice_index firsts c + 1)

-- the classes of a switch
abbrev pub switch_classes_of : List ℕ → List ℕ → List ℕ → SwitchTags → SwitchClasses
switch_classes_of classes met firsts s = record { switch = s.switch; classes = classes_among classes met firsts s.tags (length firsts) }
