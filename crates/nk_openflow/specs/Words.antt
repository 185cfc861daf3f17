-- What the words of the command line ask for, and the first of them that is at fault.
use Rattle.std.specs.Prelude.{ℕ, ◌+◌, ◌==◌, not, nat_lt, Bool, false, Option, Some, None, List, [], ◌∷◌, ◌++◌, length, codes, if◌then◌else◌}
use Rattle.std.specs.Str.{bytes_eq}
use Rattle.std.specs.List.{list_any, position_or_len, before_first, after_first}
use Rattle.nk_field.specs.Texts.{number_upto}
use Rattle.nk_openflow.specs.declared.base.Base.{Base}
use Rattle.nk_openflow.specs.declared.base.Base.TheVariants.{Any}
use Rattle.nk_openflow.specs.declared.match_field.MatchField.{MatchField}
use Rattle.nk_openflow.specs.declared.words.Head.{Head}
use Rattle.nk_openflow.specs.declared.words.Part.{Part}
use Rattle.nk_openflow.specs.declared.words.Part.TheVariants.{Groups, Flows}
use Rattle.nk_openflow.specs.declared.refusals.WordFault.{WordFault}
use Rattle.nk_openflow.specs.declared.refusals.WordFault.TheVariants.{NoMatchField, NotInBase, MatchFieldTwice, FieldTwice}
use Rattle.nk_openflow.specs.Bases.{base_named}
use Rattle.nk_openflow.specs.MatchFields.{has_prerequisites, match_field_named, overlap}

-- ---- the first words

-- the part of a table that a word names
abbrev pub part_named : List ℕ → Option Part
part_named w = if bytes_eq w (codes "groups") then Some Groups else if bytes_eq w (codes "flows") then Some Flows else None

-- the base that the first of these words names
abbrev pub first_base : List (List ℕ) → Option Base
first_base [] = None
first_base (w ∷ ws) = base_named w

-- what the first words say, and how many these are
abbrev pub head : ℕ → Part → Option Base → Head
head sw part None = record { switch = sw; part = part; base = Any; count = 2 }
head sw part (Some b) = record { switch = sw; part = part; base = b; count = 3 }

-- what the first words say, and how many these are, where there are a switch and a part
abbrev pub head_with : Option ℕ → Option Part → Option Base → Option Head
head_with None part base = None
head_with (Some sw) None base = None
head_with (Some sw) (Some part) base = Some (head sw part base)

-- the number of a switch, `groups` or `flows`, and a base or none
abbrev pub head_of : List (List ℕ) → Option Head
head_of [] = None
head_of (s ∷ []) = None
head_of (s ∷ p ∷ ws) = head_with (number_upto 65535 s) (part_named p) (first_base ws)

-- ---- a word FIELD=OXM

-- whether a byte is `=`
abbrev pub is_equals : ℕ → Bool
is_equals b = b == 61

-- whether a word has one
abbrev pub has_equals : List ℕ → Bool
has_equals w = nat_lt (position_or_len is_equals w) (length w)

-- what stands before the first one, or the whole word
abbrev pub mapped_name : List ℕ → List ℕ
mapped_name w = before_first is_equals w

-- the match field that stands after it
abbrev pub match_field_in : List ℕ → Option MatchField
match_field_in w = if has_equals w then match_field_named (after_first is_equals w) else None

-- whether two match fields, the second of which may be none, share bits
abbrev pub overlap_any : MatchField → Option MatchField → Bool
overlap_any f None = false
overlap_any f (Some g) = overlap f g

abbrev pub clashes : MatchField → List ℕ → Bool
clashes f w = overlap_any f (match_field_in w)

-- whether a word has this name
abbrev pub has_name : List ℕ → List ℕ → Bool
has_name name w = bytes_eq (mapped_name w) name

-- what is wrong with a word of this match field, after the words before it
abbrev pub field_word_fault : Base → List (List ℕ) → List ℕ → Option MatchField → Option WordFault
field_word_fault base before w None = Some NoMatchField
field_word_fault base before w (Some f) =
    if not (has_prerequisites base f) then Some NotInBase
    else if list_any (clashes f) before then Some MatchFieldTwice
    else if list_any (has_name (mapped_name w)) before then Some FieldTwice
    else None

abbrev pub word_fault : Base → List (List ℕ) → List ℕ → Option WordFault
word_fault base before w = field_word_fault base before w (match_field_in w)

-- this fault, at the word of this number, or else what the rest says
abbrev pub fault_or : ℕ → Option WordFault → Option (ℕ × WordFault) → Option (ℕ × WordFault)
fault_or n (Some k) rest = Some (n, k)
fault_or n None rest = rest

-- the first of these words that is at fault, by its number, where the first of them is number n and others stand before it
abbrev pub first_word_fault : Base → List (List ℕ) → ℕ → List (List ℕ) → Option (ℕ × WordFault)
first_word_fault base before n [] = None
first_word_fault base before n (w ∷ ws) =
    fault_or n (word_fault base before w) (first_word_fault base (before ++ w ∷ []) (n + 1) ws)
