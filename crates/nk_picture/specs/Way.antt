-- The way that words give: the switch and the port of each packet, in the order of the words.
use Rattle.std.specs.Prelude.{ℕ, ◌+◌, ◌==◌, ◌||◌, Bool, true, false, Option, None, Some, Result, Ok, Err, List, [], ◌∷◌, ◌++◌, codes, option_map, if◌then◌else◌, ⊤, ◌≡◌}
use Rattle.std.specs.Str.{bytes_eq}
use Rattle.std.specs.List.{slice_split}
use Rattle.nk_field.specs.Texts.{rest_after_prefix, number_if_any}
use Rattle.nk_picture.specs.declared.way.Place.{Place}
use Rattle.nk_picture.specs.declared.way.Way.{Way}
use Rattle.nk_picture.specs.declared.way.Way.TheVariants as way

-- the number after a front, at most 65535
abbrev pub number_after : List ℕ → List ℕ → Option ℕ
number_after front item = number_if_any 65535 (rest_after_prefix front item)

abbrev pub place : ℕ → ℕ → Place
place sw pt = record { switch = sw; port = pt }

-- a place of these two numbers, where there are both
abbrev pub both : Option ℕ → Option ℕ → Option Place
both None m = None
both (Some n) None = None
both (Some n) (Some m) = Some (place n m)

-- the place of a packet's items: the first is `sw=N`, the second `pt=M`, and what stands after them says nothing of the place
abbrev pub place_of_items : List (List ℕ) → Option Place
place_of_items [] = None
place_of_items (i ∷ []) = None
place_of_items (i ∷ j ∷ is) = both (number_after (codes "sw=") i) (number_after (codes "pt=") j)

-- the place of a packet's text, whose items stand between commas
abbrev pub place_of_word : List ℕ → Option Place
place_of_word word = place_of_items (slice_split (λ b. b == 44) word)

-- whether a word only says what comes after it, as `equal` prints it
abbrev pub is_heading : List ℕ → Bool
is_heading word = bytes_eq word (codes "start") || bytes_eq word (codes "history")

-- the places that a word gives: none for a heading, one for a packet; or it is neither
abbrev pub places_of : List ℕ → Option (List Place)
places_of word = if is_heading word then Some [] else option_map (λ p. p ∷ []) (place_of_word word)

-- what becomes of the places of a word, or that the word of this number is none
abbrev pub with_places : Option (List Place) → ℕ → (List Place → Result (List Place) ℕ) → Result (List Place) ℕ
with_places None n rest = Err n
with_places (Some ps) n rest = rest ps

-- the way of these words after some places, or the number of the first word that is neither heading nor packet, where n words
-- came before
abbrev pub way_after : List Place → ℕ → List (List ℕ) → Result (List Place) ℕ
way_after ps n [] = Ok ps
way_after ps n (w ∷ ws) = with_places (places_of w) (n + 1) (λ qs. way_after (ps ++ qs) (n + 1) ws)

-- the way of all words
abbrev pub way_of_words : List (List ℕ) → Result (List Place) ℕ
way_of_words words = way_after [] 0 words

-- a way in memory, or the number of the word that is none
abbrev pub way_in : Way → Result (List Place) ℕ
way_in (way.Places places) = Ok places.items
way_in (way.Bad number) = Err number

-- a word's places were added, or it has none and nothing was
abbrev pub Added : Bool → List Place → List Place → Option (List Place) → Type 0
Added true old new (Some ps) = new ≡ old ++ ps
Added true old new None = ⊥
Added false old new (Some ps) = ⊥
Added false old new None = ⊤
