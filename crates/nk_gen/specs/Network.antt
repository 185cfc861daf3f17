-- A generated network: switches 1, 2, .. up to its size, the home of each, and three kinds of links between them.
use Rattle.std.specs.Prelude.{ℕ, ◌+◌, ◌*◌, ◌%◌, ◌==◌, ◌||◌, Bool, nat_le, if◌then◌else◌, List, [], ◌∷◌, ◌++◌, map, fold}
use Rattle.std.specs.List.{range_with_len, enumerate_from, flat_map, list_any}
use Rattle.nk_gen.specs.declared.network.Home.{Home}
use Rattle.nk_gen.specs.declared.network.Link.{Link}
use Rattle.nk_gen.specs.Draws.{home_draws, chord_draws}

-- the numbers of the switches
abbrev pub switches : ℕ → List ℕ
switches size = range_with_len 1 size

-- a switch with the destination that is at home there, by the switch's draw
abbrev pub home_of : ℕ × ℕ → Home
home_of s = record { switch = s.0; destination = 281474000000000 + 1000 * s.0 + s.1 % 1000 }

-- the homes of switches 1, 2, .., one for each draw
abbrev pub homes_by : List ℕ → List Home
homes_by draws = map home_of (enumerate_from 1 draws)

-- the homes, by the draws after a seed
abbrev pub homes : ℕ → ℕ → List Home
homes size seed = homes_by (home_draws size seed)

-- the link of the ring at a switch: from port 1 to port 2 of the next switch, the first one after the last
abbrev pub ring_link : ℕ → ℕ → Link
ring_link size i = record { from_switch = i; from_port = 1; to_switch = if i == size then 1 else i + 1; to_port = 2 }

-- the ring
abbrev pub ring : ℕ → List Link
ring size = map (ring_link size) (switches size)

-- whether a chord ends at this switch
abbrev pub is_end : List Link → ℕ → Bool
is_end chords j = list_any (λ c. c.to_switch == j) chords

-- the chord from a switch to another, from port 3 to port 4: there is none from a switch to itself, and none to a switch
-- at which an earlier chord ends
abbrev pub chord_from : List Link → ℕ → ℕ → List Link
chord_from earlier i j =
    if i == j || is_end earlier j then [] else record { from_switch = i; from_port = 3; to_switch = j; to_port = 4 } ∷ []

-- the chords so far, and after them that of one more switch, whose draw points to the other switch
abbrev pub with_chord : ℕ → List Link → ℕ × ℕ → List Link
with_chord size earlier s = earlier ++ chord_from earlier s.0 (1 + s.1 % size)

-- the chords of switches 1, 2, .., one draw for each, in this order
abbrev pub chords_by : ℕ → List ℕ → List Link
chords_by size draws = fold (with_chord size) [] (enumerate_from 1 draws)

-- the chords, by the draws after a seed
abbrev pub chords : ℕ → ℕ → List Link
chords size seed = chords_by size (chord_draws size seed)

-- the link of the tree from a port of a switch to port 7 of another, where there is such a switch
abbrev pub branch : ℕ → ℕ → ℕ → ℕ → List Link
branch size i port j =
    if nat_le j size then record { from_switch = i; from_port = port; to_switch = j; to_port = 7 } ∷ [] else []

-- the links of the tree from a switch: from port 5 to the switch of twice its number, then from port 6 to the one after
-- that
abbrev pub branches : ℕ → ℕ → List Link
branches size i = branch size i 5 (2 * i) ++ branch size i 6 (2 * i + 1)

-- the tree
abbrev pub tree : ℕ → List Link
tree size = flat_map (branches size) (switches size)
