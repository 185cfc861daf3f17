-- The text of a generated program: its lines, one after another.
use Rattle.std.specs.Prelude.{ℕ, codes, decimal, List, [], ◌∷◌, ◌++◌}
use Rattle.std.specs.List.{flat_map, join_by}
use Rattle.nk_gen.specs.declared.network.Home.{Home}
use Rattle.nk_gen.specs.declared.network.Link.{Link}
use Rattle.nk_gen.specs.Draws.{key}
use Rattle.nk_gen.specs.Network.{switches, homes, ring, chords, tree}

-- the lines of the fields and of the tag
abbrev pub field_lines : List ℕ
field_lines = codes "field dst 281474976710655\nfield key 281474976710655\nfield vlan 65535\ntag vlan\n"

-- the line of a switch
abbrev pub switch_line : ℕ → List ℕ
switch_line i = codes "switch " ++ decimal i ++ codes " ports 1,2,3,4,5,6,7,9\n"

-- the line that declares a link
abbrev pub link_line : Link → List ℕ
link_line l =
    codes "link "
    ++ decimal l.from_switch
    ++ codes ":"
    ++ decimal l.from_port
    ++ codes " -> "
    ++ decimal l.to_switch
    ++ codes ":"
    ++ decimal l.to_port
    ++ codes "\n"

-- the lines that declare the links: of the ring, then of the chords, then of the tree
abbrev pub link_lines : ℕ → ℕ → List ℕ
link_lines size seed =
    flat_map link_line (ring size) ++ flat_map link_line (chords size seed) ++ flat_map link_line (tree size)

-- the test for a switch and its own destination
abbrev pub home_test : Home → List ℕ
home_test h = codes "sw=" ++ decimal h.switch ++ codes ";dst=" ++ decimal h.destination

-- the literal of a link
abbrev pub literal : Link → List ℕ
literal l =
    decimal l.from_switch
    ++ codes ":"
    ++ decimal l.from_port
    ++ codes "=>"
    ++ decimal l.to_switch
    ++ codes ":"
    ++ decimal l.to_port

-- a sum of literals, `drop` where there is none
abbrev pub literals : List Link → List ℕ
literals [] = codes "drop"
literals (l ∷ ls) = join_by literal (codes " + ") (l ∷ ls)

-- a line that names a policy, whose text is given
abbrev pub let_line : List ℕ → List ℕ → List ℕ
let_line name policy = codes "let " ++ name ++ codes " = " ++ policy ++ codes "\n"

-- the line of the homes
abbrev pub home_line : ℕ → ℕ → List ℕ
home_line size seed = let_line (codes "home") (join_by home_test (codes " + ") (homes size seed))

-- the lines of the links of each kind
abbrev pub kind_lines : ℕ → ℕ → List ℕ
kind_lines size seed =
    let_line (codes "ring") (literals (ring size))
    ++ let_line (codes "chord") (literals (chords size seed))
    ++ let_line (codes "tree") (literals (tree size))

-- one hop: over a link of the ring or over a chord
abbrev pub hop_line : List ℕ
hop_line = codes "let hop = pt:=1;ring + pt:=3;chord\n"

-- a packet that comes in at port 9 gets the key, and hops until it is at home
abbrev pub go_line : ℕ → List ℕ
go_line k = codes "let go = pt=9;key:=" ++ decimal k ++ codes ";(~home;hop)*;home;pt:=9\n"

-- a packet that comes in at port 9 gets the key, and hops until it is at home, with the hops told as none or at least one
abbrev pub same_line : ℕ → List ℕ
same_line k = codes "let same = pt=9;key:=" ++ decimal k ++ codes ";(id + ~home;hop;(~home;hop)*);home;pt:=9\n"

-- from switch 1 to each switch of the tree
abbrev pub cast_line : List ℕ
cast_line = codes "let cast = sw=1;pt=9;(pt:=5;tree + pt:=6;tree)*;pt:=9\n"

-- the lines of the four policies over homes and links
abbrev pub policy_lines : ℕ → List ℕ
policy_lines k = hop_line ++ go_line k ++ same_line k ++ cast_line

-- the generated text of so many switches, by the draws after a seed
abbrev pub generated : ℕ → ℕ → List ℕ
generated size seed =
    field_lines
    ++ flat_map switch_line (switches size)
    ++ link_lines size seed
    ++ home_line size seed
    ++ kind_lines size seed
    ++ policy_lines (key size seed)
