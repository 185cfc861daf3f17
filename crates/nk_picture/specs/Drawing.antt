-- The Graphviz text of a network: its switches with their ports, its links, and the steps of a way.
use Rattle.std.specs.Prelude.{ℕ, ◌+◌, Option, None, Some, List, [], ◌∷◌, ◌++◌, codes, decimal, if◌then◌else◌}
use Rattle.std.specs.List.{flat_map}
use Rattle.nk_topo.specs.Topology.{Topology, Link, numbers_of, ports_of, is_edge}
use Rattle.nk_picture.specs.declared.way.Place.{Place}

-- the name of a port, as `"1:2"`
abbrev pub port_name : ℕ → ℕ → List ℕ
port_name sw pt = codes "\"" ++ decimal sw ++ codes ":" ++ decimal pt ++ codes "\""

-- what an edge port has besides: a second line around it
abbrev pub edge_mark : Topology → ℕ → ℕ → List ℕ
edge_mark t sw pt = if is_edge t sw pt then codes ", peripheries=2" else []

-- the line of a port
abbrev pub port_line : Topology → ℕ → ℕ → List ℕ
port_line t sw pt =
    codes "    " ++ port_name sw pt ++ codes " [label=\"" ++ decimal pt ++ codes "\"" ++ edge_mark t sw pt ++ codes "];\n"

-- the lines of a switch: a frame with its number, and its ports in it, in order
abbrev pub switch_lines : Topology → ℕ → List ℕ
switch_lines t sw =
    codes "  subgraph \"cluster " ++ decimal sw ++ codes "\" {\n    label=\"switch " ++ decimal sw ++ codes "\";\n"
    ++ flat_map (port_line t sw) (ports_of t sw) ++ codes "  }\n"

-- the line of a link
abbrev pub link_arrow : Link → List ℕ
link_arrow l =
    codes "  " ++ port_name l.from_switch l.from_port ++ codes " -> " ++ port_name l.to_switch l.to_port ++ codes ";\n"

-- where a step begins: at the place before, or outside the network
abbrev pub source_name : Option Place → List ℕ
source_name None = codes "start"
source_name (Some p) = port_name p.switch p.port

-- the line of a step, which has a number
abbrev pub step_line : Option Place → ℕ → Place → List ℕ
step_line before n p =
    codes "  " ++ source_name before ++ codes " -> " ++ port_name p.switch p.port ++ codes " [label=\"" ++ decimal n
    ++ codes "\", color=red, fontcolor=red];\n"

-- the lines of the steps of a way after a place, numbered from the number on
abbrev pub steps_from : Option Place → ℕ → List Place → List ℕ
steps_from before n [] = []
steps_from before n (p ∷ ps) = step_line before n p ++ steps_from (Some p) (n + 1) ps

-- the lines of a way: a step to each of its places, in order and numbered from 1, the first from outside
abbrev pub step_lines : List Place → List ℕ
step_lines ps = steps_from None 1 ps

-- the text of a network with a way: the switches in order of their numbers, the links in order of where they begin, the way
abbrev pub drawing : Topology → List Place → List ℕ
drawing t way =
    codes "digraph network {\n  rankdir=LR;\n  node [shape=circle];\n" ++ flat_map (switch_lines t) (numbers_of t)
    ++ flat_map link_arrow t.links ++ step_lines way ++ codes "}\n"
