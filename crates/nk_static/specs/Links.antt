-- Links by their ends, and the links that literals are looked up in.
use Rattle.std.specs.Prelude.{ℕ, ◌==◌, ◌&&◌, Bool, false, Option, Some, None, List, map}
use Rattle.nk_topo.specs.Topology.{Link}
use Rattle.nk_topo.specs.Inside.{link_of}
use Rattle.nk_static.specs.declared.links.Links.{Links}
use Rattle.nk_static.specs.declared.links.Links.TheVariants.{Declared, Listed}

-- the link has these ends
abbrev pub is_link_of : ℕ → ℕ → ℕ → ℕ → Link → Bool
is_link_of a m b n k = (k.from_switch == a) && (k.from_port == m) && (k.to_switch == b) && (k.to_port == n)

-- the place is this one
abbrev pub is_place : Option (ℕ × ℕ) → ℕ → ℕ → Bool
is_place None b n = false
is_place (Some p) b n = (p.0 == b) && (p.1 == n)

-- the links themselves
abbrev pub links_of : Links → List Link
links_of (Declared topo) = topo.now.links
links_of (Listed links) = map link_of links.now.keys
