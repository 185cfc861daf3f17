use Rattle.std.proofs.Common.{◌≡◌, ◌++◌, drop, map}
use Rattle.std.specs.List.{flat_map}
use Rattle.nk_topo.specs.Inside.{link_of}
use Rattle.nk_picture.specs.Drawing.{link_arrow}
use Rattle.nk_picture.proofs.drawing.push_links.Given as goal

-- what is made so far, then the rest, is the whole
abbrev pub invariant-loop-link : goal.invariant-loop-link
invariant-loop-link l = record {
  whole : l.out.items ++ flat_map link_arrow (map link_of (drop l.link-index l.links))
      ≡ l.fn.out.items ++ flat_map link_arrow (map link_of l.links);
  all : map link_of l.links ≡ l.topo.links;
}
