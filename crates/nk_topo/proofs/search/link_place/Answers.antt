use Rattle.std.proofs.Common.{rules, sym, ◌∙◌}
use Rattle.std.proofs.lemmas.List.Sorted.{IsPartitionPoint-from_clause}
use Rattle.nk_topo.specs.Topology.{starts_below}
use Rattle.nk_topo.specs.Inside.{link_of}
use Rattle.nk_topo.proofs.Places.{prefix_of_point, prefix_len-map, links_parted, partition_from_images}
use Rattle.nk_topo.proofs.search.link_place.Goals as goal

pub returns-clause-place : goal.returns-clause-place
returns-clause-place c =
    let up = partition_from_images link_of (starts_below c.args.sw c.args.pt) c.args.links.now (links_parted _ c.args.sw c.args.pt c.requires) in
    let point = IsPartitionPoint-from_clause (λ l. starts_below c.args.sw c.args.pt (link_of l)) _ _ c.partition_point.ensures.partitioned up (λ a r q k. search rules) in
    prefix_of_point (λ l. starts_below c.args.sw c.args.pt (link_of l)) c.args.links.now c.partition_point.result (0, 0, 0, 0) c.partition_point.ensures.bound point
    ∙ sym (prefix_len-map link_of (starts_below c.args.sw c.args.pt) c.args.links.now)
