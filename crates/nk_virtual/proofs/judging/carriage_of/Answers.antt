use Rattle.nk_virtual.proofs.judging.carriage_of.Goals as goal

pub least_start-requires : goal.least_start-requires
least_start-requires c = record {
  table = c.declared-declared.ensures.is;
  fabric = c.requires;
  from_switch = c.are_small.ensures.from_switch;
  from_port = c.are_small.ensures.from_port;
  to_switch = c.are_small.ensures.to_switch;
  to_port = c.are_small.ensures.to_port;
}
