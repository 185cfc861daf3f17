use Rattle.std.proofs.Common.{◌≡◌, ◌++◌, map}
use Rattle.nk_topo.proofs.builder.listed.Given as goal

-- the switches listed so far and those that are left are all
abbrev pub invariant-loop-number : goal.invariant-loop-number
invariant-loop-number l = record {
  numbers : l.numbers.items ++ map (λ e. e.0) l.number-iterator ≡ map (λ e. e.0) l.fn.switches.entries;
  ports : map (λ p. p.items) l.lists.items ++ map (λ e. e.1.items) l.number-iterator ≡ map (λ e. e.1.items) l.fn.switches.entries;
}
