use Rattle.std.proofs.Common.{◌≡◌, ◌-◌, ◌++◌, vec_len}
use Rattle.nk_gen.specs.Draws.{draws}
use Rattle.nk_gen.proofs.drawn.draws.Given as goal

-- the draws so far, then those that are left after the last one, are all
abbrev pub invariant-loop-drawn : goal.invariant-loop-drawn
invariant-loop-drawn l = record {
  left : l.all.items ++ draws l.draw (l.count - l._drawn) ≡ draws l.fn.seed l.count;
  number : vec_len l.all ≡ l._drawn;
}
