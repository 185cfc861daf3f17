use Rattle.std.proofs.Common.{◌≡◌, ℕ, ◌<◌, ◌⊎◌, ◌↔◌, Contains}
use Rattle.nk_backward.proofs.predecessors.push_places.Given as goal

abbrev pub invariant-loop-j : goal.invariant-loop-j
invariant-loop-j l = (p : ℕ × ℕ) → Contains l.all p ↔ (Contains l.fn.all p ⊎ ((p.0 ≡ l.k) × (p.1 < l.j)))
