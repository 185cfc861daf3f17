-- What an act does to a packet: assignments, each to one field (NetKAT: Anderson et al., POPL 2014, section 3).
use Rattle.std.specs.Prelude.{ℕ, ◌≤◌, ◌+◌, cond, nat_lt, eqb, List, [], ◌∷◌, slice_set}

-- the packet after these assignments, in order
abbrev pub applied : List (ℕ × ℕ) → List ℕ → List ℕ
applied [] pk = pk
applied (s ∷ ss) pk = applied ss (slice_set pk s.0 s.1)

-- the fields ascend, from low on
abbrev pub AscendsFrom : ℕ → List (ℕ × ℕ) → Type 0
AscendsFrom low [] = Unit {0}
AscendsFrom low (s ∷ ss) = (low ≤ s.0) × AscendsFrom (s.0 + 1) ss

-- s and ss under the assignments given, where rest puts ss under a list
abbrev pub lay : ℕ × ℕ → List (ℕ × ℕ) → (List (ℕ × ℕ) → List (ℕ × ℕ)) → List (ℕ × ℕ) → List (ℕ × ℕ)
lay s ss rest [] = s ∷ ss
lay s ss rest (t ∷ ts) =
    cond (nat_lt s.0 t.0) (s ∷ rest (t ∷ ts)) (cond (eqb s.0 t.0) (t ∷ rest ts) (t ∷ lay s ss rest ts))

-- the assignments of g, then those of h: at a field of both h's stand
abbrev pub act_then : List (ℕ × ℕ) → List (ℕ × ℕ) → List (ℕ × ℕ)
act_then [] h = h
act_then (s ∷ ss) h = lay s ss (act_then ss) h

-- the assignments but those of one field
abbrev pub left_without : ℕ → List (ℕ × ℕ) → List (ℕ × ℕ)
left_without f [] = []
left_without f (s ∷ ss) = cond (eqb s.0 f) (left_without f ss) (s ∷ left_without f ss)
