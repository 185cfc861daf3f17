-- The outs of leaves together, act by act.
use Rattle.std.specs.Prelude.{◌≡◌, ℕ, ◌+◌, ◌<◌, List, Contains}
use Rattle.nk_store.specs.declared.node.Out.{Out}
use Rattle.nk_steps.specs.Plain.{fields_in}
use Rattle.nk_determ.specs.States.{IsSetOfMet}

-- the acts of the outs that are no finals; they assign the same fields
pub record AreActsOf (outs : List Out) (acts : List (List (ℕ × ℕ))) : Type 0 where
  pub among : (g : List (ℕ × ℕ)) → Contains acts g → (l : ℕ) × (0 < l) × Contains outs (record { act = g; target = l })
  pub each : (o : Out) → Contains outs o → 0 < o.target → Contains acts o.act
  pub alike : (g h : List (ℕ × ℕ)) → Contains acts g → Contains acts h → fields_in g ≡ fields_in h

-- the target is 1 + the number of the set of all labels with which the outs have the act
abbrev pub IsTargetOf : List (List ℕ) → List Out → List (ℕ × ℕ) → ℕ → Type 0
IsTargetOf sets outs g t = (i : ℕ) × (t ≡ i + 1) × IsSetOfMet sets i (λ l. Contains outs (record { act = g; target = l }))

-- outs by these acts alone and by each of them, to the set of all labels with which the outs of leaves have the act
pub record AreOutsByAct (sets : List (List ℕ)) (all : List Out) (acts : List (List (ℕ × ℕ))) (outs : List Out) : Type 0 where
  pub among : (o : Out) → Contains outs o → Contains acts o.act × IsTargetOf sets all o.act o.target
  pub each : (g : List (ℕ × ℕ)) → Contains acts g → (t : ℕ) × Contains outs (record { act = g; target = t })
