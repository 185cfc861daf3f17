-- The acts of a leaf, each with all its targets.
use Rattle.std.specs.Prelude.{◌==◌, ℕ, not, List, [], ◌∷◌, ◌++◌, if◌then◌else◌, filter, map}
use Rattle.nk_field.specs.contracts.act.ActPartialEq.TheImpl.{ghosts}
use Rattle.nk_store.specs.declared.node.Out.{Out}

-- an act with targets
pub record Branch : Type 0 where
  pub act : List (ℕ × ℕ)
  pub targets : List ℕ

-- the branch with one target more
abbrev pub with_target : Branch → ℕ → Branch
with_target b target = record { act = b.act; targets = b.targets ++ target ∷ [] }

-- the branch of an act without a target
abbrev pub begun : List (ℕ × ℕ) → Branch
begun g = record { act = g; targets = [] }

-- a branch and the outs after it: outs that stand next to each other with one act are one branch
abbrev pub runs : Branch → List Out → List Branch
runs b [] = b ∷ []
runs b (o ∷ os) = if ghosts.eq o.act b.act then runs (with_target b o.target) os else b ∷ runs (with_target (begun o.act) o.target) os

-- the branches of a leaf's outs, after one that assigns nothing
abbrev pub branches : List Out → List Branch
branches outs = runs (begun []) outs

-- the branches of a leaf's outs, none in front
abbrev pub branches_in : List Out → List Branch
branches_in [] = []
branches_in (o ∷ os) = runs (with_target (begun o.act) o.target) os

-- the act of the first out
abbrev pub first_act : List Out → List (ℕ × ℕ)
first_act [] = []
first_act (o ∷ os) = o.act

-- the targets of outs
abbrev pub targets_in : List Out → List ℕ
targets_in os = map (λ o. o.target) os

-- outs of one act as a branch
abbrev pub branch_of : List Out → Branch
branch_of os = record { act = first_act os; targets = targets_in os }

-- the targets of the outs with that act
abbrev pub targets_of : List (ℕ × ℕ) → List Out → List ℕ
targets_of g [] = []
targets_of g (o ∷ os) = if ghosts.eq o.act g then o.target ∷ targets_of g os else targets_of g os

-- the targets that are labels: 0 is the end
abbrev pub labels : List ℕ → List ℕ
labels ts = filter (λ t. not (t == 0)) ts

-- the labels that record what the act makes
abbrev pub labels_of : List (ℕ × ℕ) → List Out → List ℕ
labels_of g outs = labels (targets_of g outs)
