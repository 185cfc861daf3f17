-- Leaves by whose acts alone it can be told what the packets are sent to: no splitting is needed.
use Rattle.std.specs.Prelude.{◌≡◌, ℕ, ◌<◌, ◌⊎◌, List, map, Contains}
use Rattle.nk_store.specs.declared.node.Out.{Out}

-- the fields that an act assigns
abbrev pub fields_in : List (ℕ × ℕ) → List ℕ
fields_in g = map (λ s. s.0) g

-- two outs of the leaf that are no finals have this in common
abbrev pub HaveInCommon : (Out → Out → Type 0) → List Out → Type 0
HaveInCommon R outs = (o p : Out) → Contains outs o → Contains outs p → 0 < o.target → 0 < p.target → R o p

-- the outs that are no finals have one label
abbrev pub HaveOneLabel : List Out → Type 0
HaveOneLabel outs = HaveInCommon (λ o p. o.target ≡ p.target) outs

-- their acts assign the same fields
abbrev pub AssignTheSame : List Out → Type 0
AssignTheSame outs = HaveInCommon (λ o p. fields_in o.act ≡ fields_in p.act) outs

-- one of both: then two outs that make the same packet have one act or one label
abbrev pub IsPlain : List Out → Type 0
IsPlain outs = HaveOneLabel outs ⊎ AssignTheSame outs
