-- Copies of a diagram, one after another: the star of NetKAT (Anderson et al., POPL 2014) on leaves.
use Rattle.std.specs.Prelude.{◌≡◌, ℕ, zero, suc, List, [], ◌∷◌, length, Contains}
use Rattle.nk_field.specs.Act.{applied, act_then}
use Rattle.nk_store.specs.declared.node.Out.{Out}
use Rattle.nk_store.specs.StoreState.{StoreState, IsWhole, HasLeaves}
use Rattle.nk_apply.specs.Leaves.{merged}
use Rattle.nk_apply.specs.Unions.{AreIds, unions}
use Rattle.nk_apply.specs.Seqs.{no_out, seq_leaf}

-- n copies of the diagram, one after another, can make the act g at the packet; the last copy stands apart
abbrev pub Steps : (List ℕ → List Out) → ℕ → List ℕ → List (ℕ × ℕ) → Type 0
Steps D zero pk g = g ≡ []
Steps D (suc n) pk g = (h : List (ℕ × ℕ)) × (k : List (ℕ × ℕ)) × Steps D n pk h × Contains (D (applied h pk)) (record { act = k; target = 0 }) × (g ≡ act_then h k)

-- what at most n copies make, as one ascending list
abbrev pub rounds : (List ℕ → List Out) → ℕ → List ℕ → List Out
rounds D zero pk = no_out ∷ []
rounds D (suc n) pk = merged (rounds D n pk) (seq_leaf (rounds D n pk) D pk)

-- r has what at most so many copies make, and one more copy makes nothing else
pub record IsLastRound (st : StoreState) (r : ℕ) (D : List ℕ → List Out) : Type 0 where
  pub count : ℕ
  pub leaves : HasLeaves st r (λ pk. rounds D count pk)
  pub still : (pk : List ℕ) → IsWhole pk → rounds D (suc count) pk ≡ rounds D count pk

-- these diagrams have all together the leaf F at each packet
pub record AreTogether (st : StoreState) (ds : List ℕ) (F : List ℕ → List Out) : Type 0 where
  pub ids : AreIds st ds
  pub leaf : (pk : List ℕ) → IsWhole pk → unions st ds 0 (length ds) pk ≡ F pk
