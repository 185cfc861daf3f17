-- The policies of two names that the bytes of a text declare are one.
use Rattle.std.proofs.Common.{◌≡◌, ℕ, List, sym, subst, ◌∙◌}
use Rattle.nk_field.specs.Packet.{FieldTable}
use Rattle.nk_policy.specs.Policy.{Policy}
use Rattle.nk_names.specs.ProgramOf.{DeclaredProgram, program_by}
use Rattle.nk_names.proofs.Alike.{fields_alike, one_policy}
use Rattle.nk_input.specs.ProgramText.{Declares}
use Rattle.nk_input.proofs.OneText.{declares_once}
use Rattle.nk_change_impact.specs.Impact.{AreBothNamed}

-- programs of both names that the bytes declare say the same
pub same_program : (bytes left right : List ℕ) (s t : DeclaredProgram) → Declares bytes s → Declares bytes t
    → (m : AreBothNamed s left right) (n : AreBothNamed t left right) → program_by m.program ≡ program_by n.program
same_program bytes left right s t d k m n = m.says ∙ declares_once bytes s t d k ∙ sym n.says

-- so what holds of the policies of one holds of those of the other
pub policies_alike : (bytes left right : List ℕ) (s t : DeclaredProgram) → Declares bytes s → Declares bytes t
    → (m : AreBothNamed s left right) (n : AreBothNamed t left right) (P : FieldTable → Policy → Policy → Type 0)
    → P m.program.fields m.left_policy m.right_policy → P n.program.fields n.left_policy n.right_policy
policies_alike bytes left right s t d k m n P h =
    let same = same_program bytes left right s t d k m n in
    subst (λ z. P n.program.fields n.left_policy z)
    (one_policy m.program n.program same right m.right_policy n.right_policy m.right_is n.right_is)
    (subst (λ z. P n.program.fields z m.right_policy)
    (one_policy m.program n.program same left m.left_policy n.left_policy m.left_is n.left_is)
    (subst (λ f. P f m.left_policy m.right_policy) (fields_alike m.program n.program same) h))
