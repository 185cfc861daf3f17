-- What is said of a policy that is refused.
use Rattle.std.specs.Prelude.{ℕ, List, ◌++◌, codes, decimal}
use Rattle.nk_field.specs.Packet.{FieldTable}
use Rattle.nk_compile.specs.declared.refusal.Refusal.{Refusal}
use Rattle.nk_compile.specs.declared.refusal.Refusal.TheVariants as refusal
use Rattle.nk_reply.specs.Messages.{way_lines}
use Rattle.nk_static.specs.declared.faults.StaticFault.{StaticFault}
use Rattle.nk_static.specs.declared.faults.StaticFault.TheVariants as static_kind

-- what is said of what a policy's text shows
abbrev pub static_fault_line : StaticFault → List ℕ
static_fault_line static_kind.TagUsed = codes "refused C3: tag used\n"
static_fault_line static_kind.LooseDup = codes "refused C4: loose dup\n"
static_fault_line static_kind.SwitchSet = codes "refused C5: switch set\n"
static_fault_line static_kind.NoSuchLink = codes "refused C6: no such link\n"

-- what is said of a policy that is refused
abbrev pub refusal_line : FieldTable → Refusal → List ℕ
refusal_line fields refusal.NoPolicy = codes "refused C1: no policy\n"
refusal_line fields refusal.NoTag = codes "refused C2: no tag\n"
refusal_line fields (refusal.Static s) = static_fault_line s
refusal_line fields (refusal.OffEdge start history) =
    codes "refused C7: off edge\n" ++ way_lines fields start history
refusal_line fields (refusal.TooManyTags found) = codes "refused C8: too many tags, found " ++ decimal found ++ codes "\n"
