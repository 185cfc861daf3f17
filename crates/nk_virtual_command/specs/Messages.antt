-- What is said of a name that has no physical policy.
use Rattle.std.specs.Prelude.{ℕ, List, ◌++◌, codes, decimal}
use Rattle.nk_field.specs.Packet.{FieldTable}
use Rattle.nk_reply.specs.Messages.{start_line, way_lines}
use Rattle.nk_compile_commands.specs.Messages.{static_fault_line}
use Rattle.nk_virtual.specs.declared.refusal.VirtualRefusal.{VirtualRefusal}
use Rattle.nk_virtual.specs.declared.refusal.VirtualRefusal.TheVariants as unphysical

-- the port where a virtual link begins
abbrev pub link_message_text : (switch port : ℕ) → List ℕ
link_message_text switch port = codes "link " ++ decimal switch ++ codes ":" ++ decimal port ++ codes "\n"

-- what is said of a name that has no physical policy
abbrev pub unphysical_line : FieldTable → VirtualRefusal → List ℕ
unphysical_line fields unphysical.NoPolicy = codes "refused C1: no policy\n"
unphysical_line fields unphysical.NoTag = codes "refused C2: no tag\n"
unphysical_line fields (unphysical.Static s) = static_fault_line s
unphysical_line fields (unphysical.OffTarget switch port start history) =
    codes "refused C11: off target, " ++ link_message_text switch port ++ way_lines fields start history
unphysical_line fields (unphysical.NotCarried switch port start) =
    codes "refused C12: not carried, " ++ link_message_text switch port ++ start_line fields start
unphysical_line fields unphysical.TooLarge = codes "refused C13: expanded too large\n"
