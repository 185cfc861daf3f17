-- Copies without the tag.
use Rattle.nk_field.specs.Packet.{erased}
use Rattle.nk_table.specs.declared.Tables.{Tables}
use Rattle.nk_table.specs.Hops.{Copy}

-- the copy with its last packet's tag set to 0
abbrev pub erased_copy : Tables → Copy → Copy
erased_copy t c = record { records = c.records; packet = erased t.fields c.packet }
