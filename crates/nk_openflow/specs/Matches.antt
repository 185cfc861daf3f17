-- The match of a flow, as ovs-ofctl(8), "Flow Syntax", and ovs-fields(7) write it.
use Rattle.std.specs.Prelude.{ℕ, ◌-◌, ◌==◌, ◌&&◌, Option, Some, None, List, [], ◌++◌, slice_index, codes, decimal, if◌then◌else◌}
use Rattle.nk_field.specs.Packet.{FieldTable}
use Rattle.nk_prefix.specs.Prefix.{digits_of}
use Rattle.nk_openflow.specs.declared.base.Base.{Base}
use Rattle.nk_openflow.specs.declared.mapping.Mapping.{Mapping}
use Rattle.nk_openflow.specs.declared.match_field.MatchField.{MatchField}
use Rattle.nk_openflow.specs.declared.match_field.MatchField.TheVariants.{TpSrc, TpDst, Register, WideRegister}
use Rattle.nk_openflow.specs.Bases.{is_udp}
use Rattle.nk_openflow.specs.MatchFields.{keyword_of}
use Rattle.nk_openflow.specs.Mapping.{is_vlan, mapped_at}
use Rattle.nk_openflow.specs.Values.{mask_text, value_text}

-- how many of the last digits of a field a match leaves free: none where the value is exact
abbrev pub free_digits : FieldTable → ℕ × ℕ × ℕ → ℕ
free_digits fs m = digits_of (slice_index fs.maxima m.0) - m.2

-- tcp or udp, and one of their ports
abbrev pub transport_text : Base → List ℕ → List ℕ
transport_text base end = (if is_udp base then codes "udp" else codes "tcp") ++ end

-- the name of a match field: of a port that of the protocol's, of a register with its number
abbrev pub name_text : Base → MatchField → List ℕ
name_text base TpSrc = transport_text base (codes "_src")
name_text base TpDst = transport_text base (codes "_dst")
name_text base (Register n) = codes "reg" ++ decimal n
name_text base (WideRegister n) = codes "xreg" ++ decimal n
name_text base f = keyword_of f

-- the mask after a value, where some digits are free
abbrev pub mask_part : MatchField → ℕ → List ℕ
mask_part f free = if free == 0 then [] else codes "/" ++ mask_text f free

-- A match with a comma after it. Tag 0 is no VLAN header: all of the VLAN's bits but its priority are 0.
abbrev pub mapped_text : Base → MatchField → (value free : ℕ) → List ℕ
mapped_text base f value free =
    if (value == 0) && (free == 0) && is_vlan f then codes "vlan_tci=0/0x1fff,"
    else name_text base f ++ codes "=" ++ value_text f value ++ mask_part f free ++ codes ","

-- the match of a field, if it is mapped
abbrev pub mapped_if_any : FieldTable → Base → Option MatchField → ℕ × ℕ × ℕ → List ℕ
mapped_if_any fs base None m = []
mapped_if_any fs base (Some f) m = mapped_text base f m.1 (free_digits fs m)

abbrev pub flow_match_text : FieldTable → Mapping → ℕ × ℕ × ℕ → List ℕ
flow_match_text fs mapping m = mapped_if_any fs mapping.base (mapped_at mapping.fields m.0) m
