-- The match fields of Open vSwitch that a field of tables can be mapped to: name, width, mask, access and prerequisites as
-- ovs-fields(7) has them.
use Rattle.std.specs.Prelude.{ℕ, ◌+◌, ◌*◌, ◌||◌, ◌&&◌, nat_le, Bool, true, false, Option, Some, None, List, codes, decimal, if◌then◌else◌, option_map}
use Rattle.std.specs.Option.{option_or}
use Rattle.std.specs.Str.{bytes_eq}
use Rattle.nk_field.specs.Texts.{number_upto, rest_after_prefix}
use Rattle.nk_openflow.specs.declared.base.Base.{Base}
use Rattle.nk_openflow.specs.Bases.{is_any, is_arp, is_ipv4, is_ipv6, is_mpls, is_tcp, is_udp}
use Rattle.nk_openflow.specs.declared.match_field.MatchField.{MatchField}
use Rattle.nk_openflow.specs.declared.match_field.MatchField.TheVariants.{NwSrc, NwDst, ArpSpa, ArpTpa, TpSrc, TpDst, DlSrc, DlDst, DlType, NwTos}
use Rattle.nk_openflow.specs.declared.match_field.MatchField.TheVariants.{IpDscp, Metadata, TunId, MplsLabel, VlanVid, Register, WideRegister}
use Rattle.nk_openflow.specs.declared.match_field.Notation.{Notation}
use Rattle.nk_openflow.specs.declared.match_field.Notation.TheVariants.{Dotted, Colons, Number}

-- the name; of a register without its number
abbrev pub keyword_of : MatchField → List ℕ
keyword_of NwSrc = codes "nw_src"
keyword_of NwDst = codes "nw_dst"
keyword_of ArpSpa = codes "arp_spa"
keyword_of ArpTpa = codes "arp_tpa"
keyword_of TpSrc = codes "tp_src"
keyword_of TpDst = codes "tp_dst"
keyword_of DlSrc = codes "dl_src"
keyword_of DlDst = codes "dl_dst"
keyword_of DlType = codes "dl_type"
keyword_of NwTos = codes "nw_tos"
keyword_of IpDscp = codes "ip_dscp"
keyword_of Metadata = codes "metadata"
keyword_of TunId = codes "tun_id"
keyword_of MplsLabel = codes "mpls_label"
keyword_of VlanVid = codes "vlan_vid"
keyword_of (Register n) = codes "reg"
keyword_of (WideRegister n) = codes "xreg"

-- "Width", in bits; of nw_tos its six highest bits, and of vlan_vid 12+1 bits
abbrev pub width_of : MatchField → ℕ
width_of NwSrc = 32
width_of NwDst = 32
width_of ArpSpa = 32
width_of ArpTpa = 32
width_of TpSrc = 16
width_of TpDst = 16
width_of DlSrc = 48
width_of DlDst = 48
width_of DlType = 16
width_of NwTos = 6
width_of IpDscp = 6
width_of Metadata = 64
width_of TunId = 64
width_of MplsLabel = 20
width_of VlanVid = 13
width_of (Register n) = 32
width_of (WideRegister n) = 64

-- the largest value: the VLAN 4095 is reserved (IEEE 802.1Q)
abbrev pub largest_of : MatchField → ℕ
largest_of NwSrc = 4294967295
largest_of NwDst = 4294967295
largest_of ArpSpa = 4294967295
largest_of ArpTpa = 4294967295
largest_of TpSrc = 65535
largest_of TpDst = 65535
largest_of DlSrc = 281474976710655
largest_of DlDst = 281474976710655
largest_of DlType = 65535
largest_of NwTos = 63
largest_of IpDscp = 63
largest_of Metadata = 18446744073709551615
largest_of TunId = 18446744073709551615
largest_of MplsLabel = 1048575
largest_of VlanVid = 4094
largest_of (Register n) = 4294967295
largest_of (WideRegister n) = 18446744073709551615

-- "Masking": arbitrary bitwise masks, or not maskable
abbrev pub is_maskable : MatchField → Bool
is_maskable DlType = false
is_maskable NwTos = false
is_maskable IpDscp = false
is_maskable MplsLabel = false
is_maskable f = true

-- "Access": read/write, or read-only
abbrev pub is_writable : MatchField → Bool
is_writable DlType = false
is_writable f = true

-- "Format": IPv4, Ethernet, or decimal and hexadecimal
abbrev pub notation_of : MatchField → Notation
notation_of NwSrc = Dotted
notation_of NwDst = Dotted
notation_of ArpSpa = Dotted
notation_of ArpTpa = Dotted
notation_of DlSrc = Colons
notation_of DlDst = Colons
notation_of f = Number

-- "Prerequisites": whether the packets of a base have them. Each base says the Ethernet type, so that can be matched only
-- where nothing is known.
abbrev pub has_prerequisites : Base → MatchField → Bool
has_prerequisites b NwSrc = is_ipv4 b
has_prerequisites b NwDst = is_ipv4 b
has_prerequisites b ArpSpa = is_arp b
has_prerequisites b ArpTpa = is_arp b
has_prerequisites b TpSrc = is_tcp b || is_udp b
has_prerequisites b TpDst = is_tcp b || is_udp b
has_prerequisites b NwTos = is_ipv4 b || is_ipv6 b
has_prerequisites b IpDscp = is_ipv4 b || is_ipv6 b
has_prerequisites b MplsLabel = is_mpls b
has_prerequisites b DlType = is_any b
has_prerequisites b f = true

-- what is no register, by its place among the match fields; nw_tos and ip_dscp are the same bits
abbrev pub unit_of : MatchField → ℕ × ℕ
unit_of NwSrc = (16, 16)
unit_of NwDst = (17, 17)
unit_of ArpSpa = (18, 18)
unit_of ArpTpa = (19, 19)
unit_of TpSrc = (20, 20)
unit_of TpDst = (21, 21)
unit_of DlSrc = (22, 22)
unit_of DlDst = (23, 23)
unit_of DlType = (24, 24)
unit_of NwTos = (25, 25)
unit_of IpDscp = (25, 25)
unit_of Metadata = (26, 26)
unit_of TunId = (27, 27)
unit_of MplsLabel = (28, 28)
unit_of f = (29, 29)

-- the first and the last place that a match field takes up: xreg0 is reg0 and reg1, and so on
abbrev pub units_of : MatchField → ℕ × ℕ
units_of (Register n) = (n, n)
units_of (WideRegister n) = (2 * n, 2 * n + 1)
units_of f = unit_of f

-- whether two match fields have bits in common
abbrev pub overlap : MatchField → MatchField → Bool
overlap f g = nat_le (units_of f).0 (units_of g).1 && nat_le (units_of g).0 (units_of f).1

-- ---- the match field of a word

-- the number at most this one that these digits write without zeros in front
abbrev pub canonical_in : Option ℕ → List ℕ → Option ℕ
canonical_in None ds = None
canonical_in (Some n) ds = if bytes_eq ds (decimal n) then Some n else None

abbrev pub canonical_number : ℕ → List ℕ → Option ℕ
canonical_number largest ds = canonical_in (number_upto largest ds) ds

abbrev pub canonical_if_any : ℕ → Option (List ℕ) → Option ℕ
canonical_if_any largest None = None
canonical_if_any largest (Some ds) = canonical_number largest ds

-- the number after a front
abbrev pub register_number : List ℕ → ℕ → List ℕ → Option ℕ
register_number front largest w = canonical_if_any largest (rest_after_prefix front w)

-- reg0 to reg15, xreg0 to xreg7
abbrev pub register : List ℕ → Option MatchField
register w =
    option_or (option_map (λ n. Register n) (register_number (codes "reg") 15 w))
    (option_map (λ n. WideRegister n) (register_number (codes "xreg") 7 w))

-- the match fields of network and transport headers
abbrev pub network_field : List ℕ → Option MatchField
network_field w =
    if bytes_eq w (keyword_of NwSrc) then Some NwSrc
    else if bytes_eq w (keyword_of NwDst) then Some NwDst
    else if bytes_eq w (keyword_of ArpSpa) then Some ArpSpa
    else if bytes_eq w (keyword_of ArpTpa) then Some ArpTpa
    else if bytes_eq w (keyword_of TpSrc) then Some TpSrc
    else if bytes_eq w (keyword_of TpDst) then Some TpDst
    else if bytes_eq w (keyword_of NwTos) then Some NwTos
    else if bytes_eq w (keyword_of IpDscp) then Some IpDscp
    else None

-- those of a link's header, and of what a switch keeps besides the packet
abbrev pub link_field : List ℕ → Option MatchField
link_field w =
    if bytes_eq w (keyword_of DlSrc) then Some DlSrc
    else if bytes_eq w (keyword_of DlDst) then Some DlDst
    else if bytes_eq w (keyword_of DlType) then Some DlType
    else if bytes_eq w (keyword_of VlanVid) then Some VlanVid
    else if bytes_eq w (keyword_of MplsLabel) then Some MplsLabel
    else if bytes_eq w (keyword_of Metadata) then Some Metadata
    else if bytes_eq w (keyword_of TunId) then Some TunId
    else None

-- the match field that a word names
abbrev pub match_field_named : List ℕ → Option MatchField
match_field_named w = option_or (network_field w) (option_or (link_field w) (register w))
