-- What every packet is that lines are for: the keywords of ovs-fields(7), "Evolution of OpenFlow Fields" and the shorthands of
-- ovs-ofctl(8), which say the Ethernet type and, some of them, the protocol over it.
use Rattle.std.specs.Prelude.{ℕ, Bool, true, false, Option, Some, None, List, [], codes, if◌then◌else◌}
use Rattle.std.specs.Str.{bytes_eq}
use Rattle.nk_openflow.specs.declared.base.Base.{Base}
use Rattle.nk_openflow.specs.declared.base.Base.TheVariants.{Any, Ip, Tcp, Udp, Icmp, Arp, Ipv6, Tcp6, Udp6, Mpls}

-- the keyword
abbrev pub keyword_of : Base → List ℕ
keyword_of Any = []
keyword_of Ip = codes "ip"
keyword_of Tcp = codes "tcp"
keyword_of Udp = codes "udp"
keyword_of Icmp = codes "icmp"
keyword_of Arp = codes "arp"
keyword_of Ipv6 = codes "ipv6"
keyword_of Tcp6 = codes "tcp6"
keyword_of Udp6 = codes "udp6"
keyword_of Mpls = codes "mpls"

-- whether the keyword asks for IPv4, IPv6, TCP, UDP, ARP or MPLS
abbrev pub is_ipv4 : Base → Bool
is_ipv4 Ip = true
is_ipv4 Tcp = true
is_ipv4 Udp = true
is_ipv4 Icmp = true
is_ipv4 b = false

abbrev pub is_ipv6 : Base → Bool
is_ipv6 Ipv6 = true
is_ipv6 Tcp6 = true
is_ipv6 Udp6 = true
is_ipv6 b = false

abbrev pub is_tcp : Base → Bool
is_tcp Tcp = true
is_tcp Tcp6 = true
is_tcp b = false

abbrev pub is_udp : Base → Bool
is_udp Udp = true
is_udp Udp6 = true
is_udp b = false

abbrev pub is_arp : Base → Bool
is_arp Arp = true
is_arp b = false

abbrev pub is_mpls : Base → Bool
is_mpls Mpls = true
is_mpls b = false

abbrev pub is_any : Base → Bool
is_any Any = true
is_any b = false

-- the base that a word names
abbrev pub late_base : List ℕ → Option Base
late_base w =
    if bytes_eq w (keyword_of Ipv6) then Some Ipv6
    else if bytes_eq w (keyword_of Tcp6) then Some Tcp6
    else if bytes_eq w (keyword_of Udp6) then Some Udp6
    else if bytes_eq w (keyword_of Mpls) then Some Mpls
    else None

abbrev pub base_named : List ℕ → Option Base
base_named w =
    if bytes_eq w (keyword_of Ip) then Some Ip
    else if bytes_eq w (keyword_of Tcp) then Some Tcp
    else if bytes_eq w (keyword_of Udp) then Some Udp
    else if bytes_eq w (keyword_of Icmp) then Some Icmp
    else if bytes_eq w (keyword_of Arp) then Some Arp
    else late_base w
