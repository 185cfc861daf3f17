-- Values and masks of match fields as ovs-fields(7), "Field Formats", writes them.
use Rattle.std.specs.Prelude.{ℕ, ◌+◌, ◌-◌, ◌*◌, ◌/◌, ◌%◌, ◌^◌, nat_lt, nat_le, List, [], ◌∷◌, ◌++◌, codes, decimal, if◌then◌else◌}
use Rattle.nk_openflow.specs.declared.match_field.MatchField.{MatchField}
use Rattle.nk_openflow.specs.declared.match_field.MatchField.TheVariants.{NwTos, VlanVid}
use Rattle.nk_openflow.specs.declared.match_field.Notation.{Notation}
use Rattle.nk_openflow.specs.declared.match_field.Notation.TheVariants.{Dotted, Colons, Number}
use Rattle.nk_openflow.specs.MatchFields.{notation_of, width_of}

-- the code of a hexadecimal digit
abbrev pub hexadecimal_digit : ℕ → ℕ
hexadecimal_digit n = if nat_lt n 10 then 48 + n else 97 + (n - 10)

-- the last two, four, eight and sixteen hexadecimal digits of a number
abbrev pub two_digits : ℕ → List ℕ
two_digits n = hexadecimal_digit (n / 16 % 16) ∷ hexadecimal_digit (n % 16) ∷ []

abbrev pub four_digits : ℕ → List ℕ
four_digits n = two_digits (n / 256) ++ two_digits n

abbrev pub eight_digits : ℕ → List ℕ
eight_digits n = four_digits (n / 65536) ++ four_digits n

abbrev pub sixteen_digits : ℕ → List ℕ
sixteen_digits n = eight_digits (n / 4294967296) ++ eight_digits n

-- the digits of so many bits
abbrev pub hexadecimal : ℕ → ℕ → List ℕ
hexadecimal width n =
    if nat_le width 16 then four_digits n else if nat_le width 32 then eight_digits n else sixteen_digits n

-- an IPv4 address: its four bytes with dots between them
abbrev pub dotted : ℕ → List ℕ
dotted n =
    decimal (n / 16777216 % 256) ++ codes "." ++ decimal (n / 65536 % 256) ++ codes "." ++ decimal (n / 256 % 256)
    ++ codes "." ++ decimal (n % 256)

-- an Ethernet address: its six bytes with colons between them
abbrev pub three_bytes : ℕ → List ℕ
three_bytes n = two_digits (n / 65536) ++ codes ":" ++ two_digits (n / 256) ++ codes ":" ++ two_digits n

abbrev pub colons : ℕ → List ℕ
colons n = three_bytes (n / 16777216) ++ codes ":" ++ three_bytes n

-- The number that stands for a value: of nw_tos the value is the six highest of eight bits, and of vlan_vid the bit 4096
-- says that there is a VLAN header.
abbrev pub header_number : MatchField → ℕ → ℕ
header_number NwTos n = 4 * (n % 64)
header_number VlanVid n = 4096 + n % 4096
header_number f n = n

-- a value in each notation
abbrev pub written_in : Notation → MatchField → ℕ → List ℕ
written_in Dotted f n = dotted n
written_in Colons f n = colons n
written_in Number f n = decimal (header_number f n)

abbrev pub value_text : MatchField → ℕ → List ℕ
value_text f n = written_in (notation_of f) f n

-- the number of so many bits of which the last ones are 0, and the others 1
abbrev pub mask_value : (width free : ℕ) → ℕ
mask_value width free = 2 ^ width - 2 ^ free

-- a mask in each notation
abbrev pub mask_in : Notation → (width mask : ℕ) → List ℕ
mask_in Dotted width mask = dotted mask
mask_in Colons width mask = colons mask
mask_in Number width mask = codes "0x" ++ hexadecimal width mask

abbrev pub mask_text : MatchField → ℕ → List ℕ
mask_text f free = mask_in (notation_of f) (width_of f) (mask_value (width_of f) free)
