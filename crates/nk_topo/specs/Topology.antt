-- A topology as a plain value: switches with their ports, and links from port to port (NetKAT: Anderson et al., POPL
-- 2014, section 3, where the topology is a policy over switches and ports).
use Rattle.std.specs.Prelude.{◌≡◌, ℕ, ◌==◌, ◌<◌, ◌&&◌, ◌||◌, Bool, false, IsTrue, Option, Some, None, is_none, if◌then◌else◌, nat_lt, List, [], ◌∷◌, slice_index, map, All, AllPairs, Contains}
use Rattle.std.specs.List.{list_any, prefix_len, insert}

pub record SwitchPorts : Type 0 where
  pub switch : ℕ
  pub ports : List ℕ

pub record Link : Type 0 where
  pub from_switch : ℕ
  pub from_port : ℕ
  pub to_switch : ℕ
  pub to_port : ℕ

pub record Topology : Type 0 where
  pub switches : List SwitchPorts
  pub links : List Link

-- no switch and no link
abbrev pub no_topology : Topology
no_topology = record { switches = []; links = [] }

-- the numbers of the switches
abbrev pub numbers_of : Topology → List ℕ
numbers_of t = map (λ s. s.switch) t.switches

-- whether the switch is declared
abbrev pub is_switch : Topology → ℕ → Bool
is_switch t sw = list_any (λ s. s.switch == sw) t.switches

-- the ports of a switch, none for one that isn't declared
abbrev pub ports_among : List SwitchPorts → ℕ → List ℕ
ports_among [] sw = []
ports_among (s ∷ ss) sw = if s.switch == sw then s.ports else ports_among ss sw

abbrev pub ports_of : Topology → ℕ → List ℕ
ports_of t sw = ports_among t.switches sw

-- whether the port is declared
abbrev pub is_port : Topology → ℕ → ℕ → Bool
is_port t sw pt = list_any (λ s. (s.switch == sw) && list_any (λ p. p == pt) s.ports) t.switches

-- where the link from a port leads
abbrev pub target_among : List Link → ℕ → ℕ → Option (ℕ × ℕ)
target_among [] sw pt = None
target_among (l ∷ ls) sw pt =
    if (l.from_switch == sw) && (l.from_port == pt) then Some (l.to_switch, l.to_port) else target_among ls sw pt

abbrev pub link_from : Topology → ℕ → ℕ → Option (ℕ × ℕ)
link_from t sw pt = target_among t.links sw pt

-- whether a link leads to the port
abbrev pub is_target : Topology → ℕ → ℕ → Bool
is_target t sw pt = list_any (λ l. (l.to_switch == sw) && (l.to_port == pt)) t.links

-- whether the port is declared and no link begins there
abbrev pub is_edge : Topology → ℕ → ℕ → Bool
is_edge t sw pt = is_port t sw pt && is_none (link_from t sw pt)

-- the packet's switch and port are a declared port
abbrev pub IsLocated : Topology → List ℕ → Type 0
IsLocated t pk = IsTrue (is_port t (slice_index pk 0) (slice_index pk 1))

-- whether the link begins at a lower switch, or at a lower port of the same one
abbrev pub starts_below : ℕ → ℕ → Link → Bool
starts_below sw pt l = nat_lt l.from_switch sw || ((l.from_switch == sw) && nat_lt l.from_port pt)

-- Each link is the one from its source and the one to its target, and both ends are declared ports.
pub record AreLinks (t : Topology) : Type 0 where
  pub one : (l : Link) → Contains t.links l → link_from t l.from_switch l.from_port ≡ Some (l.to_switch, l.to_port)
  pub declared : (l : Link) → Contains t.links l → IsTrue (is_port t l.to_switch l.to_port)
  pub from_port : (l : Link) → Contains t.links l → IsTrue (is_port t l.from_switch l.from_port)
  pub one_to : (k l : Link) → Contains t.links k → Contains t.links l → k.to_switch ≡ l.to_switch → k.to_port ≡ l.to_port → k ≡ l

-- Switches ascend by number, the ports of each ascend, links ascend by source, and the links are links of it.
pub record IsTopology (t : Topology) : Type 0 where
  pub switches : AllPairs (λ r s. r.switch < s.switch) t.switches
  pub ports : All (λ s. AllPairs (λ p q. p < q) s.ports) t.switches
  pub sources : AllPairs (λ k l. IsTrue (starts_below l.from_switch l.from_port k)) t.links
  pub links : AreLinks t

-- x put after the elements that come before it
abbrev pub placed : {X : Type 0} → (X → Bool) → X → List X → List X
placed before x xs = insert xs (prefix_len before xs) x

-- the numbers in ascending order
abbrev pub ascending : List ℕ → List ℕ
ascending [] = []
ascending (n ∷ ns) = placed (λ m. nat_lt m n) n (ascending ns)

-- whether a number stands twice
abbrev pub has_double : List ℕ → Bool
has_double [] = false
has_double (n ∷ ns) = list_any (λ m. m == n) ns || has_double ns

-- the topology with one more switch, whose ports ascend
abbrev pub with_sorted : Topology → ℕ → List ℕ → Topology
with_sorted t n ports = record t {
  switches = placed (λ s. nat_lt s.switch n) (record { switch = n; ports = ports }) t.switches;
}

-- the topology with one more switch
abbrev pub with_switch : Topology → ℕ → List ℕ → Topology
with_switch t n ports = with_sorted t n (ascending ports)

-- and with one more link
abbrev pub with_link : Topology → Link → Topology
with_link t l = record t { links = placed (starts_below l.from_switch l.from_port) l t.links }
