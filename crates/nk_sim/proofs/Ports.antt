-- Numbers that are too large for a port or a switch, and what begins at no port.
use Rattle.std.proofs.Common.{◌≡◌, ◌<◌, ◌≤◌, ℕ, suc, Bool, true, false, Some, None, inl, inr, List, [], ◌∷◌, refl, ap, subst, ◌∙◌, arith}
use Rattle.std.specs.Prelude.{◌==◌, ◌&&◌, ◌||◌, if◌then◌else◌, map, IsTrue}
use Rattle.std.specs.List.{list_any}
use Rattle.std.proofs.lemmas.Bool.Decides.{nat_tests}
use Rattle.nk_topo.specs.Topology.{SwitchPorts, Link, Topology, IsTopology, target_among, link_from, is_port}
use Rattle.nk_topo.proofs.Members.{In, contains_from_in}
use Rattle.nk_sim.specs.Emitted.{ArePlaceNumbers}

-- a number below isn't one that isn't
differs : (m n : ℕ) → m < 65536 → 65536 ≤ n → (m == n) ≡ false
differs m n lt le = grind (arith, nat_tests)

-- no port is as large
pub no_port : (ns : List ℕ) (n : ℕ) → 65536 ≤ n → ArePlaceNumbers ns → list_any (λ p. p == n) ns ≡ false
no_port [] n le h = refl
no_port (m ∷ ns) n le h =
    ap (λ b. b || list_any (λ p. p == n) ns) (differs m n (h 0) le) ∙ no_port ns n le (λ k. h (suc k))

-- no switch is as large
pub no_switch : (ss : List SwitchPorts) (sw pt : ℕ) → 65536 ≤ sw → ArePlaceNumbers (map (λ s. s.switch) ss)
    → list_any (λ s. (s.switch == sw) && list_any (λ p. p == pt) s.ports) ss ≡ false
no_switch [] sw pt le h = refl
no_switch (s ∷ ss) sw pt le h =
    ap (λ b. (b && list_any (λ p. p == pt) s.ports) || list_any (λ r. (r.switch == sw) && list_any (λ p. p == pt) r.ports) ss) (differs s.switch sw (h 0) le)
    ∙ no_switch ss sw pt le (λ k. h (suc k))

-- links that all begin elsewhere
begins_elsewhere : (ls : List Link) (sw pt : ℕ) → ((l : Link) → In ls l → ((l.from_switch == sw) && (l.from_port == pt)) ≡ false)
    → target_among ls sw pt ≡ None
begins_elsewhere [] sw pt h = refl
begins_elsewhere (l ∷ ls) sw pt h =
    ap (λ b. if b then Some (l.to_switch, l.to_port) else target_among ls sw pt) (h l (inl refl))
    ∙ begins_elsewhere ls sw pt (λ m i. h m (inr i))

-- no link begins where no port is declared
pub no_link : (t : Topology) (sw pt : ℕ) → IsTopology t → is_port t sw pt ≡ false → link_from t sw pt ≡ None
no_link t sw pt is off =
    begins_elsewhere t.links sw pt (λ l i. apart l.from_switch l.from_port (is.links.from_port l (contains_from_in t.links l i)))
  where
    apart : (a b : ℕ) → IsTrue (is_port t a b) → ((a == sw) && (b == pt)) ≡ false
    apart a b h = by (a == sw) (b == pt) refl refl
      where
        by : (c d : Bool) → (a == sw) ≡ c → (b == pt) ≡ d → (c && d) ≡ false
        by false d e f = refl
        by true false e f = refl
        by true true e f =
            let same : a ≡ sw = grind (arith, nat_tests) in
            let same' : b ≡ pt = grind (arith, nat_tests) in
            let none : IsTrue false = subst IsTrue ((λ i. is_port t (same i) (same' i)) ∙ off) h in cc
