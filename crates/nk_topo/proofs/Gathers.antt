-- Maps of switches and links: what they find, and one more entry in its place.
use Rattle.std.proofs.Common.{◌≡◌, ℕ, ◌<◌, ◌&&◌, ◌||◌, inl, inr, ⊎_elim, Ordering, Less, Equal, Greater, Bool, true, false, cond, Option, Some, Result, Ok, List, [], ◌∷◌, length, refl, ap, sym, subst, ◌∙◌, arith}
use Rattle.std.specs.Prelude.{◌==◌, nat_lt, map, AllPairs, IsNone, OnOk, is_some, if◌then◌else◌}
use Rattle.std.specs.Option.{unwrap_or, option_map}
use Rattle.std.specs.List.{list_any, prefix_len}
use Rattle.std.specs.Ordering.{nat_cmp, ordering_then, is_eq, match_ordering}
use Rattle.std.specs.BTreeMap.{insert_entry, is_at}
use Rattle.std.specs.Map.{lookup}
use Rattle.std.proofs.lemmas.List.{length-map}
use Rattle.std.proofs.lemmas.Bool.Decides.{nat_tests}
use Rattle.nk_topo.specs.Topology.{SwitchPorts, Topology, IsTopology, placed, ports_among, ports_of, is_port, is_switch, is_target, link_from, target_among, starts_below, with_sorted, with_link}
use Rattle.nk_topo.specs.Inside.{switches_with, topology_with, IsHeld, AreTargets, link_of}
use Rattle.nk_topo.specs.Gathered.{switch_of, four_of, topology_from, IsGathered}
use Rattle.nk_topo.proofs.Members.{In, placed_after, placed_front}
use Rattle.nk_topo.proofs.Orders.{fails_for}
use Rattle.nk_topo.proofs.Insides.{ArePorts, are_ports, any_image, targets_with}
use Rattle.nk_topo.proofs.Kept.{kept_with_switch, kept_with_link, none_from}

-- how a port stands to another one
abbrev pub port_cmp : ℕ × ℕ → ℕ × ℕ → Ordering
port_cmp p q = ordering_then (nat_cmp p.0 q.0) (nat_cmp p.1 q.1)

-- the switch of an entry
abbrev pub switch_at : {V : Type 0} → (V → List ℕ) → ℕ × V → SwitchPorts
switch_at items e = switch_of e.0 (items e.1)

-- a number is found by itself
at_number : (n k : ℕ) → is_at (nat_cmp n) k ≡ (k == n)
at_number n k = by (nat_lt n k) refl (n == k) refl (k == n) refl
  where
    by : (b : Bool) → nat_lt n k ≡ b → (d : Bool) → (n == k) ≡ d → (g : Bool) → (k == n) ≡ g →
        is_eq (cond b Less (cond d Equal Greater)) ≡ g
    by true e d h true f = grind (arith, nat_tests, e, f)
    by true e d h false f = refl
    by false e true h true f = refl
    by false e true h false f = grind (arith, nat_tests, h, f)
    by false e false h true f = grind (arith, nat_tests, h, f)
    by false e false h false f = refl

-- a port by itself
at_port : (sw pt : ℕ) (k : ℕ × ℕ) → is_at (port_cmp (sw, pt)) k ≡ ((k.0 == sw) && (k.1 == pt))
at_port sw pt k =
    both (nat_cmp sw k.0) (nat_cmp pt k.1)
    ∙ ap (λ b. b && is_at (nat_cmp pt) k.1) (at_number sw k.0)
    ∙ ap (λ b. (k.0 == sw) && b) (at_number pt k.1)
  where
    both : (o p : Ordering) → is_eq (ordering_then o p) ≡ (is_eq o && is_eq p)
    both Less p = refl
    both Equal p = refl
    both Greater p = refl

-- whether an entry is found is whether a test of the images passes that is the test of the keys
found_by : {K X S : Type 0} (test : K → Bool) (f : K × X → S) (pass : S → Bool) → ((e : K × X) → test e.0 ≡ pass (f e)) →
    (es : List (K × X)) → is_some (lookup test es) ≡ list_any pass (map f es)
found_by test f pass same [] = refl
found_by test f pass same (e ∷ es) = by (test e.0) (found_by test f pass same es) ∙ ap (λ b. b || list_any pass (map f es)) (same e)
  where
    by : (b : Bool) → is_some (lookup test es) ≡ list_any pass (map f es) →
        is_some (cond b (Some e.1) (lookup test es)) ≡ (b || list_any pass (map f es))
    by true rest = refl
    by false rest = rest

-- whether a switch is declared is whether its number is found
pub switch_gathered : {V : Type 0} (items : V → List ℕ) (es : List (ℕ × V)) (ls : List ((ℕ × ℕ) × (ℕ × ℕ))) (t : Topology) (n : ℕ) →
    topology_from (map (switch_at items) es) ls ≡ t → is_some (lookup (is_at (nat_cmp n)) es) ≡ is_switch t n
switch_gathered items es ls t n whole =
    found_by (is_at (nat_cmp n)) (switch_at items) (λ s. s.switch == n) (λ e. at_number n e.0) es ∙ ap (λ u. is_switch u n) whole

-- the ports of a switch are those of the entry that is found
ports_looked_up : {V : Type 0} (items : V → List ℕ) (es : List (ℕ × V)) (sw : ℕ) →
    ports_among (map (switch_at items) es) sw ≡ unwrap_or (option_map items (lookup (is_at (nat_cmp sw)) es)) []
ports_looked_up items [] sw = refl
ports_looked_up items (e ∷ es) sw =
    by (e.0 == sw) (ports_looked_up items es sw)
    ∙ ap (λ b. unwrap_or (option_map items (cond b (Some e.1) (lookup (is_at (nat_cmp sw)) es))) []) (sym (at_number sw e.0))
  where
    by : (b : Bool) → ports_among (map (switch_at items) es) sw ≡ unwrap_or (option_map items (lookup (is_at (nat_cmp sw)) es)) [] →
        (if b then items e.1 else ports_among (map (switch_at items) es) sw)
        ≡ unwrap_or (option_map items (cond b (Some e.1) (lookup (is_at (nat_cmp sw)) es))) []
    by true rest = refl
    by false rest = rest

-- the ports that are found for a switch
pub ports_gathered : {V : Type 0} (items : V → List ℕ) (es : List (ℕ × V)) (ls : List ((ℕ × ℕ) × (ℕ × ℕ))) (t : Topology) (sw : ℕ) (o : Option V) →
    IsTopology (topology_from (map (switch_at items) es) ls) → topology_from (map (switch_at items) es) ls ≡ t →
    o ≡ lookup (is_at (nat_cmp sw)) es → ArePorts t sw (unwrap_or (option_map items o) [])
ports_gathered items es ls t sw o is whole found =
    are_ports t sw (unwrap_or (option_map items o) []) (subst IsTopology whole is)
    (ap (λ p. unwrap_or (option_map items p) []) found ∙ sym (ports_looked_up items es sw) ∙ ap (λ u. ports_of u sw) whole)

-- where the link from a port leads is the entry that is found
target_looked_up : (ls : List ((ℕ × ℕ) × (ℕ × ℕ))) (sw pt : ℕ) →
    lookup (is_at (port_cmp (sw, pt))) ls ≡ target_among (map (λ e. link_of (four_of e)) ls) sw pt
target_looked_up [] sw pt = refl
target_looked_up (e ∷ ls) sw pt =
    ap (λ b. cond b (Some e.1) (lookup (is_at (port_cmp (sw, pt))) ls)) (at_port sw pt e.0)
    ∙ by ((e.0.0 == sw) && (e.0.1 == pt)) (target_looked_up ls sw pt)
  where
    by : (b : Bool) → lookup (is_at (port_cmp (sw, pt))) ls ≡ target_among (map (λ d. link_of (four_of d)) ls) sw pt →
        cond b (Some e.1) (lookup (is_at (port_cmp (sw, pt))) ls)
        ≡ (if b then Some (e.1.0, e.1.1) else target_among (map (λ d. link_of (four_of d)) ls) sw pt)
    by true rest = refl
    by false rest = rest

-- whether a link begins at a port is whether the port is found
pub source_gathered : (ss : List SwitchPorts) (ls : List ((ℕ × ℕ) × (ℕ × ℕ))) (t : Topology) (sw pt : ℕ) →
    topology_from ss ls ≡ t → is_some (lookup (is_at (port_cmp (sw, pt))) ls) ≡ is_some (link_from t sw pt)
source_gathered ss ls t sw pt whole = ap is_some (target_looked_up ls sw pt ∙ ap (λ u. link_from u sw pt) whole)

-- whether a link ends at a port is whether one of the four numbers does
pub target_gathered : (ss : List SwitchPorts) (ls : List ((ℕ × ℕ) × (ℕ × ℕ))) (t : Topology) (sw pt : ℕ) →
    topology_from ss ls ≡ t → list_any (λ l. (l.2 == sw) && (l.3 == pt)) (map four_of ls) ≡ is_target t sw pt
target_gathered ss ls t sw pt whole =
    any_image four_of (λ l. (l.2 == sw) && (l.3 == pt)) ls
    ∙ sym (any_image (λ e. link_of (four_of e)) (λ l. (l.to_switch == sw) && (l.to_port == pt)) ls)
    ∙ ap (λ u. is_target u sw pt) whole

-- an order of keys and a test agree: what is above comes before, what is below doesn't, and none is equal
abbrev Stands : Ordering → Bool → Type 0
Stands Less b = b ≡ false
Stands Equal b = ⊥
Stands Greater b = b ≡ true

-- a new entry stands where its image is placed
insert_placed : {K X S : Type 0} (cmp : K → K → Ordering) (f : K × X → S) (before : S → Bool) (k : K) (v : X) (es : List (K × X)) →
    ((e : K × X) → In (map f es) (f e) → Stands (cmp k e.0) (before (f e))) → map f (insert_entry cmp es k v) ≡ placed before (f (k, v)) (map f es)
insert_placed cmp f before k v [] stands = refl
insert_placed cmp f before k v (e ∷ es) stands =
    by (cmp k e.0) (stands e (inl refl)) (insert_placed cmp f before k v es (λ d i. stands d (inr i)))
  where
    by : (o : Ordering) → Stands o (before (f e)) → map f (insert_entry cmp es k v) ≡ placed before (f (k, v)) (map f es) →
        map f (match_ordering o ((k, v) ∷ e ∷ es) ((e.0, v) ∷ es) (e ∷ insert_entry cmp es k v)) ≡ placed before (f (k, v)) (f e ∷ map f es)
    by Less s rest = sym (placed_front before (f (k, v)) (f e) (map f es) s)
    by Equal s rest = absurd s
    by Greater s rest = ap (λ l. f e ∷ l) rest ∙ sym (placed_after before (f (k, v)) (f e) (map f es) s)

-- another number
number_stands : (n k : ℕ) → (k == n) ≡ false → Stands (nat_cmp n k) (nat_lt k n)
number_stands n k other = by (nat_lt n k) refl (n == k) refl
  where
    by : (b : Bool) → nat_lt n k ≡ b → (d : Bool) → (n == k) ≡ d → Stands (cond b Less (cond d Equal Greater)) (nat_lt k n)
    by true e d h = grind (arith, nat_tests, e)
    by false e true h = grind (arith, nat_tests, h, other)
    by false e false h = grind (arith, nat_tests, e, h)

-- another port
port_stands : (sw pt : ℕ) (k : ℕ × ℕ) → ((k.0 == sw) && (k.1 == pt)) ≡ false →
    Stands (port_cmp (sw, pt) k) (nat_lt k.0 sw || ((k.0 == sw) && nat_lt k.1 pt))
port_stands sw pt k other = by (nat_lt sw k.0) refl (sw == k.0) refl (nat_lt pt k.1) refl (pt == k.1) refl
  where
    by : (b : Bool) → nat_lt sw k.0 ≡ b → (d : Bool) → (sw == k.0) ≡ d → (b' : Bool) → nat_lt pt k.1 ≡ b' → (d' : Bool) → (pt == k.1) ≡ d' →
        Stands (ordering_then (cond b Less (cond d Equal Greater)) (cond b' Less (cond d' Equal Greater)))
        (nat_lt k.0 sw || ((k.0 == sw) && nat_lt k.1 pt))
    by true e d h b' e' d' h' = grind (arith, nat_tests, e)
    by false e true h true e' d' h' = grind (arith, nat_tests, e, h, e')
    by false e true h false e' true h' = grind (arith, nat_tests, h, h', other)
    by false e true h false e' false h' = grind (arith, nat_tests, h, e', h')
    by false e false h b' e' d' h' = grind (arith, nat_tests, e, h)

-- one more switch among the entries
pub gathered_with_switch : {V : Type 0} (items : V → List ℕ) (es fs : List (ℕ × V)) (ls : List ((ℕ × ℕ) × (ℕ × ℕ))) (ts : List (ℕ × ℕ)) (t : Topology) (n : ℕ) (v : V) →
    IsGathered (map (switch_at items) es) ls ts → topology_from (map (switch_at items) es) ls ≡ t → fs ≡ insert_entry nat_cmp es n v →
    is_switch t n ≡ false → AllPairs (λ p q. p < q) (items v) →
    IsGathered (map (switch_at items) fs) ls ts × (topology_from (map (switch_at items) fs) ls ≡ with_sorted t n (items v))
gathered_with_switch items es fs ls ts t n v is whole more new up =
    let none : is_switch (topology_from (map (switch_at items) es) ls) n ≡ false = ap (λ u. is_switch u n) whole ∙ new in
    let switches : map (switch_at items) fs ≡ placed (λ s. nat_lt s.switch n) (switch_of n (items v)) (map (switch_at items) es) =
    ap (map (switch_at items)) more
    ∙ insert_placed nat_cmp (switch_at items) (λ s. nat_lt s.switch n) n v es
    (λ e i. number_stands n e.0 (fails_for (λ s. s.switch == n) (map (switch_at items) es) (switch_at items e) none i)) in
    let value : topology_from (map (switch_at items) fs) ls ≡ with_sorted t n (items v) =
    ap (λ ss. topology_from ss ls) switches ∙ ap (λ u. with_sorted u n (items v)) whole in (
      record {
        topology = subst IsTopology (sym value) (kept_with_switch t n (items v) (subst IsTopology whole is.topology) new up);
        targets = is.targets;
      },
      value,
    )

-- one more link among the entries
pub gathered_with_link : (ss : List SwitchPorts) (ls ks : List ((ℕ × ℕ) × (ℕ × ℕ))) (ts us : List (ℕ × ℕ)) (t : Topology) (p q : ℕ × ℕ) →
    IsTopology (topology_from ss ls) → AreTargets ts (map four_of ls) → topology_from ss ls ≡ t → ks ≡ insert_entry port_cmp ls p q →
    is_port t p.0 p.1 ≡ true → is_port t q.0 q.1 ≡ true → IsNone (link_from t p.0 p.1) → is_target t q.0 q.1 ≡ false →
    ((r : ℕ × ℕ) → list_any (λ u. (r.0 == u.0) && (r.1 == u.1)) us
    ≡ cond ((q.0 == r.0) && (q.1 == r.1)) true (list_any (λ u. (r.0 == u.0) && (r.1 == u.1)) ts)) →
    IsGathered ss ks us × (topology_from ss ks ≡ with_link t (link_of (four_of (p, q))))
gathered_with_link ss ls ks ts us t p q is are whole more from to one_from one_to added =
    let none : IsNone (link_from (topology_from ss ls) p.0 p.1) = subst (λ u. IsNone (link_from u p.0 p.1)) (sym whole) one_from in
    let other = λ (e : (ℕ × ℕ) × (ℕ × ℕ)) (i : In (map (λ d. link_of (four_of d)) ls) (link_of (four_of e))).
    port_stands p.0 p.1 e.0 (none_from (map (λ d. link_of (four_of d)) ls) p.0 p.1 (link_of (four_of e)) none i) in
    let links : map (λ e. link_of (four_of e)) ks ≡ placed (starts_below p.0 p.1) (link_of (four_of (p, q))) (map (λ e. link_of (four_of e)) ls) =
    ap (map (λ e. link_of (four_of e))) more
    ∙ insert_placed port_cmp (λ e. link_of (four_of e)) (starts_below p.0 p.1) p q ls other in
    let value : topology_from ss ks ≡ with_link t (link_of (four_of (p, q))) =
    ap (λ m. record { switches = ss; links = m }) links ∙ ap (λ u. with_link u (link_of (four_of (p, q)))) whole in
    let fours : map four_of ks ≡ placed (λ l. starts_below p.0 p.1 (link_of l)) (four_of (p, q)) (map four_of ls) =
    ap (map four_of) more
    ∙ insert_placed port_cmp four_of (λ l. starts_below p.0 p.1 (link_of l)) p q ls (λ e i. other e (linked ls e i)) in (
      record {
        topology = subst IsTopology (sym value) (kept_with_link t (link_of (four_of (p, q))) (subst IsTopology whole is) from to one_from one_to);
        targets = targets_with ts us (map four_of ls) (map four_of ks) (prefix_len (λ l. starts_below p.0 p.1 (link_of l)) (map four_of ls)) (four_of (p, q)) are fours added;
      },
      value,
    )
  where
    -- four numbers among those of entries are the link of an entry
    linked : (es : List ((ℕ × ℕ) × (ℕ × ℕ))) (e : (ℕ × ℕ) × (ℕ × ℕ)) → In (map four_of es) (four_of e) →
        In (map (λ d. link_of (four_of d)) es) (link_of (four_of e))
    linked [] e i = absurd i
    linked (d ∷ es) e i = ⊎_elim (λ s. inl (ap link_of s)) (λ j. inr (linked es e j)) i

-- the numbers of entries with their ports are the switches
listed_switches : {V : Type 0} (items : V → List ℕ) (es : List (ℕ × V)) →
    switches_with (map (λ e. e.0) es) (map (λ e. items e.1) es) ≡ map (switch_at items) es
listed_switches items [] = refl
listed_switches items (e ∷ es) = ap (λ l. switch_at items e ∷ l) (listed_switches items es)

-- what the maps are listed as holds their topology
pub held_from : {V : Type 0} (items : V → List ℕ) (es : List (ℕ × V)) (ls : List ((ℕ × ℕ) × (ℕ × ℕ))) (ts : List (ℕ × ℕ)) (t : Topology)
    (ns : List ℕ) (ps : List (List ℕ)) (ks : List (ℕ × ℕ × ℕ × ℕ)) →
    IsGathered (map (switch_at items) es) ls ts → topology_from (map (switch_at items) es) ls ≡ t →
    ns ≡ map (λ e. e.0) es → ps ≡ map (λ e. items e.1) es → ks ≡ map four_of ls →
    IsHeld ns ps ks ts × (topology_with ns ps ks ≡ t)
held_from items es ls ts t ns ps ks is whole numbers ports links =
    let switches : switches_with ns ps ≡ map (switch_at items) es =
    ap (λ l. switches_with l ps) numbers ∙ ap (switches_with (map (λ e. e.0) es)) ports ∙ listed_switches items es in
    let joined : map link_of ks ≡ map (λ e. link_of (four_of e)) ls = ap (map link_of) links ∙ twice ls in
    let same : topology_with ns ps ks ≡ topology_from (map (switch_at items) es) ls =
    ap (λ l. record { switches = l; links = map link_of ks }) switches
    ∙ ap (λ l. record { switches = map (switch_at items) es; links = l }) joined in (
      record {
        inside = record {
          paired = ap length numbers ∙ length-map {B = ℕ} es (λ e. e.0) ∙ sym (length-map {B = List ℕ} es (λ e. items e.1)) ∙ sym (ap length ports);
          topology = subst IsTopology (sym same) is.topology;
        };
        targets = subst (AreTargets ts) (sym links) is.targets;
      },
      same ∙ whole,
    )
  where
    twice : (ls : List ((ℕ × ℕ) × (ℕ × ℕ))) → map link_of (map four_of ls) ≡ map (λ e. link_of (four_of e)) ls
    twice [] = refl
    twice (l ∷ ls) = ap (λ m. link_of (four_of l) ∷ m) (twice ls)

-- what holds if a call returns Ok holds where it does
pub on_ok : {X E P : Type 0} (r : Result X E) (x : X) → r ≡ Ok x → OnOk r P → P
on_ok {P = P} r x e h = subst (λ q. OnOk q P) e h
