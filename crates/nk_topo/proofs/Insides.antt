-- Switches by the index of their numbers.
use Rattle.std.proofs.Common.{◌≡◌, ℕ, zero, suc, ◌+◌, ◌<◌, ◌≤◌, ◌&&◌, ◌||◌, inl, inr, ⊎_elim, Bool, true, false, not, cond, List, [], ◌∷◌, length, get_or, refl, ap, sym, subst, ◌∙◌, arith, Option, None, Some}
use Rattle.std.specs.Prelude.{◌==◌, nat_lt, map, position, AllPairs, is_some, IsNone, IsTrue, if◌then◌else◌}
use Rattle.std.specs.List.{prefix_len, position_or_len, insert, list_any}
use Rattle.std.proofs.lemmas.List.{get_or_past, get_or-map, length-map}
use Rattle.std.proofs.lemmas.List.Edits.{length-insert}
use Rattle.std.proofs.lemmas.List.Sums.{prefix_len-le-length}
use Rattle.std.proofs.lemmas.List.Quantifiers.{position-Some}
use Rattle.std.proofs.lemmas.Bool.Decides.{nat_tests}
use Rattle.nk_topo.specs.Topology.{SwitchPorts, Topology, IsTopology, Link, placed, ports_among, ports_of, is_port, is_switch, is_target, link_from, target_among, starts_below, with_sorted, with_link}
use Rattle.nk_topo.specs.Inside.{switches_with, topology_with, IsInside, AreTargets, link_of}
use Rattle.nk_topo.proofs.Places.{prefix_len-map}
use Rattle.nk_topo.proofs.Members.{In, InOrder, order_from_pairs, pairs_from_order, members_from_all}
use Rattle.nk_topo.proofs.Orders.{passes_for_none, any_insert}
use Rattle.nk_topo.proofs.Kept.{kept_with_switch, kept_with_link}

-- the numbers of switches with these numbers
pub numbers_are : (ns : List ℕ) (ps : List (List ℕ)) → length ns ≡ length ps → map (λ s. s.switch) (switches_with ns ps) ≡ ns
numbers_are [] ps e = refl
numbers_are (n ∷ ns) [] e = absurd (omega (arith, e))
numbers_are (n ∷ ns) (p ∷ ps) e =
    let less : length ns ≡ length ps = omega (arith, e) in
    ap (λ ms. n ∷ ms) (numbers_are ns ps less)

-- what is in order by an image has its images in order
images_in_order : {X Y : Type 0} (f : X → Y) (R : Y → Y → Type 0) (xs : List X) → InOrder (λ a b. R (f a) (f b)) xs → InOrder R (map f xs)
images_in_order f R [] h = tt
images_in_order f R (x ∷ xs) h = (each xs h.0, images_in_order f R xs h.1)
  where
    each : (zs : List _) → ((z : _) → In zs z → R (f x) (f z)) → (y : _) → In (map f zs) y → R (f x) y
    each [] all y i = absurd i
    each (z ∷ zs) all y i = ⊎_elim (λ s. subst (R (f x)) (sym s) (all z (inl refl))) (λ j. each zs (λ w k. all w (inr k)) y j) i

-- the numbers ascend
pub numbers_rise : (ns : List ℕ) (ps : List (List ℕ)) (ls : List (ℕ × ℕ × ℕ × ℕ)) → IsInside ns ps ls → AllPairs (λ p q. p < q) ns
numbers_rise ns ps ls is =
    subst (λ ms. AllPairs (λ p q. p < q) ms) (numbers_are ns ps is.paired)
    (pairs_from_order (λ p q. p < q) (map (λ s. s.switch) (switches_with ns ps))
    (images_in_order (λ (s : SwitchPorts). s.switch) (λ p q. p < q) (switches_with ns ps)
    (order_from_pairs (λ r s. r.switch < s.switch) (switches_with ns ps) is.topology.switches)))

-- a switch has the ports at the index of its number, and none where the number isn't there
pub ports_at : (sw : ℕ) (ns : List ℕ) (ps : List (List ℕ)) → length ns ≡ length ps →
    ports_among (switches_with ns ps) sw ≡ get_or ps (position_or_len (λ m. m == sw) ns) []
ports_at sw [] [] e = refl
ports_at sw [] (p ∷ ps) e = absurd (omega (arith, e))
ports_at sw (n ∷ ns) [] e = absurd (omega (arith, e))
ports_at sw (n ∷ ns) (p ∷ ps) e =
    let less : length ns ≡ length ps = omega (arith, e) in
    by (n == sw) refl (ports_at sw ns ps less)
  where
    by : (b : Bool) → (n == sw) ≡ b → ports_among (switches_with ns ps) sw ≡ get_or ps (position_or_len (λ m. m == sw) ns) [] →
        (if b then p else ports_among (switches_with ns ps) sw) ≡ get_or (p ∷ ps) (cond (not b) (1 + position_or_len (λ m. m == sw) ns) 0) []
    by true h rest = refl
    by false h rest =
        let more : 1 + position_or_len (λ m. m == sw) ns ≡ suc (position_or_len (λ m. m == sw) ns) = omega arith in
        rest ∙ ap (λ k. get_or (p ∷ ps) k []) (sym more)

-- a place that is found
found_place : (b : Bool) (n i : ℕ) → cond b (Some n) None ≡ Some i → n ≡ i
found_place true n i e = cc
found_place false n i e = absurd cc

-- a place that isn't
missed_place : (b : Bool) (n : ℕ) → cond b (Some n) None ≡ None → b ≡ false
missed_place true n e = absurd cc
missed_place false n e = refl

-- no two switches have one number, so the ports of the first with it are all
only_ports : (ss : List SwitchPorts) (sw pt : ℕ) → InOrder (λ r s. r.switch < s.switch) ss →
    list_any (λ s. (s.switch == sw) && list_any (λ p. p == pt) s.ports) ss ≡ list_any (λ p. p == pt) (ports_among ss sw)
only_ports [] sw pt up = refl
only_ports (s ∷ ss) sw pt up =
    by (s.switch == sw) refl (only_ports ss sw pt up.1)
  where
    or_false : (a b : Bool) → b ≡ false → (a || b) ≡ a
    or_false true b e = refl
    or_false false b e = e

    others : s.switch ≡ sw → (r : SwitchPorts) → In ss r → ((r.switch == sw) && list_any (λ p. p == pt) r.ports) ≡ false
    others e r i =
        let above = up.0 r i in
        let differs : (r.switch == sw) ≡ false = grind (arith, nat_tests, above, e) in
        ap (λ b. b && list_any (λ p. p == pt) r.ports) differs

    by : (b : Bool) → (s.switch == sw) ≡ b →
        list_any (λ r. (r.switch == sw) && list_any (λ p. p == pt) r.ports) ss ≡ list_any (λ p. p == pt) (ports_among ss sw) →
        ((b && list_any (λ p. p == pt) s.ports) || list_any (λ r. (r.switch == sw) && list_any (λ p. p == pt) r.ports) ss)
        ≡ list_any (λ p. p == pt) (if b then s.ports else ports_among ss sw)
    by true h rest =
        let same : s.switch ≡ sw = grind (arith, nat_tests, h) in
        or_false _ _ (passes_for_none (λ r. (r.switch == sw) && list_any (λ p. p == pt) r.ports) ss (others same))
    by false h rest = rest

-- what the ports of a switch are
pub record ArePorts (t : Topology) (sw : ℕ) (ps : List ℕ) : Type 0 where
  pub ports : ps ≡ ports_of t sw
  pub ascend : AllPairs (λ p q. p < q) ps
  pub each : (pt : ℕ) → is_port t sw pt ≡ list_any (λ p. p == pt) ps

-- the ports of a switch ascend
ports_rise : (ss : List SwitchPorts) (sw : ℕ) → ((s : SwitchPorts) → In ss s → AllPairs (λ p q. p < q) s.ports) →
    AllPairs (λ p q. p < q) (ports_among ss sw)
ports_rise [] sw all = λ i j d lt less. absurd (omega (arith, less))
ports_rise (s ∷ ss) sw all = by (s.switch == sw) (ports_rise ss sw (λ r i. all r (inr i)))
  where
    by : (b : Bool) → AllPairs (λ p q. p < q) (ports_among ss sw) → AllPairs (λ p q. p < q) (if b then s.ports else ports_among ss sw)
    by true rest = all s (inl refl)
    by false rest = rest

-- the ports that a topology has for a switch are its ports
pub are_ports : (t : Topology) (sw : ℕ) (ps : List ℕ) → IsTopology t → ps ≡ ports_of t sw → ArePorts t sw ps
are_ports t sw ps is e = record {
  ports = e;
  ascend = subst (λ qs. AllPairs (λ p q. p < q) qs) (sym e)
      (ports_rise t.switches sw (members_from_all (λ s. AllPairs (λ p q. p < q) s.ports) t.switches is.ports));
  each = λ pt.
      only_ports t.switches sw pt (order_from_pairs (λ r s. r.switch < s.switch) t.switches is.switches)
      ∙ ap (λ qs. list_any (λ p. p == pt) qs) (sym e);
}

-- the ports at the place where the switch is found
pub ports_found : {V : Type 0} (items : V → List ℕ) (ns ms : List ℕ) (vs : List V) (ls : List (ℕ × ℕ × ℕ × ℕ)) (t : Topology) (sw i : ℕ) (v : V) (qs : List ℕ) →
    IsInside ns (map items vs) ls → topology_with ns (map items vs) ls ≡ t → ms ≡ ns →
    position (λ m. m == sw) ms ≡ Some i → v ≡ get_or vs i v → qs ≡ items v → ArePorts t sw qs
ports_found items ns ms vs ls t sw i v qs is whole same found at e =
    let here : position (λ m. m == sw) ns ≡ Some i = subst (λ l. position (λ m. m == sw) l ≡ Some i) same found in
    let place : position_or_len (λ m. m == sw) ns ≡ i = found_place _ _ _ here in
    let within : i < length ns = (position-Some (λ m. m == sw) ns i 0 here).0 in
    let bound : i < length vs = omega (arith, within, is.paired, length-map {B = List ℕ} vs items) in
    let image : get_or (map items vs) i [] ≡ items (get_or vs i v) = get_or-map items vs i v [] bound in
    let ports : qs ≡ ports_of (topology_with ns (map items vs) ls) sw =
    e ∙ ap items at ∙ sym image ∙ ap (λ k. get_or (map items vs) k []) (sym place) ∙ sym (ports_at sw ns (map items vs) is.paired) in
    subst (λ u. ArePorts u sw qs) whole (are_ports (topology_with ns (map items vs) ls) sw qs is.topology ports)

-- and none where it isn't found
pub ports_missed : (ns ms : List ℕ) (ps : List (List ℕ)) (ls : List (ℕ × ℕ × ℕ × ℕ)) (t : Topology) (sw : ℕ) →
    IsInside ns ps ls → topology_with ns ps ls ≡ t → ms ≡ ns → position (λ m. m == sw) ms ≡ None → ArePorts t sw []
ports_missed ns ms ps ls t sw is whole same missed =
    let past : nat_lt (position_or_len (λ m. m == sw) ns) (length ns) ≡ false =
    missed_place _ _ (subst (λ l. position (λ m. m == sw) l ≡ None) same missed) in
    let far : length ps ≤ position_or_len (λ m. m == sw) ns = grind (arith, nat_tests, past, is.paired) in
    let none : get_or ps (position_or_len (λ m. m == sw) ns) [] ≡ [] = get_or_past ps (position_or_len (λ m. m == sw) ns) [] far in
    subst (λ u. ArePorts u sw []) whole
    (are_ports (topology_with ns ps ls) sw [] is.topology (sym none ∙ sym (ports_at sw ns ps is.paired)))

-- whether an element is found is whether one passes
pub found_any : {X : Type 0} (test : X → Bool) (xs : List X) → is_some (position test xs) ≡ list_any test xs
found_any test xs = some_of (nat_lt (position_or_len test xs) (length xs)) (position_or_len test xs) ∙ any_place xs
  where
    some_of : (b : Bool) (n : ℕ) → is_some (cond b (Some n) None) ≡ b
    some_of true n = refl
    some_of false n = refl

    one_more : (b : Bool) (n k : ℕ) → nat_lt n k ≡ b → nat_lt (1 + n) (suc k) ≡ b
    one_more b n k e = grind (arith, nat_tests, e)

    by : (b : Bool) (n k : ℕ) (c : Bool) → nat_lt n k ≡ c → nat_lt (cond (not b) (1 + n) 0) (suc k) ≡ (b || c)
    by true n k c e = grind (arith, nat_tests)
    by false n k c e = one_more c n k e

    any_place : (ys : List _) → nat_lt (position_or_len test ys) (length ys) ≡ list_any test ys
    any_place [] = refl
    any_place (y ∷ ys) = by (test y) (position_or_len test ys) (length ys) (list_any test ys) (any_place ys)

-- an image of a list with one more element put in
map_insert : {X Y : Type 0} (f : X → Y) (xs : List X) (i : ℕ) (x : X) → map f (insert xs i x) ≡ insert (map f xs) i (f x)
map_insert f [] zero x = refl
map_insert f [] (suc i) x = refl
map_insert f (y ∷ ys) zero x = refl
map_insert f (y ∷ ys) (suc i) x = ap (λ l. f y ∷ l) (map_insert f ys i x)

-- switches with one more number and port list at one place
switches_insert : (ns : List ℕ) (ps : List (List ℕ)) (i n : ℕ) (q : List ℕ) → length ns ≡ length ps →
    switches_with (insert ns i n) (insert ps i q) ≡ insert (switches_with ns ps) i (record { switch = n; ports = q })
switches_insert [] [] zero n q e = refl
switches_insert [] [] (suc i) n q e = refl
switches_insert [] (p ∷ ps) i n q e = absurd (omega (arith, e))
switches_insert (m ∷ ns) [] i n q e = absurd (omega (arith, e))
switches_insert (m ∷ ns) (p ∷ ps) zero n q e = refl
switches_insert (m ∷ ns) (p ∷ ps) (suc i) n q e =
    let less : length ns ≡ length ps = omega (arith, e) in
    ap (λ l. record { switch = m; ports = p } ∷ l) (switches_insert ns ps i n q less)

-- one more switch at the place of its number
pub switch_put : {V : Type 0} (items : V → List ℕ) (ns : List ℕ) (vs : List V) (ls : List (ℕ × ℕ × ℕ × ℕ)) (i n : ℕ) (v : V) →
    length ns ≡ length (map items vs) → i ≡ prefix_len (λ m. nat_lt m n) ns →
    topology_with (insert ns i n) (map items (insert vs i v)) ls ≡ with_sorted (topology_with ns (map items vs) ls) n (items v)
switch_put items ns vs ls i n v paired at =
    let place : i ≡ prefix_len (λ s. nat_lt s.switch n) (switches_with ns (map items vs)) =
    at ∙ ap (λ l. prefix_len (λ m. nat_lt m n) l) (sym (numbers_are ns (map items vs) paired))
    ∙ prefix_len-map (λ s. s.switch) (λ m. nat_lt m n) (switches_with ns (map items vs)) in
    ap (λ l. topology_with (insert ns i n) l ls) (map_insert items vs i v)
    ∙ ap (λ l. record { switches = l; links = map link_of ls }) (switches_insert ns (map items vs) i n (items v) paired)
    ∙ ap (λ k. record { switches = insert (switches_with ns (map items vs)) k (record { switch = n; ports = items v }); links = map link_of ls }) place

-- a new switch in its place
pub inside_with_switch : {V : Type 0} (items : V → List ℕ) (ns ms : List ℕ) (vs ws : List V) (ls : List (ℕ × ℕ × ℕ × ℕ)) (t : Topology) (i n : ℕ) (v : V) →
    IsInside ns (map items vs) ls → topology_with ns (map items vs) ls ≡ t → i ≡ prefix_len (λ m. nat_lt m n) ns →
    ms ≡ insert ns i n → ws ≡ insert vs i v → is_switch t n ≡ false → AllPairs (λ p q. p < q) (items v) →
    IsInside ms (map items ws) ls × (topology_with ms (map items ws) ls ≡ with_sorted t n (items v))
inside_with_switch items ns ms vs ws ls t i n v is whole at more_numbers more_ports new up =
    let value : topology_with ms (map items ws) ls ≡ with_sorted t n (items v) =
    ap (λ l. topology_with l (map items ws) ls) more_numbers
    ∙ ap (λ l. topology_with (insert ns i n) (map items l) ls) more_ports
    ∙ switch_put items ns vs ls i n v is.paired at
    ∙ ap (λ u. with_sorted u n (items v)) whole in
    let kept = kept_with_switch t n (items v) (subst IsTopology whole is.topology) new up in
    let few : i ≤ length ns = subst (λ k. k ≤ length ns) (sym at) (prefix_len-le-length (λ m. nat_lt m n) ns) in
    let few_ports : i ≤ length vs = omega (arith, is.paired, few, length-map {B = List ℕ} vs items) in
    let numbers : length ms ≡ length ns + 1 = ap length more_numbers ∙ length-insert ns i n few in
    let ports : length (map items ws) ≡ length vs + 1 = length-map {B = List ℕ} ws items ∙ ap length more_ports ∙ length-insert vs i v few_ports in (
      record {
        paired = omega (arith, numbers, ports, is.paired, length-map {B = List ℕ} vs items);
        topology = subst IsTopology (sym value) kept;
      },
      value,
    )

-- a new link in its place
pub inside_with_link : (ns : List ℕ) (ps : List (List ℕ)) (ls ks : List (ℕ × ℕ × ℕ × ℕ)) (t : Topology) (i : ℕ) (l : ℕ × ℕ × ℕ × ℕ) →
    IsInside ns ps ls → topology_with ns ps ls ≡ t → i ≡ prefix_len (starts_below l.0 l.1) (map link_of ls) → ks ≡ insert ls i l →
    is_port t l.0 l.1 ≡ true → is_port t l.2 l.3 ≡ true → IsNone (link_from t l.0 l.1) → is_target t l.2 l.3 ≡ false →
    IsInside ns ps ks × (topology_with ns ps ks ≡ with_link t (link_of l))
inside_with_link ns ps ls ks t i l is whole at more from to one_from one_to =
    let links : map link_of ks ≡ placed (starts_below l.0 l.1) (link_of l) (map link_of ls) =
    ap (λ m. map link_of m) more ∙ map_insert link_of ls i l ∙ ap (λ k. insert (map link_of ls) k (link_of l)) at in
    let value : topology_with ns ps ks ≡ with_link t (link_of l) =
    ap (λ m. record { switches = switches_with ns ps; links = m }) links ∙ ap (λ u. with_link u (link_of l)) whole in
    let kept = kept_with_link t (link_of l) (subst IsTopology whole is.topology) from to one_from one_to in
    (record { paired = is.paired; topology = subst IsTopology (sym value) kept }, value)

-- a test passes for an image where it passes for the image of some element
pub any_image : {X Y : Type 0} (f : X → Y) (test : Y → Bool) (xs : List X) → list_any test (map f xs) ≡ list_any (λ x. test (f x)) xs
any_image f test [] = refl
any_image f test (x ∷ xs) = ap (λ b. test (f x) || b) (any_image f test xs)

-- whether a switch is declared is whether its number is found
pub switch_found : (ns ms : List ℕ) (ps : List (List ℕ)) (ls : List (ℕ × ℕ × ℕ × ℕ)) (t : Topology) (n : ℕ) →
    IsInside ns ps ls → topology_with ns ps ls ≡ t → ms ≡ ns → is_some (position (λ m. m == n) ms) ≡ is_switch t n
switch_found ns ms ps ls t n is whole same =
    found_any (λ m. m == n) ms
    ∙ ap (λ l. list_any (λ m. m == n) l) (same ∙ sym (numbers_are ns ps is.paired))
    ∙ any_image (λ (s : SwitchPorts). s.switch) (λ m. m == n) (switches_with ns ps)
    ∙ ap (λ u. is_switch u n) whole

-- the link at a place, where it begins at the port
abbrev target_at : List Link → ℕ → ℕ → ℕ → Option (ℕ × ℕ)
target_at [] i sw pt = None
target_at (l ∷ ls) zero sw pt = if (l.from_switch == sw) && (l.from_port == pt) then Some (l.to_switch, l.to_port) else None
target_at (l ∷ ls) (suc i) sw pt = target_at ls i sw pt

-- no link after one that doesn't begin below a port begins there, unless that one does
none_following : (l : Link) (ls : List Link) (sw pt : ℕ) → ((k : Link) → In ls k → IsTrue (starts_below k.from_switch k.from_port l)) →
    starts_below sw pt l ≡ false → target_among ls sw pt ≡ None
none_following l [] sw pt all e = refl
none_following l (k ∷ ls) sw pt all e =
    let below = all k (inl refl) in
    let other : ((k.from_switch == sw) && (k.from_port == pt)) ≡ false = grind (arith, nat_tests, below, e) in
    ap (λ b. if b then Some (k.to_switch, k.to_port) else target_among ls sw pt) other
    ∙ none_following l ls sw pt (λ m i. all m (inr i)) e

-- among links in order the one from a port is at its place
among_at : (ls : List Link) (sw pt : ℕ) → InOrder (λ k l. IsTrue (starts_below l.from_switch l.from_port k)) ls →
    target_among ls sw pt ≡ target_at ls (prefix_len (starts_below sw pt) ls) sw pt
among_at [] sw pt up = refl
among_at (l ∷ ls) sw pt up = by (starts_below sw pt l) refl (among_at ls sw pt up.1)
  where
    same : (b : Bool) → target_among ls sw pt ≡ None →
        (if b then Some (l.to_switch, l.to_port) else target_among ls sw pt) ≡ (if b then Some (l.to_switch, l.to_port) else None)
    same true e = refl
    same false e = e

    by : (b : Bool) → starts_below sw pt l ≡ b → target_among ls sw pt ≡ target_at ls (prefix_len (starts_below sw pt) ls) sw pt →
        target_among (l ∷ ls) sw pt ≡ target_at (l ∷ ls) (cond b (1 + prefix_len (starts_below sw pt) ls) 0) sw pt
    by true e rest =
        let other : ((l.from_switch == sw) && (l.from_port == pt)) ≡ false = grind (arith, nat_tests, e) in
        let more : 1 + prefix_len (starts_below sw pt) ls ≡ suc (prefix_len (starts_below sw pt) ls) = omega arith in
        ap (λ b. if b then Some (l.to_switch, l.to_port) else target_among ls sw pt) other
        ∙ rest ∙ ap (λ k. target_at (l ∷ ls) k sw pt) (sym more)
    by false e rest = same ((l.from_switch == sw) && (l.from_port == pt)) (none_following l ls sw pt up.0 e)

-- what stands at a place
at_place : (ls : List (ℕ × ℕ × ℕ × ℕ)) (i sw pt : ℕ) (l : ℕ × ℕ × ℕ × ℕ) → i < length ls → l ≡ get_or ls i l →
    target_at (map link_of ls) i sw pt ≡ (if (l.0 == sw) && (l.1 == pt) then Some (l.2, l.3) else None)
at_place [] i sw pt l lt e = absurd (omega (arith, lt))
at_place (k ∷ ls) zero sw pt l lt e = ap (λ m. if (m.0 == sw) && (m.1 == pt) then Some (m.2, m.3) else None) (sym e)
at_place (k ∷ ls) (suc i) sw pt l lt e =
    let less : i < length ls = omega (arith, lt) in at_place ls i sw pt l less e

-- nothing stands past the end
past_places : (ls : List Link) (i sw pt : ℕ) → length ls ≤ i → target_at ls i sw pt ≡ None
past_places [] i sw pt le = refl
past_places (l ∷ ls) zero sw pt le = absurd (omega (arith, le))
past_places (l ∷ ls) (suc i) sw pt le = let less : length ls ≤ i = omega (arith, le) in past_places ls i sw pt less

-- the link at the place of a port is the one from it, where it begins there
pub link_found : (ns : List ℕ) (ps : List (List ℕ)) (ls : List (ℕ × ℕ × ℕ × ℕ)) (t : Topology) (i sw pt : ℕ) (l : ℕ × ℕ × ℕ × ℕ) →
    IsInside ns ps ls → topology_with ns ps ls ≡ t → i ≡ prefix_len (starts_below sw pt) (map link_of ls) → i < length ls → l ≡ get_or ls i l →
    link_from t sw pt ≡ (if (l.0 == sw) && (l.1 == pt) then Some (l.2, l.3) else None)
link_found ns ps ls t i sw pt l is whole at lt e =
    ap (λ u. link_from u sw pt) (sym whole)
    ∙ among_at (map link_of ls) sw pt (order_from_pairs (λ k m. IsTrue (starts_below m.from_switch m.from_port k)) (map link_of ls) is.topology.sources)
    ∙ ap (λ k. target_at (map link_of ls) k sw pt) (sym at)
    ∙ at_place ls i sw pt l lt e

-- and no link begins at the port where there is none at the place
pub link_missed : (ns : List ℕ) (ps : List (List ℕ)) (ls : List (ℕ × ℕ × ℕ × ℕ)) (t : Topology) (i sw pt : ℕ) →
    IsInside ns ps ls → topology_with ns ps ls ≡ t → i ≡ prefix_len (starts_below sw pt) (map link_of ls) → length ls ≤ i →
    link_from t sw pt ≡ None
link_missed ns ps ls t i sw pt is whole at le =
    let past : length (map link_of ls) ≤ i = omega (arith, le, length-map {B = Link} ls link_of) in
    ap (λ u. link_from u sw pt) (sym whole)
    ∙ among_at (map link_of ls) sw pt (order_from_pairs (λ k m. IsTrue (starts_below m.from_switch m.from_port k)) (map link_of ls) is.topology.sources)
    ∙ ap (λ k. target_at (map link_of ls) k sw pt) (sym at)
    ∙ past_places (map link_of ls) i sw pt past

-- whether a link ends at a port is whether one of the links given does
pub target_found : (ns : List ℕ) (ps : List (List ℕ)) (ls : List (ℕ × ℕ × ℕ × ℕ)) (t : Topology) (sw pt : ℕ) →
    topology_with ns ps ls ≡ t → list_any (λ l. (l.2 == sw) && (l.3 == pt)) ls ≡ is_target t sw pt
target_found ns ps ls t sw pt whole =
    sym (any_image link_of (λ l. (l.to_switch == sw) && (l.to_port == pt)) ls) ∙ ap (λ u. is_target u sw pt) whole

-- the port where a new link ends is one more among those where links end
pub targets_with : (ts us : List (ℕ × ℕ)) (ls ks : List (ℕ × ℕ × ℕ × ℕ)) (i : ℕ) (l : ℕ × ℕ × ℕ × ℕ) → AreTargets ts ls → ks ≡ insert ls i l →
    ((q : ℕ × ℕ) → list_any (λ t. (q.0 == t.0) && (q.1 == t.1)) us
    ≡ cond ((l.2 == q.0) && (l.3 == q.1)) true (list_any (λ t. (q.0 == t.0) && (q.1 == t.1)) ts)) →
    AreTargets us ks
targets_with ts us ls ks i l are more added = λ sw pt.
    added (sw, pt)
    ∙ either ((l.2 == sw) && (l.3 == pt)) _
    ∙ ap (λ b. ((l.2 == sw) && (l.3 == pt)) || b) (are sw pt)
    ∙ sym (any_insert (λ k. (k.2 == sw) && (k.3 == pt)) ls i l)
    ∙ ap (list_any (λ k. (k.2 == sw) && (k.3 == pt))) (sym more)
  where
    either : (a b : Bool) → cond a true b ≡ (a || b)
    either true b = refl
    either false b = refl
