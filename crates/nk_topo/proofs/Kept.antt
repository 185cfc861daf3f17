-- A topology with one more switch or one more link is a topology.
use Rattle.std.proofs.Common.{◌≡◌, ℕ, ◌<◌, ◌&&◌, ◌||◌, ⊎_elim, Bool, true, false, List, [], ◌∷◌, refl, ap, sym, subst, ◌∙◌, arith, Some}
use Rattle.std.specs.Prelude.{◌==◌, nat_lt, IsTrue, IsNone, AllPairs, Contains, if◌then◌else◌}
use Rattle.std.specs.List.{list_any, prefix_len}
use Rattle.std.proofs.lemmas.Bool.Decides.{nat_tests}
use Rattle.nk_topo.specs.Topology.{SwitchPorts, Link, Topology, IsTopology, starts_below, is_port, is_switch, is_target, link_from, target_among, with_sorted, with_link}
use Rattle.nk_topo.proofs.Members.{In, InOrder, in_from_contains, contains_from_in, all_from_members, members_from_all, order_from_pairs, pairs_from_order, in_placed}
use Rattle.nk_topo.proofs.Orders.{order_placed, any_insert, fails_for}

-- what holds of one holds of either
either : (a b : Bool) → b ≡ true → (a || b) ≡ true
either true b e = refl
either false b e = e

-- a declared port stays declared with one more switch
port_stays : (t : Topology) (n : ℕ) (ports : List ℕ) (sw pt : ℕ) → IsTrue (is_port t sw pt) → IsTrue (is_port (with_sorted t n ports) sw pt)
port_stays t n ports sw pt there =
    let test = λ (s : SwitchPorts). (s.switch == sw) && list_any (λ p. p == pt) s.ports in
    let new : SwitchPorts = record { switch = n; ports = ports } in
    any_insert test t.switches (prefix_len (λ s. nat_lt s.switch n) t.switches) new
    ∙ either (test new) (is_port t sw pt) there

-- with one more switch
pub kept_with_switch : (t : Topology) (n : ℕ) (ports : List ℕ) → IsTopology t → is_switch t n ≡ false →
    AllPairs (λ p q. p < q) ports → IsTopology (with_sorted t n ports)
kept_with_switch t n ports is new up =
    let put : SwitchPorts = record { switch = n; ports = ports } in
    record {
      switches = pairs_from_order (λ r s. r.switch < s.switch) (with_sorted t n ports).switches (order_placed
          (λ r s. r.switch < s.switch)
          (λ x y z a b. omega (arith, a, b))
          (λ s. nat_lt s.switch n)
          put
          t.switches
          (λ s i. let other = fails_for (λ r. r.switch == n) t.switches s new i in (
            (λ e. grind (arith, nat_tests, e)),
            λ e. grind (arith, nat_tests, e, other),
          ))
          (order_from_pairs (λ r s. r.switch < s.switch) t.switches is.switches));
      ports = all_from_members (λ s. AllPairs (λ p q. p < q) s.ports) (with_sorted t n ports).switches (λ s i.
          ⊎_elim
          (λ e. subst (λ r. AllPairs (λ p q. p < q) r.ports) (sym e) up)
          (λ j. members_from_all (λ r. AllPairs (λ p q. p < q) r.ports) t.switches is.ports s j)
          (in_placed (λ r. nat_lt r.switch n) put t.switches s i));
      sources = is.sources;
      links = record {
        one = is.links.one;
        declared = λ l h. port_stays t n ports l.to_switch l.to_port (is.links.declared l h);
        from_port = λ l h. port_stays t n ports l.from_switch l.from_port (is.links.from_port l h);
        one_to = is.links.one_to;
      };
    }

-- begins below
abbrev Below : Link → Link → Type 0
Below k l = IsTrue (starts_below l.from_switch l.from_port k)

-- one that begins below one that begins below a third begins below that
below_trans : (x y z : Link) → Below x y → Below y z → Below x z
below_trans x y z a b = grind (arith, nat_tests, a, b)

-- among links in order each is the first from its source
first_from : (ls : List Link) (l : Link) → InOrder Below ls → In ls l →
    target_among ls l.from_switch l.from_port ≡ Some (l.to_switch, l.to_port)
first_from [] l up i = absurd i
first_from (k ∷ ls) l up i = ⊎_elim this (λ j. later j (first_from ls l up.1 j)) i
  where
    this : l ≡ k → target_among (k ∷ ls) l.from_switch l.from_port ≡ Some (l.to_switch, l.to_port)
    this e =
        let at : ((k.from_switch == k.from_switch) && (k.from_port == k.from_port)) ≡ true = grind (arith, nat_tests) in
        subst (λ m. target_among (k ∷ ls) m.from_switch m.from_port ≡ Some (m.to_switch, m.to_port)) (sym e)
        (ap (λ b. if b then Some (k.to_switch, k.to_port) else target_among ls k.from_switch k.from_port) at)

    later : In ls l → target_among ls l.from_switch l.from_port ≡ Some (l.to_switch, l.to_port) →
        target_among (k ∷ ls) l.from_switch l.from_port ≡ Some (l.to_switch, l.to_port)
    later j rest =
        let below = up.0 l j in
        let other : ((k.from_switch == l.from_switch) && (k.from_port == l.from_port)) ≡ false = grind (arith, nat_tests, below) in
        ap (λ b. if b then Some (k.to_switch, k.to_port) else target_among ls l.from_switch l.from_port) other ∙ rest

-- no link begins at a port from which none leads
pub none_from : (ls : List Link) (sw pt : ℕ) (l : Link) → IsNone (target_among ls sw pt) → In ls l →
    ((l.from_switch == sw) && (l.from_port == pt)) ≡ false
none_from [] sw pt l none i = absurd i
none_from (k ∷ ls) sw pt l none i =
    by ((k.from_switch == sw) && (k.from_port == pt)) refl none (λ rest j. none_from ls sw pt l rest j)
  where
    by : (b : Bool) → ((k.from_switch == sw) && (k.from_port == pt)) ≡ b →
        IsNone (if b then Some (k.to_switch, k.to_port) else target_among ls sw pt) →
        (IsNone (target_among ls sw pt) → In ls l → ((l.from_switch == sw) && (l.from_port == pt)) ≡ false) →
        ((l.from_switch == sw) && (l.from_port == pt)) ≡ false
    by true e n rest = absurd cc
    by false e n rest =
        ⊎_elim
        (λ s. subst (λ m. ((m.from_switch == sw) && (m.from_port == pt)) ≡ false) (sym s) e)
        (λ j. rest n j)
        i

-- no link ends at a port to which none leads
none_to : (t : Topology) (sw pt : ℕ) (l : Link) → is_target t sw pt ≡ false → In t.links l → l.to_switch ≡ sw → l.to_port ≡ pt → ⊥
none_to t sw pt l none i same_switch same_port =
    let other = fails_for (λ k. (k.to_switch == sw) && (k.to_port == pt)) t.links l none i in
    let at : ((l.to_switch == sw) && (l.to_port == pt)) ≡ true = grind (arith, nat_tests, same_switch, same_port) in
    cc

-- with one more link
pub kept_with_link : (t : Topology) (l : Link) → IsTopology t → is_port t l.from_switch l.from_port ≡ true →
    is_port t l.to_switch l.to_port ≡ true → IsNone (link_from t l.from_switch l.from_port) →
    is_target t l.to_switch l.to_port ≡ false → IsTopology (with_link t l)
kept_with_link t l is from to one_from one_to =
    let before = starts_below l.from_switch l.from_port in
    let order : InOrder Below (with_link t l).links =
    order_placed Below below_trans before l t.links
    (λ k i. let other = none_from t.links l.from_switch l.from_port k one_from i in (
      (λ e. e),
      λ e. grind (arith, nat_tests, e, other),
    ))
    (order_from_pairs Below t.links is.sources) in
    let cases = λ (k : Link) (h : Contains (with_link t l).links k). in_placed before l t.links k (in_from_contains (with_link t l).links k h) in
    record {
      switches = is.switches;
      ports = is.ports;
      sources = pairs_from_order Below (with_link t l).links order;
      links = record {
        one = λ k h. first_from (with_link t l).links k order (in_from_contains (with_link t l).links k h);
        declared = λ k h.
            ⊎_elim
            (λ e. subst (λ m. IsTrue (is_port t m.to_switch m.to_port)) (sym e) to)
            (λ i. is.links.declared k (contains_from_in t.links k i))
            (cases k h);
        from_port = λ k h.
            ⊎_elim
            (λ e. subst (λ m. IsTrue (is_port t m.from_switch m.from_port)) (sym e) from)
            (λ i. is.links.from_port k (contains_from_in t.links k i))
            (cases k h);
        one_to = λ j k g h a b.
            ⊎_elim
            (λ d.
            ⊎_elim
            (λ e. d ∙ sym e)
            (λ i. absurd (none_to t l.to_switch l.to_port k one_to i (sym a ∙ ap (λ m. m.to_switch) d) (sym b ∙ ap (λ m. m.to_port) d)))
            (cases k h))
            (λ i.
            ⊎_elim
            (λ e. absurd (none_to t l.to_switch l.to_port j one_to i (a ∙ ap (λ m. m.to_switch) e) (b ∙ ap (λ m. m.to_port) e)))
            (λ m. is.links.one_to j k (contains_from_in t.links j i) (contains_from_in t.links k m) a b)
            (cases k h))
            (cases j g);
      };
    }
