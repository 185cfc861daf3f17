-- The ports that count, switch by switch.
use Rattle.std.proofs.Common.{◌≡◌, ℕ, suc, ◌+◌, ◌<◌, Bool, true, false, ◌&&◌, ◌||◌, List, [], ◌∷◌, ◌++◌, length, map, get_or, take, refl, sym, ap, subst, ◌∙◌, arith}
use Rattle.std.specs.Prelude.{◌==◌, if◌then◌else◌, slice_index, All, AllPairs}
use Rattle.std.specs.List.{list_any}
use Rattle.std.proofs.lemmas.Bool.{false≢true}
use Rattle.std.proofs.lemmas.List.{get_or-map, map_push, take_more}
use Rattle.std.proofs.lemmas.List.Elements.{All-map, All-push, All-weaker}
use Rattle.nk_topo.specs.Topology.{SwitchPorts, Topology, IsTopology, numbers_of, ports_of, is_port}
use Rattle.nk_topo.proofs.Insides.{are_ports}
use Rattle.nk_store.specs.StoreState.{StoreState, Grows, IsChild}
use Rattle.nk_compile.specs.PacketSets.{IsSetInRange, IsConstantSet, IsChildSet}
use Rattle.nk_compile.specs.Children.{IsBeside}
use Rattle.nk_compile.specs.Ports.{counts, is_counted, with_sets}
use Rattle.nk_compile.proofs.SetLemmas.{child_set_grows}
use Rattle.nk_compile.proofs.ChildLemmas.{set_beside}

-- a port that counts is a declared one that counts
counted_is : (only : Bool) (t : Topology) (sw pt : ℕ) → (is_port t sw pt && counts only t sw pt) ≡ is_counted only t sw pt
counted_is true t sw pt = refl
counted_is false t sw pt = with_true (is_port t sw pt)
  where
    with_true : (b : Bool) → (b && true) ≡ b
    with_true true = refl
    with_true false = refl

-- a port is declared only at a declared switch
declared_there : (a m : ℕ) (ss : List SwitchPorts) →
    (list_any (λ n. n == a) (map (λ (s : SwitchPorts). s.switch) ss) && list_any (λ (s : SwitchPorts). (s.switch == a) && list_any (λ p. p == m) s.ports) ss)
    ≡ list_any (λ (s : SwitchPorts). (s.switch == a) && list_any (λ p. p == m) s.ports) ss
declared_there a m [] = refl
declared_there a m (s ∷ ss) =
    step (s.switch == a) (list_any (λ p. p == m) s.ports)
    (list_any (λ n. n == a) (map (λ (r : SwitchPorts). r.switch) ss))
    (list_any (λ (r : SwitchPorts). (r.switch == a) && list_any (λ p. p == m) r.ports) ss)
    (declared_there a m ss)
  where
    step : (x y u v : Bool) → (u && v) ≡ v → ((x || u) && ((x && y) || v)) ≡ ((x && y) || v)
    step true y u v e = refl
    step false y u v e = e

-- nor does it count at another one
counted_there : (only : Bool) (t : Topology) (a m : ℕ) → (list_any (λ n. n == a) (numbers_of t) && is_counted only t a m) ≡ is_counted only t a m
counted_there only t a m =
    ap (λ b. list_any (λ n. n == a) (numbers_of t) && b) (sym (counted_is only t a m))
    ∙ through (list_any (λ n. n == a) (numbers_of t)) (is_port t a m) (counts only t a m) (declared_there a m t.switches)
    ∙ counted_is only t a m
  where
    through : (n p k : Bool) → (n && p) ≡ p → (n && (p && k)) ≡ (p && k)
    through true p k e = refl
    through false false k e = refl
    through false true k e = absurd (false≢true e)

-- one of two sets
set_of : (st : StoreState) (f none all : ℕ) (b : Bool) → IsConstantSet st none false → IsConstantSet st all true →
    IsSetInRange st (if b then all else none) (λ pk. b)
set_of st f none all true n a = a.set
set_of st f none all false n a = n.set

-- all packets or none are a child of each field's nodes
pub constant_child : (st : StoreState) (f d : ℕ) (b : Bool) → f < 18 → IsConstantSet st d b → IsChild st f d
constant_child st f d b l k = record { id = k.set.id; later = omega (arith, k.root_field_is, l) }

child_of : (st : StoreState) (f none all : ℕ) (b : Bool) → f < 18 → IsConstantSet st none false → IsConstantSet st all true →
    IsChild st f (if b then all else none)
child_of st f none all true l n a = constant_child st f all true l a
child_of st f none all false l n a = constant_child st f none false l n

-- the values beside the sets are the ports
firsts : (g : ℕ → ℕ) (ps : List ℕ) → map (λ (c : ℕ × ℕ). c.0) (map (λ p. (p, g p)) ps) ≡ ps
firsts g [] = refl
firsts g (p ∷ ps) = ap (λ l. p ∷ l) (firsts g ps)

-- what the ports of a switch with their sets are
pub record AreSwitchSets (st : StoreState) (only : Bool) (t : Topology) (sw : ℕ) (cs : List (ℕ × ℕ)) : Type 0 where
  pub ascend : AllPairs (λ v w. v < w) (map (λ (c : ℕ × ℕ). c.0) cs)
  pub children : All (λ (c : ℕ × ℕ). IsChild st 1 c.1) cs
  pub sets : All (λ (c : ℕ × ℕ). IsSetInRange st c.1 (λ pk. counts only t sw c.0)) cs
  pub values : (pt : ℕ) → is_port t sw pt ≡ list_any (λ n. n == pt) (map (λ (c : ℕ × ℕ). c.0) cs)

pub switch_sets : (st : StoreState) (only : Bool) (t : Topology) (sw none all : ℕ) (given cs : List (ℕ × ℕ)) → IsTopology t →
    IsConstantSet st none false → IsConstantSet st all true → given ≡ cs → cs ≡ with_sets only t sw none all (ports_of t sw) →
    AreSwitchSets st only t sw given
switch_sets st only t sw none all given cs is n a same made =
    let ps : List ℕ = ports_of t sw in
    let g : ℕ → ℕ = λ p. if counts only t sw p then all else none in
    let e : given ≡ map (λ p. (p, g p)) ps = same ∙ made in
    let are = are_ports t sw ps is refl in
    let values : ps ≡ map (λ (c : ℕ × ℕ). c.0) given = sym (ap (map (λ (c : ℕ × ℕ). c.0)) e ∙ firsts g ps) in
    record {
      ascend = subst (AllPairs (λ v w. v < w)) values are.ascend;
      children = subst (All (λ (c : ℕ × ℕ). IsChild st 1 c.1)) (sym e)
          (All-map (λ (c : ℕ × ℕ). IsChild st 1 c.1) (λ p. (p, g p)) ps (λ k d l. child_of st 1 none all (counts only t sw (get_or ps k d)) (omega arith) n a));
      sets = subst (All (λ (c : ℕ × ℕ). IsSetInRange st c.1 (λ pk. counts only t sw c.0))) (sym e)
          (All-map (λ (c : ℕ × ℕ). IsSetInRange st c.1 (λ pk. counts only t sw c.0)) (λ p. (p, g p)) ps (λ k d l. set_of st 1 none all (counts only t sw (get_or ps k d)) n a));
      values = λ pt. are.each pt ∙ ap (list_any (λ n. n == pt)) values;
    }

-- the set of a switch's ports
pub at_switch_set : (st new : StoreState) (only : Bool) (t : Topology) (sw none d : ℕ) (cs : List (ℕ × ℕ)) → Grows st new → IsConstantSet st none false →
    AreSwitchSets st only t sw cs → IsBeside st 1 none cs new d → IsChildSet new 0 d (λ pk. is_counted only t sw (slice_index pk 1))
at_switch_set st new only t sw none d cs g n are h =
    let found : IsSetInRange new d (λ pk. list_any (λ p. p == slice_index pk 1) (map (λ (c : ℕ × ℕ). c.0) cs) && counts only t sw (slice_index pk 1)) =
    set_beside st new 1 none d (λ p pk. counts only t sw p) cs g h n.set are.sets in
    record {
      set = record {
        id = found.id;
        at = λ pk r.
            found.at pk r
            ∙ ap (λ b. b && counts only t sw (slice_index pk 1)) (sym (are.values (slice_index pk 1)))
            ∙ counted_is only t sw (slice_index pk 1);
      };
      later = omega (arith, h.later);
    }

-- the ports that count of each switch, as children of a node by the switch
abbrev pub AreSwitches : StoreState → Bool → Topology → List (ℕ × ℕ) → Type 0
AreSwitches st only t cs = All (λ (c : ℕ × ℕ). IsChildSet st 0 c.1 (λ pk. is_counted only t c.0 (slice_index pk 1))) cs

-- one switch more
pub switches_more : (st new : StoreState) (only : Bool) (t : Topology) (sw d : ℕ) (cs more : List (ℕ × ℕ)) → Grows st new → more ≡ cs ++ (sw, d) ∷ [] →
    IsChildSet new 0 d (λ pk. is_counted only t sw (slice_index pk 1)) → AreSwitches st only t cs → AreSwitches new only t more
switches_more st new only t sw d cs more g put one sets =
    let P : ℕ × ℕ → Type 0 = λ c. IsChildSet new 0 c.1 (λ pk. is_counted only t c.0 (slice_index pk 1)) in
    subst (All P) (sym put)
    (All-push P cs (sw, d)
    (All-weaker (λ (c : ℕ × ℕ). IsChildSet st 0 c.1 (λ pk. is_counted only t c.0 (slice_index pk 1))) P
    (λ c k. child_set_grows st new 0 c.1 (λ pk. is_counted only t c.0 (slice_index pk 1)) g k) cs sets) one)

pub numbers_more : (i sw d : ℕ) (ns : List ℕ) (cs more : List (ℕ × ℕ)) → i < length ns → sw ≡ get_or ns i 0 → more ≡ cs ++ (sw, d) ∷ [] →
    map (λ (c : ℕ × ℕ). c.0) cs ≡ take i ns → map (λ (c : ℕ × ℕ). c.0) more ≡ take (i + 1) ns
numbers_more i sw d ns cs more l is put e =
    ap (map (λ (c : ℕ × ℕ). c.0)) put ∙ map_push (λ (c : ℕ × ℕ). c.0) cs (sw, d)
    ∙ ap (λ l. l ++ sw ∷ []) e ∙ ap (λ n. take i ns ++ n ∷ []) is ∙ sym (take_more ns i 0 l)

-- the numbers of the switches ascend
pub numbers_ascend : (t : Topology) → IsTopology t → AllPairs (λ v w. v < w) (numbers_of t)
numbers_ascend t is i j d l m =
    let e : SwitchPorts = record { switch = 0; ports = [] } in
    let within : j < length t.switches = omega (arith, m, many t.switches) in
    let low : get_or (numbers_of t) i d ≡ (get_or t.switches i e).switch = get_or-map (λ (s : SwitchPorts). s.switch) t.switches i e d (omega (arith, l, within)) in
    let high : get_or (numbers_of t) j d ≡ (get_or t.switches j e).switch = get_or-map (λ (s : SwitchPorts). s.switch) t.switches j e d within in
    omega (arith, low, high, is.switches i j e l within)
  where
    many : (ss : List SwitchPorts) → length (map (λ (s : SwitchPorts). s.switch) ss) ≡ length ss
    many [] = refl
    many (s ∷ ss) = ap suc (many ss)

-- the set of the ports of all switches
pub at_ports_set : (st new : StoreState) (only : Bool) (t : Topology) (none d : ℕ) (cs : List (ℕ × ℕ)) → Grows st new → IsConstantSet st none false →
    map (λ (c : ℕ × ℕ). c.0) cs ≡ numbers_of t → AreSwitches st only t cs → IsBeside st 0 none cs new d →
    IsSetInRange new d (λ pk. is_counted only t (slice_index pk 0) (slice_index pk 1))
at_ports_set st new only t none d cs g n numbers sets h =
    let found : IsSetInRange new d (λ pk. list_any (λ p. p == slice_index pk 0) (map (λ (c : ℕ × ℕ). c.0) cs) && is_counted only t (slice_index pk 0) (slice_index pk 1)) =
    set_beside st new 0 none d (λ sw pk. is_counted only t sw (slice_index pk 1)) cs g h n.set (λ k e l. (sets k e l).set) in
    record {
      id = found.id;
      at = λ pk r.
          found.at pk r
          ∙ ap (λ ns. list_any (λ p. p == slice_index pk 0) ns && is_counted only t (slice_index pk 0) (slice_index pk 1)) numbers
          ∙ counted_there only t (slice_index pk 0) (slice_index pk 1);
    }
