-- Virtual links: what is known of one without fault, and what more declarations leave of those that are there.
use Rattle.std.proofs.Common.{◌≡◌, ℕ, ◌≤◌, ◌<◌, ◌&&◌, ◌||◌, Bool, true, false, cond, not, min, Some, None, Ok, Err, List, [], ◌∷◌, ◌++◌, length, get_or, refl, sym, ap, subst, ◌∙◌, arith}
use Rattle.std.specs.Prelude.{◌==◌, nat_lt, is_some, map, option_map, All, IsTrue, IsErrAnd, MatchResult, if◌then◌else◌}
use Rattle.std.specs.List.{list_any, prefix_len}
use Rattle.std.specs.declared.result.Result.{Result}
use Rattle.std.proofs.lemmas.Bool.Decides.{nat_tests}
use Rattle.std.proofs.lemmas.List.Elements.{All-nil, All-push}
use Rattle.std.proofs.lemmas.List.Folds.{list_any-append, list_any_at}
use Rattle.std.proofs.lemmas.List.Quantifiers.{all_pairs_push}
use Rattle.nk_field.specs.Packet.{FieldTable}
use Rattle.nk_topo.specs.Topology.{Topology, SwitchPorts, is_port, is_target, link_from, target_among, with_switch, ascending}
use Rattle.nk_topo.proofs.Orders.{any_insert}
use Rattle.nk_policy.specs.Policy.{Policy}
use Rattle.nk_lex.specs.declared.ident.Ident.{Ident}
use Rattle.nk_lex.specs.declared.ident.Number.{Number}
use Rattle.nk_lex.specs.Faults.{first_of}
use Rattle.nk_declare.specs.declared.fault.DeclareFault.TheVariants as fault
use Rattle.nk_declare.specs.Declarations.{MaybeFault, fault_if, above, links_ends, link_fault}
use Rattle.nk_declare.proofs.Checks.{none_both, not_wrong, in_bound}
use Rattle.nk_names.specs.declared.fault.FaultKind.TheVariants as kind
use Rattle.nk_names.specs.declared.fault.NamesError.{NamesError}
use Rattle.nk_names.specs.Meant.{Lets, MaybeTextFault, text_fault_if, value_above, literal_ends}
use Rattle.nk_names.specs.ProgramOf.{text_fault_of, virtual_topology, virtual_over}
use Rattle.nk_names.specs.ProgramValue.{VirtualLink, IsLet, AreVirtual, HaveOneSource, HaveOneTarget}
use Rattle.nk_names.specs.Virtual.{is_among}
use Rattle.nk_names.proofs.Declarations.{in_bound as bounded}

-- whether a virtual link begins at the port
abbrev pub begins : List VirtualLink → ℕ → ℕ → Bool
begins links sw pt = list_any (λ k. (k.ends.from_switch == sw) && (k.ends.from_port == pt)) links

-- whether one ends there
abbrev pub ends_at : List VirtualLink → ℕ → ℕ → Bool
ends_at links sw pt = list_any (λ k. (k.ends.to_switch == sw) && (k.ends.to_port == pt)) links

-- a link leads from a port exactly where a virtual link begins
source_is : (links : List VirtualLink) (sw pt : ℕ) → begins links sw pt ≡ is_some (target_among (map (λ k. k.ends) links) sw pt)
source_is [] sw pt = refl
source_is (k ∷ links) sw pt = by ((k.ends.from_switch == sw) && (k.ends.from_port == pt)) (source_is links sw pt)
  where
    by : (b : Bool) → begins links sw pt ≡ is_some (target_among (map (λ l. l.ends) links) sw pt)
        → (b || begins links sw pt)
        ≡ is_some (if b then Some (k.ends.to_switch, k.ends.to_port) else target_among (map (λ l. l.ends) links) sw pt)
    by true h = refl
    by false h = h

pub source_there : (topo : Topology) (links : List VirtualLink) (sw pt : ℕ)
    → begins links sw pt ≡ is_some (link_from (virtual_topology topo links) sw pt)
source_there topo links sw pt = source_is links sw pt

-- and to a port where one ends
pub target_there : (topo : Topology) (links : List VirtualLink) (sw pt : ℕ)
    → ends_at links sw pt ≡ is_target (virtual_topology topo links) sw pt
target_there topo [] sw pt = refl
target_there topo (k ∷ links) sw pt =
    ap (λ b. ((k.ends.to_switch == sw) && (k.ends.to_port == pt)) || b) (target_there topo links sw pt)

-- ---- the ports of the virtual links, with one more

either : (a b : Bool) → cond a true b ≡ (b || (a || false))
either true true = refl
either false true = refl
either a b = refl

-- one more port is found by itself, and the others as before
pub ports_with : (test : VirtualLink → ℕ → ℕ → Bool) (links more : List VirtualLink) (k : VirtualLink) (old new : List (ℕ × ℕ)) (p : ℕ × ℕ)
    → more ≡ links ++ k ∷ []
    → ((sw pt : ℕ) → is_among old sw pt ≡ list_any (λ l. test l sw pt) links)
    → ((sw pt : ℕ) → test k sw pt ≡ ((p.0 == sw) && (p.1 == pt)))
    → ((q : ℕ × ℕ) → is_among new q.0 q.1 ≡ cond ((p.0 == q.0) && (p.1 == q.1)) true (is_among old q.0 q.1))
    → (sw pt : ℕ) → is_among new sw pt ≡ list_any (λ l. test l sw pt) more
ports_with test links more k old new p is are own added sw pt =
    added (sw, pt)
    ∙ either ((p.0 == sw) && (p.1 == pt)) (is_among old sw pt)
    ∙ ap (λ b. b || (((p.0 == sw) && (p.1 == pt)) || false)) (are sw pt)
    ∙ ap (λ b. list_any (λ l. test l sw pt) links || (b || false)) (sym (own sw pt))
    ∙ sym (list_any-append (λ l. test l sw pt) links (k ∷ []))
    ∙ ap (list_any (λ l. test l sw pt)) (sym is)

-- ---- faults

-- a first fault, as a program's
map_first : (a b : MaybeFault) → option_map text_fault_of (first_of a b) ≡ first_of (option_map text_fault_of a) (option_map text_fault_of b)
map_first None b = refl
map_first (Some e) b = refl

-- the fault of a test, as a program's
fault_is : (b : Bool) (k : _) (line : ℕ) → option_map text_fault_of (fault_if b k line) ≡ text_fault_if b (kind.Common k) line
fault_is true k line = refl
fault_is false k line = refl

above_is : (most : ℕ) (n : Number) → option_map text_fault_of (above most n) ≡ value_above most n
above_is most n = fault_is (nat_lt most n.value) fault.ValueOutOfRange n.line

-- what is first, where both are the same
both_firsts : (a b c d : MaybeTextFault) → a ≡ c → b ≡ d → first_of a b ≡ first_of c d
both_firsts a b c d e f = ap (λ x. first_of x b) e ∙ ap (first_of c) f

-- the numbers of a link have the faults of those of a literal
pub ends_alike : (a m b n : Number) → option_map text_fault_of (links_ends a m b n) ≡ literal_ends a m b n
ends_alike a m b n =
    map_first (first_of (first_of (above 65535 a) (above 65535 m)) (above 65535 b)) (above 65535 n)
    ∙ both_firsts _ _ _ _
    (map_first (first_of (above 65535 a) (above 65535 m)) (above 65535 b)
    ∙ both_firsts _ _ _ _
    (map_first (above 65535 a) (above 65535 m) ∙ both_firsts _ _ _ _ (above_is 65535 a) (above_is 65535 m))
    (above_is 65535 b))
    (above_is 65535 n)

-- the first fault of the ends of a virtual link, as a program's
abbrev pub ends_fault : Topology → List VirtualLink → Number → Number → Number → Number → MaybeTextFault
ends_fault topo links a m b n = option_map text_fault_of (link_fault (virtual_topology topo links) a m b n)

-- the first of these tests that passes: no such port, twice; a virtual link begins there, or ends there
abbrev tested : Topology → List VirtualLink → (a m b n source target : ℕ) → MaybeTextFault
tested topo links a m b n source target =
    first_of
    (first_of (text_fault_if (not (is_port topo a m)) (kind.Common fault.NoSuchPort) source) (text_fault_if (not (is_port topo b n)) (kind.Common fault.NoSuchPort) target))
    (first_of (text_fault_if (begins links a m) (kind.Common fault.SourceTwice) source) (text_fault_if (ends_at links b n) (kind.Common fault.TargetTwice) target))

-- it is that of the numbers, and then the first that passes
ends_tested : (topo : Topology) (links : List VirtualLink) (a m b n : Number)
    → ends_fault topo links a m b n ≡ first_of (literal_ends a m b n) (tested topo links a.value m.value b.value n.value m.line n.line)
ends_tested topo links a m b n =
    let virtuals = virtual_topology topo links in
    let no_source = fault_if (not (is_port topo a.value m.value)) fault.NoSuchPort m.line in
    let no_target = fault_if (not (is_port topo b.value n.value)) fault.NoSuchPort n.line in
    let from_twice = fault_if (is_some (link_from virtuals a.value m.value)) fault.SourceTwice m.line in
    let to_twice = fault_if (is_target virtuals b.value n.value) fault.TargetTwice n.line in
    map_first (links_ends a m b n) (first_of (first_of no_source no_target) (first_of from_twice to_twice))
    ∙ both_firsts _ _ _ _ (ends_alike a m b n)
    (map_first (first_of no_source no_target) (first_of from_twice to_twice)
    ∙ both_firsts _ _ _ _
    (map_first no_source no_target
    ∙ both_firsts _ _ _ _
    (fault_is (not (is_port topo a.value m.value)) fault.NoSuchPort m.line)
    (fault_is (not (is_port topo b.value n.value)) fault.NoSuchPort n.line))
    (map_first from_twice to_twice
    ∙ both_firsts _ _ _ _
    (fault_is (is_some (link_from virtuals a.value m.value)) fault.SourceTwice m.line
    ∙ ap (λ t. text_fault_if t (kind.Common fault.SourceTwice) m.line) (sym (source_there topo links a.value m.value)))
    (fault_is (is_target virtuals b.value n.value) fault.TargetTwice n.line
    ∙ ap (λ t. text_fault_if t (kind.Common fault.TargetTwice) n.line) (sym (target_there topo links b.value n.value)))))

-- a number without fault is that of a port
within : (k : Number) → value_above 65535 k ≡ None → min k.value 65535 ≡ k.value
within k h = let le = bounded 65535 k h in omega (arith, le)

-- numbers without fault are those of ports, and then the tests tell
pub ends_in_range : (topo : Topology) (links : List VirtualLink) (a m b n : Number) → literal_ends a m b n ≡ None
    → ends_fault topo links a m b n
    ≡ tested topo links (min a.value 65535) (min m.value 65535) (min b.value 65535) (min n.value 65535) m.line n.line
ends_in_range topo links a m b n h =
    let three = none_both _ _ h in
    let two = none_both _ _ three.0 in
    let one = none_both _ _ two.0 in
    ends_tested topo links a m b n
    ∙ ap (λ o. first_of o (tested topo links a.value m.value b.value n.value m.line n.line)) h
    ∙ sym (ap (λ k. tested topo links k (min m.value 65535) (min b.value 65535) (min n.value 65535) m.line n.line) (within a one.0)
    ∙ ap (λ k. tested topo links a.value k (min b.value 65535) (min n.value 65535) m.line n.line) (within m one.1)
    ∙ ap (λ k. tested topo links a.value m.value k (min n.value 65535) m.line n.line) (within b two.1)
    ∙ ap (λ k. tested topo links a.value m.value b.value k m.line n.line) (within n three.1))

-- what is known of the ends of a virtual link without fault
pub record IsFree (topo : Topology) (links : List VirtualLink) (a m b n : Number) : Type 0 where
  pub a_small : a.value ≤ 65535
  pub m_small : m.value ≤ 65535
  pub b_small : b.value ≤ 65535
  pub n_small : n.value ≤ 65535
  pub source : IsTrue (is_port topo a.value m.value)
  pub target : IsTrue (is_port topo b.value n.value)
  pub one_from : begins links a.value m.value ≡ false
  pub one_to : ends_at links b.value n.value ≡ false

holds : (b : Bool) → not b ≡ false → b ≡ true
holds true e = refl
holds false e = absurd cc

pub free : (topo : Topology) (links : List VirtualLink) (a m b n : Number)
    → link_fault (virtual_topology topo links) a m b n ≡ None → IsFree topo links a m b n
free topo links a m b n none =
    let parts = none_both (links_ends a m b n) _ none in
    let three = none_both _ _ parts.0 in
    let two = none_both _ _ three.0 in
    let one = none_both _ _ two.0 in
    let rest = none_both _ _ parts.1 in
    let ends = none_both _ _ rest.0 in
    let once = none_both _ _ rest.1 in
    record {
      a_small = in_bound 65535 a one.0;
      m_small = in_bound 65535 m one.1;
      b_small = in_bound 65535 b two.1;
      n_small = in_bound 65535 n three.1;
      source = holds _ (not_wrong _ fault.NoSuchPort m.line ends.0);
      target = holds _ (not_wrong _ fault.NoSuchPort n.line ends.1);
      one_from = source_there topo links a.value m.value ∙ not_wrong _ fault.SourceTwice m.line once.0;
      one_to = target_there topo links b.value n.value ∙ not_wrong _ fault.TargetTwice n.line once.1;
    }

-- and then the first that passes of tests that were made
pub ends_by_tests : (topo : Topology) (links : List VirtualLink) (a m b n : Number) (a' m' b' n' : ℕ) (no_source no_target from_twice to_twice : Bool)
    → literal_ends a m b n ≡ None
    → a' ≡ min a.value 65535 → m' ≡ min m.value 65535 → b' ≡ min b.value 65535 → n' ≡ min n.value 65535
    → no_source ≡ not (is_port topo a' m') → no_target ≡ not (is_port topo b' n')
    → from_twice ≡ is_some (link_from (virtual_topology topo links) a' m') → to_twice ≡ is_target (virtual_topology topo links) b' n'
    → ends_fault topo links a m b n
    ≡ first_of
    (first_of (text_fault_if no_source (kind.Common fault.NoSuchPort) m.line) (text_fault_if no_target (kind.Common fault.NoSuchPort) n.line))
    (first_of (text_fault_if from_twice (kind.Common fault.SourceTwice) m.line) (text_fault_if to_twice (kind.Common fault.TargetTwice) n.line))
ends_by_tests topo links a m b n a' m' b' n' no_source no_target from_twice to_twice none ea em eb en e2 e3 e4 e5 =
    ends_in_range topo links a m b n none
    ∙ sym (ap (λ k. tested topo links k m' b' n' m.line n.line) ea
    ∙ ap (λ k. tested topo links (min a.value 65535) k b' n' m.line n.line) em
    ∙ ap (λ k. tested topo links (min a.value 65535) (min m.value 65535) k n' m.line n.line) eb
    ∙ ap (λ k. tested topo links (min a.value 65535) (min m.value 65535) (min b.value 65535) k m.line n.line) en)
    ∙ sym (both_firsts _ _ _ _
    (both_firsts _ _ _ _ (ap (λ t. text_fault_if t (kind.Common fault.NoSuchPort) m.line) e2) (ap (λ t. text_fault_if t (kind.Common fault.NoSuchPort) n.line) e3))
    (both_firsts _ _ _ _
    (ap (λ t. text_fault_if t (kind.Common fault.SourceTwice) m.line) (e4 ∙ sym (source_there topo links a' m')))
    (ap (λ t. text_fault_if t (kind.Common fault.TargetTwice) n.line) (e5 ∙ sym (target_there topo links b' n')))))

-- the third of four, and the fourth
pub third : (o p q r : MaybeTextFault) (e : NamesError) → o ≡ None → p ≡ None → q ≡ Some e → first_of (first_of o p) (first_of q r) ≡ Some e
third o p q r e f g h = ap (λ x. first_of (first_of x p) (first_of q r)) f ∙ ap (λ x. first_of x (first_of q r)) g ∙ ap (λ x. first_of x r) h

pub fourth : (o p q r : MaybeTextFault) → o ≡ None → p ≡ None → q ≡ None → first_of (first_of o p) (first_of q r) ≡ r
fourth o p q r f g h = ap (λ x. first_of (first_of x p) (first_of q r)) f ∙ ap (λ x. first_of x (first_of q r)) g ∙ ap (λ x. first_of x r) h

-- no fault of a program's is no declaration's
pub no_fault_in : (o : MaybeFault) → option_map text_fault_of o ≡ None → o ≡ None
no_fault_in None h = refl
no_fault_in (Some e) h = absurd cc

-- what the last test tells
pub told_last : (r : Result (Unit {0}) NamesError) (d : MaybeFault) (o : MaybeTextFault) → option_map text_fault_of d ≡ o
    → MatchResult r (λ _. o ≡ None) (λ e. o ≡ Some e) → MatchResult r (λ _. d ≡ None) (λ e. option_map text_fault_of d ≡ Some e)
told_last (Ok x) d o h is = no_fault_in d (h ∙ is)
told_last (Err e) d o h is = h ∙ is

-- what a refusal answers
pub refused_with : {X : Type 0} (r : Result X NamesError) (e : NamesError) (P : X → Type 0) (Q : NamesError → Type 0)
    → IsErrAnd r (λ x. x ≡ e) → Q e → MatchResult r P Q
refused_with (Ok x) e P Q h q = absurd h
refused_with (Err d) e P Q h q = subst Q (sym h) q

-- ---- what is kept

-- what passes at a place passes for some
not_none : (test : VirtualLink → Bool) (links : List VirtualLink) → list_any test links ≡ false
    → (i : ℕ) (d : VirtualLink) → i < length links → test (get_or links i d) ≡ true → ⊥
not_none test links none i d lt there = let some = list_any_at test links i d lt there in absurd cc

both_same : (a b c d : ℕ) → a ≡ c → b ≡ d → ((a == c) && (b == d)) ≡ true
both_same a b c d e f = grind (arith, nat_tests, e, f)

-- what holds of all, and then another
pub all_over : {X : Type 0} (P Q : X → Type 0) (xs : List X) → ((x : X) → P x → Q x) → All P xs → All Q xs
all_over P Q xs f h = λ k d lt. f (get_or xs k d) (h k d lt)

-- before the first declaration
pub none_virtual : (fields : FieldTable) (topo : Topology) → AreVirtual fields topo [] []
none_virtual fields topo = record {
  policies = All-nil (λ f. IsLet fields f.1);
  over = All-nil (λ k. IsLet fields k.fabric);
  sources = All-nil (λ k. IsTrue (is_port topo k.ends.from_switch k.ends.from_port));
  targets = All-nil (λ k. IsTrue (is_port topo k.ends.to_switch k.ends.to_port));
  one_from = λ i j d lt within. absurd (omega (arith, within));
  one_to = λ i j d lt within. absurd (omega (arith, within));
}

-- with other fields, over which each policy is one too
pub virtual_over_fields : (fields more : FieldTable) (topo : Topology) (fabrics : Lets) (links : List VirtualLink)
    → ((p : Policy) → IsLet fields p → IsLet more p) → AreVirtual fields topo fabrics links → AreVirtual more topo fabrics links
virtual_over_fields fields more topo fabrics links wider h = record {
  policies = all_over (λ f. IsLet fields f.1) (λ f. IsLet more f.1) fabrics (λ f. wider f.1) h.policies;
  over = all_over (λ k. IsLet fields k.fabric) (λ k. IsLet more k.fabric) links (λ k. wider k.fabric) h.over;
  sources = h.sources;
  targets = h.targets;
  one_from = h.one_from;
  one_to = h.one_to;
}

-- a declared port stays declared with one more switch
port_stays : (topo : Topology) (n : ℕ) (ports : List ℕ) (sw pt : ℕ) → IsTrue (is_port topo sw pt) → IsTrue (is_port (with_switch topo n ports) sw pt)
port_stays topo n ports sw pt there =
    let test = λ (s : SwitchPorts). (s.switch == sw) && list_any (λ p. p == pt) s.ports in
    let new : SwitchPorts = record { switch = n; ports = ascending ports } in
    any_insert test topo.switches (prefix_len (λ s. nat_lt s.switch n) topo.switches) new
    ∙ ap (λ b. test new || b) there
    ∙ or_true (test new)
  where
    or_true : (b : Bool) → (b || true) ≡ true
    or_true true = refl
    or_true false = refl

pub virtual_with_switch : (fields : FieldTable) (topo : Topology) (n : ℕ) (ports : List ℕ) (fabrics : Lets) (links : List VirtualLink)
    → AreVirtual fields topo fabrics links → AreVirtual fields (with_switch topo n ports) fabrics links
virtual_with_switch fields topo n ports fabrics links h = record {
  policies = h.policies;
  over = h.over;
  sources = λ i d lt. port_stays topo n ports (get_or links i d).ends.from_switch (get_or links i d).ends.from_port (h.sources i d lt);
  targets = λ i d lt. port_stays topo n ports (get_or links i d).ends.to_switch (get_or links i d).ends.to_port (h.targets i d lt);
  one_from = h.one_from;
  one_to = h.one_to;
}

-- one more fabric
pub virtual_with_fabric : (fields : FieldTable) (topo : Topology) (fabrics : Lets) (links : List VirtualLink) (name : List ℕ) (p : Policy)
    → IsLet fields p → AreVirtual fields topo fabrics links → AreVirtual fields topo (fabrics ++ (name, p) ∷ []) links
virtual_with_fabric fields topo fabrics links name p is h = record {
  policies = All-push (λ f. IsLet fields f.1) fabrics (name, p) h.policies is;
  over = h.over;
  sources = h.sources;
  targets = h.targets;
  one_from = h.one_from;
  one_to = h.one_to;
}

-- one more virtual link
pub virtual_with_link : (fields : FieldTable) (topo : Topology) (fabrics : Lets) (links : List VirtualLink) (a m b n : Number) (w : Ident)
    → IsFree topo links a m b n → IsLet fields (virtual_over fabrics a m b n w).fabric
    → AreVirtual fields topo fabrics links → AreVirtual fields topo fabrics (links ++ virtual_over fabrics a m b n w ∷ [])
virtual_with_link fields topo fabrics links a m b n w f is h =
    let k = virtual_over fabrics a m b n w in
    record {
      policies = h.policies;
      over = All-push (λ l. IsLet fields l.fabric) links k h.over is;
      sources = All-push (λ l. IsTrue (is_port topo l.ends.from_switch l.ends.from_port)) links k h.sources f.source;
      targets = All-push (λ l. IsTrue (is_port topo l.ends.to_switch l.ends.to_port)) links k h.targets f.target;
      one_from = all_pairs_push (λ l r. ¬ (HaveOneSource l r)) links k h.one_from
          (λ i d lt same. not_none (λ l. (l.ends.from_switch == a.value) && (l.ends.from_port == m.value)) links f.one_from i d lt
          (both_same (get_or links i d).ends.from_switch (get_or links i d).ends.from_port a.value m.value same.0 same.1));
      one_to = all_pairs_push (λ l r. ¬ (HaveOneTarget l r)) links k h.one_to
          (λ i d lt same. not_none (λ l. (l.ends.to_switch == b.value) && (l.ends.to_port == n.value)) links f.one_to i d lt
          (both_same (get_or links i d).ends.to_switch (get_or links i d).ends.to_port b.value n.value same.0 same.1));
    }
