-- What holds of what is declared is kept by each declaration without fault.
use Rattle.std.proofs.Common.{◌≡◌, ◌≢◌, ◌≤◌, ◌<◌, ℕ, zero, suc, List, [], ◌∷◌, ◌++◌, inl, inr, ⊎_elim, Bool, true, false, Option, Some, None, Ok, Err, not, length, get_or, refl, sym, ap, subst, ◌∙◌, append_assoc, append-nil, arith, codes}
use Rattle.std.specs.Prelude.{All, AllPairs, IsNone, IsTrue, is_some, nat_lt, nat_le}
use Rattle.std.specs.List.{AllByRecursion}
use Rattle.std.specs.Str.{bytes_eq}
use Rattle.std.specs.declared.result.Result.{Result}
use Rattle.std.proofs.lemmas.Bool.Decides.{nat_tests}
use Rattle.std.proofs.lemmas.List.Elements.{All-nil, All-cons, All-append}
use Rattle.std.proofs.lemmas.List.Quantifiers.{position-Some}
use Rattle.nk_lex.specs.Lex.{largest}
use Rattle.nk_lex.specs.Spelling.{IsName}
use Rattle.nk_field.specs.Packet.{FieldTable, IsFieldTable, built_in, field_named, with_field}
use Rattle.nk_field.proofs.FieldTables.{with_field_is}
use Rattle.nk_topo.specs.Topology.{Topology, SwitchPorts, Link, IsTopology, AreLinks, no_topology, placed, starts_below, ascending, has_double, is_switch, link_from, with_switch}
use Rattle.nk_topo.proofs.Members.{In, in_from_contains, all_from_members, pairs_from_order, placed_after, placed_front, in_placed}
use Rattle.nk_topo.proofs.Orders.{ascending_rises}
use Rattle.nk_topo.proofs.Kept.{kept_with_switch, kept_with_link}
use Rattle.nk_lex.specs.declared.ident.Ident.{Ident}
use Rattle.nk_lex.specs.declared.ident.Number.{Number}
use Rattle.nk_lex.specs.Faults.{and_then, unless}
use Rattle.nk_declare.specs.declared.fault.DeclareFault.TheVariants as fault
use Rattle.nk_declare.specs.Declarations.{NetworkDeclaration, field, tag, switch, link, DeclaredValue, is_from, field_fault, tag_fault, ports_fault, links_ends, link_with, values_of, declared_with, declared_after}
use Rattle.nk_declare.specs.Kept.{IsWritable, IsDeclarable, HasFieldOfText, HasPort}
use Rattle.nk_declare.proofs.Checks.{none_both, not_wrong, in_bound, once_more}

-- ---- answers without fault

module _ {E X : Type 0} where
  not_ok : (e : E) (x : X) → ◌≡◌ {A = Result X E} (Err e) (Ok x) → ⊥
  not_ok e x h = cc

  pub ok_is : (x y : X) → ◌≡◌ {A = Result X E} (Ok x) (Ok y) → x ≡ y
  ok_is x y h = cc

  -- the value where there is no fault
  pub unless_ok : (o : Option E) (x y : X) → unless o x ≡ Ok y → (o ≡ None) × (x ≡ y)
  unless_ok None x y e = (refl, ok_is x y e)
  unless_ok (Some f) x y e = absurd (not_ok f y e)

-- going on, both steps are without fault
pub both_ok : {X Y E : Type 0} (r : Result X E) (f : X → Result Y E) (y : Y) → and_then r f ≡ Ok y → (x : X) × (r ≡ Ok x) × (f x ≡ Ok y)
both_ok (Ok x) f y e = (x, refl, e)
both_ok (Err x) f y e = absurd (not_ok x y e)

-- ---- fields

-- the two names differ
apart : AllPairs (λ a b. a ≢ b) built_in.names
apart zero zero d lt short = absurd (omega arith)
apart zero (suc zero) d lt short = λ e. let first : ◌≡◌ {A = ℕ} 115 112 = ap (λ l. get_or l 0 0) e in omega arith
apart zero (suc (suc j)) d lt short = absurd (omega arith)
apart (suc i) zero d lt short = absurd (omega arith)
apart (suc i) (suc zero) d lt short = absurd (omega arith)
apart (suc i) (suc (suc j)) d lt short = absurd (omega arith)

-- before the first declaration
pub built_in_writable : IsWritable built_in
built_in_writable = record {
  table = record {
    few = omega arith;
    named = refl;
    built_in_names = refl;
    built_in_maxima = refl;
    distinct = apart;
    tag_past_port = λ f e. absurd cc;
  };
  maxima = All-cons (λ m. m ≤ largest) 65535 (65535 ∷ []) (omega arith)
      (All-cons (λ m. m ≤ largest) 65535 [] (omega arith) (All-nil (λ m. m ≤ largest)));
  names = All-cons IsName (codes "sw") (codes "pt" ∷ []) ((refl, refl), refl)
      (All-cons IsName (codes "pt") [] ((refl, refl), refl) (All-nil IsName));
}

-- what isn't there
pub none_there : {X : Type 0} (o : Option X) → is_some o ≡ false → IsNone o
none_there None h = refl
none_there (Some k) h = absurd cc

-- a field without fault makes a field table
pub table_more : (t : FieldTable) (w : Ident) (max : ℕ) → IsFieldTable t → field_fault t w ≡ None → IsFieldTable (with_field t w.text max)
table_more t w max h none =
    let r = none_both _ _ none in
    with_field_is t w.text max h
    (none_there (field_named t w.text) (not_wrong _ fault.FieldTwice w.line r.0))
    (less (length t.maxima) (not_wrong _ fault.TooManyFields w.line r.1))
  where
    less : (k : ℕ) → nat_le 18 k ≡ false → k < 18
    less k e = grind (arith, nat_tests)

-- a writable table with one more field
field_more : (t : FieldTable) (w : Ident) (n : Number) → IsWritable t → IsName w.text → n.value ≤ largest
    → field_fault t w ≡ None → IsWritable (with_field t w.text n.value)
field_more t w n h is le none = record {
  table = table_more t w n.value h.table none;
  maxima = All-append (λ m. m ≤ largest) t.maxima (n.value ∷ []) h.maxima
      (All-cons (λ m. m ≤ largest) n.value [] le (All-nil (λ m. m ≤ largest)));
  names = All-append IsName t.names (w.text ∷ []) h.names (All-cons IsName w.text [] is (All-nil IsName));
}

-- an index that passes is not below `low`
pub from_low : (low : ℕ) (o : Option ℕ) (f : ℕ) → is_from low o ≡ true → o ≡ Some f → low ≤ f
from_low low None f h e = absurd cc
from_low low (Some k) f h e = let same : k ≡ f = cc in let le : low ≤ k = passes low k h in omega arith
  where
    passes : (m k : ℕ) → nat_le m k ≡ true → m ≤ k
    passes m k h = grind (arith, nat_tests)

-- a test whose negation fails passes
pub holds : (b : Bool) → not b ≡ false → b ≡ true
holds true e = refl
holds false e = absurd cc

-- a field that has a name has a maximum
pub has_maximum : (t : FieldTable) (w : List ℕ) (f : ℕ) → IsFieldTable t → field_named t w ≡ Some f → f < length t.maxima
has_maximum t w f h e = let at = position-Some (bytes_eq w) t.names f [] e in omega (arith, at.0, h.named)

-- a tag without fault makes a field table
pub table_tagged : (t : FieldTable) (w : Ident) → IsFieldTable t → tag_fault t w ≡ None
    → IsFieldTable (record t { tag = field_named t w.text })
table_tagged t w h none =
    let r = none_both _ _ none in
    record {
      few = h.few;
      named = h.named;
      built_in_names = h.built_in_names;
      built_in_maxima = h.built_in_maxima;
      distinct = h.distinct;
      tag_past_port = λ f e.
          (from_low 2 (field_named t w.text) f (holds _ (not_wrong _ fault.TagUnknown w.line r.1)) e, has_maximum t w.text f h e);
    }

-- a writable table with a tag
tag_more : (t : FieldTable) (w : Ident) → IsWritable t → tag_fault t w ≡ None
    → IsWritable (record t { tag = field_named t w.text })
tag_more t w h none = record {
  table = table_tagged t w h.table none;
  maxima = h.maxima;
  names = h.names;
}

-- one more declaration keeps fields that a text can write
pub fields_kept : (s s' : DeclaredValue) (d : NetworkDeclaration) → IsWritable s.fields → HasFieldOfText d → declared_with s d ≡ Ok s'
    → IsWritable s'.fields
fields_kept s s' (field w n) h is e =
    let r = unless_ok _ _ s' e in
    subst (λ x. IsWritable x.fields) r.1 (field_more s.fields w n h is.0 is.1 r.0)
fields_kept s s' (tag w) h is e =
    let r = unless_ok _ _ s' e in
    subst (λ x. IsWritable x.fields) r.1 (tag_more s.fields w h r.0)
fields_kept s s' (switch n ps) h is e = let r = unless_ok _ _ s' e in subst (λ x. IsWritable x.fields) r.1 h
fields_kept s s' (link a m b n) h is e = let r = unless_ok _ _ s' e in subst (λ x. IsWritable x.fields) r.1 h

-- ---- switches and links

-- ports without fault differ
ports_once : (before : List ℕ) (ps : List Number) → has_double before ≡ false → ports_fault before ps ≡ None
    → has_double (before ++ values_of ps) ≡ false
ports_once before [] once none = ap has_double (append-nil before) ∙ once
ports_once before (p ∷ ps) once none =
    let r = none_both _ _ none in
    let q = none_both _ _ r.0 in
    ap has_double (sym (append_assoc before (p.value ∷ []) (values_of ps)))
    ∙ ports_once (before ++ p.value ∷ []) ps (once_more before p.value once (not_wrong _ fault.PortTwice p.line q.1)) r.1

no_links : AreLinks no_topology
no_links = record {
  one = λ l h. absurd (in_from_contains no_topology.links l h);
  declared = λ l h. absurd (in_from_contains no_topology.links l h);
  from_port = λ l h. absurd (in_from_contains no_topology.links l h);
  one_to = λ k l h i. absurd (in_from_contains no_topology.links k h);
}

-- before the first declaration
pub nothing_is_topology : IsTopology no_topology
nothing_is_topology = record {
  switches = pairs_from_order (λ (r s : SwitchPorts). r.switch < s.switch) [] tt;
  ports = all_from_members (λ (s : SwitchPorts). AllPairs (λ p q. p < q) s.ports) [] (λ s i. absurd i);
  sources = pairs_from_order (λ (k l : Link). IsTrue (starts_below l.from_switch l.from_port k)) [] tt;
  links = no_links;
}

-- one more declaration keeps a topology
pub topology_kept : (s s' : DeclaredValue) (d : NetworkDeclaration) → IsTopology s.topo → declared_with s d ≡ Ok s' → IsTopology s'.topo
topology_kept s s' (field w n) h e = let r = unless_ok _ _ s' e in subst (λ x. IsTopology x.topo) r.1 h
topology_kept s s' (tag w) h e = let r = unless_ok _ _ s' e in subst (λ x. IsTopology x.topo) r.1 h
topology_kept s s' (switch n ps) h e =
    let r = unless_ok _ _ s' e in
    let a = none_both _ _ r.0 in
    let b = none_both _ _ a.0 in
    let up : AllPairs (λ p q. p < q) (ascending (values_of ps)) =
    pairs_from_order (λ p q. p < q) (ascending (values_of ps)) (ascending_rises (values_of ps) (ports_once [] ps refl a.1)) in
    subst (λ x. IsTopology x.topo) r.1
    (kept_with_switch s.topo n.value (ascending (values_of ps)) h (not_wrong (is_switch s.topo n.value) fault.SwitchTwice n.line b.1) up)
topology_kept s s' (link a m b n) h e =
    let r = unless_ok _ _ s' e in
    let parts = none_both (links_ends a m b n) _ r.0 in
    let four = none_both _ _ parts.1 in
    let ends = none_both _ _ four.0 in
    let once = none_both _ _ four.1 in
    subst (λ x. IsTopology x.topo) r.1
    (kept_with_link s.topo (link_with a m b n) h
    (holds _ (not_wrong _ fault.NoSuchPort m.line ends.0))
    (holds _ (not_wrong _ fault.NoSuchPort n.line ends.1))
    (none_there (link_from s.topo a.value m.value) (not_wrong _ fault.SourceTwice m.line once.0))
    (not_wrong _ fault.TargetTwice n.line once.1))

-- a switch with a port, whose numbers a text can declare
abbrev pub IsFit : SwitchPorts → Type 0
IsFit s = (s.switch ≤ 65535) × ((p : ℕ) → In s.ports p → p ≤ 65535) × (1 ≤ length s.ports)

abbrev pub AreFit : Topology → Type 0
AreFit t = (s : SwitchPorts) → In t.switches s → IsFit s

-- such a topology, place by place
pub fit_declarable : (t : Topology) → AreFit t → IsDeclarable t
fit_declarable t fit = record {
  switches = all_from_members (λ (r : SwitchPorts). r.switch ≤ 65535) t.switches (λ r i. (fit r i).0);
  ports = all_from_members (λ (r : SwitchPorts). All (λ p. p ≤ 65535) r.ports) t.switches
      (λ r i. all_from_members (λ p. p ≤ 65535) r.ports (fit r i).1);
  some = all_from_members (λ (r : SwitchPorts). 1 ≤ length r.ports) t.switches (λ r i. (fit r i).2);
}

-- a list that something is put into isn't empty
some_placed : {X : Type 0} (before : X → Bool) (x : X) (ys : List X) → 1 ≤ length (placed before x ys)
some_placed before x [] = omega arith
some_placed before x (y ∷ ys) = by (before y) refl
  where
    by : (b : Bool) → before y ≡ b → 1 ≤ length (placed before x (y ∷ ys))
    by true e = subst (λ l. 1 ≤ length l) (sym (placed_after before x y ys e)) (omega arith)
    by false e = subst (λ l. 1 ≤ length l) (sym (placed_front before x y ys e)) (omega arith)

some_ascending : (ns : List ℕ) → 1 ≤ length ns → 1 ≤ length (ascending ns)
some_ascending [] h = h
some_ascending (n ∷ ns) h = some_placed (λ m. nat_lt m n) n (ascending ns)

-- the numbers in order are the numbers
in_ascending : (ns : List ℕ) (n : ℕ) → In (ascending ns) n → In ns n
in_ascending [] n i = i
in_ascending (m ∷ ms) n i =
    ⊎_elim (λ e. inl e) (λ r. inr (in_ascending ms n r)) (in_placed (λ k. nat_lt k m) m (ascending ms) n i)

switch_more : (t : Topology) (n : ℕ) (ports : List ℕ) → AreFit t → n ≤ 65535 → ((p : ℕ) → In ports p → p ≤ 65535)
    → 1 ≤ length ports → AreFit (with_switch t n ports)
switch_more t n ports fit le each some s i =
    ⊎_elim
    (λ e. subst IsFit (sym e) (le, (λ p j. each p (in_ascending ports p j)), some_ascending ports some))
    (λ r. fit s r)
    (in_placed (λ (r : SwitchPorts). nat_lt r.switch n) record { switch = n; ports = ascending ports } t.switches s i)

-- ports without fault are in range
ports_fit : (before : List ℕ) (ps : List Number) → ports_fault before ps ≡ None
    → (v : ℕ) → In (values_of ps) v → v ≤ 65535
ports_fit before [] h v i = absurd i
ports_fit before (p ∷ ps) h v i =
    let r = none_both _ _ h in
    let q = none_both _ _ r.0 in
    ⊎_elim
    (λ e. subst (λ n. n ≤ 65535) (sym e) (in_bound 65535 p q.0))
    (λ j. ports_fit (before ++ p.value ∷ []) ps r.1 v j)
    i

values_many : (ps : List Number) → 1 ≤ length ps → 1 ≤ length (values_of ps)
values_many [] h = h
values_many (p ∷ ps) h = omega arith

-- one more declaration keeps such numbers, each switch with a port
pub numbers_kept : (s s' : DeclaredValue) (d : NetworkDeclaration) → AreFit s.topo → HasPort d → declared_with s d ≡ Ok s' → AreFit s'.topo
numbers_kept s s' (field w n) h has e = let r = unless_ok _ _ s' e in subst (λ x. AreFit x.topo) r.1 h
numbers_kept s s' (tag w) h has e = let r = unless_ok _ _ s' e in subst (λ x. AreFit x.topo) r.1 h
numbers_kept s s' (switch n ps) h has e =
    let r = unless_ok _ _ s' e in
    let a = none_both _ _ r.0 in
    let b = none_both _ _ a.0 in
    subst (λ x. AreFit x.topo) r.1
    (switch_more s.topo n.value (values_of ps) h (in_bound 65535 n b.0) (ports_fit [] ps a.1) (values_many ps has))
numbers_kept s s' (link a m b n) h has e = let r = unless_ok _ _ s' e in subst (λ x. AreFit x.topo) r.1 h

-- ---- all declarations

-- what each declaration keeps, all of them keep
pub all_kept : (P : DeclaredValue → Type 0) (Q : NetworkDeclaration → Type 0)
    → ((s s' : DeclaredValue) (d : NetworkDeclaration) → P s → Q d → declared_with s d ≡ Ok s' → P s')
    → (ds : List NetworkDeclaration) (s s' : DeclaredValue) → P s → AllByRecursion Q ds → declared_after ds s ≡ Ok s' → P s'
all_kept P Q one [] s s' h are e = subst P (ok_is s s' e) h
all_kept P Q one (d ∷ ds) s s' h are e =
    let r = both_ok (declared_with s d) (declared_after ds) s' e in
    all_kept P Q one ds r.0 s' (one s r.0 d h are.0 r.1) are.1 r.2
