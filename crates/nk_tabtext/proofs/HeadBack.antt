-- The tag and the links that are printed are declared as they are; what printable fields and switches are to the reader.
use Rattle.std.proofs.Common.{◌≡◌, ◌≢◌, ◌≤◌, ◌<◌, ◌+◌, ℕ, List, [], ◌∷◌, ◌++◌, Bool, true, false, not, length, get_or, take, drop, refl, sym, ap, subst, ◌∙◌, append_assoc, append-nil, Option, Some, None, arith, ◌||◌, ◌&&◌, inl, inr, ⊎_elim, length-append, map}
use Rattle.std.specs.Prelude.{◌==◌, Ok, AllPairs, IsTrue, nat_lt, nat_le, is_some, if◌then◌else◌}
use Rattle.std.specs.Option.{option_or}
use Rattle.std.specs.List.{list_any, AllByRecursion}
use Rattle.std.specs.Str.{bytes_eq}
use Rattle.std.specs.Cmp.Lexicographic.{bytes_decides}
use Rattle.std.proofs.lemmas.Bool.Decides.{nat_tests}
use Rattle.std.proofs.lemmas.List.{take-append-drop, get_or_append_left, get_or_at}
use Rattle.nk_lex.specs.Lex.{largest}
use Rattle.nk_lex.specs.Spelling.{IsName}
use Rattle.nk_lex.specs.Faults.{and_then, first_of, unless}
use Rattle.nk_field.specs.Packet.{FieldTable, IsFieldTable, field_named}
use Rattle.nk_topo.specs.Topology.{Topology, SwitchPorts, Link, placed, starts_below, target_among, is_port}
use Rattle.nk_topo.proofs.Members.{In, InOrder, placed_after}
use Rattle.nk_topo.proofs.Orders.{passes_for_none}
use Rattle.nk_tabtext.specs.Text.{name_of}
use Rattle.nk_tabgrammar.specs.declared.written.Declaration.TheVariants as declared
use Rattle.nk_declare.specs.declared.fault.DeclareFault.{DeclareFault}
use Rattle.nk_declare.specs.declared.fault.DeclareFault.TheVariants as fault
use Rattle.nk_declare.specs.Declarations.{DeclaredValue, MaybeFault, fault_if, is_from, link_fault, declared_with, declared_after}
use Rattle.nk_tabtext.specs.Values.{plain_declaration}
use Rattle.nk_tabtext.proofs.Lines.{word_on, number_on}
use Rattle.nk_tabtext.proofs.TableLines.{HasOne}
use Rattle.nk_declare.proofs.Places.{from_front, name_placed}
use Rattle.nk_tabtext.proofs.HeadLines.{AreFieldsShown, ArePortsShown, AreSwitchesShown, AreLinksShown, written_link, written_links}
use Rattle.nk_tabtext.proofs.HeadValues.{FieldsFit, PortsFrom, SwitchesFit, not_there, with_switches, said_of}

-- ---- lists

-- an element in the middle
in_mid : {X : Type 0} (xs : List X) (y : X) (ys : List X) → In (xs ++ y ∷ ys) y
in_mid [] y ys = inl refl
in_mid (x ∷ xs) y ys = inr (in_mid xs y ys)

-- an element at the front
in_front : {X : Type 0} (xs ys : List X) (x : X) → In xs x → In (xs ++ ys) x
in_front [] ys x i = absurd i
in_front (z ∷ xs) ys x i = ⊎_elim (λ e. inl e) (λ j. inr (in_front xs ys x j)) i

-- each element at the front stands before the one in the middle
across : {X : Type 0} (R : X → X → Type 0) (xs : List X) (y : X) (ys : List X) → InOrder R (xs ++ y ∷ ys) → (x : X) → In xs x → R x y
across R [] y ys up x i = absurd i
across R (z ∷ xs) y ys up x i =
    ⊎_elim (λ e. subst (λ w. R w y) (sym e) (up.0 y (in_mid xs y ys))) (λ j. across R xs y ys up.1 x j) i

-- a list that begins with two
pub two_first : {X : Type 0} (xs : List X) (a b : X) → take 2 xs ≡ a ∷ b ∷ [] → a ∷ b ∷ drop 2 xs ≡ xs
two_first xs a b e = ap (λ l. l ++ drop 2 xs) (sym e) ∙ take-append-drop 2 xs

-- there is one
pub has_one : {X : Type 0} (xs : List X) → 1 ≤ length xs → HasOne xs
has_one [] le = absurd (omega (arith, le))
has_one (x ∷ xs) le = tt

-- ---- faults

pub both_none : (a b : MaybeFault) → a ≡ None → b ≡ None → first_of a b ≡ None
both_none a b e f = ap (λ o. option_or o b) e ∙ f

pub no_fault : (b : Bool) (k : DeclareFault) (line : ℕ) → b ≡ false → fault_if b k line ≡ None
no_fault b k line e = ap (λ c. fault_if c k line) e

not_above : (n k : ℕ) → n ≤ k → nat_lt k n ≡ false
not_above n k le = grind (arith, nat_tests)

-- ---- fields

-- a field's name has its place
pub name_there : (fs : FieldTable) → IsFieldTable fs → (f : ℕ) → f < length fs.maxima → field_named fs (name_of fs f) ≡ Some f
name_there fs is f lt =
    sym (from_front (bytes_eq (name_of fs f)) fs.names)
    ∙ name_placed fs.names f 0 (omega (arith, lt, is.named)) is.distinct
    ∙ ap Some (omega arith)

-- names that differ are new one by one
pub fields_fit : (ns : List (List ℕ)) (ms : List ℕ) (names : List (List ℕ)) (maxima : List ℕ) → length names ≡ length maxima
    → AllPairs (λ a b. a ≢ b) (ns ++ names) → length ms + length maxima ≤ 18 → FieldsFit ns ms names maxima
fields_fit ns ms [] [] e d few = tt
fields_fit ns ms [] (m ∷ maxima) e d few = absurd (omega (arith, e))
fields_fit ns ms (n ∷ names) [] e d few = absurd (omega (arith, e))
fields_fit ns ms (n ∷ names) (m ∷ maxima) e d few = (
  not_there (bytes_eq n) ns [] (λ k lt. other k lt (bytes_eq n (get_or ns k [])) refl),
  omega (arith, few),
  fields_fit (ns ++ n ∷ []) (ms ++ m ∷ []) names maxima (omega (arith, e))
      (subst (AllPairs (λ a b. a ≢ b)) (sym (append_assoc ns (n ∷ []) names)) d)
      (omega (arith, few, length-append ms (m ∷ []))),
)
  where
    other : (k : ℕ) → k < length ns → (b : Bool) → bytes_eq n (get_or ns k []) ≡ b → bytes_eq n (get_or ns k []) ≡ false
    other k lt true e =
        let left : get_or (ns ++ n ∷ names) k [] ≡ get_or ns k [] = get_or_append_left ns (n ∷ names) [] k lt in
        let right : get_or (ns ++ n ∷ names) (length ns) [] ≡ n = get_or_at ns n names [] (length ns) refl in
        let within : length ns < length (ns ++ n ∷ names) = omega (arith, length-append ns (n ∷ names)) in
        absurd (d k (length ns) [] lt within (left ∙ sym ((bytes_decides n (get_or ns k [])).0 e) ∙ sym right))
    other k lt false e = e

-- they can be written
pub fields_shown : (names : List (List ℕ)) (maxima : List ℕ) → AllByRecursion IsName names → AllByRecursion (λ m. m ≤ largest) maxima
    → AreFieldsShown names maxima
fields_shown [] ms a b = tt
fields_shown (n ∷ ns) [] a b = tt
fields_shown (n ∷ ns) (m ∷ ms) a b = (a.0, b.0, fields_shown ns ms a.1 b.1)

-- the tag is declared above its line
pub tag_back : (fs : FieldTable) (line f : ℕ) → IsFieldTable fs → fs.tag ≡ Some f
    → declared_with (said_of fs.names fs.maxima) (plain_declaration (declared.Tag (word_on line (name_of fs f)))) ≡ Ok (with_switches fs [])
tag_back fs line f is e =
    let at = is.tag_past_port f e in
    let there : field_named fs (name_of fs f) ≡ Some f = name_there fs is f at.1 in
    ap (λ o. unless (first_of None (fault_if (not (is_from 2 o)) fault.TagUnknown line)) (put o)) there
    ∙ ap (λ b. unless (fault_if (not b) fault.TagUnknown line) (put (Some f))) (from 2 f at.0)
    ∙ ap (λ o. Ok (put o)) (sym e)
  where
    put : Option ℕ → DeclaredValue
    put o = record { fields = record { names = fs.names; maxima = fs.maxima; tag = o }; topo = record { switches = []; links = [] } }

    from : (a b : ℕ) → a ≤ b → nat_le a b ≡ true
    from a b le = grind (arith, nat_tests)

-- ---- switches

-- ports that ascend
pub ports_from : (low : ℕ) (ps : List ℕ) → InOrder (λ p q. p < q) ps → ((p : ℕ) → In ps p → low ≤ p) → ((p : ℕ) → In ps p → p ≤ 65535) → PortsFrom low ps
ports_from low [] up le small = tt
ports_from low (p ∷ ps) up le small =
    (le p (inl refl), small p (inl refl), ports_from (p + 1) ps up.1 (λ q i. let above = up.0 q i in omega (arith, above)) (λ q i. small q (inr i)))

-- a switch that can be declared
abbrev pub IsSwitchFine : SwitchPorts → Type 0
IsSwitchFine s = (s.switch ≤ 65535) × PortsFrom 0 s.ports × HasOne s.ports

pub switches_fit : (low : ℕ) (ss : List SwitchPorts) → InOrder (λ r s. r.switch < s.switch) ss → ((s : SwitchPorts) → In ss s → low ≤ s.switch)
    → ((s : SwitchPorts) → In ss s → IsSwitchFine s) → SwitchesFit low ss
switches_fit low [] up le fine = tt
switches_fit low (s ∷ ss) up le fine =
    let this = fine s (inl refl) in
    ((le s (inl refl), this.0, this.1, this.2), switches_fit (s.switch + 1) ss up.1 (λ r i. let above = up.0 r i in omega (arith, above)) (λ r i. fine r (inr i)))

ports_shown : (low : ℕ) (ps : List ℕ) → PortsFrom low ps → ArePortsShown ps
ports_shown low [] h = tt
ports_shown low (p ∷ ps) h = (omega (arith, h.1), ports_shown (p + 1) ps h.2)

pub switches_shown : (low : ℕ) (ss : List SwitchPorts) → SwitchesFit low ss → AreSwitchesShown ss
switches_shown low [] h = tt
switches_shown low (s ∷ ss) h = ((omega (arith, h.0.1), ports_shown 0 s.ports h.0.2, h.0.3), switches_shown (s.switch + 1) ss h.1)

-- ---- links

-- the ports of switches, whatever links there are
abbrev pub alone : List SwitchPorts → Topology
alone ss = record { switches = ss; links = [] }

both_true : (a b : Bool) → (a && b) ≡ true → (a ≡ true) × (b ≡ true)
both_true true b e = (refl, e)
both_true false b e = absurd cc

port_among : (low : ℕ) (ps : List ℕ) (pt : ℕ) → PortsFrom low ps → list_any (λ p. p == pt) ps ≡ true → pt ≤ 65535
port_among low [] pt h e = absurd cc
port_among low (p ∷ ps) pt h e = by (p == pt) refl e (port_among (p + 1) ps pt h.2)
  where
    same : (m n : ℕ) → (m == n) ≡ true → m ≤ 65535 → n ≤ 65535
    same m n e le = grind (arith, nat_tests, e, le)

    by : (b : Bool) → (p == pt) ≡ b → (b || list_any (λ q. q == pt) ps) ≡ true → (list_any (λ q. q == pt) ps ≡ true → pt ≤ 65535) → pt ≤ 65535
    by true s e go = same p pt s h.1
    by false s e go = go e

-- a declared port's numbers are in range
pub port_small : (low : ℕ) (ss : List SwitchPorts) (sw pt : ℕ) → SwitchesFit low ss → is_port (alone ss) sw pt ≡ true → (sw ≤ 65535) × (pt ≤ 65535)
port_small low [] sw pt h e = absurd cc
port_small low (s ∷ ss) sw pt h e = by ((s.switch == sw) && list_any (λ p. p == pt) s.ports) refl e (port_small (s.switch + 1) ss sw pt h.1)
  where
    same : (m n : ℕ) → (m == n) ≡ true → m ≤ 65535 → n ≤ 65535
    same m n e le = grind (arith, nat_tests, e, le)

    by : (b : Bool) → ((s.switch == sw) && list_any (λ p. p == pt) s.ports) ≡ b → (b || is_port (alone ss) sw pt) ≡ true
        → (is_port (alone ss) sw pt ≡ true → (sw ≤ 65535) × (pt ≤ 65535)) → (sw ≤ 65535) × (pt ≤ 65535)
    by true f e go = let r = both_true (s.switch == sw) (list_any (λ p. p == pt) s.ports) f in (same s.switch sw r.0 h.0.1, port_among 0 s.ports pt h.0.2 r.1)
    by false f e go = go e

-- begins below
abbrev pub Below : Link → Link → Type 0
Below k l = IsTrue (starts_below l.from_switch l.from_port k)

-- links that can be declared in this order
pub record AreLinkable (ss : List SwitchPorts) (all : List Link) : Type 0 where
  pub order : InOrder Below all
  pub from_port : (l : Link) → In all l → is_port (alone ss) l.from_switch l.from_port ≡ true
  pub to_port : (l : Link) → In all l → is_port (alone ss) l.to_switch l.to_port ≡ true
  pub one_to : (k l : Link) → In all k → In all l → k.to_switch ≡ l.to_switch → k.to_port ≡ l.to_port → k ≡ l

-- no link begins at a port above all
none_from : (ls : List Link) (sw pt : ℕ) → ((k : Link) → In ls k → starts_below sw pt k ≡ true) → target_among ls sw pt ≡ None
none_from [] sw pt all = refl
none_from (k ∷ ls) sw pt all =
    let below = all k (inl refl) in
    let other : ((k.from_switch == sw) && (k.from_port == pt)) ≡ false = grind (arith, nat_tests, below) in
    ap (λ b. if b then Some (k.to_switch, k.to_port) else target_among ls sw pt) other ∙ none_from ls sw pt (λ m i. all m (inr i))

-- a link above all is put last
link_last : (l : Link) (ls : List Link) → ((k : Link) → In ls k → Below k l) → placed (starts_below l.from_switch l.from_port) l ls ≡ ls ++ l ∷ []
link_last l [] all = refl
link_last l (k ∷ ls) all =
    placed_after (starts_below l.from_switch l.from_port) l k ls (all k (inl refl)) ∙ ap (λ x. k ∷ x) (link_last l ls (λ m i. all m (inr i)))

not_below_itself : (l : Link) → Below l l → ⊥
not_below_itself l h = grind (arith, nat_tests, h)

-- what is said with these links
abbrev pub linked : FieldTable → List SwitchPorts → List Link → DeclaredValue
linked fs ss ls = record { fields = fs; topo = record { switches = ss; links = ls } }

pub links_back : (fs : FieldTable) (ss : List SwitchPorts) (line : ℕ) (before ls : List Link) → SwitchesFit 0 ss → AreLinkable ss (before ++ ls)
    → declared_after (map plain_declaration (written_links line ls)) (linked fs ss before) ≡ Ok (linked fs ss (before ++ ls))
links_back fs ss line before [] fit good = ap (λ x. Ok (linked fs ss x)) (sym (append-nil before))
links_back fs ss line before (l ∷ ls) fit good =
    ap (λ r. and_then r (declared_after (map plain_declaration (written_links (line + 1) ls)))) one
    ∙ ap (λ x. declared_after (map plain_declaration (written_links (line + 1) ls)) (linked fs ss x)) (link_last l before below)
    ∙ links_back fs ss (line + 1) (before ++ l ∷ []) ls fit (subst (AreLinkable ss) (sym (append_assoc before (l ∷ []) ls)) good)
    ∙ ap (λ x. Ok (linked fs ss x)) (append_assoc before (l ∷ []) ls)
  where
    here : In (before ++ l ∷ ls) l
    here = in_mid before l ls

    below : (k : Link) → In before k → Below k l
    below k i = across Below before l ls good.order k i

    from_small : (l.from_switch ≤ 65535) × (l.from_port ≤ 65535)
    from_small = port_small 0 ss l.from_switch l.from_port fit (good.from_port l here)

    to_small : (l.to_switch ≤ 65535) × (l.to_port ≤ 65535)
    to_small = port_small 0 ss l.to_switch l.to_port fit (good.to_port l here)

    other_target : (k : Link) → In before k → (b : Bool) → ((k.to_switch == l.to_switch) && (k.to_port == l.to_port)) ≡ b
        → ((k.to_switch == l.to_switch) && (k.to_port == l.to_port)) ≡ false
    other_target k i true e =
        let s : k.to_switch ≡ l.to_switch = grind (arith, nat_tests, e) in
        let p : k.to_port ≡ l.to_port = grind (arith, nat_tests, e) in
        let same : k ≡ l = good.one_to k l (in_front before (l ∷ ls) k i) here s p in
        absurd (not_below_itself l (subst (λ m. Below m l) same (below k i)))
    other_target k i false e = e

    fine : link_fault (linked fs ss before).topo (number_on line l.from_switch) (number_on line l.from_port) (number_on line l.to_switch) (number_on line l.to_port) ≡ None
    fine =
        both_none _ _
        (both_none _ _
        (both_none _ _
        (both_none _ _ (no_fault (nat_lt 65535 l.from_switch) fault.ValueOutOfRange line (not_above l.from_switch 65535 from_small.0)) (no_fault (nat_lt 65535 l.from_port) fault.ValueOutOfRange line (not_above l.from_port 65535 from_small.1)))
        (no_fault (nat_lt 65535 l.to_switch) fault.ValueOutOfRange line (not_above l.to_switch 65535 to_small.0)))
        (no_fault (nat_lt 65535 l.to_port) fault.ValueOutOfRange line (not_above l.to_port 65535 to_small.1)))
        (both_none _ _
        (both_none _ _
        (no_fault (not (is_port (alone ss) l.from_switch l.from_port)) fault.NoSuchPort line (ap not (good.from_port l here)))
        (no_fault (not (is_port (alone ss) l.to_switch l.to_port)) fault.NoSuchPort line (ap not (good.to_port l here))))
        (both_none _ _
        (no_fault (is_some (target_among before l.from_switch l.from_port)) fault.SourceTwice line (ap is_some (none_from before l.from_switch l.from_port below)))
        (no_fault (list_any (λ m. (m.to_switch == l.to_switch) && (m.to_port == l.to_port)) before) fault.TargetTwice line
        (passes_for_none (λ m. (m.to_switch == l.to_switch) && (m.to_port == l.to_port)) before
        (λ k i. other_target k i ((k.to_switch == l.to_switch) && (k.to_port == l.to_port)) refl)))))

    one : declared_with (linked fs ss before) (plain_declaration (written_link line l)) ≡ Ok (linked fs ss (placed (starts_below l.from_switch l.from_port) l before))
    one = ap (λ o. unless o (linked fs ss (placed (starts_below l.from_switch l.from_port) l before))) fine

-- they can be written
pub links_shown : (ss : List SwitchPorts) (ls : List Link) → SwitchesFit 0 ss → ((l : Link) → In ls l → (is_port (alone ss) l.from_switch l.from_port ≡ true) × (is_port (alone ss) l.to_switch l.to_port ≡ true))
    → AreLinksShown ls
links_shown ss [] fit h = tt
links_shown ss (l ∷ ls) fit h =
    let at = h l (inl refl) in
    let from = port_small 0 ss l.from_switch l.from_port fit at.0 in
    let to = port_small 0 ss l.to_switch l.to_port fit at.1 in
    ((omega (arith, from.0), omega (arith, from.1), omega (arith, to.0), omega (arith, to.1)), links_shown ss ls fit (λ k i. h k (inr i)))
