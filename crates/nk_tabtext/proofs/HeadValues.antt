-- The fields and switches that are printed are declared as they are.
use Rattle.std.proofs.Common.{◌≡◌, ◌≤◌, ◌<◌, ◌+◌, ℕ, List, [], ◌∷◌, ◌++◌, Bool, true, false, length, get_or, refl, sym, ap, ◌∙◌, append_assoc, append-nil, map, Option, Some, None, arith, ◌||◌}
use Rattle.std.specs.Prelude.{◌==◌, Ok, nat_lt, nat_le, is_some, position}
use Rattle.std.specs.List.{list_any}
use Rattle.std.specs.Str.{bytes_eq}
use Rattle.std.proofs.lemmas.Bool.Decides.{nat_tests}
use Rattle.std.proofs.lemmas.List.Quantifiers.{position-Some}
use Rattle.nk_lex.specs.Faults.{and_then, first_of, unless}
use Rattle.nk_field.specs.Packet.{FieldTable}
use Rattle.nk_topo.specs.Topology.{SwitchPorts, placed, ascending}
use Rattle.nk_topo.proofs.Members.{placed_after, placed_front}
use Rattle.nk_declare.specs.declared.fault.DeclareFault.TheVariants as fault
use Rattle.nk_declare.specs.Declarations.{DeclaredValue, MaybeFault, fault_if, field_fault, ports_fault, values_of, declared_with, declared_after}
use Rattle.nk_tabtext.specs.Values.{plain_declaration}
use Rattle.nk_tabtext.proofs.Lines.{word_on, number_on}
use Rattle.nk_tabtext.proofs.TableLines.{HasOne}
use Rattle.nk_tabtext.proofs.HeadLines.{written_fields, switch_with, written_switches}

-- what no element passes isn't found
pub not_there : {X : Type 0} (p : X → Bool) (xs : List X) (d : X) → ((k : ℕ) → k < length xs → p (get_or xs k d) ≡ false) → position p xs ≡ None
not_there p xs d fails = by (position p xs) refl
  where
    by : (o : Option ℕ) → position p xs ≡ o → position p xs ≡ None
    by None e = e
    by (Some i) e =
        let at = position-Some p xs i d e in
        absurd (differ (sym at.1 ∙ fails i at.0))
      where
        differ : true ≡ false → ⊥
        differ e = cc

-- ---- fields

-- what is declared, by its parts and without a tag
abbrev pub said_of : List (List ℕ) → List ℕ → DeclaredValue
said_of ns ms = record { fields = record { names = ns; maxima = ms; tag = None }; topo = record { switches = []; links = [] } }

-- each name is new, and there is room
abbrev pub FieldsFit : List (List ℕ) → List ℕ → List (List ℕ) → List ℕ → Type 0
FieldsFit ns ms [] [] = Unit {0}
FieldsFit ns ms [] (m ∷ more) = ⊥
FieldsFit ns ms (n ∷ names) [] = ⊥
FieldsFit ns ms (n ∷ names) (m ∷ maxima) =
    (position (bytes_eq n) ns ≡ None) × (length ms < 18) × FieldsFit (ns ++ n ∷ []) (ms ++ m ∷ []) names maxima

pub fields_back : (line : ℕ) (ns : List (List ℕ)) (ms : List ℕ) (names : List (List ℕ)) (maxima : List ℕ) → FieldsFit ns ms names maxima
    → declared_after (map plain_declaration (written_fields line names maxima)) (said_of ns ms) ≡ Ok (said_of (ns ++ names) (ms ++ maxima))
fields_back line ns ms [] [] h = ap (λ l. Ok (said_of l ms)) (sym (append-nil ns)) ∙ ap (λ l. Ok (said_of (ns ++ []) l)) (sym (append-nil ms))
fields_back line ns ms [] (m ∷ maxima) h = absurd h
fields_back line ns ms (n ∷ names) [] h = absurd h
fields_back line ns ms (n ∷ names) (m ∷ maxima) h =
    ap (λ r. and_then r (declared_after (map plain_declaration (written_fields (line + 1) names maxima)))) one
    ∙ fields_back (line + 1) (ns ++ n ∷ []) (ms ++ m ∷ []) names maxima h.2
    ∙ ap (λ l. Ok (said_of l ((ms ++ m ∷ []) ++ maxima))) (append_assoc ns (n ∷ []) names)
    ∙ ap (λ l. Ok (said_of (ns ++ n ∷ names) l)) (append_assoc ms (m ∷ []) maxima)
  where
    room : (k : ℕ) → k < 18 → nat_le 18 k ≡ false
    room k lt = grind (arith, nat_tests)

    one : unless (field_fault (said_of ns ms).fields (word_on line n)) (said_of (ns ++ n ∷ []) (ms ++ m ∷ [])) ≡ Ok (said_of (ns ++ n ∷ []) (ms ++ m ∷ []))
    one =
        ap (λ o. unless (first_of (fault_if (is_some o) fault.FieldTwice line) (fault_if (nat_le 18 (length ms)) fault.TooManyFields line)) (said_of (ns ++ n ∷ []) (ms ++ m ∷ []))) h.0
        ∙ ap (λ b. unless (fault_if b fault.TooManyFields line) (said_of (ns ++ n ∷ []) (ms ++ m ∷ []))) (room (length ms) h.1)

-- ---- switches

-- ascending ports in range, from a lower bound on
abbrev pub PortsFrom : ℕ → List ℕ → Type 0
PortsFrom low [] = Unit {0}
PortsFrom low (p ∷ ps) = (low ≤ p) × (p ≤ 65535) × PortsFrom (p + 1) ps

-- all below
abbrev NumbersBelow : ℕ → List ℕ → Type 0
NumbersBelow n [] = Unit {0}
NumbersBelow n (p ∷ ps) = (p < n) × NumbersBelow n ps

numbers_more : (k n : ℕ) (ps : List ℕ) → k ≤ n → NumbersBelow k ps → NumbersBelow n ps
numbers_more k n [] le h = tt
numbers_more k n (p ∷ ps) le h = (omega (arith, le, h.0), numbers_more k n ps le h.1)

numbers_push : (n : ℕ) (ps : List ℕ) (p : ℕ) → NumbersBelow n ps → p < n → NumbersBelow n (ps ++ p ∷ [])
numbers_push n [] p h lt = (lt, tt)
numbers_push n (x ∷ ps) p h lt = (h.0, numbers_push n ps p h.1 lt)

not_among : (n : ℕ) (ps : List ℕ) → NumbersBelow n ps → list_any (λ q. n == q) ps ≡ false
not_among n [] h = refl
not_among n (p ∷ ps) h = ap (λ b. b || list_any (λ q. n == q) ps) (apart n p h.0) ∙ not_among n ps h.1
  where
    apart : (n p : ℕ) → p < n → (n == p) ≡ false
    apart n p lt = grind (arith, nat_tests)

not_above : (n k : ℕ) → n ≤ k → nat_lt k n ≡ false
not_above n k le = grind (arith, nat_tests)

ports_back : (line low : ℕ) (before ps : List ℕ) → NumbersBelow low before → PortsFrom low ps
    → ports_fault before (map (number_on line) ps) ≡ None
ports_back line low before [] b h = refl
ports_back line low before (p ∷ ps) b h =
    ap (λ x. first_of (first_of (fault_if x fault.ValueOutOfRange line) (fault_if (list_any (λ q. p == q) before) fault.PortTwice line)) rest) (not_above p 65535 h.1)
    ∙ ap (λ x. first_of (fault_if x fault.PortTwice line) rest) (not_among p before (numbers_more low p before h.0 b))
    ∙ ports_back line (p + 1) (before ++ p ∷ []) ps (numbers_push (p + 1) before p (numbers_more low (p + 1) before (omega (arith, h.0)) b) (omega arith)) h.2
  where
    rest : MaybeFault
    rest = ports_fault (before ++ p ∷ []) (map (number_on line) ps)

-- their numbers
values_back : (line : ℕ) (ps : List ℕ) → values_of (map (number_on line) ps) ≡ ps
values_back line [] = refl
values_back line (p ∷ ps) = ap (λ l. p ∷ l) (values_back line ps)

-- ascending numbers stay
ascending_is : (low : ℕ) (ps : List ℕ) → PortsFrom low ps → ascending ps ≡ ps
ascending_is low [] h = refl
ascending_is low (p ∷ ps) h = ap (placed (λ m. nat_lt m p) p) (ascending_is (p + 1) ps h.2) ∙ first ps h.2
  where
    first : (ps : List ℕ) → PortsFrom (p + 1) ps → placed (λ m. nat_lt m p) p ps ≡ p ∷ ps
    first [] h = refl
    first (q ∷ qs) h = placed_front (λ m. nat_lt m p) p q qs (above p q h.0)
      where
        above : (p q : ℕ) → p + 1 ≤ q → nat_lt q p ≡ false
        above p q le = grind (arith, nat_tests)

-- switches below a number
abbrev SwitchesBelow : ℕ → List SwitchPorts → Type 0
SwitchesBelow n [] = Unit {0}
SwitchesBelow n (s ∷ ss) = (s.switch < n) × SwitchesBelow n ss

switches_more : (k n : ℕ) (ss : List SwitchPorts) → k ≤ n → SwitchesBelow k ss → SwitchesBelow n ss
switches_more k n [] le h = tt
switches_more k n (s ∷ ss) le h = (omega (arith, le, h.0), switches_more k n ss le h.1)

switches_push : (n : ℕ) (ss : List SwitchPorts) (s : SwitchPorts) → SwitchesBelow n ss → s.switch < n → SwitchesBelow n (ss ++ s ∷ [])
switches_push n [] s h lt = (lt, tt)
switches_push n (x ∷ ss) s h lt = (h.0, switches_push n ss s h.1 lt)

-- a switch above all is put last
placed_last : (s : SwitchPorts) (ss : List SwitchPorts) → SwitchesBelow s.switch ss → placed (λ r. nat_lt r.switch s.switch) s ss ≡ ss ++ s ∷ []
placed_last s [] h = refl
placed_last s (x ∷ ss) h = placed_after (λ r. nat_lt r.switch s.switch) s x ss (below x.switch s.switch h.0) ∙ ap (λ l. x ∷ l) (placed_last s ss h.1)
  where
    below : (m n : ℕ) → m < n → nat_lt m n ≡ true
    below m n lt = grind (arith, nat_tests)

no_switch : (n : ℕ) (ss : List SwitchPorts) → SwitchesBelow n ss → list_any (λ s. s.switch == n) ss ≡ false
no_switch n [] h = refl
no_switch n (s ∷ ss) h = ap (λ b. b || list_any (λ r. r.switch == n) ss) (apart s.switch n h.0) ∙ no_switch n ss h.1
  where
    apart : (m n : ℕ) → m < n → (m == n) ≡ false
    apart m n lt = grind (arith, nat_tests)

-- switches that a text can declare, ascending from a lower bound on
abbrev pub SwitchesFit : ℕ → List SwitchPorts → Type 0
SwitchesFit low [] = Unit {0}
SwitchesFit low (s ∷ ss) = ((low ≤ s.switch) × (s.switch ≤ 65535) × PortsFrom 0 s.ports × HasOne s.ports) × SwitchesFit (s.switch + 1) ss

-- fields, and these switches
abbrev pub with_switches : FieldTable → List SwitchPorts → DeclaredValue
with_switches fs ss = record { fields = fs; topo = record { switches = ss; links = [] } }

pub switches_back : (fs : FieldTable) (line low : ℕ) (before ss : List SwitchPorts) → SwitchesBelow low before → SwitchesFit low ss
    → declared_after (map plain_declaration (written_switches line ss)) (with_switches fs before) ≡ Ok (with_switches fs (before ++ ss))
switches_back fs line low before [] b h = ap (λ l. Ok (with_switches fs l)) (sym (append-nil before))
switches_back fs line low before (s ∷ ss) b h =
    ap (λ r. and_then r (declared_after (map plain_declaration (written_switches (line + 1) ss)))) (one s.ports h.0.2 h.0.3)
    ∙ ap (λ l. declared_after (map plain_declaration (written_switches (line + 1) ss)) (with_switches fs l)) (placed_last s before below)
    ∙ switches_back fs (line + 1) (s.switch + 1) (before ++ s ∷ []) ss (switches_push (s.switch + 1) before s (switches_more s.switch (s.switch + 1) before (omega arith) below) (omega arith)) h.1
    ∙ ap (λ l. Ok (with_switches fs l)) (append_assoc before (s ∷ []) ss)
  where
    below : SwitchesBelow s.switch before
    below = switches_more low s.switch before h.0.0 b

    put : List ℕ → DeclaredValue
    put ps = with_switches fs (placed (λ r. nat_lt r.switch s.switch) (record { switch = s.switch; ports = ps }) before)

    one : (ps : List ℕ) → PortsFrom 0 ps → HasOne ps → declared_with (with_switches fs before) (plain_declaration (switch_with line s.switch ps)) ≡ Ok (put ps)
    one [] f one' = absurd one'
    one (p ∷ ps) f one' =
        let ns = map (number_on line) (p ∷ ps) in
        let twice = list_any (λ r. r.switch == s.switch) before in
        ap (λ x. unless (first_of (first_of (fault_if x fault.ValueOutOfRange line) (fault_if twice fault.SwitchTwice line)) (ports_fault [] ns)) (put (ascending (values_of ns)))) (not_above s.switch 65535 h.0.1)
        ∙ ap (λ x. unless (first_of (fault_if x fault.SwitchTwice line) (ports_fault [] ns)) (put (ascending (values_of ns)))) (no_switch s.switch before below)
        ∙ ap (λ o. unless o (put (ascending (values_of ns)))) (ports_back line 0 [] (p ∷ ps) tt f)
        ∙ ap (λ l. Ok (put (ascending l))) (values_back line (p ∷ ps))
        ∙ ap (λ l. Ok (put l)) (ascending_is 0 (p ∷ ps) f)
