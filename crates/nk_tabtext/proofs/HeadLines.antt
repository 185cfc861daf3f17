-- The lexemes of the printed declarations: their bytes, that they stand apart, and what they spell.
use Rattle.std.proofs.Common.{◌≡◌, ◌≤◌, ◌+◌, ℕ, List, [], ◌∷◌, ◌++◌, refl, sym, ◌∙◌, ap, append_assoc, decimal, codes, map}
use Rattle.std.specs.Prelude.{⊤}
use Rattle.std.specs.List.{flat_map}
use Rattle.nk_lex.specs.declared.kind.Kind.TheVariants as kind
use Rattle.nk_lex.specs.Lex.{largest}
use Rattle.nk_lex.specs.Spelling.{Sign, Lexeme, IsName, IsApart, AreSeparate, text_of}
use Rattle.nk_topo.specs.Topology.{SwitchPorts, Link}
use Rattle.nk_tabgrammar.specs.declared.written.Declaration.{Declaration}
use Rattle.nk_tabgrammar.specs.declared.written.Declaration.TheVariants as declared
use Rattle.nk_tabgrammar.specs.Terminal.{Terminal, number, mark}
use Rattle.nk_tabgrammar.specs.Spelling.{spell_port, spell_table_declaration}
use Rattle.nk_tabtext.specs.Text.{field_text, ports_text, switch_text, link_text}
use Rattle.nk_tabtext.specs.Text.{table_field_lines}
use Rattle.nk_tabtext.proofs.Lines.{left3, left5, left9, terminals_on, word_on, number_on, named, put, feed_apart}
use Rattle.nk_tabtext.proofs.TableLines.{HasOne, following}

-- ---- fields

-- names and largest values that a text can write
abbrev pub AreFieldsShown : List (List ℕ) → List ℕ → Type 0
AreFieldsShown [] ms = ⊤
AreFieldsShown (n ∷ ns) [] = ⊤
AreFieldsShown (n ∷ ns) (m ∷ ms) = IsName n × (m ≤ largest) × AreFieldsShown ns ms

abbrev pub lex_fields : List (List ℕ) → List ℕ → List Lexeme → List Lexeme
lex_fields [] ms r = r
lex_fields (n ∷ ns) [] r = r
lex_fields (n ∷ ns) (m ∷ ms) r =
    Lexeme.word (codes "field") ∷ Lexeme.space ∷ Lexeme.word n ∷ Lexeme.space ∷ Lexeme.numeral m ∷ Lexeme.line_feed ∷ lex_fields ns ms r

-- as they are written, each on its line
abbrev pub written_fields : ℕ → List (List ℕ) → List ℕ → List Declaration
written_fields line [] ms = []
written_fields line (n ∷ ns) [] = []
written_fields line (n ∷ ns) (m ∷ ms) = declared.Field (word_on line n) (number_on line m) ∷ written_fields (line + 1) ns ms

pub fields_bytes : (ns : List (List ℕ)) (ms : List ℕ) (r : List Lexeme) → text_of (lex_fields ns ms r) ≡ table_field_lines ns ms ++ text_of r
fields_bytes [] ms r = refl
fields_bytes (n ∷ ns) [] r = refl
fields_bytes (n ∷ ns) (m ∷ ms) r =
    ap (λ l. codes "field " ++ (n ++ (codes " " ++ (decimal m ++ (codes "\n" ++ l))))) (fields_bytes ns ms r)
    ∙ sym (left5 (codes "field ") n (codes " ") (decimal m) (codes "\n") (table_field_lines ns ms ++ text_of r))
    ∙ sym (append_assoc (field_text n m) (table_field_lines ns ms) (text_of r))

pub fields_apart : (ns : List (List ℕ)) (ms : List ℕ) (r : List Lexeme) → AreFieldsShown ns ms → AreSeparate r → AreSeparate (lex_fields ns ms r)
fields_apart [] ms r h a = a
fields_apart (n ∷ ns) [] r h a = a
fields_apart (n ∷ ns) (m ∷ ms) r h a =
    ((refl, refl), refl, (tt, refl, (h.0.0, refl, (tt, refl, (h.1, refl, (tt, feed_apart (lex_fields ns ms r), fields_apart ns ms r h.2 a))))))

-- the line after them
abbrev pub after_fields : ℕ → List (List ℕ) → List ℕ → ℕ
after_fields line [] ms = line
after_fields line (n ∷ ns) [] = line
after_fields line (n ∷ ns) (m ∷ ms) = after_fields (line + 1) ns ms

pub fields_spelled : (line : ℕ) (ns : List (List ℕ)) (ms : List ℕ) (r : List Lexeme) → AreFieldsShown ns ms
    → terminals_on line (lex_fields ns ms r) ≡ flat_map spell_table_declaration (written_fields line ns ms) ++ terminals_on (after_fields line ns ms) r
fields_spelled line [] ms r h = refl
fields_spelled line (n ∷ ns) [] r h = refl
fields_spelled line (n ∷ ns) (m ∷ ms) r h =
    ap (λ l. mark kind.Field ∷ l) (put _ _ _ _ (named line n h.0) (ap (λ l. number (number_on line m) ∷ l) (fields_spelled (line + 1) ns ms r h.2)))

-- ---- the tag

abbrev pub lex_tag : List ℕ → List Lexeme → List Lexeme
lex_tag n r = Lexeme.word (codes "tag") ∷ Lexeme.space ∷ Lexeme.word n ∷ Lexeme.line_feed ∷ r

pub tag_bytes : (n : List ℕ) (r : List Lexeme) → text_of (lex_tag n r) ≡ (codes "tag " ++ n ++ codes "\n") ++ text_of r
tag_bytes n r = sym (left3 (codes "tag ") n (codes "\n") (text_of r))

pub tag_apart : (n : List ℕ) (r : List Lexeme) → IsName n → AreSeparate r → AreSeparate (lex_tag n r)
tag_apart n r h a = ((refl, refl), refl, (tt, refl, (h.0, refl, (tt, feed_apart r, a))))

pub tag_spelled : (line : ℕ) (n : List ℕ) (r : List Lexeme) → IsName n
    → terminals_on line (lex_tag n r) ≡ spell_table_declaration (declared.Tag (word_on line n)) ++ terminals_on (line + 1) r
tag_spelled line n r h = ap (λ l. mark kind.Tag ∷ l) (put _ _ _ _ (named line n h) refl)

-- ---- switches

abbrev pub ArePortsShown : List ℕ → Type 0
ArePortsShown [] = ⊤
ArePortsShown (p ∷ ps) = (p ≤ largest) × ArePortsShown ps

-- further ports, up to the line feed
abbrev lex_ports : List ℕ → List Lexeme → List Lexeme
lex_ports [] r = Lexeme.line_feed ∷ r
lex_ports (p ∷ ps) r = Lexeme.sign Sign.comma ∷ Lexeme.numeral p ∷ lex_ports ps r

-- all ports
abbrev lex_all_ports : List ℕ → List Lexeme → List Lexeme
lex_all_ports [] r = Lexeme.line_feed ∷ r
lex_all_ports (p ∷ ps) r = Lexeme.numeral p ∷ lex_ports ps r

abbrev pub AreSwitchesShown : List SwitchPorts → Type 0
AreSwitchesShown [] = ⊤
AreSwitchesShown (s ∷ ss) = ((s.switch ≤ largest) × ArePortsShown s.ports × HasOne s.ports) × AreSwitchesShown ss

abbrev pub lex_switches : List SwitchPorts → List Lexeme → List Lexeme
lex_switches [] r = r
lex_switches (s ∷ ss) r =
    Lexeme.word (codes "switch") ∷ Lexeme.space ∷ Lexeme.numeral s.switch ∷ Lexeme.space ∷ Lexeme.word (codes "ports") ∷ Lexeme.space
    ∷ lex_all_ports s.ports (lex_switches ss r)

-- as it is written; one without a port isn't
abbrev pub switch_with : ℕ → ℕ → List ℕ → Declaration
switch_with line n [] = declared.Switch (number_on line n) (number_on line 0) []
switch_with line n (p ∷ ps) = declared.Switch (number_on line n) (number_on line p) (map (number_on line) ps)

abbrev pub written_switches : ℕ → List SwitchPorts → List Declaration
written_switches line [] = []
written_switches line (s ∷ ss) = switch_with line s.switch s.ports ∷ written_switches (line + 1) ss

ports_bytes : (ps : List ℕ) (r : List Lexeme) → text_of (lex_ports ps r) ≡ flat_map (λ q. codes "," ++ decimal q) ps ++ (codes "\n" ++ text_of r)
ports_bytes [] r = refl
ports_bytes (p ∷ ps) r =
    ap (λ l. codes "," ++ (decimal p ++ l)) (ports_bytes ps r)
    ∙ sym (left3 (codes ",") (decimal p) (flat_map (λ q. codes "," ++ decimal q) ps) (codes "\n" ++ text_of r))

all_ports_bytes : (ps : List ℕ) (r : List Lexeme) → text_of (lex_all_ports ps r) ≡ ports_text ps ++ (codes "\n" ++ text_of r)
all_ports_bytes [] r = refl
all_ports_bytes (p ∷ ps) r =
    ap (λ l. decimal p ++ l) (ports_bytes ps r)
    ∙ sym (append_assoc (decimal p) (flat_map (λ q. codes "," ++ decimal q) ps) (codes "\n" ++ text_of r))

pub switches_bytes : (ss : List SwitchPorts) (r : List Lexeme) → text_of (lex_switches ss r) ≡ flat_map switch_text ss ++ text_of r
switches_bytes [] r = refl
switches_bytes (s ∷ ss) r =
    ap (λ l. codes "switch " ++ (decimal s.switch ++ (codes " ports " ++ l)))
    (all_ports_bytes s.ports (lex_switches ss r) ∙ ap (λ l. ports_text s.ports ++ (codes "\n" ++ l)) (switches_bytes ss r))
    ∙ sym (left5 (codes "switch ") (decimal s.switch) (codes " ports ") (ports_text s.ports) (codes "\n") (flat_map switch_text ss ++ text_of r))
    ∙ sym (append_assoc (switch_text s) (flat_map switch_text ss) (text_of r))

ports_apart : (p : ℕ) (ps : List ℕ) (r : List Lexeme) → ArePortsShown ps → AreSeparate r → AreSeparate (lex_ports ps r) × IsApart (Lexeme.numeral p) (lex_ports ps r)
ports_apart p [] r h a = ((tt, feed_apart r, a), refl)
ports_apart p (q ∷ ps) r h a = let rest = ports_apart q ps r h.1 a in ((tt, refl, (h.0, rest.1, rest.0)), refl)

pub switches_apart : (ss : List SwitchPorts) (r : List Lexeme) → AreSwitchesShown ss → AreSeparate r → AreSeparate (lex_switches ss r)
switches_apart [] r h a = a
switches_apart (s ∷ ss) r h a = by s.ports h.0.1 h.0.2 (switches_apart ss r h.1 a)
  where
    by : (ps : List ℕ) → ArePortsShown ps → HasOne ps → AreSeparate (lex_switches ss r)
        → AreSeparate (Lexeme.word (codes "switch") ∷ Lexeme.space ∷ Lexeme.numeral s.switch ∷ Lexeme.space ∷ Lexeme.word (codes "ports") ∷ Lexeme.space ∷ lex_all_ports ps (lex_switches ss r))
    by [] h' one a' = absurd one
    by (p ∷ ps) h' one a' =
        let rest = ports_apart p ps (lex_switches ss r) h'.1 a' in
        ((refl, refl), refl, (tt, refl, (h.0.0, refl, (tt, refl, ((refl, refl), refl, (tt, refl, (h'.0, rest.1, rest.0)))))))

ports_spelled : (line : ℕ) (ps : List ℕ) (r : List Lexeme)
    → terminals_on line (lex_ports ps r) ≡ flat_map spell_port (map (number_on line) ps) ++ terminals_on (line + 1) r
ports_spelled line [] r = refl
ports_spelled line (p ∷ ps) r = ap (λ l. mark kind.Comma ∷ number (number_on line p) ∷ l) (ports_spelled line ps r)

pub switches_spelled : (line : ℕ) (ss : List SwitchPorts) (r : List Lexeme) → AreSwitchesShown ss
    → terminals_on line (lex_switches ss r) ≡ flat_map spell_table_declaration (written_switches line ss) ++ terminals_on (following line ss) r
switches_spelled line [] r h = refl
switches_spelled line (s ∷ ss) r h = by s.ports h.0.2 (switches_spelled (line + 1) ss r h.1)
  where
    rest : List Terminal
    rest = flat_map spell_table_declaration (written_switches (line + 1) ss) ++ terminals_on (following (line + 1) ss) r

    by : (ps : List ℕ) → HasOne ps → terminals_on (line + 1) (lex_switches ss r) ≡ rest
        → mark kind.Switch ∷ number (number_on line s.switch) ∷ mark kind.Ports ∷ terminals_on line (lex_all_ports ps (lex_switches ss r))
        ≡ (spell_table_declaration (switch_with line s.switch ps) ++ flat_map spell_table_declaration (written_switches (line + 1) ss)) ++ terminals_on (following (line + 1) ss) r
    by [] one e = absurd one
    by (p ∷ ps) one e =
        ap (λ l. mark kind.Switch ∷ number (number_on line s.switch) ∷ mark kind.Ports ∷ number (number_on line p) ∷ l)
        (ports_spelled line ps (lex_switches ss r) ∙ ap (λ l. flat_map spell_port (map (number_on line) ps) ++ l) e)
        ∙ sym (append_assoc (spell_table_declaration (switch_with line s.switch (p ∷ ps))) (flat_map spell_table_declaration (written_switches (line + 1) ss)) (terminals_on (following (line + 1) ss) r))

-- ---- links

abbrev pub AreLinksShown : List Link → Type 0
AreLinksShown [] = ⊤
AreLinksShown (l ∷ ls) = ((l.from_switch ≤ largest) × (l.from_port ≤ largest) × (l.to_switch ≤ largest) × (l.to_port ≤ largest)) × AreLinksShown ls

abbrev pub lex_links : List Link → List Lexeme → List Lexeme
lex_links [] r = r
lex_links (l ∷ ls) r =
    Lexeme.word (codes "link") ∷ Lexeme.space ∷ Lexeme.numeral l.from_switch ∷ Lexeme.sign Sign.colon ∷ Lexeme.numeral l.from_port
    ∷ Lexeme.space ∷ Lexeme.sign Sign.arrow ∷ Lexeme.space ∷ Lexeme.numeral l.to_switch ∷ Lexeme.sign Sign.colon ∷ Lexeme.numeral l.to_port
    ∷ Lexeme.line_feed ∷ lex_links ls r

abbrev pub written_link : ℕ → Link → Declaration
written_link line l = declared.Link (number_on line l.from_switch) (number_on line l.from_port) (number_on line l.to_switch) (number_on line l.to_port)

abbrev pub written_links : ℕ → List Link → List Declaration
written_links line [] = []
written_links line (l ∷ ls) = written_link line l ∷ written_links (line + 1) ls

pub links_bytes : (ls : List Link) (r : List Lexeme) → text_of (lex_links ls r) ≡ flat_map link_text ls ++ text_of r
links_bytes [] r = refl
links_bytes (l ∷ ls) r =
    ap (λ x. codes "link " ++ (decimal l.from_switch ++ (codes ":" ++ (decimal l.from_port ++ (codes " -> " ++ (decimal l.to_switch ++ (codes ":" ++ (decimal l.to_port ++ (codes "\n" ++ x)))))))))
    (links_bytes ls r)
    ∙ sym (left9 (codes "link ") (decimal l.from_switch) (codes ":") (decimal l.from_port) (codes " -> ") (decimal l.to_switch) (codes ":") (decimal l.to_port) (codes "\n") (flat_map link_text ls ++ text_of r))
    ∙ sym (append_assoc (link_text l) (flat_map link_text ls) (text_of r))

pub links_apart : (ls : List Link) (r : List Lexeme) → AreLinksShown ls → AreSeparate r → AreSeparate (lex_links ls r)
links_apart [] r h a = a
links_apart (l ∷ ls) r h a =
    ((refl, refl), refl, (tt, refl, (h.0.0, refl, (tt, refl, (h.0.1, refl, (tt, refl, (tt, refl, (tt, refl, (h.0.2, refl, (tt, refl, (h.0.3, refl, (tt, feed_apart (lex_links ls r), links_apart ls r h.1 a))))))))))))

pub links_spelled : (line : ℕ) (ls : List Link) (r : List Lexeme)
    → terminals_on line (lex_links ls r) ≡ flat_map spell_table_declaration (written_links line ls) ++ terminals_on (following line ls) r
links_spelled line [] r = refl
links_spelled line (l ∷ ls) r =
    ap (λ x. spell_table_declaration (written_link line l) ++ x) (links_spelled (line + 1) ls r)
    ∙ sym (append_assoc (spell_table_declaration (written_link line l)) (flat_map spell_table_declaration (written_links (line + 1) ls)) (terminals_on (following (line + 1) ls) r))
