-- Whole texts: what is spelled is read, what is read is spelled, and every front goes on.
use Rattle.std.proofs.Common.{◌≡◌, ℕ, subst, List, [], ◌∷◌, ◌++◌, false, refl, sym, ◌∙◌, ap, append_assoc, append-nil, Option}
use Rattle.std.specs.Prelude.{Some, None, option_and_then, option_map, if◌then◌else◌, map}
use Rattle.nk_lex.specs.declared.ident.Ident.{Ident}
use Rattle.nk_lex.specs.declared.ident.Number.{Number}
use Rattle.nk_lex.specs.declared.quad.Quad.{Quad}
use Rattle.nk_lex.specs.declared.quad.Quad.TheVariants as quad
use Rattle.nk_lex.specs.declared.quad.QuadNext.{QuadNext}
use Rattle.nk_lex.specs.declared.quad.QuadNext.TheVariants as next
use Rattle.nk_grammar.specs.declared.place.Place.{Place}
use Rattle.nk_grammar.specs.declared.place.Place.TheVariants as place
use Rattle.nk_grammar.specs.declared.decl.PolicyKeyword.{PolicyKeyword}
use Rattle.nk_grammar.specs.declared.decl.PolicyKeyword.TheVariants as policies
use Rattle.nk_grammar.specs.declared.decl.LinkKeyword.{LinkKeyword}
use Rattle.nk_grammar.specs.declared.decl.LinkKeyword.TheVariants as links
use Rattle.nk_grammar.specs.declared.decl.Naming.{Naming}
use Rattle.nk_grammar.specs.declared.decl.Naming.TheVariants as naming
use Rattle.nk_grammar.specs.Terminal.{Terminal, Outside, name, number, equal, colon, id_word, outside, is_equal, field_word, tag_word, switch_word, ports_word, link_word, let_word, fabric_word, virtual_word, by_word, arrow, comma}
use Rattle.nk_grammar.specs.Tree.{Tree, Trees, name_of, not_of, sum_from}
use Rattle.nk_grammar.specs.Grammar.{Pol, spell_pol, pol_tree, one_term, one_factor, plain, written_id}
use Rattle.nk_grammar.specs.Machine.{Open, group, negation, State, state, first_state, atom_ended, with_number, quad_step, step, step_at, step_done, run, settled, policy_ended, done}
use Rattle.nk_grammar.specs.File.{Declaration, field, tag, switch, virtual_link, Written, written_field, written_tag, written_switch, written_declared_link, written_let, written_fabric, written_virtual, spell_ports, spell_declaration, declared, spell_file, HasDeclarations, FileGoesOn}
use Rattle.nk_grammar.specs.FileMachine.{Phase, between, name_wanted, field_named, switch_read, switch_numbered, port_wanted, port_read, link_read, by_wanted, policy_named, in_policy, Reading, reading, is_ports, is_by, is_comma, with_name, begin_declaration, one_more, defined, link_on, policy_done, policy_on, next_reading, read_one, read_all, first_reading, text_ended, declarations_at_end, open_count}
use Rattle.nk_grammar.proofs.Spelled.{reads, early_late, pol_has_star, early, late}
use Rattle.nk_grammar.proofs.Machines.{Machine, all_append}
use Rattle.nk_grammar.proofs.Links.{spell_link, spell_quad, quad_spell, IsQuadSpelledWith}
use Rattle.nk_grammar.proofs.Fronts.{reads_only, goes_on, run_append, none_some, some_same}

-- the declarations that the tokens come to
abbrev finish : Option Reading → Option (List Declaration)
finish o = option_and_then declarations_at_end o

-- what is left begins a declaration, or is nothing
abbrev IsAfter : List Terminal → Type 0
IsAfter [] = Unit {0}
IsAfter (outside z ∷ r) = is_comma (outside z) ≡ false
IsAfter (t ∷ r) = ⊥

-- declarations begin with a word of theirs
file_after : (ws : List Written) → IsAfter (spell_file ws)
file_after [] = tt
file_after (written_field w n ∷ ws) = refl
file_after (w ∷ ws) = refl

-- no policy goes on with such a word after an atom
refused_after_atom : (t : Tree) (fs : List Open) (ts us : Trees) (z : Outside)
    → step_done (atom_ended t fs ts us) (outside z) ≡ None
refused_after_atom t [] ts us z = refl
refused_after_atom t (group ts' us' ∷ fs) ts us z = refl
refused_after_atom t (negation l ∷ fs) ts us z = refused_after_atom (not_of t l) fs ts us z

-- no policy takes a token of declarations
pub outside_refused : (p : Place) (fs : List Open) (ts us : Trees) (z : Outside)
    → step_at p fs ts us (outside z) ≡ None
outside_refused (place.Named w) fs ts us z = refused_after_atom (name_of w) fs ts us z
outside_refused (place.Linked quad.Start) fs ts us z = refl
outside_refused p fs ts us z = refl

-- a policy's tokens are read inside a declaration as they are alone
inside : (k : PolicyKeyword) (w : Ident) (line : ℕ) (ds : List Declaration) (xs r : List Terminal) (s s' : State)
    → run xs s ≡ Some s'
    → read_all (xs ++ r) (reading (in_policy k w line s) ds) ≡ read_all r (reading (in_policy k w line s') ds)
inside k w line ds [] r s s' e = ap (λ x. read_all r (reading (in_policy k w line x) ds)) cc
inside k w line ds (x ∷ xs) r s s' e = by_step (step s x) (policy_ended s) e (inside k w line ds xs r)
  where
    by_step : (o : Option State) (t : Option Tree) → option_and_then (run xs) o ≡ Some s'
        → ((s s' : State) → run xs s ≡ Some s' → read_all (xs ++ r) (reading (in_policy k w line s) ds) ≡ read_all r (reading (in_policy k w line s') ds))
        → option_and_then (read_all (xs ++ r)) (policy_on k w line ds o t x) ≡ read_all r (reading (in_policy k w line s') ds)
    by_step None t e go = absurd (none_some s' e)
    by_step (Some s) t e go = go s s' e

-- after a policy that may end, a declaration begins, or the end comes
policy_ends : (k : PolicyKeyword) (w : Ident) (line : ℕ) (ds : List Declaration) (p : Tree) (s : State) (r : List Terminal)
    → policy_ended s ≡ Some p → IsAfter r
    → finish (read_all r (reading (in_policy k w line s) ds)) ≡ finish (read_all r (reading between (one_more ds (defined k w p line))))
policy_ends k w line ds p s [] e b = ap (λ o. option_map (λ p. one_more ds (defined k w p line)) o) e
policy_ends k w line ds p s (outside z ∷ r) e b =
    ap (λ o. finish (option_and_then (read_all r) (policy_on k w line ds o (policy_ended s) (outside z)))) (outside_refused s.place s.frames s.terms s.factors z)
    ∙ ap (λ o. finish (option_and_then (read_all r) (policy_done k w line ds o (outside z)))) e
policy_ends k w line ds p s r e b = absurd b

-- further ports
ports_pass : (n : Number) (qs ps : List Number) (ds : List Declaration) (r : List Terminal) → IsAfter r
    → finish (read_all (spell_ports ps ++ r) (reading (port_read n qs) ds)) ≡ finish (read_all r (reading between (one_more ds (switch n (qs ++ ps)))))
ports_pass n qs (p ∷ ps) ds r b =
    ports_pass n (qs ++ p ∷ []) ps ds r b
    ∙ ap (λ x. finish (read_all r (reading between (one_more ds (switch n x))))) (append_assoc qs (p ∷ []) ps)
ports_pass n qs [] ds [] b = ap (λ x. Some (one_more ds (switch n x))) (sym (append-nil qs))
ports_pass n qs [] ds (outside z ∷ r) b =
    ap (λ x. finish (option_and_then (read_all r) (if x then Some (reading (port_wanted n qs) ds) else begin_declaration (one_more ds (switch n qs)) (outside z)))) b
    ∙ ap (λ x. finish (option_and_then (read_all r) (begin_declaration (one_more ds (switch n x)) (outside z)))) (sym (append-nil qs))
ports_pass n qs [] ds r b = absurd b

-- what the tokens of a policy leave
pub left_by : (p : Pol) → (s : State) × (run (spell_pol p) first_state ≡ Some s) × (policy_ended s ≡ Some (pol_tree p))
left_by p = by_state (run (spell_pol p) first_state) refl (reads p)
  where
    by_state : (o : Option State) → run (spell_pol p) first_state ≡ o
        → option_map settled o ≡ Some (state (place.After (pol_has_star p)) [] (early p) (late p))
        → (s : State) × (run (spell_pol p) first_state ≡ Some s) × (policy_ended s ≡ Some (pol_tree p))
    by_state None f e = absurd (none_some _ e)
    by_state (Some s) f e =
        (s, f, ap done (some_same (settled s) (state (place.After (pol_has_star p)) [] (early p) (late p)) e) ∙ ap (λ x. Some (joined_of x)) (early_late p))
      where
        joined_of : Trees → Tree
        joined_of ts = sum_from ts

-- the tokens of a policy leave its declaration
policy_passes : (k : PolicyKeyword) (line : ℕ) (w : Ident) (p : Pol) (ds : List Declaration) (r : List Terminal) → IsAfter r
    → finish (read_all (spell_pol p ++ r) (reading (in_policy k w line first_state) ds)) ≡ finish (read_all r (reading between (one_more ds (defined k w (pol_tree p) line))))
policy_passes k line w p ds r b =
    let l = left_by p in
    ap finish (inside k w line ds (spell_pol p) r first_state l.0 l.1) ∙ policy_ends k w line ds (pol_tree p) l.0 r l.2 b

-- a declaration's tokens leave the declaration
declaration_passes : (w : Written) (ds : List Declaration) (r : List Terminal) → IsAfter r
    → finish (read_all (spell_declaration w ++ r) (reading between ds)) ≡ finish (read_all r (reading between (one_more ds (declared w))))
declaration_passes (written_switch n p ps) ds r b = ports_pass n (p ∷ []) ps ds r b
declaration_passes (written_let line w p) ds r b = policy_passes policies.Let line w p ds r b
declaration_passes (written_fabric line w p) ds r b = policy_passes policies.Fabric line w p ds r b
declaration_passes w ds r b = refl

-- the tokens of declarations give them
file_passes : (ws : List Written) (ds : List Declaration)
    → finish (read_all (spell_file ws) (reading between ds)) ≡ Some (ds ++ map declared ws)
file_passes [] ds = ap (λ x. Some x) (sym (append-nil ds))
file_passes (w ∷ ws) ds =
    declaration_passes w ds (spell_file ws) (file_after ws)
    ∙ file_passes ws (one_more ds (declared w))
    ∙ ap (λ x. Some x) (append_assoc ds (declared w ∷ []) (map declared ws))

-- a text's tokens give its declarations
pub reads_file : (ts : List Terminal) (ds : List Declaration) → HasDeclarations ts ds
    → option_and_then declarations_at_end (read_all ts first_reading) ≡ Some ds
reads_file ts ds h = ap (λ x. finish (read_all x first_reading)) h.1 ∙ file_passes h.0 [] ∙ ap (λ x. Some x) (sym h.2)

-- the ports so far, each with a comma after it
abbrev wanted_ports : List Number → List Terminal
wanted_ports [] = []
wanted_ports (p ∷ ps) = number p ∷ (spell_ports ps ++ outside comma ∷ [])

-- the word that a policy's declaration begins with
abbrev policy_word : PolicyKeyword → ℕ → Outside
policy_word policies.Let line = let_word line
policy_word policies.Fabric line = fabric_word line

-- the declaration of a policy, as it is written
abbrev written_policy : PolicyKeyword → ℕ → Ident → Pol → Written
written_policy policies.Let line w p = written_let line w p
written_policy policies.Fabric line w p = written_fabric line w p

-- its tokens
policy_spelled : (k : PolicyKeyword) (line : ℕ) (w : Ident) (p : Pol)
    → outside (policy_word k line) ∷ name w ∷ equal ∷ spell_pol p ≡ spell_declaration (written_policy k line w p)
policy_spelled policies.Let line w p = refl
policy_spelled policies.Fabric line w p = refl

-- and its value
policy_declared : (k : PolicyKeyword) (line : ℕ) (w : Ident) (p : Pol) → declared (written_policy k line w p) ≡ defined k w (pol_tree p) line
policy_declared policies.Let line w p = refl
policy_declared policies.Fabric line w p = refl

-- the word that a link's declaration begins with
abbrev wire_word : LinkKeyword → Outside
wire_word links.Link = link_word
wire_word links.Virtual = virtual_word

-- the tokens up to a name that is wanted
abbrev spell_naming : Naming → List Terminal
spell_naming naming.Field = outside field_word ∷ []
spell_naming naming.Tag = outside tag_word ∷ []
spell_naming (naming.Policy k line) = outside (policy_word k line) ∷ []
spell_naming (naming.Virtual a m b n) = outside virtual_word ∷ (spell_link false a m b n ++ outside by_word ∷ [])

-- the tokens of the declaration that is open
abbrev IsPhaseSpelled : Phase → List Terminal → Type 0
IsPhaseSpelled between us = us ≡ []
IsPhaseSpelled (name_wanted k) us = us ≡ spell_naming k
IsPhaseSpelled (field_named w) us = us ≡ outside field_word ∷ name w ∷ []
IsPhaseSpelled switch_read us = us ≡ outside switch_word ∷ []
IsPhaseSpelled (switch_numbered n) us = us ≡ outside switch_word ∷ number n ∷ []
IsPhaseSpelled (port_wanted n ps) us = us ≡ outside switch_word ∷ number n ∷ outside ports_word ∷ wanted_ports ps
IsPhaseSpelled (port_read n ps) us = (p : Number) × (qs : List Number) × (ps ≡ p ∷ qs) × (us ≡ spell_declaration (written_switch n p qs))
IsPhaseSpelled (link_read k q) us = us ≡ outside (wire_word k) ∷ spell_quad false q
IsPhaseSpelled (by_wanted a m b n) us = us ≡ outside virtual_word ∷ spell_link false a m b n
IsPhaseSpelled (policy_named k w line) us = us ≡ outside (policy_word k line) ∷ name w ∷ []
IsPhaseSpelled (in_policy k w line s) us = (vs : List Terminal) × (us ≡ outside (policy_word k line) ∷ name w ∷ equal ∷ vs) × (run vs first_state ≡ Some s)

-- the tokens so far are those of the declarations that are done and of the one that is open
abbrev IsFront : List Terminal → Phase → List Declaration → Type 0
IsFront ts p ds = (ws : List Written) × (us : List Terminal) × (ds ≡ map declared ws) × (ts ≡ spell_file ws ++ us) × IsPhaseSpelled p us

-- the tokens of one more declaration
spell_more : (ws : List Written) (w : Written)
    → spell_file (ws ++ w ∷ []) ≡ spell_file ws ++ spell_declaration w
spell_more [] w = append-nil (spell_declaration w)
spell_more (v ∷ ws) w = ap (λ x. spell_declaration v ++ x) (spell_more ws w) ∙ sym (append_assoc (spell_declaration v) (spell_file ws) (spell_declaration w))

-- the value of one more declaration
declared_more : (ws : List Written) (w : Written)
    → map declared (ws ++ w ∷ []) ≡ map declared ws ++ declared w ∷ []
declared_more [] w = refl
declared_more (v ∷ ws) w = ap (λ x. declared v ∷ x) (declared_more ws w)

-- one more declaration is done
done_more : (ws : List Written) (w : Written) (ts us : List Terminal) (ds : List Declaration)
    → ds ≡ map declared ws → ts ≡ spell_file ws ++ us → us ≡ spell_declaration w
    → HasDeclarations ts (one_more ds (declared w))
done_more ws w ts us ds e f g =
    (ws ++ w ∷ [], f ∙ ap (λ x. spell_file ws ++ x) g ∙ sym (spell_more ws w), ap (λ x. x ++ declared w ∷ []) e ∙ sym (declared_more ws w))

-- the next token of the declaration that is open
same_file : (ws : List Written) (ts us vs : List Terminal) (t : Terminal) → ts ≡ spell_file ws ++ us
    → us ++ t ∷ [] ≡ vs → ts ++ t ∷ [] ≡ spell_file ws ++ vs
same_file ws ts us vs t e f = ap (λ x. x ++ t ∷ []) e ∙ append_assoc (spell_file ws) us (t ∷ []) ∙ ap (λ x. spell_file ws ++ x) f

-- and what it is spelled as
following : {us xs : List Terminal} {t u : Terminal} → us ≡ xs → t ≡ u → us ++ t ∷ [] ≡ xs ++ u ∷ []
following e f = rw (e, f)

-- the readings that a step may lead to
abbrev Leads : Option Reading → List Terminal → Type 0
Leads None ts = Unit {0}
Leads (Some r) ts = IsFront ts r.phase r.declarations

-- a declaration that begins after others
begins : (ts : List Terminal) (ds : List Declaration) (t : Terminal) → HasDeclarations ts ds
    → Leads (begin_declaration ds t) (ts ++ t ∷ [])
begins ts ds (outside field_word) h = (h.0, outside field_word ∷ [], h.2, ap (λ x. x ++ outside field_word ∷ []) h.1, refl)
begins ts ds (outside tag_word) h = (h.0, outside tag_word ∷ [], h.2, ap (λ x. x ++ outside tag_word ∷ []) h.1, refl)
begins ts ds (outside switch_word) h = (h.0, outside switch_word ∷ [], h.2, ap (λ x. x ++ outside switch_word ∷ []) h.1, refl)
begins ts ds (outside link_word) h = (h.0, outside link_word ∷ [], h.2, ap (λ x. x ++ outside link_word ∷ []) h.1, refl)
begins ts ds (outside (let_word l)) h = (h.0, outside (let_word l) ∷ [], h.2, ap (λ x. x ++ outside (let_word l) ∷ []) h.1, refl)
begins ts ds (outside (fabric_word l)) h = (h.0, outside (fabric_word l) ∷ [], h.2, ap (λ x. x ++ outside (fabric_word l) ∷ []) h.1, refl)
begins ts ds (outside virtual_word) h = (h.0, outside virtual_word ∷ [], h.2, ap (λ x. x ++ outside virtual_word ∷ []) h.1, refl)
begins ts ds t h = tt

-- a name, a number or a sign that is wanted
name_leads : (t : Terminal) (ts : List Terminal) (f : Ident → Reading)
    → ((w : Ident) → t ≡ name w → Leads (Some (f w)) ts)
    → Leads (with_name t None (λ w. Some (f w))) ts
name_leads (name x) ts f e = e x refl
name_leads t ts f e = tt

-- where a number is wanted
number_leads : (t : Terminal) (ts : List Terminal) (f : Number → Reading)
    → ((n : Number) → t ≡ number n → Leads (Some (f n)) ts)
    → Leads (with_number t None (λ n. Some (f n))) ts
number_leads (number x) ts f e = e x refl
number_leads t ts f e = tt

-- where the word `ports` is wanted
ports_leads : (t : Terminal) (ts : List Terminal) (r : Reading)
    → (t ≡ outside ports_word → Leads (Some r) ts) → Leads (if is_ports t then Some r else None) ts
ports_leads (outside ports_word) ts r e = e refl
ports_leads t ts r e = tt

-- where `=` is wanted
equal_leads : (t : Terminal) (ts : List Terminal) (r : Reading) → (t ≡ equal → Leads (Some r) ts)
    → Leads (if is_equal t then Some r else None) ts
equal_leads equal ts r e = e refl
equal_leads t ts r e = tt

-- where the word `by` is wanted
by_leads : (t : Terminal) (ts : List Terminal) (r : Reading) → (t ≡ outside by_word → Leads (Some r) ts)
    → Leads (if is_by t then Some r else None) ts
by_leads (outside by_word) ts r e = e refl
by_leads t ts r e = tt

-- where a comma may come
comma_leads : (t : Terminal) (ts : List Terminal) (r : Reading) (o : Option Reading)
    → (t ≡ outside comma → Leads (Some r) ts) → Leads o ts
    → Leads (if is_comma t then Some r else o) ts
comma_leads (outside comma) ts r o e f = e refl
comma_leads t ts r o e f = f

-- further ports, and one more
ports_more : (ps : List Number) (p : Number)
    → spell_ports (ps ++ p ∷ []) ≡ spell_ports ps ++ outside comma ∷ number p ∷ []
ports_more [] p = refl
ports_more (q ∷ ps) p = ap (λ x. outside comma ∷ number q ∷ x) (ports_more ps p)

-- one more port
port_leads : (n : Number) (ps : List Number) (us : List Terminal) (p : Number)
    → us ≡ outside switch_word ∷ number n ∷ outside ports_word ∷ wanted_ports ps
    → IsPhaseSpelled (port_read n (ps ++ p ∷ [])) (us ++ number p ∷ [])
port_leads n [] us p e = (p, [], refl, ap (λ x. x ++ number p ∷ []) e)
port_leads n (q ∷ qs) us p e =
    (q, qs ++ p ∷ [], refl, ap (λ x. x ++ number p ∷ []) e ∙ ap (λ x. outside switch_word ∷ number n ∷ outside ports_word ∷ number q ∷ x) (append_assoc (spell_ports qs) (outside comma ∷ []) (number p ∷ []) ∙ sym (ports_more qs p)))

-- a declaration that is done at this token
done_here : (ws : List Written) (w : Written) (ds : List Declaration) (ts us : List Terminal) (t : Terminal)
    → ds ≡ map declared ws → ts ≡ spell_file ws ++ us → us ++ t ∷ [] ≡ spell_declaration w
    → IsFront (ts ++ t ∷ []) between (one_more ds (declared w))
done_here ws w ds ts us t d e f =
    let h = done_more ws w (ts ++ t ∷ []) (us ++ t ∷ []) ds d (same_file ws ts us (us ++ t ∷ []) t e refl) f in
    (h.0, [], h.2, h.1 ∙ sym (append-nil (spell_file h.0)), refl)

-- one more token of a link
wire_leads : (k : LinkKeyword) (ws : List Written) (ds : List Declaration) (ts us xs : List Terminal) (t : Terminal) (q : QuadNext)
    → ds ≡ map declared ws → ts ≡ spell_file ws ++ us → us ≡ outside (wire_word k) ∷ xs
    → IsQuadSpelledWith false xs t q → Leads (link_on k ds q) (ts ++ t ∷ [])
wire_leads k ws ds ts us xs t next.Refused d e f g = tt
wire_leads k ws ds ts us xs t (next.Going q) d e f g =
    (ws, us ++ t ∷ [], d, same_file ws ts us (us ++ t ∷ []) t e refl, ap (λ x. x ++ t ∷ []) f ∙ ap (λ x. outside (wire_word k) ∷ x) (sym g))
wire_leads links.Link ws ds ts us xs t (next.Full a m b n) d e f g =
    done_here ws (written_declared_link a m b n) ds ts us t d e (ap (λ x. x ++ t ∷ []) f ∙ ap (λ x. outside link_word ∷ x) (sym g))
wire_leads links.Virtual ws ds ts us xs t (next.Full a m b n) d e f g =
    (ws, us ++ t ∷ [], d, same_file ws ts us (us ++ t ∷ []) t e refl, ap (λ x. x ++ t ∷ []) f ∙ ap (λ x. outside virtual_word ∷ x) (sym g))

-- a policy that is done
policy_here : (k : PolicyKeyword) (ws : List Written) (ds : List Declaration) (ts us vs : List Terminal) (w : Ident) (line : ℕ) (s : State) (p : Tree)
    → ds ≡ map declared ws → ts ≡ spell_file ws ++ us → us ≡ outside (policy_word k line) ∷ name w ∷ equal ∷ vs → run vs first_state ≡ Some s
    → policy_ended s ≡ Some p → HasDeclarations ts (one_more ds (defined k w p line))
policy_here k ws ds ts us vs w line s p d e f g h =
    let tree = reads_only vs p (ap (option_and_then policy_ended) g ∙ h) in
    subst (λ x. HasDeclarations ts (one_more ds x)) (policy_declared k line w tree.0 ∙ ap (λ x. defined k w x line) (sym tree.2))
    (done_more ws (written_policy k line w tree.0) ts us ds d e (f ∙ ap (λ x. outside (policy_word k line) ∷ name w ∷ equal ∷ x) tree.1 ∙ policy_spelled k line w tree.0))

-- a policy that goes on, or ends before the token
policy_leads : (k : PolicyKeyword) (ws : List Written) (ds : List Declaration) (ts us vs : List Terminal) (w : Ident) (line : ℕ) (s : State) (t : Terminal)
    → ds ≡ map declared ws → ts ≡ spell_file ws ++ us
    → us ≡ outside (policy_word k line) ∷ name w ∷ equal ∷ vs → run vs first_state ≡ Some s → Leads (policy_on k w line ds (step s t) (policy_ended s) t) (ts ++ t ∷ [])
policy_leads k ws ds ts us vs w line s t d e f g = by_step (step s t) refl
  where
    by_end : (o : Option Tree) → policy_ended s ≡ o → Leads (policy_done k w line ds o t) (ts ++ t ∷ [])
    by_end None h = tt
    by_end (Some p) h = begins ts (one_more ds (defined k w p line)) t (policy_here k ws ds ts us vs w line s p d e f g h)

    by_step : (o : Option State) → step s t ≡ o → Leads (policy_on k w line ds o (policy_ended s) t) (ts ++ t ∷ [])
    by_step (Some s') h = (
      ws,
      us ++ t ∷ [],
      d,
      same_file ws ts us (us ++ t ∷ []) t e refl,
      (
        vs ++ t ∷ [],
        ap (λ x. x ++ t ∷ []) f,
        run_append vs (t ∷ []) first_state ∙ ap (option_and_then (run (t ∷ []))) g ∙ ap (option_and_then (run [])) h,
      ),
    )
    by_step None h = by_end (policy_ended s) refl

-- the tokens so far stay a front
front_leads : (p : Phase) (ds : List Declaration) (ts : List Terminal) (t : Terminal)
    → IsFront ts p ds → Leads (next_reading p ds t) (ts ++ t ∷ [])
front_leads between ds ts t h = begins ts ds t (h.0, h.3 ∙ ap (λ x. spell_file h.0 ++ x) h.4 ∙ append-nil (spell_file h.0), h.2)
front_leads (name_wanted naming.Field) ds ts t h = name_leads t _ (λ w. reading (field_named w) ds) (λ w e. (h.0, h.1 ++ t ∷ [], h.2, same_file h.0 ts h.1 (h.1 ++ t ∷ []) t h.3 refl, following h.4 e))
front_leads (name_wanted naming.Tag) ds ts t h = name_leads t _ (λ w. reading between (one_more ds (tag w))) (λ w e. done_here h.0 (written_tag w) ds ts h.1 t h.2 h.3 (following h.4 e))
front_leads (name_wanted (naming.Policy k line)) ds ts t h = name_leads t _ (λ w. reading (policy_named k w line) ds) (λ w e. (h.0, h.1 ++ t ∷ [], h.2, same_file h.0 ts h.1 (h.1 ++ t ∷ []) t h.3 refl, following h.4 e))
front_leads (name_wanted (naming.Virtual a m b n)) ds ts t h =
    name_leads t _ (λ w. reading between (one_more ds (virtual_link a m b n w))) (λ w e. done_here h.0 (written_virtual a m b n w) ds ts h.1 t h.2 h.3 (following h.4 e))
front_leads (field_named w) ds ts t h = number_leads t _ (λ n. reading between (one_more ds (field w n))) (λ n e. done_here h.0 (written_field w n) ds ts h.1 t h.2 h.3 (following h.4 e))
front_leads switch_read ds ts t h = number_leads t _ (λ n. reading (switch_numbered n) ds) (λ w e. (h.0, h.1 ++ t ∷ [], h.2, same_file h.0 ts h.1 (h.1 ++ t ∷ []) t h.3 refl, following h.4 e))
front_leads (switch_numbered n) ds ts t h = ports_leads t _ (reading (port_wanted n []) ds) (λ e. (h.0, h.1 ++ t ∷ [], h.2, same_file h.0 ts h.1 (h.1 ++ t ∷ []) t h.3 refl, following h.4 e))
front_leads (port_wanted n ps) ds ts t h =
    number_leads t _ (λ p. reading (port_read n (ps ++ p ∷ [])) ds) (λ p e. (
      h.0,
      h.1 ++ t ∷ [],
      h.2,
      same_file h.0 ts h.1 (h.1 ++ t ∷ []) t h.3 refl,
      subst (λ x. IsPhaseSpelled (port_read n (ps ++ p ∷ [])) (h.1 ++ x ∷ [])) (sym e) (port_leads n ps h.1 p h.4),
    ))
front_leads (port_read n ps) ds ts t h =
    let s : IsPhaseSpelled (port_read n ps) h.1 = h.4 in
    comma_leads t _ (reading (port_wanted n ps) ds) _
    (λ e. (h.0, h.1 ++ t ∷ [], h.2, same_file h.0 ts h.1 (h.1 ++ t ∷ []) t h.3 refl, following s.3 e ∙ ap (λ x. outside switch_word ∷ number n ∷ outside ports_word ∷ wanted_ports x) (sym s.2)))
    (begins ts (one_more ds (switch n ps)) t
    (subst (λ x. HasDeclarations ts (one_more ds (switch n x))) (sym s.2) (done_more h.0 (written_switch n s.0 s.1) ts h.1 ds h.2 h.3 s.3)))
front_leads (link_read k q) ds ts t h = wire_leads k h.0 ds ts h.1 (spell_quad false q) t (quad_step false q t) h.2 h.3 h.4 (quad_spell false q t)
front_leads (by_wanted a m b n) ds ts t h = by_leads t _ (reading (name_wanted (naming.Virtual a m b n)) ds) (λ e. (h.0, h.1 ++ t ∷ [], h.2, same_file h.0 ts h.1 (h.1 ++ t ∷ []) t h.3 refl, following h.4 e))
front_leads (policy_named k w line) ds ts t h =
    equal_leads t _ (reading (in_policy k w line first_state) ds) (λ e. (h.0, h.1 ++ t ∷ [], h.2, same_file h.0 ts h.1 (h.1 ++ t ∷ []) t h.3 refl, ([], following h.4 e, refl)))
front_leads (in_policy k w line s) ds ts t h =
    let p : IsPhaseSpelled (in_policy k w line s) h.1 = h.4 in
    policy_leads k h.0 ds ts h.1 p.0 w line s t h.2 h.3 p.1 p.2

-- all tokens
fronts : (us ts : List Terminal) (r r' : Reading) → IsFront ts r.phase r.declarations
    → read_all us r ≡ Some r' → IsFront (ts ++ us) r'.phase r'.declarations
fronts [] ts r r' h e =
    subst (λ x. IsFront x r'.phase r'.declarations) (sym (append-nil ts)) (subst (λ x. IsFront ts x.phase x.declarations) (some_same r r' e) h)
fronts (t ∷ us) ts r r' h e = by_step (read_one r t) (front_leads r.phase r.declarations ts t h) e (λ s k f. fronts us (ts ++ t ∷ []) s r' k f)
  where
    by_step : (o : Option Reading) → Leads o (ts ++ t ∷ []) → option_and_then (read_all us) o ≡ Some r'
        → ((s : Reading) → IsFront (ts ++ t ∷ []) s.phase s.declarations → read_all us s ≡ Some r' → IsFront ((ts ++ t ∷ []) ++ us) r'.phase r'.declarations)
        → IsFront (ts ++ t ∷ us) r'.phase r'.declarations
    by_step None l e go = absurd (none_some r' e)
    by_step (Some s) l e go = subst (λ x. IsFront x r'.phase r'.declarations) (append_assoc ts (t ∷ []) us) (go s l e)

-- the tokens of a state that is reached are its front
front_of : (ts : List Terminal) (r : Reading) → read_all ts first_reading ≡ Some r
    → IsFront ts r.phase r.declarations
front_of ts r e = fronts ts [] first_reading r ([], [], refl, refl, refl) e

-- a declaration that can be completed
completed : (ws : List Written) (ts us more : List Terminal) (w : Written)
    → ts ≡ spell_file ws ++ us → us ++ more ≡ spell_declaration w → FileGoesOn ts
completed ws ts us more w e f =
    (more, ws ++ w ∷ [], ap (λ x. x ++ more) e ∙ append_assoc (spell_file ws) us more ∙ ap (λ x. spell_file ws ++ x) f ∙ sym (spell_more ws w))

-- some number
pub a_number : Number
a_number = record { value = 0; line = 0 }

-- some name
a_word : Ident
a_word = record { text = []; line = 0 }

-- the shortest policy
abbrev pub id_pol : Pol
id_pol = one_term (one_factor (plain written_id))

-- equal tokens, and the same after them
goes_on_with : (us xs more : List Terminal) → us ≡ xs → us ++ more ≡ xs ++ more
goes_on_with us xs more e = ap (λ x. x ++ more) e

-- what stands after the two ends of a link
abbrev link_tail : LinkKeyword → List Terminal
link_tail links.Link = []
link_tail links.Virtual = outside by_word ∷ name a_word ∷ []

-- a link, as it is written
abbrev written_link_of : LinkKeyword → Number → Number → Number → Number → Written
written_link_of links.Link a m b n = written_declared_link a m b n
written_link_of links.Virtual a m b n = written_virtual a m b n a_word

-- and its tokens
link_spelled : (k : LinkKeyword) (a m b n : Number)
    → outside (wire_word k) ∷ (spell_link false a m b n ++ link_tail k) ≡ spell_declaration (written_link_of k a m b n)
link_spelled links.Link a m b n = refl
link_spelled links.Virtual a m b n = refl

-- a part of a link can be completed
quad_completes : (k : LinkKeyword) (ws : List Written) (ts us : List Terminal) (q : Quad) → ts ≡ spell_file ws ++ us
    → us ≡ outside (wire_word k) ∷ spell_quad false q → FileGoesOn ts
quad_completes k ws ts us quad.Start e f = completed ws ts us (number a_number ∷ colon ∷ number a_number ∷ outside arrow ∷ number a_number ∷ colon ∷ number a_number ∷ link_tail k) (written_link_of k a_number a_number a_number a_number) e (goes_on_with us _ _ f ∙ link_spelled k a_number a_number a_number a_number)
quad_completes k ws ts us (quad.Switch a) e f = completed ws ts us (colon ∷ number a ∷ outside arrow ∷ number a ∷ colon ∷ number a ∷ link_tail k) (written_link_of k a a a a) e (goes_on_with us _ _ f ∙ link_spelled k a a a a)
quad_completes k ws ts us (quad.SwitchColon a) e f = completed ws ts us (number a ∷ outside arrow ∷ number a ∷ colon ∷ number a ∷ link_tail k) (written_link_of k a a a a) e (goes_on_with us _ _ f ∙ link_spelled k a a a a)
quad_completes k ws ts us (quad.Port a m) e f = completed ws ts us (outside arrow ∷ number a ∷ colon ∷ number a ∷ link_tail k) (written_link_of k a m a a) e (goes_on_with us _ _ f ∙ link_spelled k a m a a)
quad_completes k ws ts us (quad.Arrow a m) e f = completed ws ts us (number a ∷ colon ∷ number a ∷ link_tail k) (written_link_of k a m a a) e (goes_on_with us _ _ f ∙ link_spelled k a m a a)
quad_completes k ws ts us (quad.ToSwitch a m b) e f = completed ws ts us (colon ∷ number a ∷ link_tail k) (written_link_of k a m b a) e (goes_on_with us _ _ f ∙ link_spelled k a m b a)
quad_completes k ws ts us (quad.ToColon a m b) e f = completed ws ts us (number a ∷ link_tail k) (written_link_of k a m b a) e (goes_on_with us _ _ f ∙ link_spelled k a m b a)

-- a declared switch can be completed
ports_complete : (ws : List Written) (ts us : List Terminal) (n : Number) (ps : List Number)
    → ts ≡ spell_file ws ++ us
    → us ≡ outside switch_word ∷ number n ∷ outside ports_word ∷ wanted_ports ps → FileGoesOn ts
ports_complete ws ts us n [] e f = completed ws ts us (number n ∷ []) (written_switch n n []) e (goes_on_with us _ _ f)
ports_complete ws ts us n (p ∷ ps) e f =
    let l = port_leads n (p ∷ ps) us n f in
    completed ws ts us (number n ∷ []) (written_switch n l.0 l.1) e l.3

-- each front can be completed
phase_completes : (p : Phase) (ds : List Declaration) (ts : List Terminal) → IsFront ts p ds → FileGoesOn ts
phase_completes between ds ts h = ([], h.0, append-nil ts ∙ h.3 ∙ ap (λ x. spell_file h.0 ++ x) h.4 ∙ append-nil (spell_file h.0))
phase_completes (name_wanted naming.Field) ds ts h = completed h.0 ts h.1 (name a_word ∷ number a_number ∷ []) (written_field a_word a_number) h.3 (goes_on_with h.1 _ _ h.4)
phase_completes (name_wanted naming.Tag) ds ts h = completed h.0 ts h.1 (name a_word ∷ []) (written_tag a_word) h.3 (goes_on_with h.1 _ _ h.4)
phase_completes (name_wanted (naming.Policy k line)) ds ts h =
    completed h.0 ts h.1 (name a_word ∷ equal ∷ id_word ∷ []) (written_policy k line a_word id_pol) h.3 (goes_on_with h.1 _ _ h.4 ∙ policy_spelled k line a_word id_pol)
phase_completes (name_wanted (naming.Virtual a m b n)) ds ts h = completed h.0 ts h.1 (name a_word ∷ []) (written_virtual a m b n a_word) h.3 (goes_on_with h.1 _ _ h.4)
phase_completes (field_named w) ds ts h = completed h.0 ts h.1 (number a_number ∷ []) (written_field w a_number) h.3 (goes_on_with h.1 _ _ h.4)
phase_completes switch_read ds ts h = completed h.0 ts h.1 (number a_number ∷ outside ports_word ∷ number a_number ∷ []) (written_switch a_number a_number []) h.3 (goes_on_with h.1 _ _ h.4)
phase_completes (switch_numbered n) ds ts h = completed h.0 ts h.1 (outside ports_word ∷ number n ∷ []) (written_switch n n []) h.3 (goes_on_with h.1 _ _ h.4)
phase_completes (port_wanted n ps) ds ts h = ports_complete h.0 ts h.1 n ps h.3 h.4
phase_completes (port_read n ps) ds ts h =
    let s : IsPhaseSpelled (port_read n ps) h.1 = h.4 in
    completed h.0 ts h.1 [] (written_switch n s.0 s.1) h.3 (append-nil h.1 ∙ s.3)
phase_completes (link_read k q) ds ts h = quad_completes k h.0 ts h.1 q h.3 h.4
phase_completes (by_wanted a m b n) ds ts h = completed h.0 ts h.1 (outside by_word ∷ name a_word ∷ []) (written_virtual a m b n a_word) h.3 (goes_on_with h.1 _ _ h.4)
phase_completes (policy_named k w line) ds ts h = completed h.0 ts h.1 (equal ∷ id_word ∷ []) (written_policy k line w id_pol) h.3 (goes_on_with h.1 _ _ h.4 ∙ policy_spelled k line w id_pol)
phase_completes (in_policy k w line s) ds ts h =
    let p : IsPhaseSpelled (in_policy k w line s) h.1 = h.4 in
    let g = goes_on p.0 s p.2 in
    completed h.0 ts h.1 g.0 (written_policy k line w g.1) h.3
    (goes_on_with h.1 _ g.0 p.1 ∙ ap (λ x. outside (policy_word k line) ∷ name w ∷ equal ∷ x) g.2 ∙ policy_spelled k line w g.1)

-- tokens that are taken are the front of a text
pub file_goes_on : (ts : List Terminal) (r : Reading) → read_all ts first_reading ≡ Some r → FileGoesOn ts
file_goes_on ts r e = phase_completes r.phase r.declarations ts (front_of ts r e)

-- what may end is a text
phase_ends : (p : Phase) (ds es : List Declaration) (ts : List Terminal) → IsFront ts p ds
    → text_ended p ds ≡ Some es → HasDeclarations ts es
phase_ends between ds es ts h e = (h.0, h.3 ∙ ap (λ x. spell_file h.0 ++ x) h.4 ∙ append-nil (spell_file h.0), sym (some_same ds es e) ∙ h.2)
phase_ends (port_read n ps) ds es ts h e =
    let s : IsPhaseSpelled (port_read n ps) h.1 = h.4 in
    subst (HasDeclarations ts) (some_same _ es e)
    (subst (λ x. HasDeclarations ts (one_more ds (switch n x))) (sym s.2) (done_more h.0 (written_switch n s.0 s.1) ts h.1 ds h.2 h.3 s.3))
phase_ends (in_policy k w line s) ds es ts h e = by_end (policy_ended s) refl e
  where
    by_end : (o : Option Tree) → policy_ended s ≡ o
        → option_map (λ p. one_more ds (defined k w p line)) o ≡ Some es → HasDeclarations ts es
    by_end None f e = absurd (none_some es e)
    by_end (Some q) f e =
        let p : IsPhaseSpelled (in_policy k w line s) h.1 = h.4 in
        subst (HasDeclarations ts) (some_same _ es e) (policy_here k h.0 ds ts h.1 p.0 w line s q h.2 h.3 p.1 p.2 f)
phase_ends p ds es ts h e = absurd (none_some es e)

-- what may end is a text
pub ends_file : (ts : List Terminal) (r : Reading) (ds : List Declaration)
    → read_all ts first_reading ≡ Some r → declarations_at_end r ≡ Some ds → HasDeclarations ts ds
ends_file ts r ds e f = phase_ends r.phase r.declarations ds ts (front_of ts r e) f

-- the machine of texts
abbrev pub file_machine : Machine Reading
file_machine = record {
  one = read_one;
  all = read_all;
  first = first_reading;
  open_in = open_count;
  of_none = λ r. refl;
  of_more = λ t ts r. refl;
  none_open = refl;
}

-- tokens in two parts
pub read_append : (xs ys : List Terminal) (r : Reading)
    → read_all (xs ++ ys) r ≡ option_and_then (read_all ys) (read_all xs r)
read_append xs ys r = all_append file_machine xs ys r

-- tokens that are refused are the front of no text
pub file_stops : (ts : List Terminal) → read_all ts first_reading ≡ None → FileGoesOn ts → ⊥
file_stops ts e g =
    let refused : read_all (ts ++ g.0) first_reading ≡ None = read_append ts g.0 first_reading ∙ ap (option_and_then (read_all g.0)) e in
    none_some _ (ap finish (sym refused) ∙ reads_file (ts ++ g.0) (map declared g.1) (g.1, g.2, refl))
