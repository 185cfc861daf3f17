-- Texts with a certificate: what is spelled is read, what is read is spelled, and every front goes on.
use Rattle.std.proofs.Common.{◌≡◌, ℕ, subst, List, [], ◌∷◌, ◌++◌, false, refl, sym, ◌∙◌, ap, append_assoc, append-nil, Option, inl, inr, ◌⊎◌}
use Rattle.std.specs.Prelude.{Some, None, option_and_then, if◌then◌else◌, map}
use Rattle.nk_lex.specs.declared.ident.Ident.{Ident}
use Rattle.nk_lex.specs.declared.ident.Number.{Number}
use Rattle.nk_lex.specs.declared.quad.Quad.TheVariants as quad
use Rattle.nk_grammar.specs.declared.decl.PolicyKeyword.{PolicyKeyword}
use Rattle.nk_grammar.specs.Terminal.{Terminal, number, colon, id_word, outside, is_colon_terminal, certificate_word, row_word, start_word}
use Rattle.nk_grammar.specs.Tree.{Tree}
use Rattle.nk_grammar.specs.Grammar.{Pol, spell_pol, pol_tree, HasTree}
use Rattle.nk_grammar.specs.Machine.{State, first_state, with_number, step, run, policy_ended}
use Rattle.nk_grammar.specs.File.{Declaration, declared, spell_file, HasDeclarations}
use Rattle.nk_grammar.specs.FileMachine.{Phase, link_read, in_policy, Reading, policy_on, policy_done, next_reading, read_one, read_all, first_reading, declarations_at_end}
use Rattle.nk_grammar.specs.Certified.{Row, row, WrittenRow, written_row, spell_numbers, spell_row, spell_rows, number_value, row_of, spell_certificate, rows_said, Certified, certified, HasCertificate, CertifiedGoesOn}
use Rattle.nk_grammar.specs.CertifiedMachine.{CertifiedPhase, declaring, row_wanted, start_wanted, start_read, number_wanted, numbers_read, in_row, Certifying, certifying, is_certificate, is_start_word, with_row, certificate_begins, still_declaring, row_done, row_on, next_certifying, certify_one, certify_all, first_certifying, certificate_ends, certified_ended, certified_at_end, open_certified}
use Rattle.nk_grammar.proofs.Fronts.{reads_only, goes_on, run_append, none_some, some_same}
use Rattle.nk_grammar.proofs.Machines.{Machine, all_append}
use Rattle.nk_grammar.proofs.Texts.{outside_refused, left_by, reads_file, ends_file, file_goes_on, read_append, a_number, id_pol}

-- what the tokens come to at their end
abbrev finish : Option Certifying → Option Certified
finish o = option_and_then certified_at_end o

-- no declaration begins with the word `certificate`
policy_certificate : (k : PolicyKeyword) (w : Ident) (line : ℕ) (ds : List Declaration) (o : Option Tree) → policy_done k w line ds o (outside certificate_word) ≡ None
policy_certificate k w line ds None = refl
policy_certificate k w line ds (Some p) = refl

-- no declaration takes the word `certificate`
certificate_refused : (p : Phase) (ds : List Declaration) → next_reading p ds (outside certificate_word) ≡ None
certificate_refused (link_read k quad.Start) ds = refl
certificate_refused (in_policy k w line s) ds =
    ap (λ o. policy_on k w line ds o (policy_ended s) (outside certificate_word)) (outside_refused s.place s.frames s.terms s.factors certificate_word) ∙ policy_certificate k w line ds (policy_ended s)
certificate_refused p ds = refl

-- a token that declarations take is not that word
pub not_certificate : (r s : Reading) (t : Terminal) → read_one r t ≡ Some s → is_certificate t ≡ false
not_certificate r s (outside certificate_word) e = absurd (none_some s (sym (certificate_refused r.phase r.declarations) ∙ e))
not_certificate r s t e = refl

-- declarations are read before a certificate as they are alone
declaring_inside : (xs rest : List Terminal) (r r' : Reading) (rs : List Row) → read_all xs r ≡ Some r'
    → certify_all (xs ++ rest) (certifying (declaring r) [] rs) ≡ certify_all rest (certifying (declaring r') [] rs)
declaring_inside [] rest r r' rs e = ap (λ x. certify_all rest (certifying (declaring x) [] rs)) (some_same r r' e)
declaring_inside (x ∷ xs) rest r r' rs e = by_step (read_one r x) refl e (λ s f. declaring_inside xs rest s r' rs f)
  where
    by_step : (o : Option Reading) → read_one r x ≡ o → option_and_then (read_all xs) o ≡ Some r'
        → ((s : Reading) → read_all xs s ≡ Some r' → certify_all (xs ++ rest) (certifying (declaring s) [] rs) ≡ certify_all rest (certifying (declaring r') [] rs))
        → certify_all ((x ∷ xs) ++ rest) (certifying (declaring r) [] rs) ≡ certify_all rest (certifying (declaring r') [] rs)
    by_step None f e go = absurd (none_some r' e)
    by_step (Some s) f e go =
        ap (λ b. option_and_then (certify_all (xs ++ rest)) (if b then certificate_begins rs (declarations_at_end r) else still_declaring rs (read_one r x))) (not_certificate r s x f)
        ∙ ap (λ o. option_and_then (certify_all (xs ++ rest)) (still_declaring rs o)) f
        ∙ go s e

-- a policy's tokens are read inside a row as they are alone
inside_row : (line : ℕ) (ns : List ℕ) (ds : List Declaration) (rs : List Row) (xs r : List Terminal) (s s' : State) → run xs s ≡ Some s'
    → certify_all (xs ++ r) (certifying (in_row line ns s) ds rs) ≡ certify_all r (certifying (in_row line ns s') ds rs)
inside_row line ns ds rs [] r s s' e = ap (λ x. certify_all r (certifying (in_row line ns x) ds rs)) (some_same s s' e)
inside_row line ns ds rs (x ∷ xs) r s s' e = by_step (step s x) (policy_ended s) e (inside_row line ns ds rs xs r)
  where
    by_step : (o : Option State) (t : Option Tree) → option_and_then (run xs) o ≡ Some s'
        → ((s s' : State) → run xs s ≡ Some s' → certify_all (xs ++ r) (certifying (in_row line ns s) ds rs) ≡ certify_all r (certifying (in_row line ns s') ds rs))
        → option_and_then (certify_all (xs ++ r)) (row_on ds rs ns line o t x) ≡ certify_all r (certifying (in_row line ns s') ds rs)
    by_step None t e go = absurd (none_some s' e)
    by_step (Some s) t e go = go s s' e

-- further numbers of a row
numbers_pass : (line : ℕ) (ns : List ℕ) (ms : List Number) (ds : List Declaration) (rs : List Row) (r : List Terminal)
    → certify_all (spell_numbers ms ++ r) (certifying (numbers_read line ns) ds rs) ≡ certify_all r (certifying (numbers_read line (ns ++ map number_value ms)) ds rs)
numbers_pass line ns [] ds rs r = ap (λ x. certify_all r (certifying (numbers_read line x) ds rs)) (sym (append-nil ns))
numbers_pass line ns (m ∷ ms) ds rs r =
    numbers_pass line (ns ++ m.value ∷ []) ms ds rs r
    ∙ ap (λ x. certify_all r (certifying (numbers_read line x) ds rs)) (append_assoc ns (m.value ∷ []) (map number_value ms))

-- after a row's policy the other rows are read, and the end
rows_pass : (ws : List WrittenRow) (line : ℕ) (ns : List ℕ) (s : State) (p : Tree) (ds : List Declaration) (rs : List Row) → policy_ended s ≡ Some p
    → finish (certify_all (spell_rows ws) (certifying (in_row line ns s) ds rs)) ≡ Some (certified ds ((rs ++ row ns p line ∷ []) ++ map row_of ws))
rows_pass [] line ns s p ds rs e = ap (certificate_ends ds rs ns line) e ∙ ap (λ x. Some (certified ds x)) (sym (append-nil (rs ++ row ns p line ∷ [])))
rows_pass (written_row l n ms q ∷ ws) line ns s p ds rs e =
    let more : List Terminal = number n ∷ ((spell_numbers ms ++ colon ∷ spell_pol q) ++ spell_rows ws) in
    let rs' : List Row = rs ++ row ns p line ∷ [] in
    let left = left_by q in
    ap (λ o. finish (option_and_then (certify_all more) (row_on ds rs ns line o (policy_ended s) (outside (row_word l))))) (outside_refused s.place s.frames s.terms s.factors (row_word l))
    ∙ ap (λ o. finish (option_and_then (certify_all more) (row_done ds rs ns line o (outside (row_word l))))) e
    ∙ ap (λ x. finish (certify_all x (certifying (numbers_read l (n.value ∷ [])) ds rs'))) (append_assoc (spell_numbers ms) (colon ∷ spell_pol q) (spell_rows ws))
    ∙ ap finish (numbers_pass l (n.value ∷ []) ms ds rs' (colon ∷ (spell_pol q ++ spell_rows ws)))
    ∙ ap finish (inside_row l (n.value ∷ map number_value ms) ds rs' (spell_pol q) (spell_rows ws) first_state left.0 left.1)
    ∙ rows_pass ws l (n.value ∷ map number_value ms) left.0 (pol_tree q) ds rs' left.2
    ∙ ap (λ x. Some (certified ds x)) (append_assoc rs' (row (n.value ∷ map number_value ms) (pol_tree q) l ∷ []) (map row_of ws))

-- the tokens of a text with a certificate give its declarations and rows
pub reads_certified : (ts : List Terminal) (c : Certified) → HasCertificate ts c → option_and_then certified_at_end (certify_all ts first_certifying) ≡ Some c
reads_certified ts c h = by_state (read_all (spell_file h.decls) first_reading) refl (reads_file (spell_file h.decls) (map declared h.decls) (h.decls, refl, refl))
  where
    by_state : (o : Option Reading) → read_all (spell_file h.decls) first_reading ≡ o → option_and_then declarations_at_end o ≡ Some (map declared h.decls)
        → finish (certify_all ts first_certifying) ≡ Some c
    by_state None f e = absurd (none_some _ e)
    by_state (Some r) f e =
        let left = left_by h.pred in
        let rest : List Terminal = spell_pol h.pred ++ spell_rows h.others in
        ap (λ x. finish (certify_all x first_certifying)) h.tokens
        ∙ ap finish (declaring_inside (spell_file h.decls) (outside certificate_word ∷ spell_certificate h.line h.pred h.others) first_reading r [] f)
        ∙ ap (λ o. finish (option_and_then (certify_all (spell_certificate h.line h.pred h.others)) (certificate_begins [] o))) e
        ∙ ap finish (inside_row h.line [] (map declared h.decls) [] (spell_pol h.pred) (spell_rows h.others) first_state left.0 left.1)
        ∙ rows_pass h.others h.line [] left.0 (pol_tree h.pred) (map declared h.decls) [] left.2
        ∙ ap (λ x. Some x) (sym h.value)

-- the rows that are done, after the word `certificate`
abbrev AreRows : List Terminal → List Row → Type 0
AreRows vs rows = (line : ℕ) × (p : Pol) × (ws : List WrittenRow) × (vs ≡ spell_certificate line p ws) × (rows ≡ rows_said line p ws)

-- the tokens of a row up to the colon, after the rows that are done
abbrev IsStartHead : ℕ → List ℕ → List Row → List Terminal → Type 0
IsStartHead line ns rows xs = (ns ≡ []) × (rows ≡ []) × (xs ≡ outside (row_word line) ∷ outside start_word ∷ colon ∷ [])

-- the tokens of a row after the start row up to the colon, after the rows that are done
abbrev IsRowHead : ℕ → List ℕ → List Row → List Terminal → Type 0
IsRowHead line ns rows xs =
    (vs : List Terminal) × AreRows vs rows × (n : Number) × (ms : List Number) × (ns ≡ n.value ∷ map number_value ms)
    × (xs ≡ vs ++ outside (row_word line) ∷ number n ∷ (spell_numbers ms ++ colon ∷ []))

-- the tokens of any row up to the colon, after the rows that are done
abbrev IsHead : ℕ → List ℕ → List Row → List Terminal → Type 0
IsHead line ns rows xs = IsStartHead line ns rows xs ⊎ IsRowHead line ns rows xs

-- the tokens after the word `certificate`
abbrev IsCertifiedSpelled : CertifiedPhase → List Row → List Terminal → Type 0
IsCertifiedSpelled (declaring r) rows us = ⊥
IsCertifiedSpelled row_wanted rows us = (rows ≡ []) × (us ≡ [])
IsCertifiedSpelled (start_wanted line) rows us = (rows ≡ []) × (us ≡ outside (row_word line) ∷ [])
IsCertifiedSpelled (start_read line) rows us = (rows ≡ []) × (us ≡ outside (row_word line) ∷ outside start_word ∷ [])
IsCertifiedSpelled (number_wanted line) rows us = (vs : List Terminal) × AreRows vs rows × (us ≡ vs ++ outside (row_word line) ∷ [])
IsCertifiedSpelled (numbers_read line ns) rows us =
    (vs : List Terminal) × AreRows vs rows × (n : Number) × (ms : List Number) × (ns ≡ n.value ∷ map number_value ms) × (us ≡ vs ++ outside (row_word line) ∷ number n ∷ spell_numbers ms)
IsCertifiedSpelled (in_row line ns s) rows us = (xs : List Terminal) × (ps : List Terminal) × (us ≡ xs ++ ps) × (run ps first_state ≡ Some s) × IsHead line ns rows xs

-- the tokens so far are declarations, the word, and the tokens after it
abbrev IsAfterWord : List Terminal → CertifiedPhase → List Declaration → List Row → Type 0
IsAfterWord ts p ds rows = (xs : List Terminal) × (us : List Terminal) × HasDeclarations xs ds × (ts ≡ xs ++ outside certificate_word ∷ us) × IsCertifiedSpelled p rows us

-- the tokens so far are the front of a text with a certificate
abbrev IsCertifiedFront : List Terminal → CertifiedPhase → List Declaration → List Row → Type 0
IsCertifiedFront ts (declaring r) ds rows = (read_all ts first_reading ≡ Some r) × (ds ≡ []) × (rows ≡ [])
IsCertifiedFront ts p ds rows = IsAfterWord ts p ds rows

-- the tokens of one more row
rows_more : (ws : List WrittenRow) (w : WrittenRow) → spell_rows (ws ++ w ∷ []) ≡ spell_rows ws ++ spell_row w
rows_more [] w = append-nil (spell_row w)
rows_more (v ∷ ws) w = ap (λ x. spell_row v ++ x) (rows_more ws w) ∙ sym (append_assoc (spell_row v) (spell_rows ws) (spell_row w))

-- the values of one more row
values_more : (ws : List WrittenRow) (w : WrittenRow) → map row_of (ws ++ w ∷ []) ≡ map row_of ws ++ row_of w ∷ []
values_more [] w = refl
values_more (v ∷ ws) w = ap (λ x. row_of v ∷ x) (values_more ws w)

-- one more row is done
one_more_row : (vs : List Terminal) (rows : List Row) (w : WrittenRow) → AreRows vs rows → AreRows (vs ++ spell_row w) (rows ++ row_of w ∷ [])
one_more_row vs rows w h = (
  h.0,
  h.1,
  h.2 ++ w ∷ [],
  ap (λ x. x ++ spell_row w) h.3
      ∙ ap (λ x. outside (row_word h.0) ∷ outside start_word ∷ colon ∷ x) (append_assoc (spell_pol h.1) (spell_rows h.2) (spell_row w) ∙ ap (λ x. spell_pol h.1 ++ x) (sym (rows_more h.2 w))),
  ap (λ x. x ++ row_of w ∷ []) h.4 ∙ ap (λ x. row [] (pol_tree h.1) h.0 ∷ x) (sym (values_more h.2 w)),
)

-- a head's tokens, and a policy's after them
head_and_policy : (vs xs ps qs : List Terminal) (t u : Terminal) → (vs ++ t ∷ u ∷ (xs ++ colon ∷ [])) ++ ps ≡ vs ++ t ∷ u ∷ (xs ++ colon ∷ ps)
head_and_policy vs xs ps qs t u = simp append_assoc

-- a row's head and its policy
row_complete : (line : ℕ) (ns : List ℕ) (rows : List Row) (xs ps : List Terminal) (p : Tree) → IsHead line ns rows xs → HasTree ps p → AreRows (xs ++ ps) (rows ++ row ns p line ∷ [])
row_complete line ns rows xs ps p (inl h) t = (
  line,
  t.0,
  [],
  ap (λ x. x ++ ps) h.2 ∙ ap (λ x. outside (row_word line) ∷ outside start_word ∷ colon ∷ x) (t.1 ∙ sym (append-nil (spell_pol t.0))),
  ap (λ x. x ++ row ns p line ∷ []) h.1 ∙ ap (λ x. row x p line ∷ []) h.0 ∙ ap (λ x. row [] x line ∷ []) t.2,
)
row_complete line ns rows xs ps p (inr h) t =
    let w : WrittenRow = written_row line h.2 h.3 t.0 in
    let done = one_more_row h.0 rows w h.1 in
    subst (λ x. AreRows x (rows ++ row ns p line ∷ []))
    (sym (ap (λ x. x ++ ps) h.5 ∙ head_and_policy h.0 (spell_numbers h.3) ps ps (outside (row_word line)) (number h.2)
    ∙ ap (λ x. h.0 ++ outside (row_word line) ∷ number h.2 ∷ (spell_numbers h.3 ++ colon ∷ x)) t.1))
    (subst (λ x. AreRows (h.0 ++ spell_row w) (rows ++ x ∷ []))
    (sym (ap (λ x. row x p line) h.4 ∙ ap (λ x. row (h.2.value ∷ map number_value h.3) x line) t.2)) done)

-- what a step leads to
abbrev CertifiedLeads : Option Certifying → List Terminal → Type 0
CertifiedLeads None ts = Unit {0}
CertifiedLeads (Some c) ts = IsCertifiedFront ts c.phase c.declarations c.rows

-- where a number is wanted
number_leads : (t : Terminal) (ts : List Terminal) (f : Number → Certifying) → ((n : Number) → t ≡ number n → CertifiedLeads (Some (f n)) ts) → CertifiedLeads (with_number t None (λ n. Some (f n))) ts
number_leads (number x) ts f e = e x refl
number_leads t ts f e = tt

-- where the word `row` is wanted
row_leads : (t : Terminal) (ts : List Terminal) (f : ℕ → Certifying) → ((l : ℕ) → t ≡ outside (row_word l) → CertifiedLeads (Some (f l)) ts) → CertifiedLeads (with_row t None (λ l. Some (f l))) ts
row_leads (outside (row_word l)) ts f e = e l refl
row_leads t ts f e = tt

-- where the word `start` is wanted
start_leads : (t : Terminal) (ts : List Terminal) (c : Certifying) → (t ≡ outside start_word → CertifiedLeads (Some c) ts) → CertifiedLeads (if is_start_word t then Some c else None) ts
start_leads (outside start_word) ts c e = e refl
start_leads t ts c e = tt

-- where a colon may come
colon_leads : (t : Terminal) (ts : List Terminal) (c : Certifying) (o : Option Certifying) → (t ≡ colon → CertifiedLeads (Some c) ts) → CertifiedLeads o ts → CertifiedLeads (if is_colon_terminal t then Some c else o) ts
colon_leads colon ts c o e f = e refl
colon_leads t ts c o e f = f

-- where the word `certificate` may come
certificate_leads : (t : Terminal) (ts : List Terminal) (o o' : Option Certifying) → (t ≡ outside certificate_word → CertifiedLeads o ts) → CertifiedLeads o' ts → CertifiedLeads (if is_certificate t then o else o') ts
certificate_leads (outside certificate_word) ts o o' e f = e refl
certificate_leads t ts o o' e f = f

-- the next token after the word `certificate`
same_text : (xs ts us vs : List Terminal) (t : Terminal) → ts ≡ xs ++ outside certificate_word ∷ us → us ++ t ∷ [] ≡ vs → ts ++ t ∷ [] ≡ xs ++ outside certificate_word ∷ vs
same_text xs ts us vs t e f = ap (λ x. x ++ t ∷ []) e ∙ append_assoc xs (outside certificate_word ∷ us) (t ∷ []) ∙ ap (λ x. xs ++ outside certificate_word ∷ x) f

-- the tokens so far and one more
following : (us xs : List Terminal) (t u : Terminal) → us ≡ xs → t ≡ u → us ++ t ∷ [] ≡ xs ++ u ∷ []
following us xs t u e f = rw (e, f)

-- the tokens of one more number
numbers_more : (ms : List Number) (n : Number) → spell_numbers (ms ++ n ∷ []) ≡ spell_numbers ms ++ number n ∷ []
numbers_more [] n = refl
numbers_more (m ∷ ms) n = ap (λ x. number m ∷ x) (numbers_more ms n)

-- the value of one more number
number_values_more : (ms : List Number) (n : Number) → map number_value (ms ++ n ∷ []) ≡ map number_value ms ++ n.value ∷ []
number_values_more [] n = refl
number_values_more (m ∷ ms) n = ap (λ x. m.value ∷ x) (number_values_more ms n)

-- the certificate begins
word_leads : (r : Reading) (o : Option (List Declaration)) (rows : List Row) (ts : List Terminal) (t : Terminal) → declarations_at_end r ≡ o → read_all ts first_reading ≡ Some r → rows ≡ []
    → t ≡ outside certificate_word → CertifiedLeads (certificate_begins rows o) (ts ++ t ∷ [])
word_leads r None rows ts t e h k f = tt
word_leads r (Some ds) rows ts t e h k f = (ts, [], ends_file ts r ds h e, ap (λ x. ts ++ x ∷ []) f, (k, refl))

-- the declarations go on
declaring_leads : (r : Reading) (o : Option Reading) (rows : List Row) (ts : List Terminal) (t : Terminal) → read_one r t ≡ o → read_all ts first_reading ≡ Some r → rows ≡ []
    → CertifiedLeads (still_declaring rows o) (ts ++ t ∷ [])
declaring_leads r None rows ts t e h k = tt
declaring_leads r (Some s) rows ts t e h k =
    (read_append ts (t ∷ []) first_reading ∙ ap (option_and_then (read_all (t ∷ []))) h ∙ ap (option_and_then (read_all [])) e, refl, k)

-- a row's policy goes on, or another row begins
policy_leads : (ds : List Declaration) (rows : List Row) (line : ℕ) (ns : List ℕ) (s : State) (xs us vs ps ts : List Terminal) (t : Terminal)
    → HasDeclarations xs ds → ts ≡ xs ++ outside certificate_word ∷ us → us ≡ vs ++ ps → run ps first_state ≡ Some s → IsHead line ns rows vs
    → CertifiedLeads (row_on ds rows ns line (step s t) (policy_ended s) t) (ts ++ t ∷ [])
policy_leads ds rows line ns s xs us vs ps ts t d e f g h = by_step (step s t) refl
  where
    by_end : (o : Option Tree) → policy_ended s ≡ o → CertifiedLeads (row_done ds rows ns line o t) (ts ++ t ∷ [])
    by_end None k = tt
    by_end (Some p) k =
        let done = row_complete line ns rows vs ps p h (reads_only ps p (ap (option_and_then policy_ended) g ∙ k)) in
        row_leads t (ts ++ t ∷ []) (λ l. certifying (number_wanted l) ds (rows ++ row ns p line ∷ []))
        (λ l k. (xs, us ++ t ∷ [], d, same_text xs ts us (us ++ t ∷ []) t e refl, (vs ++ ps, done, following us (vs ++ ps) t (outside (row_word l)) f k)))

    by_step : (o : Option State) → step s t ≡ o → CertifiedLeads (row_on ds rows ns line o (policy_ended s) t) (ts ++ t ∷ [])
    by_step (Some s') k = (
      xs,
      us ++ t ∷ [],
      d,
      same_text xs ts us (us ++ t ∷ []) t e refl,
      (
        vs,
        ps ++ t ∷ [],
        ap (λ x. x ++ t ∷ []) f ∙ append_assoc vs ps (t ∷ []),
        run_append ps (t ∷ []) first_state ∙ ap (option_and_then (run (t ∷ []))) g ∙ ap (option_and_then (run [])) k,
        h,
      ),
    )
    by_step None k = by_end (policy_ended s) refl

-- the tokens so far stay a front
front_leads : (p : CertifiedPhase) (ds : List Declaration) (rows : List Row) (ts : List Terminal) (t : Terminal) → IsCertifiedFront ts p ds rows → CertifiedLeads (next_certifying p ds rows t) (ts ++ t ∷ [])
front_leads (declaring r) ds rows ts t h =
    certificate_leads t (ts ++ t ∷ []) (certificate_begins rows (declarations_at_end r)) (still_declaring rows (read_one r t))
    (λ e. word_leads r (declarations_at_end r) rows ts t refl h.0 h.2 e) (declaring_leads r (read_one r t) rows ts t refl h.0 h.2)
front_leads row_wanted ds rows ts t h =
    row_leads t (ts ++ t ∷ []) (λ l. certifying (start_wanted l) ds rows)
    (λ l e. (h.0, h.1 ++ t ∷ [], h.2, same_text h.0 ts h.1 (h.1 ++ t ∷ []) t h.3 refl, (h.4.0, following h.1 [] t (outside (row_word l)) h.4.1 e)))
front_leads (start_wanted line) ds rows ts t h =
    start_leads t (ts ++ t ∷ []) (certifying (start_read line) ds rows)
    (λ e. (h.0, h.1 ++ t ∷ [], h.2, same_text h.0 ts h.1 (h.1 ++ t ∷ []) t h.3 refl, (h.4.0, following h.1 (outside (row_word line) ∷ []) t (outside start_word) h.4.1 e)))
front_leads (start_read line) ds rows ts t h =
    colon_leads t (ts ++ t ∷ []) (certifying (in_row line [] first_state) ds rows) None
    (λ e. (
      h.0,
      h.1 ++ t ∷ [],
      h.2,
      same_text h.0 ts h.1 (h.1 ++ t ∷ []) t h.3 refl,
      (h.1 ++ t ∷ [], [], sym (append-nil (h.1 ++ t ∷ [])), refl, inl (refl, h.4.0, following h.1 (outside (row_word line) ∷ outside start_word ∷ []) t colon h.4.1 e)),
    )) tt
front_leads (number_wanted line) ds rows ts t h =
    number_leads t (ts ++ t ∷ []) (λ n. certifying (numbers_read line (n.value ∷ [])) ds rows)
    (λ n e. (
      h.0,
      h.1 ++ t ∷ [],
      h.2,
      same_text h.0 ts h.1 (h.1 ++ t ∷ []) t h.3 refl,
      (h.4.0, h.4.1, n, [], refl, following h.1 (h.4.0 ++ outside (row_word line) ∷ []) t (number n) h.4.2 e ∙ append_assoc h.4.0 (outside (row_word line) ∷ []) (number n ∷ [])),
    ))
front_leads (numbers_read line ns) ds rows ts t h =
    let k : IsCertifiedSpelled (numbers_read line ns) rows h.1 = h.4 in
    colon_leads t (ts ++ t ∷ []) (certifying (in_row line ns first_state) ds rows) (with_number t None (λ m. Some (certifying (numbers_read line (ns ++ m.value ∷ [])) ds rows)))
    (λ e. (
      h.0,
      h.1 ++ t ∷ [],
      h.2,
      same_text h.0 ts h.1 (h.1 ++ t ∷ []) t h.3 refl,
      (
        h.1 ++ t ∷ [],
        [],
        sym (append-nil (h.1 ++ t ∷ [])),
        refl,
        inr (k.0, k.1, k.2, k.3, k.4, following h.1 (k.0 ++ outside (row_word line) ∷ number k.2 ∷ spell_numbers k.3) t colon k.5 e ∙ append_assoc k.0 (outside (row_word line) ∷ number k.2 ∷ spell_numbers k.3) (colon ∷ [])),
      ),
    ))
    (number_leads t (ts ++ t ∷ []) (λ m. certifying (numbers_read line (ns ++ m.value ∷ [])) ds rows)
    (λ m e. (
      h.0,
      h.1 ++ t ∷ [],
      h.2,
      same_text h.0 ts h.1 (h.1 ++ t ∷ []) t h.3 refl,
      (
        k.0,
        k.1,
        k.2,
        k.3 ++ m ∷ [],
        ap (λ x. x ++ m.value ∷ []) k.4 ∙ ap (λ x. k.2.value ∷ x) (sym (number_values_more k.3 m)),
        following h.1 (k.0 ++ outside (row_word line) ∷ number k.2 ∷ spell_numbers k.3) t (number m) k.5 e
            ∙ append_assoc k.0 (outside (row_word line) ∷ number k.2 ∷ spell_numbers k.3) (number m ∷ [])
            ∙ ap (λ x. k.0 ++ outside (row_word line) ∷ number k.2 ∷ x) (sym (numbers_more k.3 m)),
      ),
    )))
front_leads (in_row line ns s) ds rows ts t h =
    let k : IsCertifiedSpelled (in_row line ns s) rows h.1 = h.4 in
    policy_leads ds rows line ns s h.0 h.1 k.0 k.1 ts t h.2 h.3 k.2 k.3 k.4

-- all tokens
fronts : (us ts : List Terminal) (c c' : Certifying) → IsCertifiedFront ts c.phase c.declarations c.rows → certify_all us c ≡ Some c' → IsCertifiedFront (ts ++ us) c'.phase c'.declarations c'.rows
fronts [] ts c c' h e =
    subst (λ x. IsCertifiedFront x c'.phase c'.declarations c'.rows) (sym (append-nil ts)) (subst (λ x. IsCertifiedFront ts x.phase x.declarations x.rows) (some_same c c' e) h)
fronts (t ∷ us) ts c c' h e = by_step (certify_one c t) (front_leads c.phase c.declarations c.rows ts t h) e (λ s k f. fronts us (ts ++ t ∷ []) s c' k f)
  where
    by_step : (o : Option Certifying) → CertifiedLeads o (ts ++ t ∷ []) → option_and_then (certify_all us) o ≡ Some c'
        → ((s : Certifying) → IsCertifiedFront (ts ++ t ∷ []) s.phase s.declarations s.rows → certify_all us s ≡ Some c' → IsCertifiedFront ((ts ++ t ∷ []) ++ us) c'.phase c'.declarations c'.rows)
        → IsCertifiedFront (ts ++ t ∷ us) c'.phase c'.declarations c'.rows
    by_step None l e go = absurd (none_some c' e)
    by_step (Some s) l e go = subst (λ x. IsCertifiedFront x c'.phase c'.declarations c'.rows) (append_assoc ts (t ∷ []) us) (go s l e)

-- the tokens of a state that is reached are its front
front_of : (ts : List Terminal) (c : Certifying) → certify_all ts first_certifying ≡ Some c → IsCertifiedFront ts c.phase c.declarations c.rows
front_of ts c e = fronts ts [] first_certifying c (refl, refl, refl) e

-- declarations, the word and rows
all_of : (xs ts us : List Terminal) (ds : List Declaration) (rows : List Row) → HasDeclarations xs ds → ts ≡ xs ++ outside certificate_word ∷ us → AreRows us rows → HasCertificate ts (certified ds rows)
all_of xs ts us ds rows d e r = record {
  decls = d.0;
  line = r.0;
  pred = r.1;
  others = r.2;
  tokens = e ∙ ap (λ x. x ++ outside certificate_word ∷ us) d.1 ∙ ap (λ x. spell_file d.0 ++ outside certificate_word ∷ x) r.3;
  value = ap (λ x. certified x rows) d.2 ∙ ap (λ x. certified (map declared d.0) x) r.4;
}

-- a front that is completed by these tokens
completed : (xs ts us more : List Terminal) (ds : List Declaration) (rows : List Row) → HasDeclarations xs ds → ts ≡ xs ++ outside certificate_word ∷ us → AreRows (us ++ more) rows → CertifiedGoesOn ts
completed xs ts us more ds rows d e r =
    (more, certified ds rows, all_of xs (ts ++ more) (us ++ more) ds rows d (ap (λ x. x ++ more) e ∙ append_assoc xs (outside certificate_word ∷ us) more) r)

-- a start row of the shortest policy
first_row : (line : ℕ) (us more : List Terminal) → us ++ more ≡ spell_certificate line id_pol [] → AreRows (us ++ more) (rows_said line id_pol [])
first_row line us more e = (line, id_pol, [], e, refl)

-- equal tokens, and the same after them
goes_on_with : (us xs more : List Terminal) → us ≡ xs → us ++ more ≡ xs ++ more
goes_on_with us xs more e = ap (λ x. x ++ more) e

-- each front can be completed
phase_completes : (p : CertifiedPhase) (ds : List Declaration) (rows : List Row) (ts : List Terminal) → IsCertifiedFront ts p ds rows → CertifiedGoesOn ts
phase_completes (declaring r) ds rows ts h =
    let g = file_goes_on ts r h.0 in
    let tail : List Terminal = outside certificate_word ∷ spell_certificate 0 id_pol [] in (
      g.0 ++ tail,
      certified (map declared g.1) (rows_said 0 id_pol []),
      all_of (spell_file g.1) (ts ++ (g.0 ++ tail)) (spell_certificate 0 id_pol []) (map declared g.1) (rows_said 0 id_pol []) (g.1, refl, refl)
          (sym (append_assoc ts g.0 tail) ∙ ap (λ x. x ++ tail) g.2) (0, id_pol, [], refl, refl),
    )
phase_completes row_wanted ds rows ts h =
    let more : List Terminal = outside (row_word 0) ∷ outside start_word ∷ colon ∷ id_word ∷ [] in
    completed h.0 ts h.1 more ds (rows_said 0 id_pol []) h.2 h.3 (first_row 0 h.1 more (goes_on_with h.1 [] more h.4.1))
phase_completes (start_wanted line) ds rows ts h =
    let more : List Terminal = outside start_word ∷ colon ∷ id_word ∷ [] in
    completed h.0 ts h.1 more ds (rows_said line id_pol []) h.2 h.3 (first_row line h.1 more (goes_on_with h.1 (outside (row_word line) ∷ []) more h.4.1))
phase_completes (start_read line) ds rows ts h =
    let more : List Terminal = colon ∷ id_word ∷ [] in
    completed h.0 ts h.1 more ds (rows_said line id_pol []) h.2 h.3 (first_row line h.1 more (goes_on_with h.1 (outside (row_word line) ∷ outside start_word ∷ []) more h.4.1))
phase_completes (number_wanted line) ds rows ts h =
    let k : IsCertifiedSpelled (number_wanted line) rows h.1 = h.4 in
    let w : WrittenRow = written_row line a_number [] id_pol in
    completed h.0 ts h.1 (number a_number ∷ colon ∷ id_word ∷ []) ds (rows ++ row_of w ∷ []) h.2 h.3
    (subst (λ x. AreRows x (rows ++ row_of w ∷ []))
    (sym (goes_on_with h.1 (k.0 ++ outside (row_word line) ∷ []) (number a_number ∷ colon ∷ id_word ∷ []) k.2 ∙ append_assoc k.0 (outside (row_word line) ∷ []) (number a_number ∷ colon ∷ id_word ∷ [])))
    (one_more_row k.0 rows w k.1))
phase_completes (numbers_read line ns) ds rows ts h =
    let k : IsCertifiedSpelled (numbers_read line ns) rows h.1 = h.4 in
    let w : WrittenRow = written_row line k.2 k.3 id_pol in
    completed h.0 ts h.1 (colon ∷ id_word ∷ []) ds (rows ++ row_of w ∷ []) h.2 h.3
    (subst (λ x. AreRows x (rows ++ row_of w ∷ []))
    (sym (goes_on_with h.1 (k.0 ++ outside (row_word line) ∷ number k.2 ∷ spell_numbers k.3) (colon ∷ id_word ∷ []) k.5 ∙ append_assoc k.0 (outside (row_word line) ∷ number k.2 ∷ spell_numbers k.3) (colon ∷ id_word ∷ [])))
    (one_more_row k.0 rows w k.1))
phase_completes (in_row line ns s) ds rows ts h =
    let k : IsCertifiedSpelled (in_row line ns s) rows h.1 = h.4 in
    let g = goes_on k.1 s k.3 in
    completed h.0 ts h.1 g.0 ds (rows ++ row ns (pol_tree g.1) line ∷ []) h.2 h.3
    (subst (λ x. AreRows x (rows ++ row ns (pol_tree g.1) line ∷ []))
    (sym (goes_on_with h.1 (k.0 ++ k.1) g.0 k.2 ∙ append_assoc k.0 k.1 g.0))
    (row_complete line ns rows k.0 (k.1 ++ g.0) (pol_tree g.1) k.4 (g.1, g.2, refl)))

-- tokens that are taken are the front of a text with a certificate
pub certified_goes_on : (ts : List Terminal) (c : Certifying) → certify_all ts first_certifying ≡ Some c → CertifiedGoesOn ts
certified_goes_on ts c e = phase_completes c.phase c.declarations c.rows ts (front_of ts c e)

-- what may end is a text
phase_ends : (p : CertifiedPhase) (ds : List Declaration) (rows : List Row) (x : Certified) (ts : List Terminal) → IsCertifiedFront ts p ds rows → certified_ended p ds rows ≡ Some x → HasCertificate ts x
phase_ends (in_row line ns s) ds rows x ts h e = by_end (policy_ended s) refl e
  where
    by_end : (o : Option Tree) → policy_ended s ≡ o → certificate_ends ds rows ns line o ≡ Some x → HasCertificate ts x
    by_end None f e = absurd (none_some x e)
    by_end (Some p) f e =
        let k : IsCertifiedSpelled (in_row line ns s) rows h.1 = h.4 in
        let done = row_complete line ns rows k.0 k.1 p k.4 (reads_only k.1 p (ap (option_and_then policy_ended) k.3 ∙ f)) in
        subst (HasCertificate ts) (some_same _ x e)
        (all_of h.0 ts h.1 ds (rows ++ row ns p line ∷ []) h.2 h.3 (subst (λ y. AreRows y (rows ++ row ns p line ∷ [])) (sym k.2) done))
phase_ends p ds rows x ts h e = absurd (none_some x e)

-- what may end is a text with a certificate
pub ends_certified : (ts : List Terminal) (c : Certifying) (x : Certified) → certify_all ts first_certifying ≡ Some c → certified_at_end c ≡ Some x → HasCertificate ts x
ends_certified ts c x e f = phase_ends c.phase c.declarations c.rows x ts (front_of ts c e) f

-- the machine of texts with a certificate
abbrev pub certified_machine : Machine Certifying
certified_machine = record {
  one = certify_one;
  all = certify_all;
  first = first_certifying;
  open_in = open_certified;
  of_none = λ c. refl;
  of_more = λ t ts c. refl;
  none_open = refl;
}

-- tokens in two parts
pub certify_append : (xs ys : List Terminal) (c : Certifying) → certify_all (xs ++ ys) c ≡ option_and_then (certify_all ys) (certify_all xs c)
certify_append xs ys c = all_append certified_machine xs ys c

-- tokens that are refused are the front of none
pub certified_stops : (ts : List Terminal) → certify_all ts first_certifying ≡ None → CertifiedGoesOn ts → ⊥
certified_stops ts e g =
    let refused : certify_all (ts ++ g.0) first_certifying ≡ None = certify_append ts g.0 first_certifying ∙ ap (option_and_then (certify_all g.0)) e in
    none_some _ (ap finish (sym refused) ∙ reads_certified (ts ++ g.0) g.1 g.2)
