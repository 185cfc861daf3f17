-- The reader's count follows that of a text with a certificate.
use Rattle.std.proofs.Common.{◌≡◌, ◌≤◌, ℕ, List, [], ◌∷◌, ◌++◌, length, refl, sym, subst, append_assoc, arith, Option}
use Rattle.std.specs.Prelude.{Some, None, IsSomeAnd, map, if◌then◌else◌, option_and_then}
use Rattle.nk_lex.specs.declared.ident.Number.{Number}
use Rattle.nk_grammar.specs.Terminal.{Terminal, number, colon, outside, certificate_word, row_word}
use Rattle.nk_grammar.specs.Tree.{Tree}
use Rattle.nk_grammar.specs.Grammar.{Pol, spell_pol, pol_tree}
use Rattle.nk_grammar.specs.Machine.{State, first_state, run, step, policy_ended}
use Rattle.nk_grammar.specs.File.{Declaration, Written, declared, spell_file}
use Rattle.nk_grammar.specs.FileMachine.{Reading, read_one, read_all, first_reading, declarations_at_end, open_count}
use Rattle.nk_grammar.specs.Certified.{Row, row, WrittenRow, written_row, spell_numbers, spell_rows, spell_certificate}
use Rattle.nk_grammar.specs.CertifiedMachine.{declaring, numbers_read, in_row, Certifying, certifying, is_certificate, certificate_begins, still_declaring, row_done, row_on, certify_one, first_certifying, open_certified}
use Rattle.nk_grammar.proofs.Texts.{outside_refused, left_by, reads_file}
use Rattle.nk_grammar.proofs.CertifiedTexts.{not_certificate}
use Rattle.nk_nesting.specs.Counts.{open_in_pol, open_in_file, GoWith}
use Rattle.nk_nesting.specs.Certificates.{WrittenCertified, spell_certified, open_in_numbers, open_in_rows, open_in_certified}
use Rattle.nk_nesting.proofs.Counting.{pol_goes, file_goes}
use Rattle.nk_nesting.proofs.Following.{Follows, policy_follows, nothing_open, ReadsAlong, file_along}

-- ---- the counts go with the tokens

-- a row's numbers
numbers_go : (ns : List Number) (js : List ℕ) (r : List Terminal) → GoWith 0 js r
    → GoWith 0 (open_in_numbers ns ++ js) (spell_numbers ns ++ r)
numbers_go [] js r go = go
numbers_go (n ∷ ns) js r go = (omega arith, numbers_go ns js r go)

-- rows
rows_go : (rs : List WrittenRow) → GoWith 0 (open_in_rows rs) (spell_rows rs)
rows_go [] = tt
rows_go (written_row l n ns p ∷ rs) = (
  omega arith,
  (
    omega arith,
    subst (λ x. GoWith 0 x ((spell_numbers ns ++ colon ∷ spell_pol p) ++ spell_rows rs)) (sym (append_assoc (open_in_numbers ns) (0 ∷ open_in_pol 0 p) (open_in_rows rs)))
        (subst (λ x. GoWith 0 (open_in_numbers ns ++ 0 ∷ (open_in_pol 0 p ++ open_in_rows rs)) x) (sym (append_assoc (spell_numbers ns) (colon ∷ spell_pol p) (spell_rows rs)))
        (numbers_go ns (0 ∷ (open_in_pol 0 p ++ open_in_rows rs)) (colon ∷ (spell_pol p ++ spell_rows rs)) (omega arith, pol_goes p 0 (open_in_rows rs) (spell_rows rs) (rows_go rs)))),
  ),
)

-- a text with a certificate
pub certified_goes : (c : WrittenCertified) → GoWith 0 (open_in_certified c) (spell_certified c)
certified_goes c =
    file_goes c.decls (0 ∷ 0 ∷ 0 ∷ 0 ∷ (open_in_pol 0 c.pred ++ open_in_rows c.others)) (outside certificate_word ∷ spell_certificate c.line c.pred c.others)
    (omega arith, (omega arith, (omega arith, (omega arith, pol_goes c.pred 0 (open_in_rows c.others) (spell_rows c.others) (rows_go c.others)))))

-- ---- the reader's count follows

-- the tokens pass, and the count follows
abbrev pub CertifiesAlong : List ℕ → List Terminal → Certifying → Type 0
CertifiesAlong [] [] c = Unit {0}
CertifiesAlong [] (t ∷ ts) c = ⊥
CertifiesAlong (k ∷ ks) [] c = ⊥
CertifiesAlong (k ∷ ks) (t ∷ ts) c =
    IsSomeAnd (certify_one c t) (λ d. (k ≤ open_certified d) × (k ≤ 256 → (open_certified d ≤ 256) × CertifiesAlong ks ts d))

-- values that are there and equal are equal
some_same : {A : Type 0} (x y : A) → ◌≡◌ {A = Option A} (Some x) (Some y) → x ≡ y
some_same x y e = cc

-- declarations
declaring_along : (ks js : List ℕ) (xs r : List Terminal) (q q' : Reading) → ReadsAlong ks xs q → read_all xs q ≡ Some q'
    → CertifiesAlong js r (certifying (declaring q') [] []) → CertifiesAlong (ks ++ js) (xs ++ r) (certifying (declaring q) [] [])
declaring_along [] js [] r q q' f e h = subst (λ x. CertifiesAlong js r (certifying (declaring x) [] [])) (sym (some_same q q' e)) h
declaring_along [] js (x ∷ xs) r q q' f e h = absurd f
declaring_along (k ∷ ks) js [] r q q' f e h = absurd f
declaring_along (k ∷ ks) js (x ∷ xs) r q q' f e h =
    by_step (read_one q x) refl f e (λ s g e. declaring_along ks js xs r s q' g e h)
  where
    by_step : (o : Option Reading) → read_one q x ≡ o
        → IsSomeAnd o (λ s. (k ≤ open_count s) × (k ≤ 256 → (open_count s ≤ 256) × ReadsAlong ks xs s))
        → option_and_then (read_all xs) o ≡ Some q'
        → ((s : Reading) → ReadsAlong ks xs s → read_all xs s ≡ Some q' → CertifiesAlong (ks ++ js) (xs ++ r) (certifying (declaring s) [] []))
        → IsSomeAnd (if is_certificate x then certificate_begins [] (declarations_at_end q) else still_declaring [] (read_one q x))
        (λ d. (k ≤ open_certified d) × (k ≤ 256 → (open_certified d ≤ 256) × CertifiesAlong (ks ++ js) (xs ++ r) d))
    by_step None g f e go = absurd f
    by_step (Some s) g f e go =
        subst (λ b. IsSomeAnd (if b then certificate_begins [] (declarations_at_end q) else still_declaring [] (read_one q x)) (λ d. (k ≤ open_certified d) × (k ≤ 256 → (open_certified d ≤ 256) × CertifiesAlong (ks ++ js) (xs ++ r) d))) (sym (not_certificate q s x g))
        (subst (λ o. IsSomeAnd (still_declaring [] o) (λ d. (k ≤ open_certified d) × (k ≤ 256 → (open_certified d ≤ 256) × CertifiesAlong (ks ++ js) (xs ++ r) d))) (sym g) (f.0, λ few. ((f.1 few).0, go s (f.1 few).1 e)))

-- a row's policy
row_policy_along : (line : ℕ) (ns : List ℕ) (ds : List Declaration) (rs : List Row) (ks js : List ℕ) (xs r : List Terminal) (s s' : State)
    → Follows ks xs s → run xs s ≡ Some s' → CertifiesAlong js r (certifying (in_row line ns s') ds rs)
    → CertifiesAlong (ks ++ js) (xs ++ r) (certifying (in_row line ns s) ds rs)
row_policy_along line ns ds rs [] js [] r s s' f e h = subst (λ x. CertifiesAlong js r (certifying (in_row line ns x) ds rs)) (sym (some_same s s' e)) h
row_policy_along line ns ds rs [] js (x ∷ xs) r s s' f e h = absurd f
row_policy_along line ns ds rs (k ∷ ks) js [] r s s' f e h = absurd f
row_policy_along line ns ds rs (k ∷ ks) js (x ∷ xs) r s s' f e h =
    by_step (step s x) (policy_ended s) f e (λ s g e. row_policy_along line ns ds rs ks js xs r s s' g e h)
  where
    by_step : (o : Option State) (t : Option Tree)
        → IsSomeAnd o (λ s'. (k ≤ length s'.frames) × (k ≤ 256 → (length s'.frames ≤ 256) × Follows ks xs s'))
        → option_and_then (run xs) o ≡ Some s'
        → ((s : State) → Follows ks xs s → run xs s ≡ Some s' → CertifiesAlong (ks ++ js) (xs ++ r) (certifying (in_row line ns s) ds rs))
        → IsSomeAnd (row_on ds rs ns line o t x) (λ d. (k ≤ open_certified d) × (k ≤ 256 → (open_certified d ≤ 256) × CertifiesAlong (ks ++ js) (xs ++ r) d))
    by_step None t g e go = absurd g
    by_step (Some s) t g e go = (g.0, λ few. ((g.1 few).0, go s (g.1 few).1 e))

-- further numbers of a row
numbers_along : (ms : List Number) (line : ℕ) (ns : List ℕ) (ds : List Declaration) (rs : List Row) (js : List ℕ) (r : List Terminal)
    → ((ks : List ℕ) → CertifiesAlong js r (certifying (numbers_read line ks) ds rs))
    → CertifiesAlong (open_in_numbers ms ++ js) (spell_numbers ms ++ r) (certifying (numbers_read line ns) ds rs)
numbers_along [] line ns ds rs js r more = more ns
numbers_along (m ∷ ms) line ns ds rs js r more = nothing_open (numbers_along ms line (ns ++ m.value ∷ []) ds rs js r more)

-- a policy, and the rows after it
row_along : (p : Pol) (ws : List WrittenRow) (line : ℕ) (ns : List ℕ) (ds : List Declaration) (rs : List Row)
    → ((s : State) → policy_ended s ≡ Some (pol_tree p) → CertifiesAlong (open_in_rows ws) (spell_rows ws) (certifying (in_row line ns s) ds rs))
    → CertifiesAlong (open_in_pol 0 p ++ open_in_rows ws) (spell_pol p ++ spell_rows ws) (certifying (in_row line ns first_state) ds rs)
row_along p ws line ns ds rs more =
    let l = left_by p in
    row_policy_along line ns ds rs (open_in_pol 0 p) (open_in_rows ws) (spell_pol p) (spell_rows ws) first_state l.0 (policy_follows p) l.1 (more l.0 l.2)

-- the rows after a row's policy
rows_along : (ws : List WrittenRow) (line : ℕ) (ns : List ℕ) (s : State) (p : Tree) (ds : List Declaration) (rs : List Row)
    → policy_ended s ≡ Some p → CertifiesAlong (open_in_rows ws) (spell_rows ws) (certifying (in_row line ns s) ds rs)
rows_along [] line ns s p ds rs e = tt
rows_along (written_row l n ms q ∷ ws) line ns s p ds rs e =
    let word : Terminal = outside (row_word l) in
    let following : List Terminal = number n ∷ ((spell_numbers ms ++ colon ∷ spell_pol q) ++ spell_rows ws) in
    let counts : List ℕ = 0 ∷ ((open_in_numbers ms ++ 0 ∷ open_in_pol 0 q) ++ open_in_rows ws) in
    let done : List Row = rs ++ row ns p line ∷ [] in
    subst (λ o. IsSomeAnd (row_on ds rs ns line o (policy_ended s) word) (λ d. (0 ≤ open_certified d) × (0 ≤ 256 → (open_certified d ≤ 256) × CertifiesAlong counts following d)))
    (sym (outside_refused s.place s.frames s.terms s.factors (row_word l)))
    (subst (λ o. IsSomeAnd (row_done ds rs ns line o word) (λ d. (0 ≤ open_certified d) × (0 ≤ 256 → (open_certified d ≤ 256) × CertifiesAlong counts following d))) (sym e)
    (nothing_open (nothing_open
    (subst (λ x. CertifiesAlong x ((spell_numbers ms ++ colon ∷ spell_pol q) ++ spell_rows ws) (certifying (numbers_read l (n.value ∷ [])) ds done)) (sym (append_assoc (open_in_numbers ms) (0 ∷ open_in_pol 0 q) (open_in_rows ws)))
    (subst (λ x. CertifiesAlong (open_in_numbers ms ++ 0 ∷ (open_in_pol 0 q ++ open_in_rows ws)) x (certifying (numbers_read l (n.value ∷ [])) ds done)) (sym (append_assoc (spell_numbers ms) (colon ∷ spell_pol q) (spell_rows ws)))
    (numbers_along ms l (n.value ∷ []) ds done (0 ∷ (open_in_pol 0 q ++ open_in_rows ws)) (colon ∷ (spell_pol q ++ spell_rows ws))
    (λ ks. nothing_open (row_along q ws l ks ds done (λ z f. rows_along ws l ks z (pol_tree q) ds done f)))))))))

-- the declarations of a text's tokens
declarations_left : (ws : List Written) → (q : Reading) × (read_all (spell_file ws) first_reading ≡ Some q) × (declarations_at_end q ≡ Some (map declared ws))
declarations_left ws = by_reading (read_all (spell_file ws) first_reading) refl (reads_file (spell_file ws) (map declared ws) (ws, refl, refl))
  where
    nothing : {A : Type 0} → ◌≡◌ {A = Option (List Declaration)} None (Some (map declared ws)) → A
    nothing e = absurd cc

    by_reading : (o : Option Reading) → read_all (spell_file ws) first_reading ≡ o → option_and_then declarations_at_end o ≡ Some (map declared ws)
        → (q : Reading) × (read_all (spell_file ws) first_reading ≡ Some q) × (declarations_at_end q ≡ Some (map declared ws))
    by_reading None e f = nothing f
    by_reading (Some q) e f = (q, e, f)

-- a text with a certificate
pub certified_along : (c : WrittenCertified) → CertifiesAlong (open_in_certified c) (spell_certified c) first_certifying
certified_along c =
    let counts : List ℕ = 0 ∷ 0 ∷ 0 ∷ (open_in_pol 0 c.pred ++ open_in_rows c.others) in
    let following : List Terminal = spell_certificate c.line c.pred c.others in
    let l = declarations_left c.decls in
    declaring_along (open_in_file c.decls) (0 ∷ counts) (spell_file c.decls) (outside certificate_word ∷ following) first_reading l.0 (file_along c.decls []) l.1
    (subst (λ o. IsSomeAnd (certificate_begins [] o) (λ d. (0 ≤ open_certified d) × (0 ≤ 256 → (open_certified d ≤ 256) × CertifiesAlong counts following d))) (sym l.2)
    (nothing_open (nothing_open (nothing_open (nothing_open (row_along c.pred c.others c.line [] (map declared c.decls) [] (λ z f. rows_along c.others c.line [] z (pol_tree c.pred) (map declared c.decls) [] f)))))))
