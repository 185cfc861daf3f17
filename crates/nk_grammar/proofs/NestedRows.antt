-- A certificate in which at most 256 are open at once is read.
use Rattle.std.proofs.Common.{◌≡◌, ◌≤◌, ℕ, List, [], ◌∷◌, ◌++◌, length, refl, sym, subst, ◌∙◌, ap, append_assoc, arith, cond, Option}
use Rattle.std.proofs.lemmas.List.Elements.{All-tail}
use Rattle.std.specs.Prelude.{Some, None, Ok, Err, All, IfSome, option_and_then}
use Rattle.nk_lex.specs.declared.token.Token.{Token}
use Rattle.nk_lex.specs.declared.ident.Number.{Number}
use Rattle.nk_lex.specs.Faults.{and_then}
use Rattle.nk_grammar.specs.declared.decl.GrammarError.TheVariants as error
use Rattle.nk_grammar.specs.declared.place.Place.TheVariants as place
use Rattle.nk_grammar.specs.Terminal.{Terminal, number, colon, outside, certificate_word, row_word, terminal_of}
use Rattle.nk_grammar.specs.Tree.{Tree}
use Rattle.nk_grammar.specs.Grammar.{Pol, spell_pol, pol_tree}
use Rattle.nk_grammar.specs.Machine.{State, state, first_state, step, run, policy_ended}
use Rattle.nk_grammar.specs.File.{Declaration}
use Rattle.nk_grammar.specs.Answer.{terminals}
use Rattle.nk_grammar.specs.Nesting.{nesting_of_pol}
use Rattle.nk_grammar.specs.Certified.{Row, row, WrittenRow, written_row, spell_numbers, spell_rows, spell_certificate, rows_said, Certified, certified}
use Rattle.nk_grammar.specs.CertifiedMachine.{in_row, numbers_read, Certifying, certifying, row_done, row_on, certify_one, certify_all, first_certifying, certified_at_end, open_certified, judged_certified, certified_end_at, rest_of_certified, certified_of}
use Rattle.nk_grammar.specs.Moved.{nesting_of_row}
use Rattle.nk_grammar.proofs.Files.{within}
use Rattle.nk_grammar.proofs.Spelled.{IsFree, pol_has_star, early, late}
use Rattle.nk_grammar.proofs.Nested.{Low, pol_low}
use Rattle.nk_grammar.proofs.Texts.{outside_refused, left_by}
use Rattle.nk_grammar.proofs.CertifiedTexts.{reads_certified}

-- after each front of the tokens at most 256 are open
abbrev LowRows : List Terminal → Certifying → Type 0
LowRows [] c = open_certified c ≤ 256
LowRows (t ∷ ts) c = (open_certified c ≤ 256) × IfSome (certify_one c t) (λ d. LowRows ts d)

-- what is not there is nothing
nothing : {X A : Type 0} (x : X) → ◌≡◌ {A = Option X} None (Some x) → A
nothing x e = absurd cc

-- tokens that give a value and are not nested too deep
read_low : (ts : List Token) (c : Certifying) (line : ℕ) (x : Certified) → LowRows (terminals ts) c
    → option_and_then certified_at_end (certify_all (terminals ts) c) ≡ Some x → rest_of_certified ts c line ≡ Ok x
read_low [] c line x low e = ap (certified_end_at line) e
read_low (t ∷ ts) c line x low e = by_step (certify_one c (terminal_of t)) low.1 e (λ d l f. read_low ts d t.line x l f)
  where
    low_now : (us : List Token) (d : Certifying) → LowRows (terminals us) d → open_certified d ≤ 256
    low_now [] d l = l
    low_now (u ∷ us) d l = l.0

    by_step : (o : Option Certifying) → IfSome o (λ d. LowRows (terminals ts) d)
        → option_and_then certified_at_end (option_and_then (certify_all (terminals ts)) o) ≡ Some x
        → ((d : Certifying) → LowRows (terminals ts) d → option_and_then certified_at_end (certify_all (terminals ts) d) ≡ Some x → rest_of_certified ts d t.line ≡ Ok x)
        → and_then (judged_certified t.line o) (λ d. rest_of_certified ts d t.line) ≡ Ok x
    by_step None l f more = nothing x f
    by_step (Some d) l f more =
        ap (λ b. and_then (cond b (Ok d) (Err (error.TooDeep t.line))) (λ q. rest_of_certified ts q t.line)) (within (open_certified d) (low_now ts d l))
        ∙ more d l f

-- the tokens of a policy in a row, and those after it
policy_low : (line : ℕ) (ns : List ℕ) (ds : List Declaration) (rs : List Row) (xs r : List Terminal) (s s' : State)
    → Low 256 (xs ++ r) s → run xs s ≡ Some s'
    → (length s'.frames ≤ 256 → LowRows r (certifying (in_row line ns s') ds rs))
    → LowRows (xs ++ r) (certifying (in_row line ns s) ds rs)
policy_low line ns ds rs [] r s s' low e more = subst (λ q. LowRows r (certifying (in_row line ns q) ds rs)) (sym (same e)) (more (subst (λ q. length q.frames ≤ 256) (same e) (low_now r s low)))
  where
    same : ◌≡◌ {A = Option State} (Some s) (Some s') → s ≡ s'
    same e = cc

    low_now : (us : List Terminal) (q : State) → Low 256 us q → length q.frames ≤ 256
    low_now [] q l = l
    low_now (u ∷ us) q l = l.0
policy_low line ns ds rs (x ∷ xs) r s s' low e more =
    (low.0, by_step (step s x) low.1 e (λ q l f. policy_low line ns ds rs xs r q s' l f more))
  where
    by_step : (o : Option State) → IfSome o (λ q. Low 256 (xs ++ r) q) → option_and_then (run xs) o ≡ Some s'
        → ((q : State) → Low 256 (xs ++ r) q → run xs q ≡ Some s' → LowRows (xs ++ r) (certifying (in_row line ns q) ds rs))
        → IfSome (row_on ds rs ns line o (policy_ended s) x) (λ d. LowRows (xs ++ r) d)
    by_step None l f go = nothing s' f
    by_step (Some q) l f go = go q l f

-- further numbers of a row
numbers_low : (ms : List Number) (line : ℕ) (ns : List ℕ) (ds : List Declaration) (rs : List Row) (r : List Terminal)
    → ((ks : List ℕ) → LowRows r (certifying (numbers_read line ks) ds rs))
    → LowRows (spell_numbers ms ++ r) (certifying (numbers_read line ns) ds rs)
numbers_low [] line ns ds rs r more = more ns
numbers_low (m ∷ ms) line ns ds rs r more = (omega arith, numbers_low ms line (ns ++ m.value ∷ []) ds rs r more)

-- what follows a policy is no `=` and no `:=`, and ends it
rows_free : (ws : List WrittenRow) → IsFree (spell_rows ws)
rows_free [] = tt
rows_free (written_row l n ms q ∷ ws) = (refl, refl, refl)

rows_refused : (ws : List WrittenRow) (p : Pol) → Low 256 (spell_rows ws) (state (place.After (pol_has_star p)) [] (early p) (late p))
rows_refused [] p = omega arith
rows_refused (written_row l n ms q ∷ ws) p = (omega arith, tt)

-- a row's policy, with the rows after it
row_low : (p : Pol) (ws : List WrittenRow) (line : ℕ) (ns : List ℕ) (ds : List Declaration) (rs : List Row) → nesting_of_pol p ≤ 256
    → ((s : State) → policy_ended s ≡ Some (pol_tree p) → length s.frames ≤ 256 → LowRows (spell_rows ws) (certifying (in_row line ns s) ds rs))
    → LowRows (spell_pol p ++ spell_rows ws) (certifying (in_row line ns first_state) ds rs)
row_low p ws line ns ds rs le more =
    let left = left_by p in
    policy_low line ns ds rs (spell_pol p) (spell_rows ws) first_state left.0
    (pol_low 256 p [] (spell_rows ws) (λ t ts us. refl) (rows_free ws) (omega arith) (rows_refused ws p))
    left.1 (λ few. more left.0 left.2 few)

-- the rows after a row's policy
rows_low : (ws : List WrittenRow) (line : ℕ) (ns : List ℕ) (s : State) (p : Tree) (ds : List Declaration) (rs : List Row)
    → policy_ended s ≡ Some p → length s.frames ≤ 256 → All (λ w. nesting_of_row w ≤ 256) ws
    → LowRows (spell_rows ws) (certifying (in_row line ns s) ds rs)
rows_low [] line ns s p ds rs e le all = le
rows_low (written_row l n ms q ∷ ws) line ns s p ds rs e le all =
    let word : Terminal = outside (row_word l) in
    let following : List Terminal = number n ∷ ((spell_numbers ms ++ colon ∷ spell_pol q) ++ spell_rows ws) in
    let done : List Row = rs ++ row ns p line ∷ [] in
    let nested : nesting_of_pol q ≤ 256 = all 0 (written_row l n ms q) (omega arith) in (
      le,
      subst (λ o. IfSome (row_on ds rs ns line o (policy_ended s) word) (λ d. LowRows following d))
          (sym (outside_refused s.place s.frames s.terms s.factors (row_word l)))
          (subst (λ o. IfSome (row_done ds rs ns line o word) (λ d. LowRows following d)) (sym e) (
            omega arith,
            subst (λ x. LowRows x (certifying (numbers_read l (n.value ∷ [])) ds done)) (sym (append_assoc (spell_numbers ms) (colon ∷ spell_pol q) (spell_rows ws)))
                (numbers_low ms l (n.value ∷ []) ds done (colon ∷ (spell_pol q ++ spell_rows ws)) (λ ks. (
                  omega arith,
                  row_low q ws l ks ds done nested
                      (λ z f few. rows_low ws l ks z (pol_tree q) ds done f few (All-tail (λ w. nesting_of_row w ≤ 256) (written_row l n ms q) ws all)),
                ))),
          )),
    )

-- the tokens of a certificate that isn't nested too deep
pub certificates_read : (us : List Token) (line : ℕ) (p : Pol) (ws : List WrittenRow)
    → terminals us ≡ outside certificate_word ∷ spell_certificate line p ws
    → nesting_of_pol p ≤ 256 → All (λ w. nesting_of_row w ≤ 256) ws → certified_of us ≡ Ok (certified [] (rows_said line p ws))
certificates_read us line p ws e le all =
    let x : Certified = certified [] (rows_said line p ws) in
    let low : LowRows (outside certificate_word ∷ spell_certificate line p ws) first_certifying = (
      omega arith,
      (
        omega arith,
        (omega arith, (omega arith, row_low p ws line [] [] [] le (λ s f few. rows_low ws line [] s (pol_tree p) [] [] f few all))),
      ),
    ) in
    read_low us first_certifying 1 x (subst (λ l. LowRows l first_certifying) (sym e) low)
    (reads_certified (terminals us) x (record { decls = []; line = line; pred = p; others = ws; tokens = e; value = refl }))
