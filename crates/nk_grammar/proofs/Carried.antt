-- What is read after the word `certificate`: on later lines and after other declarations it is the same.
use Rattle.std.proofs.Common.{◌≡◌, ◌+◌, ℕ, List, [], ◌∷◌, ◌++◌, Bool, true, false, refl, sym, ◌∙◌, ap, Option}
use Rattle.std.specs.Prelude.{Some, None, Ok, Err, map, option_map, if◌then◌else◌, nat_le, ⊤}
use Rattle.std.proofs.lemmas.List.{map-append}
use Rattle.std.specs.declared.result.Result.{Result}
use Rattle.nk_lex.specs.declared.token.Token.{Token}
use Rattle.nk_lex.specs.Joined.{token_moved}
use Rattle.nk_lex.specs.declared.ident.Number.{Number}
use Rattle.nk_lex.specs.Faults.{and_then}
use Rattle.nk_grammar.specs.declared.decl.GrammarError.{GrammarError}
use Rattle.nk_grammar.specs.declared.decl.GrammarError.TheVariants as error
use Rattle.nk_grammar.specs.Terminal.{Terminal, outside, row_word, start_word, is_colon_terminal, terminal_of}
use Rattle.nk_grammar.specs.Tree.{Tree}
use Rattle.nk_grammar.specs.Machine.{State, first_state, in_option, number_in, with_number, step, policy_ended}
use Rattle.nk_grammar.specs.File.{Declaration}
use Rattle.nk_grammar.specs.Certified.{Row, row, Certified, certified}
use Rattle.nk_grammar.specs.CertifiedMachine.{CertifiedPhase, declaring, row_wanted, start_wanted, start_read, number_wanted, numbers_read, in_row, Certifying, certifying, is_start_word, row_in, in_line, row_on, next_certifying, certify_one, certificate_ends, certified_ended, certified_at_end, open_certified, judged_certified, certified_end_at, rest_of_certified}
use Rattle.nk_grammar.specs.Moved.{number_moved, tree_moved, row_moved}
use Rattle.nk_grammar.proofs.Moves.{terminal_moved, token_terminal, state_moved, open_moves, step_moves, end_moves, number_in_moves, colon_moves}

-- ---- after the word

-- the word `certificate` stands before
abbrev pub IsInRows : CertifiedPhase → Type 0
IsInRows (declaring r) = ⊥
IsInRows p = ⊤

abbrev IfInRows : Option Certifying → Type 0
IfInRows None = ⊤
IfInRows (Some c) = IsInRows c.phase

line_in_rows : (o : Option ℕ) (f : ℕ → Certifying) → ((l : ℕ) → IsInRows (f l).phase)
    → IfInRows (in_line o None (λ l. Some (f l)))
line_in_rows None f h = tt
line_in_rows (Some l) f h = h l

number_in_rows : (o : Option Number) (f : Number → Certifying) → ((n : Number) → IsInRows (f n).phase)
    → IfInRows (in_option o None (λ n. Some (f n)))
number_in_rows None f h = tt
number_in_rows (Some n) f h = h n

test_in_rows : (b : Bool) (x y : Option Certifying) → IfInRows x → IfInRows y → IfInRows (if b then x else y)
test_in_rows true x y h i = h
test_in_rows false x y h i = i

policy_in_rows : (ds : List Declaration) (rs : List Row) (ns : List ℕ) (line : ℕ) (o : Option State) (e : Option Tree) (t : Terminal)
    → IfInRows (row_on ds rs ns line o e t)
policy_in_rows ds rs ns line (Some s) e t = tt
policy_in_rows ds rs ns line None None t = tt
policy_in_rows ds rs ns line None (Some p) t =
    line_in_rows (row_in t) (λ l. certifying (number_wanted l) ds (rs ++ row ns p line ∷ [])) (λ l. tt)

-- it stands before all that follows
stays_in_rows : (p : CertifiedPhase) (ds : List Declaration) (rs : List Row) (t : Terminal) → IsInRows p
    → IfInRows (next_certifying p ds rs t)
stays_in_rows (declaring r) ds rs t h = absurd h
stays_in_rows row_wanted ds rs t h = line_in_rows (row_in t) (λ line. certifying (start_wanted line) ds rs) (λ l. tt)
stays_in_rows (start_wanted line) ds rs t h = test_in_rows (is_start_word t) (Some (certifying (start_read line) ds rs)) None tt tt
stays_in_rows (start_read line) ds rs t h = test_in_rows (is_colon_terminal t) (Some (certifying (in_row line [] first_state) ds rs)) None tt tt
stays_in_rows (number_wanted line) ds rs t h =
    number_in_rows (number_in t) (λ n. certifying (numbers_read line (n.value ∷ [])) ds rs) (λ n. tt)
stays_in_rows (numbers_read line ns) ds rs t h =
    test_in_rows (is_colon_terminal t) (Some (certifying (in_row line ns first_state) ds rs)) (with_number t None (λ m. Some (certifying (numbers_read line (ns ++ m.value ∷ [])) ds rs))) tt
    (number_in_rows (number_in t) (λ m. certifying (numbers_read line (ns ++ m.value ∷ [])) ds rs) (λ n. tt))
stays_in_rows (in_row line ns s) ds rs t h = policy_in_rows ds rs ns line (step s t) (policy_ended s) t

-- ---- what is read otherwise, token by token

module _ (g : Certifying → Certifying) (h : Token → Token) (k : Certified → Certified) (l : ℕ → ℕ)
    (lines : (t : Token) → (h t).line ≡ l t.line)
    (steps : (c : Certifying) (t : Token) → IsInRows c.phase → certify_one (g c) (terminal_of (h t)) ≡ option_map g (certify_one c (terminal_of t)))
    (opens : (c : Certifying) → open_certified (g c) ≡ open_certified c)
    (ends : (c : Certifying) → IsInRows c.phase → certified_at_end (g c) ≡ option_map k (certified_at_end c)) where
  abbrev pub result_carried : Result Certified GrammarError → Result Certified GrammarError
  result_carried (Ok c) = Ok (k c)
  result_carried (Err error.NoMemory) = Err error.NoMemory
  result_carried (Err (error.Unexpected line)) = Err (error.Unexpected (l line))
  result_carried (Err (error.TooDeep line)) = Err (error.TooDeep (l line))

  pub rest_carried : (us : List Token) (c : Certifying) (line : ℕ) → IsInRows c.phase
      → rest_of_certified (map h us) (g c) (l line) ≡ result_carried (rest_of_certified us c line)
  rest_carried [] c line i = ap (certified_end_at (l line)) (ends c i) ∙ at_end (certified_at_end c)
    where
      at_end : (o : Option Certified) → certified_end_at (l line) (option_map k o) ≡ result_carried (certified_end_at line o)
      at_end None = refl
      at_end (Some x) = refl
  rest_carried (t ∷ us) c line i =
      ap (λ n. and_then (judged_certified n (certify_one (g c) (terminal_of (h t)))) (λ d. rest_of_certified (map h us) d n)) (lines t)
      ∙ ap (λ o. and_then (judged_certified (l t.line) o) (λ d. rest_of_certified (map h us) d (l t.line))) (steps c t i)
      ∙ by_step (certify_one c (terminal_of t)) (stays_in_rows c.phase c.declarations c.rows (terminal_of t) i) (λ s j. rest_carried us s t.line j)
    where
      by_step : (o : Option Certifying) → IfInRows o
          → ((s : Certifying) → IsInRows s.phase → rest_of_certified (map h us) (g s) (l t.line) ≡ result_carried (rest_of_certified us s t.line))
          → and_then (judged_certified (l t.line) (option_map g o)) (λ d. rest_of_certified (map h us) d (l t.line))
          ≡ result_carried (and_then (judged_certified t.line o) (λ d. rest_of_certified us d t.line))
      by_step None j more = refl
      by_step (Some s) j more =
          ap (λ n. and_then (if nat_le n 256 then Ok (g s) else Err (error.TooDeep (l t.line))) (λ d. rest_of_certified (map h us) d (l t.line))) (opens s)
          ∙ by_test (nat_le (open_certified s) 256)
        where
          by_test : (b : Bool)
              → and_then (if b then Ok (g s) else Err (error.TooDeep (l t.line))) (λ d. rest_of_certified (map h us) d (l t.line))
              ≡ result_carried (and_then (if b then Ok s else Err (error.TooDeep t.line)) (λ d. rest_of_certified us d t.line))
          by_test true = more s j
          by_test false = refl

-- where a line, a number or a sign may come
line_carried : (g : Certifying → Certifying) (m : ℕ → ℕ) (o : Option ℕ) (f f' : ℕ → Certifying) → ((n : ℕ) → f' (m n) ≡ g (f n))
    → in_line (option_map m o) None (λ n. Some (f' n)) ≡ option_map g (in_line o None (λ n. Some (f n)))
line_carried g m None f f' same = refl
line_carried g m (Some n) f f' same = ap (λ c. Some c) (same n)

number_carried : (g : Certifying → Certifying) (m : Number → Number) (o : Option Number) (f f' : Number → Certifying)
    → ((n : Number) → f' (m n) ≡ g (f n))
    → in_option (option_map m o) None (λ n. Some (f' n)) ≡ option_map g (in_option o None (λ n. Some (f n)))
number_carried g m None f f' same = refl
number_carried g m (Some n) f f' same = ap (λ c. Some c) (same n)

test_carried : (g : Certifying → Certifying) (b : Bool) (x y x' y' : Option Certifying) → x' ≡ option_map g x → y' ≡ option_map g y
    → (if b then x' else y') ≡ option_map g (if b then x else y)
test_carried g true x y x' y' e f = e
test_carried g false x y x' y' e f = f

-- ---- after other declarations

module _ (ds : List Declaration) where
  abbrev following : Certifying → Certifying
  following c = certifying c.phase ds c.rows

  abbrev certified_after : Certified → Certified
  certified_after c = certified ds c.rows

  same_line : (o : Option ℕ) (f f' : ℕ → Certifying) → ((n : ℕ) → f' n ≡ following (f n))
      → in_line o None (λ n. Some (f' n)) ≡ option_map following (in_line o None (λ n. Some (f n)))
  same_line None f f' same = refl
  same_line (Some n) f f' same = ap (λ c. Some c) (same n)

  same_number : (o : Option Number) (f f' : Number → Certifying) → ((n : Number) → f' n ≡ following (f n))
      → in_option o None (λ n. Some (f' n)) ≡ option_map following (in_option o None (λ n. Some (f n)))
  same_number None f f' same = refl
  same_number (Some n) f f' same = ap (λ c. Some c) (same n)

  policy_after : (es : List Declaration) (rs : List Row) (ns : List ℕ) (line : ℕ) (o : Option State) (e : Option Tree) (t : Terminal)
      → row_on ds rs ns line o e t ≡ option_map following (row_on es rs ns line o e t)
  policy_after es rs ns line (Some s) e t = refl
  policy_after es rs ns line None None t = refl
  policy_after es rs ns line None (Some p) t =
      same_line (row_in t) (λ l. certifying (number_wanted l) es (rs ++ row ns p line ∷ [])) (λ l. certifying (number_wanted l) ds (rs ++ row ns p line ∷ [])) (λ n. refl)

  next_after : (p : CertifiedPhase) (es : List Declaration) (rs : List Row) (t : Terminal) → IsInRows p
      → next_certifying p ds rs t ≡ option_map following (next_certifying p es rs t)
  next_after (declaring r) es rs t h = absurd h
  next_after row_wanted es rs t h =
      same_line (row_in t) (λ l. certifying (start_wanted l) es rs) (λ l. certifying (start_wanted l) ds rs) (λ n. refl)
  next_after (start_wanted line) es rs t h =
      test_carried following (is_start_word t) (Some (certifying (start_read line) es rs)) None (Some (certifying (start_read line) ds rs)) None refl refl
  next_after (start_read line) es rs t h =
      test_carried following (is_colon_terminal t) (Some (certifying (in_row line [] first_state) es rs)) None (Some (certifying (in_row line [] first_state) ds rs)) None refl refl
  next_after (number_wanted line) es rs t h =
      same_number (number_in t) (λ n. certifying (numbers_read line (n.value ∷ [])) es rs) (λ n. certifying (numbers_read line (n.value ∷ [])) ds rs) (λ n. refl)
  next_after (numbers_read line ns) es rs t h =
      test_carried following (is_colon_terminal t) (Some (certifying (in_row line ns first_state) es rs)) (with_number t None (λ m. Some (certifying (numbers_read line (ns ++ m.value ∷ [])) es rs)))
      (Some (certifying (in_row line ns first_state) ds rs)) (with_number t None (λ m. Some (certifying (numbers_read line (ns ++ m.value ∷ [])) ds rs))) refl
      (same_number (number_in t) (λ m. certifying (numbers_read line (ns ++ m.value ∷ [])) es rs) (λ m. certifying (numbers_read line (ns ++ m.value ∷ [])) ds rs) (λ n. refl))
  next_after (in_row line ns s) es rs t h = policy_after es rs ns line (step s t) (policy_ended s) t

  last_after : (es : List Declaration) (rs : List Row) (ns : List ℕ) (line : ℕ) (o : Option Tree)
      → certificate_ends ds rs ns line o ≡ option_map certified_after (certificate_ends es rs ns line o)
  last_after es rs ns line None = refl
  last_after es rs ns line (Some p) = refl

  end_after : (p : CertifiedPhase) (es : List Declaration) (rs : List Row) → IsInRows p
      → certified_ended p ds rs ≡ option_map certified_after (certified_ended p es rs)
  end_after (declaring r) es rs h = absurd h
  end_after (in_row line ns s) es rs h = last_after es rs ns line (policy_ended s)
  end_after p es rs h = refl

  all_tokens : (us : List Token) → map (λ t. t) us ≡ us
  all_tokens [] = refl
  all_tokens (u ∷ us) = ap (λ l. u ∷ l) (all_tokens us)

  -- the rows that are read after declarations
  pub rows_following : (us : List Token) (rs xs : List Row) (es fs : List Declaration) (line : ℕ)
      → rest_of_certified us (certifying row_wanted es xs) line ≡ Ok (certified fs rs)
      → rest_of_certified us (certifying row_wanted ds xs) line ≡ Ok (certified ds rs)
  rows_following us rs xs es fs line e =
      ap (λ l. rest_of_certified l (certifying row_wanted ds xs) line) (sym (all_tokens us))
      ∙ rest_carried following (λ t. t) certified_after (λ n. n) (λ t. refl)
      (λ c t i. next_after c.phase c.declarations c.rows (terminal_of t) i) (λ c. refl)
      (λ c i. end_after c.phase c.declarations c.rows i) us (certifying row_wanted es xs) line tt
      ∙ ap (result_carried following (λ t. t) certified_after (λ n. n) (λ t. refl)
      (λ c t i. next_after c.phase c.declarations c.rows (terminal_of t) i) (λ c. refl)
      (λ c i. end_after c.phase c.declarations c.rows i)) e

-- ---- on later lines

module _ (lines places : ℕ) where
  abbrev phase_moved : CertifiedPhase → CertifiedPhase
  phase_moved (declaring r) = declaring r
  phase_moved row_wanted = row_wanted
  phase_moved (start_wanted line) = start_wanted (line + lines)
  phase_moved (start_read line) = start_read (line + lines)
  phase_moved (number_wanted line) = number_wanted (line + lines)
  phase_moved (numbers_read line ns) = numbers_read (line + lines) ns
  phase_moved (in_row line ns s) = in_row (line + lines) ns (state_moved lines s)

  abbrev further : Certifying → Certifying
  further c = certifying (phase_moved c.phase) c.declarations (map (row_moved lines) c.rows)

  abbrev certified_further : Certified → Certified
  certified_further c = certified c.declarations (map (row_moved lines) c.rows)

  row_in_moves : (t : Terminal) → row_in (terminal_moved lines t) ≡ option_map (λ n. n + lines) (row_in t)
  row_in_moves (outside (row_word l)) = refl
  row_in_moves t = refl

  start_moves : (t : Terminal) → is_start_word (terminal_moved lines t) ≡ is_start_word t
  start_moves (outside start_word) = refl
  start_moves t = refl

  -- a row that is done
  row_further : (rs : List Row) (ns : List ℕ) (p : Tree) (line : ℕ)
      → map (row_moved lines) rs ++ row ns (tree_moved lines p) (line + lines) ∷ [] ≡ map (row_moved lines) (rs ++ row ns p line ∷ [])
  row_further rs ns p line = sym (map-append (row_moved lines) rs (row ns p line ∷ []))

  line_further : (t : Terminal) (f f' : ℕ → Certifying) → ((n : ℕ) → f' (n + lines) ≡ further (f n))
      → in_line (row_in (terminal_moved lines t)) None (λ n. Some (f' n)) ≡ option_map further (in_line (row_in t) None (λ n. Some (f n)))
  line_further t f f' same =
      ap (λ o. in_line o None (λ n. Some (f' n))) (row_in_moves t) ∙ line_carried further (λ n. n + lines) (row_in t) f f' same

  number_further : (t : Terminal) (f f' : Number → Certifying) → ((n : Number) → f' (number_moved lines n) ≡ further (f n))
      → with_number (terminal_moved lines t) None (λ n. Some (f' n)) ≡ option_map further (with_number t None (λ n. Some (f n)))
  number_further t f f' same =
      ap (λ o. in_option o None (λ n. Some (f' n))) (number_in_moves lines t) ∙ number_carried further (number_moved lines) (number_in t) f f' same

  test_further : (b' b : Bool) (x y x' y' : Option Certifying) → b' ≡ b → x' ≡ option_map further x → y' ≡ option_map further y
      → (if b' then x' else y') ≡ option_map further (if b then x else y)
  test_further b' b x y x' y' same e f = ap (λ c. if c then x' else y') same ∙ test_carried further b x y x' y' e f

  policy_further : (ds : List Declaration) (rs : List Row) (ns : List ℕ) (line : ℕ) (o : Option State) (e : Option Tree) (t : Terminal)
      → row_on ds (map (row_moved lines) rs) ns (line + lines) (option_map (state_moved lines) o) (option_map (tree_moved lines) e) (terminal_moved lines t)
      ≡ option_map further (row_on ds rs ns line o e t)
  policy_further ds rs ns line (Some s) e t = refl
  policy_further ds rs ns line None None t = refl
  policy_further ds rs ns line None (Some p) t =
      line_further t (λ l. certifying (number_wanted l) ds (rs ++ row ns p line ∷ []))
      (λ l. certifying (number_wanted l) ds (map (row_moved lines) rs ++ row ns (tree_moved lines p) (line + lines) ∷ []))
      (λ n. ap (certifying (number_wanted (n + lines)) ds) (row_further rs ns p line))

  next_further : (p : CertifiedPhase) (ds : List Declaration) (rs : List Row) (t : Terminal) → IsInRows p
      → next_certifying (phase_moved p) ds (map (row_moved lines) rs) (terminal_moved lines t) ≡ option_map further (next_certifying p ds rs t)
  next_further (declaring r) ds rs t h = absurd h
  next_further row_wanted ds rs t h =
      line_further t (λ l. certifying (start_wanted l) ds rs) (λ l. certifying (start_wanted l) ds (map (row_moved lines) rs)) (λ n. refl)
  next_further (start_wanted line) ds rs t h =
      test_further (is_start_word (terminal_moved lines t)) (is_start_word t) (Some (certifying (start_read line) ds rs)) None
      (Some (certifying (start_read (line + lines)) ds (map (row_moved lines) rs))) None (start_moves t) refl refl
  next_further (start_read line) ds rs t h =
      test_further (is_colon_terminal (terminal_moved lines t)) (is_colon_terminal t) (Some (certifying (in_row line [] first_state) ds rs)) None
      (Some (certifying (in_row (line + lines) [] first_state) ds (map (row_moved lines) rs))) None (colon_moves lines t) refl refl
  next_further (number_wanted line) ds rs t h =
      number_further t (λ n. certifying (numbers_read line (n.value ∷ [])) ds rs) (λ n. certifying (numbers_read (line + lines) (n.value ∷ [])) ds (map (row_moved lines) rs)) (λ n. refl)
  next_further (numbers_read line ns) ds rs t h =
      test_further (is_colon_terminal (terminal_moved lines t)) (is_colon_terminal t) (Some (certifying (in_row line ns first_state) ds rs))
      (with_number t None (λ m. Some (certifying (numbers_read line (ns ++ m.value ∷ [])) ds rs)))
      (Some (certifying (in_row (line + lines) ns first_state) ds (map (row_moved lines) rs)))
      (with_number (terminal_moved lines t) None (λ m. Some (certifying (numbers_read (line + lines) (ns ++ m.value ∷ [])) ds (map (row_moved lines) rs))))
      (colon_moves lines t) refl
      (number_further t (λ m. certifying (numbers_read line (ns ++ m.value ∷ [])) ds rs) (λ m. certifying (numbers_read (line + lines) (ns ++ m.value ∷ [])) ds (map (row_moved lines) rs)) (λ n. refl))
  next_further (in_row line ns s) ds rs t h =
      ap (λ o. row_on ds (map (row_moved lines) rs) ns (line + lines) o (policy_ended (state_moved lines s)) (terminal_moved lines t)) (step_moves lines s t)
      ∙ ap (λ e. row_on ds (map (row_moved lines) rs) ns (line + lines) (option_map (state_moved lines) (step s t)) e (terminal_moved lines t)) (end_moves lines s)
      ∙ policy_further ds rs ns line (step s t) (policy_ended s) t

  one_further : (c : Certifying) (t : Token) → IsInRows c.phase
      → certify_one (further c) (terminal_of (token_moved lines places t)) ≡ option_map further (certify_one c (terminal_of t))
  one_further c t i =
      ap (certify_one (further c)) (token_terminal lines places t) ∙ next_further c.phase c.declarations c.rows (terminal_of t) i

  opens_further : (p : CertifiedPhase) (ds : List Declaration) (rs : List Row)
      → open_certified (certifying (phase_moved p) ds (map (row_moved lines) rs)) ≡ open_certified (certifying p ds rs)
  opens_further (in_row line ns s) ds rs = open_moves lines s
  opens_further p ds rs = refl

  last_further : (ds : List Declaration) (rs : List Row) (ns : List ℕ) (line : ℕ) (o : Option Tree)
      → certificate_ends ds (map (row_moved lines) rs) ns (line + lines) (option_map (tree_moved lines) o) ≡ option_map certified_further (certificate_ends ds rs ns line o)
  last_further ds rs ns line None = refl
  last_further ds rs ns line (Some p) = ap (λ x. Some (certified ds x)) (row_further rs ns p line)

  end_further : (p : CertifiedPhase) (ds : List Declaration) (rs : List Row) → IsInRows p
      → certified_ended (phase_moved p) ds (map (row_moved lines) rs) ≡ option_map certified_further (certified_ended p ds rs)
  end_further (declaring r) ds rs h = absurd h
  end_further (in_row line ns s) ds rs h =
      ap (certificate_ends ds (map (row_moved lines) rs) ns (line + lines)) (end_moves lines s) ∙ last_further ds rs ns line (policy_ended s)
  end_further p ds rs h = refl

  -- the rows that are read of tokens further on
  pub rows_further : (us : List Token) (rs : List Row) (line : ℕ)
      → rest_of_certified us (certifying row_wanted [] []) line ≡ Ok (certified [] rs)
      → rest_of_certified (map (token_moved lines places) us) (certifying row_wanted [] []) (line + lines) ≡ Ok (certified [] (map (row_moved lines) rs))
  rows_further us rs line e =
      rest_carried further (token_moved lines places) certified_further (λ n. n + lines) (λ t. refl) one_further
      (λ c. opens_further c.phase c.declarations c.rows) (λ c i. end_further c.phase c.declarations c.rows i) us (certifying row_wanted [] []) line tt
      ∙ ap (result_carried further (token_moved lines places) certified_further (λ n. n + lines) (λ t. refl) one_further
      (λ c. opens_further c.phase c.declarations c.rows) (λ c i. end_further c.phase c.declarations c.rows i)) e
