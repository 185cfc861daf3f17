-- What tokens complete: numbers of a text, and the start row first.
use Rattle.std.proofs.Common.{◌≡◌, ◌≤◌, ℕ, List, [], ◌∷◌, ◌++◌, Bool, true, false, refl, sym, subst, arith, Option}
use Rattle.std.proofs.lemmas.List.Elements.{All-nil, All-cons, All-push, All-tail}
use Rattle.std.specs.Prelude.{Some, None, Ok, Err, All, fold, option_map, if◌then◌else◌, nat_le, ⊤}
use Rattle.nk_lex.specs.Lex.{largest}
use Rattle.nk_lex.specs.declared.token.Token.{Token}
use Rattle.nk_lex.specs.declared.ident.Ident.{Ident}
use Rattle.nk_lex.specs.declared.ident.Number.{Number}
use Rattle.nk_lex.specs.declared.quad.QuadNext.{QuadNext}
use Rattle.nk_lex.specs.declared.quad.QuadNext.TheVariants as next
use Rattle.nk_grammar.specs.declared.decl.Completed.{Completed}
use Rattle.nk_grammar.specs.declared.decl.Completed.TheVariants as completed
use Rattle.nk_grammar.specs.declared.decl.PolicyKeyword.{PolicyKeyword}
use Rattle.nk_grammar.specs.declared.decl.PolicyKeyword.TheVariants as policies
use Rattle.nk_grammar.specs.declared.decl.LinkKeyword.{LinkKeyword}
use Rattle.nk_grammar.specs.declared.decl.LinkKeyword.TheVariants as links
use Rattle.nk_grammar.specs.declared.decl.Naming.{Naming}
use Rattle.nk_grammar.specs.declared.decl.Naming.TheVariants as naming
use Rattle.nk_grammar.specs.declared.decl.GrammarError.TheVariants as error
use Rattle.nk_grammar.specs.Terminal.{Terminal, number, opening, outside, field_word, tag_word, switch_word, link_word, let_word, fabric_word, virtual_word, is_equal, is_colon_terminal, terminal_of}
use Rattle.nk_grammar.specs.Tree.{Tree, dup}
use Rattle.nk_grammar.specs.Machine.{State, first_state, step, policy_ended, in_option, number_in, quad_step}
use Rattle.nk_grammar.specs.File.{Declaration, IsWritten, declaration_of, field, tag, switch, declared_link, definition, fabric, virtual_link}
use Rattle.nk_grammar.specs.FileMachine.{Phase, between, name_wanted, field_named, switch_read, switch_numbered, port_wanted, port_read, link_read, by_wanted, policy_named, in_policy, Reading, reading, name_in, is_ports, is_by, is_comma, by_name, begin_declaration, one_more, defined, named, link_on, policy_on, next_reading, text_ended}
use Rattle.nk_grammar.specs.Answer.{terminals}
use Rattle.nk_grammar.specs.Certified.{Row, row, row_value, IsWrittenRow}
use Rattle.nk_grammar.specs.CertifiedMachine.{CertifiedPhase, declaring, row_wanted, start_wanted, start_read, number_wanted, numbers_read, in_row, Certifying, certifying, is_certificate, is_start_word, row_in, in_line, certificate_begins, still_declaring, row_on, certify_one, open_certified, judged_certified}
use Rattle.nk_grammar.specs.CertifiedProgress.{CertifiedProgress, Going, Stopped, bare, with_done, done_declarations, ParsedPrefix, parsed_prefix, empty_prefix, prefix_judged, prefix_after, IsRead, declarations_by, rows_by, IsWrittenPart, BeginsWithStart, CompletesWritten}
use Rattle.nk_grammar.proofs.Fronts.{none_some, some_same}
use Rattle.nk_grammar.proofs.Written.{IsSmall, are_small}

-- ---- what each token keeps holds of all

-- it holds of a state
abbrev OfState : (CertifiedPhase → List Declaration → List Row → Type 0) → Option Certifying → Type 0
OfState I None = ⊤
OfState I (Some c) = I (bare c.phase) (done_declarations c.phase c.declarations) c.rows

-- it held before a fault
abbrev OfProgress : (CertifiedPhase → List Declaration → List Row → Type 0) → CertifiedProgress → List Declaration → List Row → Type 0
OfProgress I (Going p line) ds rs = I p ds rs
OfProgress I (Stopped e) ds rs = (p : CertifiedPhase) × I p ds rs

abbrev OfPrefix : (CertifiedPhase → List Declaration → List Row → Type 0) → ParsedPrefix → Type 0
OfPrefix I s = OfProgress I s.progress s.declarations s.rows

-- a token keeps it
abbrev IsKeptBy : (Terminal → Type 0) → (CertifiedPhase → List Declaration → List Row → Type 0) → Type 0
IsKeptBy Q I = (p : CertifiedPhase) (ds : List Declaration) (rs : List Row) (t : Terminal) → Q t → I p ds rs
    → OfState I (certify_one (with_done p ds rs) t)

after_token : (Q : Terminal → Type 0) (I : CertifiedPhase → List Declaration → List Row → Type 0) → IsKeptBy Q I
    → (x : CertifiedProgress) (ds : List Declaration) (rs : List Row) (t : Token) → Q (terminal_of t) → OfProgress I x ds rs
    → OfPrefix I (prefix_after (parsed_prefix x ds rs) t)
after_token Q I k (Stopped e) ds rs t q h = h
after_token Q I k (Going p line) ds rs t q h = by_step (certify_one (with_done p ds rs) (terminal_of t)) (k p ds rs (terminal_of t) q h)
  where
    by_step : (o : Option Certifying) → OfState I o → OfPrefix I (prefix_judged (judged_certified t.line o) (parsed_prefix (Going p line) ds rs) t.line)
    by_step None i = (p, h)
    by_step (Some c) i = by_count (nat_le (open_certified c) 256)
      where
        by_count : (b : Bool) → OfPrefix I (prefix_judged (if b then Ok c else Err (error.TooDeep t.line)) (parsed_prefix (Going p line) ds rs) t.line)
        by_count true = i
        by_count false = (p, h)

after_all : (Q : Terminal → Type 0) (I : CertifiedPhase → List Declaration → List Row → Type 0) → IsKeptBy Q I
    → (ts : List Token) (s : ParsedPrefix) → All Q (terminals ts) → OfPrefix I s → OfPrefix I (fold prefix_after s ts)
after_all Q I k [] s q h = h
after_all Q I k (t ∷ ts) s q h =
    after_all Q I k ts (prefix_after s t) (All-tail Q (terminal_of t) (terminals ts) q)
    (after_token Q I k s.progress s.declarations s.rows t (q 0 opening (omega arith)) h)

-- cases of what comes next
line_kept : (I : CertifiedPhase → List Declaration → List Row → Type 0) (o : Option ℕ) (f : ℕ → Certifying) → ((l : ℕ) → OfState I (Some (f l)))
    → OfState I (in_line o None (λ l. Some (f l)))
line_kept I None f h = tt
line_kept I (Some l) f h = h l

number_kept : (I : CertifiedPhase → List Declaration → List Row → Type 0) (o : Option Number) (f : Number → Certifying)
    → ((n : Number) → o ≡ Some n → OfState I (Some (f n))) → OfState I (in_option o None (λ n. Some (f n)))
number_kept I None f h = tt
number_kept I (Some n) f h = h n refl

test_kept : (I : CertifiedPhase → List Declaration → List Row → Type 0) (b : Bool) (x y : Option Certifying) → OfState I x → OfState I y
    → OfState I (if b then x else y)
test_kept I true x y h i = h
test_kept I false x y h i = i

-- ---- numbers

a_small_number : (t : Terminal) (m : Number) → number_in t ≡ Some m → IsSmall t → m.value ≤ largest
a_small_number (number n) m e h = subst (λ x. x.value ≤ largest) (some_same n m e) h
a_small_number t m e h = absurd (none_some m e)

-- the declarations have numbers of a text
abbrev DeclaresWritten : Option Reading → Type 0
DeclaresWritten None = ⊤
DeclaresWritten (Some r) = All IsWritten r.declarations

by_number : (o : Option Number) (f : Number → Reading) → ((n : Number) → o ≡ Some n → All IsWritten (f n).declarations)
    → DeclaresWritten (in_option o None (λ n. Some (f n)))
by_number None f h = tt
by_number (Some n) f h = h n refl

by_its_name : (o : Option Ident) (f : Ident → Reading) → ((w : Ident) → All IsWritten (f w).declarations) → DeclaresWritten (by_name o None (λ w. Some (f w)))
by_its_name None f h = tt
by_its_name (Some w) f h = h w

by_test : (b : Bool) (x y : Option Reading) → DeclaresWritten x → DeclaresWritten y → DeclaresWritten (if b then x else y)
by_test true x y h i = h
by_test false x y h i = i

pushed : (ds : List Declaration) (d : Declaration) → All IsWritten ds → IsWritten d → All IsWritten (one_more ds d)
pushed ds d h w = All-push IsWritten ds d h w

begun : (ds : List Declaration) (t : Terminal) → All IsWritten ds → DeclaresWritten (begin_declaration ds t)
begun ds (outside field_word) h = h
begun ds (outside tag_word) h = h
begun ds (outside switch_word) h = h
begun ds (outside link_word) h = h
begun ds (outside (let_word line)) h = h
begun ds (outside (fabric_word line)) h = h
begun ds (outside virtual_word) h = h
begun ds t h = tt

named_written : (ds : List Declaration) (k : Naming) (w : Ident) → All IsWritten ds → All IsWritten (named k w ds).declarations
named_written ds naming.Field w h = h
named_written ds naming.Tag w h = pushed ds (tag w) h tt
named_written ds (naming.Policy k line) w h = h
named_written ds (naming.Virtual a m b n) w h = pushed ds (virtual_link a m b n w) h tt

link_written : (ds : List Declaration) (k : LinkKeyword) (q : QuadNext) → All IsWritten ds → DeclaresWritten (link_on k ds q)
link_written ds k next.Refused h = tt
link_written ds k (next.Going q) h = h
link_written ds links.Link (next.Full a m b n) h = pushed ds (declared_link a m b n) h tt
link_written ds links.Virtual (next.Full a m b n) h = h

-- one more policy
policy_pushed : (ds : List Declaration) (k : PolicyKeyword) (w : Ident) (p : Tree) (line : ℕ) → All IsWritten ds → All IsWritten (one_more ds (defined k w p line))
policy_pushed ds policies.Let w p line h = pushed ds (definition w p line) h tt
policy_pushed ds policies.Fabric w p line h = pushed ds (fabric w p line) h tt

policy : (ds : List Declaration) (k : PolicyKeyword) (w : Ident) (line : ℕ) (o : Option State) (e : Option Tree) (t : Terminal) → All IsWritten ds
    → DeclaresWritten (policy_on k w line ds o e t)
policy ds k w line (Some s) e t h = h
policy ds k w line None None t h = tt
policy ds k w line None (Some p) t h = begun (one_more ds (defined k w p line)) t (policy_pushed ds k w p line h)

declares : (p : Phase) (ds : List Declaration) (t : Terminal) → IsSmall t → All IsWritten ds → DeclaresWritten (next_reading p ds t)
declares between ds t q h = begun ds t h
declares (name_wanted k) ds t q h = by_its_name (name_in t) (λ w. named k w ds) (λ w. named_written ds k w h)
declares (field_named w) ds t q h =
    by_number (number_in t) (λ n. reading between (one_more ds (field w n))) (λ n e. pushed ds (field w n) h (a_small_number t n e q))
declares switch_read ds t q h = by_number (number_in t) (λ n. reading (switch_numbered n) ds) (λ n e. h)
declares (switch_numbered n) ds t q h = by_test (is_ports t) (Some (reading (port_wanted n []) ds)) None h tt
declares (port_wanted n ps) ds t q h = by_number (number_in t) (λ p. reading (port_read n (ps ++ p ∷ [])) ds) (λ p e. h)
declares (port_read n ps) ds t q h =
    by_test (is_comma t) (Some (reading (port_wanted n ps) ds)) (begin_declaration (one_more ds (switch n ps)) t) h
    (begun (one_more ds (switch n ps)) t (pushed ds (switch n ps) h tt))
declares (link_read k x) ds t q h = link_written ds k (quad_step false x t) h
declares (by_wanted a m b n) ds t q h = by_test (is_by t) (Some (reading (name_wanted (naming.Virtual a m b n)) ds)) None h tt
declares (policy_named k w line) ds t q h = by_test (is_equal t) (Some (reading (in_policy k w line first_state) ds)) None h tt
declares (in_policy k w line s) ds t q h = policy ds k w line (step s t) (policy_ended s) t h

-- the positions that are read are numbers of a text
abbrev HasSmallPositions : CertifiedPhase → Type 0
HasSmallPositions (numbers_read line ns) = All (λ n. n ≤ largest) ns
HasSmallPositions (in_row line ns s) = All (λ n. n ≤ largest) ns
HasSmallPositions p = ⊤

abbrev IsWrittenSoFar : CertifiedPhase → List Declaration → List Row → Type 0
IsWrittenSoFar p ds rs = All IsWritten ds × All IsWrittenRow rs × HasSmallPositions p

certificate_written : (rs : List Row) (ds : List Declaration) (p : Phase) → All IsWritten ds → All IsWrittenRow rs
    → OfState IsWrittenSoFar (certificate_begins rs (text_ended p ds))
certificate_written rs ds between h i = (h, i, tt)
certificate_written rs ds (port_read n ps) h i = (pushed ds (switch n ps) h tt, i, tt)
certificate_written rs ds (in_policy k w line s) h i = by_end (policy_ended s)
  where
    by_end : (o : Option Tree) → OfState IsWrittenSoFar (certificate_begins rs (option_map (λ p. one_more ds (defined k w p line)) o))
    by_end None = tt
    by_end (Some p) = (policy_pushed ds k w p line h, i, tt)
certificate_written rs ds p h i = tt

still_written : (rs : List Row) (o : Option Reading) → DeclaresWritten o → All IsWrittenRow rs → OfState IsWrittenSoFar (still_declaring rs o)
still_written rs None h i = tt
still_written rs (Some r) h i = (h, i, tt)

row_written : (ds : List Declaration) (rs : List Row) (ns : List ℕ) (line : ℕ) (o : Option State) (e : Option Tree) (t : Terminal)
    → All IsWritten ds → All IsWrittenRow rs → All (λ n. n ≤ largest) ns → OfState IsWrittenSoFar (row_on ds rs ns line o e t)
row_written ds rs ns line (Some s) e t h i j = (h, i, j)
row_written ds rs ns line None None t h i j = tt
row_written ds rs ns line None (Some p) t h i j =
    line_kept IsWrittenSoFar (row_in t) (λ l. certifying (number_wanted l) ds (rs ++ row ns p line ∷ []))
    (λ l. (h, All-push IsWrittenRow rs (row ns p line) i j, tt))

numbers_kept : IsKeptBy IsSmall IsWrittenSoFar
numbers_kept (declaring r) ds rs t q h =
    test_kept IsWrittenSoFar (is_certificate t) (certificate_begins rs (text_ended r.phase ds)) (still_declaring rs (next_reading r.phase ds t))
    (certificate_written rs ds r.phase h.0 h.1) (still_written rs (next_reading r.phase ds t) (declares r.phase ds t q h.0) h.1)
numbers_kept row_wanted ds rs t q h = line_kept IsWrittenSoFar (row_in t) (λ l. certifying (start_wanted l) ds rs) (λ l. (h.0, h.1, tt))
numbers_kept (start_wanted line) ds rs t q h =
    test_kept IsWrittenSoFar (is_start_word t) (Some (certifying (start_read line) ds rs)) None (h.0, h.1, tt) tt
numbers_kept (start_read line) ds rs t q h =
    test_kept IsWrittenSoFar (is_colon_terminal t) (Some (certifying (in_row line [] first_state) ds rs)) None (h.0, h.1, All-nil (λ n. n ≤ largest)) tt
numbers_kept (number_wanted line) ds rs t q h =
    number_kept IsWrittenSoFar (number_in t) (λ n. certifying (numbers_read line (n.value ∷ [])) ds rs)
    (λ n e. (h.0, h.1, All-cons (λ n. n ≤ largest) n.value [] (a_small_number t n e q) (All-nil (λ n. n ≤ largest))))
numbers_kept (numbers_read line ns) ds rs t q h =
    test_kept IsWrittenSoFar (is_colon_terminal t) (Some (certifying (in_row line ns first_state) ds rs))
    (in_option (number_in t) None (λ m. Some (certifying (numbers_read line (ns ++ m.value ∷ [])) ds rs))) (h.0, h.1, h.2)
    (number_kept IsWrittenSoFar (number_in t) (λ m. certifying (numbers_read line (ns ++ m.value ∷ [])) ds rs)
    (λ m e. (h.0, h.1, All-push (λ n. n ≤ largest) ns m.value h.2 (a_small_number t m e q))))
numbers_kept (in_row line ns s) ds rs t q h = row_written ds rs ns line (step s t) (policy_ended s) t h.0 h.1 h.2

-- ---- the start row

-- there is a first row, and it is the start row
abbrev HasStart : List Row → Type 0
HasStart [] = ⊥
HasStart (row ns p line ∷ rs) = ns ≡ []

-- the first row is the start row, also where it is being read
abbrev IsStarted : CertifiedPhase → List Declaration → List Row → Type 0
IsStarted (number_wanted line) ds rs = HasStart rs
IsStarted (numbers_read line ns) ds rs = HasStart rs
IsStarted (in_row line ns s) ds rs = (p : Tree) → HasStart (rs ++ row ns p line ∷ [])
IsStarted p ds rs = rs ≡ []

has_start_with : (rs qs : List Row) → HasStart rs → HasStart (rs ++ qs)
has_start_with [] qs h = absurd h
has_start_with (row ns p line ∷ rs) qs h = h

certificate_started : (rs : List Row) (o : Option (List Declaration)) → rs ≡ [] → OfState IsStarted (certificate_begins rs o)
certificate_started rs None h = tt
certificate_started rs (Some ds) h = h

still_started : (rs : List Row) (o : Option Reading) → rs ≡ [] → OfState IsStarted (still_declaring rs o)
still_started rs None h = tt
still_started rs (Some r) h = h

row_started : (ds : List Declaration) (rs : List Row) (ns : List ℕ) (line : ℕ) (o : Option State) (e : Option Tree) (t : Terminal)
    → ((p : Tree) → HasStart (rs ++ row ns p line ∷ [])) → OfState IsStarted (row_on ds rs ns line o e t)
row_started ds rs ns line (Some s) e t h = h
row_started ds rs ns line None None t h = tt
row_started ds rs ns line None (Some p) t h =
    line_kept IsStarted (row_in t) (λ l. certifying (number_wanted l) ds (rs ++ row ns p line ∷ [])) (λ l. h p)

start_kept : IsKeptBy (λ t. ⊤) IsStarted
start_kept (declaring r) ds rs t q h =
    test_kept IsStarted (is_certificate t) (certificate_begins rs (text_ended r.phase ds)) (still_declaring rs (next_reading r.phase ds t))
    (certificate_started rs (text_ended r.phase ds) h) (still_started rs (next_reading r.phase ds t) h)
start_kept row_wanted ds rs t q h = line_kept IsStarted (row_in t) (λ l. certifying (start_wanted l) ds rs) (λ l. h)
start_kept (start_wanted line) ds rs t q h = test_kept IsStarted (is_start_word t) (Some (certifying (start_read line) ds rs)) None h tt
start_kept (start_read line) ds rs t q h =
    test_kept IsStarted (is_colon_terminal t) (Some (certifying (in_row line [] first_state) ds rs)) None
    (λ p. subst (λ l. HasStart (l ++ row [] p line ∷ [])) (sym h) refl) tt
start_kept (number_wanted line) ds rs t q h =
    number_kept IsStarted (number_in t) (λ n. certifying (numbers_read line (n.value ∷ [])) ds rs) (λ n e. h)
start_kept (numbers_read line ns) ds rs t q h =
    test_kept IsStarted (is_colon_terminal t) (Some (certifying (in_row line ns first_state) ds rs))
    (in_option (number_in t) None (λ m. Some (certifying (numbers_read line (ns ++ m.value ∷ [])) ds rs)))
    (λ p. has_start_with rs (row ns p line ∷ []) h)
    (number_kept IsStarted (number_in t) (λ m. certifying (numbers_read line (ns ++ m.value ∷ [])) ds rs) (λ m e. h))
start_kept (in_row line ns s) ds rs t q h = row_started ds rs ns line (step s t) (policy_ended s) t h

-- what is done begins with the start row
begins_with : (rs : List Row) → HasStart rs → BeginsWithStart rs
begins_with [] h = tt
begins_with (row ns p line ∷ rs) h = h

begins_before : (rs qs : List Row) → HasStart (rs ++ qs) → BeginsWithStart rs
begins_before [] qs h = tt
begins_before (row ns p line ∷ rs) qs h = h

begins_so : (p : CertifiedPhase) (ds : List Declaration) (rs : List Row) → IsStarted p ds rs → BeginsWithStart rs
begins_so (number_wanted line) ds rs h = begins_with rs h
begins_so (numbers_read line ns) ds rs h = begins_with rs h
begins_so (in_row line ns s) ds rs h = begins_before rs (row ns dup line ∷ []) (h dup)
begins_so p ds rs h = subst BeginsWithStart (sym h) tt

-- ---- what is read

any_terminals : (ts : List Terminal) → All (λ t. ⊤) ts
any_terminals ts i d lt = tt

started : (ts : List Token) (ds : List Declaration) (rs : List Row) (p : CertifiedProgress) → IsRead ts ds rs p → BeginsWithStart rs
started ts ds rs p h =
    by p (subst (OfPrefix IsStarted) h (after_all (λ t. ⊤) IsStarted start_kept ts empty_prefix (any_terminals (terminals ts)) refl))
  where
    by : (p : CertifiedProgress) → OfProgress IsStarted p ds rs → BeginsWithStart rs
    by (Going x line) k = begins_so x ds rs k
    by (Stopped e) k = begins_so k.0 ds rs k.1

written : (ts : List Token) (ds : List Declaration) (rs : List Row) (p : CertifiedProgress) → IsRead ts ds rs p
    → All (λ t. t.value ≤ largest) ts → All IsWritten ds × All IsWrittenRow rs
written ts ds rs p h v =
    by p (subst (OfPrefix IsWrittenSoFar) h
    (after_all IsSmall IsWrittenSoFar numbers_kept ts empty_prefix (are_small ts v) (All-nil IsWritten, All-nil IsWrittenRow, tt)))
  where
    by : (p : CertifiedProgress) → OfProgress IsWrittenSoFar p ds rs → All IsWritten ds × All IsWrittenRow rs
    by (Going x line) k = (k.0, k.1)
    by (Stopped e) k = (k.1.0, k.1.1)

pub completes_written : CompletesWritten
completes_written ts ds rs p h = (started ts ds rs p h, λ v. written ts ds rs p h v)

-- the last of a list
pub last_has : {X : Type 0} (P : X → Type 0) (xs : List X) (x : X) → All P (xs ++ x ∷ []) → P x
last_has P [] x h = h 0 x (omega arith)
last_has P (y ∷ xs) x h = last_has P xs x (All-tail P y (xs ++ x ∷ []) h)

-- what one more token completes
pub part_written : (ts : List Token) (ds : List Declaration) (rs : List Row) (p : CertifiedProgress) (o : Option Completed)
    → All (λ t. t.value ≤ largest) ts → IsRead ts (ds ++ declarations_by o) (rs ++ rows_by o) p → IsWrittenPart o
part_written ts ds rs p None v h = tt
part_written ts ds rs p (Some (completed.Declaration d)) v h =
    last_has IsWritten ds (declaration_of d) (written ts (ds ++ declaration_of d ∷ []) (rs ++ []) p h v).0
part_written ts ds rs p (Some (completed.Row r)) v h =
    last_has IsWrittenRow rs (row_value r) (written ts (ds ++ []) (rs ++ row_value r ∷ []) p h v).1
