-- What comes next doesn't hang on the declarations and rows that are done.
use Rattle.std.proofs.Common.{◌≡◌, ℕ, List, [], ◌∷◌, ◌++◌, Bool, true, false, refl, ap, sym, ◌∙◌, append_assoc, append-nil, Option}
use Rattle.std.specs.Prelude.{Some, None, Ok, Err, option_map, if◌then◌else◌, nat_le}
use Rattle.std.specs.declared.result.Result.{Result}
use Rattle.nk_lex.specs.declared.ident.Ident.{Ident}
use Rattle.nk_lex.specs.declared.ident.Number.{Number}
use Rattle.nk_lex.specs.declared.quad.QuadNext.{QuadNext}
use Rattle.nk_lex.specs.declared.quad.QuadNext.TheVariants as next
use Rattle.nk_grammar.specs.declared.decl.PolicyKeyword.{PolicyKeyword}
use Rattle.nk_grammar.specs.declared.decl.LinkKeyword.{LinkKeyword}
use Rattle.nk_grammar.specs.declared.decl.LinkKeyword.TheVariants as links
use Rattle.nk_grammar.specs.declared.decl.Naming.{Naming}
use Rattle.nk_grammar.specs.declared.decl.Naming.TheVariants as naming
use Rattle.nk_grammar.specs.declared.decl.GrammarError.{GrammarError}
use Rattle.nk_grammar.specs.declared.decl.GrammarError.TheVariants as error
use Rattle.nk_grammar.specs.Terminal.{Terminal, outside, field_word, is_equal, is_colon_terminal}
use Rattle.nk_grammar.specs.Tree.{Tree}
use Rattle.nk_grammar.specs.Machine.{State, first_state, step, policy_ended, in_option, number_in, quad_step}
use Rattle.nk_grammar.specs.File.{Declaration, field, tag, switch, declared_link, virtual_link}
use Rattle.nk_grammar.specs.FileMachine.{Phase, between, name_wanted, field_named, switch_read, switch_numbered, port_wanted, port_read, link_read, by_wanted, policy_named, in_policy, Reading, reading, name_in, is_ports, is_by, is_comma, by_name, begin_declaration, one_more, defined, named, link_on, policy_on, next_reading, read_one, text_ended, open_count, judged}
use Rattle.nk_grammar.specs.Certified.{Row, row}
use Rattle.nk_grammar.specs.CertifiedMachine.{CertifiedPhase, declaring, row_wanted, start_wanted, start_read, number_wanted, numbers_read, in_row, Certifying, certifying, is_certificate, is_start_word, row_in, in_line, certificate_begins, still_declaring, row_on, certify_one}
use Rattle.nk_grammar.specs.CertifiedProgress.{with_done, done_declarations}

-- ---- declarations

-- a reading after further declarations
abbrev pub reading_after : List Declaration → Reading → Reading
reading_after ds r = reading r.phase (ds ++ r.declarations)

abbrev DeclaresAfter : List Declaration → Option Reading → Option Reading → Type 0
DeclaresAfter ds a b = a ≡ option_map (reading_after ds) b

by_number : (ds : List Declaration) (o : Option Number) (f g : Number → Reading) → ((n : Number) → f n ≡ reading_after ds (g n))
    → DeclaresAfter ds (in_option o None (λ n. Some (f n))) (in_option o None (λ n. Some (g n)))
by_number ds None f g h = refl
by_number ds (Some n) f g h = ap (λ r. Some r) (h n)

by_its_name : (ds : List Declaration) (o : Option Ident) (f g : Ident → Reading) → ((w : Ident) → f w ≡ reading_after ds (g w))
    → DeclaresAfter ds (by_name o None (λ w. Some (f w))) (by_name o None (λ w. Some (g w)))
by_its_name ds None f g h = refl
by_its_name ds (Some w) f g h = ap (λ r. Some r) (h w)

by_test : (ds : List Declaration) (b : Bool) (a a' c c' : Option Reading) → DeclaresAfter ds a a' → DeclaresAfter ds c c'
    → DeclaresAfter ds (if b then a else c) (if b then a' else c')
by_test ds true a a' c c' h i = h
by_test ds false a a' c c' h i = i

-- one more declaration after all
more : (ds es : List Declaration) (d : Declaration) → one_more (ds ++ es) d ≡ ds ++ one_more es d
more ds es d = append_assoc ds es (d ∷ [])

begun : (ds es : List Declaration) (t : Terminal) → DeclaresAfter ds (begin_declaration (ds ++ es) t) (begin_declaration es t)
begun ds es (outside field_word) = refl
begun ds es t = refl

-- a declaration begins after further declarations and one more
begun_more : (ds es : List Declaration) (d : Declaration) (t : Terminal)
    → DeclaresAfter ds (begin_declaration (one_more (ds ++ es) d) t) (begin_declaration (one_more es d) t)
begun_more ds es d t = ap (λ l. begin_declaration l t) (more ds es d) ∙ begun ds (one_more es d) t

-- a declaration is done
done_after : (ds es : List Declaration) (d : Declaration) → reading between (one_more (ds ++ es) d) ≡ reading_after ds (reading between (one_more es d))
done_after ds es d = ap (λ l. reading between l) (more ds es d)

named_after : (ds es : List Declaration) (k : Naming) (w : Ident) → named k w (ds ++ es) ≡ reading_after ds (named k w es)
named_after ds es naming.Field w = refl
named_after ds es naming.Tag w = done_after ds es (tag w)
named_after ds es (naming.Policy k line) w = refl
named_after ds es (naming.Virtual a m b n) w = done_after ds es (virtual_link a m b n w)

link_after : (ds es : List Declaration) (k : LinkKeyword) (q : QuadNext) → DeclaresAfter ds (link_on k (ds ++ es) q) (link_on k es q)
link_after ds es k next.Refused = refl
link_after ds es k (next.Going q) = refl
link_after ds es links.Link (next.Full a m b n) = ap (λ r. Some r) (done_after ds es (declared_link a m b n))
link_after ds es links.Virtual (next.Full a m b n) = refl

policy : (ds es : List Declaration) (k : PolicyKeyword) (w : Ident) (line : ℕ) (o : Option State) (e : Option Tree) (t : Terminal)
    → DeclaresAfter ds (policy_on k w line (ds ++ es) o e t) (policy_on k w line es o e t)
policy ds es k w line (Some s) e t = refl
policy ds es k w line None None t = refl
policy ds es k w line None (Some p) t = begun_more ds es (defined k w p line) t

-- one more token
pub read_after : (ds es : List Declaration) (p : Phase) (t : Terminal) → DeclaresAfter ds (next_reading p (ds ++ es) t) (next_reading p es t)
read_after ds es between t = begun ds es t
read_after ds es (name_wanted k) t = by_its_name ds (name_in t) (λ w. named k w (ds ++ es)) (λ w. named k w es) (named_after ds es k)
read_after ds es (field_named w) t =
    by_number ds (number_in t) (λ n. reading between (one_more (ds ++ es) (field w n))) (λ n. reading between (one_more es (field w n)))
    (λ n. done_after ds es (field w n))
read_after ds es switch_read t = by_number ds (number_in t) (λ n. reading (switch_numbered n) (ds ++ es)) (λ n. reading (switch_numbered n) es) (λ n. refl)
read_after ds es (switch_numbered n) t =
    by_test ds (is_ports t) (Some (reading (port_wanted n []) (ds ++ es))) (Some (reading (port_wanted n []) es)) None None refl refl
read_after ds es (port_wanted n ps) t =
    by_number ds (number_in t) (λ p. reading (port_read n (ps ++ p ∷ [])) (ds ++ es)) (λ p. reading (port_read n (ps ++ p ∷ [])) es) (λ p. refl)
read_after ds es (port_read n ps) t =
    by_test ds (is_comma t) (Some (reading (port_wanted n ps) (ds ++ es))) (Some (reading (port_wanted n ps) es))
    (begin_declaration (one_more (ds ++ es) (switch n ps)) t) (begin_declaration (one_more es (switch n ps)) t) refl (begun_more ds es (switch n ps) t)
read_after ds es (link_read k q) t = link_after ds es k (quad_step false q t)
read_after ds es (by_wanted a m b n) t =
    by_test ds (is_by t) (Some (reading (name_wanted (naming.Virtual a m b n)) (ds ++ es))) (Some (reading (name_wanted (naming.Virtual a m b n)) es)) None None refl refl
read_after ds es (policy_named k w line) t =
    by_test ds (is_equal t) (Some (reading (in_policy k w line first_state) (ds ++ es))) (Some (reading (in_policy k w line first_state) es)) None None refl refl
read_after ds es (in_policy k w line s) t = policy ds es k w line (step s t) (policy_ended s) t

-- the end
pub ended_after : (ds es : List Declaration) (p : Phase) → text_ended p (ds ++ es) ≡ option_map (λ l. ds ++ l) (text_ended p es)
ended_after ds es (port_read n ps) = ap (λ l. Some l) (more ds es (switch n ps))
ended_after ds es (in_policy k w line s) = by_end (policy_ended s)
  where
    by_end : (o : Option Tree) → option_map (λ p. one_more (ds ++ es) (defined k w p line)) o
        ≡ option_map (λ l. ds ++ l) (option_map (λ p. one_more es (defined k w p line)) o)
    by_end None = refl
    by_end (Some p) = ap (λ l. Some l) (more ds es (defined k w p line))
ended_after ds es p = refl

-- a token is judged alike
pub judged_after : (ds : List Declaration) (at : ℕ) (p p' : Phase) (es : List Declaration) (t : Terminal)
    → judged at (read_one (reading p []) t) ≡ Ok (reading p' es) → judged at (read_one (reading p ds) t) ≡ Ok (reading p' (ds ++ es))
judged_after ds at p p' es t e =
    ap (λ l. judged at (next_reading p l t)) (sym (append-nil ds)) ∙ ap (judged at) (read_after ds [] p t)
    ∙ by_step (next_reading p [] t) e
  where
    same : (r s : Reading) → ◌≡◌ {A = Result Reading GrammarError} (Ok r) (Ok s) → r ≡ s
    same r s e = cc

    refused : {X : Type 0} (f : GrammarError) (s : Reading) → ◌≡◌ {A = Result Reading GrammarError} (Err f) (Ok s) → X
    refused f s e = absurd cc

    by_count : (r : Reading) (b : Bool) → (if b then Ok r else Err (error.TooDeep at)) ≡ Ok (reading p' es)
        → (if b then Ok (reading_after ds r) else Err (error.TooDeep at)) ≡ Ok (reading p' (ds ++ es))
    by_count r true e = ap (λ s. Ok (reading_after ds s)) (same r (reading p' es) e)
    by_count r false e = refused (error.TooDeep at) (reading p' es) e

    by_step : (o : Option Reading) → judged at o ≡ Ok (reading p' es)
        → judged at (option_map (reading_after ds) o) ≡ Ok (reading p' (ds ++ es))
    by_step None e = refused (error.Unexpected at) (reading p' es) e
    by_step (Some r) e = by_count r (nat_le (open_count r) 256) e

-- and refused alike
pub refused_after : (ds : List Declaration) (at : ℕ) (p : Phase) (f : GrammarError) (t : Terminal)
    → judged at (read_one (reading p []) t) ≡ Err f → judged at (read_one (reading p ds) t) ≡ Err f
refused_after ds at p f t e =
    ap (λ l. judged at (next_reading p l t)) (sym (append-nil ds)) ∙ ap (judged at) (read_after ds [] p t)
    ∙ by_step (next_reading p [] t) e
  where
    accepted : {X : Type 0} (s : Reading) → ◌≡◌ {A = Result Reading GrammarError} (Ok s) (Err f) → X
    accepted s e = absurd cc

    by_count : (r : Reading) (b : Bool) → (if b then Ok r else Err (error.TooDeep at)) ≡ Err f
        → (if b then Ok (reading_after ds r) else Err (error.TooDeep at)) ≡ Err f
    by_count r true e = accepted r e
    by_count r false e = retyped (error.TooDeep at) e
      where
        retyped : (g : GrammarError) → ◌≡◌ {A = Result Reading GrammarError} (Err g) (Err f) → ◌≡◌ {A = Result Reading GrammarError} (Err g) (Err f)
        retyped g e = e

    by_step : (o : Option Reading) → judged at o ≡ Err f → judged at (option_map (reading_after ds) o) ≡ Err f
    by_step None e = e
    by_step (Some r) e = by_count r (nat_le (open_count r) 256) e

-- ---- rows

-- the machine's state after further declarations and rows
abbrev pub following : List Declaration → List Row → Certifying → Certifying
following ds rs c = with_done c.phase (ds ++ done_declarations c.phase c.declarations) (rs ++ c.rows)

abbrev IsAfter : List Declaration → List Row → Option Certifying → Option Certifying → Type 0
IsAfter ds rs a b = a ≡ option_map (following ds rs) b

line_following : (ds : List Declaration) (rs : List Row) (o : Option ℕ) (f g : ℕ → Certifying) → ((l : ℕ) → f l ≡ following ds rs (g l))
    → IsAfter ds rs (in_line o None (λ l. Some (f l))) (in_line o None (λ l. Some (g l)))
line_following ds rs None f g h = refl
line_following ds rs (Some l) f g h = ap (λ c. Some c) (h l)

number_after : (ds : List Declaration) (rs : List Row) (o : Option Number) (f g : Number → Certifying) → ((n : Number) → f n ≡ following ds rs (g n))
    → IsAfter ds rs (in_option o None (λ n. Some (f n))) (in_option o None (λ n. Some (g n)))
number_after ds rs None f g h = refl
number_after ds rs (Some n) f g h = ap (λ c. Some c) (h n)

test_after : (ds : List Declaration) (rs : List Row) (b : Bool) (a a' c c' : Option Certifying) → IsAfter ds rs a a' → IsAfter ds rs c c'
    → IsAfter ds rs (if b then a else c) (if b then a' else c')
test_after ds rs true a a' c c' h i = h
test_after ds rs false a a' c c' h i = i

row_after : (ds es : List Declaration) (rs qs : List Row) (ns : List ℕ) (line : ℕ) (o : Option State) (e : Option Tree) (t : Terminal)
    → IsAfter ds rs (row_on (ds ++ es) (rs ++ qs) ns line o e t) (row_on es qs ns line o e t)
row_after ds es rs qs ns line (Some s) e t = refl
row_after ds es rs qs ns line None None t = refl
row_after ds es rs qs ns line None (Some p) t =
    line_following ds rs (row_in t) (λ l. certifying (number_wanted l) (ds ++ es) ((rs ++ qs) ++ row ns p line ∷ []))
    (λ l. certifying (number_wanted l) es (qs ++ row ns p line ∷ []))
    (λ l. ap (λ x. certifying (number_wanted l) (ds ++ es) x) (append_assoc rs qs (row ns p line ∷ [])))

certificate_after : (ds : List Declaration) (rs qs : List Row) (o : Option (List Declaration))
    → IsAfter ds rs (certificate_begins (rs ++ qs) (option_map (λ l. ds ++ l) o)) (certificate_begins qs o)
certificate_after ds rs qs None = refl
certificate_after ds rs qs (Some l) = refl

still_after : (ds : List Declaration) (rs qs : List Row) (o : Option Reading)
    → IsAfter ds rs (still_declaring (rs ++ qs) (option_map (reading_after ds) o)) (still_declaring qs o)
still_after ds rs qs None = refl
still_after ds rs qs (Some r) = refl

-- one more token
pub certify_after : (ds es : List Declaration) (rs qs : List Row) (p : CertifiedPhase) (t : Terminal)
    → IsAfter ds rs (certify_one (with_done p (ds ++ es) (rs ++ qs)) t) (certify_one (with_done p es qs) t)
certify_after ds es rs qs (declaring r) t =
    test_after ds rs (is_certificate t)
    (certificate_begins (rs ++ qs) (text_ended r.phase (ds ++ es))) (certificate_begins qs (text_ended r.phase es))
    (still_declaring (rs ++ qs) (next_reading r.phase (ds ++ es) t)) (still_declaring qs (next_reading r.phase es t))
    (ap (certificate_begins (rs ++ qs)) (ended_after ds es r.phase) ∙ certificate_after ds rs qs (text_ended r.phase es))
    (ap (still_declaring (rs ++ qs)) (read_after ds es r.phase t) ∙ still_after ds rs qs (next_reading r.phase es t))
certify_after ds es rs qs row_wanted t =
    line_following ds rs (row_in t) (λ l. certifying (start_wanted l) (ds ++ es) (rs ++ qs)) (λ l. certifying (start_wanted l) es qs) (λ l. refl)
certify_after ds es rs qs (start_wanted line) t =
    test_after ds rs (is_start_word t) (Some (certifying (start_read line) (ds ++ es) (rs ++ qs))) (Some (certifying (start_read line) es qs)) None None refl refl
certify_after ds es rs qs (start_read line) t =
    test_after ds rs (is_colon_terminal t) (Some (certifying (in_row line [] first_state) (ds ++ es) (rs ++ qs))) (Some (certifying (in_row line [] first_state) es qs)) None None refl refl
certify_after ds es rs qs (number_wanted line) t =
    number_after ds rs (number_in t) (λ n. certifying (numbers_read line (n.value ∷ [])) (ds ++ es) (rs ++ qs))
    (λ n. certifying (numbers_read line (n.value ∷ [])) es qs) (λ n. refl)
certify_after ds es rs qs (numbers_read line ns) t =
    test_after ds rs (is_colon_terminal t) (Some (certifying (in_row line ns first_state) (ds ++ es) (rs ++ qs))) (Some (certifying (in_row line ns first_state) es qs))
    (in_option (number_in t) None (λ m. Some (certifying (numbers_read line (ns ++ m.value ∷ [])) (ds ++ es) (rs ++ qs))))
    (in_option (number_in t) None (λ m. Some (certifying (numbers_read line (ns ++ m.value ∷ [])) es qs))) refl
    (number_after ds rs (number_in t) (λ m. certifying (numbers_read line (ns ++ m.value ∷ [])) (ds ++ es) (rs ++ qs))
    (λ m. certifying (numbers_read line (ns ++ m.value ∷ [])) es qs) (λ m. refl))
certify_after ds es rs qs (in_row line ns s) t = row_after ds es rs qs ns line (step s t) (policy_ended s) t
