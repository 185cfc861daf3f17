-- Declarations are complete before rows: where a token completes a declaration, there is no row so far.
use Rattle.std.proofs.Common.{◌≡◌, ◌⊎◌, ℕ, Bool, true, false, cond, Option, Some, None, Ok, Err, inl, inr, List, [], ◌∷◌, ◌++◌, refl, sym, ap, subst, ◌∙◌}
use Rattle.std.specs.Prelude.{⊤, fold, nat_le}
use Rattle.std.proofs.lemmas.List.Sums.{fold-append}
use Rattle.nk_lex.specs.declared.token.Token.{Token}
use Rattle.nk_lex.specs.declared.ident.Number.{Number}
use Rattle.nk_grammar.specs.declared.decl.GrammarError.TheVariants as error
use Rattle.nk_grammar.specs.Terminal.{Terminal, terminal_of}
use Rattle.nk_grammar.specs.Tree.{Tree}
use Rattle.nk_grammar.specs.Machine.{State, step, policy_ended, number_in, in_option}
use Rattle.nk_grammar.specs.File.{Declaration}
use Rattle.nk_grammar.specs.FileMachine.{Reading, reading, read_one, declarations_at_end}
use Rattle.nk_grammar.specs.Certified.{Row}
use Rattle.nk_grammar.specs.CertifiedMachine.{CertifiedPhase, declaring, row_wanted, start_wanted, start_read, number_wanted, numbers_read, in_row, Certifying, is_certificate, is_start_word, row_in, in_line, certificate_begins, still_declaring, row_on, next_certifying, open_certified, judged_certified}
use Rattle.nk_grammar.specs.Terminal.{is_colon_terminal}
use Rattle.nk_grammar.specs.CertifiedProgress.{CertifiedProgress, Going, Stopped, bare, done_declarations, ParsedPrefix, parsed_prefix, empty_prefix, prefix_judged, prefix_after, IsRead}

-- the certificate has begun
abbrev IsAfter : CertifiedPhase → Type 0
IsAfter (declaring r) = ⊥
IsAfter p = ⊤

-- before it there is no row
abbrev HasNoRow : CertifiedPhase → List Row → Type 0
HasNoRow (declaring r) rs = rs ≡ []
HasNoRow p rs = ⊤

abbrev AreAfter : CertifiedProgress → List Row → Type 0
AreAfter (Going p line) rs = HasNoRow p rs
AreAfter (Stopped e) rs = ⊤

abbrev IsOrdered : ParsedPrefix → Type 0
IsOrdered s = AreAfter s.progress s.rows

-- a state after the word `certificate` has these declarations
abbrev Keeps : List Declaration → Option Certifying → Type 0
Keeps ds None = ⊤
Keeps ds (Some c) = IsAfter c.phase × (c.declarations ≡ ds)

abbrev HaveNoRow : Option Certifying → Type 0
HaveNoRow None = ⊤
HaveNoRow (Some c) = HasNoRow c.phase c.rows

module _ (ds : List Declaration) where
  on_test : (b : Bool) (x y : Option Certifying) → Keeps ds x → Keeps ds y → Keeps ds (cond b x y)
  on_test true x y h k = h
  on_test false x y h k = k

  on_line : (o : Option ℕ) (f : ℕ → Option Certifying) → ((l : ℕ) → Keeps ds (f l)) → Keeps ds (in_line o None f)
  on_line None f h = tt
  on_line (Some l) f h = h l

  on_number : (o : Option Number) (f : Number → Option Certifying) → ((n : Number) → Keeps ds (f n)) → Keeps ds (in_option o None f)
  on_number None f h = tt
  on_number (Some n) f h = h n

  on_row : (rs : List Row) (ns : List ℕ) (line : ℕ) (o : Option State) (e : Option Tree) (t : Terminal) → Keeps ds (row_on ds rs ns line o e t)
  on_row rs ns line (Some s) e t = (tt, refl)
  on_row rs ns line None None t = tt
  on_row rs ns line None (Some p) t = on_line (row_in t) _ (λ l. (tt, refl))

  -- one more token after the word `certificate`
  next_keeps : (p : CertifiedPhase) (rs : List Row) (t : Terminal) → IsAfter p → Keeps ds (next_certifying p ds rs t)
  next_keeps (declaring r) rs t b = absurd b
  next_keeps row_wanted rs t b = on_line (row_in t) _ (λ l. (tt, refl))
  next_keeps (start_wanted line) rs t b = on_test (is_start_word t) _ None (tt, refl) tt
  next_keeps (start_read line) rs t b = on_test (is_colon_terminal t) _ None (tt, refl) tt
  next_keeps (number_wanted line) rs t b = on_number (number_in t) _ (λ n. (tt, refl))
  next_keeps (numbers_read line ns) rs t b = on_test (is_colon_terminal t) _ _ (tt, refl) (on_number (number_in t) _ (λ n. (tt, refl)))
  next_keeps (in_row line ns s) rs t b = on_row rs ns line (step s t) (policy_ended s) t

-- one more token of the declarations
next_declaring : (r : Reading) (rs : List Row) (t : Terminal) → rs ≡ [] → HaveNoRow (next_certifying (declaring r) [] rs t)
next_declaring r rs t h = by (is_certificate t)
  where
    begins : (o : Option (List Declaration)) → HaveNoRow (certificate_begins rs o)
    begins None = tt
    begins (Some ds) = tt

    still : (o : Option Reading) → HaveNoRow (still_declaring rs o)
    still None = tt
    still (Some q) = h

    by : (b : Bool) → HaveNoRow (cond b (certificate_begins rs (declarations_at_end r)) (still_declaring rs (read_one r t)))
    by true = begins (declarations_at_end r)
    by false = still (read_one r t)

after_no_row : (p : CertifiedPhase) (rs : List Row) → IsAfter p → HasNoRow p rs
after_no_row (declaring r) rs b = absurd b
after_no_row p rs b = tt

bare_no_row : (p : CertifiedPhase) (rs : List Row) → HasNoRow p rs → HasNoRow (bare p) rs
bare_no_row (declaring r) rs h = h
bare_no_row p rs h = tt

done_after : (p : CertifiedPhase) (ds : List Declaration) → IsAfter p → done_declarations p ds ≡ ds
done_after (declaring r) ds b = absurd b
done_after p ds b = refl

-- the state that a token leads to
judged_ordered : (o : Option Certifying) (s : ParsedPrefix) (line : ℕ) → HaveNoRow o → IsOrdered (prefix_judged (judged_certified line o) s line)
judged_ordered None s line h = tt
judged_ordered (Some c) s line h = by (nat_le (open_certified c) 256)
  where
    by : (b : Bool) → IsOrdered (prefix_judged (cond b (Ok c) (Err (error.TooDeep line))) s line)
    by true = bare_no_row c.phase c.rows h
    by false = tt

judged_keeps : (ds : List Declaration) (o : Option Certifying) (s : ParsedPrefix) (line : ℕ) → s.declarations ≡ ds → Keeps ds o
    → (prefix_judged (judged_certified line o) s line).declarations ≡ ds
judged_keeps ds None s line is h = is
judged_keeps ds (Some c) s line is h = by (nat_le (open_certified c) 256)
  where
    by : (b : Bool) → (prefix_judged (cond b (Ok c) (Err (error.TooDeep line))) s line).declarations ≡ ds
    by true = done_after c.phase c.declarations h.0 ∙ h.1
    by false = is

keeps_no_row : (ds : List Declaration) (o : Option Certifying) → Keeps ds o → HaveNoRow o
keeps_no_row ds None h = tt
keeps_no_row ds (Some c) h = after_no_row c.phase c.rows h.0

-- what a token changes: there is no row so far, or the declarations stay
abbrev IsOrderedOn : List Declaration → List Row → ParsedPrefix → Type 0
IsOrderedOn ds rs s = IsOrdered s × ((rs ≡ []) ⊎ (s.declarations ≡ ds))

after_ordered : (p : CertifiedPhase) (line : ℕ) (ds : List Declaration) (rs : List Row) (t : Token) → IsAfter p
    → IsOrderedOn ds rs (prefix_judged (judged_certified t.line (next_certifying p ds rs (terminal_of t))) (parsed_prefix (Going p line) ds rs) t.line)
after_ordered p line ds rs t b =
    let o = next_certifying p ds rs (terminal_of t) in
    let keeps : Keeps ds o = next_keeps ds p rs (terminal_of t) b in (
      judged_ordered o (parsed_prefix (Going p line) ds rs) t.line (keeps_no_row ds o keeps),
      inr (judged_keeps ds o (parsed_prefix (Going p line) ds rs) t.line refl keeps),
    )

one_ordered : (p : CertifiedProgress) (ds : List Declaration) (rs : List Row) (t : Token) → AreAfter p rs
    → IsOrderedOn ds rs (prefix_after (parsed_prefix p ds rs) t)
one_ordered (Stopped e) ds rs t h = (tt, inr refl)
one_ordered (Going (declaring r) line) ds rs t h = (
  judged_ordered _ (parsed_prefix (Going (declaring r) line) ds rs) t.line (next_declaring (reading r.phase ds) rs (terminal_of t) h),
  inl h,
)
one_ordered (Going row_wanted line) ds rs t h = after_ordered row_wanted line ds rs t tt
one_ordered (Going (start_wanted l) line) ds rs t h = after_ordered (start_wanted l) line ds rs t tt
one_ordered (Going (start_read l) line) ds rs t h = after_ordered (start_read l) line ds rs t tt
one_ordered (Going (number_wanted l) line) ds rs t h = after_ordered (number_wanted l) line ds rs t tt
one_ordered (Going (numbers_read l ns) line) ds rs t h = after_ordered (numbers_read l ns) line ds rs t tt
one_ordered (Going (in_row l ns s) line) ds rs t h = after_ordered (in_row l ns s) line ds rs t tt

all_ordered : (ts : List Token) (s : ParsedPrefix) → IsOrdered s → IsOrdered (fold prefix_after s ts)
all_ordered [] s h = h
all_ordered (t ∷ ts) s h = all_ordered ts (prefix_after s t) (one_ordered s.progress s.declarations s.rows t h).0

-- one more token of a text
pub one_read : (ts : List Token) (t : Token) (ds es : List Declaration) (rs qs : List Row) (p q : CertifiedProgress)
    → IsRead ts ds rs p → IsRead (ts ++ t ∷ []) es qs q → prefix_after (parsed_prefix p ds rs) t ≡ parsed_prefix q es qs
one_read ts t ds es rs qs p q h k =
    ap (λ s. prefix_after s t) (sym h) ∙ sym (fold-append prefix_after empty_prefix ts (t ∷ [])) ∙ k

pub declared_first : (ts : List Token) (t : Token) (ds es : List Declaration) (rs qs : List Row) (p q : CertifiedProgress)
    → IsRead ts ds rs p → IsRead (ts ++ t ∷ []) es qs q → (rs ≡ []) ⊎ (es ≡ ds)
declared_first ts t ds es rs qs p q h k =
    let before : IsOrdered (parsed_prefix p ds rs) = subst IsOrdered h (all_ordered ts empty_prefix refl) in
    by (one_ordered p ds rs t before).1
  where
    by : (rs ≡ []) ⊎ ((prefix_after (parsed_prefix p ds rs) t).declarations ≡ ds) → (rs ≡ []) ⊎ (es ≡ ds)
    by (inl e) = inl e
    by (inr e) = inr (sym (ap (λ (s : ParsedPrefix). s.declarations) (one_read ts t ds es rs qs p q h k)) ∙ e)
