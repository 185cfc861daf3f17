-- Machines that take tokens one by one: what they make of all tokens of a text.
use Rattle.std.proofs.Common.{◌≡◌, ◌≤◌, ◌<◌, ℕ, subst, List, [], ◌∷◌, ◌++◌, Bool, true, false, refl, sym, ◌∙◌, ap, append_assoc, append-nil, Option, arith, inl, inr, ◌⊎◌, ⊎_elim}
use Rattle.std.specs.Prelude.{Some, None, Ok, Err, option_and_then, if◌then◌else◌, nat_le}
use Rattle.std.specs.declared.result.Result.{Result}
use Rattle.std.proofs.lemmas.Bool.Decides.{nat_tests}
use Rattle.nk_lex.specs.declared.token.Token.{Token}
use Rattle.nk_lex.specs.Spans.{last_line}
use Rattle.nk_lex.specs.Faults.{and_then}
use Rattle.nk_grammar.specs.declared.decl.GrammarError.{GrammarError}
use Rattle.nk_grammar.specs.declared.decl.GrammarError.TheVariants as error
use Rattle.nk_grammar.specs.Terminal.{Terminal, terminal_of}
use Rattle.nk_grammar.specs.Answer.{terminals}
use Rattle.nk_grammar.proofs.Fronts.{some_same}

-- one more token, all tokens of a list, the state before the first token, and how many parentheses and `~` are open
pub record Machine (S : Type 0) : Type 0 where
  pub one : S → Terminal → Option S
  pub all : List Terminal → S → Option S
  pub first : S
  pub open_in : S → ℕ
  pub of_none : (s : S) → all [] s ≡ Some s
  pub of_more : (t : Terminal) (ts : List Terminal) (s : S) → all (t ∷ ts) s ≡ option_and_then (all ts) (one s t)
  pub none_open : open_in first ≡ 0

module _ {S : Type 0} (m : Machine S) where
  -- after these tokens more than 256 are open
  abbrev pub IsTooDeepIn : List Terminal → Type 0
  IsTooDeepIn ts = (r : S) × (m.all ts m.first ≡ Some r) × (256 < m.open_in r)

  -- after no front of these tokens more than 256 are open
  abbrev pub IsShallowIn : List Terminal → Type 0
  IsShallowIn ts = (xs ys : List Terminal) → ts ≡ xs ++ ys → IsTooDeepIn xs → ⊥

-- what a machine answers of the tokens that are left
pub record Answers {S : Type 0} (m : Machine S) (D : Type 0) : Type 0 where
  pub rest : List Token → S → ℕ → Result D GrammarError
  pub judged : ℕ → Option S → Result S GrammarError
  pub refused : (line : ℕ) → judged line None ≡ Err (error.Unexpected line)
  pub taken : (line : ℕ) (s : S) → judged line (Some s) ≡ (if nat_le (m.open_in s) 256 then Ok s else Err (error.TooDeep line))
  pub more : (t : Token) (ts : List Token) (s : S) (line : ℕ)
      → rest (t ∷ ts) s line ≡ and_then (judged t.line (m.one s (terminal_of t))) (λ s. rest ts s t.line)

-- a token of a text, where the tokens before it are taken
pub record TokenAt {S : Type 0} (m : Machine S) (ts : List Token) : Type 0 where
  pub before : List Token
  pub token : Token
  pub rest : List Token
  pub parts : ts ≡ before ++ token ∷ rest
  pub state : S
  pub taken : m.all (terminals before) m.first ≡ Some state
  pub shallow : IsShallowIn m (terminals before)

-- the terminals of one more token
pub terminals_more : (xs : List Token) (t : Token) → terminals (xs ++ t ∷ []) ≡ terminals xs ++ terminal_of t ∷ []
terminals_more [] t = refl
terminals_more (x ∷ xs) t = ap (λ l. terminal_of x ∷ l) (terminals_more xs t)

-- the last token's line
last_more : (line : ℕ) (xs : List Token) (t : Token) → last_line line (xs ++ t ∷ []) ≡ t.line
last_more line [] t = refl
last_more line (x ∷ xs) t = last_more x.line xs t

-- a front of tokens and one more is all of them, or a front of the tokens
fronts_of_more : (us xs ys : List Terminal) (t : Terminal) → us ++ t ∷ [] ≡ xs ++ ys
    → (us ++ t ∷ [] ≡ xs) ⊎ ((zs : List Terminal) × (us ≡ xs ++ zs))
fronts_of_more us [] ys t e = inr (us, refl)
fronts_of_more [] (x ∷ []) ys t e = inl (one ys e)
  where
    one : (ys : List Terminal) → t ∷ [] ≡ x ∷ ys → t ∷ [] ≡ x ∷ []
    one ys e = cc
fronts_of_more [] (x ∷ (z ∷ xs)) ys t e = absurd (none e)
  where
    none : t ∷ [] ≡ x ∷ (z ∷ (xs ++ ys)) → ⊥
    none e = cc
fronts_of_more (u ∷ us) (x ∷ xs) ys t e = ⊎_elim (λ f. inl (both f)) (λ f. inr (f.0, both_rest f.0 f.1)) (fronts_of_more us xs ys t (tails e))
  where
    tails : u ∷ (us ++ t ∷ []) ≡ x ∷ (xs ++ ys) → us ++ t ∷ [] ≡ xs ++ ys
    tails e = cc

    heads : u ∷ (us ++ t ∷ []) ≡ x ∷ (xs ++ ys) → u ≡ x
    heads e = cc

    both : us ++ t ∷ [] ≡ xs → u ∷ (us ++ t ∷ []) ≡ x ∷ xs
    both f = ap (λ y. y ∷ (us ++ t ∷ [])) (heads e) ∙ ap (λ l. x ∷ l) f

    both_rest : (zs : List Terminal) → us ≡ xs ++ zs → u ∷ us ≡ x ∷ (xs ++ zs)
    both_rest zs f = ap (λ y. y ∷ us) (heads e) ∙ ap (λ l. x ∷ l) f

-- the test of the limit, where it passes
pub within : (n : ℕ) → nat_le n 256 ≡ true → n ≤ 256
within n e = grind (arith, nat_tests)

-- the test of the limit, where it fails
pub beyond : (n : ℕ) → nat_le n 256 ≡ false → 256 < n
beyond n e = grind (arith, nat_tests)

module _ {S : Type 0} (m : Machine S) where
  -- tokens in two parts
  pub all_append : (xs ys : List Terminal) (s : S) → m.all (xs ++ ys) s ≡ option_and_then (m.all ys) (m.all xs s)
  all_append [] ys s = sym (ap (option_and_then (m.all ys)) (m.of_none s))
  all_append (x ∷ xs) ys s = m.of_more x (xs ++ ys) s ∙ by_step (m.one s x) (all_append xs ys) ∙ sym (ap (option_and_then (m.all ys)) (m.of_more x xs s))
    where
      by_step : (o : Option S) → ((s : S) → m.all (xs ++ ys) s ≡ option_and_then (m.all ys) (m.all xs s))
          → option_and_then (m.all (xs ++ ys)) o ≡ option_and_then (m.all ys) (option_and_then (m.all xs) o)
      by_step None go = refl
      by_step (Some s) go = go s

  -- the state after one more token
  pub all_more : (ts : List Terminal) (t : Terminal) (s : S) → m.all ts m.first ≡ Some s → m.all (ts ++ t ∷ []) m.first ≡ m.one s t
  all_more ts t s e =
      all_append ts (t ∷ []) m.first ∙ ap (option_and_then (m.all (t ∷ []))) e ∙ m.of_more t [] s ∙ alone (m.one s t)
    where
      alone : (o : Option S) → option_and_then (m.all []) o ≡ o
      alone None = refl
      alone (Some s) = m.of_none s

  -- a token that leaves no more than 256 open
  pub shallow_more : (us : List Terminal) (t : Terminal) (r : S) → IsShallowIn m us
      → m.all (us ++ t ∷ []) m.first ≡ Some r → m.open_in r ≤ 256 → IsShallowIn m (us ++ t ∷ [])
  shallow_more us t r old e le = λ xs ys f deep.
      ⊎_elim (λ g. not_deep (some_same r deep.0 (sym e ∙ ap (λ l. m.all l m.first) g ∙ deep.1)) deep.2) (λ g. old xs g.0 g.1 deep) (fronts_of_more us xs ys t f)
    where
      not_deep : {s : S} → r ≡ s → 256 < m.open_in s → ⊥
      not_deep g lt = omega (arith, le, lt, ap m.open_in g)

  -- nothing is open before the first token
  pub shallow_first : IsShallowIn m []
  shallow_first [] ys e deep = omega (arith, deep.2, m.none_open, ap m.open_in (some_same m.first deep.0 (sym (m.of_none m.first) ∙ deep.1)))
  shallow_first (x ∷ xs) ys e deep = nothing e
    where
      nothing : [] ≡ x ∷ (xs ++ ys) → ⊥
      nothing e = cc

-- an answer of all tokens, of the first that is refused, and of the first that opens too much is one of each text
module _ {S D : Type 0} (m : Machine S) (a : Answers m D) (P : List Token → Result D GrammarError → Type 0)
    (whole : (ts : List Token) (r : S) → m.all (terminals ts) m.first ≡ Some r → IsShallowIn m (terminals ts) → P ts (a.rest [] r (last_line 1 ts)))
    (unexpected : (ts : List Token) (at : TokenAt m ts) → m.all (terminals (at.before ++ at.token ∷ [])) m.first ≡ None → P ts (Err (error.Unexpected at.token.line)))
    (too_deep : (ts : List Token) (at : TokenAt m ts) (r : S) → m.all (terminals (at.before ++ at.token ∷ [])) m.first ≡ Some r
    → 256 < m.open_in r → P ts (Err (error.TooDeep at.token.line))) where
  -- the tokens that are left, after tokens that were read
  rest_answers : (ts rest before : List Token) (r : S) → ts ≡ before ++ rest
      → m.all (terminals before) m.first ≡ Some r → IsShallowIn m (terminals before) → P ts (a.rest rest r (last_line 1 before))
  rest_answers ts [] before r parts read shallow =
      subst (λ xs. P xs (a.rest [] r (last_line 1 before))) (sym (parts ∙ append-nil before)) (whole before r read shallow)
  rest_answers ts (t ∷ rest) before r parts read shallow =
      subst (P ts) (sym (a.more t rest r (last_line 1 before)))
      (by_step (m.one r (terminal_of t)) refl (λ s more deep. rest_answers ts rest (before ++ t ∷ []) s (parts ∙ sym (append_assoc before (t ∷ []) rest)) more deep))
    where
      at : TokenAt m ts
      at = record { before = before; token = t; rest = rest; parts = parts; state = r; taken = read; shallow = shallow }

      next : (o : Option S) → m.one r (terminal_of t) ≡ o → m.all (terminals (before ++ t ∷ [])) m.first ≡ o
      next o e = ap (λ l. m.all l m.first) (terminals_more before t) ∙ all_more m (terminals before) (terminal_of t) r read ∙ e

      by_step : (o : Option S) → m.one r (terminal_of t) ≡ o
          → ((s : S) → m.all (terminals (before ++ t ∷ [])) m.first ≡ Some s → IsShallowIn m (terminals (before ++ t ∷ []))
          → P ts (a.rest rest s (last_line 1 (before ++ t ∷ []))))
          → P ts (and_then (a.judged t.line o) (λ s. a.rest rest s t.line))
      by_step None e go =
          subst (λ x. P ts (and_then x (λ s. a.rest rest s t.line))) (sym (a.refused t.line)) (unexpected ts at (next None e))
      by_step (Some s) e go =
          subst (λ x. P ts (and_then x (λ s. a.rest rest s t.line))) (sym (a.taken t.line s)) (by_count (nat_le (m.open_in s) 256) refl)
        where
          by_count : (b : Bool) → nat_le (m.open_in s) 256 ≡ b
              → P ts (and_then (if b then Ok s else Err (error.TooDeep t.line)) (λ s. a.rest rest s t.line))
          by_count true f =
              subst (λ line. P ts (a.rest rest s line)) (last_more 1 before t)
              (go s (next (Some s) e) (subst (IsShallowIn m) (sym (terminals_more before t))
              (shallow_more m (terminals before) (terminal_of t) s shallow (all_more m (terminals before) (terminal_of t) r read ∙ e) (within (m.open_in s) f))))
          by_count false f = too_deep ts at s (next (Some s) e) (beyond (m.open_in s) f)

  -- what is answered of all tokens
  pub all_answers : (ts : List Token) → P ts (a.rest ts m.first 1)
  all_answers ts = rest_answers ts ts [] m.first refl (m.of_none m.first) (shallow_first m)
