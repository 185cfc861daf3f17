-- The two instances.
use Rattle.std.proofs.Common.{◌≡◌, ◌≤◌, ◌+◌, ℕ, zero, suc, List, [], ◌∷◌, ◌++◌, length, refl, sym, subst, ◌∙◌, ap, append_assoc, append-nil, arith}
use Rattle.std.specs.Prelude.{Ok, Err, All, codes}
use Rattle.std.proofs.lemmas.List.Elements.{All-nil, All-cons, All-head, All-tail}
use Rattle.nk_lex.specs.declared.kind.Kind.TheVariants as kind
use Rattle.nk_lex.specs.declared.token.Token.{Token}
use Rattle.nk_lex.specs.declared.ident.Ident.{Ident}
use Rattle.nk_grammar.specs.declared.decl.GrammarError.TheVariants as error
use Rattle.nk_grammar.specs.Terminal.{Terminal, closing}
use Rattle.nk_grammar.specs.Tree.{no_part, seq_of}
use Rattle.nk_grammar.specs.Grammar.{Pol, one_term, one_factor, plain, written_id, paren, spell_pol, pol_tree}
use Rattle.nk_grammar.specs.File.{Written, written_let, definition}
use Rattle.nk_grammar.specs.FileMachine.{file_of}
use Rattle.nk_grammar.specs.Answer.{terminals}
use Rattle.nk_nesting.specs.Counts.{open_in_pol, open_in_file}
use Rattle.nk_nesting.specs.Limit.{IsFirstAbove}
use Rattle.nk_nesting.specs.Instances.{token_on, before_policy, openings, closings, ShowsLimit}
use Rattle.nk_nesting.proofs.Limits.{reads_within, refuses_257th}

-- `id` in so many parentheses
abbrev nested : ℕ → Pol
nested zero = one_term (one_factor (plain written_id))
nested (suc n) = one_term (one_factor (plain (paren (nested n))))

-- `p`, on line 1
abbrev the_name : Ident
the_name = record { text = codes "p"; line = 1 }

-- the text of one `let`
abbrev the_text : ℕ → List Written
the_text n = written_let 1 the_name (nested n) ∷ []

-- one parenthesis more in front of others, or after them
one_closing : (line n : ℕ) (r : List Token)
    → (token_on line kind.CloseParen [] ∷ closings line n) ++ r ≡ closings line n ++ token_on line kind.CloseParen [] ∷ r
one_closing line zero r = refl
one_closing line (suc n) r = ap (λ l. token_on line kind.CloseParen [] ∷ l) (one_closing line n r)

-- the tokens are those of the policy
spelled : (n line at : ℕ) (x : Token) (r : List Token) → terminals (x ∷ []) ≡ spell_pol (nested zero)
    → terminals (openings line n ++ x ∷ (closings at n ++ r)) ≡ spell_pol (nested n) ++ terminals r
spelled zero line at x r e = ap (λ l. l ++ terminals r) e
spelled (suc n) line at x r e =
    ap (λ l. terminals (token_on line kind.OpenParen [] ∷ (openings (suc line) n ++ x ∷ l))) (one_closing at n r)
    ∙ ap (λ l. terminals (token_on line kind.OpenParen [] ∷ []) ++ l) (spelled n (suc line) at x (token_on at kind.CloseParen [] ∷ r) e ∙ sym (append_assoc (spell_pol (nested n)) (closing ∷ []) (terminals r)))

-- parentheses leave no trace
no_trace : (n : ℕ) → pol_tree (nested n) ≡ seq_of no_part
no_trace zero = refl
no_trace (suc n) = no_trace n

-- three counts before others
three_zeros : (ks : List ℕ) → All (λ k. k ≤ 256) ks → All (λ k. k ≤ 256) (0 ∷ 0 ∷ 0 ∷ ks)
three_zeros ks few =
    All-cons (λ k. k ≤ 256) 0 (0 ∷ 0 ∷ ks) (omega arith) (All-cons (λ k. k ≤ 256) 0 (0 ∷ ks) (omega arith) (All-cons (λ k. k ≤ 256) 0 ks (omega arith) few))

-- one more after a list
all_with : (ks : List ℕ) (k : ℕ) → All (λ k. k ≤ 256) ks → k ≤ 256 → All (λ k. k ≤ 256) (ks ++ k ∷ [])
all_with [] k few le = All-cons (λ k. k ≤ 256) k [] le (All-nil (λ k. k ≤ 256))
all_with (j ∷ ks) k few le =
    All-cons (λ k. k ≤ 256) j (ks ++ k ∷ []) (All-head (λ k. k ≤ 256) j ks few) (all_with ks k (All-tail (λ k. k ≤ 256) j ks few) le)

-- the counts of so few parentheses
few_open : (n d : ℕ) → d + n ≤ 256 → All (λ k. k ≤ 256) (open_in_pol d (nested n))
few_open zero d le = All-cons (λ k. k ≤ 256) d [] (omega (arith, le)) (All-nil (λ k. k ≤ 256))
few_open (suc n) d le =
    All-cons (λ k. k ≤ 256) (suc d) (open_in_pol (suc d) (nested n) ++ d ∷ []) (omega (arith, le))
    (all_with (open_in_pol (suc d) (nested n)) d (few_open n (suc d) (omega (arith, le))) (omega (arith, le)))

-- so few are read
read_few : (n : ℕ) → n ≤ 256
    → file_of (before_policy ++ openings 2 n ++ token_on 258 kind.Id (codes "id") ∷ closings 258 n)
    ≡ Ok (definition the_name (seq_of no_part) 1 ∷ [])
read_few n le =
    reads_within (before_policy ++ openings 2 n ++ token_on 258 kind.Id (codes "id") ∷ closings 258 n) (the_text n) same
    (subst (All (λ k. k ≤ 256)) (sym (append-nil (0 ∷ 0 ∷ 0 ∷ open_in_pol 0 (nested n)))) all)
    ∙ ap (λ t. Ok (definition the_name t 1 ∷ [])) (no_trace n)
  where
    all : All (λ k. k ≤ 256) (0 ∷ 0 ∷ 0 ∷ open_in_pol 0 (nested n))
    all = three_zeros (open_in_pol 0 (nested n)) (few_open n 0 (omega (arith, le)))

    same : terminals (before_policy ++ openings 2 n ++ token_on 258 kind.Id (codes "id") ∷ closings 258 n)
        ≡ terminals before_policy ++ spell_pol (nested n) ++ []
    same =
        ap (λ l. terminals (before_policy ++ openings 2 n ++ token_on 258 kind.Id (codes "id") ∷ l)) (sym (append-nil (closings 258 n)))
        ∙ ap (λ l. terminals before_policy ++ l) (spelled n 2 258 (token_on 258 kind.Id (codes "id")) [] refl)

-- the counts that go up
abbrev ups : ℕ → ℕ → List ℕ
ups d zero = []
ups d (suc n) = suc d ∷ ups (suc d) n

-- so many counts
ups_length : (d n line : ℕ) → length (ups d n) ≡ length (openings line n)
ups_length d zero line = refl
ups_length d (suc n) line = ap suc (ups_length (suc d) n (suc line))

-- each is few
ups_few : (d n : ℕ) → d + n ≤ 256 → All (λ k. k ≤ 256) (ups d n)
ups_few d zero le = All-nil (λ k. k ≤ 256)
ups_few d (suc n) le = All-cons (λ k. k ≤ 256) (suc d) (ups (suc d) n) (omega (arith, le)) (ups_few (suc d) n (omega (arith, le)))

-- the counts of so many parentheses, and of one more
goes_up : (n d : ℕ) → (later : List ℕ) × (open_in_pol d (nested (suc n)) ≡ ups d n ++ suc (d + n) ∷ later)
goes_up zero d = (open_in_pol (suc d) (nested zero) ++ d ∷ [], ap (λ k. k ∷ (open_in_pol (suc d) (nested zero) ++ d ∷ [])) (omega arith))
goes_up (suc n) d =
    let up = goes_up n (suc d) in (
      up.0 ++ d ∷ [],
      ap (λ l. suc d ∷ (l ++ d ∷ [])) up.1
          ∙ ap (λ l. suc d ∷ l) (append_assoc (ups (suc d) n) (suc (suc d + n) ∷ up.0) (d ∷ []))
          ∙ ap (λ k. suc d ∷ (ups (suc d) n ++ suc k ∷ (up.0 ++ d ∷ []))) (omega arith),
    )

-- the last of so many
last_opening : (line n : ℕ) (r : List Token)
    → openings line (suc n) ++ r ≡ openings line n ++ token_on (line + n) kind.OpenParen [] ∷ r
last_opening line zero r = ap (λ l. token_on l kind.OpenParen [] ∷ r) (omega arith)
last_opening line (suc n) r =
    ap (λ l. token_on line kind.OpenParen [] ∷ l) (last_opening (suc line) n r ∙ ap (λ l. openings (suc line) n ++ token_on l kind.OpenParen [] ∷ r) (omega arith))

-- more are refused
refuse_more : (n : ℕ) (rest : List Token) → n ≡ 256
    → file_of (before_policy ++ openings 2 (suc n) ++ rest) ≡ Err (error.TooDeep (2 + n))
refuse_more n rest e =
    ap (λ l. file_of (before_policy ++ l)) (last_opening 2 n rest)
    ∙ refuses_257th (the_text (suc n)) (before_policy ++ openings 2 n) (token_on (2 + n) kind.OpenParen []) more rest same above
  where
    id_token : Token
    id_token = token_on 258 kind.Id (codes "id")

    more : List Terminal
    more = terminals (id_token ∷ (closings 258 (suc n) ++ []))

    split : (xs ys : List Token) → terminals (xs ++ ys) ≡ terminals xs ++ terminals ys
    split [] ys = refl
    split (x ∷ xs) ys = ap (λ l. terminals (x ∷ []) ++ l) (split xs ys)

    same : terminals ((before_policy ++ openings 2 n) ++ token_on (2 + n) kind.OpenParen [] ∷ []) ++ more
        ≡ terminals before_policy ++ spell_pol (nested (suc n)) ++ []
    same =
        ap (λ l. terminals before_policy ++ terminals l ++ more) (sym (last_opening 2 n []) ∙ append-nil (openings 2 (suc n)))
        ∙ ap (λ l. terminals before_policy ++ l) (sym (split (openings 2 (suc n)) (id_token ∷ (closings 258 (suc n) ++ []))) ∙ spelled (suc n) 2 258 id_token [] refl)

    up : (later : List ℕ) × (open_in_pol 0 (nested (suc n)) ≡ ups 0 n ++ suc (0 + n) ∷ later)
    up = goes_up n 0

    above : IsFirstAbove (open_in_file (the_text (suc n))) (length (before_policy ++ openings 2 n))
    above = record {
      earlier = 0 ∷ 0 ∷ 0 ∷ ups 0 n;
      later = up.0;
      parts = append-nil (0 ∷ 0 ∷ 0 ∷ open_in_pol 0 (nested (suc n)))
          ∙ ap (λ l. 0 ∷ 0 ∷ 0 ∷ l) up.1 ∙ ap (λ k. 0 ∷ 0 ∷ 0 ∷ (ups 0 n ++ k ∷ up.0)) (omega (arith, e));
      place_is = ap (λ k. suc (suc (suc k))) (ups_length 0 n 2);
      within = three_zeros (ups 0 n) (ups_few 0 n (omega (arith, e)));
    }

-- both
pub is_met : ShowsLimit
is_met = record { read = read_few 256 (omega arith); refused = λ rest. refuse_more 256 rest refl }
