-- One lexeme after another.
use Rattle.std.proofs.Common.{◌≡◌, ◌<◌, ◌≤◌, ◌+◌, ◌-◌, ℕ, zero, suc, List, [], ◌∷◌, ◌++◌, length, drop, get_or, refl, sym, ◌∙◌, ap, arith, append_assoc, append-nil, take, option_to_list, Option, length-drop}
use Rattle.std.proofs.lemmas.List.{get_or-drop, drop-drop, take_rest}
use Rattle.std.proofs.lemmas.Bool.Decides.{nat_tests}
use Rattle.std.proofs.Common.{add-zero}
use Rattle.std.specs.Prelude.{Some, None, Ok}
use Rattle.nk_lex.specs.declared.token.Token.{Token}
use Rattle.nk_lex.specs.Lex.{after, cut_front, line_after, scan, with_token, Scanned}

-- the rest of a lexeme is passed over
pub skipped : (xs : List ℕ) (k line at : ℕ) → k ≤ length xs → scan xs k line at ≡ scan (drop k xs) 0 line (at + k)
skipped [] zero line at h = refl
skipped [] (suc k) line at h = absurd (omega arith)
skipped (x ∷ xs) zero line at h = ap (λ n. scan (x ∷ xs) 0 line n) (let e : at ≡ at + 0 = omega arith in e)
skipped (x ∷ xs) (suc k) line at h =
    let below : k ≤ length xs = omega arith in
    skipped xs k line (at + 1) below
    ∙ ap (λ n. scan (drop k xs) 0 line n) (let e : at + 1 + k ≡ at + suc k = omega arith in e)

pub after_with : (ts : List Token) (t : Option Token) (r : Scanned)
    → after ts (with_token t r) ≡ after (ts ++ option_to_list t) r
after_with ts None r = ap (λ us. after us r) (sym (append-nil ts))
after_with ts (Some t) r = ap (λ us. let p : Scanned = (us, r.1) in p) (sym (append_assoc ts (t ∷ []) r.0))

front_step : (bytes : List ℕ) (n line at : ℕ) (t : Option Token) (ts : List Token) → 0 < n → n ≤ length bytes
    → cut_front bytes line at ≡ Ok (n, t)
    → after (ts ++ option_to_list t) (scan (drop n bytes) 0 (line_after line (get_or bytes 0 0)) (at + n))
    ≡ after ts (scan bytes 0 line at)
front_step [] n line at t ts some h e = absurd (omega arith)
front_step (b ∷ rest) zero line at t ts some h e = absurd (omega arith)
front_step (b ∷ rest) (suc k) line at t ts some h e =
    let below : k ≤ length rest = omega arith in
    let pass : scan rest k (line_after line b) (at + 1) ≡ scan (drop k rest) 0 (line_after line b) (at + suc k)
    = skipped rest k (line_after line b) (at + 1) below
    ∙ ap (λ n. scan (drop k rest) 0 (line_after line b) n) (let e : at + 1 + k ≡ at + suc k = omega arith in e) in
    let one : suc k - 1 ≡ k = omega arith in
    rw (e, one, after_with ts t (scan rest k (line_after line b) (at + 1)), pass) refl

pub lines_most : (line b at n : ℕ) → line ≤ at + 1 → 0 < n → line_after line b ≤ at + n + 1
lines_most line b at n l some = grind (arith, nat_tests)

-- what the loop keeps, over one lexeme of the slice from `at` on
pub record Kept (text : List ℕ) (at line : ℕ) (ts : List Token) : Type 0 where
  pub within : at ≤ length text
  pub lines : line ≤ at + 1
  pub rest : after ts (scan (drop at text) 0 line at) ≡ scan text 0 1 0

pub lexeme_step : (text : List ℕ) (at n line : ℕ) (t : Option Token) (ts : List Token) → at < length text → 0 < n
    → n ≤ length (drop at text) → cut_front (drop at text) line at ≡ Ok (n, t)
    → after (ts ++ option_to_list t) (scan (drop (at + n) text) 0 (line_after line (get_or text at 0)) (at + n))
    ≡ after ts (scan (drop at text) 0 line at)
lexeme_step text at n line t ts here some h e =
    let first : get_or (drop at text) 0 0 ≡ get_or text at 0 = get_or-drop at text 0 0 ∙ ap (λ i. get_or text i 0) (add-zero at) in
    let rest : drop n (drop at text) ≡ drop (at + n) text = drop-drop n at text in
    rw (← rest, ← first) (front_step (drop at text) n line at t ts some h e)

pub kept : (text : List ℕ) (at n line : ℕ) (t : Option Token) (ts : List Token) → at < length text
    → Kept text at line ts → (0 < n) × (n ≤ length (take (length text - at) (drop at text)))
    → cut_front (take (length text - at) (drop at text)) line at ≡ Ok (n, t)
    → Kept text (at + n) (line_after line (get_or text at 0)) (ts ++ option_to_list t)
kept text at n line t ts here k some e =
    let fits : n ≤ length (drop at text) = rw take_rest at some.1 in
    let is : cut_front (drop at text) line at ≡ Ok (n, t) = rw take_rest at e in
    record {
      within = omega (arith, length-drop at text, k.within);
      lines = lines_most line (get_or text at 0) at n k.lines some.0;
      rest = lexeme_step text at n line t ts here some.0 fits is ∙ k.rest;
    }
