-- What a lexeme comes to, by its kind.
use Rattle.std.proofs.Common.{◌≡◌, ◌<◌, ◌≤◌, ℕ, List, [], ◌∷◌, length, drop, take, get_or, Some, Ok, sym, ◌∙◌, ap, arith, length-take-le}
use Rattle.nk_lex.specs.declared.kind.Kind.{Kind}
use Rattle.nk_lex.specs.declared.front.Front.{Front}
use Rattle.nk_lex.specs.declared.front.Front.TheVariants as front
use Rattle.nk_lex.specs.declared.token.Token.{Token}
use Rattle.nk_lex.specs.Kinds.{kind_of_name}
use Rattle.nk_lex.specs.Lex.{cut, cut_front, front_of, number_of, token, with_length}

-- the front of a text is cut by what stands there
cut_by : (bytes : List ℕ) (f : Front) (line at : ℕ) → 0 < length bytes → f ≡ front_of (get_or bytes 0 0) (drop 1 bytes)
    → cut_front bytes line at ≡ cut f line at bytes
cut_by [] f line at some e = absurd (omega arith)
cut_by (b ∷ rest) f line at some e = ap (λ g. cut g line at (b ∷ rest)) (sym e)

-- a name comes to its token
pub name_read : (bytes : List ℕ) (n line at : ℕ) (t : Token) → 0 < length bytes → n ≤ length bytes
    → front.Name n ≡ front_of (get_or bytes 0 0) (drop 1 bytes)
    → t ≡ token (kind_of_name (take n bytes)) at (length (take n bytes)) line 0 (take n bytes)
    → cut_front bytes line at ≡ Ok (n, Some t)
name_read bytes n line at t some most e is =
    cut_by bytes (front.Name n) line at some e
    ∙ ap (λ k. Ok (n, Some (token (kind_of_name (take n bytes)) at k line 0 (take n bytes)))) (sym (length-take-le n bytes most))
    ∙ ap (λ u. Ok (n, Some u)) (sym is)

-- a number that is not too large comes to its token
pub number_read : (bytes : List ℕ) (n line at : ℕ) (t : Token) → 0 < length bytes → n ≤ length bytes
    → front.Number n ≡ front_of (get_or bytes 0 0) (drop 1 bytes)
    → Ok t ≡ number_of (take n bytes) at (length (take n bytes)) line
    → cut_front bytes line at ≡ Ok (n, Some t)
number_read bytes n line at t some most e is =
    cut_by bytes (front.Number n) line at some e
    ∙ ap (λ k. with_length n (number_of (take n bytes) at k line)) (sym (length-take-le n bytes most))
    ∙ ap (λ r. with_length n r) (sym is)

-- a symbol comes to its token
pub symbol_read : (bytes : List ℕ) (n line at : ℕ) (k : Kind) (t : Token) → 0 < length bytes
    → front.Symbol n k ≡ front_of (get_or bytes 0 0) (drop 1 bytes) → t ≡ token k at n line 0 []
    → cut_front bytes line at ≡ Ok (n, Some t)
symbol_read bytes n line at k t some e is =
    cut_by bytes (front.Symbol n k) line at some e ∙ ap (λ u. Ok (n, Some u)) (sym is)
