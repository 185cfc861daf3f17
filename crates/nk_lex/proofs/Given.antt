-- What holds of the tokens that pieces give.
use Rattle.std.proofs.Common.{◌≡◌, ◌≤◌, ◌++◌, ℕ, List, length, sym, Option, subst}
use Rattle.std.proofs.lemmas.List.Elements.{All-drop}
use Rattle.std.proofs.Math.Seq.{drop-append_seam}
use Rattle.std.specs.Prelude.{Some, None, Ok, Err, IfOk, IsUtf8}
use Rattle.std.specs.List.{All}
use Rattle.std.specs.declared.result.Result.{Result}
use Rattle.nk_lex.specs.declared.token.Token.{Token}
use Rattle.nk_lex.specs.declared.token.LexError.{LexError}
use Rattle.nk_lex.specs.Lex.{LexReturns, answer_with, largest, scan, tokens_of}
use Rattle.nk_lex.proofs.Cuts.{finished, scan_finish}
use Rattle.nk_lex.specs.Pieces.{completed, left_by}
use Rattle.nk_lex.specs.Spans.{tokens_before_fault}
use Rattle.nk_lex.proofs.Names.{front_is_utf8, texts_are_utf8}
use Rattle.nk_lex.proofs.Standing.{front_is_small, values_are_small}

all_following : (P : Token → Type 0) (xs ys : List Token) → All P (xs ++ ys) → All P ys
all_following P xs ys h = subst (All P) (drop-append_seam xs ys) (All-drop P (length xs) (xs ++ ys) h)

-- tokens that a piece completes after a text
of_piece : {Y E : Type 0} (P : Token → Type 0) (view : Y → List Token) (text all : List ℕ) (r : Result Y E)
    → All P (completed all) → IfOk r (λ v. completed text ++ view v ≡ completed all) → IfOk r (λ v. All P (view v))
of_piece P view text all (Ok v) h e = all_following P (completed text) (view v) (subst (All P) (sym e) h)
of_piece P view text all (Err e) h g = tt

pub piece_small : {Y E : Type 0} (view : Y → List Token) (text all : List ℕ) (r : Result Y E)
    → IfOk r (λ v. completed text ++ view v ≡ completed all) → IfOk r (λ v. All (λ t. t.value ≤ largest) (view v))
piece_small view text all r e =
    of_piece (λ t. t.value ≤ largest) view text all r
    (front_is_small all (completed all) (finished (left_by all)) (sym (scan_finish all 0 1 0))) e

pub piece_texts : {Y E : Type 0} (view : Y → List Token) (text all : List ℕ) (r : Result Y E)
    → IfOk r (λ v. completed text ++ view v ≡ completed all) → IfOk r (λ v. All (λ t. IsUtf8 t.text) (view v))
piece_texts view text all r e =
    of_piece (λ t. IsUtf8 t.text) view text all r
    (front_is_utf8 all (completed all) (finished (left_by all)) (sym (scan_finish all 0 1 0))) e

-- the tokens of a whole text
answered : (ts us : List Token) (o : Option LexError) → answer_with ts o ≡ Ok us → ts ≡ us
answered ts us None e = cc
answered ts us (Some f) e = absurd cc

of_end : {Y : Type 0} (P : Token → Type 0) (view : Y → List Token) (text : List ℕ) (r : Result Y LexError)
    → All P (tokens_before_fault text) → LexReturns (λ v. completed text ++ view v) r (tokens_of text) → IfOk r (λ v. All P (view v))
of_end P view text (Ok v) h e =
    all_following P (completed text) (view v)
    (subst (All P) (answered (scan text 0 1 0).0 (completed text ++ view v) (scan text 0 1 0).1 e) h)
of_end P view text (Err e) h g = tt

pub end_small : {Y : Type 0} (view : Y → List Token) (text : List ℕ) (r : Result Y LexError)
    → LexReturns (λ v. completed text ++ view v) r (tokens_of text) → IfOk r (λ v. All (λ t. t.value ≤ largest) (view v))
end_small view text r e = of_end (λ t. t.value ≤ largest) view text r (values_are_small text) e

pub end_texts : {Y : Type 0} (view : Y → List Token) (text : List ℕ) (r : Result Y LexError)
    → LexReturns (λ v. completed text ++ view v) r (tokens_of text) → IfOk r (λ v. All (λ t. IsUtf8 t.text) (view v))
end_texts view text r e = of_end (λ t. IsUtf8 t.text) view text r (texts_are_utf8 text) e
