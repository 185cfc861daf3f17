-- What is read from tokens of a text: its numbers are those of a text.
use Rattle.std.proofs.Common.{◌≡◌, ◌≤◌, ℕ, subst, List, [], ◌∷◌, ◌++◌, sym, arith}
use Rattle.std.proofs.lemmas.List.Elements.{All-nil, All-cons, All-tail}
use Rattle.std.specs.Prelude.{Ok, map, All, ⊤}
use Rattle.nk_lex.specs.declared.kind.Kind.{Kind}
use Rattle.nk_lex.specs.declared.kind.Kind.TheVariants as kind
use Rattle.nk_lex.specs.declared.token.Token.{Token}
use Rattle.nk_lex.specs.Lex.{largest}
use Rattle.nk_grammar.specs.Terminal.{Terminal, number, opening, terminal_from, terminal_of}
use Rattle.nk_grammar.specs.File.{Declaration, IsWritten, Written, written_field, spell_declaration, spell_file, declared}
use Rattle.nk_grammar.specs.FileMachine.{file_of}
use Rattle.nk_grammar.specs.Answer.{terminals, IsParse}
use Rattle.nk_grammar.proofs.Answering.{answers}

-- a number is one of a text
abbrev pub IsSmall : Terminal → Type 0
IsSmall (number n) = n.value ≤ largest
IsSmall t = ⊤

small_from : (k : Kind) (line value : ℕ) (text : List ℕ) → value ≤ largest → IsSmall (terminal_from k line value text)
small_from kind.Number line value text v = v
small_from k line value text v = tt

-- the terminals of tokens with such values
pub are_small : (ts : List Token) → All (λ t. t.value ≤ largest) ts → All IsSmall (terminals ts)
are_small [] v = All-nil IsSmall
are_small (t ∷ ts) v =
    All-cons IsSmall (terminal_of t) (terminals ts) (small_from t.kind t.line t.value t.text (v 0 t (omega arith)))
    (are_small ts (All-tail (λ x. x.value ≤ largest) t ts v))

-- what stands after
all_following : (xs ys : List Terminal) → All IsSmall (xs ++ ys) → All IsSmall ys
all_following [] ys h = h
all_following (x ∷ xs) ys h = all_following xs ys (All-tail IsSmall x (xs ++ ys) h)

-- a declaration spelled with them
written_one : (w : Written) (rest : List Terminal) → All IsSmall (spell_declaration w ++ rest) → IsWritten (declared w)
written_one (written_field w n) rest h = h 2 opening (omega arith)
written_one w rest h = tt

pub written_all : (ws : List Written) → All IsSmall (spell_file ws) → All IsWritten (map declared ws)
written_all [] h = All-nil IsWritten
written_all (w ∷ ws) h =
    All-cons IsWritten (declared w) (map declared ws) (written_one w (spell_file ws) h)
    (written_all ws (all_following (spell_declaration w) (spell_file ws) h))

-- what is read
pub written_of : (ts : List Token) (ds : List Declaration) → file_of ts ≡ Ok ds
    → All (λ t. t.value ≤ largest) ts → All IsWritten ds
written_of ts ds e v =
    let answer : IsParse ts (Ok ds) = subst (IsParse ts) e (answers ts) in
    let spelled : All IsSmall (spell_file answer.0.0) = subst (All IsSmall) answer.0.1 (are_small ts v) in
    subst (All IsWritten) (sym answer.0.2) (written_all answer.0.0 spelled)
