-- Kinds by their index.
use Rattle.std.proofs.Common.{◌≡◌, ℕ, true, false, refl, sym, ap, ◌∙◌}
use Rattle.std.specs.Prelude.{◌==◌, if◌then◌else◌}
use Rattle.std.proofs.lemmas.Bool.Decides.{eqb_tells}
use Rattle.std.proofs.Common.{⊎_elim}
use Rattle.nk_lex.specs.declared.kind.Kind.{Kind}
use Rattle.nk_lex.specs.declared.kind.Kind.TheVariants as kind
use Rattle.nk_tabgrammar.specs.Terminal.{Terminal, name, number, mark, kind_place, is_mark}

-- the kind with this index
abbrev kind_at : ℕ → Kind
kind_at n =
    if n == 0 then kind.Name
    else if n == 1 then kind.Number
    else if n == 2 then kind.Field
    else if n == 3 then kind.Tag
    else if n == 4 then kind.Switch
    else if n == 5 then kind.Ports
    else if n == 6 then kind.Link
    else if n == 7 then kind.Let
    else if n == 8 then kind.Certificate
    else if n == 9 then kind.Row
    else if n == 10 then kind.Start
    else if n == 11 then kind.Id
    else if n == 12 then kind.Drop
    else if n == 13 then kind.Dup
    else if n == 14 then kind.Tables
    else if n == 15 then kind.Table
    else if n == 16 then kind.Group
    else if n == 17 then kind.Out
    else if n == 18 then kind.In
    else if n == 19 then kind.Virtual
    else if n == 20 then kind.Fabric
    else if n == 21 then kind.By
    else if n == 22 then kind.Plus
    else if n == 23 then kind.Semicolon
    else if n == 24 then kind.Star
    else if n == 25 then kind.Tilde
    else if n == 26 then kind.OpenParen
    else if n == 27 then kind.CloseParen
    else if n == 28 then kind.Equal
    else if n == 29 then kind.Assign
    else if n == 30 then kind.FatArrow
    else if n == 31 then kind.Arrow
    else if n == 32 then kind.Colon
    else if n == 33 then kind.Comma
    else if n == 34 then kind.Slash
    else if n == 35 then kind.DotDot
    else if n == 36 then kind.OpenBracket
    else kind.CloseBracket

-- is the kind that has it
kind_there : (k : Kind) → kind_at (kind_place k) ≡ k
kind_there kind.Name = refl
kind_there k = refl

-- kinds with one index are equal
same_kind : (k l : Kind) → kind_place k ≡ kind_place l → k ≡ l
same_kind k l e = sym (kind_there k) ∙ ap kind_at e ∙ kind_there l

-- equal numbers, by their test
same_number : (m n : ℕ) → (m == n) ≡ true → m ≡ n
same_number m n e = ⊎_elim (λ s. s.1) (λ s. absurd (differ (sym e ∙ s.0))) (eqb_tells m n)
  where
    differ : true ≡ false → ⊥
    differ e = cc

-- what passes the test for a kind is a token of it
pub mark_is : (k : Kind) (t : Terminal) → is_mark k t ≡ true → t ≡ mark k
mark_is k (mark l) e = ap mark (sym (same_kind k l (same_number (kind_place k) (kind_place l) e)))
mark_is k (name w) e = absurd cc
mark_is k (number n) e = absurd cc
