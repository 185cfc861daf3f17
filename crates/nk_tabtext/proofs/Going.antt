-- One more token keeps what is known fitting what is written: where no text goes on with it the states stop, else both go on.
use Rattle.std.proofs.Common.{◌≡◌, Bool, true, false, refl, Option, Some, None}
use Rattle.std.specs.Prelude.{◌==◌, if◌then◌else◌}
use Rattle.nk_lex.specs.declared.kind.Kind.{Kind}
use Rattle.nk_lex.specs.declared.kind.Kind.TheVariants as kind
use Rattle.nk_lex.specs.declared.token.Token.{Token}
use Rattle.nk_tabgrammar.specs.Terminal.{Terminal, name, number, mark, kind_place, table_terminal_from, table_terminal_of}
use Rattle.nk_tabgrammar.specs.Machine.{Reading}
use Rattle.nk_tabgrammar.specs.declared.states.State.{State}
use Rattle.nk_tabgrammar.specs.declared.states.Tells.{Tells}
use Rattle.nk_tabgrammar.specs.States.{MaybeStep, or_else, state_of_stage}
use Rattle.nk_tabtext.specs.Progress.{KnownValue, known_after, number_of_token, word_of_token}
use Rattle.nk_tabtext.proofs.Fitting.{Fits}

-- both stop, or both go on so
abbrev pub Both : (Reading → State × Tells → Type 0) → Option Reading → MaybeStep → Type 0
Both R None None = Unit {0}
Both R (Some r) (Some s) = R r s
Both R a b = ⊥

-- the states go on to the stage, and what is known then fits it
abbrev pub Follows : KnownValue → Token → Reading → State × Tells → Type 0
Follows k t r s = (s.0 ≡ state_of_stage r.stage) × Fits r.stage r.text r.table (known_after k s.1 t)

-- the kind of a token that is no name and no number
pub record IsMark (k : Kind) : Type 0 where
  pub named : (kind_place kind.Name == kind_place k) ≡ false
  pub numbered : (kind_place kind.Number == kind_place k) ≡ false

-- by what a token is
by_kind : (R : Reading → State × Tells → Type 0) (f : Terminal → Option Reading) (g : Kind → MaybeStep) (t : Token) (k : Kind)
    → Both R (f (name (word_of_token t))) (g kind.Name) → Both R (f (number (number_of_token t))) (g kind.Number) → ((l : Kind) → IsMark l → Both R (f (mark l)) (g l))
    → Both R (f (table_terminal_from k t.line t.value t.text)) (g k)
by_kind R f g t kind.Name a b m = a
by_kind R f g t kind.Number a b m = b
by_kind R f g t kind.Field a b m = m kind.Field (record { named = refl; numbered = refl })
by_kind R f g t kind.Tag a b m = m kind.Tag (record { named = refl; numbered = refl })
by_kind R f g t kind.Switch a b m = m kind.Switch (record { named = refl; numbered = refl })
by_kind R f g t kind.Ports a b m = m kind.Ports (record { named = refl; numbered = refl })
by_kind R f g t kind.Link a b m = m kind.Link (record { named = refl; numbered = refl })
by_kind R f g t kind.Let a b m = m kind.Let (record { named = refl; numbered = refl })
by_kind R f g t kind.Certificate a b m = m kind.Certificate (record { named = refl; numbered = refl })
by_kind R f g t kind.Row a b m = m kind.Row (record { named = refl; numbered = refl })
by_kind R f g t kind.Start a b m = m kind.Start (record { named = refl; numbered = refl })
by_kind R f g t kind.Id a b m = m kind.Id (record { named = refl; numbered = refl })
by_kind R f g t kind.Drop a b m = m kind.Drop (record { named = refl; numbered = refl })
by_kind R f g t kind.Dup a b m = m kind.Dup (record { named = refl; numbered = refl })
by_kind R f g t kind.Tables a b m = m kind.Tables (record { named = refl; numbered = refl })
by_kind R f g t kind.Table a b m = m kind.Table (record { named = refl; numbered = refl })
by_kind R f g t kind.Group a b m = m kind.Group (record { named = refl; numbered = refl })
by_kind R f g t kind.Out a b m = m kind.Out (record { named = refl; numbered = refl })
by_kind R f g t kind.In a b m = m kind.In (record { named = refl; numbered = refl })
by_kind R f g t kind.Virtual a b m = m kind.Virtual (record { named = refl; numbered = refl })
by_kind R f g t kind.Fabric a b m = m kind.Fabric (record { named = refl; numbered = refl })
by_kind R f g t kind.By a b m = m kind.By (record { named = refl; numbered = refl })
by_kind R f g t kind.Plus a b m = m kind.Plus (record { named = refl; numbered = refl })
by_kind R f g t kind.Semicolon a b m = m kind.Semicolon (record { named = refl; numbered = refl })
by_kind R f g t kind.Star a b m = m kind.Star (record { named = refl; numbered = refl })
by_kind R f g t kind.Tilde a b m = m kind.Tilde (record { named = refl; numbered = refl })
by_kind R f g t kind.OpenParen a b m = m kind.OpenParen (record { named = refl; numbered = refl })
by_kind R f g t kind.CloseParen a b m = m kind.CloseParen (record { named = refl; numbered = refl })
by_kind R f g t kind.Equal a b m = m kind.Equal (record { named = refl; numbered = refl })
by_kind R f g t kind.Assign a b m = m kind.Assign (record { named = refl; numbered = refl })
by_kind R f g t kind.FatArrow a b m = m kind.FatArrow (record { named = refl; numbered = refl })
by_kind R f g t kind.Arrow a b m = m kind.Arrow (record { named = refl; numbered = refl })
by_kind R f g t kind.Colon a b m = m kind.Colon (record { named = refl; numbered = refl })
by_kind R f g t kind.Comma a b m = m kind.Comma (record { named = refl; numbered = refl })
by_kind R f g t kind.Slash a b m = m kind.Slash (record { named = refl; numbered = refl })
by_kind R f g t kind.DotDot a b m = m kind.DotDot (record { named = refl; numbered = refl })
by_kind R f g t kind.OpenBracket a b m = m kind.OpenBracket (record { named = refl; numbered = refl })
by_kind R f g t kind.CloseBracket a b m = m kind.CloseBracket (record { named = refl; numbered = refl })

pub by_token : (R : Reading → State × Tells → Type 0) (f : Terminal → Option Reading) (g : Kind → MaybeStep) (t : Token)
    → Both R (f (name (word_of_token t))) (g kind.Name) → Both R (f (number (number_of_token t))) (g kind.Number) → ((l : Kind) → IsMark l → Both R (f (mark l)) (g l))
    → Both R (f (table_terminal_of t)) (g t.kind)
by_token R f g t a b m = by_kind R f g t t.kind a b m

module _ (R : Reading → State × Tells → Type 0) where
  -- where a kind comes that both go on with
  pub both_if : (b : Bool) (r : Reading) (s : State × Tells) (x : Option Reading) (z : MaybeStep) → R r s → Both R x z
      → Both R (if b then Some r else x) (or_else (if b then Some s else None) z)
  both_if true r s x z here other = here
  both_if false r s x z here other = other

  pub both_last : (b : Bool) (r : Reading) (s : State × Tells) → R r s → Both R (if b then Some r else None) (if b then Some s else None)
  both_last true r s here = here
  both_last false r s here = tt

  -- where a kind doesn't come
  pub none_if : (b : Bool) (s : State × Tells) → b ≡ false → Both R None (if b then Some s else None)
  none_if true s e = absurd cc
  none_if false s e = tt

  pub none_then : (b : Bool) (s : State × Tells) (x : Option Reading) (z : MaybeStep) → b ≡ false → Both R x z → Both R x (or_else (if b then Some s else None) z)
  none_then true s x z e other = absurd cc
  none_then false s x z e other = other

module _ {A B : Type 0} (R : Reading → State × Tells → Type 0) (f : A → Option Reading) (g : B → MaybeStep) where
  pub both_through : (b : Bool) (x y : A) (u w : B) → Both R (f x) (g u) → Both R (f y) (g w) → Both R (f (if b then x else y)) (g (if b then u else w))
  both_through true x y u w here other = here
  both_through false x y u w here other = other

module _ {B : Type 0} (R : Reading → State × Tells → Type 0) (g : B → MaybeStep) where
  pub none_through : (b : Bool) (x : Option Reading) (u w : B) → b ≡ false → Both R x (g w) → Both R x (g (if b then u else w))
  none_through true x u w e other = absurd cc
  none_through false x u w e other = other
