-- The parts of a link: each is spelled with the token that it was read from.
use Rattle.std.proofs.Common.{◌≡◌, List, [], ◌∷◌, ◌++◌, Bool, true, false, refl}
use Rattle.std.specs.Prelude.{if◌then◌else◌}
use Rattle.nk_lex.specs.declared.ident.Number.{Number}
use Rattle.nk_lex.specs.declared.quad.Quad.{Quad}
use Rattle.nk_lex.specs.declared.quad.Quad.TheVariants as quad
use Rattle.nk_lex.specs.declared.quad.QuadNext.{QuadNext}
use Rattle.nk_lex.specs.declared.quad.QuadNext.TheVariants as next
use Rattle.nk_grammar.specs.Terminal.{Terminal, number, colon, fat_arrow, outside, is_colon_terminal, is_link_sign, arrow}
use Rattle.nk_grammar.specs.Machine.{with_number, quad_step}

-- the sign between the two ends of a link
abbrev pub between : Bool → Terminal
between true = fat_arrow
between false = outside arrow

-- the tokens of a whole link
abbrev pub spell_link : Bool → Number → Number → Number → Number → List Terminal
spell_link literal a m b n = number a ∷ colon ∷ number m ∷ between literal ∷ number b ∷ colon ∷ number n ∷ []

-- the tokens of a part of a link
abbrev pub spell_quad : Bool → Quad → List Terminal
spell_quad literal quad.Start = []
spell_quad literal (quad.Switch a) = number a ∷ []
spell_quad literal (quad.SwitchColon a) = number a ∷ colon ∷ []
spell_quad literal (quad.Port a m) = number a ∷ colon ∷ number m ∷ []
spell_quad literal (quad.Arrow a m) = number a ∷ colon ∷ number m ∷ between literal ∷ []
spell_quad literal (quad.ToSwitch a m b) = number a ∷ colon ∷ number m ∷ between literal ∷ number b ∷ []
spell_quad literal (quad.ToColon a m b) = number a ∷ colon ∷ number m ∷ between literal ∷ number b ∷ colon ∷ []

-- what a link's next token leads to is spelled with it
abbrev pub IsQuadSpelledWith : Bool → List Terminal → Terminal → QuadNext → Type 0
IsQuadSpelledWith literal ts t next.Refused = Unit {0}
IsQuadSpelledWith literal ts t (next.Going q) = spell_quad literal q ≡ ts ++ t ∷ []
IsQuadSpelledWith literal ts t (next.Full a m b n) = spell_link literal a m b n ≡ ts ++ t ∷ []

-- where a link wants a number, it has it
number_quad : (literal : Bool) (t : Terminal) (ts : List Terminal) (h : Number → QuadNext)
    → ((n : Number) → IsQuadSpelledWith literal ts (number n) (h n))
    → IsQuadSpelledWith literal ts t (with_number t next.Refused h)
number_quad literal (number x) ts h e = e x
number_quad literal t ts h e = tt

-- where a link wants a colon, it has it
colon_quad : (literal : Bool) (t : Terminal) (ts : List Terminal) (q : Quad)
    → spell_quad literal q ≡ ts ++ colon ∷ []
    → IsQuadSpelledWith literal ts t (if is_colon_terminal t then next.Going q else next.Refused)
colon_quad literal colon ts q e = e
colon_quad literal t ts q e = tt

-- where a link wants its middle sign, it has it
between_quad : (literal : Bool) (t : Terminal) (ts : List Terminal) (q : Quad)
    → spell_quad literal q ≡ ts ++ between literal ∷ []
    → IsQuadSpelledWith literal ts t (if is_link_sign literal t then next.Going q else next.Refused)
between_quad true fat_arrow ts q e = e
between_quad false (outside arrow) ts q e = e
between_quad literal t ts q e = tt

-- a link's next part has the token
pub quad_spell : (literal : Bool) (q : Quad) (t : Terminal)
    → IsQuadSpelledWith literal (spell_quad literal q) t (quad_step literal q t)
quad_spell literal quad.Start t = number_quad literal t [] (λ a. next.Going (quad.Switch a)) (λ n. refl)
quad_spell literal (quad.Switch a) t = colon_quad literal t (spell_quad literal (quad.Switch a)) (quad.SwitchColon a) refl
quad_spell literal (quad.SwitchColon a) t = number_quad literal t (spell_quad literal (quad.SwitchColon a)) (λ m. next.Going (quad.Port a m)) (λ n. refl)
quad_spell literal (quad.Port a m) t = between_quad literal t (spell_quad literal (quad.Port a m)) (quad.Arrow a m) refl
quad_spell literal (quad.Arrow a m) t = number_quad literal t (spell_quad literal (quad.Arrow a m)) (λ b. next.Going (quad.ToSwitch a m b)) (λ n. refl)
quad_spell literal (quad.ToSwitch a m b) t = colon_quad literal t (spell_quad literal (quad.ToSwitch a m b)) (quad.ToColon a m b) refl
quad_spell literal (quad.ToColon a m b) t = number_quad literal t (spell_quad literal (quad.ToColon a m b)) (λ n. next.Full a m b n) (λ n. refl)
