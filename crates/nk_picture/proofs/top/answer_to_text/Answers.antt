use Rattle.std.proofs.Common.{◌≡◌, subst}
use Rattle.nk_input.specs.ReadText.{IsReadOf}
use Rattle.nk_picture.specs.Drawing.{drawing}
use Rattle.nk_picture.proofs.Drawn.{drawn}
use Rattle.nk_picture.proofs.top.answer_to_text.Goals as goal

-- the drawing of the program that the bytes declare
pub returns-in_ok-drawing-in-Program : goal.returns-in_ok-drawing-in-Program
returns-in_ok-drawing-in-Program c =
    drawn c.args.way.now c.args.bytes.items c.in_ok-drawing-in-Program.field-0.items c.in-Program.program
    (subst (IsReadOf c.args.bytes.items) c.in-Program.is c.in_ok-program.ensures)
    (subst (λ p. c.in_ok-drawing-in-Program.field-0.items ≡ drawing p.topo c.args.way.now) c.program.view_is
    c.in_ok-drawing-in-Program.ensures)
