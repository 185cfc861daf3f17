-- What is drawn is what the bytes declare.
use Rattle.std.specs.Prelude.{◌≡◌, ℕ, List}
use Rattle.nk_names.specs.declared.Program.{Program}
use Rattle.nk_names.specs.ProgramOf.{program_by}
use Rattle.nk_input.specs.ReadText.{IsOfBytes}
use Rattle.nk_picture.specs.declared.way.Place.{Place}
use Rattle.nk_picture.specs.Answer.{IsDrawn}
use Rattle.nk_picture.specs.Drawing.{drawing}

pub drawn : (way : List Place) (bytes text : List ℕ) (program : Program) → IsOfBytes bytes program
    → text ≡ drawing (program_by program).topo way → IsDrawn way bytes text
drawn way bytes text program h e =
    record {
      program = program_by program;
      declares = record { tokens = h.tokens; cut = h.cut; declarations = h.of.declarations; read = h.of.read; means = h.of.of.means };
      drawn = e;
    }
