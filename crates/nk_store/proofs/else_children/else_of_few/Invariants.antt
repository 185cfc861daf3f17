use Rattle.std.proofs.Common.{◌≡◌, drop}
use Rattle.nk_store.specs.ElseChild.{spans, largest, else_of}
use Rattle.nk_store.proofs.else_children.else_of_few.Given as goal

abbrev pub invariant-loop-c : goal.invariant-loop-c
invariant-loop-c l = largest (spans l.parts 0) l.best (drop l.c-index l.parts) ≡ else_of l.parts
