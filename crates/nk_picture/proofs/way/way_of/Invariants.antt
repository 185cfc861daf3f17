use Rattle.std.proofs.Common.{◌≡◌, map, string_bytes, drop}
use Rattle.nk_picture.specs.Way.{way_after, way_of_words}
use Rattle.nk_picture.proofs.way.way_of.Given as goal

-- the way of the words that are left, after the places so far, is that of all
abbrev pub invariant-loop-i : goal.invariant-loop-i
invariant-loop-i l =
    way_after l.places.items l.i (map (λ w. string_bytes w) (drop l.i l.words)) ≡ way_of_words (map (λ w. string_bytes w) l.words)
