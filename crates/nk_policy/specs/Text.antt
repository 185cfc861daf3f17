-- The text of a policy without names: the form in which policies are printed.
use Rattle.std.specs.Prelude.{ℕ, ◌||◌, Bool, true, false, if◌then◌else◌, List, [], ◌++◌, codes, decimal}
use Rattle.nk_field.specs.Packet.{FieldTable}
pub use Rattle.nk_field.specs.Texts.{name_of}
use Rattle.nk_policy.specs.Policy.{Policy, Policies, test, range, assign, sum_of, seq_of, not_of, star_of, dup, link, no_part, part}

-- there is a part
abbrev pub has_part : Policies → Bool
has_part no_part = false
has_part (part p ps) = true

-- a sum with a part
abbrev pub is_sum : Policy → Bool
is_sum (sum_of ps) = has_part ps
is_sum _ = false

-- a sequence with a part
abbrev pub is_seq : Policy → Bool
is_seq (seq_of ps) = has_part ps
is_seq _ = false

-- a star
abbrev pub is_star : Policy → Bool
is_star (star_of p) = true
is_star _ = false

-- the text in parentheses, where they are wanted
abbrev pub enclosed : Bool → List ℕ → List ℕ
enclosed wanted text = if wanted then codes "(" ++ text ++ codes ")" else text

-- `id` and `drop` for the empty sequence and sum, parts between ` + ` and between `;`. In parentheses stand a sum with
-- parts everywhere but at the top, a sequence with parts but at the top and in a sum, and a star in a star.
abbrev mutual
  pub pol_bytes : FieldTable → Policy → List ℕ
  pol_bytes fields (test f n) = name_of fields f ++ codes "=" ++ decimal n
  pol_bytes fields (range f lo hi) = name_of fields f ++ codes " in " ++ decimal lo ++ codes ".." ++ decimal hi
  pol_bytes fields (assign f n) = name_of fields f ++ codes ":=" ++ decimal n
  pol_bytes fields (sum_of ps) = if has_part ps then sum_bytes fields [] ps else codes "drop"
  pol_bytes fields (seq_of ps) = if has_part ps then seq_bytes fields [] ps else codes "id"
  pol_bytes fields (not_of p) = codes "~" ++ enclosed (is_sum p || is_seq p) (pol_bytes fields p)
  pol_bytes fields (star_of p) = enclosed (is_sum p || is_seq p || is_star p) (pol_bytes fields p) ++ codes "*"
  pol_bytes fields (dup l) = codes "dup"
  pol_bytes fields (link a m b n l) =
      decimal a ++ codes ":" ++ decimal m ++ codes "=>" ++ decimal b ++ codes ":" ++ decimal n

  -- the parts of a sum, the first one after what is given and each further one after ` + `
  pub sum_bytes : FieldTable → List ℕ → Policies → List ℕ
  sum_bytes fields before no_part = []
  sum_bytes fields before (part p ps) =
      before ++ enclosed (is_sum p) (pol_bytes fields p) ++ sum_bytes fields (codes " + ") ps

  -- the parts of a sequence, each further one after `;`
  pub seq_bytes : FieldTable → List ℕ → Policies → List ℕ
  seq_bytes fields before no_part = []
  seq_bytes fields before (part p ps) =
      before ++ enclosed (is_sum p || is_seq p) (pol_bytes fields p) ++ seq_bytes fields (codes ";") ps
