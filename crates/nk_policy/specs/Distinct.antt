-- Policies no two dups of which have the same number.
use Rattle.std.specs.Prelude.{◌≡◌, ℕ, true, false}
use Rattle.nk_policy.specs.Policy.{Policy, Policies, test, range, assign, sum_of, seq_of, not_of, star_of, dup, link, no_part, part}
use Rattle.nk_policy.specs.After.{has_dup, some_has_dup}

-- the dups of a policy and of the parts after it are different ones
abbrev pub AreApart : Policy → Policies → Type 0
AreApart p ps = (l : ℕ) → some_has_dup ps l ≡ true → has_dup p l ≡ false

abbrev mutual
  -- no two dups outside complements have one number, in sums, sequences and stars
  pub HasDistinct : Policy → Type 0
  HasDistinct (test f n) = Unit {0}
  HasDistinct (range f lo hi) = Unit {0}
  HasDistinct (assign f n) = Unit {0}
  HasDistinct (sum_of ps) = AllDistinct ps
  HasDistinct (seq_of ps) = AllDistinct ps
  HasDistinct (not_of p) = Unit {0}
  HasDistinct (star_of p) = HasDistinct p
  HasDistinct (dup l) = Unit {0}
  HasDistinct (link a m b n l) = Unit {0}

  -- nor have any two of the parts
  pub AllDistinct : Policies → Type 0
  AllDistinct no_part = Unit {0}
  AllDistinct (part p ps) = HasDistinct p × AllDistinct ps × AreApart p ps
