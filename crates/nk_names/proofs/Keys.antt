-- A map whose keys are bytes, after a change at one key.
use Rattle.std.proofs.Common.{◌≡◌, ℕ, Bool, true, false, Option, List, sym, ◌∙◌}
use Rattle.std.specs.Bool.{nat_eq}
use Rattle.std.specs.Cmp.Lexicographic.{pointwise, nat_list_eq_equiv}
use Rattle.std.specs.HashMap.{HashMap, get_by, UpdatesBy}
use Rattle.std.specs.Map.{lookup, IsKeyTest, AreApart, KeepsOthers}
use Rattle.std.specs.Prelude.{Vec}
use Rattle.std.specs.Str.{bytes_eq}

-- a query for another key finds the same
kept : {K X : Type 0} (eq : K → K → Bool) (test : K → Bool) (old new : List (K × X)) → KeepsOthers eq test old new
    → (other : K → Bool) → IsKeyTest eq other → AreApart test other → lookup other new ≡ lookup other old
unfolding KeepsOthers
kept eq test old new h = h

-- keys that are one aren't another's
apart : (bs cs ks : List ℕ) → bytes_eq bs cs ≡ false → bytes_eq bs ks ≡ true → bytes_eq cs ks ≡ false
apart bs cs ks n y = nat_list_eq_equiv.symm cs ks ∙ sym (nat_list_eq_equiv.congr bs ks cs y) ∙ n

-- what other bytes find stays
pub others_stay : {A X S : Type 0} (k : Vec ℕ A) (m n : HashMap (Vec ℕ A) X S) (w : Option X)
    → UpdatesBy (λ x y. pointwise nat_eq x.items y.items) (λ y. pointwise nat_eq k.items y.items) m n w
    → (q : List ℕ) → bytes_eq k.items q ≡ false
    → get_by (λ y. pointwise nat_eq q y.items) n ≡ get_by (λ y. pointwise nat_eq q y.items) m
others_stay k m n w h q e =
    kept _ _ m.entries n.entries h.3 (λ y. pointwise nat_eq q y.items) (λ x y. nat_list_eq_equiv.congr q x.items y.items) (λ y. apart k.items q y.items e)
