-- A link literal is a declared link exactly where the link from its source leads to its target.
use Rattle.std.proofs.Common.{◌≡◌, ℕ, Bool, true, false, ◌&&◌, ◌||◌, List, [], ◌∷◌, inl, inr, refl, sym, ap, ◌∙◌, arith, Some}
use Rattle.std.specs.Prelude.{◌==◌, if◌then◌else◌}
use Rattle.std.specs.List.{list_any}
use Rattle.std.proofs.lemmas.Bool.Decides.{nat_tests}
use Rattle.nk_topo.specs.Topology.{Topology, Link, AreLinks, link_from, target_among}
use Rattle.nk_topo.proofs.Members.{In, contains_from_in}
use Rattle.nk_static.specs.Links.{is_link_of, is_place}

-- an element that passes, where one does
some_passes : (f : Link → Bool) (ls : List Link) → list_any f ls ≡ true → (l : Link) × In ls l × (f l ≡ true)
some_passes f [] e = cc
some_passes f (l ∷ ls) e = by (f l) refl e (λ k. some_passes f ls k)
  where
    by :
        (b : Bool) → f l ≡ b → (b || list_any f ls) ≡ true
        → (list_any f ls ≡ true → (k : Link) × In ls k × (f k ≡ true)) →
        (k : Link) × In (l ∷ ls) k × (f k ≡ true)
    by true is or more = (l, inl refl, is)
    by false is or more = let r = more or in (r.0, inr r.1, r.2)

-- where a link leads to the place, one has these ends
found_passes :
    (a m b n : ℕ) (ls : List Link) → is_place (target_among ls a m) b n ≡ true
    → list_any (is_link_of a m b n) ls ≡ true
found_passes a m b n [] e = cc
found_passes a m b n (l ∷ ls) e = by (l.from_switch == a) (l.from_port == m) ((l.to_switch == b) && (l.to_port == n)) e (found_passes a m b n ls)
  where
    by :
        (x y : Bool) (z : Bool)
        → is_place (if x && y then Some (l.to_switch, l.to_port) else target_among ls a m) b n ≡ true →
        (is_place (target_among ls a m) b n ≡ true → list_any (is_link_of a m b n) ls ≡ true) →
        ((x && y && (l.to_switch == b) && (l.to_port == n)) || list_any (is_link_of a m b n) ls) ≡ true
    by true true z h more = ap (λ v. v || list_any (is_link_of a m b n) ls) h
    by true false z h more = more h
    by false y z h more = more h

-- two tests that hold together are one
same_tests : (x y : Bool) → (x ≡ true → y ≡ true) → (y ≡ true → x ≡ true) → x ≡ y
same_tests true true f g = refl
same_tests true false f g = sym (f refl)
same_tests false true f g = g refl
same_tests false false f g = refl

-- the parts of a conjunction of four
four_hold : (x y z w : Bool) → (x && y && z && w) ≡ true → (x ≡ true) × (y ≡ true) × (z ≡ true) × (w ≡ true)
four_hold true true true true e = (refl, refl, refl, refl)
four_hold x y z w e = cc

-- both are one test
pub declared_is :
    (t : Topology) → AreLinks t → (a m b n : ℕ)
    → list_any (is_link_of a m b n) t.links ≡ is_place (link_from t a m) b n
declared_is t links a m b n =
    same_tests (list_any (is_link_of a m b n) t.links) (is_place (link_from t a m) b n)
    (λ e.
    let l = some_passes (is_link_of a m b n) t.links e in
    let h = four_hold (l.0.from_switch == a) (l.0.from_port == m) (l.0.to_switch == b) (l.0.to_port == n) l.2 in
    let from_a : l.0.from_switch ≡ a = grind (arith, nat_tests, h.0) in
    let from_m : l.0.from_port ≡ m = grind (arith, nat_tests, h.1) in
    let leads = links.one l.0 (contains_from_in t.links l.0 l.1) in
    ap (λ o. is_place o b n) (ap (λ x. link_from t x m) (sym from_a) ∙ ap (λ y. link_from t l.0.from_switch y) (sym from_m) ∙ leads)
    ∙ ap (λ x. x && (l.0.to_port == n)) h.2 ∙ h.3)
    (found_passes a m b n t.links)
