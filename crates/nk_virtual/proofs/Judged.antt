-- The first flaw of virtual links that are looked at one after the other.
use Rattle.std.proofs.Common.{◌≡◌, ℕ, ◌+◌, ◌<◌, ◌⊎◌, ⊎_elim, true, false, Option, Some, None, List, ◌++◌, [], ◌∷◌, length, take, get_or, refl, sym, ap, subst, ◌∙◌, arith}
use Rattle.std.proofs.lemmas.Bool.Decides.{nat_tests}
use Rattle.std.proofs.lemmas.List.{take_more}
use Rattle.std.proofs.lemmas.List.Elements.{All-push, Contains-append_left, Contains-push, Contains-push_cases, All-contains}
use Rattle.nk_field.specs.Packet.{FieldTable}
use Rattle.nk_topo.specs.Topology.{Topology}
use Rattle.nk_names.specs.ProgramValue.{VirtualLink}
use Rattle.nk_virtual.specs.Flaws.{comes_first, earlier, IsFirstAmong}
use Rattle.nk_virtual.specs.Reasons.{BeginsBefore, IsUsable, IsVerdictOf}
use Rattle.nk_virtual.specs.declared.flaws.Flaw.{Flaw}
use Rattle.nk_virtual.specs.declared.refusal.VirtualRefusal.{VirtualRefusal}

-- a virtual link doesn't begin before itself
never_before : (k : VirtualLink) → BeginsBefore k k → ⊥
never_before k h = grind (arith, nat_tests, h)

-- one that begins before one that begins before a third begins before that
before_on : (j k l : VirtualLink) → BeginsBefore j k → BeginsBefore k l → BeginsBefore j l
before_on j k l h g = grind (arith, nat_tests, h, g)

module _ (fields : FieldTable) (topo : Topology) (tag : ℕ) where
  abbrev Usable : VirtualLink → Type 0
  Usable = IsUsable fields topo tag

  -- a virtual link that doesn't begin before the first flaw's changes nothing
  later_kept : (links : List VirtualLink) (k : VirtualLink) (first : Option Flaw) → comes_first k first ≡ false
      → IsFirstAmong fields topo tag links first → IsFirstAmong fields topo tag (links ++ k ∷ []) first
  later_kept links k None e h = absurd cc
  later_kept links k (Some f) e h = (
    record {
      link = h.0.link;
      held = Contains-append_left links (k ∷ []) h.0.link h.0.held;
      flaw = h.0.flaw;
      before = λ j c b.
          ⊎_elim
          (λ i. h.0.before j i b)
          (λ is. absurd (not_before (subst (λ l. BeginsBefore l h.0.link) (sym is) b)))
          (Contains-push_cases links k j c);
    },
    h.1,
  )
    where
      not_before : BeginsBefore k h.0.link → ⊥
      not_before b = let s = h.1.0 in let t = h.1.1 in grind (arith, nat_tests, b, e, s, t)

  -- one that does is judged: it is usable, or its flaw is the first
  judged_on : (links : List VirtualLink) (k : VirtualLink) (first : Option Flaw) (found : Option VirtualRefusal) → comes_first k first ≡ true
      → IsVerdictOf fields topo tag k found
      → IsFirstAmong fields topo tag links first → IsFirstAmong fields topo tag (links ++ k ∷ []) (earlier first k found)
  judged_on links k None None e v h = All-push Usable links k h v
  judged_on links k (Some f) None e v h = (
    record {
      link = h.0.link;
      held = Contains-append_left links (k ∷ []) h.0.link h.0.held;
      flaw = h.0.flaw;
      before = λ j c b. ⊎_elim (λ i. h.0.before j i b) (λ is. subst Usable is v) (Contains-push_cases links k j c);
    },
    h.1,
  )
  judged_on links k None (Some r) e v h = (
    record {
      link = k;
      held = Contains-push links k;
      flaw = v;
      before = λ j c b.
          ⊎_elim
          (λ i. All-contains Usable links j h i)
          (λ is. absurd (never_before k (subst (λ l. BeginsBefore l k) (sym is) b)))
          (Contains-push_cases links k j c);
    },
    (refl, refl),
  )
  judged_on links k (Some f) (Some r) e v h = (
    record {
      link = k;
      held = Contains-push links k;
      flaw = v;
      before = λ j c b.
          ⊎_elim
          (λ i. h.0.before j i (before_on j k h.0.link b is_before))
          (λ is. absurd (never_before k (subst (λ l. BeginsBefore l k) (sym is) b)))
          (Contains-push_cases links k j c);
    },
    (refl, refl),
  )
    where
      is_before : BeginsBefore k h.0.link
      is_before = let s = h.1.0 in let t = h.1.1 in grind (arith, nat_tests, e, s, t)

  -- so it is with the virtual link at the next place
  pub kept_more : (links : List VirtualLink) (i : ℕ) (k : VirtualLink) (first new : Option Flaw) → i < length links → k ≡ get_or links i k
      → comes_first k first ≡ false → new ≡ first
      → IsFirstAmong fields topo tag (take i links) first → IsFirstAmong fields topo tag (take (i + 1) links) new
  kept_more links i k first new lt is e same h =
      let next : take (i + 1) links ≡ take i links ++ k ∷ [] = take_more links i k lt ∙ ap (λ x. take i links ++ x ∷ []) (sym is) in
      subst (λ ls. IsFirstAmong fields topo tag ls new) (sym next)
      (subst (IsFirstAmong fields topo tag (take i links ++ k ∷ [])) (sym same) (later_kept (take i links) k first e h))

  pub judged_more : (links : List VirtualLink) (i : ℕ) (k : VirtualLink) (first new : Option Flaw) (found : Option VirtualRefusal)
      → i < length links → k ≡ get_or links i k
      → comes_first k first ≡ true → IsVerdictOf fields topo tag k found → new ≡ earlier first k found
      → IsFirstAmong fields topo tag (take i links) first → IsFirstAmong fields topo tag (take (i + 1) links) new
  judged_more links i k first new found lt is e v same h =
      let next : take (i + 1) links ≡ take i links ++ k ∷ [] = take_more links i k lt ∙ ap (λ x. take i links ++ x ∷ []) (sym is) in
      subst (λ ls. IsFirstAmong fields topo tag ls new) (sym next)
      (subst (IsFirstAmong fields topo tag (take i links ++ k ∷ [])) (sym same) (judged_on (take i links) k first found e v h))
