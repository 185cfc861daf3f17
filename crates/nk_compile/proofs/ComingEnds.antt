-- One tag more, wherever it comes.
use Rattle.std.proofs.Common.{◌≡◌, ℕ, ◌+◌, ◌<◌, Option, Some, None, List, [], length, refl, sym, subst, arith}
use Rattle.std.proofs.lemmas.List.{get_or-map, length-map}
use Rattle.nk_topo.specs.Topology.{Topology, SwitchPorts, IsTopology, numbers_of}
use Rattle.std.specs.Prelude.{All, AllPairs, map, slice_index_or, Result, Ok, Err, OnOk}
use Rattle.nk_group.specs.declared.switch_tags.SwitchTags.{SwitchTags}
use Rattle.nk_group.specs.Tagged.{set_of_tag}
use Rattle.nk_compile.specs.Comings.{first_end, HasComing, with_end}
use Rattle.nk_compile.proofs.ComingSteps.{all_more, all_same, switches_stay}

-- all switches with one tag more
pub coming_on : (ends : List (Option ℕ)) (ss : List (List ℕ)) (tags : List ℕ) (i : ℕ) (end : Option ℕ) (all : List SwitchTags) → first_end ends (set_of_tag ss tags i) ≡ end →
    All (HasComing ends ss tags i) all → All (HasComing ends ss tags (i + 1)) (with_end end (i + 1) all)
coming_on ends ss tags i None all e k = all_same ends ss tags i all e k
coming_on ends ss tags i (Some sw) all e k = all_more ends ss tags i sw all e k

-- the switches stay
pub switches_on : (end : Option ℕ) (tag : ℕ) (all : List SwitchTags) → map (λ (s : SwitchTags). s.switch) (with_end end tag all) ≡ map (λ (s : SwitchTags). s.switch) all
switches_on None tag all = refl
switches_on (Some sw) tag all = switches_stay sw tag all

-- what holds after Ok, where what follows of it does
pub ok_weaker : {T E : Type 0} (r : Result T E) (P Q : Type 0) → (P → Q) → OnOk r P → OnOk r Q
ok_weaker (Ok x) P Q h p = h p
ok_weaker (Err e) P Q h p = p

-- the numbers of a topology's switches ascend
pub numbers_ascend : (topo : Topology) → IsTopology topo → (xs : List ℕ) → xs ≡ numbers_of topo → AllPairs (λ p q. p < q) xs
numbers_ascend topo is xs e = subst (AllPairs (λ p q. p < q)) (sym e) rise
  where
    none : SwitchPorts
    none = record { switch = 0; ports = [] }

    rise : (i j d : ℕ) → i < j → j < length (numbers_of topo) → slice_index_or (numbers_of topo) i d < slice_index_or (numbers_of topo) j d
    rise i j d lt less =
        let inside : j < length topo.switches = subst (λ n. j < n) (length-map topo.switches (λ (s : SwitchPorts). s.switch)) less in
        let before : i < length topo.switches = omega (arith, lt, inside) in
        let first = get_or-map (λ (s : SwitchPorts). s.switch) topo.switches i none d before in
        let second = get_or-map (λ (s : SwitchPorts). s.switch) topo.switches j none d inside in
        let up = is.switches i j none lt inside in
        omega (arith, first, second, up)
