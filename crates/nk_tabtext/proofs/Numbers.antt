-- The numbers of switches.
use Rattle.std.proofs.Common.{◌≡◌, ◌<◌, ℕ, zero, suc, List, [], ◌∷◌, length, get_or, map, refl, ap, arith}
use Rattle.std.specs.Prelude.{AllPairs}
use Rattle.nk_topo.specs.Topology.{Topology, SwitchPorts, IsTopology, numbers_of}

-- the image of the element at a place
pub image_at : {A B : Type 0} (f : A → B) (xs : List A) (k : ℕ) (d : A) (s : B) → k < length xs
    → get_or (map f xs) k s ≡ f (get_or xs k d)
image_at f [] k d s lt = absurd (omega arith)
image_at f (x ∷ xs) zero d s lt = refl
image_at f (x ∷ xs) (suc k) d s lt = image_at f xs k d s (omega arith)

-- as many as elements
length_is : {A B : Type 0} (f : A → B) (xs : List A) → length (map f xs) ≡ length xs
length_is f [] = refl
length_is f (x ∷ xs) = ap suc (length_is f xs)

-- they rise
pub numbers_rise : (t : Topology) → IsTopology t → AllPairs (λ p q. p < q) (numbers_of t)
numbers_rise t is = λ i j d lt within.
    let some : SwitchPorts = record { switch = 0; ports = [] } in
    let count = length_is (λ (s : SwitchPorts). s.switch) t.switches in
    let at_i = image_at (λ (s : SwitchPorts). s.switch) t.switches i some d (omega (arith, lt, within, count)) in
    let at_j = image_at (λ (s : SwitchPorts). s.switch) t.switches j some d (omega (arith, within, count)) in
    let up = is.switches i j some lt (omega (arith, within, count)) in
    omega (arith, at_i, at_j, up)
