-- The lines of switches by their numbers, and the tables after the other lines.
use Rattle.std.proofs.Common.{◌≡◌, ℕ, ◌<◌, ◌++◌, ◌||◌, Bool, true, false, inl, inr, ⊎_elim, List, [], ◌∷◌, refl, sym, ap, ◌∙◌, arith, append_assoc}
use Rattle.std.specs.Prelude.{◌==◌, map, if◌then◌else◌}
use Rattle.std.specs.List.{flat_map, list_any}
use Rattle.std.proofs.lemmas.Bool.Decides.{nat_tests}
use Rattle.nk_topo.specs.Topology.{SwitchPorts, Topology, IsTopology, numbers_of, ports_among, ports_of}
use Rattle.nk_topo.proofs.Members.{In, InOrder, order_from_pairs}
use Rattle.nk_table.proofs.Crossing.{joined_mapped}
use Rattle.nk_topo.specs.Inside.{link_of}
use Rattle.nk_table.specs.declared.Tables.{Tables}
use Rattle.nk_table.specs.Rules.{rows_of}
use Rattle.nk_tabtext.specs.Text.{switch_text, link_text, topology_text, section_text, have_prefix, version_of, table_bytes}
use Rattle.nk_tabtext.specs.Written.{head_text}

-- a switch has the ports that its number has among switches that ascend
own_ports : (ss : List SwitchPorts) (s : SwitchPorts) → InOrder (λ q r. q.switch < r.switch) ss → In ss s →
    ports_among ss s.switch ≡ s.ports
own_ports [] s up i = absurd i
own_ports (r ∷ ss) s up i = ⊎_elim this (λ j. later j (own_ports ss s up.1 j)) i
  where
    this : s ≡ r → ports_among (r ∷ ss) s.switch ≡ s.ports
    this e =
        let same : (r.switch == s.switch) ≡ true = let at : s.switch ≡ r.switch = ap (λ q. q.switch) e in grind (arith, nat_tests, at) in
        ap (λ b. if b then r.ports else ports_among ss s.switch) same ∙ ap (λ q. q.ports) (sym e)

    later : In ss s → ports_among ss s.switch ≡ s.ports → ports_among (r ∷ ss) s.switch ≡ s.ports
    later j rest =
        let above = up.0 s j in
        let other : (r.switch == s.switch) ≡ false = grind (arith, nat_tests, above) in
        ap (λ b. if b then r.ports else ports_among ss s.switch) other ∙ rest

-- functions that agree on each element make the same
pub joined_each : {X Y : Type 0} (f g : X → List Y) (xs : List X) → ((x : X) → In xs x → f x ≡ g x) → flat_map f xs ≡ flat_map g xs
joined_each f g [] h = refl
joined_each f g (x ∷ xs) h =
    ap (λ l. l ++ flat_map f xs) (h x (inl refl)) ∙ ap (λ l. g x ++ l) (joined_each f g xs (λ y i. h y (inr i)))

-- the lines of the switches are those of their numbers with the ports of each
pub lines_by_number : (t : Topology) → IsTopology t →
    flat_map (λ n. switch_text (record { switch = n; ports = ports_of t n })) (numbers_of t) ≡ flat_map switch_text t.switches
lines_by_number t is =
    joined_mapped (λ (s : SwitchPorts). s.switch) (λ n. switch_text (record { switch = n; ports = ports_of t n })) t.switches
    ∙ joined_each (λ s. switch_text (record { switch = s.switch; ports = ports_of t s.switch })) switch_text t.switches (λ s i.
    ap (λ ports. switch_text (record { switch = s.switch; ports = ports }))
    (own_ports t.switches s (order_from_pairs (λ q r. q.switch < r.switch) t.switches is.switches) i))

-- the lines of the switches and those of the links, one after the other
pub topology_lines : (t : Topology) (a b : List ℕ) (ls : List (ℕ × ℕ × ℕ × ℕ)) → b ≡ a ++ flat_map switch_text t.switches →
    map link_of ls ≡ t.links → b ++ flat_map (λ l. link_text (link_of l)) ls ≡ a ++ topology_text t
topology_lines t a b ls e f =
    ap (λ l. l ++ flat_map (λ k. link_text (link_of k)) ls) e
    ∙ append_assoc a (flat_map switch_text t.switches) (flat_map (λ k. link_text (link_of k)) ls)
    ∙ ap (λ l. a ++ (flat_map switch_text t.switches ++ l)) (sym (joined_mapped link_of link_text ls) ∙ ap (flat_map link_text) f)

-- what is found at an element's number is found at that of one of the numbers
pub found_over_numbers : {X : Type 0} (f : X → ℕ) (p : ℕ → Bool) (xs : List X) → list_any (λ x. p (f x)) xs ≡ list_any p (map f xs)
found_over_numbers f p [] = refl
found_over_numbers f p (x ∷ xs) = ap (λ b. p (f x) || b) (found_over_numbers f p xs)

-- the version, by the numbers of the switches
pub version_is : (t : Tables) (numbers : List ℕ) (b : Bool) → b ≡ list_any (λ n. have_prefix t.fields (rows_of t.tables n)) numbers →
    numbers ≡ numbers_of t.topo → (if b then 2 else 1) ≡ version_of t
version_is t numbers b is same =
    ap (λ v. if v then 2 else 1)
    (is ∙ ap (list_any (λ n. have_prefix t.fields (rows_of t.tables n))) same
    ∙ sym (found_over_numbers (λ (s : SwitchPorts). s.switch) (λ n. have_prefix t.fields (rows_of t.tables n)) t.topo.switches))

-- the tables after the lines before them
pub whole : (t : Tables) (numbers a b : List ℕ) → a ≡ head_text (version_of t) t.fields t.topo →
    b ≡ a ++ flat_map (λ n. section_text t.fields t.tables n) numbers → numbers ≡ numbers_of t.topo → b ≡ table_bytes t
whole t numbers a b first second same =
    second
    ∙ ap (λ l. l ++ flat_map (λ n. section_text t.fields t.tables n) numbers) first
    ∙ ap (λ l. head_text (version_of t) t.fields t.topo ++ l)
    (ap (flat_map (λ n. section_text t.fields t.tables n)) same
    ∙ joined_mapped (λ (s : SwitchPorts). s.switch) (λ n. section_text t.fields t.tables n) t.topo.switches)
