-- A text that is written table by table is that of all tables.
use Rattle.std.proofs.Common.{◌≡◌, ℕ, ◌<◌, ◌++◌, ◌||◌, Bool, true, false, inl, inr, ⊎_elim, List, [], ◌∷◌, refl, sym, ap, subst, ◌∙◌, arith, map}
use Rattle.std.specs.Prelude.{◌==◌, if◌then◌else◌}
use Rattle.std.specs.List.{flat_map, list_any}
use Rattle.std.proofs.lemmas.Bool.Decides.{nat_tests}
use Rattle.nk_field.specs.Packet.{FieldTable}
use Rattle.nk_topo.specs.Topology.{SwitchPorts, Topology, IsTopology}
use Rattle.nk_topo.proofs.Members.{In, InOrder, order_from_pairs}
use Rattle.nk_table.proofs.Crossing.{joined_mapped}
use Rattle.nk_table.specs.declared.Table.{Table}
use Rattle.nk_table.specs.Rules.{rows_of, groups_at_switch}
use Rattle.nk_tabtext.specs.Text.{group_text, have_prefix, row_text, section_text, table_bytes, version_of}
use Rattle.nk_tabtext.specs.Written.{head_text, own_section_text, some_prefix, switch_line_text, version_with}
use Rattle.nk_tabtext.proofs.Heads.{found_over_numbers, joined_each}

-- ---- the tables of switches in order

-- a number of the list is that of one of its elements
in_mapped : {X : Type 0} (f : X → ℕ) (xs : List X) (x : X) → In xs x → In (map f xs) (f x)
in_mapped f [] x i = absurd i
in_mapped f (y ∷ ys) x i = ⊎_elim (λ e. inl (ap f e)) (λ j. inr (in_mapped f ys x j)) i

-- elements ascend where their numbers do
from_numbers : {X : Type 0} (f : X → ℕ) (xs : List X) → InOrder (λ a b. a < b) (map f xs) → InOrder (λ x y. f x < f y) xs
from_numbers f [] up = tt
from_numbers f (x ∷ xs) up = (λ y i. up.0 (f y) (in_mapped f xs y i), from_numbers f xs up.1)

-- what holds of each element's number holds of each number
of_numbers : {X : Type 0} (f : X → ℕ) (P : ℕ → Type 0) (xs : List X) → ((x : X) → In xs x → P (f x)) → (n : ℕ) → In (map f xs) n → P n
of_numbers f P [] h n i = absurd i
of_numbers f P (x ∷ xs) h n i =
    ⊎_elim (λ e. subst P (sym e) (h x (inl refl))) (λ j. of_numbers f P xs (λ y k. h y (inr k)) n j) i

-- the numbers ascend where the elements do
to_numbers : {X : Type 0} (f : X → ℕ) (xs : List X) → InOrder (λ x y. f x < f y) xs → InOrder (λ a b. a < b) (map f xs)
to_numbers f [] up = tt
to_numbers f (x ∷ xs) up = (of_numbers f (λ n. f x < n) xs up.0, to_numbers f xs up.1)

-- what is looked up at the switch of one of the tables, where they ascend, is that table's own
own_found : {X : Type 0} (own : Table → X) (found : List Table → ℕ → X)
    → ((t : Table) (ts : List Table) (sw : ℕ) → found (t ∷ ts) sw ≡ (if t.switch == sw then own t else found ts sw))
    → (ts : List Table) (t : Table) → InOrder (λ q r. q.switch < r.switch) ts → In ts t → found ts t.switch ≡ own t
own_found own found step [] t up i = absurd i
own_found {X} own found step (r ∷ ts) t up i = step r ts t.switch ∙ ⊎_elim this (λ j. later j (own_found own found step ts t up.1 j)) i
  where
    this : t ≡ r → (if r.switch == t.switch then own r else found ts t.switch) ≡ own t
    this e =
        let same : (r.switch == t.switch) ≡ true = let there : t.switch ≡ r.switch = ap (λ q. q.switch) e in grind (arith, nat_tests, there) in
        ap (λ b. if b then own r else found ts t.switch) same ∙ ap own (sym e)

    later : In ts t → found ts t.switch ≡ own t → (if r.switch == t.switch then own r else found ts t.switch) ≡ own t
    later j rest =
        let above = up.0 t j in
        let other : (r.switch == t.switch) ≡ false = grind (arith, nat_tests, above) in
        ap (λ b. if b then own r else found ts t.switch) other ∙ rest

-- tests that agree on each element find the same
any_each : {X : Type 0} (f g : X → Bool) (xs : List X) → ((x : X) → In xs x → f x ≡ g x) → list_any f xs ≡ list_any g xs
any_each f g [] h = refl
any_each f g (x ∷ xs) h =
    ap (λ b. b || list_any f xs) (h x (inl refl)) ∙ ap (λ b. g x || b) (any_each f g xs (λ y i. h y (inr i)))

-- ---- the whole text

module _ (fields : FieldTable) (topo : Topology) (tables : List Table) (is : IsTopology topo)
    (same : map (λ t. t.switch) tables ≡ map (λ s. s.switch) topo.switches) where
  up : InOrder (λ q r. q.switch < r.switch) tables
  up =
      from_numbers (λ t. t.switch) tables
      (subst (InOrder (λ a b. a < b)) (sym same)
      (to_numbers (λ s. s.switch) topo.switches (order_from_pairs (λ q r. q.switch < r.switch) topo.switches is.switches)))

  rows_own : (t : Table) → In tables t → rows_of tables t.switch ≡ t.rows
  rows_own t i = own_found (λ u. u.rows) rows_of (λ u us sw. refl) tables t up i

  groups_own : (t : Table) → In tables t → groups_at_switch tables t.switch ≡ t.groups
  groups_own t i = own_found (λ u. u.groups) groups_at_switch (λ u us sw. refl) tables t up i

  -- the section at a table's switch is the table's own
  section_own : (t : Table) → In tables t → section_text fields tables t.switch ≡ own_section_text fields t
  section_own t i =
      ap (λ gs. switch_line_text t.switch ++ (flat_map (group_text fields) gs ++ flat_map (row_text fields) (rows_of tables t.switch))) (groups_own t i)
      ∙ ap (λ rs. switch_line_text t.switch ++ (flat_map (group_text fields) t.groups ++ flat_map (row_text fields) rs)) (rows_own t i)

  sections : flat_map (own_section_text fields) tables ≡ flat_map (λ s. section_text fields tables s.switch) topo.switches
  sections =
      sym (joined_each (λ t. section_text fields tables t.switch) (own_section_text fields) tables section_own)
      ∙ sym (joined_mapped (λ (t : Table). t.switch) (λ n. section_text fields tables n) tables)
      ∙ ap (flat_map (λ n. section_text fields tables n)) same
      ∙ joined_mapped (λ (s : SwitchPorts). s.switch) (λ n. section_text fields tables n) topo.switches

  version : version_with (some_prefix fields tables) ≡ version_of (record { fields = fields; topo = topo; tables = tables })
  version =
      ap version_with
      (sym (any_each (λ t. have_prefix fields (rows_of tables t.switch)) (λ t. have_prefix fields t.rows) tables
      (λ t i. ap (have_prefix fields) (rows_own t i)))
      ∙ found_over_numbers (λ (t : Table). t.switch) (λ n. have_prefix fields (rows_of tables n)) tables
      ∙ ap (list_any (λ n. have_prefix fields (rows_of tables n))) same
      ∙ sym (found_over_numbers (λ (s : SwitchPorts). s.switch) (λ n. have_prefix fields (rows_of tables n)) topo.switches))

  pub at_end : (b : Bool) (text : List ℕ) → b ≡ some_prefix fields tables
      → text ≡ head_text (version_with b) fields topo ++ flat_map (own_section_text fields) tables
      → text ≡ table_bytes (record { fields = fields; topo = topo; tables = tables })
  at_end b text known is_text =
      is_text
      ∙ ap (λ v. head_text v fields topo ++ flat_map (own_section_text fields) tables) (ap version_with known ∙ version)
      ∙ ap (λ l. head_text (version_of (record { fields = fields; topo = topo; tables = tables })) fields topo ++ l) sections
