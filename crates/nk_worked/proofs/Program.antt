-- A program has the policy as its one let, and it is accepted.
use Rattle.std.proofs.Common.{ℕ, ◌<◌, ◌≤◌, zero, suc, ⊎_elim, List, [], ◌∷◌, codes, refl, sym, subst, arith}
use Rattle.std.specs.Prelude.{AllPairs, Contains}
use Rattle.nk_field.proofs.Lists.{In}
use Rattle.nk_field.proofs.Ascending.{all_from_members}
use Rattle.nk_topo.specs.Topology.{IsTopology, SwitchPorts}
use Rattle.nk_policy.specs.Policy.{Policy}
use Rattle.nk_names.specs.Accepted.{IsAccepted}
use Rattle.nk_names.specs.ProgramValue.{IsProgram, IsLet}
use Rattle.nk_table.specs.Worked.{one_link}
use Rattle.nk_compile.specs.Carries.{Carries}
use Rattle.nk_compile.proofs.Printed.{accepted_carries}
use Rattle.nk_worked.specs.TwoSwitches.{dst_and_tag, over_one_link, one_set, two_tables}
use Rattle.nk_worked.specs.TheirTable.{program_with, IsAcceptedThere}
use Rattle.nk_worked.proofs.States.{there}
use Rattle.nk_worked.proofs.TagSet.{compilable, is_the_one}
use Rattle.nk_worked.proofs.Tables.{all_of_one, all_of_two, fields_are, links_are, in_range, table_is}

-- a number in range
within : (m : ℕ) → In (65535 ∷ 65535 ∷ 3 ∷ 7 ∷ []) m → m ≤ 281474976710655
within m i =
    ⊎_elim (λ e. omega (arith, e)) (λ j. ⊎_elim (λ e. omega (arith, e)) (λ k. ⊎_elim (λ e. omega (arith, e)) (λ l. ⊎_elim (λ e. omega (arith, e)) (λ n. absurd n) l) k) j) i

-- two elements in order are a list in order
two_in_order : {X : Type 0} (R : X → X → Type 0) (x y : X) → R x y → AllPairs R (x ∷ y ∷ [])
two_in_order R x y h zero zero d lt less = absurd (omega (arith, lt))
two_in_order R x y h zero (suc zero) d lt less = h
two_in_order R x y h zero (suc (suc j)) d lt less = absurd (omega (arith, less))
two_in_order R x y h (suc i) j d lt less = absurd (omega (arith, lt, less))

-- switch 1 or 2 with ports 1 and 2
abbrev of_two : ℕ → SwitchPorts
of_two n = record { switch = n; ports = 1 ∷ 2 ∷ [] }

ports_ascend : AllPairs (λ p q. p < q) (1 ∷ 2 ∷ [])
ports_ascend = two_in_order (λ p q. p < q) 1 2 (omega arith)

topology_is : IsTopology one_link
topology_is = record {
  switches = two_in_order (λ (r s : SwitchPorts). r.switch < s.switch) (of_two 1) (of_two 2) (omega arith);
  ports = all_of_two (λ (s : SwitchPorts). AllPairs (λ p q. p < q) s.ports) (of_two 1) (of_two 2) ports_ascend ports_ascend;
  sources = λ i j d lt less. absurd (omega (arith, lt, less));
  links = links_are;
}

-- the policy is one that a program can hold
is_let : IsLet dst_and_tag over_one_link
is_let = record {
  numbered = refl;
  small = omega arith;
  shallow = omega arith;
  over = (
    (omega arith, omega arith),
    (
      (omega arith, omega arith),
      (
        (omega arith, omega arith),
        (
          ((omega arith, omega arith), (omega arith, omega arith), (omega arith, omega arith), (omega arith, omega arith)),
          ((omega arith, omega arith), tt),
        ),
      ),
    ),
  );
  in_range = in_range;
  complements = (tt, (tt, (tt, (tt, (tt, tt)))));
}

pub is_program : IsProgram dst_and_tag one_link ((codes "p", over_one_link) ∷ [])
is_program = record {
  table = fields_are;
  maxima = all_from_members (λ m. m ≤ 281474976710655) (65535 ∷ 65535 ∷ 3 ∷ 7 ∷ []) within;
  topology = topology_is;
  policies = all_of_one (λ (l : List ℕ × Policy). IsLet dst_and_tag l.1) (codes "p", over_one_link) is_let;
}

pub is_accepted : IsAccepted (program_with over_one_link) over_one_link
is_accepted = (compilable, (one_set, omega arith, λ s h. subst (λ q. Contains one_set q) (sym (is_the_one s h)) (there (1 ∷ []))))

-- the law on printed tables, of this program
pub carried : Carries (program_with over_one_link) over_one_link two_tables
carried =
    accepted_carries (program_with over_one_link) (codes "p") over_one_link two_tables is_program refl is_accepted table_is

pub accepted : IsAcceptedThere
accepted = record {
  program = is_program;
  named = refl;
  accepted = is_accepted;
  table = table_is;
  carries = carried;
}
