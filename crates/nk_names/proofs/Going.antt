-- From declaration to declaration: what is said after all of them, and what stays true of the policies.
use Rattle.std.proofs.Common.{◌≡◌, ℕ, ◌≤◌, None, Ok, Err, List, [], ◌∷◌, ◌++◌, get_or, refl, subst, arith, length-append}
use Rattle.std.specs.declared.result.Result.{Result}
use Rattle.std.specs.Prelude.{slice_index, All}
use Rattle.std.proofs.lemmas.List.{get_or_append_left}
use Rattle.std.proofs.lemmas.List.Elements.{All-nil, All-push, recursion_from_All}
use Rattle.nk_field.specs.Packet.{FieldTable, IsFieldTable, IsValue, built_in, field_named, with_field}
use Rattle.nk_policy.specs.Policy.{Policy, marked_from, sum_of, no_part}
use Rattle.nk_topo.specs.Topology.{Topology, Link, no_topology, with_link}
use Rattle.nk_lex.specs.declared.ident.Ident.{Ident}
use Rattle.nk_lex.specs.Faults.{and_then}
use Rattle.nk_grammar.specs.Tree.{Tree}
use Rattle.nk_grammar.specs.File.{Declaration, field, tag, switch, declared_link, definition, fabric, virtual_link, IsWritten}
use Rattle.nk_names.specs.declared.fault.NamesError.{NamesError}
use Rattle.nk_names.specs.Declaring.{HasLets}
use Rattle.nk_names.specs.Meant.{Lets, policy_for}
use Rattle.nk_names.specs.ProgramOf.{DeclaredProgram, empty_program, declared_part, program_declaring, program_after, program_of, named_fault, virtual_fault}
use Rattle.nk_names.specs.ProgramValue.{IsLet, VirtualLink, AreVirtual}
use Rattle.nk_policy.specs.Ranges.{IsOverFields}
use Rattle.nk_names.specs.Complements.{NegatesPredicates}
use Rattle.nk_declare.specs.Declarations.{DeclaredValue, declared_with, link_with, values_of}
use Rattle.nk_declare.specs.Declarations as declare
use Rattle.nk_declare.proofs.Checks.{none_both}
use Rattle.nk_declare.proofs.Kept.{unless_ok, built_in_writable, table_more, table_tagged}
use Rattle.nk_names.proofs.Beside.{beside, beside_is, all_said}
use Rattle.nk_names.proofs.Good.{marked_again, size_marked, depth_marked, over_marked, over_in_range, negates_marked, over_more}
use Rattle.nk_names.proofs.Declarations.{faultless}
use Rattle.nk_names.proofs.Meanings.{named, over_meant, negates_meant}
use Rattle.nk_names.proofs.Fabrics.{free, no_fault_in, none_virtual, virtual_over_fields, virtual_with_fabric, virtual_with_link, virtual_with_switch}

-- a policy stays one over more fields
more_fields : (fields more : FieldTable) → ((f v : ℕ) → IsValue fields f v → IsValue more f v) → (p : Policy) → IsLet fields p → IsLet more p
more_fields fields more wider p h =
    let over = over_more fields more wider p h.over in
    record {
      numbered = h.numbered;
      small = h.small;
      shallow = h.shallow;
      over = over;
      in_range = over_in_range more p over;
      complements = h.complements;
    }

-- what holds of all, and then another
all_kept : {X : Type 0} (P Q : X → Type 0) (xs : List X) → ((x : X) → P x → Q x) → All P xs → All Q xs
all_kept P Q xs f h = λ k d lt. f (get_or xs k d) (h k d lt)

-- a value of a field is one with one more field
one_wider : (fields : FieldTable) (name : List ℕ) (max f v : ℕ) → IsValue fields f v → IsValue (with_field fields name max) f v
one_wider fields name max f v h =
    let kept : slice_index (fields.maxima ++ max ∷ []) f ≡ slice_index fields.maxima f = get_or_append_left fields.maxima (max ∷ []) 0 f h.0 in
    (omega (arith, h.0, length-append fields.maxima (max ∷ [])), omega (arith, h.1, kept))

-- the policy of a tree without fault is one of a program
let_is : (fields : FieldTable) (lets taken : Lets) (w : Ident) (t : Tree) (line : ℕ) → IsFieldTable fields
    → named_fault fields lets taken w t line ≡ None → All (λ l. IsLet fields l.1) lets → IsLet fields (marked_from (policy_for fields lets t) 1)
let_is fields lets taken w t line table none known =
    let f = faultless fields lets taken w t line none in
    let p = policy_for fields lets t in
    let over = over_marked fields p 1 (over_meant fields table lets (all_kept (λ l. IsLet fields l.1) (λ l. IsOverFields fields l.1) lets (λ l h. h.over) known) t f.known) in
    record {
      numbered = marked_again p 1 1;
      small = omega (arith, size_marked p 1, f.small);
      shallow = omega (arith, depth_marked p 1, f.shallow);
      over = over;
      in_range = over_in_range fields (marked_from p 1) over;
      complements = negates_marked p 1 (negates_meant fields lets (all_kept (λ l. IsLet fields l.1) (λ l. NegatesPredicates l.1) lets (λ l h. h.complements) known) t f.placed);
    }

-- other links change no port
over_links : (fields : FieldTable) (topo : Topology) (links : List Link) (fabrics : Lets) (virtuals : List VirtualLink)
    → AreVirtual fields topo fabrics virtuals → AreVirtual fields (record topo { links = links }) fabrics virtuals
over_links fields topo links fabrics virtuals h = record {
  policies = h.policies;
  over = h.over;
  sources = h.sources;
  targets = h.targets;
  one_from = h.one_from;
  one_to = h.one_to;
}

-- a sum of no part is a policy of any program
drop_is : (fields : FieldTable) → IsLet fields (sum_of no_part)
drop_is fields = record {
  numbered = refl;
  small = omega arith;
  shallow = omega arith;
  over = tt;
  in_range = tt;
  complements = tt;
}

-- one more declaration keeps that
lets_kept : (s t : DeclaredProgram) (d : Declaration) → HasLets s → IsWritten d → program_declaring s d ≡ Ok t → HasLets t
lets_kept s t (field w n) good written h =
    let r = beside_is s (declared_with (declared_part s) (declare.field w n)) t h in
    let u = unless_ok _ _ r.0 r.1 in
    subst HasLets r.2
    (subst (λ (d : DeclaredValue). HasLets (beside s d)) u.1 (record {
      table = table_more s.fields w n.value good.table u.0;
      maxima = All-push (λ m. m ≤ 281474976710655) s.fields.maxima n.value good.maxima written;
      policies = all_kept (λ l. IsLet s.fields l.1) (λ l. IsLet (with_field s.fields w.text n.value) l.1) s.lets (λ l g. more_fields s.fields (with_field s.fields w.text n.value) (one_wider s.fields w.text n.value) l.1 g) good.policies;
      virtuals = virtual_over_fields s.fields (with_field s.fields w.text n.value) s.topo s.fabrics s.virtuals (more_fields s.fields (with_field s.fields w.text n.value) (one_wider s.fields w.text n.value)) good.virtuals;
    }))
lets_kept s t (tag w) good written h =
    let more : FieldTable = record s.fields { tag = field_named s.fields w.text } in
    let r = beside_is s (declared_with (declared_part s) (declare.tag w)) t h in
    let u = unless_ok _ _ r.0 r.1 in
    subst HasLets r.2
    (subst (λ (d : DeclaredValue). HasLets (beside s d)) u.1 (record {
      table = table_tagged s.fields w good.table u.0;
      maxima = good.maxima;
      policies = all_kept (λ l. IsLet s.fields l.1) (λ l. IsLet more l.1) s.lets (λ l g. more_fields s.fields more (λ f v x. x) l.1 g) good.policies;
      virtuals = virtual_over_fields s.fields more s.topo s.fabrics s.virtuals (more_fields s.fields more (λ f v x. x)) good.virtuals;
    }))
lets_kept s t (switch n ps) good written h =
    let r = beside_is s (declared_with (declared_part s) (declare.switch n ps)) t h in
    let u = unless_ok _ _ r.0 r.1 in
    subst HasLets r.2
    (subst (λ (d : DeclaredValue). HasLets (beside s d)) u.1
    (record {
      table = good.table;
      maxima = good.maxima;
      policies = good.policies;
      virtuals = virtual_with_switch s.fields s.topo n.value (values_of ps) s.fabrics s.virtuals good.virtuals;
    }))
lets_kept s t (declared_link a m b n) good written h =
    let r = beside_is s (declared_with (declared_part s) (declare.link a m b n)) t h in
    let u = unless_ok _ _ r.0 r.1 in
    subst HasLets r.2
    (subst (λ (d : DeclaredValue). HasLets (beside s d)) u.1
    (record { table = good.table; maxima = good.maxima; policies = good.policies; virtuals = over_links s.fields s.topo (with_link s.topo (link_with a m b n)).links s.fabrics s.virtuals good.virtuals }))
lets_kept s t (definition w p line) good written h =
    let u = unless_ok (named_fault s.fields s.lets s.lets w p line) _ t h in
    subst HasLets u.1 (record {
      table = good.table;
      maxima = good.maxima;
      policies = All-push (λ l. IsLet s.fields l.1) s.lets (w.text, marked_from (policy_for s.fields s.lets p) 1) good.policies (let_is s.fields s.lets s.lets w p line good.table u.0 good.policies);
      virtuals = good.virtuals;
    })
lets_kept s t (fabric w p line) good written h =
    let u = unless_ok (named_fault s.fields s.lets s.fabrics w p line) _ t h in
    subst HasLets u.1 (record {
      table = good.table;
      maxima = good.maxima;
      policies = good.policies;
      virtuals = virtual_with_fabric s.fields s.topo s.fabrics s.virtuals w.text (marked_from (policy_for s.fields s.lets p) 1)
          (let_is s.fields s.lets s.fabrics w p line good.table u.0 good.policies) good.virtuals;
    })
lets_kept s t (virtual_link a m b n w) good written h =
    let u = unless_ok (virtual_fault s.topo s.fabrics s.virtuals a m b n w) _ t h in
    let parts = none_both _ _ u.0 in
    subst HasLets u.1 (record {
      table = good.table;
      maxima = good.maxima;
      policies = good.policies;
      virtuals = virtual_with_link s.fields s.topo s.fabrics s.virtuals a m b n w
          (free s.topo s.virtuals a m b n (no_fault_in _ parts.0))
          (named (IsLet s.fields) s.fabrics w.text good.virtuals.policies (drop_is s.fields)) good.virtuals;
    })

-- before the first declaration
none_has_lets : HasLets empty_program
none_has_lets = record {
  table = built_in_writable.table;
  maxima = built_in_writable.maxima;
  policies = All-nil (λ l. IsLet built_in l.1);
  virtuals = none_virtual built_in no_topology;
}

-- what declarations say that were read from the tokens of a text
pub program_has_lets : (ds : List Declaration) (s : DeclaredProgram) → All IsWritten ds → program_of ds ≡ Ok s → HasLets s
program_has_lets ds s written h =
    all_said HasLets IsWritten lets_kept ds empty_program s none_has_lets (recursion_from_All IsWritten ds written) h

-- one more declaration after others
pub program_one_more : (ds : List Declaration) (d : Declaration) (s : DeclaredProgram)
    → program_after (ds ++ d ∷ []) s ≡ and_then (program_after ds s) (λ x. program_declaring x d)
program_one_more [] d s = alone (program_declaring s d)
  where
    alone : (r : Result DeclaredProgram NamesError) → and_then r (program_after []) ≡ r
    alone (Ok x) = refl
    alone (Err e) = refl
program_one_more (c ∷ ds) d s = by (program_declaring s c) (program_one_more ds d)
  where
    by : (r : Result DeclaredProgram NamesError)
        → ((x : DeclaredProgram) → program_after (ds ++ d ∷ []) x ≡ and_then (program_after ds x) (λ y. program_declaring y d))
        → and_then r (program_after (ds ++ d ∷ [])) ≡ and_then (and_then r (program_after ds)) (λ y. program_declaring y d)
    by (Ok x) h = h x
    by (Err e) h = refl
