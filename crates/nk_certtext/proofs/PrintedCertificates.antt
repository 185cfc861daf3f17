-- The certificate that is printed for two policies is one whose text is read back.
use Rattle.std.proofs.Common.{◌≡◌, ◌≢◌, true, ℕ, ◌+◌, ◌<◌, ◌≤◌, inl, inr, List, [], ◌∷◌, ◌++◌, length, get_or, refl, sym, ap, subst, ◌∙◌, arith}
use Rattle.std.proofs.lemmas.List.Elements.{Contains-get_or}
use Rattle.nk_field.specs.declared.packet.Packet.{Packet}
use Rattle.nk_field.specs.Packet.{FieldTable, IsFieldTable}
use Rattle.nk_field.specs.Order.{IsListedBefore}
use Rattle.nk_field.proofs.Lists.{in_from_contains}
use Rattle.nk_field.proofs.Ascending.{members_from_all}
use Rattle.nk_policy.specs.Policy.{Policy, dups_of, is_predicate, marked_from}
use Rattle.nk_policy.specs.After.{id_policy, has_dup}
use Rattle.nk_policy.specs.Labels.{HasRecorded}
use Rattle.nk_policy.proofs.Numbering.{number_within}
use Rattle.nk_policy.proofs.Splitting.{holds_dup}
use Rattle.nk_names.specs.ReadBack.{IsReadablePredicate, DeclaresWritable}
use Rattle.nk_cert.specs.Certificates.{RowValue}
use Rattle.nk_cert.specs.Together.{AreNumbered, IsAtEither}
use Rattle.nk_cert.specs.Printed.{IsMet, IsPredicateOf, IsRowBefore}
use Rattle.nk_certtext.specs.ReadBack.{IsReadableRow, ReadsPrintedCertificates}
use Rattle.nk_cert.proofs.Printing.{row_cases}
use Rattle.nk_certtext.specs.Printed.{AreCompared, PrintsPrintable, PrintsPredicates, ReadsPrintedFor}
use Rattle.nk_certtext.proofs.PrintedSets.{printed_is_readable}

-- where a run is is one of the policy's dups, which are numbered from n on
at_within : (p : Policy) (n : ℕ) (pk : Packet) (u : List Packet) (l : ℕ) → marked_from p n ≡ p → HasRecorded p pk u l
    → l < n + dups_of p
at_within p n pk u l e a = (number_within p n l (ap (λ r. has_dup r l) e ∙ holds_dup p pk a.0 a.1 l a.3)).1

-- so it is where a run of either policy is
either_within : (p q : Policy) → AreNumbered p q → (pk : Packet) (u : List Packet) (l : ℕ) → IsAtEither p q pk u l
    → l < 1 + dups_of p + dups_of q
either_within p q numbered pk u l (inl a) =
    let lt = at_within p 1 pk u l numbered.left a in omega (arith, lt)
either_within p q numbered pk u l (inr a) =
    let lt = at_within q (1 + dups_of p) pk u l numbered.right a in omega (arith, lt)

-- the predicate of all packets
identity_is_readable : (fields : FieldTable) → IsReadablePredicate fields id_policy
identity_is_readable fields = record { predicate = refl; over = tt; shallow = omega arith; no_lone_part = (tt, tt) }

-- a list that isn't empty
some_length : (xs : List ℕ) → xs ≢ [] → 1 ≤ length xs
some_length [] h = absurd (h refl)
some_length (x ∷ xs) h = omega arith

-- a row of a set that is met
row_is : (fields : FieldTable) (p q : Policy) (row : RowValue) (u : List Packet) (x : Packet) → IsFieldTable fields
    → AreCompared p q → IsMet fields p q row.positions u x
    → IsPredicateOf fields p q row.positions row.predicate → IsReadableRow fields row
row_is fields p q row u x table compared met printed = record {
  some = some_length row.positions met.2;
  small = λ k d lt.
      let at = (met.3.1 (get_or row.positions k d)).0 (Contains-get_or row.positions k d lt) in
      let few = compared.few in
      let less = either_within p q compared.numbered met.0 (u ++ x ∷ []) (get_or row.positions k d) at in
      omega (arith, less, few);
  ascend = met.3.0;
  predicate = subst (IsReadablePredicate fields) (sym printed.2) (printed_is_readable fields table printed.0 printed.1.reduced);
}

-- no list comes before itself
not_before_itself : (s : List ℕ) → IsListedBefore s s → ⊥
not_before_itself [] h = h
not_before_itself (x ∷ xs) (inl lt) = omega (arith, lt)
not_before_itself (x ∷ xs) (inr e) = not_before_itself xs e.1

-- rows in order have different positions
rows_apart : (fields : FieldTable) (p q : Policy) (a b : RowValue) → IsRowBefore fields p q a b → a.positions ≢ b.positions
rows_apart fields p q a b r = λ e. elim r.4 [
  | inl lt ↦
      let first = r.2.0 in
      r.3.1 first.0 first.1 (subst (λ l. IsMet fields p q l first.0 first.1) e first.3) (let l = first.2 in omega (arith, l, lt))
  | inr same ↦ not_before_itself b.positions (subst (λ l. IsListedBefore l b.positions) e same.1)
]

pub prints_printable : PrintsPrintable
prints_printable fields table p q compared c h = record {
  start = subst (IsReadablePredicate fields) (sym h.start) (identity_is_readable fields);
  rows = λ k d lt.
      let row = get_or c.rows k d in
      let stands = Contains-get_or c.rows k d lt in
      let met = h.each_is_met row stands in
      row_is fields p q row met.0 met.1 table compared met.2 (h.predicates row stands);
  apart = λ i j d lt short. rows_apart fields p q (get_or c.rows i d) (get_or c.rows j d) (h.in_order i j d lt short);
}

-- so each of its rows has a predicate
pub prints_predicates : PrintsPredicates
prints_predicates fields table p q compared c h =
    let ok = prints_printable fields table p q compared c h in
    row_cases (λ z. is_predicate z.predicate ≡ true) c ok.start.predicate
    (λ r i. (members_from_all (IsReadableRow fields) c.rows ok.rows r (in_from_contains c.rows r i)).predicate.predicate)

-- and it is read back where such certificates are
pub reads_printed_for : ReadsPrintedCertificates → DeclaresWritable → ReadsPrintedFor
reads_printed_for reads writable text ts ds s p q c cut read said compared h =
    reads text ts ds s c cut read said
    (prints_printable s.fields (writable text ts ds s cut read said).table p q compared c h)
