use Rattle.std.proofs.Common.{◌≡◌, ◌+◌, ◌∙◌, sym, ap, subst, length, slice_get, Some, false, true, eqb, if◌then◌else◌}
use Rattle.std.specs.List.{list_any, IsDistinct}
use Rattle.std.specs.Map.{lookup}
use Rattle.std.specs.Option.{unwrap_or}
use Rattle.std.proofs.lemmas.Option.{slice_get_within}
use Rattle.nk_store.specs.UniqueTables.{items_of, item_place, IsLast, IsUniqueTable}
use Rattle.nk_store.proofs.UniqueTables.{place_is, place_after, found_keeps, found_in, items_length, stored_last, table_more}
use Rattle.nk_store.proofs.unique_table.UniqueTable.intern.Goals as goal

pub returns-in-Some-clause-keys : goal.returns-in-Some-clause-keys
returns-in-Some-clause-keys g c =
    let f = found_in g.T.PartialEq.eq _ _ _ _ _ c.as_slice.ensures.value c.self.view_is c.in-Some.ensures.found in
    found_keeps g.T.PartialEq.eq c.args.self.now c.in-Some.index f.0 c.args.item f.1 f.2

pub returns-in-Some-clause-index : goal.returns-in-Some-clause-index
returns-in-Some-clause-index g c =
    let f = found_in g.T.PartialEq.eq _ _ _ _ _ c.as_slice.ensures.value c.self.view_is c.in-Some.ensures.found in
    place_is g.met.T.Eq.laws c.args.self.now c.in-Some.index f.0 c.args.item (subst (IsDistinct g.T.PartialEq.eq) c.self.view_is c.self.invariant.once) f.1 f.2

pub returns-in-Some-clause-within : goal.returns-in-Some-clause-within
returns-in-Some-clause-within g c =
    let f = found_in g.T.PartialEq.eq _ _ _ _ _ c.as_slice.ensures.value c.self.view_is c.in-Some.ensures.found in
    slice_get_within _ _ _ f.1

-- no entry has the item
absent : (g : _) (c : goal.In_ok-push_entry g) → list_any (g.T.PartialEq.eq c.args.item) (items_of c.self.inside.entries.items) ≡ false
absent g c = subst (λ es. list_any (g.T.PartialEq.eq c.args.item) (items_of es) ≡ false) c.as_slice.ensures.value c.in_default.ensures.absent

-- the entry that comes leads to the last one of its digest
last : (g : _) (c : goal.In_ok-push_entry g) →
    IsLast g.T.Digest.number c.self.inside.entries.items (length c.self.inside.entries.items) (g.T.Digest.number c.args.item) c.last_with-last.result
last g c =
    subst (λ n. IsLast g.T.Digest.number c.self.inside.entries.items (length c.self.inside.entries.items) (g.T.Digest.number c.args.item) n)
    (sym (c.last_with-last.ensures ∙ ap (λ d. unwrap_or (lookup (eqb d) c.self.inside.latest.entries) 0) c.digest-digest.ensures))
    (c.self.invariant.last (g.T.Digest.number c.args.item))

-- the item that comes has the place after the others
comes_at : (g : _) (c : goal.In_ok-push_entry g) → c.len-index.result ≡ length c.self.inside.entries.items
comes_at g c = c.len-index.ensures ∙ sym c.as_slice.ensures.len ∙ ap length c.as_slice.ensures.value

pub invariant_of-self-2 : goal.invariant_of-self-2
invariant_of-self-2 g c =
    subst (λ es. IsUniqueTable g.T.PartialEq.eq g.T.Digest.number es c.push_entry.new.latest.entries) (sym c.in_ok-push_entry.ensures.entries)
    (table_more g.met.T.Eq.laws g.T.Digest.number c.self.inside.entries.items _ c.self.inside.latest.entries c.push_entry.new.latest.entries c.self.invariant (absent g c) (last g c)
    (λ d. subst (λ n. lookup (eqb d) c.push_entry.new.latest.entries ≡ (if eqb n d then Some (length c.self.inside.entries.items + 1) else lookup (eqb d) c.self.inside.latest.entries))
    c.digest-digest.ensures (c.in_ok-push_entry.ensures.latest d)))

pub returns-clause-index : goal.returns-clause-index
returns-clause-index g c =
    comes_at g c ∙ sym (items_length c.self.inside.entries.items) ∙ place_after g.T.PartialEq.eq _ c.args.item (absent g c)
    ∙ ap (λ xs. item_place g.T.PartialEq.eq xs c.args.item) c.self.view_is

pub returns-clause-stored : goal.returns-clause-stored
returns-clause-stored g c =
    subst (λ i. (k : _) × (slice_get (items_of c.push_entry.new.entries.items) i ≡ Some k) × (g.T.PartialEq.eq c.args.item k ≡ true)) (sym (comes_at g c))
    (stored_last g.met.T.Eq.laws c.self.inside.entries.items c.push_entry.new.entries.items _ c.in_ok-push_entry.ensures.entries)

pub returns-clause-unique : goal.returns-clause-unique
returns-clause-unique g c = (invariant_of-self-2 g c).once
