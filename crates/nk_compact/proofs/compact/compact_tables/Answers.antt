use Rattle.std.proofs.Common.{◌≡◌, ◌<◌, ◌≤◌, ◌+◌, ◌∙◌, ℕ, suc, Some, List, length, sym, ap, subst, refl, arith}
use Rattle.std.specs.Prelude.{All, slice_index}
use Rattle.nk_policy.specs.Tree.{tree_of}
use Rattle.nk_names.specs.Accepted.{IsStartPacket, most_tags}
use Rattle.nk_store.proofs.Stores.{grows_on}
use Rattle.nk_group.proofs.Growing.{sets_grow_on}
use Rattle.nk_group.specs.Tagged.{set_of_tag}
use Rattle.nk_merge.specs.Classes.{AreFirsts}
use Rattle.nk_compile.specs.Ready.{sets_of}
use Rattle.nk_compile.proofs.Levelled.{prepared_unopposed, prepared_compilable}
use Rattle.nk_compact.specs.MergedTable.{IsMergedTable}
use Rattle.nk_compact.specs.Compacted.{AreDistinguishingHistories}
use Rattle.nk_compact.specs.Mergeable.{IsMetPackets}
use Rattle.nk_compact.specs.Told.{AreDistinguished, first_pairs}
use Rattle.nk_compact.proofs.AlikeTags.{told_all}
use Rattle.nk_compact.proofs.Compacting.{distinct, known, tags_are, labels_small, level_ids, level_sets, states_there, over_there, auto_there, known_there, places_there, sets_there, dups_there, base_there, classes_there, met_there, mergeable_there, classes_few, firsts_in, classes_differ}
use Rattle.nk_compact.proofs.Merging.{get_index}
use Rattle.nk_compact.proofs.Distinguishing.{base_on}
use Rattle.nk_compact.proofs.compact.compact_tables.Goals as goal

pub met_packets-requires-clause-known : goal.met_packets-requires-clause-known
met_packets-requires-clause-known c =
    let r = c.requires.prepared in
    known c.args.fields.now c.args.topo.now r.0 (tree_of c.args.p.now) _ r.2 c.requires.held.few_dups c.args.tags.now c.requires.numbers

pub met_packets-requires-clause-ids : goal.met_packets-requires-clause-ids
met_packets-requires-clause-ids c =
    let r = c.requires.prepared in
    level_ids c.args.fields.now c.args.topo.now r.0 (tree_of c.args.p.now) _ r.2 c.requires.held.few_dups c.args.tags.now c.requires.numbers

pub met_packets-requires-clause-sets : goal.met_packets-requires-clause-sets
met_packets-requires-clause-sets c =
    let r = c.requires.prepared in
    level_sets c.args.fields.now c.args.topo.now r.0 (tree_of c.args.p.now) _ r.2 c.requires.held.few_dups c.args.tags.now c.requires.numbers

pub met_packets-requires-clause-room : goal.met_packets-requires-clause-room
met_packets-requires-clause-room c =
    let r = c.requires.prepared in
    labels_small c.args.fields.now c.args.topo.now r.0 (tree_of c.args.p.now) _ r.2 c.requires.held.few_dups c.args.tags.now c.requires.numbers

pub new-requires-clause-states : goal.new-requires-clause-states
new-requires-clause-states c =
    let r = c.requires.prepared in
    states_there c.args.fields.now c.args.topo.now r.0 (tree_of c.args.p.now) _ r.2 c.requires.held.few_dups c.args.tags.now c.requires.numbers
    c.met_packets.new.st c.met_packets.new.ss c.met_packets.ensures.grows c.met_packets.ensures.sets

pub classes_of-requires-clause-known : goal.classes_of-requires-clause-known
classes_of-requires-clause-known c =
    let r = c.requires.prepared in
    known_there c.args.fields.now c.args.topo.now r.0 (tree_of c.args.p.now) _ r.2 c.requires.held.few_dups c.args.tags.now c.requires.numbers
    c.new.new.st c.met_packets.new.ss (grows_on _ _ _ c.met_packets.ensures.grows c.new.ensures.grows) c.met_packets.ensures.sets

pub classes_of-requires-clause-places : goal.classes_of-requires-clause-places
classes_of-requires-clause-places c =
    let r = c.requires.prepared in
    places_there c.args.fields.now c.args.topo.now r.0 (tree_of c.args.p.now) _ r.2 c.requires.held.few_dups c.args.tags.now c.requires.numbers
    c.new.new.st c.met_packets.new.ss (grows_on _ _ _ c.met_packets.ensures.grows c.new.ensures.grows) c.met_packets.ensures.sets

pub returns-then-len-max-clause-error : goal.returns-then-len-max-clause-error
returns-then-len-max-clause-error c =
    let r = c.requires.prepared in
    let p = tree_of c.args.p.now in
    let alone = prepared_unopposed c.args.fields.now c.args.topo.now r.0 p _ r.2 in
    let fm = c.in_ok-classes.ensures.firsts in
    let many = c.if-len-max.true in
    let is = c.len.ensures in
    let inside : c.args.max < length c.in_ok-classes.classes.firsts = omega (arith, many, is) in
    let member = fm.member c.args.max inside in
    let next : c.args.max + 1 ≡ suc c.args.max = omega arith in (
      alone.0,
      alone.1,
      ap (λ n. n + 1) (r.1 ∙ sym (ap (most_tags c.args.fields.now) r.2.begun.clear.tag_is)),
      (
        sets_of c.args.ss.now c.args.tags.now,
        c.in_ok-classes.classes.numbers,
        tags_are c.args.fields.now c.args.topo.now r.0 p _ r.2 c.requires.held.few_dups c.args.tags.now c.requires.numbers,
        classes_there c.args.fields.now c.args.topo.now r.0 p _ r.2 c.requires.held.few_dups c.args.tags.now c.requires.numbers
            c.new.new.st c.met_packets.new.ss (grows_on _ _ _ c.met_packets.ensures.grows c.new.ensures.grows) c.met_packets.ensures.sets
            c.in_ok-classes.classes.numbers c.laws.ensures.tidy c.in_ok-classes.ensures.classes,
        (slice_index c.in_ok-classes.classes.firsts c.args.max, get_index c.in_ok-classes.classes.numbers (slice_index c.in_ok-classes.classes.firsts c.args.max) member.0 ∙ ap Some (member.1 ∙ sym next)),
      ),
    )

-- the first members are tags
within : (c : goal.After-as_slice) → All (λ i. i < length c.args.tags.now) c.as_slice.result.now
within c =
    subst (All (λ i. i < length c.args.tags.now)) (sym c.as_slice.ensures)
    (firsts_in c.in_ok-classes.classes.numbers c.in_ok-classes.classes.firsts (length c.args.tags.now) c.in_ok-classes.ensures.firsts c.in_ok-classes.ensures.classes.one_each)

pub distinguishing_histories-requires-clause-base : goal.distinguishing_histories-requires-clause-base
distinguishing_histories-requires-clause-base c =
    let r = c.requires.prepared in
    base_there c.args.fields.now c.args.topo.now r.0 (tree_of c.args.p.now) _ r.2 c.requires.held.few_dups c.args.tags.now c.requires.numbers
    c.classes_of.new.st c.classes_of.new.ss (grows_on _ _ _ c.met_packets.ensures.grows (grows_on _ _ _ c.new.ensures.grows c.classes_of.ensures.grows))
    (sets_grow_on c.args.ss.now c.met_packets.new.ss c.classes_of.new.ss c.met_packets.ensures.sets c.classes_of.ensures.sets) c.as_slice.result.now (within c)

pub distinguishing_histories-requires-clause-different : goal.distinguishing_histories-requires-clause-different
distinguishing_histories-requires-clause-different c =
    let r = c.requires.prepared in
    classes_differ c.new.new.st c.classes_of.new.st c.met_packets.new.ss c.classes_of.new.ss c.args.states.now c.args.tags.now c.in_ok-classes.classes.numbers c.as_slice.result.now
    (base_on c.new.new.st c.met_packets.new.ss c.new.new.st c.met_packets.new.ss c.args.states.now c.args.tags.now c.as_slice.result.now
    (base_there c.args.fields.now c.args.topo.now r.0 (tree_of c.args.p.now) _ r.2 c.requires.held.few_dups c.args.tags.now c.requires.numbers
    c.new.new.st c.met_packets.new.ss (grows_on _ _ _ c.met_packets.ensures.grows c.new.ensures.grows) c.met_packets.ensures.sets c.as_slice.result.now (within c))
    c.classes_of.new.st c.classes_of.new.ss c.classes_of.ensures.grows c.classes_of.ensures.sets)
    c.in_ok-classes.ensures.classes (subst (AreFirsts c.in_ok-classes.classes.numbers) (sym c.as_slice.ensures) c.in_ok-classes.ensures.firsts)

pub merged_tables-requires : goal.merged_tables-requires
merged_tables-requires c =
    let r = c.requires.prepared in
    let late = grows_on _ _ _ c.new.ensures.grows (grows_on _ _ _ c.classes_of.ensures.grows c.distinguishing_histories.ensures.grows) in
    let grown = grows_on _ _ _ c.met_packets.ensures.grows late in
    let sets = sets_grow_on c.args.ss.now c.met_packets.new.ss c.distinguishing_histories.new.ss c.met_packets.ensures.sets (sets_grow_on c.met_packets.new.ss c.classes_of.new.ss c.distinguishing_histories.new.ss c.classes_of.ensures.sets c.distinguishing_histories.ensures.sets) in
    record {
      mergeable = (
        c.args.fields.now,
        r.0,
        mergeable_there c.args.fields.now c.args.topo.now r.0 (tree_of c.args.p.now) _ r.2 c.requires.held.few_dups c.args.tags.now c.requires.numbers
            c.distinguishing_histories.new.st c.distinguishing_histories.new.ss grown sets c.requires.held.in_range c.differ.ensures.ascend c.laws-3.ensures.fields
            c.in_ok-classes.classes.numbers c.in_ok-classes.classes.firsts c.as_slice-2.result.now
            (classes_there c.args.fields.now c.args.topo.now r.0 (tree_of c.args.p.now) _ r.2 c.requires.held.few_dups c.args.tags.now c.requires.numbers
            c.new.new.st c.met_packets.new.ss (grows_on _ _ _ c.met_packets.ensures.grows c.new.ensures.grows) c.met_packets.ensures.sets
            c.in_ok-classes.classes.numbers c.laws.ensures.tidy c.in_ok-classes.ensures.classes)
            c.in_ok-classes.ensures.firsts
            (ap (λ (l : List ℕ). length l) c.as_slice-2.ensures ∙ c.in_ok-met.ensures.len)
            (λ i lt. subst (λ l. IsMetPackets c.args.fields.now c.args.topo.now (tree_of c.args.p.now) (set_of_tag c.distinguishing_histories.new.ss c.args.tags.now i) c.distinguishing_histories.new.st (slice_index l i)) (sym c.as_slice-2.ensures)
            (met_there c.args.fields.now c.args.topo.now r.0 (tree_of c.args.p.now) _ r.2 c.requires.held.few_dups c.args.tags.now c.requires.numbers
            c.distinguishing_histories.new.st c.distinguishing_histories.new.ss grown sets c.met_packets.new.st (slice_index c.in_ok-met.met i) i c.met_packets.ensures.grows late lt (c.in_ok-met.ensures.met i lt))),
      );
    }

pub returns-clause-made : goal.returns-clause-made
returns-clause-made c =
    let r = c.requires.prepared in
    let p = tree_of c.args.p.now in
    let fm = c.in_ok-classes.ensures.firsts in
    let k = c.in_ok-classes.ensures.classes in
    let late = grows_on _ _ _ c.new.ensures.grows (grows_on _ _ _ c.classes_of.ensures.grows c.distinguishing_histories.ensures.grows) in
    let grown = grows_on _ _ _ c.met_packets.ensures.grows late in
    let sets = sets_grow_on c.args.ss.now c.met_packets.new.ss c.distinguishing_histories.new.ss c.met_packets.ensures.sets (sets_grow_on c.met_packets.new.ss c.classes_of.new.ss c.distinguishing_histories.new.ss c.classes_of.ensures.sets c.distinguishing_histories.ensures.sets) in
    let early = grows_on _ _ _ c.met_packets.ensures.grows (grows_on _ _ _ c.new.ensures.grows c.classes_of.ensures.grows) in
    let early_sets = sets_grow_on c.args.ss.now c.met_packets.new.ss c.classes_of.new.ss c.met_packets.ensures.sets c.classes_of.ensures.sets in
    let less = c.if-len-max.false in
    let is = c.len.ensures in
    let few : length c.in_ok-classes.classes.firsts ≤ c.args.max = omega (arith, less, is) in
    record {
      tags = sets_of c.args.ss.now c.args.tags.now;
      classes = c.in_ok-classes.classes.numbers;
      compilable = prepared_compilable c.args.fields.now c.args.topo.now r.0 p _ r.2;
      merged =
          subst (λ l. IsMergedTable c.args.fields.now c.args.topo.now (IsStartPacket c.args.fields.now c.args.topo.now) p l c.in_ok-classes.classes.numbers (record { fields = c.in_ok-fields.fields; topo = c.in_ok-topo.topo; tables = c.in_ok-tables.tables }))
          (sets_there c.args.fields.now c.args.topo.now r.0 (tree_of c.args.p.now) _ r.2 c.requires.held.few_dups c.args.tags.now c.requires.numbers c.distinguishing_histories.new.st c.distinguishing_histories.new.ss grown sets)
          (c.in_ok-tables.ensures c.args.fields.now r.0
          (mergeable_there c.args.fields.now c.args.topo.now r.0 (tree_of c.args.p.now) _ r.2 c.requires.held.few_dups c.args.tags.now c.requires.numbers
          c.distinguishing_histories.new.st c.distinguishing_histories.new.ss grown sets c.requires.held.in_range c.differ.ensures.ascend c.laws-3.ensures.fields
          c.in_ok-classes.classes.numbers c.in_ok-classes.classes.firsts c.as_slice-2.result.now
          (classes_there c.args.fields.now c.args.topo.now r.0 (tree_of c.args.p.now) _ r.2 c.requires.held.few_dups c.args.tags.now c.requires.numbers
          c.new.new.st c.met_packets.new.ss (grows_on _ _ _ c.met_packets.ensures.grows c.new.ensures.grows) c.met_packets.ensures.sets
          c.in_ok-classes.classes.numbers c.laws.ensures.tidy k)
          fm
          (ap (λ (l : List ℕ). length l) c.as_slice-2.ensures ∙ c.in_ok-met.ensures.len)
          (λ i lt. subst (λ l. IsMetPackets c.args.fields.now c.args.topo.now p (set_of_tag c.distinguishing_histories.new.ss c.args.tags.now i) c.distinguishing_histories.new.st (slice_index l i)) (sym c.as_slice-2.ensures)
          (met_there c.args.fields.now c.args.topo.now r.0 (tree_of c.args.p.now) _ r.2 c.requires.held.few_dups c.args.tags.now c.requires.numbers
          c.distinguishing_histories.new.st c.distinguishing_histories.new.ss grown sets c.met_packets.new.st (slice_index c.in_ok-met.met i) i c.met_packets.ensures.grows late lt (c.in_ok-met.ensures.met i lt))))
          (record { fields = c.in_ok-fields.fields; topo = c.in_ok-topo.topo; tables = c.in_ok-tables.tables }) c.in_ok-fields.ensures c.in_ok-topo.ensures refl);
      few = λ i.
          subst (λ m. slice_index c.in_ok-classes.classes.numbers i ≤ m) (r.1 ∙ sym (ap (most_tags c.args.fields.now) r.2.begun.clear.tag_is))
          (classes_few c.in_ok-classes.classes.numbers c.in_ok-classes.classes.firsts c.args.max fm few i);
      apart =
          subst (λ l. AreDistinguishingHistories c.args.fields.now p l c.in_ok-classes.classes.numbers c.in_ok-aparts.aparts)
          (sets_there c.args.fields.now c.args.topo.now r.0 (tree_of c.args.p.now) _ r.2 c.requires.held.few_dups c.args.tags.now c.requires.numbers c.classes_of.new.st c.classes_of.new.ss early early_sets)
          (told_all c.args.fields.now p (distinct c.args.fields.now c.args.topo.now r.0 (tree_of c.args.p.now) _ r.2 c.requires.held.few_dups c.args.tags.now c.requires.numbers) c.classes_of.new.st c.args.states.now
          (over_there c.args.fields.now c.args.topo.now r.0 (tree_of c.args.p.now) _ r.2 c.requires.held.few_dups c.args.tags.now c.requires.numbers c.classes_of.new.st c.classes_of.new.ss early early_sets)
          (auto_there c.args.fields.now c.args.topo.now r.0 (tree_of c.args.p.now) _ r.2 c.requires.held.few_dups c.args.tags.now c.requires.numbers c.classes_of.new.st c.classes_of.new.ss early early_sets)
          c.laws-2.ensures.tidy c.classes_of.new.ss c.args.tags.now c.in_ok-classes.classes.numbers c.in_ok-classes.classes.firsts
          (dups_there c.args.fields.now c.args.topo.now r.0 (tree_of c.args.p.now) _ r.2 c.requires.held.few_dups c.args.tags.now c.requires.numbers c.classes_of.new.st c.classes_of.new.ss early early_sets)
          k.one_each k.from_one fm c.in_ok-aparts.aparts
          (subst (λ (l : List ℕ). AreDistinguished c.classes_of.new.st c.args.states.now c.classes_of.new.ss c.args.tags.now l (first_pairs (length l) (length l)) c.in_ok-aparts.aparts) c.as_slice.ensures c.in_ok-aparts.ensures.told));
    }
