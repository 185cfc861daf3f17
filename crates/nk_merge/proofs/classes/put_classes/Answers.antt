use Rattle.std.proofs.Common.{◌≡◌, ℕ, ◌+◌, ◌<◌, suc, [], length, get_or, sym, ap, subst, ◌∙◌, arith, List}
use Rattle.std.specs.Prelude.{slice_index}
use Rattle.std.proofs.lemmas.List.{get_or_default}
use Rattle.nk_store.specs.StoreState.{Grows}
use Rattle.nk_store.proofs.Stores.{grows_on}
use Rattle.nk_determ.proofs.Interned.{sets_on}
use Rattle.nk_merge.specs.Alike.{labels_after, tag_set, AreAlike, AreTagsAlike}
use Rattle.nk_merge.specs.Classes.{AreClasses}
use Rattle.nk_merge.specs.Seen.{DoesTogether}
use Rattle.nk_merge.proofs.Growing.{disjoint_on}
use Rattle.nk_merge.proofs.Sorting.{firsts_within, sets_alike_back, sets_alike_on, few_firsts, classes_more, firsts_more, seen_then, seen_next}
use Rattle.nk_merge.proofs.classes.put_classes.Goals as goal

pub class_by-requires-clause-disjoint : goal.class_by-requires-clause-disjoint
class_by-requires-clause-disjoint c = disjoint_on c.loop-i.st c.diagram_after.new.st c.args.states.now c.loop-i.disjoint c.diagram_after.ensures.grows c.loop-i.invariant.disjoint

pub class_by-requires-clause-seen : goal.class_by-requires-clause-seen
class_by-requires-clause-seen c =
    seen_then c.args.st.now c.loop-i.st c.diagram_after.new.st c.args.ss.now c.loop-i.ss c.args.states.now c.args.tags.now c.loop-i.all.numbers c.loop-i.all.firsts c.as_slice-firsts.result.now c.loop-i.i c.loop-i.seen.entries
    c.loop-i.invariant.grows c.diagram_after.ensures.grows c.loop-i.invariant.sets c.requires.disjoint.states_are c.requires.known c.requires.places c.loop-i-test.true
    c.loop-i.invariant.firsts c.loop-i.invariant.classes.one_each c.as_slice-firsts.ensures c.loop-i.invariant.seen

pub loop-i-preserved : goal.loop-i-preserved
loop-i-preserved c =
    let old = c.args.st.now in
    let mid = c.diagram_after.new.st in
    let ss = c.args.ss.now in
    let states = c.args.states.now in
    let tags = c.args.tags.now in
    let i = c.loop-i.i in
    let firsts = c.loop-i.all.firsts in
    let grown : Grows old mid = grows_on _ _ _ c.loop-i.invariant.grows c.diagram_after.ensures.grows in
    let lt : i < length tags = c.loop-i-test.true in
    let is : c.index-tags-i.result ≡ slice_index tags i = c.index-tags-i.is ∙ get_or_default tags i c.index-tags-i.result 0 lt in
    let within : (b : ℕ) → b < length firsts → slice_index firsts b < length tags =
    λ b less. firsts_within c.loop-i.all.numbers firsts i (length tags) c.loop-i.invariant.firsts c.loop-i.invariant.classes.one_each lt b 0 less in
    let same = c.as_slice-firsts.ensures in
    let le = subst (λ (f : List ℕ). c.in_ok-c.c < suc (length f)) same (omega (arith, c.in_ok-c.ensures.within)) in
    let yes : c.in_ok-c.c < length firsts → AreTagsAlike old states ss tags (slice_index firsts c.in_ok-c.c) i =
    λ less.
    let at = within c.in_ok-c.c less in
    let found = subst (λ (f : List ℕ). AreAlike mid states (labels_after (tag_set c.loop-i.ss tags (slice_index f c.in_ok-c.c))) (labels_after (get_or c.loop-i.ss c.index-tags-i.result []))) same
    (c.in_ok-c.ensures.yes (subst (λ (f : List ℕ). c.in_ok-c.c < length f) (sym same) less)) in
    sets_alike_back old mid ss c.loop-i.ss states (slice_index tags (slice_index firsts c.in_ok-c.c)) (slice_index tags i) grown c.loop-i.invariant.sets
    c.requires.disjoint.states_are (c.requires.known (slice_index firsts c.in_ok-c.c) 0 at) (c.requires.known i 0 lt) (c.requires.places (slice_index firsts c.in_ok-c.c) 0 at) (c.requires.places i 0 lt)
    (subst (λ (z : ℕ). AreAlike mid states (labels_after (tag_set c.loop-i.ss tags (slice_index firsts c.in_ok-c.c))) (labels_after (get_or c.loop-i.ss z []))) is found) in
    let none : c.in_ok-c.c ≡ length firsts → (b : ℕ) → b < c.in_ok-c.c → AreTagsAlike old states ss tags (slice_index firsts b) i → ⊥ =
    λ all b less alike.
    let at = within b (omega (arith, less, le)) in
    let there = sets_alike_on old mid ss c.loop-i.ss states (slice_index tags (slice_index firsts b)) (slice_index tags i) grown c.loop-i.invariant.sets
    c.requires.disjoint.states_are (c.requires.known (slice_index firsts b) 0 at) (c.requires.known i 0 lt) (c.requires.places (slice_index firsts b) 0 at) (c.requires.places i 0 lt) alike in
    c.in_ok-c.ensures.none (all ∙ ap length (sym same)) b less
    (subst (λ (f : List ℕ). AreAlike mid states (labels_after (tag_set c.loop-i.ss tags (slice_index f b))) (labels_after (get_or c.loop-i.ss c.index-tags-i.result []))) (sym same)
    (subst (λ (z : ℕ). AreAlike mid states (labels_after (tag_set c.loop-i.ss tags (slice_index firsts b))) (labels_after (get_or c.loop-i.ss z []))) (sym is) there)) in
    let next : suc i ≡ i + 1 = omega arith in
    let more = classes_more old states ss tags i c.loop-i.all.numbers firsts c.add.new.all.numbers c.add.new.all.firsts c.in_ok-c.c c.loop-i.invariant.classes c.loop-i.invariant.firsts
    (omega (arith, le)) yes none c.in_ok-add.ensures.numbers c.in_ok-add.ensures.firsts in
    let more_firsts = firsts_more old states ss tags i c.loop-i.all.numbers firsts c.add.new.all.numbers c.add.new.all.firsts c.in_ok-c.c c.loop-i.invariant.classes c.loop-i.invariant.firsts
    (omega (arith, le)) yes none c.in_ok-add.ensures.numbers c.in_ok-add.ensures.firsts in
    let does : DoesTogether mid states (labels_after (get_or c.loop-i.ss (slice_index tags i) [])) c.in_ok-d.d =
    subst (λ (z : ℕ). DoesTogether mid states (labels_after (get_or c.loop-i.ss z [])) c.in_ok-d.d) is c.in_ok-d.ensures.does in
    record {
      grows = grows_on _ _ _ grown c.class_by.ensures.grows;
      sets = sets_on _ _ _ c.loop-i.invariant.sets c.class_by.ensures.sets;
      disjoint = c.in_ok-c.ensures.disjoint;
      rows = c.class_by.ensures.rows ∙ c.loop-i.invariant.rows;
      classes = subst (λ (n : ℕ). AreClasses (AreTagsAlike old states ss tags) n c.add.new.all.numbers) next more;
      firsts = more_firsts;
      few = few_firsts firsts c.add.new.all.firsts i c.in_ok-c.c c.in_ok-add.ensures.firsts c.loop-i.invariant.few;
      seen = seen_next old c.loop-i.st mid c.class_by.new.st ss c.loop-i.ss c.class_by.new.ss states tags c.loop-i.all.numbers firsts c.add.new.all.numbers c.add.new.all.firsts i c.in_ok-c.c c.in_ok-d.d
          c.loop-i.seen.entries c.insert.new.self.entries c.loop-i.invariant.grows c.diagram_after.ensures.grows c.class_by.ensures.grows c.loop-i.invariant.sets c.class_by.ensures.sets
          c.requires.disjoint.states_are c.requires.known c.requires.places lt c.loop-i.invariant.firsts c.loop-i.invariant.classes.one_each more more_firsts
          c.in_ok-add.ensures.numbers c.in_ok-add.ensures.firsts does c.loop-i.invariant.seen (λ q. c.in_ok-insert.ensures.updates.0 q);
    }

pub returns-clause-classes : goal.returns-clause-classes
returns-clause-classes c =
    let end = c.loop-i.auto.i-end in
    let is : c.loop-i.i ≡ length c.args.tags.now = omega (arith, c.loop-i-test.false, end) in
    subst (λ (n : ℕ). AreClasses (AreTagsAlike c.args.st.now c.args.states.now c.args.ss.now c.args.tags.now) n c.loop-i.all.numbers) is c.loop-i.invariant.classes
