use Rattle.std.proofs.Common.{◌≡◌, ℕ, Bool, ◌∙◌, ap, sym, subst, length, ◌+◌, ◌-◌, ◌<◌, ◌≤◌, ◌++◌, Some, List, true, false, arith}
use Rattle.std.specs.Prelude.{remove, slice_get, slice_index, slice_index_or, slice_set, if◌then◌else◌}
use Rattle.std.specs.List.{flat_map, range_with_len}
use Rattle.std.proofs.lemmas.List.{get_or_default, length-map}
use Rattle.std.proofs.lemmas.List.Edits.{remove-append_left}
use Rattle.nk_field.specs.Packet.{FieldTable}
use Rattle.nk_table.specs.Rules.{sent_for}
use Rattle.nk_flight.specs.declared.hops.Hop.{Hop}
use Rattle.nk_flight.specs.Flights.{left_next}
use Rattle.nk_flight.specs.Trails.{hop_at, hop_of, copy_at, copies_at}
use Rattle.nk_flight.specs.Progresses.{how_many}
use Rattle.nk_flight.specs.Updates.{UpdateValue, is_old_tag, stage_after, done_by, version_by, noted, moved, state_in}
use Rattle.nk_flight.specs.Held.{update_at, IsUpdateHeld}
use Rattle.nk_flight.proofs.Counting.{one_if}
use Rattle.nk_flight.proofs.Holding.{moved_held, few_tagged, old_one, less_then}
use Rattle.nk_flight.proofs.Reached.{got_at}
use Rattle.nk_flight.proofs.updating.UpdateFlight.step.Goals as goal
use Rattle.nk_flight.proofs.updating.UpdateFlight.step.Goals.{After-drop-all-3}

-- the copy's place
is_there : (F : FieldTable) (hs : List Hop) (places : List ℕ) (i p : ℕ) → i < length (copies_at F hs places) → p ≡ slice_index places i
    → ((j : ℕ) (d : ℕ) → j < length places → slice_index_or places j d < length hs)
    → (i < length places) × (slice_get places i ≡ Some p) × (p < length hs)
is_there F hs places i p whole at all =
    let lt : i < length places = subst (λ n. i < n) (length-map places (λ j. copy_at F hs (hop_at hs j))) whole in
    let held : p ≡ slice_index_or places i p = at ∙ get_or_default places i 0 p lt in
    (lt, got_at places i p lt held, subst (λ j. j < length hs) (sym held) (all i p lt))

pub without-requires : goal.without-requires
without-requires c = λ t.
    let inside = c.self.inside in
    let hs = inside.hops in
    let p = c.at-place.result in
    let whole = subst (λ (u : UpdateValue). c.args.i < length u.flight.flying) (sym c.self.view_is) c.requires in
    let is = is_there inside.stages.before.fields hs inside.flying c.args.i p whole c.at-place.ensures c.self.invariant.there in
    old_one inside.stages inside.progress inside.packets.items hs inside.flying inside.versions.items inside.tagged c.args.i p c.self.invariant is.1
    c.is_old.result (c.is_old.ensures ∙ ap (λ (h : Hop). is_old_tag inside.stages h.packet) c.at-hop.ensures) t

pub overflow_add-self : goal.overflow_add-self
overflow_add-self c =
    let inside = c.self.inside in
    let next = c.in_ok-all.all.next in
    let few = few_tagged inside.stages inside.progress inside.packets.items inside.hops inside.flying inside.versions.items inside.tagged c.self.invariant in
    let less : c.without.result ≤ inside.tagged = fewer c.is_old.result inside.tagged c.without.result c.without.ensures in
    let more : c.tagged_among-more.result ≤ length next.items = subst (λ (l : List Hop). c.tagged_among-more.result ≤ length l) c.as_slice.ensures.value c.tagged_among-more.ensures.few in
    omega (arith, few, less, more, c.len-held.ensures.is, c.len-held.ensures.few, next.ok.0, next.ok.1, next.small)
  where
    fewer : (b : Bool) (tagged n : ℕ) → n ≡ (if b then tagged - 1 else tagged) → n ≤ tagged
    fewer true tagged n e = omega (arith, e)
    fewer false tagged n e = omega (arith, e)

-- the fields are those after the step
is_moved : (c : After-drop-all-3)
    → (state_in (update_at c.self.inside.stages c.self.inside.progress c.self.inside.packets.items c.put_after.new.hops c.take.new.self c.append.new.self.items c.note.new.versions.items)
    ≡ moved c.self.inside.stages c.args.i (state_in (update_at c.self.inside.stages c.self.inside.progress c.self.inside.packets.items c.self.inside.hops c.self.inside.flying c.self.inside.left.items c.self.inside.versions.items)))
    × IsUpdateHeld c.self.inside.stages c.self.inside.progress c.self.inside.packets.items c.put_after.new.hops c.take.new.self c.note.new.versions.items (c.without.result + c.tagged_among-more.result)
is_moved c =
    let inside = c.self.inside in
    let g = inside.stages in
    let hs = inside.hops in
    let places = inside.flying in
    let vs = inside.versions.items in
    let i = c.args.i in
    let p = c.at-place.result in
    let steps = c.at-steps.result in
    let t = stage_after g steps in
    let next = c.in_ok-all.all.next.items in
    let whole = subst (λ (u : UpdateValue). i < length u.flight.flying) (sym c.self.view_is) c.requires in
    let is = is_there g.before.fields hs places i p whole c.at-place.ensures c.self.invariant.there in
    let same : c.at-hop.result ≡ hop_at hs p = c.at-hop.ensures in
    let done : steps ≡ done_by inside.progress.done (slice_index (hop_at hs p).packet 0) =
    c.at-steps.ensures ∙ ap (done_by inside.progress.done) (c.get.ensures ∙ ap (λ (h : Hop). slice_index h.packet 0) same) in
    let made : next ≡ flat_map (hop_of t p (hop_at hs p)) (sent_for t (hop_at hs p).packet) = c.in_ok-all.ensures.next in
    let put : c.as_slice-2.result.now ≡ next = c.as_slice-2.ensures.value in
    let grown : c.put_after.new.hops ≡ hs ++ next = c.in_ok-put_after.ensures.hops ∙ ap (λ l. hs ++ l) put in
    let flying : c.take.new.self ≡ remove places i ++ range_with_len (length hs) (length next) =
    c.take.ensures
    ∙ ap (λ l. remove l i) (c.in_ok-put_after.ensures.flying ∙ ap (λ (l : List Hop). places ++ range_with_len (length hs) (length l)) put)
    ∙ remove-append_left places (range_with_len (length hs) (length next)) i is.0 in
    let gone : c.append.new.self.items ≡ inside.left.items ++ left_next t (copy_at g.before.fields hs (hop_at hs p)) =
    (rw c.unwrap.ensures at c.append.ensures.items)
    ∙ (λ j. c.in_ok-reserve.ensures.items j ++ c.in_ok-all.ensures.left j) in
    let versions : c.note.new.versions.items ≡ slice_set vs ((hop_at hs p).number - 1) (Some (noted (version_by vs (hop_at hs p).number) (done_by inside.progress.done (slice_index (hop_at hs p).packet 0)))) =
    c.note.ensures ∙ (λ j. slice_set vs ((same j).number - 1) (Some (noted (version_by vs (same j).number) (done j)))) in
    let old : c.is_old.result ≡ is_old_tag g (hop_at hs p).packet = c.is_old.ensures ∙ ap (λ (h : Hop). is_old_tag g h.packet) same in
    let less : c.without.result + one_if (is_old_tag g (hop_at hs p).packet) ≡ inside.tagged =
    subst (λ b. c.without.result + one_if b ≡ inside.tagged) old
    (less_then c.is_old.result inside.tagged c.without.result c.without.ensures
    (old_one g inside.progress inside.packets.items hs places vs inside.tagged i p c.self.invariant is.1 c.is_old.result old)) in
    let more : c.without.result + c.tagged_among-more.result ≡ c.without.result + how_many (λ (h : Hop). is_old_tag g h.packet) next =
    ap (λ n. c.without.result + n) (c.tagged_among-more.ensures.is ∙ ap (how_many (λ (h : Hop). is_old_tag g h.packet)) c.as_slice.ensures.value) in
    moved_held g inside.progress t inside.packets.items hs c.put_after.new.hops next places c.take.new.self inside.left.items c.append.new.self.items vs c.note.new.versions.items
    inside.tagged (c.without.result + c.tagged_among-more.result) c.without.result i p c.in_ok-all.ensures.fields (ap (stage_after g) done) c.self.invariant is.1 is.2 made grown flying gone versions less more

pub invariant_of-self-2 : goal.invariant_of-self-2
invariant_of-self-2 c = (is_moved c).1

pub returns-clause-ok : goal.returns-clause-ok
returns-clause-ok c = (
  ap (λ (u : UpdateValue). u.stages) c.self.view_is,
  (is_moved c).0 ∙ ap (λ (u : UpdateValue). moved u.stages c.args.i (state_in u)) c.self.view_is,
)
