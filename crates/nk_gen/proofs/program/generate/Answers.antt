use Rattle.std.proofs.Common.{◌≡◌, ◌++◌, ◌*◌, ℕ, ap, ◌∙◌, codes, take, drop}
use Rattle.std.specs.Prelude.{slice_index}
use Rattle.std.specs.List.{flat_map, join_by}
use Rattle.nk_gen.specs.Draws.{all_draws}
use Rattle.nk_gen.specs.Network.{switches, homes_by, homes, ring, chords_by, chords, tree}
use Rattle.nk_gen.specs.Text.{field_lines, switch_line, link_lines, home_test, let_line, home_line, kind_lines, policy_lines}
use Rattle.nk_gen.proofs.Pieces.{put, put_same, declared, named}
use Rattle.nk_gen.proofs.program.generate.Goals as goal

pub returns : goal.returns
returns c =
    let size : ℕ = c.args.size in
    let seed : ℕ = c.args.seed in
    let drawn : c.in_ok-drawn.drawn.items ≡ all_draws size seed = c.in_ok-drawn.ensures.draws in
    let made_homes : c.in_ok-homes.homes.items ≡ homes size seed =
    c.in_ok-homes.ensures ∙ ap (λ l. homes_by (take size l)) (c.deref.ensures.value ∙ drawn) in
    let made_ring : c.in_ok-ring.ring.items ≡ ring size = c.in_ok-ring.ensures in
    let made_chords : c.in_ok-chords.chords.items ≡ chords size seed =
    c.in_ok-chords.ensures ∙ ap (λ l. chords_by size (take size (drop size l))) (c.deref-2.ensures.value ∙ drawn) in
    let made_tree : c.in_ok-tree.tree.items ≡ tree size = c.in_ok-tree.ensures in
    let fields : c.push_fields.new.out.items ≡ field_lines =
    put_same field_lines c.new-out.ensures.items c.in_ok-push_fields.ensures in
    let switched : c.push_switches.new.out.items ≡ field_lines ++ flat_map switch_line (switches size) =
    put_same (flat_map switch_line (switches size)) fields c.in_ok-push_switches.ensures in
    let linked : c.push_links.new.out.items ≡ field_lines ++ flat_map switch_line (switches size) ++ link_lines size seed =
    put switched
    (declared c.deref-3.result.now c.deref-4.result.now c.deref-5.result.now (ring size) (chords size seed) (tree size)
    (c.deref-3.ensures.value ∙ made_ring) (c.deref-4.ensures.value ∙ made_chords) (c.deref-5.ensures.value ∙ made_tree))
    c.in_ok-push_links.ensures in
    let homed : c.push_homes.new.out.items ≡ field_lines ++ flat_map switch_line (switches size) ++ link_lines size seed ++ home_line size seed =
    put linked
    (ap (λ l. let_line (codes "home") (join_by home_test (codes " + ") l)) (c.deref-6.ensures.value ∙ made_homes))
    c.in_ok-push_homes.ensures in
    let told : c.push_named.new.out.items
    ≡ field_lines ++ flat_map switch_line (switches size) ++ link_lines size seed ++ home_line size seed ++ kind_lines size seed =
    put homed
    (named c.deref-7.result.now c.deref-8.result.now c.deref-9.result.now (ring size) (chords size seed) (tree size)
    (c.deref-7.ensures.value ∙ made_ring) (c.deref-8.ensures.value ∙ made_chords) (c.deref-9.ensures.value ∙ made_tree))
    c.in_ok-push_named.ensures in
    put told
    (ap policy_lines (c.drawn_key.ensures ∙ ap (λ l. slice_index l (2 * size)) (c.deref-10.ensures.value ∙ drawn)))
    c.in_ok-push_policies.ensures
