use Rattle.std.proofs.Common.{◌≡◌, ◌∙◌, ◌++◌, ◌∷◌, [], sym, ap, map, length, Some, ℕ, List, arith}
use Rattle.std.specs.Bool.{nat_eq}
use Rattle.std.specs.Cmp.Lexicographic.{pointwise}
use Rattle.std.specs.HashMap.{get_by}
use Rattle.std.specs.List.{position_from}
use Rattle.std.specs.Str.{bytes_eq}
use Rattle.std.proofs.lemmas.Grind.{common_steps}
use Rattle.std.proofs.lemmas.List.{map-append}
use Rattle.nk_policy.specs.Policy.{Policy}
use Rattle.nk_names.specs.Meant.{policy_among}
use Rattle.nk_names.specs.Shape.{shape_of}
use Rattle.nk_names.proofs.Keys.{others_stay}
use Rattle.nk_names.proofs.Places.{placed_with}
use Rattle.nk_names.proofs.lets.Lets.add.Goals as goal

pub invariant_of-self-2 : goal.invariant_of-self-2
invariant_of-self-2 c =
    let before = c.args.self.now in
    let y : List ℕ × Policy = (c.from_vec-own.result, c.args.policy) in
    let entries : c.push-2.new.self.items ≡ before.entries.items ++ y ∷ [] = grind (arith, common_steps) in
    let shapes : c.push.new.self.items ≡ before.shapes.items ++ c.args.shape ∷ [] = grind (arith, common_steps) in
    let key = c.in_ok-key.key in
    let bytes : key.items ≡ c.args.name.now = c.in_ok-key.ensures.items in
    record {
      shaped =
          shapes
          ∙ ap (λ l. l ++ c.args.shape ∷ []) before.shaped
          ∙ ap (λ s. map (λ e. shape_of e.1) before.entries.items ++ s ∷ []) c.requires.shape
          ∙ sym (map-append (λ e. shape_of e.1) before.entries.items (y ∷ []))
          ∙ ap (map (λ e. shape_of e.1)) (sym entries);
      placed = λ q.
          placed_with key.items before.entries.items y
          (λ p. get_by (λ k. pointwise nat_eq p k.items) before.places)
          (λ p. get_by (λ k. pointwise nat_eq p k.items) c.insert.new.self)
          (c.in_ok-insert.ensures.updates.1 ∙ ap Some (c.len.ensures ∙ c.reserve.new.self.ok.0 ∙ ap length c.in_ok-reserve.ensures.items))
          (others_stay key before.places c.insert.new.self _ c.in_ok-insert.ensures.updates)
          before.placed
          (c.from_vec-own.ensures ∙ c.in_ok-from_slice.ensures.items ∙ sym bytes)
          (ap (policy_among before.entries.items) bytes ∙ c.requires.new) q
          ∙ ap (position_from (λ e. bytes_eq e.0 q) 0) (sym entries);
    }
