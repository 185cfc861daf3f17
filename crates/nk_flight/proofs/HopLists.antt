-- Hops that share packets: more packets after them leave them as they are.
use Rattle.std.proofs.Common.{◌≡◌, ◌<◌, ◌+◌, ℕ, Result, Ok, Err, List, [], ◌∷◌, ◌++◌, length, refl, sym, ap, subst, ◌∙◌, arith, length-append}
use Rattle.std.specs.Prelude.{All, OnErr}
use Rattle.std.proofs.lemmas.List.{get_or_append_left}
use Rattle.std.proofs.lemmas.List.Elements.{All-head, All-tail, All-weaker, All-push}
use Rattle.nk_field.proofs.Lists.{map_joined}
use Rattle.nk_flight.specs.declared.hops.Hop.{Hop}
use Rattle.nk_flight.specs.declared.hop_list.HeldHop.{HeldHop}
use Rattle.nk_flight.specs.HopLists.{packet_at, hop_held, hops_held, IsHeldAmong}

-- a held hop stays
hop_stays : (pks more : List (List ℕ)) (h : HeldHop) → IsHeldAmong (length pks) h → hop_held (pks ++ more) h ≡ hop_held pks h
hop_stays pks more h r =
    λ j. record {
      number = h.number;
      crossings = h.crossings;
      earlier = h.earlier;
      before = get_or_append_left pks more [] h.before r.0 j;
      packet = get_or_append_left pks more [] h.packet r.1 j;
    }

-- and so do all
stay : (pks more : List (List ℕ)) (hs : List HeldHop) → All (IsHeldAmong (length pks)) hs → hops_held (pks ++ more) hs ≡ hops_held pks hs
stay pks more [] all = refl
stay pks more (h ∷ hs) all =
    let one = hop_stays pks more h (All-head (IsHeldAmong (length pks)) h hs all) in
    let rest = stay pks more hs (All-tail (IsHeldAmong (length pks)) h hs all) in
    λ j. one j ∷ rest j

pub hops_stay : (pks qks more : List (List ℕ)) (hs : List HeldHop) → qks ≡ pks ++ more → All (IsHeldAmong (length pks)) hs → hops_held qks hs ≡ hops_held pks hs
hops_stay pks qks more hs e all = ap (λ l. hops_held l hs) e ∙ stay pks more hs all

-- their packets are among more
pub among_more : (pks qks more : List (List ℕ)) (hs : List HeldHop) → qks ≡ pks ++ more → All (IsHeldAmong (length pks)) hs → All (IsHeldAmong (length qks)) hs
among_more pks qks more hs e all =
    let longer : length qks ≡ length pks + length more = ap length e ∙ length-append pks more in
    All-weaker (IsHeldAmong (length pks)) (IsHeldAmong (length qks)) (λ h r. (omega (arith, longer, r.0), omega (arith, longer, r.1))) hs all

-- one hop more, of whose packets the first was put in, and then the second
module _ (pks qks rks more rest : List (List ℕ)) (e : qks ≡ pks ++ more) (f : rks ≡ qks ++ rest) where
  pub twice_stay : (hs : List HeldHop) → All (IsHeldAmong (length pks)) hs → hops_held rks hs ≡ hops_held pks hs
  twice_stay hs all = hops_stay qks rks rest hs f (among_more pks qks more hs e all) ∙ hops_stay pks qks more hs e all

  pub twice_among : (hs : List HeldHop) → All (IsHeldAmong (length pks)) hs → All (IsHeldAmong (length rks)) hs
  twice_among hs all = among_more qks rks rest hs f (among_more pks qks more hs e all)

  abbrev placed : Hop → ℕ → ℕ → HeldHop
  placed hop b p = record { number = hop.number; crossings = hop.crossings; earlier = hop.earlier; before = b; packet = p }

  pub pushed : (hs gs : List HeldHop) (hop : Hop) (b p : ℕ) → (b < length qks) × (packet_at qks b ≡ hop.before) → (p < length rks) × (packet_at rks p ≡ hop.packet)
      → All (IsHeldAmong (length pks)) hs → gs ≡ hs ++ placed hop b p ∷ []
      → (hops_held rks gs ≡ hops_held pks hs ++ hop ∷ []) × All (IsHeldAmong (length rks)) gs
  pushed hs gs hop b p first second all g =
      let there : packet_at rks b ≡ hop.before = ap (λ l. packet_at l b) f ∙ get_or_append_left qks rest [] b first.0 ∙ first.1 in
      let one : hop_held rks (placed hop b p) ≡ hop =
      λ j. record { number = hop.number; crossings = hop.crossings; earlier = hop.earlier; before = there j; packet = second.1 j } in
      let longer : length rks ≡ length qks + length rest = ap length f ∙ length-append qks rest in
      let within : b < length rks = omega (arith, longer, first.0) in
      let stays = twice_stay hs all in (
        ap (hops_held rks) g ∙ map_joined (hop_held rks) hs (placed hop b p ∷ []) ∙ (λ j. stays j ++ one j ∷ []),
        subst (All (IsHeldAmong (length rks))) (sym g) (All-push (IsHeldAmong (length rks)) hs (placed hop b p) (twice_among hs all) (within, second.0)),
      )

-- what holds anyway holds where memory runs out
pub err_anyway : {T E : Type 0} (r : Result T E) (P : Type 0) → P → OnErr r P
err_anyway (Ok x) P p = tt
err_anyway (Err e) P p = p
