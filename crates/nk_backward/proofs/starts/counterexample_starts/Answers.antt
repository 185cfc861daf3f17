use Rattle.std.proofs.Common.{ℕ, ◌∙◌, [], List, length, get_or, sym, subst, arith}
use Rattle.nk_store.specs.StoreState.{StoreState}
use Rattle.nk_store.proofs.Stores.{grows_on}
use Rattle.nk_determ.specs.Pairs.{EachPair, IsPair}
use Rattle.nk_witness.specs.Finds.{first_set, first_packets}
use Rattle.nk_witness.specs.declared.found.Side.TheVariants.{Left, Right}
use Rattle.nk_backward.specs.declared.transitions.Transitions.{Transitions}
use Rattle.nk_backward.specs.CounterexampleStarts.{LeadToSide}
use Rattle.nk_backward.proofs.Tracing.{transitions_on}
use Rattle.nk_backward.proofs.Starting.{IsGraph, entries_pairs, pairs_wider, side_starts, starts_on}
use Rattle.nk_backward.proofs.starts.counterexample_starts.Goals as goal

pub graph_of-requires-clause-entries : goal.graph_of-requires-clause-entries
graph_of-requires-clause-entries g c =
    entries_pairs c.args.st.now c.args.ss.now c.args.states.now (first_set c.args.l.now.levels) (first_packets c.args.l.now.levels) (λ s pk. []) c.args.l.now.levels c.requires.levels

pub starts_of-requires-clause-entries : goal.starts_of-requires-clause-entries
starts_of-requires-clause-entries g c =
    let ls : List (List (ℕ × ℕ)) = c.args.l.now.levels in
    let all = entries_pairs c.args.st.now c.args.ss.now c.args.states.now (first_set ls) (first_packets ls) (λ s pk. []) ls c.requires.levels in
    pairs_wider c.args.st.now c.graph_of.new.st c.args.ss.now c.graph_of.new.ss (length c.args.states.now) (g.G.Goal.labels c.args.g.now) c.in_ok-graph.graph.entries c.graph_of.ensures.grows c.graph_of.ensures.sets c.requires.labels
    (subst (EachPair (IsPair c.args.st.now c.args.ss.now (length c.args.states.now))) (sym c.in_ok-graph.ensures.entries) all)

pub starts_of-requires-2-clause-entries : goal.starts_of-requires-2-clause-entries
starts_of-requires-2-clause-entries g c =
    let ls : List (List (ℕ × ℕ)) = c.args.l.now.levels in
    let all = entries_pairs c.args.st.now c.args.ss.now c.args.states.now (first_set ls) (first_packets ls) (λ s pk. []) ls c.requires.levels in
    pairs_wider c.args.st.now c.starts_of.new.st c.args.ss.now c.graph_of.new.ss (length c.args.states.now) (g.G.Goal.labels c.starts_of.new.g) c.in_ok-graph.graph.entries (grows_on _ _ _ c.graph_of.ensures.grows c.starts_of.ensures.grows) c.graph_of.ensures.sets
    (omega (arith, c.requires.labels, c.in_ok-left.ensures.labels))
    (subst (EachPair (IsPair c.args.st.now c.args.ss.now (length c.args.states.now))) (sym c.in_ok-graph.ensures.entries) all)

pub returns-clause-left : goal.returns-clause-left
returns-clause-left g c =
    let ls : List (List (ℕ × ℕ)) = c.args.l.now.levels in
    let old : StoreState = c.args.st.now in
    let oss : List (List ℕ) = c.args.ss.now in
    let states : List ℕ = c.args.states.now in
    let set : ℕ = first_set ls in
    let start : ℕ = first_packets ls in
    let entries : List (ℕ × ℕ) = c.in_ok-graph.graph.entries in
    let ts : List Transitions = c.in_ok-graph.graph.transitions in
    let bad = g.G.Goal.violations_of c.args.g.now old in
    let now = g.G.Goal.violations_of c.args.g.now c.graph_of.new.st in
    let graph : IsGraph old oss states set start ls c.graph_of.new.st c.graph_of.new.ss entries ts = record {
      levels = c.requires.levels;
      is = c.in_ok-graph.ensures.entries;
      transitions = c.in_ok-graph.ensures.ok;
      grows = c.graph_of.ensures.grows;
      sets = c.graph_of.ensures.sets;
      once = c.in_ok-graph.ensures.differ;
    } in
    let lead : LeadToSide c.graph_of.new.st c.graph_of.new.ss ts entries now Left set start c.starts_of.new.st c.in_ok-left.left =
    subst (λ (x : ℕ). LeadToSide c.graph_of.new.st c.graph_of.new.ss ts entries now Left set x c.starts_of.new.st c.in_ok-left.left) c.first_entry-s.ensures.packets
    (subst (λ (s : ℕ). LeadToSide c.graph_of.new.st c.graph_of.new.ss ts entries now Left s c.first_entry-s.result.1 c.starts_of.new.st c.in_ok-left.left) c.first_entry-s.ensures.set c.in_ok-left.ensures.ok) in
    starts_on old c.starts_of.new.st c.starts_of-2.new.st states (get_or oss set []) start bad 0 c.in_ok-left.left (grows_on _ _ _ c.graph_of.ensures.grows c.starts_of.ensures.grows) c.starts_of-2.ensures.grows
    (side_starts old oss states set start ls c.graph_of.new.st c.graph_of.new.ss entries ts graph bad now Left c.starts_of.new.st c.in_ok-left.left
    (λ n p. g.met.G.Goal.violations_grow c.args.g.now old c.graph_of.new.st n.0 n.1 c.requires.fits c.graph_of.ensures.grows (λ j d m. omega (arith, p j d m, c.requires.labels))) lead)

pub returns-clause-right : goal.returns-clause-right
returns-clause-right g c =
    let ls : List (List (ℕ × ℕ)) = c.args.l.now.levels in
    let old : StoreState = c.args.st.now in
    let oss : List (List ℕ) = c.args.ss.now in
    let states : List ℕ = c.args.states.now in
    let set : ℕ = first_set ls in
    let start : ℕ = first_packets ls in
    let entries : List (ℕ × ℕ) = c.in_ok-graph.graph.entries in
    let ts : List Transitions = c.in_ok-graph.graph.transitions in
    let bad = g.G.Goal.violations_of c.args.g.now old in
    let mid : StoreState = c.starts_of.new.st in
    let now = g.G.Goal.violations_of c.starts_of.new.g mid in
    let graph : IsGraph old oss states set start ls mid c.graph_of.new.ss entries ts = record {
      levels = c.requires.levels;
      is = c.in_ok-graph.ensures.entries;
      transitions = transitions_on old c.graph_of.new.st mid oss c.graph_of.new.ss states entries ts c.starts_of.ensures.grows c.in_ok-graph.ensures.ok;
      grows = grows_on _ _ _ c.graph_of.ensures.grows c.starts_of.ensures.grows;
      sets = c.graph_of.ensures.sets;
      once = c.in_ok-graph.ensures.differ;
    } in
    let lead : LeadToSide mid c.graph_of.new.ss ts entries now Right set start c.starts_of-2.new.st c.in_ok-right.right =
    subst (λ (x : ℕ). LeadToSide mid c.graph_of.new.ss ts entries now Right set x c.starts_of-2.new.st c.in_ok-right.right) c.first_entry-s.ensures.packets
    (subst (λ (s : ℕ). LeadToSide mid c.graph_of.new.ss ts entries now Right s c.first_entry-s.result.1 c.starts_of-2.new.st c.in_ok-right.right) c.first_entry-s.ensures.set c.in_ok-right.ensures.ok) in
    side_starts old oss states set start ls mid c.graph_of.new.ss entries ts graph bad now Right c.starts_of-2.new.st c.in_ok-right.right
    (λ n p. c.in_ok-left.ensures.same mid n.0 n.1 ∙ g.met.G.Goal.violations_grow c.args.g.now old mid n.0 n.1 c.requires.fits (grows_on _ _ _ c.graph_of.ensures.grows c.starts_of.ensures.grows) (λ j d m. omega (arith, p j d m, c.requires.labels))) lead
