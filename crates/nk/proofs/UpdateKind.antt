-- Which outcome of `update` is the answer to which bytes: the condition of `Done` excludes every refusal.
use Rattle.std.proofs.Common.{◌≡◌, ℕ, ⊎_elim, List, refl, sym, subst, ◌∙◌, Bool, true, false, MatchBool}
use Rattle.std.specs.Prelude.{codes, Ok, Err, slice_index}
use Rattle.std.specs.declared.result.Result.{Result}
use Rattle.nk_field.specs.Packet.{FieldTable}
use Rattle.nk_field.specs.Texts.{packet_of}
use Rattle.nk_field.specs.declared.packet.Packet.{Packet}
use Rattle.nk_field.specs.declared.reading.PacketError.{PacketError}
use Rattle.nk_field.specs.declared.reading.PacketError.TheVariants as reading
use Rattle.nk_topo.specs.Topology.{Topology, is_port}
use Rattle.nk_names.specs.ProgramOf.{DeclaredProgram, program_by}
use Rattle.nk_names.proofs.Alike.{fields_alike, topo_alike}
use Rattle.nk_table.specs.declared.Tables.{Tables}
use Rattle.nk_compile.proofs.PairReasonByName.{fitting_never_refused}
use Rattle.nk_update.specs.declared.plans.Plan.{Plan}
use Rattle.nk_trace_commands.specs.Following.{ToPacket}
use Rattle.nk_reply.specs.Outcome.{Outcome, done, differs, text_refused, policy_refused}
use Rattle.nk_input.specs.ProgramText.{Declares}
use Rattle.nk.specs.Succeeding.{AcceptsUpdate}
use Rattle.nk_compile_commands.specs.Updating.{ToTurned, IsPlannedAnswer, IsPairRefusal, IsUpdateAnswer, plan_for}
use Rattle.nk.proofs.ByKind.{Kind}
use Rattle.nk_input.proofs.OneText.{declares_once, no_fault}

-- the kinds of outcome are apart
abbrev IsRefusing : Outcome → Type 0
IsRefusing (policy_refused t) = Unit {0}
IsRefusing o = ⊥

abbrev IsDoing : Outcome → Type 0
IsDoing (done t) = Unit {0}
IsDoing o = ⊥

-- the word gives a packet at one of the ports
abbrev IsAtPort : FieldTable → Topology → List ℕ → Type 0
IsAtPort fields topo word = (pk : Packet) × (packet_of fields word ≡ Ok pk) × (is_port topo (slice_index pk 0) (slice_index pk 1) ≡ true)

module _ (plan : Plan) (seed steps : ℕ) (t : Tables) (word : List ℕ) where
  by_port : (pk : Packet) (o : Outcome) (b : Bool) → is_port t.topo (slice_index pk 0) (slice_index pk 1) ≡ b → packet_of t.fields word ≡ Ok pk
      → IsDoing o → (y : List ℕ) → MatchBool b (ToTurned plan seed steps t pk o) (o ≡ policy_refused y) → IsAtPort t.fields t.topo word
  by_port pk o true at given does y h = (pk, given, at)
  by_port pk o false at given does y h = absurd (subst IsDoing h does)

  -- what is done is done for a packet at a port
  at_port : (o : Outcome) (r : Result Packet PacketError) → packet_of t.fields word ≡ r → IsDoing o
      → ToPacket (ToTurned plan seed steps) t r o → IsAtPort t.fields t.topo word
  at_port o (Ok pk) given does h = by_port pk o _ refl given does _ h
  at_port o (Err (reading.BadPacket n)) given does h = absurd (subst IsDoing h does)
  at_port o (Err reading.NoMemory) given does h = absurd h

  -- and for such a packet nothing else is answered
  done_there : (o : Outcome) → IsAtPort t.fields t.topo word → ToPacket (ToTurned plan seed steps) t (packet_of t.fields word) o → IsDoing o
  done_there o p h =
      let of = subst (λ r. ToPacket (ToTurned plan seed steps) t r o) p.1 h in
      let told = subst (λ b. MatchBool b (ToTurned plan seed steps t p.0 o) (o ≡ policy_refused (codes "refused C10: off port\n"))) p.2 of in
      subst IsDoing (sym told) tt

  -- nothing differs
  never_differs : (y : List ℕ) (r : Result Packet PacketError) → ToPacket (ToTurned plan seed steps) t r (differs y) → ⊥
  never_differs y (Ok pk) h = by _ h
    where
      by : (b : Bool) → MatchBool b (ToTurned plan seed steps t pk (differs y)) (differs y ≡ policy_refused (codes "refused C10: off port\n")) → ⊥
      by true e = subst IsDoing (sym e) tt
      by false e = subst IsRefusing (sym e) tt
  never_differs y (Err (reading.BadPacket n)) h = subst IsRefusing (sym h) tt
  never_differs y (Err reading.NoMemory) h = absurd h

module _ (old new : List ℕ) (seed steps : ℕ) (word bytes : List ℕ) where
  module _ (said : DeclaredProgram) (o : Outcome) (a : IsPlannedAnswer said old new seed steps word o) where
    abbrev the_plan : Plan
    the_plan = plan_for a.pair

    -- the tables have the program's fields and topology
    told_by_tables : ToPacket (ToTurned the_plan seed steps) a.pair.old (packet_of a.pair.old.fields word) o
    told_by_tables =
        subst (λ f. ToPacket (ToTurned the_plan seed steps) a.pair.old (packet_of f word) o) (sym a.compiled.printed_old.same_fields) a.told

    at_program_port : IsAtPort a.pair.old.fields a.pair.old.topo word → IsAtPort a.program.fields a.program.topo word
    at_program_port h =
        subst (λ t. IsAtPort a.program.fields t word) a.compiled.printed_old.same_topology
        (subst (λ f. IsAtPort f a.pair.old.topo word) a.compiled.printed_old.same_fields h)

    at_tables_port : IsAtPort a.program.fields a.program.topo word → IsAtPort a.pair.old.fields a.pair.old.topo word
    at_tables_port h =
        subst (λ t. IsAtPort a.pair.old.fields t word) (sym a.compiled.printed_old.same_topology)
        (subst (λ f. IsAtPort f a.program.topo word) (sym a.compiled.printed_old.same_fields) h)

    -- both policies are accepted, and the packet is at a port
    accepts : Declares bytes said → IsDoing o → AcceptsUpdate old new word bytes
    accepts declared does =
        let c = a.compiled in
        let p = at_program_port (at_port the_plan seed steps a.pair.old word o (packet_of a.pair.old.fields word) refl does told_by_tables) in
        record {
          program = a.program;
          declared = subst (Declares bytes) (sym a.says) declared;
          old_policy = c.p;
          new_policy = c.q;
          named = record { left_is = c.named_old; right_is = c.named_new };
          accepted_old = c.accepted_old;
          accepted_new = c.accepted_new;
          fit = c.fit;
          packet = p.0;
          given = p.1;
          at_port = p.2;
        }

    -- where they are, and it is, something is done
    does_there : Declares bytes said → AcceptsUpdate old new word bytes → IsDoing o
    does_there declared d =
        let same : program_by d.program ≡ program_by a.program = declares_once bytes (program_by d.program) said d.declared declared ∙ sym a.says in
        let here : IsAtPort d.program.fields d.program.topo word = (d.packet, d.given, d.at_port) in
        let there : IsAtPort a.program.fields a.program.topo word =
        subst (λ t. IsAtPort a.program.fields t word) (topo_alike d.program a.program same)
        (subst (λ f. IsAtPort f d.program.topo word) (fields_alike d.program a.program same) here) in
        done_there the_plan seed steps a.pair.old word o (at_tables_port there) told_by_tables

  -- policies that are accepted aren't refused
  refused_none : (said : DeclaredProgram) (o : Outcome) → Declares bytes said → AcceptsUpdate old new word bytes → IsPairRefusal said old new o → ⊥
  refused_none said o declared d r =
      let same : program_by d.program ≡ program_by r.program = declares_once bytes (program_by d.program) said d.declared declared ∙ sym r.says in
      fitting_never_refused d.program r.program same old new d.old_policy d.new_policy r.reason d.named.left_is d.named.right_is d.accepted_old d.accepted_new d.fit r.refused

  pub update_kind : (o : Outcome) → IsUpdateAnswer old new seed steps word bytes o → Kind o (AcceptsUpdate old new word bytes) ⊥
  update_kind (text_refused t) h = (λ d. no_fault bytes (program_by d.program) t d.declared h, λ x. x)
  update_kind (done t) h =
      (⊎_elim (λ r. absurd (subst IsRefusing (sym r.told) tt)) (λ a. accepts h.0 (done t) a h.1 tt) h.2, λ x. x)
  update_kind (differs t) h =
      absurd
      (⊎_elim
      (λ r. subst IsRefusing (sym r.told) tt)
      (λ a. never_differs (the_plan h.0 (differs t) a) seed steps a.pair.old word t (packet_of a.program.fields word) a.told)
      h.2)
  update_kind (policy_refused t) h = (
    λ d. ⊎_elim (λ r. refused_none h.0 (policy_refused t) h.1 d r) (λ a. does_there h.0 (policy_refused t) a h.1 d) h.2,
    λ x. x,
  )
