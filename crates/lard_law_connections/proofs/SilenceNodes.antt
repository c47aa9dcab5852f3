-- What a node does with an endpoint keeps what each of its operations keeps.
use Rattle.std.proofs.Common.{◌≡◌, ℕ, true, List, [], Option, Some, None, Ok, refl, sym, ap}
use Rattle.lard_law_view.specs.Prelude.{Adopt, BackConn, BackRow, ControlBlock, Ending, EndpointParts, Forwarded, NodeDeed, NodeEnv, NodeGets, NodePart, Offered, Place, Progress, Said, Service, Stay, Work, adopted, after_timer, came_for, come_progress, epoch_in, goes_on, gone, kept_after, kept_refused, node_begins, node_fired, node_fired_by, node_rule, node_saying, node_timer, offer_answer, offered_by, on_segment, read_progress, reads_batch, refused_sent, serving, serving_ready_of, serving_settled, spoken, state_of, tagged, taken_sent, timed, with_work, without, work_of}
use Rattle.lard_base.specs.declared.place.TimerKind.TheVariants as timer
use Rattle.lard_law_connections.proofs.LimitsWorking.{batch-state, came-so, goes-so, tagged-so}
use Rattle.lard_law_connections.specs.SilencePlaces.{BackHas, BackStageHas, HereHas, NodeHas}
use Rattle.lard_law_connections.proofs.SilenceTurns.{AreTold, EndHas, IsKept, fired-has, nobody, settled-has}
use Rattle.lard_handoff_back.specs.declared.row.BackConn.TheVariants as back
use Rattle.lard_handoff_back.specs.declared.table.Adopt.TheVariants.{Again, New, Refuse, Stale}
use Rattle.lard_rules.proofs.NodeCases.{IsHereWith, IsOfItsEpoch, KeptByNode, Turned, node-keeps, of-here, where-held}
use Rattle.lard_rules.specs.Node.{Drops, Says, Does}
use Rattle.lard_rules.specs.declared.places.Ending.TheVariants as ending

-- what it keeps behind a deed, and what goes out
abbrev pub DeedHas : (ControlBlock → Type 0) → (ControlBlock → Type 0) → (ControlBlock → Said → Type 0) → ℕ → NodeDeed → Type 0
DeedHas R Q Reply c Drops = Unit {0}
DeedHas R Q Reply c (Says ms) = Unit {0}
DeedHas R Q Reply c (Does given) = NodeHas (λ (b : ControlBlock). R b × AreTold c (Reply b) given.1.segments) Q given.0 × ((d : ControlBlock) × AreTold c (Reply d) given.1.segments)

module _ (env : NodeEnv) (P R Q : ControlBlock → Type 0) (Word : Said → Type 0) (Reply : ControlBlock → Said → Type 0) (k : IsKept env.serve P R Word Reply) where
  abbrev pub Goes : NodeDeed → Type 0
  Goes d = DeedHas R Q Reply env.serve.c d

  -- ---- the end of a turn

  after-has : (p : NodePart) (w : Work) (ss : List (Place × List ℕ)) (e : Ending) → EndHas env.serve P R Word Reply k ss e
      → NodeHas (λ (b : ControlBlock). R b × AreTold env.serve.c (Reply b) ss) Q (kept_after env p w e)
  after-has p w ss (ending.Here b count) r = r
  after-has p w ss (ending.Over last) r = tt

  abbrev pub Works : Service → Type 0
  Works w = P w.block

  goes-has : (p : NodePart) (before : List (Place × List ℕ)) (w : Work) → P w.service.block → Goes (with_work env p before (goes_on env w))
  goes-has p before w r =
      let done : Service = (goes_on env w).service in
      let t = settled-has env.serve P R Word Reply k done (goes-so env Works k.serves w r) in
      (after-has p (goes_on env w) (serving_settled env.serve done).1.segments (serving_settled env.serve done).0 t.ends, t.sent)

  -- what goes back has no endpoint there, and nothing is said to the client
  turns-have : (p : NodePart) (before : List (Place × List ℕ)) (w : Work) → P w.service.block → Turned Goes env p before (goes_on env w)
  turns-have p before w r = (λ stays. goes-has p before w r, λ back. (tt, (nobody, tt)))

  begins-has : (p : NodePart) (parts : EndpointParts) → P (adopted parts) → Goes (with_work env p (taken_sent env) (goes_on env (state_of (reads_batch env true (node_begins env parts)))))
  begins-has p parts h = goes-has p (taken_sent env) (state_of (reads_batch env true (node_begins env parts))) (batch-state env Works k.serves true (node_begins env parts) refl h)

  refused-has : (p : NodePart) → NodeHas R Q p → Goes (Does (kept_refused env p, node_saying (refused_sent env)))
  refused-has p h = (by-row p.row h, (nobody, tt)) where
    Said : ControlBlock → Type 0
    Said b = R b × AreTold env.serve.c (Reply b) []

    by-stay : (b : ControlBlock) (o : Option Stay) → HereHas R Q b o → HereHas Said Q b o
    by-stay b None h = h
    by-stay b (Some s) h = (h, tt)

    by-stage : (d : BackConn) → BackStageHas R Q d p.stay → BackStageHas Said Q d p.stay
    by-stage (back.Here b) h = by-stay b p.stay h
    by-stage _ h = tt

    by-row : (o : Option BackRow) → BackHas R Q o p.stay → BackHas Said Q o p.stay
    by-row None h = tt
    by-row (Some row) h = by-stage row.stage h

  -- ---- the rules

  module _ (p : NodePart) where
    -- what is known where something comes: what is so of its endpoint, what is adopted from an Offer that is new to it, and of the segment
    abbrev pub Given : NodeGets → Type 0
    Given (Offered parts) = NodeHas R Q p × (offer_answer env.epoch p.row ≡ New → P (adopted parts))
    Given (Forwarded given) = NodeHas R Q p × ((s : Said) → given ≡ Ok s → Word s)
    Given _ = NodeHas R Q p

    has : (epoch : ℕ) (b : ControlBlock) (s : Stay) → IsHereWith epoch p b s → NodeHas R Q p → R b
    has epoch b s at h = of-here (BackHas R Q) epoch p b s at h

    came-has : (f : Progress → Progress) (r : ℕ) (b : ControlBlock) (s : Stay) → R b → P (came_for f r (work_of b s)).service.block
    came-has f r b s h = came-so env Works k.serves f r (work_of b s) (k.begins b h)

    fires-has : (b : ControlBlock) (s : Stay) → R b
        → Goes (Does (node_fired env p (b, s) (spoken env.serve (serving (after_timer b) s.served []) (serving_ready_of env.serve (after_timer b) (timed b)))))
    fires-has b s h = let t = fired-has env.serve P R Word Reply k b s.served h in (after-has p (work_of (after_timer b) s) _ _ t.ends, t.sent)

    gone-has : (S : ControlBlock → Type 0) (q : Option BackRow) → BackHas S Q (gone q) p.stay
    gone-has S None = tt
    gone-has S (Some row) = tt

    rules_have : KeptByNode env p Given Goes
    rules_have = record {
      drops = tt;
      hears = λ said b s m at. turns-have p [] (work_of (on_segment b said).1 s) (k.hears b said (has env.epoch b s at m.0) (m.1 said refl));
      tags = λ number nodes b s m at asked same count. turns-have (record p { kept = without timer.Ask 0 p.kept }) [] (tagged env nodes (work_of b s))
          (tagged-so env Works k.serves nodes (work_of b s) (k.begins b (has env.epoch b s at m)));
      comes = λ from r b s m at wanted. turns-have (record p { fetches = without timer.Fetch r p.fetches }) [] (came_for (come_progress from) r (work_of b s))
          (came-has (come_progress from) r b s (has env.epoch b s at m));
      reads = λ r path b s m at. turns-have p [] (came_for read_progress r (work_of b s)) (came-has read_progress r b s (has env.epoch b s at m));
      begins = λ parts m new may. begins-has p parts (m.1 new);
      takes_again = λ parts m again. tt;
      refuses = λ parts m is. refused-has p m.0;
      fires = λ b s m at. fires-has b s (has env.epoch b s at m);
      resends = λ m none. tt;
      ends = λ back m told was. (gone-has _ p.row, (nobody, tt));
      leaves = λ b s m at back. (tt, (nobody, tt));
    }

    pub rule-has : (g : NodeGets) → IsOfItsEpoch env p g → Given g → Goes (node_rule env p g)
    rule-has g at m = node-keeps env p Given Goes rules_have g at m

  -- ---- each by its name

  -- by what the Offer is to the node
  pub offered-has : (p : NodePart) (parts : EndpointParts) (a : Adopt) → (a ≡ New → P (adopted parts)) → (a ≡ Refuse → NodeHas R Q p) → Goes (offered_by env parts p a)
  offered-has p parts New adopts stays = begins-has p parts (adopts refl)
  offered-has p parts Again adopts stays = tt
  offered-has p parts Stale adopts stays = tt
  offered-has p parts Refuse adopts stays = refused-has p (stays refl)

  module _ (p : NodePart) (h : NodeHas R Q p) where
    -- in whatever epoch
    pub timer-has : Goes (node_timer env p)
    timer-has = where-held (epoch_in p) p (λ o. Goes (node_fired_by env p o)) tt (λ b s at. fires-has p b s (has p (epoch_in p) b s at h))
        (λ row found. sym (ap (λ o. epoch_in (record p { row = o })) found))
