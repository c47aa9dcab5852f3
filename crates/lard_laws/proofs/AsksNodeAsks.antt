-- Each rule of a node, by the Asks that it sends.
use Rattle.std.proofs.Common.{◌≡◌, ◌<◌, ◌^◌, ℕ, ◌+◌, true, List, [], ◌++◌, length, map, Option, Some, None, refl, sym, ap, ◌∙◌, subst, arith, append-nil}
use Rattle.std.proofs.lemmas.List.{map-append}
use Rattle.lard_law_view.specs.Prelude.{BackRow, Client, ControlBlock, Ending, EndpointParts, NodeDeed, NodeEnv, NodeGets, NodePart, Offered, Place, Stay, Turn, Work, after_timer, again_sent, came_for, come_progress, epoch_in, gives_back, goes_on, gone, kept_refused, node_begins, node_fired, node_rule, offer_answer, on_segment, read_progress, reads_batch, refused_sent, sent_of, serving, serving_ready_of, serving_settled, spoken, state_of, tagged, taken_sent, timed, told_kind, turn_by, with_work, without, work_of}
use Rattle.lard_base.specs.declared.place.TimerKind.TheVariants as timer
use Rattle.lard_laws.specs.AsksSent.{IsAskNumbered}
use Rattle.lard_laws.proofs.AsksSending.{IsLast, IsNoAsk, Outcome, PartAsks, RowAsks, StageAsks, again-outcome, asks_in, back-outcome, filter-each, in-append, keeps-none, kept-again, none-outcome, refused-unsent, taken-unsent, turn-asks, turn-outcome, unasked-part}
use Rattle.lard_laws.proofs.AsksWorking.{IsAsking, batch-state, came-idle, goes-so, idle-asking, tagged-idle}
use Rattle.lard_law_connections.proofs.PlacesLoops.{settled-is, spoken-to}
use Rattle.lard_handoff_back.specs.declared.row.BackConn.TheVariants as back
use Rattle.lard_handoff_back.specs.declared.table.Adopt.TheVariants.{New}
use Rattle.lard_history.proofs.Each.{Each}
use Rattle.lard_rules.proofs.NodeCases.{IsHereWith, IsOfItsEpoch, KeptByNode, Turned, node-keeps, of-here}
use Rattle.lard_rules.specs.Node.{Drops, Says, Does}
use Rattle.lard_law_view.proofs.EndpointSends.{AllTo, ready-to}

module _ (c n : ℕ) (last : ℕ → Option (List ℕ)) (env : NodeEnv) (number : env.serve.c ≡ c) (p : NodePart) (h : PartAsks c last p) where
  -- what a rule sends goes on as it must, with the jobs that the disk has then
  abbrev pub DeedAsks : NodeDeed → Type 0
  DeedAsks Drops = Unit {0}
  DeedAsks (Says ms) = (waiting : ℕ) → Outcome c n last waiting ms p
  DeedAsks (Does given) = Outcome c n last (env.queue + length given.1.jobs) given.1.messages given.0 × AllTo (Client env.serve.c) given.1.segments

  -- ---- where it is here

  -- what is known of its stay
  pub record HereAsks (s : Stay) : Type 0 where
    pub counted : IsAskNumbered c env.epoch (last env.epoch) s.asks
    pub fresh : (e : ℕ) → env.epoch < e → last e ≡ None

  here-asks : (b : ControlBlock) (s : Stay) → IsHereWith env.epoch p b s → HereAsks s
  here-asks b s at = record {
    counted = subst (λ (e : ℕ). IsAskNumbered c e (last e) s.asks) at.epoch_is (of-here (λ (row : Option BackRow) (stay : Option Stay). RowAsks c last stay row) env.epoch p b s at h.stay);
    fresh = λ e less.
        h.fresh e (let same = at.epoch_is in let at_row : epoch_in p ≡ at.row.epoch.0 = ap (λ (o : Option BackRow). epoch_in (record p { row = o })) at.found in omega (arith, less, same, at_row));
  }

  -- ---- the rules of a stay

  module _ (small : (b : ControlBlock) (s : Stay) → IsHereWith env.epoch p b s → env.epoch < 2 ^ 16) where
    -- a turn of these parts
    works : (part : NodePart) → Each (IsLast last) part.kept → Each IsNoAsk part.fetches → (b : ControlBlock) (s : Stay) → IsHereWith env.epoch p b s
        → (w : Work) → (w.asked ≡ None) × (w.asks ≡ s.asks) → DeedAsks (with_work env part [] (goes_on env w))
    works part kept fetches b s at w idle =
        let known : HereAsks s = here-asks b s at in (
          turn-outcome c n last env number (small b s at) part [] (goes_on env w) (serving_settled env.serve (goes_on env w).service) s.asks (goes-so env s.asks w (idle-asking env s.asks w idle)) (λ e. refl) kept fetches known.fresh known.counted,
          (settled-is env.serve (goes_on env w).service).to,
        )

    -- or the connection goes back
    backs : (part : NodePart) (b : ControlBlock) (s : Stay) → IsHereWith env.epoch p b s → (w : Work) → IsAsking env s.asks w → DeedAsks (gives_back env part [] w)
    backs part b s at w asking = let known : HereAsks s = here-asks b s at in (back-outcome c n last env number (small b s at) part [] w s.asks asking (λ e. refl) known.fresh known.counted, tt)

    ends-asks : (part : NodePart) → Each (IsLast last) part.kept → Each IsNoAsk part.fetches → (b : ControlBlock) (s : Stay) → IsHereWith env.epoch p b s
        → (w : Work) → (w.asked ≡ None) × (w.asks ≡ s.asks) → Turned DeedAsks env part [] (goes_on env w)
    ends-asks part kept fetches b s at w idle =
        (λ rests. works part kept fetches b s at w idle, λ back. backs part b s at (goes_on env w) (goes-so env s.asks w (idle-asking env s.asks w idle)))

    -- ---- its timer fires: what is kept is sent again

    again-asks : (e : ℕ) → Each (λ bytes. last e ≡ Some bytes) (asks_in n e (again_sent p))
    again-asks e = subst (Each (λ bytes. last e ≡ Some bytes))
        (sym (ap (asks_in n e) (map-append sent_of p.kept p.fetches) ∙ in-append n e (map sent_of p.kept) (map sent_of p.fetches) ∙ ap (λ l. asks_in n e (map sent_of p.kept) ++ l) (keeps-none n e p.fetches h.fetches) ∙ append-nil (asks_in n e (map sent_of p.kept))))
        (kept-again c n last e p.kept h.kept)

    fires : (b : ControlBlock) (s : Stay) → IsHereWith env.epoch p b s
        → DeedAsks (Does (node_fired env p (b, s) (spoken env.serve (serving (after_timer b) s.served []) (serving_ready_of env.serve (after_timer b) (timed b)))))
    fires b s at =
        let known : HereAsks s = here-asks b s at in
        let w : Work = work_of (after_timer b) s in
        let given : Ending × Turn = spoken env.serve (serving (after_timer b) s.served []) (serving_ready_of env.serve (after_timer b) (timed b)) in
        let ms : List (Place × List ℕ) = (turn_by env (again_sent p) w given).messages in (
          again-outcome c n last (env.queue + 0) ms _ (λ e. subst (Each (λ bytes. last e ≡ Some bytes)) (sym (turn-asks c n last env number e (again_sent p) w given.0 ∙ append-nil (asks_in n e (again_sent p)))) (again-asks e))
              (unasked-part c n last env number p w given.0 s.asks refl refl h.kept h.fetches known.fresh known.counted),
          spoken-to env.serve (serving (after_timer b) s.served []) (serving_ready_of env.serve (after_timer b) (timed b)) (ready-to env.serve (after_timer b) (timed b)),
        )

  -- ---- its end is acknowledged

  gone-asks : (o : Option BackRow) → RowAsks c last p.stay (gone o)
  gone-asks None = tt
  gone-asks (Some row) = stage p.stay where
    stage : (y : Option Stay) → StageAsks c row.epoch.0 (last row.epoch.0) y back.Gone
    stage None = tt
    stage (Some s) = tt

  gone-epoch : (o : Option BackRow) → epoch_in (record p { row = gone o }) ≡ epoch_in (record p { row = o })
  gone-epoch None = refl
  gone-epoch (Some row) = refl

  -- ---- an Offer

  -- what is known of one that is new
  pub record IsNewer : Type 0 where
    pub small : env.epoch < 2 ^ 16
    pub above : epoch_in p < env.epoch

  begins : (parts : EndpointParts) → IsNewer
      → DeedAsks (with_work env p (taken_sent env) (goes_on env (state_of (reads_batch env true (node_begins env parts)))))
  begins parts newer =
      let none : last env.epoch ≡ None = h.fresh env.epoch newer.above in
      let w : Work = state_of (reads_batch env true (node_begins env parts)) in (
        turn-outcome c n last env number newer.small p (taken_sent env) (goes_on env w) (serving_settled env.serve (goes_on env w).service) 0 (goes-so env 0 w (batch-state env 0 true (node_begins env parts) refl (refl, refl)))
            (taken-unsent c n last env number) h.kept h.fetches (λ e less. h.fresh e (omega (arith, less, newer.above))) (subst (λ (o : Option (List ℕ)). IsAskNumbered c env.epoch o 0) (sym none) refl),
        (settled-is env.serve (goes_on env w).service).to,
      )

  -- ---- the rules

  abbrev pub MayAsk : NodeGets → Type 0
  MayAsk (Offered parts) = offer_answer env.epoch p.row ≡ New → IsNewer
  MayAsk _ = Unit {0}

  module _ (small : (b : ControlBlock) (s : Stay) → IsHereWith env.epoch p b s → env.epoch < 2 ^ 16) where
    rules_ask : KeptByNode env p MayAsk DeedAsks
    rules_ask = record {
      drops = tt;
      hears = λ said b s m at. ends-asks small p h.kept h.fetches b s at (work_of (on_segment b said).1 s) (refl, refl);
      tags = λ number nodes b s m at asked same count.
          ends-asks small (record p { kept = without timer.Ask 0 p.kept }) (filter-each (IsLast last) _ p.kept h.kept) h.fetches b s at
          (tagged env nodes (work_of b s)) (tagged-idle env s.asks nodes (work_of b s) (refl, refl));
      comes = λ from r b s m at wanted.
          ends-asks small (record p { fetches = without timer.Fetch r p.fetches }) h.kept (filter-each IsNoAsk _ p.fetches h.fetches) b s at
          (came_for (come_progress from) r (work_of b s)) (came-idle env s.asks (come_progress from) r (work_of b s) (refl, refl));
      reads = λ r path b s m at.
          ends-asks small p h.kept h.fetches b s at (came_for read_progress r (work_of b s)) (came-idle env s.asks read_progress r (work_of b s) (refl, refl));
      begins = λ parts m new may. begins parts (m new);
      takes_again = λ parts m again waiting. none-outcome c n last waiting (taken_sent env) p (taken-unsent c n last env number) h;
      refuses = λ parts m is. (
        none-outcome c n last (env.queue + 0) (refused_sent env) (kept_refused env p) (refused-unsent c n last env number) (record { fresh = h.fresh; kept = h.kept; fetches = h.fetches; stay = h.stay }),
        tt,
      );
      fires = λ b s m at. fires small b s at;
      resends = λ m none waiting. again-outcome c n last waiting (again_sent p) p (again-asks small) h;
      ends = λ back m told was. (
        none-outcome c n last (env.queue + 0) [] (record p { row = gone p.row; kept = without (told_kind back) 0 p.kept }) (λ e. refl)
            (record { fresh = λ e less. h.fresh e (subst (λ (d : ℕ). d < e) (gone-epoch p.row) less); kept = filter-each (IsLast last) _ p.kept h.kept; fetches = h.fetches; stay = gone-asks p.row }),
        tt,
      );
      leaves = λ b s m at back. backs small p b s at (work_of b s) (idle-asking env s.asks (work_of b s) (refl, refl));
    }

    pub rule-asks : (g : NodeGets) → IsOfItsEpoch env p g → MayAsk g → DeedAsks (node_rule env p g)
    rule-asks g at m = node-keeps env p MayAsk DeedAsks rules_ask g at m
