-- What a node does: each segment goes to the client and has a byte, and the paths that an Ask names are those of files.
use Rattle.std.proofs.Common.{◌≡◌, ◌-◌, ℕ, ◌+◌, true, nat_lt, List, [], ◌∷◌, ◌++◌, Option, Some, None, refl, sym, subst}
use Rattle.std.proofs.lemmas.Bool.{cond_both}
use Rattle.lard_history.proofs.Each.{Each, Each-append}
use Rattle.lard_law_view.specs.Prelude.{Asked, Ending, Entry, FilesAt, Node, NodeDeed, NodeEnv, NodeGets, NodePart, Place, Progress, Want, Work, after_timer, again_sent, all_sent, asked_sent, came_for, come_on, come_progress, ended_sent, give_kept, gives_back, goes_on, named_paths, node_begins, node_rule, on_segment, parts_of, read_progress, reads_batch, refused_sent, reset_count, sent_of, serving, serving_ready_of, serving_settled, spoken, state_of, tagged, taken_sent, timed, wants_sent, with_work, without, work_of}
use Rattle.lard_laws.proofs.FormedAsks.{all-named, ask-names, other-names}
use Rattle.lard_laws.proofs.FormedSegments.{SaysTo, ready-says, settled-says, spoken-says}
use Rattle.lard_laws.proofs.FormedTold.{NamesBy}
use Rattle.lard_laws.specs.Formed.{AreFilePathsShort, IsOfFile}
use Rattle.lard_base.specs.declared.place.TimerKind.TheVariants as timer
use Rattle.lard_message.specs.declared.kind.Kind.TheVariants as kind
use Rattle.lard_message.specs.declared.message.Body.TheVariants as body
use Rattle.lard_rules.proofs.NodeCases.{IsOfItsEpoch, KeptByNode, Turned, node-keeps}
use Rattle.lard_rules.proofs.StayKeeping.{EachFrom, KeptByStay, batch-keeps, goes-keep, tagged-keeps}
use Rattle.lard_rules.specs.Node.{Does, Drops, Says}
use Rattle.lard_rules.specs.declared.places.Ending.TheVariants as ending

module _ (files : FilesAt) (short : AreFilePathsShort files) (n : ℕ) where
  -- of a message that the node sends
  abbrev pub Names : Place × List ℕ → Type 0
  Names s = NamesBy files (Node n) s.0 s.1

  module _ (env : NodeEnv) (same : env.serve.files ≡ files) where
    -- ---- the Ask of a turn

    abbrev AskedNamed : Option Asked → Type 0
    AskedNamed None = Unit {0}
    AskedNamed (Some a) = Each (IsOfFile files) a.paths

    abbrev Asks : Work → Type 0
    Asks w = AskedNamed w.asked

    named : (es : List Entry) → Each (IsOfFile files) (named_paths env.serve.files es)
    named es = subst (λ (fs : FilesAt). Each (IsOfFile files) (named_paths fs es)) (sym same) (all-named files es)

    by_stay : KeptByStay env Asks
    by_stay = record {
      hits = λ r path v w good is t h. h;
      queues = λ r path v w good is f h. h;
      wants = λ node r path v w good is f h. h;
      enters = λ v w h. h;
      asks = λ size path paths w e h. subst (Each (IsOfFile files)) e (named w.batch);
      takes = λ used w none h. h;
      ends = λ w none h. h;
      serves = λ way e rest w may first is h. h;
    }

    each-any : (r : ℕ) (es : List Entry) → EachFrom (λ r e. Unit {0}) r es
    each-any r [] = tt
    each-any r (e ∷ es) = (tt, each-any (r + 1) es)

    goes-asks : (w : Work) → Asks w → Asks (goes_on env w)
    goes-asks w h = goes-keep env Asks by_stay w h

    tagged-asks : (nodes : List ℕ) (w : Work) → Asks w → Asks (tagged env nodes w)
    tagged-asks nodes w h = tagged-keeps env Asks by_stay (λ r e. Unit {0}) (λ r e v is q p. p) nodes w (each-any (w.service.count + 1) w.batch) h

    came-asks : (f : Progress → Progress) (r : ℕ) (w : Work) → Asks w → Asks (came_for f r w)
    came-asks f r w h = cond_both (nat_lt w.service.count r) (record w { batch = come_on f (r - (w.service.count + 1)) w.batch }) w Asks (λ t. h) (λ t. h)

    -- ---- messages

    asked-names : (o : Option Asked) → AskedNamed o → Each Names (asked_sent env o)
    asked-names None h = tt
    asked-names (Some a) h = (ask-names files short env.serve.c env.epoch a.number a.queue a.size a.paths h, tt)

    wants-names : (ws : List Want) → Each Names (wants_sent env ws)
    wants-names [] = tt
    wants-names (w ∷ ws) = (tt, wants-names ws)

    ended-names : (over : Option ℕ) (e : Ending) → Each Names (ended_sent env over e)
    ended-names over (ending.Here b count) = tt
    ended-names over (ending.Over last) =
        (other-names files (record { c = env.serve.c; epoch = record { 0 = env.epoch }; body = body.Ended last.reason last.snd.0 last.rcv.0 (reset_count over) }) (λ e. let no : kind.Ended ≡ kind.Ask = e in cc), tt)

    taken-names : Each Names (taken_sent env)
    taken-names = (other-names files (record { c = env.serve.c; epoch = record { 0 = env.epoch }; body = body.Taken }) (λ e. let no : kind.Taken ≡ kind.Ask = e in cc), tt)

    refused-names : Each Names (refused_sent env)
    refused-names = (other-names files (record { c = env.serve.c; epoch = record { 0 = env.epoch }; body = body.Refused }) (λ e. let no : kind.Refused ≡ kind.Ask = e in cc), tt)

    give-names : (w : Work) → Names (sent_of (give_kept env w))
    give-names w =
        other-names files (record { c = env.serve.c; epoch = record { 0 = env.epoch }; body = body.Give (parts_of w.service.block w.service.count) }) (λ e. let no : kind.Give ≡ kind.Ask = e in cc)

    all-names : (before : List (Place × List ℕ)) (w : Work) → Each Names before → Asks w → Each Names (all_sent env before w)
    all-names before w h asks =
        Each-append Names (before ++ asked_sent env w.asked) (wants_sent env w.wants) (Each-append Names before (asked_sent env w.asked) h (asked-names w.asked asks)) (wants-names w.wants)

    turn-names : (before : List (Place × List ℕ)) (w : Work) (e : Ending) → Each Names before → Asks w → Each Names (all_sent env before w ++ ended_sent env w.service.over e)
    turn-names before w e h asks = Each-append Names (all_sent env before w) (ended_sent env w.service.over e) (all-names before w h asks) (ended-names w.service.over e)

    -- ---- rule by rule

    abbrev pub DeedNames : NodeDeed → Type 0
    DeedNames Drops = Unit {0}
    DeedNames (Says ms) = Each Names ms
    DeedNames (Does given) = Each (SaysTo env.serve.c) given.1.segments × Each Names given.1.messages

    module _ (p : NodePart) (again : Each Names (again_sent p)) where
      goes-names : (q : NodePart) (before : List (Place × List ℕ)) (w : Work) → Each Names before → Asks w → DeedNames (with_work env q before (goes_on env w))
      goes-names q before w h asks =
          let k : Work = goes_on env w in
          (settled-says env.serve k.service, turn-names before k (serving_settled env.serve k.service).0 h (goes-asks w asks))

      back-names : (q : NodePart) (before : List (Place × List ℕ)) (w : Work) → Each Names before → Asks w → DeedNames (gives_back env q before w)
      back-names q before w h asks = (tt, Each-append Names (all_sent env before w) (sent_of (give_kept env w) ∷ []) (all-names before w h asks) (give-names w, tt))

      ends-names : (q : NodePart) (w : Work) → Asks w → Turned DeedNames env q [] (goes_on env w)
      ends-names q w asks = (λ rests. goes-names q [] w tt asks, λ back. back-names q [] (goes_on env w) tt (goes-asks w asks))

      by_node : KeptByNode env p (λ g. Unit {0}) DeedNames
      by_node = record {
        drops = tt;
        hears = λ said b s m at. ends-names p (work_of (on_segment b said).1 s) tt;
        tags = λ number nodes b s m at asked is count. ends-names (record p { kept = without timer.Ask 0 p.kept }) (tagged env nodes (work_of b s)) (tagged-asks nodes (work_of b s) tt);
        comes = λ from r b s m at wanted. ends-names (record p { fetches = without timer.Fetch r p.fetches }) (came_for (come_progress from) r (work_of b s)) (came-asks (come_progress from) r (work_of b s) tt);
        reads = λ r path b s m at. ends-names p (came_for read_progress r (work_of b s)) (came-asks read_progress r (work_of b s) tt);
        begins = λ parts m new may. goes-names p (taken_sent env) (state_of (reads_batch env true (node_begins env parts))) taken-names (batch-keeps env Asks by_stay true (node_begins env parts) refl tt);
        takes_again = λ parts m told. taken-names;
        refuses = λ parts m is. (tt, refused-names);
        fires = λ b s m at.
            let w : Work = work_of (after_timer b) s in
            let before : List (Place × List ℕ) = serving_ready_of env.serve (after_timer b) (timed b) in
            let given = spoken env.serve (serving (after_timer b) s.served []) before in
            (spoken-says env.serve (serving (after_timer b) s.served []) before (ready-says env.serve (after_timer b) (timed b)), turn-names (again_sent p) w given.0 again tt);
        resends = λ m none. again;
        ends = λ back m told was. (tt, tt);
        leaves = λ b s m at back. back-names p [] (work_of b s) tt tt;
      }

      pub node-names : (g : NodeGets) → IsOfItsEpoch env p g → DeedNames (node_rule env p g)
      node-names g at = node-keeps env p (λ g. Unit {0}) DeedNames by_node g at tt
