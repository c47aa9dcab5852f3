-- What a node says of its own connections, and what it holds of them until that is answered, is no content.
use Rattle.std.proofs.Common.{◌≡◌, ℕ, true, List, [], ◌∷◌, ◌++◌, map, Option, Some, None, ◌∙◌}
use Rattle.std.specs.List.{AllByRecursion}
use Rattle.lard_law_view.specs.Prelude.{Asked, Body, Client, Ending, Final, Kept, NodeDeed, NodeEnv, NodeGets, NodePart, NodeTurn, Place, Service, TimerKind, Turn, Want, Work, after_timer, again_sent, all_sent, anew, ask_kept, asked_kept, asked_sent, came_for, come_progress, ended_kept, ended_sent, fetch_of, give_kept, gives_back, goes_on, kept_after, kept_refused, kind_of, node_begins, node_rule, node_saying, on_segment, parts_of, read_progress, reads_batch, refused_sent, sent_of, serving, serving_ready_of, serving_settled, spoken, state_of, tagged, taken_sent, timed, told_kind, turn_by, wants_kept, wants_sent, with_work, without, work_of}
use Rattle.lard_base.specs.declared.place.TimerKind.TheVariants as timer
use Rattle.lard_law_connections.proofs.PlacesHeads.{kinds-same}
use Rattle.lard_law_connections.proofs.PlacesLoops.{settled-is, spoken-to}
use Rattle.lard_law_view.proofs.Nodes.{anew-all}
use Rattle.lard_laws.specs.WaysContents.{IsContentMessage}
use Rattle.lard_history.proofs.Each.{Each, Each-append}
use Rattle.lard_message.specs.declared.kind.Kind.TheVariants as kind
use Rattle.lard_message.specs.declared.message.Body.TheVariants as body
use Rattle.lard_rules.proofs.NodeCases.{IsOfItsEpoch, KeptByNode, Turned, node-keeps}
use Rattle.lard_rules.specs.Node.{Drops, Says, Does, message}
use Rattle.lard_resend.proofs.Ordered.{drop_all}
use Rattle.lard_rules.specs.declared.places.Ending.TheVariants.{Here, Over}
use Rattle.lard_law_view.proofs.EndpointSends.{AllTo, ready-to}

abbrev pub IsNone : List ℕ → Type 0
IsNone bytes = IsContentMessage bytes → ⊥

-- what is spelled as another kind is read as that
spelled-none : (c e : ℕ) (b : Body) → (kind_of b ≡ kind.Content → ⊥) → IsNone (message c e b)
spelled-none c e b other h = other (kinds-same (record { c = c; epoch = record { 0 = e }; body = b }) h.0 h.1 ∙ h.2)

abbrev HeldNone : List Kept → Type 0
HeldNone ks = AllByRecursion (λ k. IsNone k.bytes) ks

abbrev pub SentNone : List (Place × List ℕ) → Type 0
SentNone ms = Each (λ s. IsNone s.1) ms

-- what it holds of a connection
abbrev pub PartNone : NodePart → Type 0
PartNone p = HeldNone p.kept × HeldNone p.fetches

-- What it holds behind a turn, and what it says in it, is none, and its segments go to the client.
pub record TurnNone (c : ℕ) (p : NodePart) (t : NodeTurn) : Type 0 where
  pub part : PartNone p
  pub messages : SentNone t.messages
  pub segments : AllTo (Client c) t.segments

abbrev pub DeedNone : ℕ → NodeDeed → Type 0
DeedNone c Drops = Unit {0}
DeedNone c (Says ms) = SentNone ms
DeedNone c (Does given) = TurnNone c given.0 given.1

all-held : (ks : List Kept) → HeldNone ks → SentNone (map sent_of ks)
all-held [] h = tt
all-held (k ∷ ks) h = (h.0, all-held ks h.1)

both-held : (xs ys : List Kept) → HeldNone xs → HeldNone ys → HeldNone (xs ++ ys)
both-held [] ys h g = g
both-held (x ∷ xs) ys h g = (h.0, both-held xs ys h.1 g)

less-held : (kind : TimerKind) (r : ℕ) (ks : List Kept) → HeldNone ks → HeldNone (without kind r ks)
less-held kind r ks h = drop_all (λ k. IsNone k.bytes) kind r ks h

module _ (env : NodeEnv) where
  abbrev IsQuiet : NodeDeed → Type 0
  IsQuiet d = DeedNone env.serve.c d

  -- ---- what is held and sent

  ask-none : (a : Asked) → IsNone (ask_kept env.serve.c env.epoch a).bytes
  ask-none a = spelled-none env.serve.c env.epoch (body.Ask a.number a.queue a.size a.paths) (λ f. let no : kind.Ask ≡ kind.Content = f in cc)

  fetch-none : (w : Want) → IsNone (fetch_of env w).bytes
  fetch-none w = spelled-none env.serve.c env.epoch (body.Fetch w.r w.path) (λ f. let no : kind.Fetch ≡ kind.Content = f in cc)

  asked-held : (o : Option Asked) (ks : List Kept) → HeldNone ks → HeldNone (asked_kept env o ks)
  asked-held None ks h = h
  asked-held (Some a) ks h = anew-all (λ k. IsNone k.bytes) (ask_kept env.serve.c env.epoch a) ks (ask-none a) h

  wants-held : (ws : List Want) (ks : List Kept) → HeldNone ks → HeldNone (wants_kept env ws ks)
  wants-held [] ks h = h
  wants-held (w ∷ ws) ks h = wants-held ws (anew (fetch_of env w) ks) (anew-all (λ k. IsNone k.bytes) (fetch_of env w) ks (fetch-none w) h)

  asked-none : (o : Option Asked) → SentNone (asked_sent env o)
  asked-none None = tt
  asked-none (Some a) = (ask-none a, tt)

  wants-none : (ws : List Want) → SentNone (wants_sent env ws)
  wants-none [] = tt
  wants-none (w ∷ ws) = (fetch-none w, wants-none ws)

  all-none : (before : List (Place × List ℕ)) (w : Work) → SentNone before → SentNone (all_sent env before w)
  all-none before w none = Each-append (λ s. IsNone s.1) (before ++ asked_sent env w.asked) (wants_sent env w.wants)
      (Each-append (λ s. IsNone s.1) before (asked_sent env w.asked) none (asked-none w.asked)) (wants-none w.wants)

  give-none : (w : Work) → IsNone (give_kept env w).bytes
  give-none w = spelled-none env.serve.c env.epoch (body.Give (parts_of w.service.block w.service.count)) (λ f. let no : kind.Give ≡ kind.Content = f in cc)

  -- ---- the end of a turn

  module _ (p : NodePart) (held : PartNone p) where
    turn-none : (before : List (Place × List ℕ)) (w : Work) (given : Ending × Turn) → SentNone before → AllTo (Client env.serve.c) given.1.segments → IsQuiet (Does (kept_after env p w given.0, turn_by env before w given))
    turn-none before w given none to = record {
      part = kept given.0;
      messages = Each-append (λ s. IsNone s.1) (all_sent env before w) (ended_sent env w.service.over given.0) (all-none before w none) (ended given.0);
      segments = to;
    } where
      end-none : (last : Final) (count : ℕ) → IsNone (ended_kept env.serve.c env.epoch last count).bytes
      end-none last count = spelled-none env.serve.c env.epoch (body.Ended last.reason last.snd.0 last.rcv.0 count) (λ f. let no : kind.Ended ≡ kind.Content = f in cc)

      kept : (e : Ending) → PartNone (kept_after env p w e)
      kept (Here b count) = (asked-held w.asked p.kept held.0, wants-held w.wants p.fetches held.1)
      kept (Over last) = ((end-none last _, tt), tt)

      ended : (e : Ending) → SentNone (ended_sent env w.service.over e)
      ended (Here b count) = tt
      ended (Over last) = (end-none last _, tt)

    back-none : (before : List (Place × List ℕ)) (w : Work) → SentNone before → IsQuiet (gives_back env p before w)
    back-none before w none = record {
      part = ((give-none w, tt), tt);
      messages = Each-append (λ s. IsNone s.1) (all_sent env before w) (sent_of (give_kept env w) ∷ []) (all-none before w none) (give-none w, tt);
      segments = tt;
    }

    works-none : (before : List (Place × List ℕ)) (w : Work) → SentNone before → IsQuiet (with_work env p before w)
    works-none before w none = turn-none before w (serving_settled env.serve w.service) none (settled-is env.serve w.service).to

    -- it rests, or goes back
    turns-none : (w : Work) → Turned IsQuiet env p [] w
    turns-none w = (λ rests. works-none [] w tt, λ back. back-none [] w tt)

  -- ---- the rules

  module _ (p : NodePart) (held : PartNone p) where
    taken-none : SentNone (taken_sent env)
    taken-none = (spelled-none env.serve.c env.epoch body.Taken (λ f. let no : kind.Taken ≡ kind.Content = f in cc), tt)

    refused-none : IsQuiet (Does (kept_refused env p, node_saying (refused_sent env)))
    refused-none = record {
      part = held;
      messages = (spelled-none env.serve.c env.epoch body.Refused (λ f. let no : kind.Refused ≡ kind.Content = f in cc), tt);
      segments = tt;
    }

    again-none : SentNone (again_sent p)
    again-none = all-held (p.kept ++ p.fetches) (both-held p.kept p.fetches held.0 held.1)

    rules_none : KeptByNode env p (λ g. Unit {0}) IsQuiet
    rules_none = record {
      drops = tt;
      hears = λ said b s m at. turns-none p held (goes_on env (work_of (on_segment b said).1 s));
      tags = λ number nodes b s m at asked same count.
          turns-none (record p { kept = without timer.Ask 0 p.kept }) (less-held timer.Ask 0 p.kept held.0, held.1) (goes_on env (tagged env nodes (work_of b s)));
      comes = λ from r b s m at wanted.
          turns-none (record p { fetches = without timer.Fetch r p.fetches }) (held.0, less-held timer.Fetch r p.fetches held.1) (goes_on env (came_for (come_progress from) r (work_of b s)));
      reads = λ r path b s m at. turns-none p held (goes_on env (came_for read_progress r (work_of b s)));
      begins = λ parts m new may. works-none p held (taken_sent env) (goes_on env (state_of (reads_batch env true (node_begins env parts)))) taken-none;
      takes_again = λ parts m again. taken-none;
      refuses = λ parts m is. refused-none;
      fires = λ b s m at.
          let v : Service = serving (after_timer b) s.served [] in
          let before = serving_ready_of env.serve (after_timer b) (timed b) in
          turn-none p held (again_sent p) (work_of (after_timer b) s) (spoken env.serve v before) again-none (spoken-to env.serve v before (ready-to env.serve (after_timer b) (timed b)));
      resends = λ m none. again-none;
      ends = λ back m told was. record { part = (less-held (told_kind back) 0 p.kept held.0, held.1); messages = tt; segments = tt };
      leaves = λ b s m at back. back-none p held [] (work_of b s) tt;
    }

    pub rule-none : (g : NodeGets) → IsOfItsEpoch env p g → IsQuiet (node_rule env p g)
    rule-none g at = node-keeps env p (λ g. Unit {0}) IsQuiet rules_none g at tt
