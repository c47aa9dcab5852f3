-- What an Offer and a Give carry in every run.
use Rattle.std.proofs.Common.{◌≡◌, ◌≤◌, ◌^◌, ℕ, false, List, [], ◌∷◌, Some, None, ap, ◌∙◌, sym, subst, Ok}
use Rattle.std.specs.List.{fold}
use Rattle.lard_law_view.specs.Prelude.{Acknowledged, Client, Completed, Config, Conn, Content, EachRow, FilesAt, Fires, Forwarded, Front, Guarded, IsConnNumber, IsConnSound, IsGuardedLaw, IsNodeEnv, IsReached, Leaves, Machine, MayRestOn, Move, Node, NodeDeed, NodeEnv, NodeGets, NodePart, NodeRules, OfEach, Offered, Place, Rec, Seen, Setting, Station, Tagged, Tale, ToCluster, Untouched, UntouchedRules, WhileUntouched, come_by, config_check, conn, decoded, file_at, goes_back_by, grown, is_touched, named_in, node_does, node_read_by, node_rule, own, plain, seen_in, seen_step, setting, stands, tale_at, tale_of, tale_step, told_on, whose, with_leaving}
use Rattle.lard_law_connections.specs.BytesAgreement.{IsConnUnopened, IsFair, IsOpen, IsTruthful}
use Rattle.lard_law_connections.proofs.BytesClientMoves.{has-fair, open-at}
use Rattle.lard_law_connections.proofs.BytesNodeRest.{by-station, front-opens, never, nothing-held, nothing-here}
use Rattle.lard_law_connections.proofs.BytesOwners.{Known, Knows, known}
use Rattle.lard_law_connections.proofs.BytesRuns.{states-truthful}
use Rattle.lard_law_connections.proofs.BytesTold.{Bytes, bytes_of}
use Rattle.lard_law_connections.specs.Offers.{BodyCarries, FirstCarries, MayOffer, OffersCarryTheEndpoint, OffersTo}
use Rattle.lard_law_connections.proofs.OffersNodes.{ack-speaks, offered-speaks, stay-speaks}
use Rattle.lard_law_connections.proofs.OffersParts.{Tells}
use Rattle.lard_law_connections.proofs.OffersRows.{FirstMine, Mine, move-may, rows-mine}
use Rattle.lard_law_connections.proofs.OffersRules.{SaysTruth, Wants, fronts}
use Rattle.lard_law_connections.proofs.OffersSaying.{AllMayGo, AreSaid}
use Rattle.lard_law_connections.proofs.OffersSent.{AreSeen, grown-seen, own-sends}
use Rattle.lard_law_connections.proofs.PlacesRuns.{each-placed}
use Rattle.lard_law_connections.proofs.PlacesTurns.{IsPlaced}
use Rattle.lard_law_view.proofs.Carried.{carried}
use Rattle.lard_law_view.proofs.EachNode.{Answers, Aside, Brings, NodeComes, Queues, aside_said, aside_seen, each-node, job_notes, told_first}
use Rattle.lard_law_view.proofs.Fine.{IsFine, IsItsOwn, fine}
use Rattle.lard_law_view.proofs.Frames.{Owed, clients-leave}
use Rattle.lard_law_view.proofs.Guarded.{guarded-law, untouched-both, untouched-weaker}
use Rattle.lard_law_view.proofs.InSteps.{carried-records}
use Rattle.lard_law_view.proofs.Naming.{decoded-names}
use Rattle.lard_law_view.proofs.NodeHeads.{of-heads}
use Rattle.lard_law_view.proofs.Rows.{tale_before}
use Rattle.lard_history.proofs.Lifting.{tale-own}
use Rattle.lard_history.proofs.Tales.{touched-tale}
use Rattle.lard_journal.specs.declared.rec.Rec.TheVariants as rec
use Rattle.lard_rules.specs.Node as node
use Rattle.lard_base.proofs.Usable.{usable}
use Rattle.lard_segment.proofs.Again.{again}

-- ---- the other places

module _ (k : Setting) (small : k.stream ≤ 2 ^ 30) where
  client-says : (x : Conn) (b : Bytes) (d : ℕ) (ss : List (Place × List ℕ)) → AllMayGo k.files x b (Client d) ss
  client-says x b d [] = tt
  client-says x b d (s ∷ ss) = (tt, client-says x b d ss)

  -- ---- a node

  module _ (x : Conn) (n epoch : ℕ) (env : NodeEnv) (heads : List Seen) (g : NodeGets) (is : IsNodeEnv k x.c n epoch env) (comes : NodeComes x n epoch heads g)
      (number : IsConnNumber x.c) (sound : IsConnSound x) (placed : IsPlaced x) (h : IsTruthful k.files x) where
    abbrev ours : NodePart
    ours = x.part.nodes n

    abbrev Speaks : NodeGets → NodeDeed → Type 0
    Speaks i d = SaysTruth k.files x (told_first (job_notes x.c n i) (node_does x n heads d))

    module _ (s : Station) (there : x.part.station ≡ Some s) where
      open_now : IsOpen k.files x h.talk h.pend s
      open_now = open-at k.files x s there h

      abbrev Told : List Seen → Type 0
      Told ss = Tells h.talk.w h.talk.out h.talk.vs (fold (seen_step (tale_step x.c)) (tale_at x) ss)

      at-first : Tells h.talk.w h.talk.out h.talk.vs (tale_at x)
      at-first = record { numbers = open_now.tale.numbers; wrote = open_now.tale.wrote; served = open_now.tale.served }

      behind : (d : NodeDeed) → Tells h.talk.w h.talk.out h.talk.vs (tale_before x (node_does x n heads d))
      behind d = by-deed d (of-heads x n Told (λ from bytes. record { numbers = at-first.numbers; wrote = at-first.wrote; served = at-first.served }) at-first
          (record { numbers = at-first.numbers; wrote = at-first.wrote; served = at-first.served }) epoch heads g comes) where
            by-deed : (d : NodeDeed) → Told heads → Tells h.talk.w h.talk.out h.talk.vs (tale_before x (node_does x n heads d))
            by-deed node.Drops t = t
            by-deed (node.Says ms) t = t
            by-deed (node.Does given) t = t

      opened-speaks : (i : NodeGets) → NodeComes x n epoch heads i → Speaks i (node_rule env ours i)
      opened-speaks (Offered parts) come = offered-speaks k small x number s there h.talk h.pend open_now n env epoch is placed sound heads behind (Offered parts) parts
      opened-speaks (Acknowledged back) come = ack-speaks k small x number s there h.talk h.pend open_now n env epoch is placed sound heads behind (Acknowledged back) back
      opened-speaks (Forwarded given) come =
          let f = (has-fair (IsFair h.talk x.c x.part) (record { from = Front; to = Node n; bytes = come.came.bytes }) x.letters come.came.was open_now.fair) _ come.came.spells in
          stay-speaks k small x number s there h.talk h.pend open_now n env epoch is placed sound heads behind (Forwarded given)
          (f.0, come.read ∙ ap (λ (b : List ℕ). decoded b x.c ToCluster) f.1 ∙ again x.c ToCluster f.0 f.2.sendable, f.2)
      opened-speaks Fires come = stay-speaks k small x number s there h.talk h.pend open_now n env epoch is placed sound heads behind Fires (is.epoch_is ∙ come.epoch_is)
      opened-speaks Leaves come = stay-speaks k small x number s there h.talk h.pend open_now n env epoch is placed sound heads behind Leaves (is.epoch_is ∙ come.1)
      opened-speaks (Tagged ask nodes) come = stay-speaks k small x number s there h.talk h.pend open_now n env epoch is placed sound heads behind (Tagged ask nodes) tt
      opened-speaks (Content from r) come = stay-speaks k small x number s there h.talk h.pend open_now n env epoch is placed sound heads behind (Content from r) tt
      opened-speaks (Completed r path) come = stay-speaks k small x number s there h.talk h.pend open_now n env epoch is placed sound heads behind (Completed r path) tt

    module _ (none : x.part.station ≡ None) where
      unopened : IsConnUnopened x
      unopened = never k.files x none h

      -- no node has it
      unopened-speaks : (i : NodeGets) → NodeComes x n epoch heads i → Speaks i (node_rule env ours i)
      unopened-speaks (Forwarded given) come = absurd (front-opens x n come.came.bytes come.came.was unopened)
      unopened-speaks (Content from r) come = subst (Speaks (Content from r)) (sym (ap (come_by env from r ours) (nothing-here k.files x none h n env.epoch placed.sits))) (tt, tt)
      unopened-speaks (Completed r path) come = subst (Speaks (Completed r path)) (sym (ap (node_read_by env r ours) (nothing-here k.files x none h n env.epoch placed.sits))) (tt, tt)
      unopened-speaks Leaves come = subst (Speaks Leaves) (sym (ap (goes_back_by env ours) (nothing-held k.files x none h n placed.sits))) (tt, tt)
      unopened-speaks Fires come = let no : Some come.station ≡ None = sym come.there ∙ none in absurd cc
      unopened-speaks i come = absurd (front-opens x n come.bytes come.was unopened)

    node-speaks : Speaks g (node_rule env ours g)
    node-speaks = by-station k small x (Speaks g (node_rule env ours g)) (λ s there. opened-speaks s there g comes) (λ none. unopened-speaks none g comes)

  nodes : NodeRules k (Owed (Wants k small))
  nodes = each-node k (Owed (Wants k small)) (record {
    does = λ x n epoch env heads g is at comes number sound placed h. node-speaks x n epoch env heads g is comes number sound placed h;
    aside = λ x n a may number sound placed h. aside-speaks x n a;
  }) where
    aside-speaks : (x : Conn) (n : ℕ) (a : Aside) → SaysTruth k.files x (stands x (Node n) (aside_seen n a) (aside_said k n x.c a))
    aside-speaks x n (Answers from epoch r path file bytes) = (tt, (tt, tt))
    aside-speaks x n (Queues from epoch r path file bytes) = (tt, tt)
    aside-speaks x n (Brings from epoch r path) = (tt, (tt, tt))

  rules : UntouchedRules k (Owed (Wants k small))
  rules = record {
    client = clients-leave k (Wants k small) (λ x v at own number sound placed h.
        let b : Bytes = bytes_of (told_on x.c (tale_before x v) v.said.notes) in
        subst (λ (place : Place). AreSaid k.files x b place v.said.segments v.said.messages) (sym at.client) (client-says x b x.c v.said.segments, client-says x b x.c v.said.messages));
    front = fronts k small;
    node = nodes;
    ignores = λ x from to bytes was number sound placed h. (tt, tt);
  }

  -- ---- a law

  abbrev Given : Conn → Type 0
  Given x = IsPlaced x × Untouched (IsTruthful k.files) x

  abbrev All : Conn → Move → Type 0
  All x v = (IsFine x v × Owed (Wants k small) x v) × Knows x v

  all : UntouchedRules k All
  all = untouched-both k (λ x v. IsFine x v × Owed (Wants k small) x v) Knows (untouched-both k IsFine (Owed (Wants k small)) (fine k).untouched rules) (known k)

  abbrev Moves : Conn → Move → Type 0
  Moves x v = MayRestOn Given x → (tale_at x).touched ≡ false → AreSeen x → AreSeen (grown x v) × EachRow (Mine k.files x.c) x.seen (seen_in x v)

  moves : (x : Conn) (v : Move) → All x v → Moves x v
  moves x v h may untouched seen =
      let own : IsItsOwn x v = (h.0.0 may.number may.sound).0 in
      let more : Known x v = h.1 (record { number = may.number; sound = may.sound; given = may.given.0 }) own in
      let says : SaysTruth k.files x v = h.0.1 may.number may.sound may.given.0 (may.given.1 untouched) in
      (grown-seen x v seen, rows-mine k.files x seen x.seen (seen_in x v) (λ from to bytes s. s) (move-may k.files x v own more.heads says))

  offers-law : IsGuardedLaw k Given AreSeen (Mine k.files)
  offers-law = record {
    begins = λ c l h. absurd h;
    events = λ c past e. tt;
    injected = λ c past. tt;
    moves = untouched-weaker k All Moves moves all;
  }

-- ---- from a connection's records to the journal's

module _ (files : FilesAt) where
  abbrev mine : ℕ → List Seen → Rec → Type 0
  mine c past r = WhileUntouched (Mine files) c past r

  some-number : (a b : ℕ) → Some a ≡ Some b → a ≡ b
  some-number a b e = cc

  first-to : (J : List Rec) (from to : Place) (bytes : List ℕ) (c : ℕ) → named_in bytes ≡ Some c
      → ((tale_of c (own c J)).touched ≡ false → FirstMine files c (own c J) from to bytes) → FirstCarries files J from to bytes
  first-to J from to bytes c e h m d u new =
      let same : m.c ≡ c = some-number m.c c (sym (decoded-names m bytes d).named ∙ e) in
      let quiet : (tale_of c (own c J)).touched ≡ false =
      ap (λ (t : Tale). t.touched) (sym (tale-own J c)) ∙ sym (touched-tale J c) ∙ subst (λ (q : ℕ). is_touched J q ≡ false) same u in
      subst (λ (q : ℕ). BodyCarries files J q m.body) (sym same) (h quiet (λ s. new (own-sends from to bytes c J s)) J (tale-own J c) m d)

  offer-to : (J : List Rec) (from to : Place) (bytes : List ℕ) (c : ℕ) → whose (rec.Sent 0 from to bytes) ≡ Some c → mine c (own c J) (rec.Sent 0 from to bytes) → OffersTo files J from to bytes
  offer-to J Front (Node n) bytes c e h = first-to J Front (Node n) bytes c e h
  offer-to J Front Front bytes c e h = tt
  offer-to J Front (Client d) bytes c e h = tt
  offer-to J (Node n) Front bytes c e h = first-to J (Node n) Front bytes c e h
  offer-to J (Node n) (Node m) bytes c e h = tt
  offer-to J (Node n) (Client d) bytes c e h = tt
  offer-to J (Client d) to bytes c e h = tt

  somebody : (J : List Rec) (r : Rec) (c : ℕ) → whose r ≡ Some c → mine c (own c J) (plain r) → MayOffer files J r
  somebody J (rec.Sent k from to bytes) c e h = offer-to J from to bytes c e h
  somebody J _ c e h = tt

  first-none : (J : List Rec) (from to : Place) (bytes : List ℕ) → named_in bytes ≡ None → FirstCarries files J from to bytes
  first-none J from to bytes e m d u new = let no : Some m.c ≡ None = sym (decoded-names m bytes d).named ∙ e in absurd cc

  offer-none : (J : List Rec) (from to : Place) (bytes : List ℕ) → whose (rec.Sent 0 from to bytes) ≡ None → OffersTo files J from to bytes
  offer-none J Front (Node n) bytes e = first-none J Front (Node n) bytes e
  offer-none J Front Front bytes e = tt
  offer-none J Front (Client d) bytes e = tt
  offer-none J (Node n) Front bytes e = first-none J (Node n) Front bytes e
  offer-none J (Node n) (Node m) bytes e = tt
  offer-none J (Node n) (Client d) bytes e = tt
  offer-none J (Client d) to bytes e = tt

  nobody : (J : List Rec) (r : Rec) → whose r ≡ None → MayOffer files J r
  nobody J (rec.Sent k from to bytes) e = offer-none J from to bytes e
  nobody J _ e = tt

-- ---- every run

module _ (config : Config) (files : List (List ℕ × List ℕ)) (checked : config_check config ≡ Ok tt) where
  small : config.stream ≤ 2 ^ 30
  small = (usable config checked).stream

  each-guarded : OfEach config files (Guarded AreSeen (Mine (file_at files)))
  each-guarded = carried config files (Given (setting config files) small) (Guarded AreSeen (Mine (file_at files)))
      (λ l. let k : Setting = with_leaving (setting config files) l in guarded-law k (Given k small) AreSeen (Mine (file_at files)) (offers-law k small))
      (λ m r q. (each-placed config files checked m r q, states-truthful config files checked m r q))

  each : (m : Machine) → IsReached config files m → (q : ℕ) → EachRow (mine (file_at files) q) [] (conn m q).seen
  unfolding conn
  each m r q = (each-guarded m r q).1

pub offers-carry : OffersCarryTheEndpoint
offers-carry config files m checked r = carried-records config files (MayOffer (file_at files)) (mine (file_at files)) (nobody (file_at files)) (somebody (file_at files)) (each config files checked) m r
