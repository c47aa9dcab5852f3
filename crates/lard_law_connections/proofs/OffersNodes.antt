-- What each rule of a node says: what it said before, no Offer, and of a Give what the journal tells.
use Rattle.std.proofs.Common.{◌≡◌, ◌≤◌, ◌^◌, ℕ, Bool, true, List, [], ◌∷◌, ◌++◌, ◌+◌, ◌||◌, length, Option, Some, None, Ok, inl, inr, ⊎_elim, refl, ap, ◌∙◌, sym, subst}
use Rattle.std.specs.List.{list_any}
use Rattle.std.proofs.lemmas.Bool.{cond_both}
use Rattle.lard_law_view.specs.Prelude.{Adopt, AreSent, Asked, BackRow, Body, Client, Completed, Conn, ControlBlock, Ending, EndpointParts, Front, IsConnNumber, IsConnSound, IsNodeEnv, IsStream, Kept, Kind, Message, Node, NodeDeed, NodeEnv, NodeGets, NodePart, NodeTurn, Place, Rec, Seen, Setting, Station, Tale, Talk, Verdict, Want, Work, again_sent, asked_sent, awaits_told, decoded_message, ended_sent, gone, is_reset_record, kept_after, kind_of, named_records, node_acknowledged, node_begins, node_does, node_offered, node_rule, node_saying, offer_decision, offered_by, parts_of, reads_batch, refused_sent, goes_on, served_in, serving_settled, state_of, tale, taken_sent, told_kind, told_on, turn_by, wants_sent, with_work, without}
use Rattle.lard_law_connections.specs.BytesAgreement.{FrontHolds, IsKept, IsOpen, RowAgrees}
use Rattle.lard_law_connections.specs.BytesKeeping.{EndsOfKind, HasLeft, NodeSays, NodeTurned}
use Rattle.lard_law_connections.specs.BytesTurning.{IsNoteOf}
use Rattle.lard_law_connections.proofs.BytesNodeTurns.{DeedAgrees, IsOfStay, rule-agrees, talk-of}
use Rattle.lard_law_connections.proofs.BytesOver.{TellsBack, at-stage, goes-back}
use Rattle.lard_law_connections.proofs.BytesTold.{Bytes, bytes_of, named-each, named-served}
use Rattle.lard_law_connections.specs.Offers.{BodyCarries}
use Rattle.lard_law_connections.proofs.OffersParts.{Tells, carries}
use Rattle.lard_law_connections.proofs.OffersRules.{SaysTruth}
use Rattle.lard_law_connections.proofs.OffersSaying.{AllMayGo, IsOfParts, IsPlainSay, MayGo, clients-go, give-body, no-parts, notes-tell, plain-goes, replies-to, same-tells, sent-goes}
use Rattle.lard_law_connections.proofs.PlacesHeads.{kinds-same}
use Rattle.lard_law_connections.proofs.PlacesLoops.{settled-is}
use Rattle.lard_law_connections.proofs.PlacesTurns.{IsPlaced}
use Rattle.lard_law_view.proofs.EndpointSends.{AllTo}
use Rattle.lard_law_view.proofs.EachNode.{job_notes, told_first}
use Rattle.lard_law_view.proofs.Rows.{tale_before}
use Rattle.lard_handoff_back.specs.declared.table.Adopt.TheVariants.{Again, New, Refuse, Stale}
use Rattle.lard_history.proofs.Each.{Each, Each-append}
use Rattle.lard_message.specs.declared.kind.Kind.TheVariants as kind
use Rattle.lard_message.specs.declared.message.Body.TheVariants as body
use Rattle.lard_rules.specs.Front.{message}
use Rattle.lard_rules.specs.Node.{Does, Drops, Says}
use Rattle.lard_rules.specs.declared.places.Ending.TheVariants as ending

-- ---- what goes out of a turn that takes the connection

wants-plain : (env : NodeEnv) (ws : List Want) → Each (IsPlainSay env.serve.c) (wants_sent env ws)
wants-plain env [] = tt
wants-plain env (w ∷ ws) = (inl (w.node, refl), wants-plain env ws)

asked-plain : (env : NodeEnv) (o : Option Asked) → Each (IsPlainSay env.serve.c) (asked_sent env o)
asked-plain env None = tt
asked-plain env (Some a) = (inr (env.epoch, body.Ask a.number a.queue a.size a.paths, refl, λ is. is), tt)

ended-plain : (env : NodeEnv) (over : Option ℕ) (e : Ending) → Each (IsPlainSay env.serve.c) (ended_sent env over e)
ended-plain env over (ending.Here b count) = tt
ended-plain env over (ending.Over last) = (inr (env.epoch, _, refl, λ is. is), tt)

taken-plain : (env : NodeEnv) → Each (IsPlainSay env.serve.c) (taken_sent env)
taken-plain env = (inr (env.epoch, body.Taken, refl, λ is. is), tt)

refused-plain : (env : NodeEnv) → Each (IsPlainSay env.serve.c) (refused_sent env)
refused-plain env = (inr (env.epoch, body.Refused, refl, λ is. is), tt)

-- ---- a node

module _ (k : Setting) (small : k.stream ≤ 2 ^ 30) (x : Conn) (number : IsConnNumber x.c) (s : Station) (there : x.part.station ≡ Some s) (l : Talk) (pend : List Verdict) (o : IsOpen k.files x l pend s)
    (n : ℕ) (env : NodeEnv) (epoch : ℕ) (is : IsNodeEnv k x.c n epoch env) (placed : IsPlaced x) (sound : IsConnSound x) (heads : List Seen)
    (told : (d : NodeDeed) → Tells l.w l.out l.vs (tale_before x (node_does x n heads d))) (g : NodeGets) where
  abbrev p : NodePart
  p = x.part.nodes n

  abbrev Speaks : NodeDeed → Type 0
  Speaks d = SaysTruth k.files x (told_first (job_notes x.c n g) (node_does x n heads d))

  abbrev Agrees : NodeDeed → Type 0
  Agrees d = DeedAgrees k small x s there l pend o n env epoch is d

  stream : IsStream l.w
  stream = (talk-of k small x s there l pend o n env epoch is).stream

  -- the record of a job is counted as nothing
  jobs-count : (rs : List Rec) → Each (IsNoteOf x.c) rs → Each (IsNoteOf x.c) (job_notes x.c n g ++ rs) × (served_in (job_notes x.c n g ++ rs) ≡ served_in rs)
  jobs-count rs h = go g where
    go : (i : NodeGets) → Each (IsNoteOf x.c) (job_notes x.c n i ++ rs) × (served_in (job_notes x.c n i ++ rs) ≡ served_in rs)
    go (Completed r path) = ((tt, h), refl)
    go _ = (h, refl)

  again-goes : (b : Bytes) → AllMayGo k.files x b (Node n) (again_sent p)
  again-goes b = sent-goes k.files x b n (p.kept ++ p.fetches) (append p.kept (sound.kept n)) where
    append : (ks : List Kept) → AreSent x (Node n) ks → AreSent x (Node n) (ks ++ p.fetches)
    append [] h = sound.fetches n
    append (q ∷ ks) h = (h.0, append ks h.1)

  -- ---- a turn that agrees

  module _ (given : NodePart × NodeTurn) (t : NodeTurned k.files x.c env.epoch p l.w l.out l.vs l.was_reset given) where
    abbrev N : List Rec
    N = job_notes x.c n g ++ named_records given.1.notes

    abbrev r : Bool
    r = l.was_reset || list_any is_reset_record given.1.notes

    abbrev now : Tale
    now = told_on x.c (tale_before x (node_does x n heads (Does given))) N

    tells : Tells l.w t.out_after t.vs_after now
    tells =
        let each = named-each x.c given.1.notes t.noted.each in
        let all = jobs-count (named_records given.1.notes) each in
        notes-tell k.files x number l.w l.out l.vs l.was_reset stream (tale_before x (node_does x n heads (Does given))) (told (Does given)) t.out_after t.vs_after N t.longer
        all.0 (t.noted.served ∙ ap (λ (m : ℕ). length l.vs + m) (sym (all.1 ∙ named-served x.c given.1.notes t.noted.each)))

    -- where its stay is over, what it keeps tells how
    returns : (q : Option BackRow) → HasLeft q → RowAgrees l.w t.out_after t.vs_after t.pend_after r x.c given.0 q
        → (e : ℕ) × TellsBack l.w t.out_after t.vs_after t.pend_after r x.c e given.0
    returns None left h = absurd left
    returns (Some row) left h = (row.epoch.0, at-stage l.w t.out_after t.vs_after t.pend_after r x.c row.epoch.0 given.0 row.stage left h)

    -- a Give that is kept carries what is told
    gives-carry : (bytes : List ℕ) → IsKept given.0.kept bytes → HasLeft given.0.row → (J : List Rec) → bytes_of (tale J x.c) ≡ bytes_of now → (m : Message)
        → decoded_message bytes ≡ Ok m → kind.Give ≡ kind_of m.body → BodyCarries k.files J x.c m.body
    gives-carry bytes kept left J same m d gives =
        let tell = returns given.0.row left t.agrees in
        let e : ℕ = tell.0 in
        let h = goes-back l.w t.out_after t.vs_after t.pend_after r x.c e given.0 bytes tell.1 kept m d gives in
        let b : ControlBlock = h.0.block in
        let count : ℕ = h.0.count in
        let holds : FrontHolds l.w t.out_after t.vs_after [] b count = record { none = refl; serves = h.0.holds.serves; holds = h.0.holds.holds } in
        let body_is : body.Give (parts_of b count) ≡ m.body =
        give-body x.c e l.w t.out_after t.vs_after b count number stream holds h.0.frozen m (ap decoded_message h.1 ∙ d) in
        subst (BodyCarries k.files J x.c) body_is
        (carries k.files l.w t.out_after t.vs_after b count t.says holds h.0.frozen J x.c
        (same-tells k.files x number l.w l.out l.vs l.was_reset stream (tale_before x (node_does x n heads (Does given))) (told (Does given))
        t.out_after t.vs_after now (tale J x.c) same tells))

    of-kind : (bytes : List ℕ) (q : Kind) → EndsOfKind given.0 bytes q → (J : List Rec) → bytes_of (tale J x.c) ≡ bytes_of now → (m : Message)
        → decoded_message bytes ≡ Ok m → q ≡ kind_of m.body → BodyCarries k.files J x.c m.body
    of-kind bytes kind.Offer h J same m d at = absurd h
    of-kind bytes kind.Give h J same m d at = gives-carry bytes h.0 h.1 J same m d at
    of-kind bytes _ h J same m d at = no-parts k.files J x.c m.body (λ (i : IsOfParts (kind_of m.body)). subst IsOfParts (sym at) i)

    says-go : (ss : List (Place × List ℕ)) → Each (NodeSays x.c given.0) ss → AllMayGo k.files x (bytes_of now) (Node n) ss
    says-go [] h = tt
    says-go (y ∷ ss) h = (
      ⊎_elim
          (λ (to : (m : ℕ) × (y.0 ≡ Node m)). subst (λ (z : Place). MayGo k.files x (bytes_of now) (Node n) z y.1) (sym to.1) tt)
          (λ (f : (e : ℕ) × (b : Body) × (y ≡ (Front, message x.c e b)) × EndsOfKind given.0 y.1 (kind_of b)).
          subst (λ (z : Place × List ℕ). MayGo k.files x (bytes_of now) (Node n) z.0 z.1) (sym f.2)
          (inr (λ J same m d. of-kind (message x.c f.0 f.1) (kind_of f.1) (subst (λ (z : Place × List ℕ). EndsOfKind given.0 z.1 (kind_of f.1)) f.2 f.3) J same m d
          (kinds-same (record { c = x.c; epoch = record { 0 = f.0 }; body = f.1 }) m d))))
          h.0,
      says-go ss h.1,
    )

    turned-speaks : Speaks (Does given)
    turned-speaks = (
      clients-go k.files x (bytes_of now) n x.c given.1.segments (replies-to x.c l.w t.out_after r given.1.segments t.sent),
      subst (AllMayGo k.files x (bytes_of now) (Node n)) (sym t.messages)
          (Each-append (λ (y : Place × List ℕ). MayGo k.files x (bytes_of now) (Node n) y.0 y.1) t.again t.more
          (⊎_elim (λ (none : t.again ≡ []). subst (AllMayGo k.files x (bytes_of now) (Node n)) (sym none) tt)
          (λ (again : t.again ≡ again_sent p). subst (AllMayGo k.files x (bytes_of now) (Node n)) (sym again) (again-goes (bytes_of now))) t.told)
          (says-go t.more t.said)),
    )

  agrees-speaks : (d : NodeDeed) → Agrees d → Speaks d
  agrees-speaks Drops h = (tt, tt)
  agrees-speaks (Says ms) h =
      let b : Bytes = bytes_of (told_on x.c (tale_before x (node_does x n heads (Says ms))) (job_notes x.c n g ++ [])) in (
        tt,
        ⊎_elim (λ (again : ms ≡ again_sent p). subst (AllMayGo k.files x b (Node n)) (sym again) (again-goes b))
            (λ (taken : ms ≡ (Front, message x.c env.epoch body.Taken) ∷ []). subst (AllMayGo k.files x b (Node n)) (sym taken)
            (plain-goes k.files x b n x.c ((Front, message x.c env.epoch body.Taken) ∷ []) (inr (env.epoch, body.Taken, refl, λ i. i), tt))) h,
      )
  agrees-speaks (Does given) h = turned-speaks given h

  -- ---- an Offer, and what answers the end of a stay

  -- in a turn that says no Give
  plain-speaks : (given : NodePart × NodeTurn) → AllTo (Client env.serve.c) given.1.segments → Each (IsPlainSay env.serve.c) given.1.messages → Speaks (Does given)
  plain-speaks given to plain =
      let b : Bytes = bytes_of (told_on x.c (tale_before x (node_does x n heads (Does given))) (job_notes x.c n g ++ named_records given.1.notes)) in
      (clients-go k.files x b n env.serve.c given.1.segments to, plain-goes k.files x b n env.serve.c given.1.messages plain)

  begins-speaks : (w : Work) → Speaks (with_work env p (taken_sent env) w)
  begins-speaks w =
      let e : Ending = (serving_settled env.serve w.service).0 in
      plain-speaks (kept_after env p w e, turn_by env (taken_sent env) w (serving_settled env.serve w.service)) (settled-is env.serve w.service).to
      (Each-append (IsPlainSay env.serve.c) (taken_sent env ++ asked_sent env w.asked ++ wants_sent env w.wants) (ended_sent env w.service.over e)
      (Each-append (IsPlainSay env.serve.c) (taken_sent env) (asked_sent env w.asked ++ wants_sent env w.wants) (taken-plain env)
      (Each-append (IsPlainSay env.serve.c) (asked_sent env w.asked) (wants_sent env w.wants) (asked-plain env w.asked) (wants-plain env w.wants)))
      (ended-plain env w.service.over e))

  offer-speaks : (parts : EndpointParts) (a : Adopt) → Speaks (offered_by env parts p a)
  offer-speaks parts New = begins-speaks (goes_on env (state_of (reads_batch env true (node_begins env parts))))
  offer-speaks parts Again = (tt, plain-goes k.files x _ n env.serve.c (taken_sent env) (taken-plain env))
  offer-speaks parts Stale = (tt, tt)
  offer-speaks parts Refuse = (tt, plain-goes k.files x _ n env.serve.c (refused_sent env) (refused-plain env))

  acknowledged-speaks : (back : Bool) → Speaks (node_acknowledged env back p)
  acknowledged-speaks back = cond_both (awaits_told back env p) (Does (record p { row = gone p.row; kept = without (told_kind back) 0 p.kept }, node_saying [])) Drops Speaks
      (λ t. (tt, tt)) (λ t. (tt, tt))

  pub stay-speaks : IsOfStay k small x s there l pend o n env epoch is g → Speaks (node_rule env p g)
  stay-speaks h = agrees-speaks (node_rule env p g) (rule-agrees k small x s there l pend o n env epoch is placed g h)

  pub offered-speaks : (parts : EndpointParts) → Speaks (node_offered env p parts)
  offered-speaks parts = offer-speaks parts (offer_decision env.leaving env.epoch p.row p.beside)

  pub ack-speaks : (back : Bool) → Speaks (node_acknowledged env back p)
  ack-speaks back = acknowledged-speaks back
