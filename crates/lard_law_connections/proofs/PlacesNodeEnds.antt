-- A node's timers, the acknowledgement of an end, and every rule of a node by what it comes to.
use Rattle.std.proofs.Common.{◌≡◌, ◌≢◌, ◌⊎◌, ℕ, true, false, List, [], ◌∷◌, ◌++◌, Option, Some, None, inl, inr, ⊎_elim, refl, sym, ap, ◌∙◌, subst, arith, eqb-true, Bool, is_some}
use Rattle.std.proofs.lemmas.Bool.{and_parts}
use Rattle.lard_law_view.specs.Prelude.{Acknowledged, AreSent, BackConn, BackRow, Conn, ControlBlock, Front, FrontConn, FrontRow, IsConnSound, IsMachine, IsNodeEnv, Kept, Node, NodeDeed, NodeEnv, NodeGets, NodePart, Offered, Place, Seen, Setting, SpellsMessage, Stay, TimerKind, Was, Work, ack_body, after_timer, again_sent, awaits_ack, by_node, came_for, come_progress, goes_on, gone, is_ended, node_does, node_fired, node_put_back, node_rule, node_saying, on_segment, read_progress, serving, serving_ready_of, spoken, tagged, tale_at, timed, told_kind, with_node, without, work_of}
use Rattle.lard_base.specs.declared.place.TimerKind.TheVariants as kind
use Rattle.lard_law_connections.specs.Places.{ArePast, HasEnded, IsComing, IsDecided, IsLeft, IsOfOther, IsOffered, IsPast, IsRefusalKnown, IsThere, OthersArePast, Owning, Sits, StageSits, owning}
use Rattle.lard_law_connections.proofs.PlacesFront.{IsQuiet, Tells}
use Rattle.lard_law_connections.proofs.PlacesFrontMessages.{came-says}
use Rattle.lard_law_connections.proofs.PlacesFrontRules.{resent-machines, resent-tells}
use Rattle.lard_law_connections.proofs.PlacesGrowing.{BackGrows, Grows, KeepsRefusals, KeepsReturn, back-still, front-still, may_say-grows}
use Rattle.lard_law_connections.proofs.PlacesLoops.{came-notes, spoken-to, tagged-notes}
use Rattle.lard_law_connections.proofs.PlacesNode.{node-owes, node-says, plain-turned}
use Rattle.lard_law_connections.proofs.PlacesNodeRules.{HasIt, IsSaid, again-owe, backs-owe, begins-owe, dropped, goes-turned, has-here, keeps-refusals, plain-more, turn-owes}
use Rattle.lard_law_connections.proofs.PlacesRows.{IsPlain}
use Rattle.lard_law_connections.proofs.PlacesTurns.{IsPlaced, Owes}
use Rattle.lard_law_view.proofs.Parts.{put-each}
use Rattle.lard_handoff_back.specs.declared.row.BackConn.TheVariants as back
use Rattle.lard_handoff_front.specs.declared.row.FrontConn.TheVariants as stage
use Rattle.lard_history.proofs.Each.{Each, Each-weaker}
use Rattle.lard_message.specs.declared.message.Body.TheVariants as body
use Rattle.lard_law_view.proofs.EachNode.{NodeComes}
use Rattle.lard_rules.proofs.NodeCases.{IsHereWith, IsOfItsEpoch, KeptByNode, Turned, node-keeps}
use Rattle.lard_rules.specs.Node.{Does}
use Rattle.lard_law_view.proofs.EndpointSends.{ready-to}
use Rattle.lard_law_connections.proofs.PlacesRefusing.{refuses-owe}
use Rattle.lard_handoff_back.specs.Table.{Beside}

-- ---- an end that is acknowledged

module _ (x : Conn) (held : IsPlaced x) (n : ℕ) (row : BackRow) (found : (x.part.nodes n).row ≡ Some row) (left : IsLeft row.stage) (ended : HasEnded row.epoch.0 x.part.front.row) (q : NodePart)
    (is : q.row ≡ Some (record row { stage = back.Gone })) where
  abbrev w : Owning
  w = owning (tale_at x)

  abbrev nodes : ℕ → NodePart
  nodes = x.part.nodes

  gone-past : (e : ℕ) → IsPast e (nodes n).row → IsPast e q.row
  gone-past e past = let h : IsPast e (Some row) = subst (IsPast e) found past in subst (IsPast e) (sym is) (h.0, tt)

  all-past : (e : ℕ) → ArePast e nodes → ArePast e (node_put_back nodes n q)
  all-past e past m = put-each nodes n q (λ j r. IsPast e r.row) (gone-past e (past n)) (λ j other. past j) m

  others-past : (m e : ℕ) → OthersArePast m e nodes → OthersArePast m e (node_put_back nodes n q)
  others-past m e past j other = put-each nodes n q (λ i r. i ≢ m → IsPast e r.row) (λ no. gone-past e (past n no)) (λ i no yes. past i yes) j other

  -- the node where it is, if that is another one
  other-there : (m e : ℕ) → m ≢ n → IsThere m e w (nodes m).row → IsThere m e w (node_put_back nodes n q m).row
  other-there m e other there = put-each nodes n q (λ j r. j ≡ m → IsThere m e w r.row) (λ same. absurd (other (sym same))) (λ j no same. subst (λ (i : ℕ). IsThere m e w (nodes i).row) (sym same) there) m refl

  not-there : (m e : ℕ) → (f : FrontRow) → x.part.front.row ≡ Some f → f.epoch.0 ≡ e → IsThere m e w (nodes m).row → m ≢ n
  not-there m e f at same there is_n =
      let here : IsThere m e w (Some row) = subst (IsThere m e w) (ap (λ (j : ℕ). (nodes j).row) is_n ∙ found) there in
      let before : HasEnded row.epoch.0 (Some f) = subst (HasEnded row.epoch.0) at ended in
      omega (arith, here.0, before, same)

  coming-past : (m e : ℕ) → IsComing e w (nodes m).row → IsComing e w (node_put_back nodes n q m).row
  coming-past m e coming = (
    coming.0,
    coming.1,
    put-each nodes n q (λ j r. j ≡ m → IsPast e r.row) (λ same. gone-past e (subst (λ (i : ℕ). IsPast e (nodes i).row) (sym same) coming.2))
        (λ j no same. subst (λ (i : ℕ). IsPast e (nodes i).row) (sym same) coming.2) m refl,
  )

  stage-gone : (f : FrontRow) → x.part.front.row ≡ Some f → (st : FrontConn) → StageSits f.epoch.0 w nodes st → StageSits f.epoch.0 w (node_put_back nodes n q) st
  stage-gone f at stage.Lent s = absurd s
  stage-gone f at (stage.Offering m d) s = (
    s.0,
    s.1,
    others-past m f.epoch.0 s.2,
    ⊎_elim (λ (coming : IsComing f.epoch.0 w (nodes m).row). inl (coming-past m f.epoch.0 coming))
        (λ (there : IsThere m f.epoch.0 w (nodes m).row). inr (other-there m f.epoch.0 (not-there m f.epoch.0 f at refl there) there)) s.3,
  )
  stage-gone f at (stage.Moved m d) s = (s.0, s.1, others-past m f.epoch.0 s.2, other-there m f.epoch.0 (not-there m f.epoch.0 f at refl s.3) s.3)
  stage-gone f at _ s = (s.0, (s.1.0, all-past f.epoch.0 s.1.1))

  row-gone : (o : Option FrontRow) → x.part.front.row ≡ o → Sits w nodes o → Sits w (node_put_back nodes n q) o
  row-gone None at h = (h.0, all-past 0 h.1)
  row-gone (Some f) at h = (stage-gone f at f.stage h.0, h.1)

  pub gone-sits : Sits w (node_put_back nodes n q) x.part.front.row
  gone-sits = row-gone x.part.front.row refl held.sits

  pub gone-grows : BackGrows (nodes n).row q.row
  gone-grows = subst (BackGrows (nodes n).row) (sym is) (subst (λ (o : Option BackRow). BackGrows o (Some (record row { stage = back.Gone }))) (sym found) (omega arith, λ same l. tt))

sent-append : (x : Conn) (place : Place) (ks ls : List Kept) → AreSent x place ks → AreSent x place ls → AreSent x place (ks ++ ls)
sent-append x place [] ls h k = k
sent-append x place (q ∷ ks) ls h k = (h.0, sent-append x place ks ls h.1 k)

-- what answers the end of a stay says that the front end is past it
pub acks-say : (x : Conn) → IsPlaced x → (n epoch : ℕ) (back : Bool) (bytes : List ℕ) → Was x Front (Node n) bytes → SpellsMessage x.c epoch (ack_body back) bytes
    → HasEnded epoch x.part.front.row
acks-say x placed n epoch false bytes was spells = came-says x Front (Node n) epoch body.EndedAck bytes placed.letters was spells
acks-say x placed n epoch true bytes was spells = came-says x Front (Node n) epoch body.Given bytes placed.letters was spells

-- ---- every rule of a node, by what it comes to

module _ (k : Setting) (x : Conn) (heads : List Seen) (quiet : IsQuiet x heads) (held : IsPlaced x) (sound : IsConnSound x) (n epoch : ℕ) (env : NodeEnv)
    (is : IsNodeEnv k x.c n epoch env) where
  abbrev ours : NodePart
  ours = x.part.nodes n

  abbrev Owed : NodeDeed → Type 0
  Owed d = Owes x (node_does x n heads d)

  ended-left : (st : BackConn) → is_ended st ≡ true → IsLeft st
  ended-left (back.Here b) e = let no : false ≡ true = e in absurd cc
  ended-left back.Out e = let no : false ≡ true = e in absurd cc
  ended-left back.Ended e = tt
  ended-left back.Gone e = tt

  gone-other : (e : ℕ) (o : Option BackRow) → IsOfOther e o → IsOfOther e (gone o)
  gone-other e None h = tt
  gone-other e (Some row) h = h

  acked : (told : TimerKind) (o : Option BackRow) → ours.row ≡ o → HasEnded env.epoch x.part.front.row → awaits_ack env.epoch o ≡ true
      → Owed (Does (record ours { row = gone ours.row; kept = without told 0 ours.kept }, node_saying []))
  acked told None found ended e = let no : false ≡ true = e in absurd cc
  acked told (Some row) found ended e =
      let tests = and_parts _ _ e in
      let same : row.epoch.0 ≡ env.epoch = eqb-true row.epoch.0 env.epoch tests.0 in
      let q : NodePart = record ours { row = gone ours.row; kept = without told 0 ours.kept } in
      let put : q.row ≡ Some (record row { stage = back.Gone }) = ap gone found in
      let left : IsLeft row.stage = ended-left row.stage tests.1 in
      let past : HasEnded row.epoch.0 x.part.front.row = subst (λ (d : ℕ). HasEnded d x.part.front.row) (sym same) ended in
      node-owes x heads quiet n (by_node (node_saying [])) q (owning (tale_at x)) (plain-turned x heads quiet (Node n) [] [] tt tt)
      (gone-sits x held n row found left past q put) (gone-grows x held n row found left past q put)
      (keeps-refusals ours q refl (λ f other. gone-other f ours.row other)) (λ h. h) tt

  all-were : AreSent x (Node n) (ours.kept ++ ours.fetches)
  all-were = sent-append x (Node n) ours.kept ours.fetches (sound.kept n) (sound.fetches n)

  again-machines : Each (λ m. IsMachine m.0) (again_sent ours)
  again-machines = resent-machines x (Node n) (ours.kept ++ ours.fetches) all-were

  again-tells : Each (Tells x.part (Node n)) (again_sent ours)
  again-tells = resent-tells x (Node n) (ours.kept ++ ours.fetches) held.letters all-were

  here-fires : (b : ControlBlock) (s : Stay) → HasIt x held n env.epoch
      → Owed (Does (node_fired env ours (b, s) (spoken env.serve (serving (after_timer b) s.served []) (serving_ready_of env.serve (after_timer b) (timed b)))))
  here-fires b s has =
      turn-owes k x heads quiet held n epoch env is has ours refl (again_sent ours) (work_of (after_timer b) s)
      (spoken env.serve (serving (after_timer b) s.served []) (serving_ready_of env.serve (after_timer b) (timed b)))
      tt (spoken-to env.serve (serving (after_timer b) s.served []) (serving_ready_of env.serve (after_timer b) (timed b)) (ready-to env.serve (after_timer b) (timed b))) again-machines
      (λ q st row same. Each-weaker (Tells x.part (Node n)) (Tells (with_node x.part n q) (Node n))
      (λ m. may_say-grows x.part (with_node x.part n q) (Node n) m.0 _ (grown-to q st row same)) (again_sent ours) again-tells) where
        grown-to : (q : NodePart) (st : BackConn) → q.row ≡ Some (record { stage = st; epoch = record { 0 = env.epoch } })
            → q.beside ≡ ours.beside → Grows x.part (with_node x.part n q)
        grown-to q st row same = record {
          nodes = put-each x.part.nodes n q (λ m r. BackGrows (x.part.nodes m).row r.row) (subst (BackGrows ours.row) (sym row) (has.can.grows st))
              (λ m other. back-still (x.part.nodes m).row);
          refusals = put-each x.part.nodes n q (λ m r. KeepsRefusals (x.part.nodes m) r) (has.can.refusals q st row (ap (λ (b : Beside). b.refused) same)) (λ m other e h. h);
          returns = put-each x.part.nodes n q (λ m r. KeepsReturn (x.part.nodes m) r) (λ h. ap (λ (b : Beside). is_some b.returned) same ∙ h) (λ m other h. h);
          front = front-still (with_node x.part n q).nodes x.part.front.row;
        }

  -- what a packet that came says of the connection
  abbrev Says : NodeGets → Type 0
  Says (Offered parts) = IsSaid k x heads quiet held n epoch env is
  Says (Acknowledged back) = HasEnded env.epoch x.part.front.row
  Says _ = Unit {0}

  says : (g : NodeGets) → NodeComes x n epoch heads g → Says g
  says (Offered parts) comes =
      subst (λ (e : ℕ). IsDecided e ours.row ⊎ (IsOffered n e x.part.front.row ⊎ IsRefusalKnown x.part n e)) (sym is.epoch_is)
      (came-says x Front (Node n) epoch (body.Offer parts) comes.bytes held.letters comes.was comes.spells)
  says (Acknowledged back) comes = subst (λ (e : ℕ). HasEnded e x.part.front.row) (sym is.epoch_is) (acks-say x held n epoch back comes.bytes comes.was comes.spells)
  says _ comes = tt

  goes : (b : ControlBlock) (s : Stay) → IsHereWith env.epoch ours b s → (part : NodePart) → part.beside ≡ ours.beside → (work : Work)
      → Each IsPlain work.service.notes
      → Turned Owed env part [] (goes_on env work)
  goes b s at = goes-turned k x heads quiet held n epoch env is (has-here x held n env.epoch b s at)

  rules_owe : KeptByNode env ours Says Owed
  rules_owe = record {
    drops = dropped k x heads quiet held n epoch env is;
    hears = λ said b s m at. goes b s at ours refl (work_of (on_segment b said).1 s) tt;
    tags = λ number tags b s m at asked same count. goes b s at (record ours { kept = without kind.Ask 0 ours.kept }) refl (tagged env tags (work_of b s))
        (tagged-notes (Each IsPlain) plain-more env tags (work_of b s) tt);
    comes = λ from r b s m at wanted. goes b s at (record ours { fetches = without kind.Fetch r ours.fetches }) refl
        (came_for (come_progress from) r (work_of b s)) (came-notes (Each IsPlain) plain-more (come_progress from) r (work_of b s) tt);
    reads = λ r path b s m at. goes b s at ours refl (came_for read_progress r (work_of b s))
        (came-notes (Each IsPlain) plain-more read_progress r (work_of b s) tt);
    begins = λ parts m new may. begins-owe k x heads quiet held n epoch env is parts m new may.1;
    takes_again = λ parts m again. again-owe k x heads quiet held n epoch env is again;
    refuses = λ parts m refuse. refuses-owe k x heads quiet held n epoch env is m refuse;
    fires = λ b s m at. here-fires b s (has-here x held n env.epoch b s at);
    resends = λ m none. node-says x heads quiet held n (again_sent ours) again-machines again-tells;
    ends = λ back ended told was. acked (told_kind back) ours.row refl ended told;
    leaves = λ b s m at back. backs-owe k x heads quiet held n epoch env is (has-here x held n env.epoch b s at) ours refl (work_of b s) tt;
  }

  pub rule-owes : (g : NodeGets) → IsOfItsEpoch env ours g → NodeComes x n epoch heads g → Owed (node_rule env ours g)
  rule-owes g at comes = node-keeps env ours Says Owed rules_owe g at (says g comes)
