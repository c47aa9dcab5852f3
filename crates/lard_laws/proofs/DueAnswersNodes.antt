-- What a node's rule leaves: what it asked for and has not got was sent, and no answer to it came behind that.
use Rattle.std.proofs.Common.{◌≡◌, ◌⊎◌, ◌<◌, ◌+◌, ◌^◌, ◌==◌, ◌&&◌, ℕ, Bool, true, false, cond, List, [], ◌∷◌, ◌++◌, length, find, is_some, Option, Some, None, Result, Ok, Err, inl, inr, ⊎_elim, refl, sym, ap, ◌∙◌, subst, eq-eqb}
use Rattle.std.proofs.lemmas.Bool.{and_from, both_ways, cond_both}
use Rattle.std.specs.List.{AllByRecursion}
use Rattle.lard_law_view.specs.Prelude.{Adopt, AreInOrder, Asked, BackConn, BackRow, ControlBlock, Ending, EndpointParts, FilesAt, Front, Has, Kept, Letter, Message, MsgFault, Node, NodeDeed, NodeEnv, NodePart, Place, Row, Said, Seen, SegFault, Stay, Turn, Want, Work, after_timer, again_sent, all_sent, anew, ask_kept, asked_kept, asked_sent, awaits_told, back_endpoint, back_held, both_of, came_for, come_by, come_progress, decoded_message, ended_sent, epoch_in, fetch_kept, fetch_of, gives_back, goes_on, gone, here, is_from, is_tag_awaited, is_under, kept_after, kept_refused, may_give_back, named_paths, names_epoch, node_acknowledged, node_begins, node_content, node_fired_by, node_forwarded, node_heard_by, node_offered, node_read, node_read_by, node_saying, node_tagged, node_timer, node_turns, offer_decision, offered_by, on_segment, read_progress, reads_batch, sent_of, serving, serving_ready_of, serving_settled, spoken, state_of, stay_after, staying, tagged, tagged_by, taken_sent, timed, told_kind, turn_by, wants_kept, wants_sent, with_work, without, work_of}
use Rattle.lard_base.specs.declared.place.TimerKind.TheVariants as kind
use Rattle.lard_handoff_back.specs.declared.row.BackConn.TheVariants as back
use Rattle.lard_handoff_back.specs.declared.table.Adopt.TheVariants.{New, Again, Stale, Refuse}
use Rattle.lard_history.proofs.Each.{Each}
use Rattle.lard_history.proofs.Seeing.{has-before, has-behind}
use Rattle.lard_journal.specs.declared.rec.Rec.TheVariants as rec
use Rattle.lard_law_connections.specs.Kept.{AsksFor, HereKeeps, NodeKeepsMessages, NodeRowKeeps, StayKeeps}
use Rattle.lard_law_connections.specs.KeptLaws.{AnyNode}
use Rattle.lard_law_connections.proofs.AwaitsBatches.{anew-found}
use Rattle.lard_law_connections.proofs.KeptHere.{IsHere, here-is, here-timer}
use Rattle.lard_law_connections.proofs.KeptNodes.{DeedFollows, DeedGoes, DeedKeeps, GaverLeaves, MayFollow, OfferFollows, StayFollows, asks-left, content-keeps, forwarded-keeps, new-none, offered-keeps, read-keeps, tagged-keeps, timer-keeps}
use Rattle.lard_law_view.proofs.Nodes.{anew-all}
use Rattle.lard_laws.specs.Due.{AskIsOut, IsContentFor, IsTagFor}
use Rattle.lard_laws.specs.DueAnswers.{FetchKeptIsOut, HereIsOut, NamesAreOut, PartIsOut, RowIsOut, StageIsOut, StayIsOut}
use Rattle.lard_laws.proofs.DueAnswersMoves.{AllCalm, NoneCome, StayCalm, calm-part, calm-stay, fetches-more, found-it, has-without, names-epoch, names-more, numbers-differ, part-more, sent-now}
use Rattle.lard_laws.proofs.DueSeats.{found-is}
use Rattle.lard_message.specs.declared.message.Body.TheVariants as body
use Rattle.lard_resend.proofs.Ordered.{drop_all}
use Rattle.lard_rules.proofs.NodeCases.{decision-new}
use Rattle.lard_rules.specs.declared.places.Ending.TheVariants as ending
use Rattle.lard_rules.specs.Node.{Drops, Says, Does}

-- what the node keeps behind a deed, and what it sends
abbrev pub part_behind : NodePart → NodeDeed → NodePart
part_behind p Drops = p
part_behind p (Says messages) = p
part_behind p (Does given) = given.0

abbrev pub messages_of : NodeDeed → List (Place × List ℕ)
messages_of Drops = []
messages_of (Says messages) = messages
messages_of (Does given) = given.1.messages

-- what node n sends in the deed is seen in the step
abbrev pub AreSeen : ℕ → List Seen → NodeDeed → Type 0
AreSeen n ss d = (m : Place × List ℕ) → Has m (messages_of d) → Has (Row (rec.Sent 0 (Node n) m.0 m.1)) ss

-- a message is read one way
one-reading : (m1 m2 : Message) (r : Result Message MsgFault) → r ≡ Ok m1 → r ≡ Ok m2 → m1 ≡ m2
one-reading m1 m2 r a b = cc

-- what is here in an epoch
here-of : (e : ℕ) (p : NodePart) (row : BackRow) (b : ControlBlock) (s : Stay) → p.row ≡ Some row → row.stage ≡ back.Here b → row.epoch.0 ≡ e → p.stay ≡ Some s → here e p ≡ Some (b, s)
here-of e p row b s found at same stay =
    ap (λ (o : Option BackRow). both_of (staying e o) p.stay) found
    ∙ ap (λ (t : Bool). both_of (cond t (back_held row.stage) None) p.stay) (eq-eqb row.epoch.0 e same)
    ∙ ap (λ (d : BackConn). both_of (back_held d) p.stay) at
    ∙ ap (both_of (Some b)) stay

module _ (env : NodeEnv) (seen ss : List Seen) where
  abbrev files : FilesAt
  files = env.serve.files

  abbrev c : ℕ
  c = env.serve.c

  abbrev n : ℕ
  n = env.n

  abbrev e : ℕ
  e = env.epoch

  abbrev now : List Seen
  now = seen ++ ss

  abbrev Out : NodePart → Type 0
  Out p = PartIsOut env.serve.files (seen ++ ss) env.n env.serve.c p

  -- ---- the end of a turn

  fetched-after : (ws : List Want) (ks : List Kept) → ((m : Place × List ℕ) → Has m (wants_sent env ws) → Has (Row (rec.Sent 0 (Node n) m.0 m.1)) ss)
      → AllByRecursion (FetchKeptIsOut now n c e) ks → AllByRecursion (FetchKeptIsOut now n c e) (wants_kept env ws ks)
  fetched-after [] ks said h = h
  fetched-after (w ∷ ws) ks said h = fetched-after ws (anew (fetch_of env w) ks) (λ m has. said m (inr has))
      (anew-all (FetchKeptIsOut now n c e) (fetch_of env w) ks
      (w.r, w.node, w.path, refl, sent-now (IsContentFor n w.node c e w.r) seen ss (Node n) (Node w.node) _ (said (sent_of (fetch_of env w)) (inl refl))) h)

  -- an Ask for paths without a node that was made before the turn
  abbrev OldAsk : List Kept → Stay → Type 0
  OldAsk ks s = (path : List ℕ) (paths : List (List ℕ)) → named_paths files s.batch ≡ path ∷ paths → AsksFor c e s.asks (path ∷ paths) ks → AskIsOut now n c e s.asks (path ∷ paths)

  asks-after : (o : Option Asked) (ks : List Kept) (s : Stay) → ((m : Place × List ℕ) → Has m (asked_sent env o) → Has (Row (rec.Sent 0 (Node n) m.0 m.1)) ss) → OldAsk ks s
      → (names : List (List ℕ)) → named_paths files s.batch ≡ names → AsksFor c e s.asks names (asked_kept env o ks) → NamesAreOut now n c e s.asks names
  asks-after o ks s said old [] is keeps = tt
  asks-after None ks s said old (path ∷ paths) is keeps = old path paths is keeps
  asks-after (Some a) ks s said old (path ∷ paths) is keeps =
      let k : Kept = ask_kept c e a in
      let own : Kept = ask_kept c e (record { number = s.asks; queue = keeps.0; size = keeps.1; paths = path ∷ paths }) in
      let has : Has k (own ∷ []) = subst (Has k) keeps.2 (found-is (is_under kind.Ask 0) (anew k ks) k (anew-found k ks)).0 in
      let same : own ≡ k = ⊎_elim (λ (q : own ≡ k). q) (λ (none : ⊥). absurd none) has in
      let sent : Has (Row (rec.Sent 0 (Node n) Front own.bytes)) ss = subst (λ (q : Kept). Has (Row (rec.Sent 0 (Node n) q.to q.bytes)) ss) (sym same) (said (sent_of k) (inl refl)) in
      (keeps.0, keeps.1, sent-now (IsTagFor n c e s.asks (length (path ∷ paths))) seen ss (Node n) Front own.bytes sent)

  module _ (asks0 : ℕ) (named0 : List (List ℕ)) (part : NodePart) (before : List (Place × List ℕ)) (w : Work)
      (old : (s : Stay) → StayFollows files asks0 named0 s → OldAsk part.kept s) (fetched : AllByRecursion (FetchKeptIsOut now n c e) part.fetches) where
    by-ending : (d : Ending) → NodeKeepsMessages AnyNode files c n (kept_after env part w d) → MayFollow files asks0 named0 (kept_after env part w d).stay
        → ((m : Place × List ℕ) → Has m (all_sent env before w) → Has (Row (rec.Sent 0 (Node n) m.0 m.1)) ss) → Out (kept_after env part w d)
    by-ending (ending.Here b count) keeps follows said = record {
      asks = asks-after w.asked part.kept (stay_after count w) (λ m has. said m (has-before m (before ++ asked_sent env w.asked) (wants_sent env w.wants) (has-behind m before (asked_sent env w.asked) has)))
          (old (stay_after count w) follows) (named_paths files w.batch) refl keeps.asks;
      fetched = fetched-after w.wants part.fetches (λ m has. said m (has-behind m (before ++ asked_sent env w.asked) (wants_sent env w.wants) has)) fetched;
    }
    by-ending (ending.Over last) keeps follows said = tt

    -- a turn that ends so
    turn-out : (given : Ending × Turn) → NodeKeepsMessages AnyNode files c n (kept_after env part w given.0) → MayFollow files asks0 named0 (kept_after env part w given.0).stay
        → ((m : Place × List ℕ) → Has m (turn_by env before w given).messages → Has (Row (rec.Sent 0 (Node n) m.0 m.1)) ss) → Out (kept_after env part w given.0)
    turn-out given keeps follows said = by-ending given.0 keeps follows (λ m has. said m (has-before m (all_sent env before w) (ended_sent env w.service.over given.0) has))

    work-out : DeedKeeps AnyNode files c n (with_work env part before w) → DeedFollows files e asks0 named0 (with_work env part before w) → AreSeen n ss (with_work env part before w)
        → Out (kept_after env part w (serving_settled env.serve w.service).0)
    work-out keeps follows said = turn-out (serving_settled env.serve w.service) keeps follows.0 said

  -- none was made
  none-old : (ks : List Kept) → ks ≡ [] → (s : Stay) → OldAsk ks s
  none-old ks none s path paths is keeps = absurd (let no : ask_kept c e (record { number = s.asks; queue = keeps.0; size = keeps.1; paths = path ∷ paths }) ∷ [] ≡ [] = sym keeps.2 ∙ none in cc)

  module _ (p : NodePart) (h : NodeKeepsMessages AnyNode env.serve.files env.serve.c env.n p) (outs : PartIsOut env.serve.files seen env.n env.serve.c p) where
    abbrev Calm : Type 0
    Calm = AllCalm files seen ss n c

    module _ (b : ControlBlock) (y : Stay) (it : here env.epoch p ≡ Some (b, y)) where
      abbrev named0 : List (List ℕ)
      named0 = named_paths files y.batch

      is-here : IsHere e p b y
      is-here = here-is e p b y it

      keeps : StayKeeps AnyNode files c e n p y
      keeps = subst (HereKeeps AnyNode files c e n p) is-here.stay (subst (NodeRowKeeps AnyNode files c n p) is-here.row h)

      out : StayIsOut files seen n c e p.fetches y
      out = subst (HereIsOut files seen n c e p.fetches) is-here.stay (subst (RowIsOut files seen n c p) is-here.row outs)

      -- where an Ask was made before, it is the same, or none is left to be asked for
      same-old : NamesAreOut now n c e y.asks named0 → (s : Stay) → StayFollows files y.asks named0 s → OldAsk p.kept s
      same-old was s follows path paths is ks = ⊎_elim
          (λ (a : (s.asks ≡ y.asks) × ((named_paths files s.batch ≡ []) ⊎ (named_paths files s.batch ≡ named0))). ⊎_elim
          (λ (none : named_paths files s.batch ≡ []). absurd (let no : path ∷ paths ≡ [] = sym is ∙ none in cc))
          (λ (same : named_paths files s.batch ≡ named0).
          subst (λ (i : ℕ). AskIsOut now n c e i (path ∷ paths)) (sym a.0) (subst (NamesAreOut now n c e y.asks) (sym same ∙ is) was)) a.1)
          (λ (next : s.asks ≡ y.asks + 1). absurd (conflict next named0 keeps.asks)) follows where
            own : ℕ → Kept
            own number = ask_kept c e (record { number = number; queue = ks.0; size = ks.1; paths = path ∷ paths })

            conflict : s.asks ≡ y.asks + 1 → (names : List (List ℕ)) → AsksFor c e y.asks names p.kept → ⊥
            conflict next [] k = let no : own s.asks ∷ [] ≡ [] = sym ks.2 ∙ k in cc
            conflict next (q ∷ qs) k =
                let first : Kept = ask_kept c e (record { number = y.asks; queue = k.0; size = k.1; paths = q ∷ qs }) in
                let all : first ∷ [] ≡ own s.asks ∷ [] = sym k.2 ∙ ks.2 in
                let one : first ≡ own s.asks = cc in
                numbers-differ c e y.asks k.0 k.1 ks.0 ks.1 (q ∷ qs) (path ∷ paths) (ap (λ (z : Kept). z.bytes) (one ∙ ap own next))

      -- where its turn ends it rests, or nothing is awaited of it any more
      turned-out : (part : NodePart) (w : Work) → (DeedKeeps AnyNode files c n (with_work env part [] w) → DeedFollows files e y.asks named0 (with_work env part [] w) → AreSeen n ss (with_work env part [] w) → Out (kept_after env part w (serving_settled env.serve w.service).0))
          → DeedKeeps AnyNode files c n (node_turns env part [] w) × DeedFollows files e y.asks named0 (node_turns env part [] w) → AreSeen n ss (node_turns env part [] w) → Out (part_behind p (node_turns env part [] w))
      turned-out part w rests g said = cond_both (may_give_back env w) (gives_back env part [] w) (with_work env part [] w)
          (λ d. DeedKeeps AnyNode files c n d × DeedFollows files e y.asks named0 d → AreSeen n ss d → Out (part_behind p d)) (λ t g said. tt) (λ t g said. rests g.0 g.1 said) g said

      -- it goes on, where nothing came that answers
      goes-out : (w : Work) → StayCalm files seen ss n c e p.fetches y → DeedKeeps AnyNode files c n (node_turns env p [] w) × DeedFollows files e y.asks named0 (node_turns env p [] w)
          → AreSeen n ss (node_turns env p [] w) → Out (part_behind p (node_turns env p [] w))
      goes-out w calm g said = turned-out p w (λ kept follows said. work-out y.asks named0 p [] w (same-old (names-more files seen ss n c e y.asks named0 calm.tags out.asks))
          (fetches-more files seen ss n c e p.fetches calm.contents out.fetched) kept follows said) g said

    -- ---- a segment, a job, a timer

    pub forwarded-out : (r : Result Said SegFault) → Calm → AreSeen n ss (node_forwarded env p r) → Out (part_behind p (node_forwarded env p r))
    forwarded-out r calm said = go r (here env.epoch p) refl (forwarded-keeps AnyNode env p h r) said where
      go : (r : Result Said SegFault) (o : Option (ControlBlock × Stay)) → here env.epoch p ≡ o → DeedKeeps AnyNode files c n (node_heard_by env p r o) × DeedGoes files e o (node_heard_by env p r o)
          → AreSeen n ss (node_heard_by env p r o) → Out (part_behind p (node_heard_by env p r o))
      go (Err fault) o is g said = calm-part files seen ss n c p calm outs
      go (Ok s) None is g said = calm-part files seen ss n c p calm outs
      go (Ok s) (Some y) is g said = goes-out y.0 y.1 is (goes_on env (work_of (on_segment y.0 s).1 y.1)) (calm-stay files seen ss n c calm e p.fetches y.1) g said

    pub read-out : (r : ℕ) → Calm → AreSeen n ss (node_read env p r) → Out (part_behind p (node_read env p r))
    read-out r calm said = go (here env.epoch p) refl (read-keeps AnyNode env p h r) said where
      go : (o : Option (ControlBlock × Stay)) → here env.epoch p ≡ o → DeedKeeps AnyNode files c n (node_read_by env r p o) × DeedGoes files e o (node_read_by env r p o)
          → AreSeen n ss (node_read_by env r p o) → Out (part_behind p (node_read_by env r p o))
      go None is g said = calm-part files seen ss n c p calm outs
      go (Some y) is g said = goes-out y.0 y.1 is (goes_on env (came_for read_progress r (work_of y.0 y.1))) (calm-stay files seen ss n c calm e p.fetches y.1) g said

    pub timer-out : env.epoch ≡ epoch_in p → Calm → AreSeen n ss (node_timer env p) → Out (part_behind p (node_timer env p))
    timer-out at calm said = go (both_of (back_endpoint p.row) p.stay) (sym (here-timer env.epoch p at)) (timer-keeps AnyNode env p h at) said where
      go : (o : Option (ControlBlock × Stay)) → here env.epoch p ≡ o → DeedKeeps AnyNode files c n (node_fired_by env p o) × DeedGoes files e o (node_fired_by env p o)
          → AreSeen n ss (node_fired_by env p o) → Out (part_behind p (node_fired_by env p o))
      go None is g said = calm-part files seen ss n c p calm outs
      go (Some y) is g said =
          let b : ControlBlock = after_timer y.0 in
          let stay : StayCalm files seen ss n c e p.fetches y.1 = calm-stay files seen ss n c calm e p.fetches y.1 in
          let was = out y.0 y.1 is in
          turn-out y.1.asks (named_paths files y.1.batch) p (again_sent p) (work_of b y.1) (same-old y.0 y.1 is (names-more files seen ss n c e y.1.asks (named_paths files y.1.batch) stay.tags was.asks))
          (fetches-more files seen ss n c e p.fetches stay.contents was.fetched) (spoken env.serve (serving b y.1.served []) (serving_ready_of env.serve b (timed y.0))) g.0 g.1.0 said

    -- ---- an Offer, and the end of a stay

    pub offered-out : (parts : EndpointParts) → GaverLeaves AnyNode env p → Calm → AreSeen n ss (node_offered env p parts) → Out (part_behind p (node_offered env p parts))
    offered-out parts leaves calm said = go (offer_decision env.leaving env.epoch p.row p.beside) refl (offered-keeps AnyNode env p h parts leaves) said where
      go : (a : Adopt) → offer_decision env.leaving env.epoch p.row p.beside ≡ a → DeedKeeps AnyNode files c n (offered_by env parts p a) × OfferFollows files e a (offered_by env parts p a) → AreSeen n ss (offered_by env parts p a)
          → Out (part_behind p (offered_by env parts p a))
      go New is g said =
          let none = new-none AnyNode env p h p.row h (decision-new env.leaving env.epoch p.row p.beside is).0 in
          work-out 0 [] p (taken_sent env) (goes_on env (state_of (reads_batch env true (node_begins env parts)))) (λ s follows. none-old p.kept none.0 s)
          (subst (AllByRecursion (FetchKeptIsOut now n c e)) (sym none.1) tt) g.0 g.1 said
      go Again is g said = calm-part files seen ss n c p calm outs
      go Stale is g said = calm-part files seen ss n c p calm outs
      go Refuse is g said = refused p.row (calm-part files seen ss n c p calm outs) where
        staged : (i : ℕ) (d : BackConn) → StageIsOut files now n c i p d → StageIsOut files now n c i (kept_refused env p) d
        staged i (back.Here b) was = was
        staged i _ was = tt

        refused : (o : Option BackRow) → RowIsOut files now n c p o → RowIsOut files now n c (kept_refused env p) o
        refused None was = tt
        refused (Some row) was = staged row.epoch.0 row.stage was

    pub acknowledged-out : (back : Bool) → Calm → Out (part_behind p (node_acknowledged env back p))
    acknowledged-out back calm =
        let q : NodePart = record p { row = gone p.row; kept = without (told_kind back) 0 p.kept } in
        cond_both (awaits_told back env p) (Does (q, node_saying [])) Drops (λ d. Out (part_behind p d)) (λ t. gone-out q p.row) (λ t. calm-part files seen ss n c p calm outs) where
          gone-out : (q : NodePart) (o : Option BackRow) → RowIsOut files now n c q (gone o)
          gone-out q None = tt
          gone-out q (Some row) = tt

    -- ---- what answers

    -- nothing came but this packet
    module _ (l : Letter) (only : (P : Letter → Type 0) → (P l → ⊥) → NoneCome P ss) where
      -- where it would count it is not left
      module _ (o : Option (ControlBlock × Stay)) (it : here env.epoch p ≡ o) where
        -- what is here is that
        was-here : (row : BackRow) (b : ControlBlock) (s : Stay) → p.row ≡ Some row → row.stage ≡ back.Here b → p.stay ≡ Some s → row.epoch.0 ≡ e → Some (b, s) ≡ o
        was-here row b s found at stay same = sym (here-of e p row b s found at same stay) ∙ it

      -- a Tag
      module _ (number : ℕ) (nodes : List ℕ) (from : l.from ≡ Front) (reads : decoded_message l.bytes ≡ Ok (record { c = env.serve.c; epoch = record { 0 = env.epoch }; body = body.Tag number nodes })) where
        no-content : (node d r : ℕ) → NoneCome (IsContentFor n node c d r) ss
        no-content node d r = only (IsContentFor n node c d r) (λ a. let no : Front ≡ Node node = sym from ∙ a.from in cc)

        -- it is for what the stay of that epoch awaits
        says : (d asks count : ℕ) → IsTagFor n c d asks count l → (d ≡ e) × (asks ≡ number) × (length nodes ≡ count)
        says d asks count a =
            let same : ◌≡◌ {A = Message} (record { c = c; epoch = record { 0 = d }; body = body.Tag asks a.nodes }) (record { c = c; epoch = record { 0 = e }; body = body.Tag number nodes }) = one-reading _ _ (decoded_message l.bytes) a.reads reads in
            let bodies : body.Tag asks a.nodes ≡ body.Tag number nodes = ap (λ (m : Message). m.body) same in
            let one : asks ≡ number = cc in
            let two : a.nodes ≡ nodes = cc in
            (ap (λ (m : Message). m.epoch.0) same, one, ap (λ (q : List ℕ). length q) (sym two) ∙ a.enough)

        -- it is passed over
        not-counted : (o : Option (ControlBlock × Stay)) → here env.epoch p ≡ o → ((y : ControlBlock × Stay) → o ≡ Some y → is_tag_awaited env number nodes p y.1 ≡ false) → Out p
        not-counted o it not = part-more files seen ss n c p (λ row b s found at is. record {
          tags = λ path paths names. only (IsTagFor n c row.epoch.0 s.asks (length (named_paths files s.batch))) (λ a.
              let it_is = says row.epoch.0 s.asks (length (named_paths files s.batch)) a in
              let here_is : Some (b, s) ≡ o = was-here o it row b s found at is it_is.0 in
              let k : StayKeeps AnyNode files c e n p s = keeps b s (it ∙ sym here_is) in
              let asked : AsksFor c e s.asks (path ∷ paths) p.kept = subst (λ (names : List (List ℕ)). AsksFor c e s.asks names p.kept) names k.asks in
              let found_ask : is_some (find (is_under kind.Ask 0) p.kept) ≡ true = ap (λ (ks : List Kept). is_some (find (is_under kind.Ask 0) ks)) asked.2 in
              let counts : is_tag_awaited env number nodes p s ≡ true = and_from (is_some (find (is_under kind.Ask 0) p.kept)) (s.asks == number && length nodes == length (named_paths files s.batch)) found_ask
              (and_from (s.asks == number) (length nodes == length (named_paths files s.batch)) (eq-eqb s.asks number it_is.1) (eq-eqb (length nodes) (length (named_paths files s.batch)) it_is.2)) in
              both_ways (is_tag_awaited env number nodes p s) (not (b, s) (sym here_is)) counts);
          contents = λ k has r node path kis. no-content node row.epoch.0 r;
        }) outs

        pub tagged-out : AreSeen n ss (node_tagged env p number nodes) → ((y : ControlBlock × Stay) → here env.epoch p ≡ Some y → y.1.asks ≡ number → Each AnyNode nodes) → Out (part_behind p (node_tagged env p number nodes))
        tagged-out said any = go (here env.epoch p) refl (tagged-keeps AnyNode env p h number nodes any) said where
          go : (o : Option (ControlBlock × Stay)) → here env.epoch p ≡ o → DeedKeeps AnyNode files c n (tagged_by env number nodes p o) × DeedGoes files e o (tagged_by env number nodes p o)
              → AreSeen n ss (tagged_by env number nodes p o) → Out (part_behind p (tagged_by env number nodes p o))
          go None it g said = not-counted None it (λ y is. absurd (let no : None ≡ Some y = is in cc))
          go (Some y) it g said =
              let part : NodePart = record p { kept = without kind.Ask 0 p.kept } in
              let w : Work = goes_on env (tagged env nodes (work_of y.0 y.1)) in
              let named : List (List ℕ) = named_paths files y.1.batch in
              cond_both (is_tag_awaited env number nodes p y.1) (node_turns env part [] w) Drops
              (λ d. DeedKeeps AnyNode files c n d × DeedGoes files e (Some y) d → AreSeen n ss d → Out (part_behind p d))
              (λ t g said. turned-out y.0 y.1 it part w (work-out y.1.asks named part [] w (λ s follows. none-old part.kept (asks-left c e y.1.asks named p.kept (keeps y.0 y.1 it).asks) s)
              (fetches-more files seen ss n c e p.fetches (λ k has r node path is. no-content node e r) (out y.0 y.1 it).fetched)) g said)
              (λ t g said. not-counted (Some y) it (λ z is. let same : y ≡ z = cc in subst (λ (q : ControlBlock × Stay). is_tag_awaited env number nodes p q.1 ≡ false) same t))
              g said

      -- a Content
      module _ (from r : ℕ) (file : List ℕ) (node_is : l.from ≡ Node from) (reads : decoded_message l.bytes ≡ Ok (record { c = env.serve.c; epoch = record { 0 = env.epoch }; body = body.Content r file }))
          (low : (env.epoch < 2 ^ 16) ⊎ (here env.epoch p ≡ None)) where
        no-tag : (d asks count : ℕ) → NoneCome (IsTagFor n c d asks count) ss
        no-tag d asks count = only (IsTagFor n c d asks count) (λ a. let no : Node from ≡ Front = sym node_is ∙ a.from in cc)

        brings : (d node i : ℕ) → IsContentFor n node c d i l → (d ≡ e) × (from ≡ node) × (i ≡ r)
        brings d node i a =
            let same : ◌≡◌ {A = Message} (record { c = c; epoch = record { 0 = d }; body = body.Content i a.file }) (record { c = c; epoch = record { 0 = e }; body = body.Content r file }) = one-reading _ _ (decoded_message l.bytes) a.reads reads in
            let bodies : body.Content i a.file ≡ body.Content r file = ap (λ (m : Message). m.body) same in
            let one : i ≡ r = cc in
            let places : Node from ≡ Node node = sym node_is ∙ a.from in
            let two : from ≡ node = cc in
            (ap (λ (m : Message). m.epoch.0) same, two, one)

        passed-over : (o : Option (ControlBlock × Stay)) → here env.epoch p ≡ o → ((y : ControlBlock × Stay) → o ≡ Some y → is_from from env.epoch (find (is_under kind.Fetch r) p.fetches) ≡ false) → Out p
        passed-over o it not = part-more files seen ss n c p (λ row b s found at is. record {
          tags = λ path paths names. no-tag row.epoch.0 s.asks (length (named_paths files s.batch));
          contents = λ k has i node path kis. only (IsContentFor n node c row.epoch.0 i) (λ a.
              let it_is = brings row.epoch.0 node i a in
              let here_is : Some (b, s) ≡ o = was-here o it row b s found at is it_is.0 in
              let order : AreInOrder p.fetches = (keeps b s (it ∙ sym here_is)).order in
              let same : k ≡ fetch_kept c e r from path = kis ∙ (λ j. fetch_kept c (it_is.0 j) (it_is.2 j) (sym it_is.1 j) path) in
              let under : is_under kind.Fetch r k ≡ true = ap (is_under kind.Fetch r) same ∙ eq-eqb r r refl in
              let got : find (is_under kind.Fetch r) p.fetches ≡ Some k = found-it kind.Fetch r p.fetches k order has under in
              let counts : is_from from e (find (is_under kind.Fetch r) p.fetches) ≡ true = ap (is_from from e) got ∙ ap (λ (q : Kept). is_from from e (Some q)) same
              ∙ and_from (from == from) (names_epoch (fetch_kept c e r from path).bytes e) (eq-eqb from from refl)
              (⊎_elim (λ (small : e < 2 ^ 16). names-epoch c e r path small) (λ (none : here env.epoch p ≡ None). absurd (let no : Some (b, s) ≡ None = here_is ∙ sym it ∙ none in cc)) low) in
              both_ways (is_from from e (find (is_under kind.Fetch r) p.fetches)) (not (b, s) (sym here_is)) counts);
        }) outs

        pub content-out : AreSeen n ss (node_content env p from r) → Out (part_behind p (node_content env p from r))
        content-out said = go (here env.epoch p) refl (content-keeps AnyNode env p h from r) said where
          go : (o : Option (ControlBlock × Stay)) → here env.epoch p ≡ o → DeedKeeps AnyNode files c n (come_by env from r p o) × DeedGoes files e o (come_by env from r p o)
              → AreSeen n ss (come_by env from r p o) → Out (part_behind p (come_by env from r p o))
          go None it g said = passed-over None it (λ y is. absurd (let no : None ≡ Some y = is in cc))
          go (Some y) it g said =
              let part : NodePart = record p { fetches = without kind.Fetch r p.fetches } in
              let w : Work = goes_on env (came_for (come_progress from) r (work_of y.0 y.1)) in
              let named : List (List ℕ) = named_paths files y.1.batch in
              let was : StayIsOut files seen n c e p.fetches y.1 = out y.0 y.1 it in
              cond_both (is_from from env.epoch (find (is_under kind.Fetch r) p.fetches)) (node_turns env part [] w) Drops
              (λ d. DeedKeeps AnyNode files c n d × DeedGoes files e (Some y) d → AreSeen n ss d → Out (part_behind p d))
              (λ t g said. turned-out y.0 y.1 it part w (work-out y.1.asks named part [] w
              (same-old y.0 y.1 it (names-more files seen ss n c e y.1.asks named (λ path paths names. no-tag e y.1.asks (length named)) was.asks))
              (fetches-more files seen ss n c e part.fetches
              (λ k has i node path is. only (IsContentFor n node c e i) (λ a.
              let it_is = brings e node i a in
              let under : is_under kind.Fetch r k ≡ true = ap (is_under kind.Fetch r) is ∙ eq-eqb i r it_is.2 in
              both_ways (is_under kind.Fetch r k) (has-without kind.Fetch r p.fetches k has).1 under))
              (drop_all (FetchKeptIsOut seen n c e) kind.Fetch r p.fetches was.fetched))) g said)
              (λ t g said. passed-over (Some y) it (λ z is. t)) g said
