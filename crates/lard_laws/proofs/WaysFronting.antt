-- What the front end does leaves a connection on its way.
use Rattle.std.proofs.Common.{◌⊎◌, ◌≡◌, ◌<◌, ◌≢◌, ◌≤◌, ◌+◌, ◌==◌, ◌^◌, ℕ, true, List, [], ◌∷◌, ◌++◌, map, length, take, Option, Some, None, Ok, inl, inr, ⊎_elim, refl, sym, ap, ◌∙◌, subst, arith, append_assoc, eqb-true}
use Rattle.std.specs.List.{slice_get}
use Rattle.std.proofs.lemmas.Bool.{and_parts}
use Rattle.std.proofs.lemmas.List.{length-map, map-append}
use Rattle.lard_law_view.specs.Prelude.{Body, Client, Conn, Did, EndpointParts, FilesAt, FirstChoice, Front, FrontEnv, FrontPart, FrontRow, FrontTurn, IsConnNumber, IsPrefix, IsStream, Message, Move, Node, Part, Place, Rec, Seen, Service, Stream, Verdict, and_path, decoded_message, front_does, good_path, handed_off, is_row_at, kind_of, letter, may_freeze, next_epoch, parts_of, verdicts, with_front}
use Rattle.lard_law_connections.specs.BytesAgreement.{FrontHolds}
use Rattle.lard_law_connections.proofs.BytesMessages.{offers-read}
use Rattle.lard_law_connections.specs.Places.{ArePast, HasEnded, IsDecided, IsOffered, IsPast, IsRefusalKnown}
use Rattle.lard_law_connections.proofs.PlacesGrowing.{past-later}
use Rattle.lard_law_connections.proofs.PlacesHeads.{kinds-same}
use Rattle.lard_laws.specs.WaysState.{BeginsWithRequest, FrontSaysWays, IsBy, LetterWays, SeatWays, marks_at}
use Rattle.lard_laws.specs.Ways.{IsNextGood, WayMarks, good_paths, paths_assigned, paths_wanted}
use Rattle.lard_laws.proofs.WaysGoods.{get-behind, good-append, prefix-take}
use Rattle.lard_laws.proofs.WaysLetters.{carries-none}
use Rattle.lard_laws.proofs.WaysLooking.{Looks}
use Rattle.lard_laws.proofs.WaysMarking.{Rightly, marked, marked-append, rightly-append}
use Rattle.lard_laws.proofs.WaysMoving.{Keeps, clients-say, makes}
use Rattle.lard_rules.specs.Front.{Does, message}
use Rattle.lard_handoff_front.specs.declared.row.FrontConn.TheVariants as stage
use Rattle.lard_history.proofs.Each.{Each}
use Rattle.lard_journal.specs.declared.rec.Rec.TheVariants as rec
use Rattle.lard_message.specs.declared.kind.Kind.TheVariants as kind
use Rattle.lard_message.specs.declared.message.Body.TheVariants as body
use Rattle.lard_law_view.proofs.EndpointSends.{AllTo}

-- ---- messages that say nothing of ways

quiet-body : (files : FilesAt) (m : WayMarks) (p : Part) (n e : ℕ) (b : Body) → kind_of b ≢ kind.Offer → kind_of b ≢ kind.Tag → FrontSaysWays files m p n e b
quiet-body files m p n e (body.Offer parts) other tagless = absurd (other refl)
quiet-body files m p n e (body.Tag number nodes) other tagless = absurd (tagless refl)
quiet-body files m p n e _ other tagless = tt

pub front-quiet : (files : FilesAt) (m : WayMarks) (p : Part) (n c e : ℕ) (b : Body) → kind_of b ≢ kind.Offer → kind_of b ≢ kind.Tag → LetterWays files m p (record { from = Front; to = Node n; bytes = message c e b })
front-quiet files m p n c e b other tagless = λ msg d.
    let same = kinds-same (record { c = c; epoch = record { 0 = e }; body = b }) msg d in
    quiet-body files m p n msg.epoch.0 msg.body (λ f. other (same ∙ f)) (λ f. tagless (same ∙ f))

module _ (env : FrontEnv) (x : Conn) where
  abbrev files : FilesAt
  files = env.serve.files

  abbrev begun : WayMarks
  begun = marks_at x

  -- a turn of a connection that it has, or that ended
  pub turned-makes : (heads : List Seen) (did : Did) (n : WayMarks) → Rightly files begun did.turn.notes → marked begun did.turn.notes ≡ n
      → IsPrefix (paths_assigned n) (paths_wanted files n) → SeatWays files n (with_front x.part did.part) did.part.row
      → ((i e : ℕ) → is_row_at i e did.part.row ≡ true → ⊥) → AllTo (Client env.serve.c) did.turn.segments
      → ((q : Part) → Each (LetterWays files n q) (map (letter Front) did.turn.messages)) → Keeps files x (front_does x heads (Does did))
  turned-makes heads did n notes told paths seat none to messages help g =
      let v : Move = front_does x heads (Does did) in
      makes files x v help g n notes told paths seat
      (carries-none files begun n x.part v.part help.owes.grows none)
      (λ old. both did.turn.segments did.turn.messages v.part (clients-say files n v.part Front env.serve.c did.turn.segments to) (messages v.part)) tt where
        both : (ss ms : List (Place × List ℕ)) (q : Part) → Each (LetterWays files n q) (map (letter Front) ss)
            → Each (LetterWays files n q) (map (letter Front) ms)
            → Each (LetterWays files n q) (map (letter Front) ss ++ map (letter Front) ms)
        both [] ms q h k = k
        both (y ∷ ss) ms q h k = (h.0, both ss ms q h.1 k)

  -- ---- the hand-off

  -- The endpoint is frozen, with its next request unread, and all that was assigned is answered, by the marks behind what was noted first.
  pub record IsFrozen (m : WayMarks) (s : Service) (path : List ℕ) : Type 0 where
    pub w : Stream
    pub out : Stream
    pub vs : List Verdict
    pub stream : IsStream w
    pub wrote : m.wrote ≡ w.bytes
    pub holds : FrontHolds w out vs [] s.block s.count
    pub frozen : may_freeze s.block ≡ true
    pub next : BeginsWithRequest files s.block.recv.unread path
    pub looks : Looks env.serve begun m s
    pub before : List Verdict
    pub counted : s.count ≡ length before
    pub others : List Verdict
    pub fronts : IsPrefix (before ++ next.first ∷ others) (verdicts m.wrote)

  -- No epoch behind that of this row was told: neither by what is kept of the connection, nor by a node.
  pub record IsLatest (row : FrontRow) : Type 0 where
    pub small : row.epoch.0 + 1 < 2 ^ 16
    pub by : (e : ℕ) → IsBy e x.part.front.row → e ≤ row.epoch.0
    pub offered : (i e : ℕ) → IsOffered i e x.part.front.row → e ≤ row.epoch.0
    pub past : ArePast row.epoch.0 x.part.nodes

  module _ (m : WayMarks) (row : FrontRow) (s : Service) (path : List ℕ) (choice : FirstChoice) (h : IsFrozen m s path) where
    abbrev placed_marks : WayMarks
    placed_marks = record m { served = s.count; assigned = m.assigned ++ (path, choice.node) ∷ []; fresh = true; home = Some choice.node }

    -- its path stands behind those that were assigned
    wanted-next : (rest : List (List ℕ)) × (paths_wanted files m ≡ paths_assigned m ++ path ∷ rest)
    wanted-next =
        let all : List Verdict = verdicts m.wrote in
        let fronts : all ≡ h.before ++ h.next.first ∷ (h.others ++ h.fronts.0) = h.fronts.1 ∙ append_assoc h.before (h.next.first ∷ h.others) h.fronts.0 in
        let gone : good_paths files h.before ≡ paths_assigned m =
        sym (ap (good_paths files) (ap (λ (n : ℕ). take n all) h.counted ∙ prefix-take h.before all (h.next.first ∷ (h.others ++ h.fronts.0), fronts))) ∙ sym h.looks.answered.0 in
        let more : List (List ℕ) = good_paths files (h.others ++ h.fronts.0) in (
          more,
          ap (good_paths files) fronts
              ∙ good-append files h.before (h.next.first ∷ (h.others ++ h.fronts.0))
              ∙ ap (λ (l : List (List ℕ)). l ++ and_path (good_path files h.next.first) more) gone
              ∙ ap (λ (o : Option (List ℕ)). paths_assigned m ++ and_path o more) h.next.good,
        )

    next-good : IsNextGood files (record m { served = s.count }) path
    next-good =
        let w = wanted-next in
        (λ i. slice_get (w.1 i) (sym (length-map m.assigned (λ a. a.0)) i)) ∙ get-behind (paths_assigned m) path w.0

    abbrev given : FrontPart × FrontTurn
    given = handed_off env row s path choice

    abbrev v_of : List Seen → Move
    v_of heads = front_does x heads (Does (record { part = given.0; turn = given.1; calls = [] }))

    pub handed-makes : (heads : List Seen) → IsConnNumber env.serve.c → IsLatest row → Keeps files x (v_of heads)
    handed-makes heads number latest help g =
        let v : Move = v_of heads in
        let n : WayMarks = placed_marks in
        let more : List Rec = rec.Admitted env.serve.c ∷ rec.AssignedFirst env.serve.c (s.count + 1) path choice.node choice.add choice.remove ∷ [] in
        let w = wanted-next in
        let next : MayMark_here (marked begun s.notes) = subst (λ (q : WayMarks). IsNextGood files q path) (sym h.looks.told) next-good in
        let paths : paths_wanted files m ≡ paths_assigned n ++ w.0 = w.1 ∙ sym (append_assoc (paths_assigned m) (path ∷ []) w.0) ∙ ap (λ (l : List (List ℕ)). l ++ w.0) (sym (map-append (λ a. a.0) m.assigned ((path, choice.node) ∷ []))) in
        makes files x v help g n
        (rightly-append files begun s.notes more h.looks.noted_so (tt, (next, tt)))
        (marked-append begun s.notes more
        ∙ ap (λ (q : WayMarks). record q { assigned = q.assigned ++ (path, choice.node) ∷ []; fresh = true; home = Some choice.node }) h.looks.told)
        (w.0, paths) (
          refl,
          inl (
            past-later row.epoch.0 (row.epoch.0 + 1) (x.part.nodes choice.node).row (omega arith) (latest.past choice.node),
            record { before = m.assigned; path = path; assigned = refl; fresh = refl; answered = h.looks.answered.0; asks = refl },
          ),
        )
        (record {
          grows = help.owes.grows;
          ask = λ i f number ps at decided was. let is : f ≡ row.epoch.0 + 1 = counts-epoch i f at in absurd (undecided i f (omega (arith, is)) decided);
          tag = λ i f number nodes at by was. let is : f ≡ row.epoch.0 + 1 = counts-epoch i f at in let le = latest.by f by in absurd (omega (arith, is, le));
          offer = λ i f parts at said was. let is : f ≡ row.epoch.0 + 1 = counts-epoch i f at in
              absurd (⊎_elim (undecided i f (omega (arith, is))) (λ (other : IsOffered i f x.part.front.row ⊎ IsRefusalKnown x.part i f). ⊎_elim
              (λ (o : IsOffered i f x.part.front.row). let le = latest.offered i f o in omega (arith, is, le))
              (λ (known : IsRefusalKnown x.part i f). let le = latest.by f (ended-by f x.part.front.row known.1) in omega (arith, is, le)) other) said);
        })
        (λ old. (offer-says v.part, tt)) tt where
          ended-by : (e : ℕ) (o : Option FrontRow) → HasEnded e o → IsBy e o
          ended-by e None h = h
          ended-by e (Some old) h = omega (arith, h)

          MayMark_here : WayMarks → Type 0
          MayMark_here q = IsNextGood files q path

          counts-epoch : (i f : ℕ) → is_row_at i f (Some (record { stage = stage.Offering choice.node (next_epoch row); epoch = next_epoch row; ended_by = None })) ≡ true → f ≡ (next_epoch row).0
          counts-epoch i f at = sym (eqb-true (next_epoch row).0 f (and_parts (choice.node == i) ((next_epoch row).0 == f) at).1)

          undecided : (i f : ℕ) → row.epoch.0 < f → IsDecided f (x.part.nodes i).row → ⊥
          undecided i f le decided = go (x.part.nodes i).row (latest.past i) decided where
            go : (o : _) → IsPast row.epoch.0 o → IsDecided f o → ⊥
            go None p d = d
            go (Some b) p d = omega (arith, p.0, d, le)

          offer-says : (q : Part) → LetterWays files placed_marks q (record { from = Front; to = Node choice.node; bytes = message env.serve.c (next_epoch row).0 (body.Offer (parts_of s.block s.count)) })
          offer-says q = λ msg d. by-body q msg d msg.body refl (kinds-same (record { c = env.serve.c; epoch = record { 0 = (next_epoch row).0 }; body = body.Offer (parts_of s.block s.count) }) msg d) where
            by-body : (q : Part) (msg : Message) → decoded_message (message env.serve.c (next_epoch row).0 (body.Offer (parts_of s.block s.count))) ≡ Ok msg → (b : Body) → msg.body ≡ b → kind.Offer ≡ kind_of msg.body
                → FrontSaysWays files placed_marks q choice.node msg.epoch.0 b
            by-body q msg d (body.Offer parts) at same = λ counts.
                let read : parts ≡ parts_of s.block s.count = offers-read env.serve.c
                (next_epoch row).0 h.w h.out h.vs [] s.block s.count number latest.small h.stream h.holds h.frozen msg parts d at in
                inr (m.assigned, path, choice.node, refl, subst (λ (z : EndpointParts). BeginsWithRequest files z.unread path) (sym read) h.next)
            by-body q msg d (body.Tag number nodes) at same = let no : kind.Offer ≡ kind.Tag = same ∙ ap kind_of at in absurd (let f : ⊥ = cc in f)
            by-body q msg d _ at same = tt
