-- What awaits an answer is near where it is sent again: an Offer, an Ask, a Fetch, an Ended, a Give.
use Rattle.std.proofs.Common.{nat_lt, cond, ◌&&◌, ◌%◌, ◌/◌, ◌≡◌, ◌<◌, ◌==◌, ◌^◌, ◌*◌, ◌+◌, ℕ, Bool, true, false, List, [], ◌∷◌, length, Option, Some, None, inr, is_some, refl, sym, ap, ◌∙◌, subst, arith, le-ltb}
use Rattle.std.specs.Prelude.{◌⊎◌}
use Rattle.std.proofs.lemmas.Bool.{cond-false, cond_both}
use Rattle.std.proofs.lemmas.Bool.Decides.{nat_tests}
use Rattle.std.specs.List.{AllByRecursion, find}
use Rattle.lard_law_view.specs.Prelude.{BackConn, BackRow, Body, Conn, ControlBlock, EndpointParts, FilesAt, Final, Front, FrontConn, FrontRow, IsMessage, Kept, Message, Node, NodePart, Part, Station, Stay, ask_kept, ended_kept, fetch_kept, fetching, front_rest, is_from, is_under, named_paths, names_epoch, spelled_message}
use Rattle.lard_base.specs.declared.place.TimerKind.TheVariants as kind
use Rattle.lard_bound.specs.Nears.{IsWanted, Near, NearAside, NearAsk, NearEnding, NearGive, NearOffer, NearSaid, NearTold, OfMessage}
use Rattle.lard_bound.specs.Seats.{Gone, Over, SeatNow, seat_decided, seat_of, seat_there, seat_untaken, stay_of, staying_of, telling_by, tells_end, tells_over}
use Rattle.lard_bound.specs.Spots.{AtNode, Spot, awaits_of, ends_of, post_of, spot_of}
use Rattle.lard_handoff_back.specs.declared.row.BackConn.TheVariants as back
use Rattle.lard_handoff_front.specs.declared.row.FrontConn.TheVariants as stage
use Rattle.lard_message.specs.declared.message.Body.TheVariants as body
use Rattle.lard_message.proofs.Whole.{again}
use Rattle.lard_rules.specs.Node.{message}
use Rattle.lard_law_progress.proofs.AnswersFrontSpots.{over-cases, untaken-cases}
use Rattle.lard_law_progress.proofs.Away.{IsWith, away-here, seat-with}

-- ---- what is kept, by the stage in which the connection is

abbrev pub of_conn : ℕ → ℕ → Body → Message
of_conn c e b = record { c = c; epoch = record { 0 = e }; body = b }

-- An Offer is kept exactly while the connection is on its way. One that waits has said all.
abbrev pub OfferKept : ℕ → List Kept → FrontConn → Type 0
OfferKept c ks stage.Lent = ⊥
OfferKept c ks (stage.Offering n e) = (parts : EndpointParts) × (ks ≡ record { kind = kind.Offer; r = 0; to = Node n; bytes = message c e.0 (body.Offer parts) } ∷ []) × IsMessage (of_conn c e.0 (body.Offer parts))
OfferKept c ks _ = ks ≡ []

abbrev pub RowKept : ℕ → List Kept → Option FrontRow → Type 0
RowKept c ks None = ks ≡ []
RowKept c ks (Some row) = OfferKept c ks row.stage

-- the last Ask, for the requests that have no node
pub record IsAsk (files : FilesAt) (c e : ℕ) (s : Stay) (ks : List Kept) : Type 0 where
  pub queue : ℕ
  pub size : ℕ
  pub is : ks ≡ ask_kept c e (record { number = s.asks; queue = queue; size = size; paths = named_paths files s.batch }) ∷ []
  pub may : IsMessage (of_conn c e (body.Ask s.asks queue size (named_paths files s.batch)))

-- a Fetch of a file
pub record IsFetched (files : FilesAt) (c e : ℕ) (k : Kept) : Type 0 where
  pub r : ℕ
  pub node : ℕ
  pub path : List ℕ
  pub is : k ≡ fetch_kept c e r node path
  pub file : is_some (files path) ≡ true
  pub may : IsMessage (of_conn c e (body.Fetch r path))

pub record IsEnded (c e : ℕ) (ks : List Kept) : Type 0 where
  pub last : Final
  pub count : ℕ
  pub is : ks ≡ ended_kept c e last count ∷ []
  pub may : IsMessage (of_conn c e (body.Ended last.reason last.snd.0 last.rcv.0 count))

pub record IsGiven (c e : ℕ) (ks : List Kept) : Type 0 where
  pub parts : EndpointParts
  pub is : ks ≡ record { kind = kind.Give; r = 0; to = Front; bytes = message c e (body.Give parts) } ∷ []
  pub may : IsMessage (of_conn c e (body.Give parts))

-- what tells that a stay is over: that it ended, or the Give
abbrev pub ToldKept : ℕ → ℕ → List Kept → Option ℕ → Type 0
ToldKept c e ks None = IsEnded c e ks
ToldKept c e ks (Some served) = IsGiven c e ks

abbrev pub StayKept : FilesAt → ℕ → ℕ → NodePart → Option Stay → Type 0
StayKept files c e p None = ⊥
StayKept files c e p (Some s) = ((p.kept ≡ []) ⊎ IsAsk files c e s p.kept) × AllByRecursion (IsFetched files c e) p.fetches

abbrev pub StageKept : FilesAt → ℕ → ℕ → NodePart → BackConn → Type 0
StageKept files c e p (back.Here b) = StayKept files c e p p.stay
StageKept files c e p back.Out = ⊥
StageKept files c e p back.Ended = ToldKept c e p.kept p.beside.returned × (p.fetches ≡ [])
StageKept files c e p back.Gone = (p.kept ≡ []) × (p.fetches ≡ [])

abbrev pub BackKept : FilesAt → ℕ → NodePart → Option BackRow → Type 0
BackKept files c p None = (p.kept ≡ []) × (p.fetches ≡ [])
BackKept files c p (Some row) = StageKept files c row.epoch.0 p row.stage

-- Where nothing is decided of the end that a node tells, the stay is over; else the front end has its last numbers.
pub data IsTold (z : SeatNow) (n e : ℕ) : Type 0 where
  Left : (told : Bool) → z ≡ Gone told n e → IsTold z n e
  Known : (last : Final) → z ≡ Over last → IsTold z n e

-- where the front end is with a node, in an epoch
pub record IsWithNode (p : Part) (n e : ℕ) : Type 0 where
  pub told : Bool
  pub row : FrontRow
  pub front : p.front.row ≡ Some row
  pub with_ : IsWith told n e row.stage

-- What is known of a connection within a settle, so that what is sent again is near.
pub record Renews (files : FilesAt) (x : Conn) : Type 0 where
  pub front : RowKept x.c x.part.front.kept x.part.front.row
  pub nodes : (n : ℕ) → BackKept files x.c (x.part.nodes n) (x.part.nodes n).row
  pub homes : (n e : ℕ) (b : ControlBlock) → (x.part.nodes n).row ≡ Some (record { stage = back.Here b; epoch = record { 0 = e } }) → IsWithNode x.part n e
  pub ends : (n e : ℕ) → (x.part.nodes n).row ≡ Some (record { stage = back.Ended; epoch = record { 0 = e } }) → (x.part.nodes n).beside.returned ≡ None
      → IsTold (seat_of x.part) n e

-- ---- what is near

self : (n : ℕ) → (n == n) ≡ true
self n = grind (arith, nat_tests)

-- a spelling names its epoch
names-epoch : (c e r : ℕ) (path : List ℕ) → e < 2 ^ 16 → names_epoch (spelled_message (fetching c e r path)) e ≡ true
unfolding spelled_message
names-epoch c e r path low =
    let same : e / 256 % 256 * 256 + e % 256 ≡ e = omega arith in
    cond-false (nat_lt (length (spelled_message (fetching c e r path))) 6) _ _ (le-ltb _ _ (omega arith)) ∙ ap (λ (n : ℕ). n == e) same ∙ self e

module _ (files : FilesAt) (p : Part) (st : Station) (c : ℕ) where
  abbrev t : Spot
  t = spot_of files p st

  post-is : t.post ≡ post_of files st.client (seat_of p)
  unfolding spot_of
  post-is = refl

  telling-is : (n : ℕ) → t.telling n ≡ tells_over (p.nodes n)
  unfolding spot_of
  telling-is n = refl

  -- an Offer that the front end makes
  module _ (n e : ℕ) where
    there-near : (count : ℕ) (q : NodePart) (b : BackConn) → NearOffer 3 n e (post_of files st.client (seat_there false n e count q b))
    there-near count q (back.Here b) = (refl, refl, omega arith)
    there-near count q back.Out = (refl, refl, omega arith)
    there-near count q back.Ended = over-cases false n e q (λ (z : SeatNow). NearOffer 3 n e (post_of files st.client z)) (refl, refl, omega arith)
        (λ served. (refl, refl, omega arith))
    there-near count q back.Gone = over-cases false n e q (λ (z : SeatNow). NearOffer 3 n e (post_of files st.client z)) (refl, refl, omega arith)
        (λ served. (refl, refl, omega arith))

    decided-near : (count : ℕ) (q : NodePart) (o : Option BackRow) → NearOffer 3 n e (post_of files st.client (seat_decided false n e count q o))
    decided-near count q None = untaken-cases n e count q (λ (z : SeatNow). NearOffer 3 n e (post_of files st.client z)) (refl, refl, omega arith)
        (refl, refl, omega arith)
    decided-near count q (Some row) = cond_both (row.epoch.0 == e) (seat_there false n e count q row.stage) (seat_untaken n e count q)
        (λ (z : SeatNow). NearOffer 3 n e (post_of files st.client z))
        (λ same. there-near count q row.stage) (λ other. untaken-cases n e count q (λ (z : SeatNow). NearOffer 3 n e (post_of files st.client z))
        (refl, refl, omega arith) (refl, refl, omega arith))

    pub offer-near : (row : FrontRow) → p.front.row ≡ Some row → row.stage ≡ stage.Offering n (record { 0 = e }) → (parts : EndpointParts) → IsMessage (of_conn c e (body.Offer parts))
        → Near files t c 3 (record { from = Front; to = Node n; bytes = message c e (body.Offer parts) })
    offer-near row is at parts may =
        let seat = seat-with p n e false row is at in
        let near : NearOffer 3 n e t.post = subst (NearOffer 3 n e) (sym (post-is ∙ ap (post_of files st.client) seat)) (decided-near (front_rest p.front.rest).count (p.nodes n) (p.nodes n).row) in
        subst (OfMessage (λ (m : Message). NearTold t c 3 n m.epoch.0 m.body)) (sym (again (of_conn c e (body.Offer parts)) may)) near

    -- ---- of a stay

    module _ (b : ControlBlock) (s : Stay) (there : (p.nodes n).row ≡ Some (record { stage = back.Here b; epoch = record { 0 = e } })) (stay : (p.nodes n).stay ≡ Some s) (home : IsWithNode p n e) where
      abbrev q : NodePart
      q = p.nodes n

      post-here : t.post ≡ AtNode home.told n e (ends_of st.client b) (awaits_of files (staying_of q))
      post-here = post-is ∙ ap (post_of files st.client) (seat-with p n e home.told home.row home.front home.with_ ∙ away-here home.told n e (front_rest p.front.rest).count q b there)

      pub ask-near : (a : IsAsk files c e s q.kept)
          → Near files t c 3 (record { from = Node n; to = Front; bytes = message c e (body.Ask s.asks a.queue a.size (named_paths files s.batch)) })
      ask-near a =
          let kept : is_some (find (is_under kind.Ask 0) q.kept) ≡ true = ap (λ (ks : List Kept). is_some (find (is_under kind.Ask 0) ks)) a.is in
          let asks : s.asks ≡ (stay_of q.stay).asks = sym (ap (λ (o : Option Stay). (stay_of o).asks) stay) in
          let named : length (named_paths files s.batch) ≡ length (named_paths files (stay_of q.stay).batch) = sym (ap (λ (o : Option Stay). length (named_paths files (stay_of o).batch)) stay) in
          let near : NearAsk 2 n e s.asks (length (named_paths files s.batch)) t.post =
          subst (NearAsk 2 n e s.asks (length (named_paths files s.batch))) (sym post-here) (refl, refl, (kept, asks, named)) in
          subst (OfMessage (λ (m : Message). NearSaid t 3 n m.epoch.0 m.body)) (sym (again (of_conn c e (body.Ask s.asks a.queue a.size (named_paths files s.batch))) a.may)) (near, omega arith)

      pub fetch-near : (k : Kept) (rest : List Kept) → q.fetches ≡ k ∷ rest → (f : IsFetched files c e k) → Near files t c 3 (record { from = Node n; to = Node f.node; bytes = message c e (body.Fetch f.r f.path) })
      fetch-near k rest fetches f =
          let own : Kept = fetch_kept c e f.r f.node f.path in
          let under : is_under kind.Fetch f.r own ≡ true = self f.r in
          let found : find (is_under kind.Fetch f.r) q.fetches ≡ Some own =
          ap (find (is_under kind.Fetch f.r)) fetches ∙ ap (λ (j : Kept). find (is_under kind.Fetch f.r) (j ∷ rest)) f.is ∙ ap (λ b. cond b (Some own) (find (is_under kind.Fetch f.r) rest)) under in
          let from : is_from f.node e (Some own) ≡ true = (λ i. self f.node i && names-epoch c e f.r f.path f.may.epoch i) in
          let wanted : IsWanted n e f.node f.r t.post =
          subst (IsWanted n e f.node f.r) (sym post-here) (refl, refl, ap (is_from f.node e) found ∙ from) in
          subst (OfMessage (λ (m : Message). NearAside files t 3 n f.node m.epoch.0 m.body)) (sym (again (of_conn c e (body.Fetch f.r f.path)) f.may)) (wanted, f.file, omega arith)

    -- ---- of an end

    told-near : (p.nodes n).row ≡ Some (record { stage = back.Ended; epoch = record { 0 = e } }) → (p.nodes n).beside.returned ≡ None → IsTold (seat_of p) n e
        → NearEnding t 3 n e t.post
    told-near row ungiven (Left told is) = subst (NearEnding t 3 n e) (sym (post-is ∙ ap (post_of files st.client) is)) (refl, omega arith)
    told-near row ungiven (Known last is) = subst (NearEnding t 3 n e) (sym (post-is ∙ ap (post_of files st.client) is))
        (telling-is n ∙ (λ i. telling_by (tells_end (row i)) (ungiven i)), omega arith)

    pub ended-near : (p.nodes n).row ≡ Some (record { stage = back.Ended; epoch = record { 0 = e } }) → (p.nodes n).beside.returned ≡ None → IsTold (seat_of p) n e
        → (x : IsEnded c e (p.nodes n).kept)
        → Near files t c 3 (record { from = Node n; to = Front; bytes = message c e (body.Ended x.last.reason x.last.snd.0 x.last.rcv.0 x.count) })
    ended-near row ungiven is x =
        subst (OfMessage (λ (m : Message). NearSaid t 3 n m.epoch.0 m.body)) (sym (again (of_conn c e (body.Ended x.last.reason x.last.snd.0 x.last.rcv.0 x.count)) x.may)) (told-near row ungiven is)

    -- of a connection that goes back
    pub given-near : (p.nodes n).row ≡ Some (record { stage = back.Ended; epoch = record { 0 = e } }) → (served : ℕ) → (p.nodes n).beside.returned ≡ Some served
        → (x : IsGiven c e (p.nodes n).kept) → Near files t c 3 (record { from = Node n; to = Front; bytes = message c e (body.Give x.parts) })
    given-near row served given x =
        let near : NearGive t 3 n e = inr (telling-is n ∙ (λ i. telling_by (tells_end (row i)) (given i)), omega arith) in
        subst (OfMessage (λ (m : Message). NearSaid t 3 n m.epoch.0 m.body)) (sym (again (of_conn c e (body.Give x.parts)) x.may)) near
