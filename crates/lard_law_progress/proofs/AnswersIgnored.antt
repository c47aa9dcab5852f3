-- A packet to a node or to a client of which nothing comes, since nobody hears it: it was not near.
use Rattle.std.proofs.Common.{◌≡◌, ℕ, suc, Bool, true, false, List, length, Option, Some, None, Result, Ok, Err, inr, refl, sym, ap, ◌∙◌, subst}
use Rattle.std.specs.List.{find}
use Rattle.lard_law_view.specs.Prelude.{BackRow, Body, Client, Conn, Front, IsForNode, IsUnheard, Message, MsgFault, Node, Place, Said, SegFault, Setting, Station, ToCluster, decoded, decoded_message, is_from, is_no_node, is_under, kind_of, nothing_said, packet_seen, stands}
use Rattle.lard_base.specs.declared.place.TimerKind.TheVariants as timer
use Rattle.lard_bound.specs.Nears.{Near, NearAside, NearForward, NearOffer, NearTold, OfMessage}
use Rattle.lard_bound.specs.Progress.{Answers, IsFetch, NearOn, spot_with}
use Rattle.lard_bound.specs.Seats.{Gone, Here, Offered, Refused, Returned, SeatNow, seat_of, telling_by, tells_end}
use Rattle.lard_bound.specs.Spots.{Spot, post_of, spot_of}
use Rattle.lard_bound.specs.Units.{Whole}
use Rattle.lard_message.specs.declared.message.Body.TheVariants as body
use Rattle.lard_law_progress.proofs.AnswersNodeComing.{AwaitsAt, ask-awaits, content-awaits}
use Rattle.lard_law_progress.proofs.AnswersNodeForward.{forward-awaits}
use Rattle.lard_law_progress.proofs.AnswersNodeGiven.{NodeGiven}
use Rattle.lard_law_progress.proofs.AnswersNodeSeats.{Sits, seat-sits}
use Rattle.lard_law_progress.proofs.AnswersForm.{seated-is}
use Rattle.lard_law_progress.proofs.AnswersNodeStill.{post-is}

-- A content from node a to node n that no request awaits: the view says nothing of packets between nodes that nobody hears.
abbrev pub IsUnwanted : Conn → ℕ → ℕ → List ℕ → Type 0
IsUnwanted x a n bytes = (m : Message) (r : ℕ) (file : List ℕ) → decoded_message bytes ≡ Ok m → m.body ≡ body.Content r file → AwaitsAt x.part n m.epoch.0 (λ q. is_from a m.epoch.0 (find (is_under timer.Fetch r) q.fetches) ≡ true) → ⊥

module _ (k : Setting) (w : Whole) (x : Conn) where
  abbrev there : ℕ → Type 0
  there n = is_no_node k.nodes n ≡ false

  module _ (given : NodeGiven k w x) (st : Station) (n : ℕ) (bytes : List ℕ) where
    abbrev t : Spot
    t = spot_of k.files x.part st

    row-there : (m : ℕ) (row : BackRow) → (x.part.nodes m).row ≡ Some row → m ≡ n → there n
    row-there m row is same = subst there same (given.there m row is)

    offer-there : (d e : ℕ) → NearOffer d n e t.post → there n
    offer-there d e near = go (seat_of x.part) refl (seat-sits x.part) (subst (NearOffer d n e) (post-is k.files x.part st) near) where
      go : (z : SeatNow) → seat_of x.part ≡ z → Sits x.part z → NearOffer d n e (post_of k.files st.client z) → there n
      go (Here told m f b s) is sits h = row-there m _ sits.0.there h.0
      go (Gone told m f) is sits h = row-there m sits.row sits.there h.0
      go (Returned told m f served) is sits h = row-there m sits.row sits.there h.0
      go (Offered m f count) is sits h = subst there h.0 (given.placed m f count is)
      go (Refused m f count) is sits h = subst there h.0 (given.declined m f count is)
      go _ is sits h = absurd h

    forward-there : (d e : ℕ) (r : Result Said SegFault) → NearForward t d n e r t.post → there n
    forward-there d e (Err fault) near = absurd near
    forward-there d e (Ok s) near =
        let F : Spot → Type 0 = λ u. NearForward u d n e (Ok s) u.post in
        let h = forward-awaits k.files x.part st n e d s (subst F (seated-is k.files x.part st) near) in
        row-there n _ h.2.there refl

    ended-there : (e : ℕ) (goes_back : Bool) → t.telling n ≡ Some (e, goes_back) → there n
    unfolding spot_of
    ended-there e goes_back is = go (x.part.nodes n).row refl is where
      go : (o : Option BackRow) → (x.part.nodes n).row ≡ o → telling_by (tells_end o) (x.part.nodes n).beside.returned ≡ Some (e, goes_back) → there n
      go None row f = absurd (let bad : ◌≡◌ {A = Option (ℕ × Bool)} None (Some (e, goes_back)) = f in cc)
      go (Some row) at f = given.there n row at

    -- what the front end tells a node that is there, of which a node hears
    told-far : ((m : Message) → decoded_message bytes ≡ Ok m → IsForNode (kind_of m.body) → is_no_node k.nodes n ≡ true) → (d : ℕ) → Near k.files t x.c (suc d) (record { from = Front; to = Node n; bytes = bytes }) → ⊥
    told-far none d near = go (decoded_message bytes) refl near where
      both : there n → is_no_node k.nodes n ≡ true → ⊥
      both a c = let bad : true ≡ false = sym c ∙ a in cc

      by-body : (m : Message) → decoded_message bytes ≡ Ok m → (b : Body) → m.body ≡ b → NearTold t x.c (suc d) n m.epoch.0 b → ⊥
      by-body m is (body.Offer parts) f h = both (offer-there (suc d) m.epoch.0 h) (none m is (subst (λ (b : Body). IsForNode (kind_of b)) (sym f) tt))
      by-body m is (body.Forward segment) f h = both (forward-there (suc d) m.epoch.0 (decoded segment x.c ToCluster) h) (none m is (subst (λ (b : Body). IsForNode (kind_of b)) (sym f) tt))
      by-body m is (body.Tag number nodes) f h =
          let a = ask-awaits k.files x.part st n m.epoch.0 1 number (length nodes) h.0 in
          both (row-there n _ a.2.there refl) (none m is (subst (λ (b : Body). IsForNode (kind_of b)) (sym f) tt))
      by-body m is body.EndedAck f h = both (ended-there m.epoch.0 false h.0) (none m is (subst (λ (b : Body). IsForNode (kind_of b)) (sym f) tt))
      by-body m is body.Given f h = both (ended-there m.epoch.0 true h.0) (none m is (subst (λ (b : Body). IsForNode (kind_of b)) (sym f) tt))
      by-body m is _ f h = h

      go : (o : Result Message MsgFault) → decoded_message bytes ≡ o → OfMessage (λ (m : Message). NearTold t x.c (suc d) n m.epoch.0 m.body) o → ⊥
      go (Err fault) is h = h
      go (Ok m) is h = by-body m is m.body refl h

    -- what another node tells it: a Fetch, or a content that nobody awaits
    aside-fetch : (a : ℕ) → IsUnwanted x a n bytes → (d : ℕ) → Near k.files t x.c (suc d) (record { from = Node a; to = Node n; bytes = bytes }) → IsFetch (record { from = Node a; to = Node n; bytes = bytes })
    aside-fetch a unwanted d near = go (decoded_message bytes) refl near where
      by-body : (m : Message) → decoded_message bytes ≡ Ok m → (b : Body) → m.body ≡ b → NearAside k.files t (suc d) a n m.epoch.0 b → IsFetch (record { from = Node a; to = Node n; bytes = bytes })
      by-body m is (body.Fetch r path) f h = (m.c, m.epoch.0, r, path, is ∙ λ i. Ok (record { c = m.c; epoch = m.epoch; body = f i }))
      by-body m is (body.Content r file) f h = absurd (unwanted m r file is f (content-awaits k.files x.part st n m.epoch.0 a r h.0))
      by-body m is _ f h = absurd h

      go : (o : Result Message MsgFault) → decoded_message bytes ≡ o → OfMessage (λ (m : Message). NearAside k.files t (suc d) a n m.epoch.0 m.body) o → IsFetch (record { from = Node a; to = Node n; bytes = bytes })
      go (Err fault) is h = absurd h
      go (Ok m) is h = by-body m is m.body refl h

  -- a packet to a client that has not opened
  pub client-ignores : (from : Place) (c : ℕ) (bytes : List ℕ) → x.part.station ≡ None
      → Answers k w x (stands x (Client c) (packet_seen from (Client c) bytes) nothing_said) (record { from = from; to = Client c; bytes = bytes })
  client-ignores from c bytes none = record {
    shorter = λ up. tt;
    leads = λ up d near. absurd (subst (λ (o : Option Spot). NearOn k.files o x.c (suc d) (record { from = from; to = Client c; bytes = bytes })) (ap (spot_with k.files x) none) near);
  }

  -- a packet to a node
  pub node-ignores : NodeGiven k w x → (from : Place) (n : ℕ) (bytes : List ℕ) → IsUnheard k.nodes x.part.station from (Node n) bytes → ((a : ℕ) → from ≡ Node a → IsUnwanted x a n bytes)
      → Answers k w x (stands x (Node n) (packet_seen from (Node n) bytes) nothing_said) (record { from = from; to = Node n; bytes = bytes })
  node-ignores given from n bytes unheard unwanted = record { shorter = λ up. tt; leads = λ up d near. inr (by-station d x.part.station refl near) } where
    by-place : (st : Station) (d : ℕ) (f : Place) → from ≡ f → IsUnheard k.nodes x.part.station f (Node n) bytes → Near k.files (spot_of k.files x.part st) x.c (suc d) (record { from = f; to = Node n; bytes = bytes })
        → IsFetch (record { from = f; to = Node n; bytes = bytes })
    by-place st d Front is un near = absurd (told-far given st n bytes un d near)
    by-place st d (Node a) is un near = aside-fetch given st n bytes a (unwanted a is) d near
    by-place st d (Client c) is un near = absurd near

    by-station : (d : ℕ) (o : Option Station) → x.part.station ≡ o → NearOn k.files (spot_with k.files x o) x.c (suc d) (record { from = from; to = Node n; bytes = bytes }) → IsFetch (record { from = from; to = Node n; bytes = bytes })
    by-station d None is near = absurd near
    by-station d (Some st) is near = by-place st d from refl unheard near
