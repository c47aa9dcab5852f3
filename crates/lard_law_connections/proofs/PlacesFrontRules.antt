-- The rules of the front end, one by one.
use Rattle.std.proofs.Common.{◌≡◌, ◌⊎◌, ℕ, ◌≤◌, ◌==◌, Bool, true, false, List, [], ◌∷◌, map, Option, Some, None, inl, inr, ⊎_elim, refl, sym, ap, ◌∙◌, subst, arith, eqb-true, eq-eqb}
use Rattle.lard_law_view.specs.Prelude.{AreSent, BackRow, Client, Conn, ControlBlock, Final, Front, FrontDeed, FrontEnv, FrontPart, FrontRow, Has, IsConnSound, IsFrontEnv, IsMachine, Kept, Node, NodePart, Part, Place, Said as Segment, Seen, Service, Setting, after_timer, by_front, front_begun, front_does, front_rest, front_saying, last_words, leaves_by, sent_of, spoken, tale_at, timed, tombstone, turn_here, waits_on}
use Rattle.lard_law_connections.specs.Places.{EndedBefore, IsComing, IsDecided, IsHome, IsPast, IsThere, LetterMay, MaySay, OthersArePast, Owning, Sits, StageSits, owning}
use Rattle.lard_law_connections.proofs.PlacesFront.{IsHomeAt, IsQuiet, Leads, Tells, drops-owes, front-owes, held-home, holds-owe, leads-more, messages-owe, placed-owes, plain-leads, reader, reader-in, says-owe, sits-in, waits-home}
use Rattle.lard_law_connections.proofs.PlacesGrowing.{FrontGrows, front-still, past-later}
use Rattle.lard_law_connections.proofs.PlacesHeads.{spelled-some}
use Rattle.lard_law_connections.proofs.PlacesLoops.{reads-notes}
use Rattle.lard_law_connections.proofs.PlacesRows.{IsPlain}
use Rattle.lard_law_connections.proofs.PlacesTurns.{IsPlaced, Owes}
use Rattle.lard_rules.proofs.FrontCases.{IsInStage, KeptBySegment, begun_row, begun_service, KeptByTimer, fired_before, fired_service, heard_reading, heard_service}
use Rattle.lard_rules.specs.Front.{Drops, Says, message}
use Rattle.lard_dispatch.specs.declared.dispatch.First.TheVariants as first
use Rattle.lard_handoff_front.specs.declared.row.FrontConn.TheVariants as stage
use Rattle.lard_history.proofs.Each.{Each}
use Rattle.lard_message.specs.declared.message.Body.TheVariants as body
use Rattle.lard_law_view.proofs.EndpointSends.{AllTo, ready-to}

-- ---- packets that were sent

pub has-each : {A : Type 0} (P : A → Type 0) (a : A) (xs : List A) → Has a xs → Each P xs → P a
has-each P a [] h e = absurd h
has-each P a (x ∷ xs) h e = ⊎_elim (λ (is : x ≡ a). subst P is e.0) (λ (later : Has a xs). has-each P a xs later e.1) h

-- what is held was sent, so what it says is so
pub resent-machines : (x : Conn) (place : Place) (ks : List Kept) → AreSent x place ks → Each (λ m. IsMachine m.0) (map sent_of ks)
resent-machines x place [] h = tt
resent-machines x place (k ∷ ks) h = (h.0.0, resent-machines x place ks h.1)

pub resent-tells : (x : Conn) (place : Place) (ks : List Kept) → Each (LetterMay x.part) x.letters → AreSent x place ks → Each (Tells x.part place) (map sent_of ks)
resent-tells x place [] letters h = tt
resent-tells x place (k ∷ ks) letters h =
    (has-each (LetterMay x.part) (record { from = place; to = k.to; bytes = k.bytes }) x.letters h.0.1 letters, resent-tells x place ks letters h.1)

-- ---- where an Offer came to

module _ (n e : ℕ) (w : Owning) (nodes : ℕ → NodePart) (others : OthersArePast n e nodes) where
  past-undecided : (o : Option BackRow) → IsPast e o → IsDecided e o → ⊥
  past-undecided None past h = h
  past-undecided (Some row) past h = omega (arith, past.0, h)

  -- a node that has decided is the one to which it was offered, and it took the connection
  pub decided-there : (m : ℕ) → IsComing e w (nodes n).row ⊎ IsThere n e w (nodes n).row → IsDecided e (nodes m).row → IsThere n e w (nodes n).row
  decided-there m at h = ⊎_elim
      (λ (coming : IsComing e w (nodes n).row). absurd (past-undecided (nodes m).row (any-past coming) h))
      (λ (there : IsThere n e w (nodes n).row). there) at where
        any-past : IsComing e w (nodes n).row → IsPast e (nodes m).row
        any-past coming = go (m == n) refl where
          go : (b : Bool) → (m == n) ≡ b → IsPast e (nodes m).row
          go true same = subst (λ (k : ℕ). IsPast e (nodes k).row) (sym (eqb-true m n same)) coming.2
          go false not_same = others m (λ is. let same : true ≡ false = sym (eq-eqb m n is) ∙ not_same in cc)

  pub there-decided : (o : Option BackRow) → IsThere n e w o → IsDecided e o
  there-decided None h = h
  there-decided (Some row) h = omega (arith, h.0)

-- ---- one connection

module _ (k : Setting) (x : Conn) (heads : List Seen) (quiet : IsQuiet x heads) (placed : IsPlaced x) (env : FrontEnv) (is : IsFrontEnv k x.c env) where
  abbrev p : FrontPart
  p = x.part.front

  abbrev w : Owning
  w = owning (tale_at x)

  abbrev nodes : ℕ → NodePart
  nodes = x.part.nodes

  abbrev Owed : FrontDeed → Type 0
  Owed d = Owes x (front_does x heads d)

  dropped : Owed Drops
  dropped = drops-owes x heads quiet placed

  -- where it is, once its row was found
  pub sits-row : (row : FrontRow) → p.row ≡ Some row → StageSits row.epoch.0 w nodes row.stage × EndedBefore row.epoch.0 row.ended_by
  sits-row row found = subst (Sits w nodes) found placed.sits

  -- a message to a node of which nothing is to be shown
  forwards : (n e : ℕ) (bytes : List ℕ) → Owed (Says (front_saying ((Node n, message env.serve.c e (body.Forward bytes)) ∷ [])))
  forwards n e bytes = messages-owe x heads quiet placed ((Node n, message env.serve.c e (body.Forward bytes)) ∷ []) (tt, tt)
      (subst (λ h. MaySay x.part Front (Node n) h) (sym (spelled-some _)) tt, tt)

  -- ---- a segment

  begins-owe : (s : Segment) → p.row ≡ None → Owed (front_begun env p s)
  begins-owe s none =
      let at : Sits w nodes None = subst (Sits w nodes) none placed.sits in
      let v : Owning = record { owner = Some Front; epoch = 1 } in
      let fresh : w.epoch ≡ 0 = ap (λ (u : Owning). u.epoch) at.0 in
      let free : w.owner ≡ None = ap (λ (u : Owning). u.owner) at.0 in
      let here : IsHomeAt x begun_row v = record {
        odd = refl;
        small = omega arith;
        home = (refl, λ n. past-later 0 1 (nodes n).row (omega arith) (at.1 n));
        ended = tt;
        grows = λ next le. subst (λ (o : Option FrontRow). FrontGrows nodes o (Some next)) (sym none) tt;
      } in
      says-owe x heads quiet env is.number p begun_row v here [] tt (λ next le q at. tt) (front_rest None) stage.Held (begun_service env s) [] []
      (λ b home. (refl, home)) (((is.number, omega (arith, fresh), free), tt), refl) tt

  tombstone-owes : (row : FrontRow) (last : Final) (o : Option Segment) → IsHome row.epoch.0 w nodes → Owed (Says (turn_here (tombstone env.serve o)))
  tombstone-owes row last None home = front-owes x heads quiet (by_front (turn_here (tombstone env.serve None))) p w
      (record { notes = tt; segments = inr refl; gave = tt; messages = tt; then = refl }) placed.sits (front-still nodes p.row) tt
  tombstone-owes row last (Some s) home = front-owes x heads quiet (by_front (turn_here (tombstone env.serve (Some s)))) p w
      (record {
        notes = tt;
        segments = inl ((ap Client is.number, tt), ap (λ (u : Owning). u.owner) home.0, tt);
        gave = tt;
        messages = tt;
        then = refl;
      }) placed.sits (front-still nodes p.row) tt

  -- no messages stand before what an endpoint does that is here
  abbrev NothingTold : FrontRow → Type 0
  NothingTold row = (next : FrontRow) → row.epoch.0 ≤ next.epoch.0 → (q : Part) → q.front.row ≡ Some next → Each (Tells q Front) []

  nothing-told : (row : FrontRow) → NothingTold row
  nothing-told row next le q at = tt

  waits-on : (row : FrontRow) (b : ControlBlock) → IsInStage p row (stage.Waiting b) → (s : Service) (before : List (Place × List ℕ)) → Each IsPlain s.notes
      → AllTo (Client env.serve.c) before
      → Owed (waits_on env p row (front_rest p.rest) (spoken env.serve s before))
  waits-on row b at s before plain to =
      let here : IsHomeAt x row w = waits-home x placed row b at in
      says-owe x heads quiet env is.number p row w here [] tt (nothing-told row) (front_rest p.rest) stage.Waiting s before (leaves_by env.serve.c (spoken env.serve s before).0)
      (λ c home. (here.odd, home)) (plain-leads x s.notes plain) to

  -- what was read leads to this
  abbrev pub Read : Service → Option (List ℕ) → Type 0
  Read r o = Leads x (reader p.row) r.notes

  -- it is held, so the front end owns it already
  held-reader : (row : FrontRow) (b : ControlBlock) → IsInStage p row (stage.Held b) → w ≡ reader p.row
  held-reader row b at = (held-home x placed row b at).home.0 ∙ sym (reader-in x row (stage.Held b) at)

  held-leads : (row : FrontRow) (b : ControlBlock) → IsInStage p row (stage.Held b) → (r : Service) → Leads x (reader p.row) r.notes → Leads x w r.notes
  held-leads row b at r leads = subst (λ (u : Owning). Leads x u r.notes) (sym (held-reader row b at)) leads

  pub by-segment : (bytes : List ℕ) (s : Segment) → KeptBySegment env p bytes s Read Owed
  by-segment bytes s = record {
    drops = dropped;
    begins = λ none plain. begins-owe s none;
    reads = λ row b at. reads-notes (Leads x (reader p.row)) (leads-more x (reader p.row)) env.serve (heard_reading p b s) (tt, held-reader row b at);
    holds = λ row b r at leads. holds-owe x heads quiet env is.number p row w (held-home x placed row b at) [] tt (nothing-told row) (front_rest p.rest) r (held-leads row b at r leads);
    hands = λ row b r path choice at leads same. placed-owes x heads quiet env is.number p row w (held-home x placed row b at) [] tt (nothing-told row) (front_rest p.rest) r path
        (first.Go choice) (held-leads row b at r leads);
    waits = λ row b r path at leads same. placed-owes x heads quiet env is.number p row w (held-home x placed row b at) [] tt (nothing-told row)
        (front_rest p.rest) r path first.Waits (held-leads row b at r leads);
    stays = λ row b at. waits-on row b at (heard_service p b s) [] tt tt;
    forwards = λ row n e at. forwards n e.0 bytes;
    words = λ row last at. tombstone-owes row last (last_words last.reason last s) (sits-in x placed row (stage.Closed last) at).0.1;
  }

  pub by-timer : IsConnSound x → KeptByTimer env p Owed
  by-timer sound = record {
    drops = dropped;
    holds = λ row b at. let here : IsHomeAt x row w = held-home x placed row b at in
        says-owe x heads quiet env is.number p row w here [] tt (nothing-told row) (front_rest p.rest) stage.Held (fired_service p b) (fired_before env b) []
        (λ c home. (here.odd, home)) (tt, refl) (ready-to env.serve (after_timer b) (timed b));
    stays = λ row b at. waits-on row b at (fired_service p b) (fired_before env b) tt (ready-to env.serve (after_timer b) (timed b));
    resends = λ row n e at. messages-owe x heads quiet placed (map sent_of p.kept) (resent-machines x Front p.kept sound.front)
        (resent-tells x Front p.kept placed.letters sound.front);
  }
