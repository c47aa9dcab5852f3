-- What comes to the front end from nodes, and who is admitted, leaves a connection in agreement.
use Rattle.std.proofs.Common.{◌≡◌, ◌≤◌, ◌^◌, ℕ, List, Option, Some, None, arith, refl, ◌∙◌, sym, subst, inl, ⊎_elim}
use Rattle.lard_law_view.specs.Prelude.{AskedBy, BackRow, Conn, EndedBy, Epoch, FilesAt, Front, FrontAdmits, FrontDeed, FrontEnv, FrontFires, FrontGets, FrontHears, FrontPart, FrontRow, IsFrontEnv, Move, Node, Seen, Setting, Station, Talk, Verdict, Was, front_does, front_rule, taken_by, tale_at}
use Rattle.lard_law_connections.specs.BytesAgreement.{AwayAgrees, ConnAgrees, IsInner, IsOpen, IsTruthful, IsConnUnopened, NodeAgrees, SeatAgrees, StageAgrees}
use Rattle.lard_law_connections.proofs.BytesLaw.{Helps, IsTrueMove}
use Rattle.lard_law_connections.proofs.BytesClientMoves.{has-fair}
use Rattle.lard_law_connections.proofs.BytesMoves.{idle-goes, move-goes}
use Rattle.lard_law_connections.proofs.BytesTold.{bytes_of}
use Rattle.lard_law_connections.specs.Places.{IsDecided, IsPast, IsThere, Sits, StageSits, owning}
use Rattle.lard_law_connections.proofs.PlacesFrontRules.{decided-there, there-decided}
use Rattle.lard_law_view.proofs.Rows.{tale_before}
use Rattle.lard_handoff_front.specs.declared.row.FrontConn.TheVariants as stage
use Rattle.lard_rules.proofs.FrontCases.{admitted-keeps}
use Rattle.lard_law_view.proofs.EachFront.{FrontComes}

-- ---- its client opened

pub opened-at : (files : FilesAt) (x : Conn) (h : IsTruthful files x) → (IsConnUnopened x → ⊥) → (s : Station) × (x.part.station ≡ Some s)
opened-at files x h not = go x.part.station refl h.agrees where
  go : (o : Option Station) → x.part.station ≡ o → ConnAgrees files x h.talk h.pend o → (s : Station) × (x.part.station ≡ Some s)
  go None e u = absurd (not u)
  go (Some s) e u = (s, e)

-- of one that did not, nothing comes to the front end
pub node-opens : (x : Conn) (n : ℕ) (bytes : List ℕ) → Was x (Node n) Front bytes → IsConnUnopened x → ⊥
node-opens x n bytes was u = (has-fair IsInner (record { from = Node n; to = Front; bytes = bytes }) x.letters was u.inner).1

pub past-undecided : (e : ℕ) (o : Option BackRow) → IsPast e o → IsDecided e o → ⊥
past-undecided e None past h = h
past-undecided e (Some row) past h = omega (arith, past.0, h)

-- ---- a Taken

module _ (k : Setting) (small : k.stream ≤ 2 ^ 30) (x : Conn) (s : Station) (there : x.part.station ≡ Some s) (l : Talk) (pend : List Verdict) (o : IsOpen k.files x l pend s) (heads : List Seen) where
  abbrev p : FrontPart
  p = x.part.front

  abbrev Goes : FrontDeed → Type 0
  Goes d = Helps x (front_does x heads d) → IsTrueMove k.files x (front_does x heads d)

  module _ (quiet : (d : FrontDeed) → bytes_of (tale_before x (front_does x heads d)) ≡ bytes_of (tale_at x)) where
    pub taken-moves : (row : FrontRow) (n : ℕ) (d : Epoch) (epoch m : ℕ) → p.row ≡ Some row → row.stage ≡ stage.Offering n d → d.0 ≡ epoch → IsDecided epoch (x.part.nodes m).row → Goes (taken_by p epoch (Some row) (Some n))
    taken-moves row n d epoch m found at same decided help =
        let v : Move = front_does x heads (taken_by p epoch (Some row) (Some n)) in
        let sits : StageSits row.epoch.0 (owning (tale_at x)) x.part.nodes (stage.Offering n d) = subst (StageSits row.epoch.0 (owning (tale_at x)) x.part.nodes) at (subst (Sits (owning (tale_at x)) x.part.nodes) found help.placed.sits).0 in
        let now : IsDecided row.epoch.0 (x.part.nodes m).row = subst (λ (e : ℕ). IsDecided e (x.part.nodes m).row) (sym same ∙ sits.1) decided in
        let is : IsThere n row.epoch.0 (owning (tale_at x)) (x.part.nodes n).row = decided-there n row.epoch.0 (owning (tale_at x)) x.part.nodes sits.2 m sits.3 now in
        let here : IsDecided row.epoch.0 (x.part.nodes n).row = there-decided n row.epoch.0 (owning (tale_at x)) x.part.nodes sits.2 (x.part.nodes n).row is in
        let seat : AwayAgrees l.w l.out l.vs pend l.was_reset x.c n row.epoch.0 x.part =
        subst (StageAgrees l.w l.out l.vs pend l.was_reset x.c x.part row.epoch.0) at (subst (SeatAgrees l.w l.out l.vs pend l.was_reset x.c x.part) found o.seat) in
        let node : NodeAgrees l.w l.out l.vs pend l.was_reset x.c (x.part.nodes n) = ⊎_elim
        (λ (a : IsPast row.epoch.0 (x.part.nodes n).row × _). absurd (past-undecided row.epoch.0 (x.part.nodes n).row a.0 here))
        (λ (a : IsDecided row.epoch.0 (x.part.nodes n).row × NodeAgrees l.w l.out l.vs pend l.was_reset x.c (x.part.nodes n)). a.1) seat in
        move-goes k.files x s there l pend o v help
        (record { heads = quiet (taken_by p epoch (Some row) (Some n)); station = refl; offers = λ i e a b. absurd b; ends = λ i e over. inl refl })
        (idle-goes k.files x s there l pend o v (record { each = tt; served = refl; size = refl; reset = refl; seat = (here, node); ways = o.ways; sent = tt; letters = tt }))

-- ---- its client

-- what is so where its client opened, by the numbers of that, is so of each rule: the others have none
module _ (k : Setting) (P : Conn → Move → Type 0)
    (opened : (x : Conn) (s : Station) (env : FrontEnv) (heads : List Seen) (g : FrontGets) → x.part.station ≡ Some s → env.iss ≡ s.iss → IsFrontEnv k x.c env → FrontComes x env heads g → IsTruthful k.files x → P x (front_does x heads (front_rule env x.part.front g))) where
  station-of : (x : Conn) (env : FrontEnv) (heads : List Seen) (g : FrontGets) → FrontComes x env heads g → IsTruthful k.files x
      → (s : Station) × (x.part.station ≡ Some s)
  station-of x env heads (FrontHears bytes given) comes h = (comes.station, comes.there)
  station-of x env heads FrontFires comes h = (comes.station, comes.there)
  station-of x env heads (AskedBy n epoch ask) comes h = opened-at k.files x h (node-opens x n comes.told.bytes comes.told.was)
  station-of x env heads (EndedBy n epoch last) comes h = opened-at k.files x h (node-opens x n comes.told.bytes comes.told.was)
  station-of x env heads (FrontAdmits choice given) comes h = admitted-keeps env x.part.front choice (λ y. (s : Station) × (x.part.station ≡ Some s))
      (λ row b path at target. opened-at k.files x h (λ u. let no : Some row ≡ None = sym at.0 ∙ u.front in absurd cc)) given comes.is
  station-of x env heads g comes h = opened-at k.files x h (node-opens x _ comes.bytes comes.was)

  module _ (x : Conn) (s : Station) (env : FrontEnv) (is : IsFrontEnv k x.c env) where
    abbrev same : FrontEnv
    same = record env { iss = s.iss }

    same-is : IsFrontEnv k x.c same
    same-is = record { place = is.place; number = is.number; files = is.files; stream = is.stream }

  pub where-opened : (x : Conn) (env : FrontEnv) (heads : List Seen) (g : FrontGets) → IsFrontEnv k x.c env → FrontComes x env heads g → IsTruthful k.files x
      → P x (front_does x heads (front_rule env x.part.front g))
  where-opened x env heads (FrontHears bytes given) is comes h = opened x comes.station env heads (FrontHears bytes given) comes.there comes.iss_is is comes h
  where-opened x env heads (FrontAdmits choice given) is comes h =
      let s = station-of x env heads (FrontAdmits choice given) comes h in
      opened x s.0 (same x s.0 env is) heads (FrontAdmits choice given) s.1 refl (same-is x s.0 env is) (record { is = comes.is; seen = comes.seen }) h
  where-opened x env heads g is comes h =
      let s = station-of x env heads g comes h in
      opened x s.0 (same x s.0 env is) heads g s.1 refl (same-is x s.0 env is) comes h
