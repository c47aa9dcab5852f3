-- Each Ask is of its batch, in every run.
use Rattle.std.proofs.Common.{◌≡◌, ◌≤◌, ◌^◌, ℕ, Bool, true, false, cond, List, [], ◌∷◌, ◌++◌, map, Some, Ok, refl, sym, ap, ◌∙◌, subst, append_assoc, append-nil}
use Rattle.std.proofs.lemmas.List.Sums.{fold-append}
use Rattle.std.specs.List.{AllByRecursion, fold}
use Rattle.lard_base.proofs.Usable.{usable}
use Rattle.lard_law_view.specs.Prelude.{Client, Config, Conn, EachStep, Event, FilesAt, Front, FrontRules, GoesBy, HasRule, IsConnNumber, IsConnSound, IsReached, Machine, MayRestOn, Move, Node, OfEach, Packet, Place, Rec, Row, Rules, Seen, Setting, Station, Tale, Untouched, UntouchedRules, client_does, client_injects, config_check, conn, file_at, front_does, front_rule, grown, inject_seen, is_opening, is_touched, machine_start, machine_step, net_of, net_step, nothing_said, own, packet_seen, plain, rows_of, seen_in, seen_of, seen_on, seen_step, setting, stands, steps, tale_at, tale_of, tale_step, untold, whose, with_leaving}
use Rattle.lard_law_view.proofs.EachFront.{each-front}
use Rattle.lard_base.specs.declared.event.Event.TheVariants as event
use Rattle.lard_law_connections.specs.BytesAgreement.{IsTruthful}
use Rattle.lard_law_connections.proofs.BytesOwners.{Known, Knows, known}
use Rattle.lard_law_connections.proofs.BytesRuns.{states-truthful}
use Rattle.lard_law_connections.proofs.LineTelling.{stands-told}
use Rattle.lard_law_connections.proofs.OffersSent.{own-sends}
use Rattle.lard_law_connections.proofs.PlacesLaw.{owing}
use Rattle.lard_law_connections.proofs.PlacesRuns.{each-placed}
use Rattle.lard_law_connections.proofs.PlacesTurns.{IsPlaced}
use Rattle.lard_law_connections.proofs.PlacesTurns as places
use Rattle.lard_laws.specs.Sizes.{AsksTo, BatchesHaveTheirSize, BodyIsOfBatch, SizeMarks, MayAsk, MustSize, size_marks, read_at, read_before, requests_read_by, requests_read}
use Rattle.lard_laws.proofs.SizesDone.{now-reads}
use Rattle.lard_laws.proofs.SizesMoving.{AllFit, IsNoNode, IsSaid, IsTelling, Reaches, SeenFits, SentFits, all-fit, else-said, else-sends, marks_now, seen_marks}
use Rattle.lard_laws.proofs.SizesNodes.{Owed, nodes, stands-said}
use Rattle.lard_laws.proofs.SizesTaken.{take-own}
use Rattle.lard_laws.proofs.SizesTurns.{Reads, reads-reach}
use Rattle.lard_law_connections.proofs.StopsRuns.{connections-stop}
use Rattle.lard_law_view.proofs.After.{IsAfter, step-after}
use Rattle.lard_law_view.proofs.Carried.{IsOn, carried-keep, goes-on, gone, may-move}
use Rattle.lard_law_view.proofs.Fine.{IsFine, IsItsOwn, fine}
use Rattle.lard_law_view.proofs.Frames.{IsAtClient, clients-leave}
use Rattle.lard_law_view.proofs.Guarded.{node-weaker, untouched-before, untouched-both, untouched-weaker}
use Rattle.lard_law_view.proofs.InSteps.{seen-step}
use Rattle.lard_law_view.proofs.Naming.{Names, decoded-names}
use Rattle.lard_law_view.proofs.Runs.{passes-more, start-blank}
use Rattle.lard_laws.specs.WaysState.{GoesItsWay}
use Rattle.lard_laws.proofs.WaysRuns as ways
use Rattle.lard_rules.specs.Front as front
use Rattle.lard_history.proofs.Each.{Each}
use Rattle.lard_history.proofs.Lifting.{tale-own}
use Rattle.lard_history.proofs.Seeing.{own-append, same_number, seen-mine}
use Rattle.lard_history.proofs.Stepping.{AreInside, AreLawful, IsOneStep, one-more}
use Rattle.lard_history.proofs.Tales.{numbers-tale, owner-tale, served-tale, touched-tale, wrote-tale}
use Rattle.lard_journal.specs.declared.rec.Rec.TheVariants as rec
use Rattle.lard_law_view.proofs.Untouched.{touched-stays}

-- ---- a packet that the schedule puts on the way touches its connection

injected-touches : (x : Conn) (s : Station) (bytes : List ℕ) → (tale_at (grown x (client_does x s (inject_seen x.c bytes) (client_injects s.client bytes)))).touched ≡ true
injected-touches x s bytes =
    let v : Move = client_does x s (inject_seen x.c bytes) (client_injects s.client bytes) in
    let u : Tale = fold (seen_step (tale_step x.c)) (tale_at x) (inject_seen x.c bytes) in
    let now : u.touched ≡ true = ap (λ b. cond b true (tale_at x).touched) (same_number x.c) in
    ap (λ (t : Tale). t.touched) (fold-append (seen_step (tale_step x.c)) untold x.seen (seen_in x v) ∙ fold-append (seen_step (tale_step x.c)) (tale_at x) v.heads (map Row (rows_of x v)))
    ∙ touched-stays x.c u (map Row (rows_of x v)) now

-- ---- the other places

module _ (k : Setting) (small : k.stream ≤ 2 ^ 30) where
  -- what is owed of a move, by what is known of it
  abbrev Rest : Conn → Move → Type 0
  Rest x v = Known x v → IsTruthful k.files x → GoesItsWay k.files x → IsItsOwn x v → places.Owes x v → IsPlaced x → IsTelling k.files x → (u : ℕ) → Reads u x → IsSaid k.files u x v

  abbrev Wants : Conn → Move → Type 0
  Wants x v = IsConnNumber x.c → IsConnSound x → Rest x v

  client-wants : (x : Conn) (v : Move) → IsAtClient x v → Rest x v
  client-wants x v at more truth g own owes placed h u reads = else-said k.files x v own owes placed more.heads (subst IsNoNode (sym at.client) tt) at.keeps.1 h u reads

  front-wants : (x : Conn) (heads : List Seen) (d : front.FrontDeed) → Wants x (front_does x heads d)
  front-wants x heads front.Drops number sound more truth g own owes placed h u reads = else-said k.files x (front_does x heads front.Drops) own owes placed more.heads tt refl h u reads
  front-wants x heads (front.Says turn) number sound more truth g own owes placed h u reads = else-said k.files x (front_does x heads (front.Says turn)) own owes placed more.heads tt refl h u reads
  front-wants x heads (front.Does did) number sound more truth g own owes placed h u reads = else-said k.files x (front_does x heads (front.Does did)) own owes placed more.heads tt refl h u reads

  fronts : FrontRules k Wants
  fronts = each-front k Wants (λ x env heads g is comes. front-wants x heads (front_rule env x.part.front g))

  -- a packet comes, and nothing is done
  ignores-want : (x : Conn) (from to : Place) (bytes : List ℕ) → Wants x (stands x to (packet_seen from to bytes) nothing_said)
  ignores-want x from Front bytes number sound more truth g own owes placed h u reads = else-said k.files x (stands x Front (packet_seen from Front bytes) nothing_said) own owes placed more.heads tt refl h u reads
  ignores-want x from (Client d) bytes number sound more truth g own owes placed h u reads = else-said k.files x (stands x (Client d) (packet_seen from (Client d) bytes) nothing_said) own owes placed more.heads tt refl h u reads
  ignores-want x from (Node n) bytes number sound more truth g own owes placed h u reads = stands-said k.files x n u reads (packet_seen from (Node n) bytes) [] [] (tt, tt) refl tt refl tt tt own owes placed h

  wants : UntouchedRules k Wants
  wants = record {
    client = clients-leave k Rest (λ x v at own number sound. client-wants x v at);
    front = fronts;
    node = node-weaker k (Owed k small) Wants (λ x v h number sound more. h number sound) (nodes k small);
    ignores = λ x from to bytes was. ignores-want x from to bytes;
  }

  -- ---- what is so of each move

  abbrev Owes : Conn → Move → Type 0
  Owes x v = MayRestOn IsPlaced x → IsPlaced x → places.Owes x v

  abbrev pub Given : Conn → Type 0
  Given x = IsPlaced x × Untouched (IsTruthful k.files) x × Untouched (GoesItsWay k.files) x

  abbrev All : Conn → Move → Type 0
  All x v = ((IsFine x v × Owes x v) × Knows x v) × Wants x v

  all : UntouchedRules k All
  all = untouched-both k (λ x v. (IsFine x v × Owes x v) × Knows x v) Wants (untouched-both k (λ x v. IsFine x v × Owes x v) Knows (untouched-both k IsFine Owes (fine k).untouched (owing k IsPlaced).untouched) (known k)) wants

  -- behind it the client was told all that came, and so many requests were read, u before it
  abbrev pub Lands : ℕ → Conn → Type 0
  Lands u x = IsTelling k.files x × Reaches u x

  -- what its Asks say is so, and it lands, unless the schedule touched the connection
  abbrev pub Says : Conn → Move → Type 0
  Says x v = MayRestOn Given x → (tale_at x).touched ≡ false → IsTelling k.files x → (u : ℕ) → Reads u x → AllFit k.files u x v × Untouched (Lands u) (grown x v)

  said : (x : Conn) (v : Move) → All x v → Says x v
  said x v h may untouched telling u reads =
      let placed : MayRestOn IsPlaced x = record { number = may.number; sound = may.sound; given = may.given.0 } in
      let own : IsItsOwn x v = (h.0.0.0 may.number may.sound).0 in
      let it : IsSaid k.files u x v = h.1 may.number may.sound (h.0.1 placed own) (may.given.1 untouched) (may.given.2 untouched) own (h.0.0.1 placed may.given.0) may.given.0 telling u reads in
      (it.1, λ e. (it.0, it.2))

  injects-say : (x : Conn) (s : Station) (bytes : List ℕ) → x.part.station ≡ Some s → HasRule (event.Inject x.c bytes) → Says x (client_does x s (inject_seen x.c bytes) (client_injects s.client bytes))
  injects-say x s bytes there rule may untouched telling u reads =
      let v : Move = client_does x s (inject_seen x.c bytes) (client_injects s.client bytes) in
      let own : IsItsOwn x v = ((fine k).injects x s bytes there rule may.number may.sound).0 in (
        all-fit k.files u x v own (tt, (tt, tt)) (else-sends k.files x.c u x.seen (seen_in x v) (Client x.c) tt v.said.segments) (else-sends k.files x.c u x.seen (seen_in x v) (Client x.c) tt v.said.messages),
        λ e. let no : true ≡ false = sym (injected-touches x s bytes) ∙ e in absurd cc,
      )

  pub all-say : Rules k Says
  all-say = record { untouched = untouched-weaker k All Says said all; injects = injects-say }

-- ---- from what connections see to the journal

marks-own : (J : List Rec) (c : ℕ) → seen_marks c (own c J) ≡ size_marks J c
marks-own J c =
    let tale_is : tale_of c (own c J) ≡ _ = sym (tale-own J c) in
    λ i. record {
      numbers = (ap (λ (t : Tale). t.numbers) tale_is ∙ sym (numbers-tale J c)) i;
      wrote = (ap (λ (t : Tale). t.wrote) tale_is ∙ sym (wrote-tale J c)) i;
      served = (ap (λ (t : Tale). t.served) tale_is ∙ sym (served-tale J c)) i;
      taken = (sym (take-own c J) i).taken;
      told = sym ((stands-told c J).told_is) i;
    }

module _ (files : FilesAt) (past step : List Rec) where
  abbrev seen_now : ℕ → List Seen
  seen_now c = seen_on c (net_of past) step

  -- what it sees of a record may be
  abbrev Sees : ℕ → Rec → Type 0
  Sees c r = whose r ≡ Some c → SeenFits files c (requests_read past c) (own c past) (seen_now c) (Row (plain r))

  each-first : (P : Seen → Type 0) (xs ys : List Seen) → Each P (xs ++ ys) → Each P xs × Each P ys
  each-first P [] ys h = (tt, h)
  each-first P (x ∷ xs) ys h = let rest = each-first P xs ys h.1 in ((h.0, rest.0), rest.1)

  each-sees : (c : ℕ) (net : List Packet) (rs : List Rec) → Each (SeenFits files c (requests_read past c) (own c past) (seen_now c)) (seen_on c net rs) → Each (Sees c) rs
  each-sees c net [] h = tt
  each-sees c net (r ∷ rs) h =
      let P : Seen → Type 0 = SeenFits files c (requests_read past c) (own c past) (seen_now c) in
      let parts = each-first P (seen_of c net r) (seen_on c (net_step net r) rs) h in
      (λ mine. (subst (Each P) (seen-mine c net r mine) parts.0).0, each-sees c (net_step net r) rs parts.1)

  asks-to : (from to : Place) (bytes : List ℕ) → ((c : ℕ) → is_touched past c ≡ false → Sees c (rec.Sent 0 from to bytes)) → AsksTo files past step from to bytes
  asks-to (Node n) Front bytes h = λ m d u new.
      let names : Names bytes m.c = decoded-names m bytes d in
      let now : seen_marks m.c (own m.c past ++ seen_now m.c) ≡ size_marks (past ++ step) m.c = ap (seen_marks m.c) (sym (own-append m.c past step)) ∙ marks-own (past ++ step) m.c in
      let fits : SentFits files m.c (requests_read past m.c) (own m.c past) (seen_now m.c) (Node n) Front bytes = h m.c u names.named in
      let seen = fits (λ s. new (own-sends (Node n) Front bytes m.c past s)) m d in
      subst (λ (t : SizeMarks). BodyIsOfBatch files (requests_read past m.c) t m.body) now seen
  asks-to _ _ bytes h = tt

  may-ask : (r : Rec) → ((c : ℕ) → is_touched past c ≡ false → Sees c r) → MayAsk files past step r
  may-ask (rec.Sent k from to bytes) h = asks-to from to bytes h
  may-ask _ h = tt

  collect : (rs : List Rec) → ((c : ℕ) → is_touched past c ≡ false → Each (Sees c) rs) → AllByRecursion (MayAsk files past step) rs
  collect [] h = tt
  collect (r ∷ rs) h = (may-ask r (λ c u. (h c u).0), collect rs (λ c u. (h c u).1))

  pub must-size : ((c : ℕ) → (tale_of c (own c past)).touched ≡ false → Each (SeenFits files c (requests_read past c) (own c past) (seen_now c)) (seen_now c)) → MustSize files past step
  must-size h = collect step (λ c u. each-sees c (net_of past) step (h c (ap (λ (t : Tale). t.touched) (sym (tale-own past c)) ∙ sym (touched-tale past c) ∙ u)))

-- ---- how many requests were read, step by step

module _ (c : ℕ) where
  before-append : (u : ℕ) (past J s : List Rec) → read_before c u past (J ++ s) ≡ read_before c (read_before c u past J) (past ++ J) s
  before-append u past [] s = ap (λ (l : List Rec). read_before c u l s) (sym (append-nil past))
  before-append u past (r ∷ J) s =
      let v : ℕ = cond (is_opening r) (read_at c u past) u in
      before-append v (past ++ r ∷ []) J s ∙ ap (λ (l : List Rec). read_before c (read_before c v (past ++ r ∷ []) J) l s) (append_assoc past (r ∷ []) J)

  inside-same : (u : ℕ) (past rs : List Rec) → AreInside rs → read_before c u past rs ≡ u
  inside-same u past [] h = refl
  inside-same u past (r ∷ rs) h = ap (λ (b : Bool). read_before c (cond b (read_at c u past) u) (past ++ r ∷ []) rs) h.0 ∙ inside-same u (past ++ r ∷ []) rs h.1

  one-read : (J s : List Rec) → IsOneStep s → read_before c 0 [] (J ++ s) ≡ requests_read J c
  one-read J [] o = absurd o
  one-read J (r ∷ rs) o =
      let v : ℕ = read_before c 0 [] J in
      before-append 0 [] J (r ∷ rs) ∙ ap (λ (b : Bool). read_before c (cond b (read_at c v J) v) (J ++ r ∷ []) rs) o.0 ∙ inside-same (requests_read J c) (J ++ r ∷ []) rs o.1

  reads-more : (J s : List Rec) → IsOneStep s → requests_read (J ++ s) c ≡ read_at c (requests_read J c) (J ++ s)
  reads-more J s o = ap (λ (u : ℕ). read_at c u (J ++ s)) (one-read J s o)

-- ---- every run

module _ (config : Config) (files : List (List ℕ × List ℕ)) (checked : config_check config ≡ Ok tt) where
  abbrev k : Setting
  k = setting config files

  small : k.stream ≤ 2 ^ 30
  small = (usable config checked).stream

  each-given : OfEach config files (Given k small)
  each-given m r q = (each-placed config files checked m r q, states-truthful config files checked m r q, (ways.each-guarded config files checked m r q).0)

  -- what is known in each state
  abbrev IsAsRead : ℕ → Conn → Type 0
  IsAsRead u x = IsTelling k.files x × Reads u x

  abbrev IsKnownOf : Machine → Type 0
  IsKnownOf m = (q : ℕ) → Untouched (IsAsRead (requests_read m.journal q)) (conn m q)

  at-conn : (u : ℕ) (n : Machine) (q : ℕ) → read_at q u n.journal ≡ requests_read_by (tale_at (conn n q)).owner u (marks_now (conn n q))
  unfolding conn
  at-conn u n q = λ i. requests_read_by ((owner-tale n.journal q ∙ ap (λ (t : Tale). t.owner) (tale-own n.journal q)) i) u (sym (marks-own n.journal q) i)

  module _ (m n : Machine) (e : Event) (on : IsOn config files m) (known_of : IsKnownOf m) (rule : HasRule e) (is : machine_step m e ≡ Ok n) where
    abbrev Does : Conn → Move → Type 0
    Does x v = IsConnNumber x.c × Says k small x v

    module _ (q : ℕ) where
      abbrev u : ℕ
      u = requests_read m.journal q

      goes : GoesBy Does (conn m q) (conn n q)
      goes = goes-on config files (Says k small) (λ l. all-say (with_leaving k l) small) m n e on rule is q

      says : (v : Move) → Does (conn m q) v → (tale_at (conn m q)).touched ≡ false → AllFit k.files u (conn m q) v × Untouched (Lands k small u) (grown (conn m q) v)
      says v does t = let h = known_of q t in does.1 (may-move (Given k small) (conn m q) does.0 (on.view.sound q) (each-given m on.reached q)) t h.0 u h.1

      lands : Untouched (Lands k small u) (conn n q)
      lands = gone (Untouched (Lands k small u)) Does (conn m q) (conn n q)
          (λ t. let h = known_of q t in (h.0, λ i. reads-reach u (tale_at (conn m q)).wrote ((conn m q).part.nodes i).stay ((conn m q).part.nodes i).row (h.1.here i)))
          (λ v does t. (says v does (untouched-before (conn m q) v t)).1 t) goes

      now-known : IsAfter m e n → Untouched (IsAsRead (requests_read n.journal q)) (conn n q)
      now-known s t =
          let r : IsReached config files n = (on.reached.0 ++ e ∷ [], passes-more on.reached.0 (machine_start config files) m n e on.reached.1 rule is) in
          let given : Given k small (conn n q) = each-given n r q in
          let land : Lands k small u (conn n q) = lands t in
          let more : requests_read n.journal q ≡ read_at q u n.journal = ap (λ (J : List Rec). requests_read J q) s.is ∙ reads-more q m.journal s.step s.one ∙ ap (read_at q u) (sym s.is) in
          let now : Reads (requests_read_by (tale_at (conn n q)).owner u (marks_now (conn n q))) (conn n q) = now-reads k.files (conn n q) (given.1 t) given.0 (connections-stop config files n r q) land.0 u land.1 in
          (land.0, subst (λ (i : ℕ). Reads i (conn n q)) (sym (more ∙ at-conn u n q)) now)

      step-fits : (s : IsAfter m e n) → (tale_of q (own q m.journal)).touched ≡ false → Each (SeenFits k.files q u (own q m.journal) (seen_on q (net_of m.journal) s.step)) (seen_on q (net_of m.journal) s.step)
      unfolding conn
      step-fits s = seen-step Does (λ ss. (tale_of q (own q m.journal)).touched ≡ false → Each (SeenFits k.files q u (own q m.journal) ss) ss) m n s.step q s.is (λ t. tt) (λ v does t. (says v does t).0) goes

  start-known : IsKnownOf (machine_start config files)
  start-known q = subst (Untouched (IsAsRead (requests_read [] q))) (sym (start-blank config files q))
      (λ t. (record { seen = λ l has. absurd has; left = λ n. tt }, record { here = λ n. tt; away = λ h. refl }))

  -- and each step so far is as it must be
  record IsSoFar (m : Machine) : Type 0 where
    known : IsKnownOf m
    lawful : AreLawful (MustSize (file_at files)) m.journal

  pub sizes : (m : Machine) → IsReached config files m → EachStep (MustSize (file_at files)) [] (steps m.journal)
  sizes m r = (carried-keep config files IsSoFar (record { known = start-known; lawful = (refl, tt) })
      (λ k n e on h rule is.
      let shape : IsAfter k e n = step-after k on.view e n rule is in record {
        known = λ q. now-known k n e on h.known rule is q shape;
        lawful = subst (AreLawful (MustSize (file_at files))) (sym shape.is)
            (one-more (MustSize (file_at files)) k.journal shape.step shape.one h.lawful (must-size (file_at files) k.journal shape.step (λ q t. step-fits k n e on h.known rule is q shape t)));
      })
      m r).lawful.1

pub batches-sized : BatchesHaveTheirSize
batches-sized config files m checked r = sizes config files checked m r
