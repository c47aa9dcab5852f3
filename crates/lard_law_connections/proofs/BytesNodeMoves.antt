-- What a node does leaves its connection in agreement.
use Rattle.std.proofs.Common.{◌≡◌, ◌⊎◌, ◌≤◌, ◌<◌, ◌+◌, ◌==◌, ◌||◌, ◌^◌, ℕ, Bool, false, true, cond, List, [], ◌∷◌, ◌++◌, map, length, Option, Some, None, arith, refl, ap, ◌∙◌, sym, subst, inl, inr, ⊎_elim, eqb-true, eq-eqb, nat_lt, ltb-true, ltb-false}
use Rattle.std.specs.List.{list_any}
use Rattle.lard_law_view.specs.Prelude.{AreReplies, AreSent, BackRow, Body, Conn, ControlBlock, FilesAt, Front, FrontConn, FrontRow, Kept, Message, Move, Node, NodePart, NodeTurn, Part, Place, Rec, Seen, Setting, Station, Stream, Tale, Talk, Verdict, again_sent, bytes_served_in, is_reset_record, kind_of, letter, node_put_back, nothing_said, sent_of, served_in, spelled_message, stands, tale_at, with_node}
use Rattle.std.proofs.lemmas.List.{map-append}
use Rattle.lard_law_connections.specs.BytesAgreement.{IsFair, IsOffering, IsOpen, NodeAgrees, NodeTells, SeatAgrees, StageAgrees, StayComesOn}
use Rattle.lard_law_connections.specs.BytesKeeping.{EndsOfKind, NodeSays, NodeTurned}
use Rattle.lard_law_connections.proofs.BytesLaw.{Helps, IsTrueMove}
use Rattle.lard_law_connections.specs.BytesTurning.{AnswersAfter, IsNoteOf}
use Rattle.lard_law_connections.proofs.BytesClientMoves.{has-fair}
use Rattle.lard_law_connections.proofs.BytesFair.{GoesOnFairly, all-on}
use Rattle.lard_law_connections.proofs.BytesMoves.{idle-goes, move-goes, replies-fair, talk_after}
use Rattle.lard_law_connections.proofs.BytesTold.{bytes_of}
use Rattle.lard_law_connections.specs.Places.{HasEnded, IsComing, IsDecided, IsLeft, IsOver, IsPast, IsThere, LetterMay, Owning, OthersArePast, Sits, StageSits, owning}
use Rattle.lard_law_connections.proofs.PlacesFrontRules.{has-each}
use Rattle.lard_law_connections.proofs.PlacesHeads.{kinds-same}
use Rattle.lard_law_connections.proofs.PlacesTurns.{IsPlaced}
use Rattle.lard_law_view.specs.Carry.{TellsBy}
use Rattle.lard_law_view.proofs.Parts.{put-same}
use Rattle.lard_law_view.proofs.Rows.{tale_before}
use Rattle.lard_rules.specs.Front.{message}
use Rattle.lard_handoff_back.specs.declared.row.BackConn.TheVariants as back
use Rattle.lard_handoff_front.specs.declared.row.FrontConn.TheVariants as stage
use Rattle.lard_history.proofs.Each.{Each, Each-append}
use Rattle.lard_message.specs.declared.message.Body.TheVariants as body
use Rattle.lard_law_view.proofs.Growth.{goes_on-same}

-- ---- messages of a node

ends-kind : (p : Part) (n e : ℕ) (bytes : List ℕ) (b : Body) → EndsOfKind (p.nodes n) bytes (kind_of b) → NodeTells p n e bytes b
ends-kind p n e bytes (body.Ended reason snd rcv count) h = inr h
ends-kind p n e bytes (body.Give parts) h = inr h.0
ends-kind p n e bytes _ h = tt

node-fair : (k : Talk) (c n : ℕ) (p : Part) (s : Place × List ℕ) → NodeSays c (p.nodes n) s → IsFair k c p (letter (Node n) s)
node-fair k c n p s h = ⊎_elim
    (λ (to : (m : ℕ) × (s.0 ≡ Node m)). subst (λ (z : Place). IsFair k c p (record { from = Node n; to = z; bytes = s.1 })) (sym to.1) tt)
    (λ (f : (e : ℕ) × (b : Body) × (s ≡ (Front, message c e b)) × EndsOfKind (p.nodes n) s.1 (kind_of b)).
    let x : Message = record { c = c; epoch = record { 0 = f.0 }; body = f.1 } in
    subst (λ (z : Place × List ℕ). IsFair k c p (letter (Node n) z)) (sym f.2)
    (λ m d. ends-kind p n m.epoch.0 (spelled_message x) m.body (subst (EndsOfKind (p.nodes n) (spelled_message x)) (kinds-same x m d) (subst (λ (z : Place × List ℕ). EndsOfKind (p.nodes n) z.1 (kind_of f.1)) f.2 f.3))))
    h

pub all-node : (k : Talk) (c n : ℕ) (p : Part) (ss : List (Place × List ℕ)) → Each (NodeSays c (p.nodes n)) ss → Each (IsFair k c p) (map (letter (Node n)) ss)
all-node k c n p [] h = tt
all-node k c n p (s ∷ ss) h = (node-fair k c n p s h.0, all-node k c n p ss h.1)

-- ---- which node has it

abbrev pub IsAt : ℕ → FrontConn → Type 0
IsAt n (stage.Offering m d) = m ≡ n
IsAt n (stage.Moved m d) = m ≡ n
IsAt n _ = ⊥

module _ (x : Conn) (n : ℕ) (q : NodePart) where
  put-at : (m : ℕ) → m ≡ n → node_put_back x.part.nodes n q m ≡ q
  put-at m e = ap (node_put_back x.part.nodes n q) e ∙ put-same x.part.nodes n q

  -- what node n keeps anew agrees, so the connection does
  stage-with : (w out : Stream) (vs pend : List Verdict) (r : Bool) (e : ℕ) (d : FrontConn) → IsAt n d → IsDecided e q.row → NodeAgrees w out vs pend r x.c q → StageAgrees w out vs pend r x.c (with_node x.part n q) e d
  stage-with w out vs pend r e (stage.Offering m d) at decided h = inr (subst (λ (p : NodePart). IsDecided e p.row × NodeAgrees w out vs pend r x.c p) (sym (put-at m at)) (decided, h))
  stage-with w out vs pend r e (stage.Moved m d) at decided h = subst (λ (p : NodePart). IsDecided e p.row × NodeAgrees w out vs pend r x.c p) (sym (put-at m at)) (decided, h)
  stage-with w out vs pend r e _ at decided h = absurd at

  pub seat-with : (w out : Stream) (vs pend : List Verdict) (r : Bool) (row : FrontRow) → x.part.front.row ≡ Some row → IsAt n row.stage → IsDecided row.epoch.0 q.row → NodeAgrees w out vs pend r x.c q
      → SeatAgrees w out vs pend r x.c (with_node x.part n q) x.part.front.row
  seat-with w out vs pend r row found at decided h = subst (SeatAgrees w out vs pend r x.c (with_node x.part n q)) (sym found) (stage-with w out vs pend r row.epoch.0 row.stage at decided h)

  pub ends-put : ((e : ℕ) → IsOver e (x.part.nodes n).row → HasEnded e x.part.front.row) → (i e : ℕ) → IsOver e (x.part.nodes i).row → ((node_put_back x.part.nodes n q i).kept ≡ (x.part.nodes i).kept) ⊎ HasEnded e x.part.front.row
  ends-put known i e over = go (i == n) refl where
    go : (b : Bool) → (i == n) ≡ b → ((cond b q (x.part.nodes i)).kept ≡ (x.part.nodes i).kept) ⊎ HasEnded e x.part.front.row
    go true same = inr (known e (subst (λ (j : ℕ). IsOver e (x.part.nodes j).row) (eqb-true i n same) over))
    go false same = inl refl

  -- and what it keeps of its batch is on its way
  pub ways-put : (files : FilesAt) → ((i : ℕ) → StayComesOn files (x.part.nodes i).stay) → StayComesOn files q.stay → (i : ℕ) → StayComesOn files (node_put_back x.part.nodes n q i).stay
  ways-put files ways mine i = go (i == n) where
    go : (b : Bool) → StayComesOn files (cond b q (x.part.nodes i)).stay
    go true = mine
    go false = ways i

-- ---- a node that has an endpoint of it

module _ (x : Conn) (l : Talk) (pend : List Verdict) (seat : SeatAgrees l.w l.out l.vs pend l.was_reset x.c x.part x.part.front.row) (placed : IsPlaced x) (n : ℕ) where
  pub record HasIt (e : ℕ) : Type 0 where
    pub row : FrontRow
    pub found : x.part.front.row ≡ Some row
    pub at : IsAt n row.stage
    pub same : row.epoch.0 ≡ e
    pub decided : IsDecided row.epoch.0 (x.part.nodes n).row
    pub agrees : NodeAgrees l.w l.out l.vs pend l.was_reset x.c (x.part.nodes n)

  module _ (back_row : BackRow) (b : ControlBlock) (is : (x.part.nodes n).row ≡ Some back_row) (here : back_row.stage ≡ back.Here b) where
    abbrev own : Owning
    own = owning (tale_at x)

    not-left : IsLeft back_row.stage → ⊥
    not-left h = subst IsLeft here h

    not-past : (e : ℕ) → IsPast e (x.part.nodes n).row → ⊥
    not-past e h = not-left (subst (IsPast e) is h).1

    decided-here : (e : ℕ) → e ≡ back_row.epoch.0 → IsDecided e (x.part.nodes n).row
    decided-here e same = subst (IsDecided e) (sym is) (omega (arith, same))

    -- of the other nodes none has it
    is-n : (m e : ℕ) → OthersArePast m e x.part.nodes → m ≡ n
    is-n m e others = go (n == m) refl where
      go : (c : Bool) → (n == m) ≡ c → m ≡ n
      go true eq = sym (eqb-true n m eq)
      go false eq = absurd (not-past e (others n (λ same. let no : true ≡ false = sym (eq-eqb n m same) ∙ eq in cc)))

    there-epoch : (m e : ℕ) → m ≡ n → IsThere m e own (x.part.nodes m).row → back_row.epoch.0 ≡ e
    there-epoch m e same h = (subst (IsThere n e own) is (subst (λ (i : ℕ). IsThere i e own (x.part.nodes i).row) same h)).0

    at-stage : (row : FrontRow) → x.part.front.row ≡ Some row → (d : FrontConn) → row.stage ≡ d → StageSits row.epoch.0 own x.part.nodes d → StageAgrees l.w l.out l.vs pend l.was_reset x.c x.part row.epoch.0 d → HasIt back_row.epoch.0
    at-stage row found (stage.Offering m d) at sits h =
        let mine : m ≡ n = is-n m row.epoch.0 sits.2 in
        let there : IsThere m row.epoch.0 own (x.part.nodes m).row = ⊎_elim (λ (c : IsComing row.epoch.0 own (x.part.nodes m).row). absurd (not-past row.epoch.0 (subst (λ (i : ℕ). IsPast row.epoch.0 (x.part.nodes i).row) mine c.2))) (λ t. t) sits.3 in
        let same : back_row.epoch.0 ≡ row.epoch.0 = there-epoch m row.epoch.0 mine there in
        let node : NodeAgrees l.w l.out l.vs pend l.was_reset x.c (x.part.nodes n) = ⊎_elim
        (λ (a : IsPast row.epoch.0 (x.part.nodes m).row × IsOffering l.w l.out l.vs pend x.c m row.epoch.0 x.part.front.kept). absurd (not-past row.epoch.0 (subst (λ (i : ℕ). IsPast row.epoch.0 (x.part.nodes i).row) mine a.0)))
        (λ (a : IsDecided row.epoch.0 (x.part.nodes m).row × NodeAgrees l.w l.out l.vs pend l.was_reset x.c (x.part.nodes m)). subst (λ (i : ℕ). NodeAgrees l.w l.out l.vs pend l.was_reset x.c (x.part.nodes i)) mine a.1) h in
        record { row = row; found = found; at = subst (IsAt n) (sym at) mine; same = sym same; decided = decided-here row.epoch.0 (sym same); agrees = node }
    at-stage row found (stage.Moved m d) at sits h =
        let mine : m ≡ n = is-n m row.epoch.0 sits.2 in
        let same : back_row.epoch.0 ≡ row.epoch.0 = there-epoch m row.epoch.0 mine sits.3 in
        record {
          row = row;
          found = found;
          at = subst (IsAt n) (sym at) mine;
          same = sym same;
          decided = decided-here row.epoch.0 (sym same);
          agrees = subst (λ (i : ℕ). NodeAgrees l.w l.out l.vs pend l.was_reset x.c (x.part.nodes i)) mine h.1;
        }
    at-stage row found stage.Lent at sits h = absurd sits
    at-stage row found _ at sits h = absurd (not-past row.epoch.0 (sits.1.1 n))

    at-row : (o : Option FrontRow) → x.part.front.row ≡ o → Sits own x.part.nodes o → SeatAgrees l.w l.out l.vs pend l.was_reset x.c x.part o → HasIt back_row.epoch.0
    at-row None found sits h = absurd (not-past 0 (sits.1 n))
    at-row (Some row) found sits h = at-stage row found row.stage refl sits.0 h

    pub has-it : HasIt back_row.epoch.0
    has-it = at-row x.part.front.row refl placed.sits seat

    -- what was told of an earlier stay the front end knows
    pub known : (e : ℕ) → IsOver e (x.part.nodes n).row → HasEnded e x.part.front.row
    known e over =
        let it = has-it in
        let o : IsOver e (Some back_row) = subst (IsOver e) is over in
        let less : e < back_row.epoch.0 = less-than e back_row.epoch.0 o.0 (λ same. not-left (o.1 (sym same))) in
        subst (HasEnded e) (sym it.found) (omega (arith, less, it.same)) where
          less-than : (a b : ℕ) → a ≤ b → (a ≡ b → ⊥) → a < b
          less-than a b le not = go (nat_lt a b) refl where
            go : (c : Bool) → nat_lt a b ≡ c → a < b
            go true f = ltb-true a b f
            go false f = let more : b ≤ a = ltb-false a b f in absurd (not (omega (arith, le, more)))

-- ---- its moves

module _ (k : Setting) (small : k.stream ≤ 2 ^ 30) (x : Conn) (s : Station) (there : x.part.station ≡ Some s) (l : Talk) (pend : List Verdict) (o : IsOpen k.files x l pend s) (n : ℕ) (heads : List Seen) where
  -- what its notes are counted as: those of its turn, and perhaps one before them that tells nothing
  pub record Noted (c : ℕ) (all notes : List Rec) : Type 0 where
    pub each : Each (IsNoteOf c) notes → Each (IsNoteOf c) all
    pub served : Each (IsNoteOf c) notes → served_in all ≡ served_in notes
    pub size : Each (IsNoteOf c) notes → bytes_served_in all ≡ bytes_served_in notes
    pub reset : Each (IsNoteOf c) notes → list_any is_reset_record all ≡ list_any is_reset_record notes
    pub serve : Each (IsNoteOf c) notes → (t : Tale) → TellsBy (AnswersAfter k.files c) c t notes → TellsBy (AnswersAfter k.files c) c t all

  abbrev pub does_with : List Rec → NodePart × NodeTurn → Move
  does_with notes given = record {
    place = Node n;
    heads = heads;
    said = record { notes = notes; segments = given.1.segments; gave = given.1.gave; messages = given.1.messages };
    part = with_node x.part n given.0;
  }

  -- what is held of it was sent before
  sent-fair : (ks : List Kept) → AreSent x (Node n) ks → Each (IsFair l x.c x.part) (map (letter (Node n)) (map sent_of ks))
  sent-fair [] h = tt
  sent-fair (q ∷ ks) h = (has-fair (IsFair l x.c x.part) (record { from = Node n; to = q.to; bytes = q.bytes }) x.letters h.0.1 o.fair, sent-fair ks h.1)

  sent-may : (ks : List Kept) → AreSent x (Node n) ks → Each (LetterMay x.part) x.letters → Each (LetterMay x.part) (map (letter (Node n)) (map sent_of ks))
  sent-may [] h may = tt
  sent-may (q ∷ ks) h may = (has-each (LetterMay x.part) (record { from = Node n; to = q.to; bytes = q.bytes }) x.letters h.0.1 may, sent-may ks h.1 may)

  sent-append : (xs ys : List Kept) → AreSent x (Node n) xs → AreSent x (Node n) ys → AreSent x (Node n) (xs ++ ys)
  sent-append [] ys h g = g
  sent-append (q ∷ xs) ys h g = (h.0, sent-append xs ys h.1 g)

  pub again-fair : (v : Move) → Helps x v → Each (IsFair l x.c x.part) (map (letter (Node n)) (again_sent (x.part.nodes n)))
  again-fair v help = sent-fair ((x.part.nodes n).kept ++ (x.part.nodes n).fetches) (sent-append (x.part.nodes n).kept (x.part.nodes n).fetches (help.sound.kept n) (help.sound.fetches n))

  pub does-goes : (notes : List Rec) (given : NodePart × NodeTurn) (e : ℕ) → Noted x.c notes given.1.notes → bytes_of (tale_before x (does_with notes given)) ≡ bytes_of (tale_at x)
      → NodeTurned k.files x.c e (x.part.nodes n) l.w l.out l.vs l.was_reset given → (row : FrontRow) → x.part.front.row ≡ Some row → IsAt n row.stage → row.epoch.0 ≡ e
      → ((f : ℕ) → IsOver f (x.part.nodes n).row → HasEnded f x.part.front.row) → Helps x (does_with notes given) → IsTrueMove k.files x (does_with notes given)
  does-goes notes given e all quiet t row found at same known help =
      let v : Move = does_with notes given in
      let each = t.noted.each in
      let reset : list_any is_reset_record notes ≡ list_any is_reset_record given.1.notes = all.reset each in
      let back : (l.was_reset || list_any is_reset_record given.1.notes) ≡ (l.was_reset || list_any is_reset_record notes) = ap (λ b. l.was_reset || b) (sym reset) in
      let after : Talk = talk_after k.files x s there l pend o v t.out_after t.vs_after in
      let ends = ends-put x n given.0 known in
      let on : GoesOnFairly l after x.part v.part = record {
        talk = record { w = goes_on-same l.w; out = t.longer; reset = λ f. ap (λ b. b || list_any is_reset_record notes) f };
        grows = help.owes.grows;
        offers = λ i f a b. refl;
        ends = ends;
      } in
      let told : Each (IsFair after x.c v.part) (map (letter (Node n)) t.again) = ⊎_elim
      (λ (none : t.again ≡ []). subst (λ (ms : List (Place × List ℕ)). Each (IsFair after x.c v.part) (map (letter (Node n)) ms)) (sym none) tt)
      (λ (again : t.again ≡ again_sent (x.part.nodes n)). subst (λ (ms : List (Place × List ℕ)). Each (IsFair after x.c v.part) (map (letter (Node n)) ms)) (sym again)
      (all-on l after x.c x.part v.part on (map (letter (Node n)) (again_sent (x.part.nodes n)))
      (sent-may ((x.part.nodes n).kept ++ (x.part.nodes n).fetches) (sent-append (x.part.nodes n).kept (x.part.nodes n).fetches (help.sound.kept n) (help.sound.fetches n)) help.placed.letters) (again-fair v help))) t.told in
      let said : Each (IsFair after x.c v.part) (map (letter (Node n)) t.more) =
      all-node after x.c n v.part t.more (subst (λ (p : NodePart). Each (NodeSays x.c p) t.more) (sym (put-same x.part.nodes n given.0)) t.said) in
      let messages : Each (IsFair after x.c v.part) (map (letter (Node n)) given.1.messages) = subst (λ (ms : List (Place × List ℕ)). Each (IsFair after x.c v.part) (map (letter (Node n)) ms)) (sym t.messages)
      (subst (Each (IsFair after x.c v.part)) (sym (map-append (letter (Node n)) t.again t.more)) (Each-append (IsFair after x.c v.part) (map (letter (Node n)) t.again) (map (letter (Node n)) t.more) told said)) in
      move-goes k.files x s there l pend o v help
      (record { heads = quiet; station = refl; offers = λ i f a b. refl; ends = ends })
      (record {
        out_after = t.out_after;
        vs_after = t.vs_after;
        pend_after = t.pend_after;
        longer = t.longer;
        says = t.says;
        seat = subst (λ (b : Bool). SeatAgrees l.w t.out_after t.vs_after t.pend_after b x.c v.part x.part.front.row) back
            (seat-with x n given.0 l.w t.out_after t.vs_after t.pend_after (l.was_reset || list_any is_reset_record given.1.notes) row found at (subst (λ (f : ℕ). IsDecided f given.0.row) (sym same) t.decided) t.agrees);
        ways = ways-put x n given.0 k.files o.ways t.ways;
        noted = record {
          each = all.each each;
          served = t.noted.served ∙ ap (λ m. length l.vs + m) (sym (all.served each));
          size = t.noted.size ∙ ap (λ m. length l.out.bytes + m) (sym (all.size each));
          unless_ended = subst (λ (m : ℕ). (l.out.ended ≡ false) ⊎ (m ≡ 0)) (sym (all.served each)) t.noted.unless_ended;
          serve = λ u told. all.serve each u (t.noted.serve u told);
        };
        sent = subst (λ (b : Bool). AreReplies x.c l.w t.out_after b given.1.segments) back t.sent;
        letters = Each-append (IsFair after x.c v.part) (map (letter (Node n)) given.1.segments) (map (letter (Node n)) given.1.messages)
            (replies-fair after x.c v.part (Node n) (inr (n, refl)) given.1.segments (subst (λ (b : Bool). AreReplies x.c l.w t.out_after b given.1.segments) back t.sent)) messages;
      })

  -- it says this, and keeps what it kept
  pub stands-goes : (notes : List Rec) (messages : List (Place × List ℕ)) → Each (IsNoteOf x.c) notes → served_in notes ≡ 0 → bytes_served_in notes ≡ 0 → list_any is_reset_record notes ≡ false
      → bytes_of (tale_before x (stands x (Node n) heads (record nothing_said { notes = notes; messages = messages }))) ≡ bytes_of (tale_at x)
      → Each (IsFair l x.c x.part) (map (letter (Node n)) messages) → Helps x (stands x (Node n) heads (record nothing_said { notes = notes; messages = messages }))
      → IsTrueMove k.files x (stands x (Node n) heads (record nothing_said { notes = notes; messages = messages }))
  stands-goes notes messages each served size reset quiet fair help =
      let v : Move = stands x (Node n) heads (record nothing_said { notes = notes; messages = messages }) in
      move-goes k.files x s there l pend o v help
      (record { heads = quiet; station = refl; offers = λ i f a b. refl; ends = λ i f over. inl refl })
      (idle-goes k.files x s there l pend o v (record { each = each; served = served; size = size; reset = reset; seat = o.seat; ways = o.ways; sent = tt; letters = fair }))
