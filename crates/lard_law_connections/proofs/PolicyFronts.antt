-- What the front end notes of a connection is what its dispatcher does.
use Rattle.std.proofs.Common.{◌≡◌, ℕ, ◌+◌, ◌≤◌, ◌<◌, ◌==◌, Bool, true, false, cond, List, [], ◌∷◌, ◌++◌, Option, Some, None, Result, Ok, Err, refl, sym, ap, subst, ◌∙◌, arith, length}
use Rattle.std.proofs.lemmas.Bool.{eq-eqb, eqb-false, eqb-true, ne_eqb}
use Rattle.lard_law_view.specs.Prelude.{Ask, ControlBlock, Did, DispatchStanding, Dispatcher, Ending, First, FirstChoice, FrontDeed, FrontEnv, FrontPart, FrontRest, FrontRow, FrontTurn, IsDispatcherSound, IsPartSound, IsRowSound, Later, Millis, Rec, Said, SegFault, Service, Turn, Waiting, admitted, admitted_with, after_calls, after_first, ask_of, assigned_notes, assigns, batch_over, choice_at, dispatch_standing, first_answer, front_asked, front_fired, front_gets, front_hears, front_rest, front_rests, front_taken, front_timer, holds, home, is_full, last_words, later_answer, leaves_by, line_waits, line_without, nowhere, over_note, placed, room_of, serving_settled, settled_by, spoken, tombstone, turn_here, waits_on}
use Rattle.lard_law_connections.proofs.PolicyAsides.{IsAside}
use Rattle.lard_law_connections.proofs.PolicyIns.{AreIn}
use Rattle.lard_law_connections.proofs.PolicyLeading.{Leads, admit-leads, aside-leads, behind-asides, later-leads, line-shared, wait-leads}
use Rattle.lard_law_connections.proofs.PolicyLines.{AreLined, lined-absent, lined-more, lined-same, lined-without, target_of}
use Rattle.lard_law_connections.proofs.PolicyOrder.{IsNeither, IsOrdered, alone-ordered, aside-neither, assigned-neither, none-ordered, over-neither}
use Rattle.lard_law_connections.proofs.PolicyReading.{reads-notes, settled-notes}
use Rattle.lard_law_connections.proofs.PolicyWaiting.{IsIdle, Leaves, asides-idle, assigned-idle, idle-leaves, left-leaves, over-idle, waits-leaves}
use Rattle.lard_dispatch.specs.declared.dispatch.First.TheVariants as first
use Rattle.lard_dispatch.specs.Laws as call
use Rattle.lard_dispatch.proofs.Soundness.{not-in}
use Rattle.lard_rules.specs.Front.{Drops, Says, Does}
use Rattle.lard_rules.specs.FrontSound.{OpenNodes, open_nodes_of}
use Rattle.lard_rules.proofs.FrontDeeds.{IsOf, row-at}
use Rattle.lard_handoff_front.specs.declared.row.FrontConn.TheVariants as stage
use Rattle.lard_history.proofs.Each.{Each, Each-append, Each-weaker}
use Rattle.lard_history.proofs.Seeing.{by_number}
use Rattle.lard_journal.specs.declared.rec.Rec.TheVariants as rec
use Rattle.lard_rules.specs.declared.places.Ending.TheVariants.{Here, Over}
use Rattle.lard_rules.proofs.FrontCases.{KeptBySegment, IsInStage, of-stage, begun_row, begun_service, heard_reading, heard_service, segment-keeps, timer-keeps, taken-keeps, asked-keeps}

-- What is noted of connection c is what the dispatcher does, and who is in the line waits as it is told. Nobody is passed over: a line stands only
-- where there is no room, and none of that is taken then.
pub record Tells (d : Dispatcher) (c : ℕ) (now : Millis) (ins : List ℕ) (p : FrontPart) (x : Did) : Type 0 where
  pub leads : Leads d.config now ins d.books x.turn.notes (after_calls d x.calls).books
  pub gave : Each IsAside x.turn.gave
  pub ordered : (line : List Waiting) → (0 < length line → admitted d.books.loads ≡ room_of d.config) → IsOrdered line x.turn.notes
  pub waits : Leaves d.books.line x.turn.notes (after_calls d x.calls).books.line
  pub lines : (t u : ℕ → Option (List ℕ)) → ((q : ℕ) → (q ≡ c → ⊥) → u q ≡ t q) → t c ≡ target_of p.rest → u c ≡ target_of x.part.rest
      → AreLined t d.books.line → AreLined u (after_calls d x.calls).books.line

asides-ordered : (line : List Waiting) (notes : List Rec) → Each IsAside notes → IsOrdered line notes
asides-ordered line notes asides = none-ordered line notes (Each-weaker IsAside IsNeither aside-neither notes asides)

asides-leave : (line : List Waiting) (notes : List Rec) → Each IsAside notes → Leaves line notes line
asides-leave line notes asides = idle-leaves line notes (asides-idle notes asides)

-- where nothing but the turn is done, it notes and gives up nothing
pub record IsMute (t : FrontTurn) : Type 0 where
  pub notes : t.notes ≡ []
  pub gave : t.gave ≡ []

abbrev pub DeedTells : Dispatcher → ℕ → Millis → List ℕ → FrontPart → FrontDeed → Type 0
DeedTells d c now ins p Drops = Unit {0}
DeedTells d c now ins p (Says turn) = IsMute turn
DeedTells d c now ins p (Does x) = Tells d c now ins p x

-- all others have what they had, and so has this one
same-all : (c : ℕ) (t u : ℕ → Option (List ℕ)) (o : Option (List ℕ)) → ((q : ℕ) → (q ≡ c → ⊥) → u q ≡ t q) → t c ≡ o → u c ≡ o → (q : ℕ) → u q ≡ t q
same-all c t u o others was is q = by_number (u q ≡ t q) q c (λ e. ap u e ∙ is ∙ sym was ∙ ap t (sym e)) (others q)

module _ (d : Dispatcher) (ins : List ℕ) (in_ : AreIn ins d.books.loads.standings) where
  -- ---- an endpoint that is here

  -- one that does not wait is held on, or ended
  pub holds-tells : (c : ℕ) (now : Millis) (p : FrontPart) (row : FrontRow) (rest : FrontRest) (given : Ending × Turn) → line_waits d.books.line c ≡ false → Each IsAside given.1.notes
      → DeedTells d c now ins p (holds p row rest given)
  holds-tells c now p row rest given free asides = record {
    leads = aside-leads d.config now ins d.books in_ given.1.notes asides;
    gave = tt;
    ordered = λ line full. asides-ordered line given.1.notes asides;
    waits = asides-leave d.books.line given.1.notes asides;
    lines = λ t u others was is lined. lined-absent t u c others d.books.line free lined;
  }

  -- one that waits waits on, or leaves the line
  pub waits-tells : (env : FrontEnv) (p : FrontPart) (row : FrontRow) (given : Ending × Turn) → Each IsAside given.1.notes → DeedTells d env.serve.c env.now ins p (waits_on env p row (front_rest p.rest) given)
  waits-tells env p row (Here b count, turn) asides = record {
    leads = aside-leads d.config env.now ins d.books in_ turn.notes asides;
    gave = tt;
    ordered = λ line full. asides-ordered line turn.notes asides;
    waits = asides-leave d.books.line turn.notes asides;
    lines = λ t u others was is lined. lined-same t u (same-all env.serve.c t u (target_of p.rest) others was is) d.books.line lined;
  }
  waits-tells env p row (Over last, turn) asides =
      let leads : Leads d.config env.now ins d.books turn.notes d.books = aside-leads d.config env.now ins d.books in_ turn.notes asides in record {
        leads = record { more = leads.more; then = leads.then; in_ = leads.in_; may = leads.may; paired = leads.paired; after = leads.after };
        gave = tt;
        ordered = λ line full. asides-ordered line turn.notes asides;
        waits = left-leaves env.serve.c d.books.line turn.notes d.books.line (asides-leave d.books.line turn.notes asides);
        lines = λ t u others was is lined. lined-without t u env.serve.c others d.books.line lined;
      }

  -- ---- it is placed

  module _ (sound : IsDispatcherSound d) (env : FrontEnv) (free : dispatch_standing d env.serve.c ≡ nowhere) (p : FrontPart) (row : FrontRow) (rest : FrontRest) (w : Service) (path : List ℕ) (asides : Each IsAside w.notes) where
    abbrev c : ℕ
    c = env.serve.c

    abbrev newcomer : Waiting
    newcomer = record { c = env.serve.c; target = path }

    abbrev waiting : Dispatcher
    waiting = record d { books = record d.books { line = d.books.line ++ newcomer ∷ [] } }

    abbrev going : Dispatcher
    going = record d { books = admitted_with d.config d.books env.serve.c path env.now }

    absent : line_waits d.books.line env.serve.c ≡ false
    absent = ap (λ (x : DispatchStanding). x.waits) free

    -- what the dispatcher answers, and has then
    abbrev Answers : First → Dispatcher → Type 0
    Answers (first.Go choice) e = (choice ≡ choice_at d.config d.books path env.now) × (e ≡ going) × (admitted d.books.loads < room_of d.config)
    Answers first.Waits e = (e ≡ waiting) × (admitted d.books.loads ≡ room_of d.config)

    answers : Answers (first_answer d path env.now) (after_first d env.serve.c path env.now)
    answers = go (is_full d) refl where
      go : (full : Bool) → is_full d ≡ full → Answers (cond full first.Waits (first.Go (choice_at d.config d.books path env.now))) (cond full waiting going)
      go true is = (refl, eqb-true (admitted d.books.loads) (room_of d.config) is)
      go false is =
          let most : admitted d.books.loads ≤ room_of d.config = sound.room in
          let other : admitted d.books.loads ≡ room_of d.config → ⊥ = eqb-false (admitted d.books.loads) (room_of d.config) is in
          (refl, refl, omega (arith, most, other))

    abbrev Goes : FirstChoice → Dispatcher → Type 0
    Goes choice e = Leads d.config env.now ins d.books (w.notes ++ rec.Admitted env.serve.c ∷ rec.AssignedFirst env.serve.c (w.count + 1) path choice.node choice.add choice.remove ∷ []) e.books

    goes : admitted d.books.loads < room_of d.config → Goes (choice_at d.config d.books path env.now) going
    goes less = behind-asides d.config env.now ins d.books going.books w.notes _ in_ asides
        (admit-leads d.config env.now ins d.books in_ env.serve.c (w.count + 1) path (not-in d.books.loads env.serve.c (ap (λ (x : DispatchStanding). x.home) free)) less)

    -- it waits
    abbrev heard : Ending × Turn
    heard = spoken env.serve (record w { notes = w.notes ++ rec.Waits env.serve.c ∷ [] }) []

    abbrev did : Ending → Did
    did e = record { part = front_rests p row (record rest { target = Some path }) stage.Waiting e; turn = turn_here heard.1; calls = call.First env.serve.c path env.now ∷ leaves_by env.serve.c e }

    abbrev Stands : Dispatcher → Type 0
    Stands e = Leads d.config env.now ins d.books (w.notes ++ rec.Waits env.serve.c ∷ []) e.books

    stands : admitted d.books.loads ≡ room_of d.config → Stands waiting
    stands full = behind-asides d.config env.now ins d.books waiting.books w.notes (rec.Waits env.serve.c ∷ []) in_ asides (wait-leads d.config env.now ins d.books in_ env.serve.c (d.books.line ++ newcomer ∷ []) full)

    last-lined : (t u : ℕ → Option (List ℕ)) → ((q : ℕ) → (q ≡ env.serve.c → ⊥) → u q ≡ t q) → u env.serve.c ≡ Some path → AreLined t d.books.line → AreLined u (d.books.line ++ newcomer ∷ [])
    last-lined t u others is h = lined-more u d.books.line newcomer (lined-absent t u env.serve.c others d.books.line absent h) is

    -- what was there, with the path of this one
    abbrev between : (ℕ → Option (List ℕ)) → ℕ → Option (List ℕ)
    between t q = cond (q == env.serve.c) (Some path) (t q)

    between-other : (t : ℕ → Option (List ℕ)) (q : ℕ) → (q ≡ env.serve.c → ⊥) → between t q ≡ t q
    between-other t q n = ap (λ (b : Bool). cond b (Some path) (t q)) (ne_eqb q env.serve.c n)

    left-lined : (t u : ℕ → Option (List ℕ)) → ((q : ℕ) → (q ≡ env.serve.c → ⊥) → u q ≡ t q) → AreLined t d.books.line → AreLined u (line_without (d.books.line ++ newcomer ∷ []) env.serve.c)
    left-lined t u others h = lined-without (between t) u env.serve.c (λ q n. others q n ∙ sym (between-other t q n)) (d.books.line ++ newcomer ∷ [])
        (last-lined t (between t) (between-other t) (ap (λ (b : Bool). cond b (Some path) (t env.serve.c)) (eq-eqb env.serve.c env.serve.c refl)) h)

    waits-ordered : (line : List Waiting) → IsOrdered line (w.notes ++ rec.Waits env.serve.c ∷ [])
    waits-ordered line = none-ordered line (w.notes ++ rec.Waits env.serve.c ∷ [])
        (Each-append IsNeither w.notes (rec.Waits env.serve.c ∷ []) (Each-weaker IsAside IsNeither aside-neither w.notes asides) (tt, tt))

    waits-last : Leaves d.books.line (w.notes ++ rec.Waits env.serve.c ∷ []) (d.books.line ++ newcomer ∷ [])
    waits-last = waits-leaves d.books.line w.notes newcomer (asides-idle w.notes asides)

    goes-leave : admitted d.books.loads < room_of d.config → (notes : List Rec) → Leaves d.books.line notes d.books.line
    goes-leave less notes = go d.books.line sound.full where
      go : (line : List Waiting) → (0 < length line → admitted d.books.loads ≡ room_of d.config) → Leaves line notes line
      go [] full = λ ys h. tt
      go (v ∷ vs) full = let no : admitted d.books.loads ≡ room_of d.config = full (omega arith) in absurd (omega (arith, no, less))

    -- nobody waits where there is room
    goes-ordered : admitted d.books.loads < room_of d.config → (notes : List Rec) (line : List Waiting)
        → (0 < length line → admitted d.books.loads ≡ room_of d.config) → IsOrdered line notes
    goes-ordered less notes [] full = alone-ordered notes
    goes-ordered less notes (v ∷ vs) full = let no : admitted d.books.loads ≡ room_of d.config = full (omega arith) in absurd (omega (arith, no, less))

    wait : (e : Ending) → Answers first.Waits (after_first d env.serve.c path env.now) → Tells d env.serve.c env.now ins p (did e)
    wait (Here b count) h = record {
      leads = subst Stands (sym h.0) (stands h.1);
      gave = tt;
      ordered = λ line full. waits-ordered line;
      waits = subst (λ (e : Dispatcher). Leaves d.books.line (w.notes ++ rec.Waits env.serve.c ∷ []) e.books.line) (sym h.0) waits-last;
      lines = λ t u others was is l. subst (λ (e : Dispatcher). AreLined u e.books.line) (sym h.0) (last-lined t u others is l);
    }
    wait (Over final) h =
        let leads : Stands (after_first d env.serve.c path env.now) = subst Stands (sym h.0) (stands h.1) in record {
          leads = record { more = leads.more; then = leads.then; in_ = leads.in_; may = leads.may; paired = leads.paired; after = leads.after };
          gave = tt;
          ordered = λ line full. waits-ordered line;
          waits = subst (λ (e : Dispatcher). Leaves d.books.line (w.notes ++ rec.Waits env.serve.c ∷ []) (line_without e.books.line env.serve.c)) (sym h.0)
              (left-leaves env.serve.c d.books.line (w.notes ++ rec.Waits env.serve.c ∷ []) (d.books.line ++ newcomer ∷ []) waits-last);
          lines = λ t u others was is l. subst (λ (e : Dispatcher). AreLined u (line_without e.books.line env.serve.c)) (sym h.0) (left-lined t u others l);
        }

    placed-tells : (f : First) → Answers f (after_first d env.serve.c path env.now) → Tells d env.serve.c env.now ins p (placed env p row rest w path f)
    placed-tells (first.Go choice) h = record {
      leads = subst (Goes choice) (sym h.1) (subst (λ (x : FirstChoice). Goes x going) (sym h.0) (goes h.2));
      gave = (tt, tt);
      ordered = goes-ordered h.2 (w.notes ++ rec.Admitted env.serve.c ∷ rec.AssignedFirst env.serve.c (w.count + 1) path choice.node choice.add choice.remove ∷ []);
      waits = subst (λ (e : Dispatcher). Leaves d.books.line (w.notes ++ rec.Admitted env.serve.c ∷ rec.AssignedFirst env.serve.c (w.count + 1) path choice.node choice.add choice.remove ∷ []) e.books.line) (sym h.1)
          (goes-leave h.2 (w.notes ++ rec.Admitted env.serve.c ∷ rec.AssignedFirst env.serve.c (w.count + 1) path choice.node choice.add choice.remove ∷ []));
      lines = λ t u others was is lined. subst (λ (e : Dispatcher). AreLined u e.books.line) (sym h.1) (lined-absent t u env.serve.c others d.books.line absent lined);
    }
    placed-tells first.Waits h = wait heard.0 h

  -- ---- what comes of a client

  module _ (sound : IsDispatcherSound d) (env : FrontEnv) (of : IsOf env d) (p : FrontPart) where
    abbrev TellsOf : FrontDeed → Type 0
    TellsOf deed = DeedTells d env.serve.c env.now ins p deed

    abbrev standing : DispatchStanding
    standing = dispatch_standing d env.serve.c

    words-tell : (o : Option Said) → IsMute (turn_here (tombstone env.serve o))
    words-tell None = record { notes = refl; gave = refl }
    words-tell (Some said) = record { notes = refl; gave = refl }

    by-place : standing ≡ nowhere → (row : FrontRow) (rest : FrontRest) (w : Service) (path : List ℕ) → Each IsAside w.notes
        → (f : First) → env.first path ≡ f → TellsOf (Does (placed env p row rest w path f))
    by-place free row rest w path asides f is = placed-tells sound env free p row rest w path asides f
        (subst (λ f. Answers sound env free p row rest w path asides f (after_first d env.serve.c path env.now)) (sym (of.first path) ∙ is)
        (answers sound env free p row rest w path asides))

    -- one that stands nowhere is held with what was read of it, or placed
    pub settled-tells : standing ≡ nowhere → (row : FrontRow) (rest : FrontRest) (w : Service) → Each IsAside w.notes
        → (o : Option (List ℕ)) → TellsOf (settled_by env p row rest w o)
    settled-tells free row rest w asides None =
        holds-tells env.serve.c env.now p row rest (serving_settled env.serve w) (ap (λ (x : DispatchStanding). x.waits) free)
        (subst (Each IsAside) (sym (settled-notes env.serve w)) asides)
    settled-tells free row rest w asides (Some path) = by-place free row rest w path asides (env.first path) refl

    abbrev nodes : OpenNodes
    nodes = open_nodes_of d

    module _ (h : IsPartSound nodes p standing) where
      -- one that is held stands nowhere
      free : (row : FrontRow) (b : ControlBlock) → IsInStage p row (stage.Held b) → standing ≡ nowhere
      free row b at = (of-stage (IsRowSound nodes p.rest p.kept standing) p row (stage.Held b) at h).2

      by-segment : (bytes : List ℕ) (s : Said) → KeptBySegment env p bytes s (λ w o. Each IsAside w.notes) TellsOf
      by-segment bytes s = record {
        drops = tt;
        begins = λ none plain.
            let at : IsRowSound nodes p.rest p.kept standing None = subst (IsRowSound nodes p.rest p.kept standing) none h in
            holds-tells env.serve.c env.now p begun_row (front_rest None) (spoken env.serve (begun_service env s) []) (ap (λ (x : DispatchStanding). x.waits) at.1) (tt, tt);
        reads = λ row b at. reads-notes env.serve (heard_reading p b s) tt;
        holds = λ row b w at asides. settled-tells (free row b at) row (front_rest p.rest) w asides None;
        hands = λ row b w path choice at asides is. by-place (free row b at) row (front_rest p.rest) w path asides (first.Go choice) is;
        waits = λ row b w path at asides is. by-place (free row b at) row (front_rest p.rest) w path asides first.Waits is;
        stays = λ row b at. waits-tells env p row (spoken env.serve (heard_service p b s) []) tt;
        forwards = λ row n e at. record { notes = refl; gave = refl };
        words = λ row last at. words-tell (last_words last.reason last s);
      }

      hears-tells : (bytes : List ℕ) (s : Said) → TellsOf (front_hears env p bytes s p.row)
      hears-tells bytes s = segment-keeps env p bytes s (λ w o. Each IsAside w.notes) TellsOf (by-segment bytes s)

    pub gets-tells : (bytes : List ℕ) (r : Result Said SegFault) → IsPartSound nodes p standing → TellsOf (front_gets env p bytes r)
    gets-tells bytes (Err fault) h = tt
    gets-tells bytes (Ok s) h = hears-tells h bytes s

    -- ---- timers

    pub timer-tells : IsPartSound nodes p standing → TellsOf (front_timer env p)
    timer-tells h = timer-keeps env p TellsOf (record {
      drops = tt;
      holds = λ row b at. holds-tells env.serve.c env.now p row (front_rest p.rest) (front_fired env (front_rest p.rest) b) (ap (λ (x : DispatchStanding). x.waits) (free h row b at)) tt;
      stays = λ row b at. waits-tells env p row (front_fired env (front_rest p.rest) b) tt;
      resends = λ row n e at. record { notes = refl; gave = refl };
    })

    -- ---- an Ask

    module _ (from epoch number queue size : ℕ) (paths : List (List ℕ)) (some : 1 ≤ length paths) (within : length paths ≤ size) (most : size ≤ 8) where
      abbrev ask : Ask
      ask = ask_of env.serve.c from number queue size paths

      abbrev After : Dispatcher
      After = after_calls d (call.Later ask env.now ∷ [])

      asked-lines : (t u : ℕ → Option (List ℕ)) → ((q : ℕ) → u q ≡ t q) → AreLined t d.books.line → AreLined u After.books.line
      asked-lines t u same lined = subst (AreLined u) (sym (line-shared d.config env.now ask paths (batch_over d.books ask))) (lined-same t u same d.books.line lined)

      new-tells : (rest : FrontRest) → p.rest ≡ Some rest → dispatch_standing d env.serve.c ≡ record { home = Some from; waits = false } → (l : Later) → l ≡ later_answer d ask env.now
          → Tells d env.serve.c env.now ins p (assigns env p rest from epoch ask l)
      new-tells rest found home l is = record {
        leads = subst (λ (y : Later). Leads d.config env.now ins d.books (assigns env p rest from epoch ask y).turn.notes After.books) (sym is)
            (later-leads d.config env.now ask ins rest.assigned d.books some within most in_ (ap (λ (x : DispatchStanding). x.home) home));
        gave = tt;
        ordered = λ line full. none-ordered line (assigns env p rest from epoch ask l).turn.notes
            (Each-append IsNeither (over_note env.serve.c l.over) (assigned_notes env.serve.c ask rest.assigned paths l.choices) (over-neither env.serve.c l.over) (assigned-neither env.serve.c ask rest.assigned paths l.choices));
        waits = subst (λ (line : List Waiting). Leaves d.books.line (assigns env p rest from epoch ask l).turn.notes line) (sym (line-shared d.config env.now ask paths (batch_over d.books ask)))
            (idle-leaves d.books.line (assigns env p rest from epoch ask l).turn.notes
            (Each-append IsIdle (over_note env.serve.c l.over) (assigned_notes env.serve.c ask rest.assigned paths l.choices) (over-idle env.serve.c l.over) (assigned-idle env.serve.c ask rest.assigned paths l.choices)));
        lines = λ t u others was now_is lined. asked-lines t u (same-all env.serve.c t u rest.target others (was ∙ ap target_of found) now_is) lined;
      }

      pub asked-tells : IsPartSound nodes p standing → TellsOf (front_asked env p from epoch ask)
      asked-tells h = asked-keeps p TellsOf tt env from epoch ask (λ rest found there same more. record { notes = refl; gave = refl })
          (λ rest found there next. new-tells rest found (row-at nodes from epoch p.row p.rest p.kept standing there h).2.stands (env.later ask) (of.later ask))

  -- ---- a Taken

  pub taken-tells : (c : ℕ) (now : Millis) (p : FrontPart) (epoch : ℕ) → DeedTells d c now ins p (front_taken p epoch)
  taken-tells c now p epoch = taken-keeps p (λ deed. DeedTells d c now ins p deed) tt epoch (λ row n e at same. record {
    leads = aside-leads d.config now ins d.books in_ [] tt;
    gave = tt;
    ordered = λ line full. asides-ordered line [] tt;
    waits = asides-leave d.books.line [] tt;
    lines = λ t u others was is lined. lined-same t u (same-all c t u (target_of p.rest) others was is) d.books.line lined;
  })
