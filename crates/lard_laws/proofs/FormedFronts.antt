-- What the front end does: what it assigns names a file, as does the path that a connection waits for, and each segment has a byte.
use Rattle.std.proofs.Common.{◌≡◌, ℕ, ◌+◌, Bool, true, false, List, [], ◌∷◌, length, Option, Some, None, IfSome, sym, subst}
use Rattle.std.proofs.lemmas.Bool.{cond_both}
use Rattle.lard_law_view.specs.Prelude.{Ask, AskedBy, ControlBlock, Done, Ending, EndpointParts, FilesAt, Found, FrontDeed, FrontEnv, FrontGets, FrontPart, FrontRest, FrontRow, FrontTurn, LaterChoice, More, Place, Reading, Rec, Said, Service, Step, Turn, Verdict, Via, after_timer, answer, answer_code, answered, assigned_notes, back_rest, block_at, cut_of, ended_at_fin, front_reads, front_rest, front_rule, given_sent, good_path, last_words, may_freeze, may_read, over_note, reading_turn, reads_block, reads_found, rest_after, serving_consumed, serving_settled, spoken, targeted, timed, tombstone}
use Rattle.lard_base.specs.declared.place.Via.TheVariants.{Own}
use Rattle.lard_block.specs.declared.block.Found.TheVariants as found
use Rattle.lard_history.proofs.Each.{Each, Each-append}
use Rattle.lard_journal.specs.declared.rec.Rec.TheVariants as rec
use Rattle.lard_laws.proofs.FormedAsks.{good-named}
use Rattle.lard_laws.proofs.FormedSegments.{SaysTo, cut-says, ready-says, spoken-says, tombstone-says}
use Rattle.lard_laws.proofs.FormedTold.{IsToldSo}
use Rattle.lard_laws.specs.Formed.{IsOfFile}
use Rattle.lard_request.specs.declared.verdict.Code.TheVariants as code
use Rattle.lard_request.specs.declared.verdict.Verdict.TheVariants.{Fault}
use Rattle.lard_rules.proofs.Endings.{answered-keeps, at-fin-keeps, settled-keeps}
use Rattle.lard_rules.proofs.FrontCases.{IsAsGiven, KeptByFront, KeptByReturn, KeptBySegment, KeptByTimer, back_reading, begun_service, fired_before, fired_service, front-keeps, heard_reading, heard_service, waiting_service}
use Rattle.lard_rules.proofs.Runs.{runs_keep}
use Rattle.lard_rules.specs.Front.{Does, Drops, Says}
use Rattle.lard_rules.specs.FrontReading as front
use Rattle.lard_rules.specs.declared.places.Ending.TheVariants as ending

module _ (files : FilesAt) where
  abbrev AreTold : List Rec → Type 0
  AreTold rs = Each (IsToldSo files) rs

  -- ---- what a connection waits for

  abbrev pub IsTarget : Option (List ℕ) → Type 0
  IsTarget o = IfSome o (IsOfFile files)

  abbrev pub RestNamed : Option FrontRest → Type 0
  RestNamed None = Unit {0}
  RestNamed (Some rest) = IsTarget rest.target

  rest-target : (o : Option FrontRest) → RestNamed o → IsTarget (front_rest o).target
  rest-target None h = tt
  rest-target (Some rest) h = h

  after-named : (rest : FrontRest) (e : Ending) → IsTarget rest.target → RestNamed (rest_after rest e)
  after-named rest (ending.Here b count) h = h
  after-named rest (ending.Over last) h = tt

  module _ (env : FrontEnv) (same : env.serve.files ≡ files) where
    abbrev c : ℕ
    c = env.serve.c

    -- ---- reading

    abbrev Reads : Reading → Type 0
    Reads x = AreTold x.service.notes × IsTarget x.target

    abbrev ReadsSo : Step Reading → Type 0
    ReadsSo (More y) = Reads y
    ReadsSo (Done y) = Reads y

    answered-told : (via : Via) (v : Verdict) (w : Service) → AreTold w.notes → AreTold (answered env.serve via v w).notes
    answered-told via v w h =
        let bytes : List ℕ = answer env.serve.files v in
        let total : ℕ = w.block.send.total + length bytes in
        answered-keeps (λ (s : Service). AreTold s.notes) env.serve via v w
        (λ t. Each-append (IsToldSo files) w.notes (rec.Reset env.serve.place c total ∷ []) h (tt, tt))
        (λ t. Each-append (IsToldSo files) w.notes (rec.Served env.serve.place c (w.count + 1) (answer_code env.serve.files v) (length bytes) via ∷ []) h (tt, tt))

    fin-told : (w : Service) → AreTold w.notes → AreTold (ended_at_fin w).notes
    fin-told w h = at-fin-keeps (λ (s : Service). AreTold s.notes) w (λ t. h) (λ t. h)

    targeted-reads : (path : List ℕ) (x : Reading) → IsOfFile files path → Reads x → Reads (targeted path x)
    targeted-reads path x named h = cond_both (may_freeze x.service.block) (record x { target = Some path }) x Reads (λ t. (h.0, named)) (λ t. h)

    block-reads : (x : Reading) (n : ℕ) (v : Verdict) (o : Option (List ℕ)) → IsTarget o → Reads x → ReadsSo (reads_block env.serve x n v o)
    block-reads x n v None named h = (answered-told Own v (serving_consumed n x.service) h.0, h.1)
    block-reads x n v (Some path) named h = targeted-reads path x named h

    path-named : (v : Verdict) → IsTarget (good_path env.serve.files v)
    path-named v = subst (λ (fs : _). IfSome (good_path fs v) (IsOfFile files)) (sym same) (good-named files v)

    found-reads : (x : Reading) (f : Found) → Reads x → ReadsSo (reads_found env.serve x f)
    found-reads x (found.More skip) h = (fin-told (serving_consumed skip x.service) h.0, h.1)
    found-reads x (found.Block skip len) h = block-reads x (skip + len) (block_at x skip len) (good_path env.serve.files (block_at x skip len)) (path-named (block_at x skip len)) h
    found-reads x (found.TooLong skip) h = (answered-told Own (Fault code.FieldsTooLarge) (serving_consumed (length x.service.block.recv.unread) x.service) h.0, h.1)

    turn-reads : (x : Reading) → Reads x → ReadsSo (reading_turn env.serve x)
    turn-reads x h = cond_both (may_read x.service) (reads_found env.serve x (cut_of x.service.block.recv.unread)) (Done x) ReadsSo (λ t. found-reads x (cut_of x.service.block.recv.unread) h) (λ t. h)

    all-read : (x : Reading) → Reads x → Reads (front_reads env.serve x)
    all-read x h = runs_keep (reading_turn env.serve) front.reading_left Reads (record {
      more = λ y z e p. subst ReadsSo e (turn-reads y p);
      done = λ y z e p. subst ReadsSo e (turn-reads y p);
    }) x h

    -- ---- turns

    abbrev pub TurnFits : FrontTurn → Type 0
    TurnFits t = Each (IsToldSo files) t.notes × Each (SaysTo c) t.segments

    abbrev pub DeedFits : FrontDeed → Type 0
    DeedFits Drops = Unit {0}
    DeedFits (Says t) = TurnFits t
    DeedFits (Does did) = RestNamed did.part.rest × TurnFits did.turn

    abbrev Turns : Turn → Type 0
    Turns t = AreTold t.notes × Each (SaysTo c) t.segments

    spoken-turns : (w : Service) (before : List (Place × List ℕ)) → Each (SaysTo c) before → AreTold w.notes → Turns (spoken env.serve w before).1
    spoken-turns w before says h = (h, spoken-says env.serve w before says)

    settled-turns : (w : Service) → AreTold w.notes → Turns (serving_settled env.serve w).1
    settled-turns w h = settled-keeps (λ given. Turns given.1) env.serve w (λ e. spoken-turns w [] tt h) (λ total e. (h, cut-says env.serve w))

    tombstone-turns : (o : Option Said) → Turns (tombstone env.serve o)
    tombstone-turns None = (tt, tt)
    tombstone-turns (Some s) = (tt, tombstone-says env.serve (Some s))

    -- ---- Asks

    over-told : (b : Bool) → AreTold (over_note c b)
    over-told true = (tt, tt)
    over-told false = tt

    assigned-told : (ask : Ask) (r : ℕ) (paths : List (List ℕ)) (choices : List LaterChoice) → Each (IsOfFile files) paths → AreTold (assigned_notes c ask r paths choices)
    assigned-told ask r [] choices h = tt
    assigned-told ask r (path ∷ paths) [] h = tt
    assigned-told ask r (path ∷ paths) (choice ∷ choices) h = (h.0, assigned-told ask (r + 1) paths choices h.1)

    -- the paths of an Ask that comes are those of files
    abbrev pub ComesNamed : FrontGets → Type 0
    ComesNamed (AskedBy n epoch ask) = Each (IsOfFile files) ask.paths
    ComesNamed _ = Unit {0}

    -- ---- rule by rule

    module _ (p : FrontPart) (h : RestNamed p.rest) where
      target : IsTarget (front_rest p.rest).target
      target = rest-target p.rest h

      abbrev R : Service → Option (List ℕ) → Type 0
      R w o = AreTold w.notes × IsTarget o

      by_segment : (bytes : List ℕ) (s : Said) → KeptBySegment env p bytes s R DeedFits
      by_segment bytes s = record {
        drops = tt;
        begins = λ none plain. (after-named (front_rest None) (spoken env.serve (begun_service env s) []).0 tt, spoken-turns (begun_service env s) [] tt (tt, tt));
        reads = λ row b at. all-read (heard_reading p b s) (tt, tt);
        holds = λ row b w at r. (after-named (front_rest p.rest) (serving_settled env.serve w).0 target, settled-turns w r.0);
        hands = λ row b w path choice at r is. (tt, (Each-append (IsToldSo files) w.notes _ r.0 (tt, (r.1, tt)), tt));
        waits = λ row b w path at r is.
            let k : Service = waiting_service env w in
            (after-named (record (front_rest p.rest) { target = Some path }) (spoken env.serve k []).0 r.1, spoken-turns k [] tt (Each-append (IsToldSo files) w.notes _ r.0 (tt, tt)));
        stays = λ row b at. (after-named (front_rest p.rest) (spoken env.serve (heard_service p b s) []).0 target, spoken-turns (heard_service p b s) [] tt tt);
        forwards = λ row n e at. (tt, tt);
        words = λ row last at. tombstone-turns (last_words last.reason last s);
      }

      fired-fits : (row : FrontRow) (b : ControlBlock) → RestNamed (rest_after (front_rest p.rest) (spoken env.serve (fired_service p b) (fired_before env b)).0) × Turns (spoken env.serve (fired_service p b) (fired_before env b)).1
      fired-fits row b = (
        after-named (front_rest p.rest) (spoken env.serve (fired_service p b) (fired_before env b)).0 target,
        spoken-turns (fired_service p b) (fired_before env b) (ready-says env.serve (after_timer b) (timed b)) tt,
      )

      by_timer : KeptByTimer env p DeedFits
      by_timer = record { drops = tt; holds = λ row b at. fired-fits row b; stays = λ row b at. fired-fits row b; resends = λ row n e at. (tt, tt) }

      -- it comes back, and waits for no path until it reads on to one
      by_return : (said : List (Place × List ℕ)) (row : FrontRow) (parts : EndpointParts) → KeptByReturn env p said row parts R DeedFits
      by_return said row parts = record {
        reads = all-read (back_reading env row parts) ((tt, (tt, tt)), tt);
        holds = λ w r. (after-named (back_rest parts) (serving_settled env.serve w).0 tt, settled-turns w r.0);
        hands = λ w path choice r is. (tt, (Each-append (IsToldSo files) w.notes _ r.0 (tt, (r.1, tt)), tt));
        waits = λ w path r is.
            let k : Service = waiting_service env w in
            (after-named (record (back_rest parts) { target = Some path }) (spoken env.serve k []).0 r.1, spoken-turns k [] tt (Each-append (IsToldSo files) w.notes _ r.0 (tt, tt)));
      }

      by_front : KeptByFront env p ComesNamed R DeedFits
      by_front = record {
        drops = tt;
        hears = λ bytes s m. by_segment bytes s;
        fires = λ m. by_timer;
        takes = λ n epoch m row node e at is. (h, (tt, tt));
        tags_again = λ n epoch ask m rest found there is some. (tt, tt);
        assigns_next = λ n epoch ask m rest found there is. (
          subst RestNamed found h,
          (
            Each-append (IsToldSo files) (over_note c (env.later ask).over) (assigned_notes c ask rest.assigned ask.paths (env.later ask).choices) (over-told (env.later ask).over)
                (assigned-told ask rest.assigned ask.paths (env.later ask).choices m),
            tt,
          ),
        );
        ends_again = λ n epoch last m row found none told. (tt, tt);
        ends = λ n epoch last m row found away. (tt, ((tt, (tt, tt)), tt));
        gives_again = λ n epoch parts m row found past. (tt, tt);
        returns = λ n epoch given m row parts at. by_return (given_sent c n epoch given) row parts;
        admits = λ choice made met row b path at is. (tt, ((tt, (subst IsTarget is target, tt)), tt));
      }

      pub front-fits : (g : FrontGets) → IsAsGiven env p g → ComesNamed g → DeedFits (front_rule env p g)
      front-fits g is m = front-keeps env p ComesNamed R DeedFits by_front g is m
