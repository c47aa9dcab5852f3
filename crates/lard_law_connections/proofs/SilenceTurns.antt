-- What each operation of an endpoint keeps, and of what it says is so, a turn of a place keeps, whichever place it is.
use Rattle.std.proofs.Common.{◌≡◌, ◌+◌, ℕ, true, false, List, [], ◌∷◌, ◌++◌, length, Option, Some, None, refl, subst}
use Rattle.std.proofs.lemmas.Bool.{cond_both}
use Rattle.lard_law_view.specs.Prelude.{Client, ControlBlock, Done, Ending, Found, More, Place, Reading, Ready, Said, ServeEnv, Service, Step, ToClient, Turn, Verdict, after_emit, after_timer, block_at, cut_of, cut_off, emitted, filled, final_of, front_reads, good_path, limit_said, may_end, may_freeze, may_read, on_segment, reading_left, reading_turn, reads_block, reads_found, rested, restored, send_begun, serving, serving_consumed, serving_ready_of, serving_settled, serving_told, speaks, speaks_symbols, spelled, spoken, timed, to_client}
use Rattle.lard_base.specs.declared.place.Reason.TheVariants.{Limit}
use Rattle.lard_base.specs.declared.place.Via.TheVariants.{Own}
use Rattle.lard_block.specs.declared.block.Found.TheVariants as found
use Rattle.lard_law_connections.proofs.LimitsWorking.{KeptByServing}
use Rattle.lard_history.proofs.Each.{Each, Each-append, Each-weaker}
use Rattle.lard_request.specs.declared.verdict.Code.TheVariants as code
use Rattle.lard_request.specs.declared.verdict.Verdict.TheVariants.{Fault}
use Rattle.lard_rules.specs.declared.places.Ending.TheVariants as ending
use Rattle.lard_rules.proofs.Loops.{speaks_keep, symbols_keep}
use Rattle.lard_rules.proofs.Runs.{runs_keep}
use Rattle.lard_rules.proofs.Endings.{rested-keeps, settled-keeps}

-- ---- what goes out

-- a packet to the client, of whose segment P is so
abbrev pub Told : ℕ → (Said → Type 0) → Place × List ℕ → Type 0
Told c P p = (p.0 ≡ Client c) × ((s : Said) × (p.1 ≡ spelled c ToClient s) × P s)

abbrev pub AreTold : ℕ → (Said → Type 0) → List (Place × List ℕ) → Type 0
AreTold c P ps = Each (Told c P) ps

-- an endpoint, where any will do
abbrev pub nobody : ControlBlock
nobody = record { recv = restored 0 0 false []; send = send_begun 0 0 0 0; owed = false; last_window = 0; reset = false }

-- what is so of one segment is so of another predicate
pub told-weaker : (c : ℕ) (P Q : Said → Type 0) → ((s : Said) → P s → Q s) → (ps : List (Place × List ℕ)) → AreTold c P ps → AreTold c Q ps
told-weaker c P Q w ps h = Each-weaker (Told c P) (Told c Q) (λ p t. (t.0, (t.1.0, t.1.1, w t.1.0 t.1.2))) ps h

-- ---- the law of an endpoint

-- Between two turns R is so of it, within a turn P; Word of a segment of the client's, and Reply of each that it sends, by the
-- endpoint as it is then, which goes on as the endpoint does.
pub record IsKept (env : ServeEnv) (P R : ControlBlock → Type 0) (Word : Said → Type 0) (Reply : ControlBlock → Said → Type 0) : Type 0 where
  pub begins : (b : ControlBlock) → R b → P b
  pub hears : (b : ControlBlock) (s : Said) → R b → Word s → P (on_segment b s).1
  pub fires : (b : ControlBlock) → R b → P (after_timer b)
  pub again : (b : ControlBlock) (r : Ready) → R b → timed b ≡ Some r → Reply (after_timer b) (filled (after_timer b) r)
  pub emits : (b : ControlBlock) → P b → P (after_emit b)
  pub says : (b : ControlBlock) (r : Ready) → P b → emitted b ≡ Some r → Reply (after_emit b) (filled (after_emit b) r)
  pub later : (b : ControlBlock) (s : Said) → P b → Reply b s → Reply (after_emit b) s
  pub cuts : (b : ControlBlock) → P b → Reply b (limit_said (final_of b Limit))
  pub serves : KeptByServing env (λ (w : Service). P w.block)
  pub rests : (b : ControlBlock) → P b → may_end (speaks env.c b).1 ≡ false → R (speaks env.c b).1

module _ (env : ServeEnv) (P R : ControlBlock → Type 0) (Word : Said → Type 0) (Reply : ControlBlock → Said → Type 0) (k : IsKept env P R Word Reply) where
  -- ---- speaking

  -- what was said stays so
  pub record Spoke (b : ControlBlock) (ss : List (Place × List ℕ)) (d : ControlBlock) : Type 0 where
    pub kept : P d
    pub sent : AreTold env.c (Reply d) ss
    pub goes : (s : Said) → Reply b s → Reply d s

  more-spoke : (b : ControlBlock) (r : Ready) (ss : List (Place × List ℕ)) (d : ControlBlock) → P b → emitted b ≡ Some r → Spoke (after_emit b) ss d → Spoke b (to_client env.c (after_emit b) r ∷ ss) d
  more-spoke b r ss d h e l = record {
    kept = l.kept;
    sent = ((refl, (filled (after_emit b) r, refl, l.goes (filled (after_emit b) r) (k.says b r h e))), l.sent);
    goes = λ s f. l.goes s (k.later b s h f);
  }

  speaks-kept : (b : ControlBlock) → P b → Spoke b (speaks env.c b).0 (speaks env.c b).1
  speaks-kept b = speaks_keep env.c (λ (b : ControlBlock) ss d. P b → Spoke b ss d)
      (record { rests = λ b h. record { kept = h; sent = tt; goes = λ s f. f }; says = λ b r ss d e later h. more-spoke b r ss d h e (later (k.emits b h)) }) b

  symbols-kept : (b : ControlBlock) → P b → Spoke b (speaks_symbols env.c b).0 (speaks_symbols env.c b).1
  symbols-kept b = symbols_keep env.c (λ (b : ControlBlock) ss d. P b → Spoke b ss d)
      (record { rests = λ b h. record { kept = h; sent = tt; goes = λ s f. f }; says = λ b r ss d e later h. more-spoke b r ss d h e (later (k.emits b h)) })
      (λ b r e f h. record { kept = k.emits b h; sent = tt; goes = λ s g. k.later b s h g }) b

  -- ---- the end of a turn

  abbrev pub EndHas : List (Place × List ℕ) → Ending → Type 0
  EndHas ss (ending.Here b count) = R b × AreTold env.c (Reply b) ss
  EndHas ss (ending.Over last) = Unit {0}

  -- Where the connection stays R is so of its endpoint, and Reply of all that goes out by it; and else by some endpoint.
  pub record TurnHas (given : Ending × Turn) : Type 0 where
    pub ends : EndHas given.1.segments given.0
    pub sent : (d : ControlBlock) × AreTold env.c (Reply d) given.1.segments

  rested-has : (ss : List (Place × List ℕ)) (b : ControlBlock) (count : ℕ) → AreTold env.c (Reply b) ss → (may_end b ≡ false → R b) → EndHas ss (rested b count)
  rested-has ss b count sent h = rested-keeps (EndHas ss) b count (λ t. tt) (λ t. (h t, sent))

  pub spoken-has : (w : Service) (before : List (Place × List ℕ)) → P w.block → AreTold env.c (Reply w.block) before → TurnHas (spoken env w before)
  spoken-has w before h sent =
      let l : Spoke w.block (speaks env.c w.block).0 (speaks env.c w.block).1 = speaks-kept w.block h in
      let d : ControlBlock = (speaks env.c w.block).1 in
      let all : AreTold env.c (Reply d) (before ++ (speaks env.c w.block).0) =
      Each-append (Told env.c (Reply d)) before (speaks env.c w.block).0 (told-weaker env.c (Reply w.block) (Reply d) l.goes before sent) l.sent in
      record { ends = rested-has (before ++ (speaks env.c w.block).0) d w.count all (k.rests w.block h); sent = (d, all) }

  cut-has : (w : Service) → P w.block → TurnHas (cut_off env w)
  cut-has w h =
      let d : ControlBlock = (speaks_symbols env.c w.block).1 in
      let l : Spoke w.block (speaks_symbols env.c w.block).0 d = symbols-kept w.block h in
      let last = limit_said (final_of d Limit) in
      record { ends = tt; sent = (d, Each-append (Told env.c (Reply d)) (speaks_symbols env.c w.block).0 (serving_told env last ∷ []) l.sent ((refl, (last, refl, k.cuts d l.kept)), tt)) }

  pub settled-has : (w : Service) → P w.block → TurnHas (serving_settled env w)
  settled-has w h = settled-keeps TurnHas env w (λ e. spoken-has w [] h tt) (λ total e. cut-has w h)

  -- what its timer sends again goes out first
  pub fired-has : (b : ControlBlock) (count : ℕ) → R b → TurnHas (spoken env (serving (after_timer b) count []) (serving_ready_of env (after_timer b) (timed b)))
  fired-has b count h = spoken-has (serving (after_timer b) count []) (serving_ready_of env (after_timer b) (timed b)) (k.fires b h) (go (timed b) refl) where
    go : (o : Option Ready) → timed b ≡ o → AreTold env.c (Reply (after_timer b)) (serving_ready_of env (after_timer b) o)
    go None e = tt
    go (Some r) e = ((refl, (filled (after_timer b) r, refl, k.again b r h e)), tt)

-- ---- the front end's reading keeps what each of its turns keeps

module _ (env : ServeEnv) (P : Service → Type 0) (kept : KeptByServing env P) where
  abbrev StepKeeps : Step Reading → Type 0
  StepKeeps (More x) = P x.service
  StepKeeps (Done x) = P x.service

  block-keeps : (x : Reading) (n : ℕ) (v : Verdict) (o : Option (List ℕ)) → may_read x.service ≡ true → P x.service → StepKeeps (reads_block env x n v o)
  block-keeps x n v None may h = kept.answers (serving_consumed n x.service) Own v may (kept.reads x.service n h)
  block-keeps x n v (Some path) may h = cond_both (may_freeze x.service.block) (record x { target = Some path }) x (λ (y : Reading). P y.service) (λ t. h) (λ t. h)

  found-keeps : (x : Reading) (f : Found) → may_read x.service ≡ true → P x.service → StepKeeps (reads_found env x f)
  found-keeps x (found.More skip) may h = kept.ends (serving_consumed skip x.service) (kept.reads x.service skip h)
  found-keeps x (found.Block skip len) may h = block-keeps x (skip + len) (block_at x skip len) (good_path env.files (block_at x skip len)) may h
  found-keeps x (found.TooLong skip) may h =
      kept.answers (serving_consumed (length x.service.block.recv.unread) x.service) Own (Fault code.FieldsTooLarge) may (kept.reads x.service (length x.service.block.recv.unread) h)

  turn-keeps : (x : Reading) → P x.service → StepKeeps (reading_turn env x)
  turn-keeps x h = cond_both (may_read x.service) (reads_found env x (cut_of x.service.block.recv.unread)) (Done x) StepKeeps
      (λ may. found-keeps x (cut_of x.service.block.recv.unread) may h) (λ t. h)

  pub reads-keep : (x : Reading) → P x.service → P (front_reads env x).service
  reads-keep x h = runs_keep (reading_turn env) reading_left (λ (y : Reading). P y.service) (record {
    more = λ y z e p. subst StepKeeps e (turn-keeps y p);
    done = λ y z e p. subst StepKeeps e (turn-keeps y p);
  }) x h
