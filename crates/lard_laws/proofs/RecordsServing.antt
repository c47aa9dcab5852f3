-- What any place notes and sends while it serves is in range, and what it keeps of a connection then is bytes.
use Rattle.std.proofs.Common.{◌≡◌, ℕ, ◌+◌, ◌-◌, ◌≤◌, ◌<◌, ◌^◌, List, [], ◌∷◌, length, drop, false, Option, Some, None, IfSome, refl, sym, subst, arith, length-append}
use Rattle.std.proofs.lemmas.Bool.{cond_both, ltb-false}
use Rattle.lard_law_view.specs.Prelude.{ControlBlock, Ending, FitsFields, IsCount, IsNumber, IsOfTable, IsPlaceInRange, IsRecordInRange, IsViaInRange, Place, Ready, Said, ServeEnv, Service, ToClient, Turn, Verdict, Via, acknowledged_bytes, after_emit, answer, answer_code, answered, closed_behind, closes, cut_off, discarding_on, emits_left, ended_at_fin, filled, final_of, finishing, limit_said, owes, queueing, reset_count, rested, serving_consumed, serving_ready_of, serving_settled, serving_told, speaks, speaks_symbols, spoken, to_client}
use Rattle.lard_base.specs.declared.place.Reason.TheVariants as reason
use Rattle.lard_laws.proofs.RecordsFit.{Keeping, fit-closed, fit-consuming, fit-finishing, fit-queueing, keeping-emit}
use Rattle.lard_laws.proofs.RecordsLetters.{IsLetter}
use Rattle.lard_history.proofs.Each.{Each, Each-append}
use Rattle.lard_journal.specs.declared.rec.Rec.TheVariants as rec
use Rattle.lard_law_view.proofs.ByteLists.{AreBytes, bytes-append, bytes-spelled, each-drop, each-take}
use Rattle.lard_law_view.proofs.ContentRange.{AreFiles, answer-fits, code-small}
use Rattle.lard_law_view.proofs.ServingRange.{emits-few, symbols-few}
use Rattle.lard_law_view.proofs.KeptBytes.{IsKept, left-few}
use Rattle.lard_message.specs.declared.message.Body.TheVariants as body
use Rattle.lard_rules.proofs.Loops.{KeptBySpeaking, speaks_keep, symbols_keep}
use Rattle.lard_rules.specs.declared.places.Ending.TheVariants as ending
use Rattle.lard_rules.proofs.Endings.{answered-keeps, at-fin-keeps, rested-keeps, settled-keeps}

-- What is kept of a connection here is bytes. At most 2^30 responses were counted where it was before, and each that was counted
-- here has a byte.
abbrev pub Keeps : ℕ → ControlBlock → Type 0
Keeps count b = Keeping (count - 2 ^ 30) b

-- so few are counted
pub count-few : (count : ℕ) (b : ControlBlock) → Keeps count b → count ≤ 2 ^ 31
count-few count b h = let few = h.0.1 in let most = h.0.2 in omega (arith, few, most)

-- A connection that stays has as many responses as before. Where it ends, its Ended is a message: it counts bytes where the stream
-- limit ended it, and nothing else.
abbrev pub EndTells : Option ℕ → ℕ → Ending → Type 0
EndTells over n (ending.Here b count) = count ≡ n
EndTells over n (ending.Over last) = IsOfTable (body.Ended last.reason last.snd.0 last.rcv.0 (reset_count over)) × FitsFields (body.Ended last.reason last.snd.0 last.rcv.0 (reset_count over))

-- A turn's notes and segments are in range, and its segments are few.
pub record TurnFits (from : Place) (turn : Turn) : Type 0 where
  pub notes : Each IsRecordInRange turn.notes
  pub sent : Each (IsLetter from) turn.segments
  pub few : length turn.segments ≤ 2 ^ 31

-- what is kept of a connection at the end of a turn
abbrev pub EndKeeps : Ending → Type 0
EndKeeps (ending.Here b count) = Keeps count b
EndKeeps (ending.Over last) = Unit {0}

-- a turn of a place that serves: what it keeps, and the turn
pub record EndFits (from : Place) (given : Ending × Turn) : Type 0 where
  pub keeps : EndKeeps given.0
  pub turn : TurnFits from given.1

module _ (env : ServeEnv) (number : IsNumber env.c) where
  -- ---- what an endpoint sends

  -- a segment has a part of what was queued
  segment-sent : (least : ℕ) (b : ControlBlock) (r : Ready) → Keeping least b → IsLetter env.place (to_client env.c b r)
  segment-sent least b r h =
      let from : ℕ = r.at - acknowledged_bytes b.send in
      (number, bytes-spelled env.c ToClient (filled b r) (each-take (λ b. b < 256) r.len (drop from b.send.rest) (each-drop (λ b. b < 256) from b.send.rest h.0.0)), tt, tt)

  -- one segment that is ready, or none
  pub ready-sent : (least : ℕ) (b : ControlBlock) (o : Option Ready) → Keeping least b → Each (IsLetter env.place) (serving_ready_of env b o)
  ready-sent least b None h = tt
  ready-sent least b (Some r) h = (segment-sent least b r h, tt)

  pub ready-few : (b : ControlBlock) (o : Option Ready) → length (serving_ready_of env b o) ≤ 1
  ready-few b None = omega arith
  ready-few b (Some r) = omega arith

  -- one without data
  pub told-sent : (s : Said) → s.payload ≡ [] → IsLetter env.place (serving_told env s)
  told-sent s none = (number, bytes-spelled env.c ToClient s (subst AreBytes (sym none) tt), tt, tt)

  module _ (least : ℕ) where
    -- what an endpoint says until it has no more to say
    abbrev Says : ControlBlock → List (Place × List ℕ) → ControlBlock → Type 0
    Says b ss d = Keeping least b → Keeping least d × Each (IsLetter env.place) ss

    saying-keeps : KeptBySpeaking env.c Says
    saying-keeps = record {
      rests = λ b h. (h, tt);
      says = λ b r ss d e later h.
          let next : Keeping least (after_emit b) = keeping-emit least b h in
          let rest : Keeping least d × Each (IsLetter env.place) ss = later next in
          (rest.0, (segment-sent least (after_emit b) r next, rest.1));
    }

    speaks-says : (b : ControlBlock) → Keeping least b → Keeping least (speaks env.c b).1 × Each (IsLetter env.place) (speaks env.c b).0
    speaks-says b h = speaks_keep env.c Says saying-keeps b h

    symbols-says : (b : ControlBlock) → Keeping least b → Keeping least (speaks_symbols env.c b).1 × Each (IsLetter env.place) (speaks_symbols env.c b).0
    symbols-says b h = symbols_keep env.c Says saying-keeps (λ d r e held k. (keeping-emit least d k, tt)) b h

  -- ---- answering

  module _ (small : env.stream ≤ 2 ^ 30) (are : AreFiles env.files) (at : IsPlaceInRange env.place) where
    -- A service between two of its turns: its notes are in range, what it keeps is bytes, and a reset counts few.
    pub record Serves (w : Service) : Type 0 where
      pub notes : Each IsRecordInRange w.notes
      pub keeps : Keeps w.count w.block
      pub over : IfSome w.over (λ total. total < 2 ^ 32)

    -- behind an answer that closes what is unread goes
    abbrev HasBytes : ℕ → ControlBlock → Type 0
    HasBytes least b = IsKept least b.send × AreBytes b.recv.unread

    closed-bytes : (least : ℕ) (v : Verdict) (b : ControlBlock) → HasBytes least b → HasBytes least (closed_behind v b)
    closed-bytes least v b h = cond_both (closes v) (finishing (discarding_on b)) b (HasBytes least) (λ t. (h.0, tt)) (λ t. h)

    closed-keeps : (least : ℕ) (v : Verdict) (b : ControlBlock) → Keeping least b → Keeping least (closed_behind v b)
    closed-keeps least v b h = let bytes = closed-bytes least v b (h.0, h.1) in (bytes.0, bytes.1, fit-closed v b h.2)

    -- One more answer: its record counts at most two stream limits, a reset one and one answer more.
    pub answered-serves : (via : Via) (v : Verdict) (w : Service) → IsViaInRange via → w.block.send.finished ≡ false → Serves w → Serves (answered env via v w)
    answered-serves via v w way open_ h =
        let bytes : List ℕ = answer env.files v in
        let total : ℕ = w.block.send.total in
        let fits = answer-fits env.files are v in
        let some = fits.1 in
        let short = fits.2 in
        let few = h.keeps.0.1 in
        let most = h.keeps.0.2 in
        let low = code-small env.files v in
        answered-keeps Serves env via v w
        (λ t. record {
          notes = Each-append IsRecordInRange w.notes (rec.Reset env.place env.c (total + length bytes) ∷ []) h.notes ((at, number, omega (arith, short, most)), tt);
          keeps = h.keeps;
          over = omega (arith, short, most);
        })
        (λ t.
        let within : total + length bytes ≤ env.stream = ltb-false env.stream (total + length bytes) t in
        record {
          notes = Each-append IsRecordInRange w.notes (rec.Served env.place env.c (w.count + 1) (answer_code env.files v) (length bytes) via ∷ []) h.notes
              ((at, number, omega (arith, few, most), omega (arith, low), omega (arith, short), way), tt);
          keeps = closed-keeps ((w.count + 1) - 2 ^ 30) v (queueing w.block bytes) ((bytes-append w.block.send.rest bytes h.keeps.0.0 fits.0, omega (arith, few, some), omega (arith, within, small)), h.keeps.1, fit-queueing w.block bytes open_ (omega (arith, within, small)) h.keeps.2);
          over = tt;
        })

    -- what is read goes
    pub consumed-serves : (n : ℕ) (w : Service) → Serves w → Serves (serving_consumed n w)
    consumed-serves n w h = record { notes = h.notes; keeps = (h.keeps.0, each-drop (λ b. b < 256) n w.block.recv.unread h.keeps.1, fit-consuming w.block n h.keeps.2); over = h.over }

    -- behind the client's FIN the cluster's follows
    pub ended-serves : (w : Service) → Serves w → Serves (ended_at_fin w)
    ended-serves w h = at-fin-keeps Serves w (λ t. record { notes = h.notes; keeps = (h.keeps.0, h.keeps.1, fit-finishing w.block h.keeps.2); over = h.over }) (λ t. h)

    -- ---- the end of a turn

    -- these segments go out, and what the endpoint has left to say
    pub spoken-fits : (w : Service) (before : List (Place × List ℕ)) → Each (IsLetter env.place) before → length before ≤ 1 → Serves w → EndFits env.place (spoken env w before)
    spoken-fits w before sent one h =
        let least : ℕ = w.count - 2 ^ 30 in
        let few = emits-few env.c (emits_left w.block) w.block in
        let left = left-few w.block.send (owes w.block) h.keeps.0.2 in
        let both = length-append before (speaks env.c w.block).0 in
        let says : Keeping least (speaks env.c w.block).1 × Each (IsLetter env.place) (speaks env.c w.block).0 = speaks-says least w.block h.keeps in
        record {
          keeps = rested-keeps EndKeeps (speaks env.c w.block).1 w.count (λ t. tt) (λ t. says.0);
          turn = record { notes = h.notes; sent = Each-append (IsLetter env.place) before (speaks env.c w.block).0 sent says.1; few = omega (arith, few, left, both, one) };
        }

    -- what has a symbol goes out, and the RST behind it
    cut_off-fits : (w : Service) → Serves w → EndFits env.place (cut_off env w)
    cut_off-fits w h =
        let said = speaks_symbols env.c w.block in
        let few = symbols-few env.c (emits_left w.block) w.block in
        let left = left-few w.block.send (owes w.block) h.keeps.0.2 in
        let last : Said = limit_said (final_of said.1 reason.Limit) in
        let both = length-append said.0 (serving_told env last ∷ []) in
        record {
          keeps = tt;
          turn = record {
            notes = h.notes;
            sent = Each-append (IsLetter env.place) said.0 (serving_told env last ∷ []) (symbols-says (w.count - 2 ^ 30) w.block h.keeps).1 (told-sent last refl, tt);
            few = omega (arith, few, left, both);
          };
        }

    -- either end of a turn
    pub settled-fits : (w : Service) → Serves w → EndFits env.place (serving_settled env w)
    settled-fits w h = settled-keeps (EndFits env.place) env w (λ e. spoken-fits w [] tt (omega arith) h) (λ total e. cut_off-fits w h)

    -- ---- the end of a stay

    -- an endpoint that may end
    rested-tells : (b : ControlBlock) (count : ℕ) → EndTells None count (rested b count)
    rested-tells b count = rested-keeps (EndTells None count) b count
        (λ t. (cond_both b.reset reason.Peer reason.Closed (λ why. IsCount why 0) (λ u. refl) (λ u. refl), (omega arith, omega arith, omega arith))) (λ t. refl)

    pub spoken-tells : (w : Service) (before : List (Place × List ℕ)) → EndTells None w.count (spoken env w before).0
    spoken-tells w before = rested-tells (speaks env.c w.block).1 w.count

    pub settled-tells : (w : Service) → Serves w → EndTells w.over w.count (serving_settled env w).0
    settled-tells w h = go w.over h.over where
      go : (o : Option ℕ) → IfSome o (λ total. total < 2 ^ 32) → EndTells o w.count (elim o as (λ p. Ending × Turn) [ None ↦ spoken env w [] | Some total ↦ cut_off env w ]).0
      go None few = spoken-tells w []
      go (Some total) few = (tt, (omega arith, omega arith, few))
