-- What each rule notes and sends is of its connection, and its client stays its own.
use Rattle.std.proofs.Common.{◌≡◌, ℕ, ◌+◌, nat_lt, Bool, true, false, cond, List, [], ◌∷◌, ◌++◌, length, take, drop, Result, Ok, Err, refl, ap, ◌∙◌, arith}
use Rattle.std.proofs.lemmas.Bool.{cond_both}
use Rattle.std.proofs.lemmas.List.Sums.{fold-append}
use Rattle.std.specs.List.{fold}
use Rattle.lard_law_view.specs.Prelude.{Client, ClientBlock, ClientFires, ClientGets, ClientReceives, Front, Place, Rec, Said, SegFault, ServeEnv, Service, ToAbort, ToClient, ToGet, ToHold, ToShut, ToTake, ToWrite, Turn, Verdict, Via, abort_ready, aborted, answer, answer_code, answered, answered_step, client_aborts, client_after_timer, client_arrived, client_gets, client_holds, client_injects, client_opened, client_opens, client_rule, client_shuts, client_speaks, client_taken, client_takes, client_timed, client_timer, client_writes, client_written, cut_off, decoded, ended_at_fin, final_of, held_on, is_writing, limit_said, request, serving_settled, serving_told, shut_down, silent, speaking, speaks, speaks_symbols, spoken, station_ready_of}
use Rattle.lard_base.specs.declared.place.Reason.TheVariants as reason
use Rattle.lard_history.proofs.Each.{Each, Each-append}
use Rattle.lard_journal.specs.declared.rec.Rec.TheVariants as rec
use Rattle.lard_request.specs.declared.verdict.Code.TheVariants as code
use Rattle.lard_law_view.proofs.ClientTurns.{aborted-on, arrived-hears, held-on, ready-to, shut-on, speaks-on, taken-on, timer-on, written-on}
use Rattle.lard_law_view.proofs.EndpointSends.{AllTo, speaks-to, speaks_symbols-to}
use Rattle.lard_rules.proofs.Endings.{answered-keeps, at-fin-keeps, settled-keeps, total_with}

-- what a place may note of connection c
abbrev pub NotedAt : Place → ℕ → Rec → Type 0
NotedAt (Client e) c (rec.Wrote d bytes) = d ≡ c
NotedAt (Client e) c (rec.Accepted d bytes) = d ≡ c
NotedAt (Client e) c (rec.Eof d) = d ≡ c
NotedAt (Client e) c (rec.Aborted d) = d ≡ c
NotedAt Front c (rec.Took Front d epoch) = d ≡ c
NotedAt Front c (rec.Served Front d r code size via) = d ≡ c
NotedAt Front c (rec.Reset Front d total) = d ≡ c
NotedAt _ _ _ = ⊥

-- a turn counts the bytes of the responses that it notes
abbrev pub IsCounted : Turn → Type 0
IsCounted t = (n : ℕ) → fold answered_step n t.notes ≡ n + t.answered

-- ---- clients

pub record IsClientTurn (c : ℕ) (given : ClientBlock × Turn) : Type 0 where
  pub number : given.0.c ≡ c
  pub notes : Each (NotedAt (Client c) c) given.1.notes
  pub to : AllTo Front given.1.segments
  pub answered : IsCounted given.1

-- a client notes no response
client-counts : (c : ℕ) (r : Rec) → NotedAt (Client c) c r → (n : ℕ) → answered_step n r ≡ n
client-counts c (rec.Wrote d bytes) h n = refl
client-counts c (rec.Accepted d bytes) h n = refl
client-counts c (rec.Eof d) h n = refl
client-counts c (rec.Aborted d) h n = refl
client-counts c _ h n = absurd h

clients-count : (c : ℕ) (rs : List Rec) → Each (NotedAt (Client c) c) rs → (n : ℕ) → fold answered_step n rs ≡ n + 0
clients-count c [] e n = omega arith
clients-count c (r ∷ rs) e n = ap (λ k. fold answered_step k rs) (client-counts c r e.0 n) ∙ clients-count c rs e.1 n

speaking-turn : (c : ℕ) (x : ClientBlock) (notes : List Rec) (segments : List (Place × List ℕ)) → x.c ≡ c → Each (NotedAt (Client c) c) notes → AllTo Front segments
    → IsClientTurn c (speaking notes segments x)
speaking-turn c x notes segments n of to = let spoken = speaks-on x in record {
  number = spoken.on.number ∙ n;
  notes = of;
  to = Each-append (λ s. s.0 ≡ Front) segments (client_speaks x).0 to spoken.to;
  answered = clients-count c notes of;
}

silent-turn : (c : ℕ) (x : ClientBlock) → x.c ≡ c → IsClientTurn c (x, silent)
silent-turn c x n = record { number = n; notes = tt; to = tt; answered = λ n. omega arith }

pub opens-turn : (c isn wnd mss : ℕ) → IsClientTurn c (client_opens c isn wnd mss)
opens-turn c isn wnd mss = speaking-turn c (client_opened c isn wnd mss) [] [] refl tt tt

module _ (c : ℕ) (x : ClientBlock) (n : x.c ≡ c) where
  pub writes-turn : (bytes : List ℕ) → IsClientTurn c (client_writes x bytes)
  writes-turn bytes = cond_both {A = ClientBlock × Turn} (is_writing x) (speaking (rec.Wrote x.c bytes ∷ []) [] (client_written x bytes)) (x, silent) (IsClientTurn c)
      (λ t. speaking-turn c (client_written x bytes) (rec.Wrote x.c bytes ∷ []) [] ((written-on x bytes).number ∙ n) (n, tt) tt)
      (λ t. silent-turn c x n)

  pub shuts-turn : IsClientTurn c (client_shuts x)
  shuts-turn = speaking-turn c (shut_down x) [] [] ((shut-on x).0.number ∙ n) tt tt

  pub holds-turn : IsClientTurn c (client_holds x)
  holds-turn = speaking-turn c (held_on x) [] [] ((held-on x).number ∙ n) tt tt

  pub takes-turn : IsClientTurn c (client_takes x)
  takes-turn = speaking-turn c (client_taken x) [] [] ((taken-on x).number ∙ n) tt tt

  pub fires-turn : IsClientTurn c (client_timer x)
  fires-turn = speaking-turn c (client_after_timer x) [] (station_ready_of (client_after_timer x) (client_timed x)) ((timer-on x).number ∙ n) tt (ready-to (client_after_timer x) (client_timed x))

  pub aborts-turn : IsClientTurn c (client_aborts x)
  aborts-turn = record { number = (aborted-on x).0.number ∙ n; notes = (n, tt); to = ready-to (aborted x) (abort_ready x); answered = clients-count c (rec.Aborted x.c ∷ []) (n, tt) }

  pub injects-turn : (bytes : List ℕ) → IsClientTurn c (client_injects x bytes)
  injects-turn bytes = record { number = n; notes = tt; to = (refl, tt); answered = λ n. omega arith }

  noted-turn : (b : Bool) (bytes : List ℕ) (d : Bool) (y : ClientBlock) (segments : List (Place × List ℕ)) → y.c ≡ c → AllTo Front segments
      → IsClientTurn c (speaking (cond b (rec.Accepted y.c bytes ∷ []) [] ++ cond d (rec.Eof y.c ∷ []) []) segments y)
  noted-turn false bytes false y segments k to = speaking-turn c y [] segments k tt to
  noted-turn true bytes false y segments k to = speaking-turn c y (rec.Accepted y.c bytes ∷ []) segments k (k, tt) to
  noted-turn false bytes true y segments k to = speaking-turn c y (rec.Eof y.c ∷ []) segments k (k, tt) to
  noted-turn true bytes true y segments k to = speaking-turn c y (rec.Accepted y.c bytes ∷ rec.Eof y.c ∷ []) segments k (k, (k, tt)) to

  pub hears-turn : (r : Result Said SegFault) → IsClientTurn c (client_gets x r)
  hears-turn (Err fault) = silent-turn c x n
  hears-turn (Ok s) =
      let r = client_arrived x s in
      noted-turn (nat_lt 0 r.0.len) (take r.0.len (drop r.0.from s.payload)) r.0.eof r.1 (station_ready_of r.1 r.0.reply) ((arrived-hears x s).on.number ∙ n) (ready-to r.1 r.0.reply)

  -- whatever comes to it
  pub rule-turn : (g : ClientGets) → IsClientTurn c (client_rule c x g)
  rule-turn (ToGet path) = writes-turn (request path)
  rule-turn (ToWrite bytes) = writes-turn bytes
  rule-turn ToShut = shuts-turn
  rule-turn ToAbort = aborts-turn
  rule-turn ToHold = holds-turn
  rule-turn ToTake = takes-turn
  rule-turn ClientFires = fires-turn
  rule-turn (ClientReceives from bytes) = hears-turn (decoded bytes c ToClient)

-- ---- a place that serves

-- N is so of each note, and the segments go to client c
pub record IsServingTurn (N : Rec → Type 0) (c : ℕ) (turn : Turn) : Type 0 where
  pub notes : Each N turn.notes
  pub to : AllTo (Client c) turn.segments
  pub answered : IsCounted turn

-- N is so of what a place notes while it serves
pub record NotesServing (env : ServeEnv) (N : Rec → Type 0) : Type 0 where
  pub served : (r code size : ℕ) (via : Via) → N (rec.Served env.place env.c r code size via)
  pub reset : (total : ℕ) → N (rec.Reset env.place env.c total)

module _ (env : ServeEnv) (N : Rec → Type 0) (noting : NotesServing env N) where
  abbrev pub AreNoted : Service → Type 0
  AreNoted w = Each N w.notes × ((n : ℕ) → fold answered_step n w.notes ≡ n + w.answered)

  -- one more note
  one-noted : (w : Service) (r : Rec) (answered : ℕ) → AreNoted w → N r → ((n : ℕ) → answered_step (n + w.answered) r ≡ n + answered)
      → Each N (w.notes ++ r ∷ []) × ((n : ℕ) → fold answered_step n (w.notes ++ r ∷ []) ≡ n + answered)
  one-noted w r answered h note sum = (
    Each-append N w.notes (r ∷ []) h.0 (note, tt),
    λ n. fold-append answered_step n w.notes (r ∷ []) ∙ ap (λ k. answered_step k r) (h.1 n) ∙ sum n,
  )

  pub answered-noted : (via : Via) (v : Verdict) (w : Service) → AreNoted w → AreNoted (answered env via v w)
  answered-noted via v w h =
      let bytes : List ℕ = answer env.files v in
      let total : ℕ = total_with env v w in
      answered-keeps AreNoted env via v w (λ t. one-noted w (rec.Reset env.place env.c total) w.answered h (noting.reset total) (λ n. refl))
      (λ t. one-noted w (rec.Served env.place env.c (w.count + 1) (answer_code env.files v) (length bytes) via) (w.answered + length bytes) h
      (noting.served (w.count + 1) (answer_code env.files v) (length bytes) via) (λ n. omega arith))

  pub ended-noted : (w : Service) → AreNoted w → AreNoted (ended_at_fin w)
  ended-noted w h = at-fin-keeps AreNoted w (λ t. h) (λ t. h)

  pub spoken-turn : (w : Service) (before : List (Place × List ℕ)) → AllTo (Client env.c) before → AreNoted w → IsServingTurn N env.c (spoken env w before).1
  spoken-turn w before to h = record { notes = h.0; answered = h.1; to = Each-append (λ s. s.0 ≡ Client env.c) before (speaks env.c w.block).0 to (speaks-to env.c w.block).to }

  cut_off-turn : (w : Service) → AreNoted w → IsServingTurn N env.c (cut_off env w).1
  cut_off-turn w h = record {
    notes = h.0;
    answered = h.1;
    to = Each-append (λ s. s.0 ≡ Client env.c) (speaks_symbols env.c w.block).0 (serving_told env (limit_said (final_of (speaks_symbols env.c w.block).1 reason.Limit)) ∷ [])
        (speaks_symbols-to env.c w.block).to (refl, tt);
  }

  pub settled-turn : (w : Service) → AreNoted w → IsServingTurn N env.c (serving_settled env w).1
  settled-turn w h = settled-keeps (λ given. IsServingTurn N env.c given.1) env w (λ e. spoken-turn w [] tt h) (λ total e. cut_off-turn w h)
