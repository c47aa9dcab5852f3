-- What sending leaves as it was, why an endpoint that was not reset stops, and what an answer makes of one.
use Rattle.std.proofs.Common.{◌≡◌, ◌+◌, ℕ, Bool, true, false, not, ◌==◌, ◌&&◌, List, [], ◌∷◌, map, length, take, drop, Option, Some, None, refl, sym, ap, ◌∙◌}
use Rattle.std.proofs.lemmas.Bool.{both_ways, cond_both, or_parts}
use Rattle.std.proofs.lemmas.List.{take-append-drop}
use Rattle.lard_law_view.specs.Prelude.{ControlBlock, Ending, FilesAt, HasStopped, Place, Received, Said, Sending, ServeEnv, Service, Verdict, Via, advanced, after_emit, after_timer, answer, answered, blocks, closes, cut_of, discarding_on, ended_at_fin, finishing, good_path, is_closed, may_end, may_freeze, may_read, on_segment, one_if, piece_moved, queueing, retried, speaks, spoken, verdict}
use Rattle.lard_block.specs.declared.block.Found.TheVariants.{More}
use Rattle.lard_block.proofs.Division.{none-yet}
use Rattle.lard_law_connections.specs.Stops.{IsHeldBack}
use Rattle.lard_law_view.proofs.ReadingBytes.{cuts-more}
use Rattle.lard_law_view.proofs.Stopping.{stopped-alike}
use Rattle.lard_rules.proofs.Loops.{speaks_keep}
use Rattle.lard_rules.proofs.Sides.{ack-side}
use Rattle.lard_law_view.proofs.Speaking.{next-moves, resend-moves}
use Rattle.lard_rules.proofs.Endings.{StaysWith, answered-keeps, at-fin-keeps, spoken-stays}
use Rattle.lard_rules.proofs.Hearing.{emit-keeps, segment-keeps, timer-keeps}

-- ---- sending

-- as much was taken, queued and acknowledged, both are closed or neither, and both were reset or neither
abbrev pub Same : ControlBlock → ControlBlock → Type 0
Same b d = (d.recv ≡ b.recv) × (d.send.una ≡ b.send.una) × (d.send.total ≡ b.send.total) × (d.send.finished ≡ b.send.finished) × (d.reset ≡ b.reset)

same-both : (b d e : ControlBlock) → Same b d → Same d e → Same b e
same-both b d e h k = (k.0 ∙ h.0, k.1 ∙ h.1, k.2 ∙ h.2, k.3 ∙ h.3, k.4 ∙ h.4)

pub emit-same : (b : ControlBlock) → Same b (after_emit b)
emit-same b =
    let m = next-moves b.send in
    let sent : Same b (advanced b) = (refl, ap (λ (s : Sending). s.una) m, ap (λ (s : Sending). s.total) m, ap (λ (s : Sending). s.finished) m, refl) in
    emit-keeps (Same b) b (refl, refl, refl, refl, refl) sent sent

pub timer-same : (b : ControlBlock) → Same b (after_timer b)
timer-same b =
    let m = resend-moves b.send in
    let sent : Same b (retried b) = (refl, ap (λ (s : Sending). s.una) m, ap (λ (s : Sending). s.total) m, ap (λ (s : Sending). s.finished) m, refl) in
    timer-keeps (Same b) b (refl, refl, refl, refl, refl) sent sent

pub speaks-same : (c : ℕ) (b : ControlBlock) → Same b (speaks c b).1
speaks-same c b = speaks_keep c (λ b ss d. Same b d) (record { rests = λ b. (refl, refl, refl, refl, refl); says = λ b r ss d e later. same-both b (after_emit b) d (emit-same b) later }) b

-- so it has stopped as before
pub same-stopped : (b d : ControlBlock) → Same b d → HasStopped b → HasStopped d
same-stopped b d s h = stopped-alike b d s.0 s.3 h

pub same-freeze : (b d : ControlBlock) → Same b d → may_freeze d ≡ may_freeze b
same-freeze b d s = λ i. (((s.1 i) == (1 + s.2 i + one_if (s.3 i))) && not (s.3 i)) && (not (s.0 i).discarding && not (s.4 i))

pub same-held : (files : FilesAt) (b d : ControlBlock) → Same b d → IsHeldBack files b → IsHeldBack files d
same-held files b d s h =
    let unread : d.recv.unread ≡ b.recv.unread = ap (λ (r : Received). r.unread) s.0 in (
      record { skip = h.0.skip; len = h.0.len; path = h.0.path; found = ap cut_of unread ∙ h.0.found; good = ap (λ (q : List ℕ). good_path files (verdict (take h.0.len (drop h.0.skip q)))) unread ∙ h.0.good },
      s.3 ∙ h.1,
      same-freeze b d s ∙ h.2,
    )

-- an endpoint that does not end was not reset
pub ends-not : (b : ControlBlock) → may_end b ≡ false → b.reset ≡ false
ends-not b e = (or_parts b.reset (is_closed b) e).0

-- of what stays, P is so
abbrev pub Stays : (ControlBlock → Type 0) → Ending → Type 0
Stays P = StaysWith (λ b count. P b)

-- and P is so of what it said all that it may of, if that was not reset
pub spoken-calm : (P : ControlBlock → Type 0) (env : ServeEnv) (s : Service) (before : List (Place × List ℕ)) → ((speaks env.c s.block).1.reset ≡ false → P (speaks env.c s.block).1) → Stays P (spoken env s before).0
spoken-calm P env s before h = spoken-stays (λ b count. P b) env s before (λ stays. h (ends-not (speaks env.c s.block).1 stays))

-- ---- a segment closes nothing of the cluster's

pub segment-closes : (b : ControlBlock) (s : Said) → (on_segment b s).1.send.finished ≡ b.send.finished
segment-closes b s =
    let closed = (ack-side b.send s.ack s.seq s.wnd).finished in
    segment-keeps b s (λ d. d.send.finished ≡ b.send.finished) (record { rests = λ owed. refl; resets = λ t. refl; acks = λ owed c. closed; comes = λ c some. closed })

-- ---- what is left where a block is awaited

nothing-mapped : {A B : Type 0} (f : A → B) (xs : List A) → map f xs ≡ [] → xs ≡ []
nothing-mapped f [] e = refl
nothing-mapped f (x ∷ xs) e = absurd (cc)

-- behind the pairs that are skipped there is no block where there was none before them
pub none-behind : (q : List ℕ) (skip : ℕ) → cut_of q ≡ More skip → blocks (drop skip q) ≡ []
none-behind q skip e = nothing-mapped (piece_moved (length (take skip q))) (blocks (drop skip q))
    (sym (cuts-more q skip e (drop skip q)) ∙ ap blocks (take-append-drop skip q) ∙ none-yet q skip e)

-- where no whole block is left it has stopped, behind the client's FIN with its own
pub ended-stopped : (s : Service) → s.block.send.finished ≡ false → blocks s.block.recv.unread ≡ [] → HasStopped (ended_at_fin s).block
ended-stopped s open_ none = at-fin-keeps (λ (z : Service). HasStopped z.block) s
    (λ fin. record { none = λ _. none; finishes = λ _ _. refl; only_then = λ _ _. fin })
    (λ fin. record { none = λ _. none; finishes = λ _ i. absurd (both_ways s.block.recv.fin fin i); only_then = λ _ i. absurd (both_ways s.block.send.finished open_ i) })

-- ---- answers

-- an answer that closes discards what comes, and no other closes
pub answered-closes : (env : ServeEnv) (via : Via) (v : Verdict) (s : Service) → s.block.send.finished ≡ false → (answered env via v s).block.send.finished ≡ true → (answered env via v s).block.recv.discarding ≡ true
answered-closes env via v s open_ =
    let bytes = answer env.files v in
    let more = queueing s.block bytes in
    answered-keeps (λ (z : Service). z.block.send.finished ≡ true → z.block.recv.discarding ≡ true) env via v s
    (λ _ f. absurd (both_ways s.block.send.finished open_ f))
    (λ _. cond_both (closes v) (finishing (discarding_on more)) more (λ (d : ControlBlock). d.send.finished ≡ true → d.recv.discarding ≡ true) (λ _ _. refl) (λ _ f. absurd (both_ways s.block.send.finished open_ f)))

-- one that may not read, though nothing is to be reset or was, is closed
pub closed-there : (s : Service) → s.over ≡ None → s.block.reset ≡ false → may_read s ≡ false → s.block.send.finished ≡ true
closed-there s none calm e = go s.block.reset s.block.send.finished s.over calm none e where
  go : (r f : Bool) (o : Option ℕ) → r ≡ false → o ≡ None → (not r && (not f && (elim o as (λ x. Bool) [ None ↦ true | Some total ↦ false ]))) ≡ false → f ≡ true
  go true f o c n h = absurd (both_ways true c refl)
  go false true o c n h = refl
  go false false None c n h = absurd (both_ways true h refl)
  go false false (Some total) c n h = absurd (let no : Some total ≡ None = n in cc)
