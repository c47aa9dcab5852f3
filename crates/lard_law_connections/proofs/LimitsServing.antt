-- What a place that serves a connection counts, whichever place it is.
use Rattle.std.proofs.Common.{◌≡◌, ◌≤◌, ◌+◌, ◌^◌, ℕ, true, false, List, [], ◌∷◌, ◌++◌, length, Option, Some, None, arith, refl, ◌∙◌, sym, subst}
use Rattle.std.proofs.lemmas.Bool.{and_parts, cond_both, ltb-false, ltb-true, not-true}
use Rattle.std.proofs.lemmas.List.Sums.{fold-append}
use Rattle.lard_law_view.specs.Prelude.{Client, ControlBlock, Ending, IsControlBlock, Place, Rec, ServeEnv, Service, Turn, Verdict, Via, answer, answer_code, answered, closed_behind, closes, cut_off, discarding_on, ended_at_fin, final_of, finishing, limit_said, may_read, queueing, rested, serving_settled, serving_told, speaks, speaks_symbols, spoken}
use Rattle.lard_base.specs.declared.place.Reason.TheVariants.{Limit}
use Rattle.lard_law_connections.specs.LimitsCounts.{IsWithinStream, Served}
use Rattle.lard_law_connections.proofs.LimitsRows.{CountsBy, IsMute, after, after_all, counts-append, mute-after, mute-counts}
use Rattle.lard_endpoint.proofs.Sound.{after_emit-sound, queueing-sound}
use Rattle.lard_history.proofs.Each.{Each, Each-append}
use Rattle.lard_journal.specs.declared.rec.Rec.TheVariants as rec
use Rattle.lard_rules.specs.declared.places.Ending.TheVariants as ending
use Rattle.lard_rules.proofs.Endpoints.{closed-sound, finishing-sound}
use Rattle.lard_rules.proofs.Loops.{speaks_keep}
use Rattle.lard_law_view.proofs.EndpointSends.{AllTo, speaks-to, speaks_symbols-to}
use Rattle.lard_rules.proofs.Endings.{StaysWith, answered-keeps, at-fin-keeps, rested-keeps, settled-keeps, settled-stays, spoken-stays}

-- ---- what may be read on

none-over : (o : Option ℕ) → elim o [ None ↦ true | Some total ↦ false ] ≡ true → o ≡ None
none-over None e = refl
none-over (Some total) e = absurd cc

pub reads-within : (s : Service) → may_read s ≡ true → s.over ≡ None
reads-within s may = none-over s.over (and_parts _ _ ((and_parts _ _ may).1)).1

pub reads-unfinished : (s : Service) → may_read s ≡ true → s.block.send.finished ≡ false
reads-unfinished s may = not-true s.block.send.finished (and_parts _ _ ((and_parts _ _ may).1)).0

closed-many : (v : Verdict) (b : ControlBlock) → (closed_behind v b).send.total ≡ b.send.total
closed-many v b = cond_both (closes v) (finishing (discarding_on b)) b (λ d. d.send.total ≡ b.send.total) (λ t. refl) (λ t. refl)

-- ---- the end of a turn

abbrev pub EndCounts : ℕ → Served → Ending → Type 0
EndCounts stream v (ending.Here b count) = IsWithinStream stream v b.send.total
EndCounts stream v (ending.Over last) = Unit {0}

-- A turn that is over, where so much was served before it: its notes may stand, and where the connection stays its endpoint counts
-- what was served.
pub record TurnCounts (stream c : ℕ) (u : Served) (given : Ending × Turn) : Type 0 where
  pub told : CountsBy stream c u given.1.notes
  pub ends : EndCounts stream (after_all u given.1.notes) given.0
  pub to : AllTo (Client c) given.1.segments

-- ---- counts, where so much was served before the turn

module _ (env : ServeEnv) (u : Served) where
  -- what the endpoint counts, unless the connection is to be reset
  abbrev pub UnlessOver : Option ℕ → ℕ → Served → Type 0
  UnlessOver None total v = IsWithinStream env.stream v total
  UnlessOver (Some over) total v = Unit {0}

  -- a service between two of its turns
  pub record IsServing (s : Service) : Type 0 where
    pub told : CountsBy env.stream env.c u s.notes
    pub counts : UnlessOver s.over s.block.send.total (after_all u s.notes)

  -- another endpoint with as many bytes
  pub reblocked : (s : Service) (b : ControlBlock) → b.send.total ≡ s.block.send.total → IsServing s → IsServing (record s { block = b })
  reblocked s b e h = record { told = h.told; counts = subst (λ (n : ℕ). UnlessOver s.over n (after_all u s.notes)) (sym e) h.counts }

  -- notes that tell nothing of it
  pub noted-mute : (s : Service) (rs : List Rec) → Each IsMute rs → IsServing s → IsServing (record s { notes = s.notes ++ rs })
  noted-mute s rs mute h =
      let same : after_all u (s.notes ++ rs) ≡ after_all u s.notes = fold-append after u s.notes rs ∙ mute-after (after_all u s.notes) rs mute in
      record {
        told = counts-append env.stream env.c u s.notes rs h.told (mute-counts env.stream env.c (after_all u s.notes) rs mute);
        counts = subst (UnlessOver s.over s.block.send.total) (sym same) h.counts;
      }

  pub answered-serving : (via : Via) (v : Verdict) (s : Service) → s.over ≡ None → IsServing s → IsServing (answered env via v s)
  answered-serving via v s none h =
      let bytes : List ℕ = answer env.files v in
      let total : ℕ = s.block.send.total in
      let w : Served = after_all u s.notes in
      let c : IsWithinStream env.stream w total = subst (λ (o : Option ℕ). UnlessOver o total w) none h.counts in
      let reset : Rec = rec.Reset env.place env.c (total + length bytes) in
      let served : Rec = rec.Served env.place env.c (s.count + 1) (answer_code env.files v) (length bytes) via in
      answered-keeps IsServing env via v s
      (λ over. record {
        told = counts-append env.stream env.c u s.notes (reset ∷ []) h.told ((refl, ltb-true env.stream (total + length bytes) over, c.not_reset), tt);
        counts = tt;
      })
      (λ within.
      let le : total + length bytes ≤ env.stream = ltb-false env.stream (total + length bytes) within in
      let are : w.bytes ≡ total = c.bytes in
      let many : (closed_behind v (queueing s.block bytes)).send.total ≡ total + length bytes = closed-many v (queueing s.block bytes) in
      record {
        told = counts-append env.stream env.c u s.notes (served ∷ []) h.told ((refl, omega (arith, le, are), c.not_reset), tt);
        counts = subst (λ (x : Served). IsWithinStream env.stream x (closed_behind v (queueing s.block bytes)).send.total) (sym (fold-append after u s.notes (served ∷ [])))
            (record { bytes = omega (arith, are, many); within = omega (arith, le, many); not_reset = c.not_reset });
      })

  pub ended-serving : (s : Service) → IsServing s → IsServing (ended_at_fin s)
  ended-serving s h = at-fin-keeps IsServing s (λ t. reblocked s (finishing s.block) refl h) (λ t. h)

  -- ---- the end of a turn

  rested-counts : (v : Served) (b : ControlBlock) (count : ℕ) → IsWithinStream env.stream v b.send.total → EndCounts env.stream v (rested b count)
  rested-counts v b count h = rested-keeps (EndCounts env.stream v) b count (λ t. tt) (λ t. h)

  pub spoken-counts : (s : Service) (before : List (Place × List ℕ)) → s.over ≡ None → AllTo (Client env.c) before → IsServing s → TurnCounts env.stream env.c u (spoken env s before)
  spoken-counts s before none to h =
      let said = speaks-to env.c s.block in
      let w : Served = after_all u s.notes in
      let c : IsWithinStream env.stream w s.block.send.total = subst (λ (o : Option ℕ). UnlessOver o s.block.send.total w) none h.counts in
      record {
        told = h.told;
        ends = rested-counts w (speaks env.c s.block).1 s.count (subst (IsWithinStream env.stream w) (sym said.many) c);
        to = Each-append (λ m. m.0 ≡ Client env.c) before (speaks env.c s.block).0 to said.to;
      }

  cut_off-counts : (s : Service) → IsServing s → TurnCounts env.stream env.c u (cut_off env s)
  cut_off-counts s h =
      let said = speaks_symbols-to env.c s.block in
      record {
        told = h.told;
        ends = tt;
        to = Each-append (λ m. m.0 ≡ Client env.c) (speaks_symbols env.c s.block).0 (serving_told env (limit_said (final_of (speaks_symbols env.c s.block).1 Limit)) ∷ []) said.to (refl, tt);
      }

  pub settled-counts : (s : Service) → IsServing s → TurnCounts env.stream env.c u (serving_settled env s)
  settled-counts s h = settled-keeps (TurnCounts env.stream env.c u) env s (λ e. spoken-counts s [] e tt h) (λ total e. cut_off-counts s h)

  -- an endpoint that is here, as it begins a turn
  pub begins-serving : (b d : ControlBlock) (count : ℕ) → d.send.total ≡ b.send.total → IsWithinStream env.stream u b.send.total → IsServing (record { block = d; count = count; notes = []; answered = 0; over = None })
  begins-serving b d count e h = record { told = tt; counts = subst (IsWithinStream env.stream u) (sym e) h }

-- ---- the endpoint stays sound

pub answered-sound : (env : ServeEnv) (via : Via) (v : Verdict) (s : Service) → env.stream ≤ 2 ^ 30 → s.block.send.finished ≡ false → IsControlBlock s.block → IsControlBlock (answered env via v s).block
answered-sound env via v s most unfinished h =
    let bytes : List ℕ = answer env.files v in
    let total : ℕ = s.block.send.total in
    answered-keeps (λ (t : Service). IsControlBlock t.block) env via v s
    (λ t. h)
    (λ t. let le : total + length bytes ≤ env.stream = ltb-false env.stream (total + length bytes) t in closed-sound v (queueing s.block bytes) (queueing-sound s.block bytes unfinished (omega (arith, le, most)) h))

pub ended-sound : (s : Service) → IsControlBlock s.block → IsControlBlock (ended_at_fin s).block
ended-sound s h = at-fin-keeps (λ (t : Service). IsControlBlock t.block) s (λ t. finishing-sound s.block h) (λ t. h)

speaks-sound : (c : ℕ) (b : ControlBlock) → IsControlBlock b → IsControlBlock (speaks c b).1
speaks-sound c b = speaks_keep c (λ b ss d. IsControlBlock b → IsControlBlock d) (record { rests = λ b h. h; says = λ b r ss d e later h. later (after_emit-sound b h) }) b

-- where the connection stays
abbrev pub EndSound : Ending → Type 0
EndSound = StaysWith (λ b count. IsControlBlock b)

pub spoken-sound : (env : ServeEnv) (s : Service) (before : List (Place × List ℕ)) → IsControlBlock s.block → EndSound (spoken env s before).0
spoken-sound env s before h = spoken-stays (λ b count. IsControlBlock b) env s before (λ stays. speaks-sound env.c s.block h)

pub settled-sound : (env : ServeEnv) (s : Service) → IsControlBlock s.block → EndSound (serving_settled env s).0
settled-sound env s h = settled-stays (λ b count. IsControlBlock b) env s (λ none stays. speaks-sound env.c s.block h)
