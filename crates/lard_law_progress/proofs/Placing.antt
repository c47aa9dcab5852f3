-- Each rule of the front end: nothing that is left to do comes back.
use Rattle.std.proofs.Common.{◌≡◌, ◌⊎◌, inl, inr, ◌≤◌, ◌+◌, ℕ, true, false, List, [], Option, Some, None, refl, ap, ◌∙◌, subst, ⊎_elim, arith}
use Rattle.std.proofs.lemmas.Bool.{and_parts, not-true}
use Rattle.lard_law_view.specs.Prelude.{BackRow, ClientBlock, ControlBlock, EndedBy, Ending, EndpointParts, Epoch, FilesAt, FirstChoice, FrontDeed, FrontEnv, FrontGets, FrontHears, FrontPart, FrontRest, FrontRow, NodeEnv, NodePart, Part, Place, Said, ServeEnv, Service, Station, after_timer, fires_at, front_begun, front_reads, front_rest, front_rests, front_rule, is_away, listening, may_freeze, offering, on_segment, placed, rested, returned_row, serving, serving_settled, speaks, with_front}
use Rattle.lard_bound.specs.Progress.{IsWarmSegment, IsWarmWord}
use Rattle.lard_bound.specs.Seats.{Held, Waiting, seat_of}
use Rattle.lard_bound.specs.Units.{Whole, symbols_taken}
use Rattle.lard_dispatch.specs.declared.dispatch.First.TheVariants as first
use Rattle.lard_rules.specs.Front.{Does, ReturnedBy, back_part, back_rest, given_sent}
use Rattle.lard_handoff_front.specs.declared.row.FrontConn.TheVariants as stage
use Rattle.lard_law_progress.proofs.Away.{by-ending}
use Rattle.lard_law_progress.proofs.Ends.{IsSaid, ahead-self, speaks-said}
use Rattle.lard_law_progress.proofs.FrontRules.{Came, by-rest, carries, held-lasts, segment-came, timer-lasts}
use Rattle.lard_law_progress.proofs.Fronts.{FitsAt, offered-less, over-less, waiting-less}
use Rattle.lard_law_progress.proofs.FrontMessages.{assigned-lasts, ended-lasts, taken-lasts}
use Rattle.lard_law_progress.proofs.Given.{ComesBack, IsDecidedWithin, IsFresh, IsFrom, IsGone, IsRefusedWithin, IsWithin, SeatKnown}
use Rattle.lard_law_progress.proofs.Handing.{back-held, back-offered, back-over, back-waits, begins-less, begins-over}
use Rattle.lard_law_progress.proofs.Less.{Lasting}
use Rattle.lard_law_progress.proofs.Lining.{admits, line-fires, line-hears}
use Rattle.lard_law_progress.proofs.Reading.{Further, reads-further}
use Rattle.lard_law_progress.proofs.Seating.{FrontLasts, seat-at, seat-held, seat-none, seat-offering, seat-over, seat-waits}
use Rattle.lard_rules.specs.declared.places.Ending.TheVariants as ending
use Rattle.lard_rules.proofs.FrontCases.{IsAsGiven, IsAwayWith, IsBack, IsInStage, KeptByFront, KeptByReturn, KeptBySegment, back_service, front-keeps, heard_reading}

-- a place of a node that has nothing to do with it
abbrev no_node : ServeEnv → NodeEnv
no_node serve = record { serve = serve; n = 0; epoch = 0; cached = λ path. false; queue = 0; leaving = false }

-- what may be frozen is not closed
pub freeze-open : (b : ControlBlock) → may_freeze b ≡ true → b.send.finished ≡ false
freeze-open b e = not-true b.send.finished (and_parts _ _ (and_parts _ _ e).0).1

module _ (w : Whole) (K : ℕ) (files : FilesAt) (p : Part) (st : Station) where
  abbrev x : ClientBlock
  x = st.client

  abbrev To : FrontPart → Type 0
  To f = Lasting w K files p st (with_front p f) st

  abbrev Then : FrontPart → Type 0
  Then f = SeatKnown w x (seat_of (with_front p f))

  -- ---- it begins

  begins : (env : FrontEnv) (s : Said) → p.front.row ≡ None → symbols_taken x ≡ 0 → FrontLasts w K files p st (front_begun env p.front s)
  begins env s at none behind =
      let row : FrontRow = record { stage = stage.Lent; epoch = record { 0 = 1 }; ended_by = None } in
      let was = seat-none p at in
      let b = listening s env.iss in
      let e = (speaks env.serve.c b).1 in
      by-rest env.serve.c b 0 (λ (o : Ending). To (front_rests p.front row (front_rest None) stage.Held o))
      (begins-less w K files p st (front_rests p.front row (front_rest None) stage.Held (ending.Here e 0)) e was (seat-held p p.front row (front_rest None) e 0) (omega (arith, none)))
      (λ last. begins-over w K files p st (front_rests p.front row (front_rest None) stage.Held (ending.Over last)) last was (seat-over p p.front row (front_rest None) stage.Held last))

  -- ---- whatever comes

  -- a segment is warm, an end is of a stay that is over, and what comes back is with its node
  abbrev pub IsAwaited : FrontGets → Type 0
  IsAwaited (FrontHears bytes given) = IsWarmSegment x given
  IsAwaited (EndedBy n epoch last) = (row : FrontRow) → p.front.row ≡ Some row → is_away epoch row.stage ≡ true → IsGone (seat_of p)
  IsAwaited (ReturnedBy n epoch given) = (row : FrontRow) (parts : EndpointParts) → IsBack p.front n epoch given row parts
      → ComesBack p x n epoch given row parts
  IsAwaited _ = Unit {0}

  module _ (env : FrontEnv) (known : SeatKnown w x (seat_of p)) (heard_all : symbols_taken x ≤ w.answers + 2) (fresh : IsFresh p.nodes p.front.row) where
    abbrev Owes : FrontDeed → Type 0
    Owes d = FrontLasts w K files p st d

    abbrev rest : FrontRest
    rest = front_rest p.front.rest

    abbrev count : ℕ
    count = rest.count

    -- what is known behind a turn, where the front end still has it
    fits : (row : FrontRow) (o : Ending) → Then (front_rests p.front row rest stage.Held o) → (e : ControlBlock) (n : ℕ) → o ≡ ending.Here e n → FitsAt w x e n
    fits row o behind e n same =
        let sits : seat_of (with_front p (front_rests p.front row rest stage.Held o)) ≡ Held e n = ap (λ (o : Ending). seat_of (with_front p (front_rests p.front row rest stage.Held o))) same ∙ seat-held p p.front row rest e n in
        let h : SeatKnown w x (Held e n) = subst (SeatKnown w x) sits behind in
        record { acked = h.0; taken_in = heard_all; few = h.1 }

    -- the front end has it, and reading the requests of its endpoint came to this
    record HasRead (v : Service) (o : Option (List ℕ)) : Type 0 where
      block : ControlBlock
      held : seat_of p ≡ Held block count
      acked : block.send.una ≤ symbols_taken x
      heard : ControlBlock
      came : Came w K files p st block count held acked heard
      further : Further (serving heard count []) v
      may : (o ≡ None) ⊎ (may_freeze v.block ≡ true)

    has-read : (s : Said) → IsWarmWord x s x.phase → (row : FrontRow) (b : ControlBlock) → IsInStage p.front row (stage.Held b)
        → let r = front_reads env.serve (heard_reading p.front b s) in HasRead r.service r.target
    has-read s warm row b at =
        let held = seat-at p row (stage.Held b) at.0 at.1 in
        let knows : SeatKnown w x (Held b count) = subst (SeatKnown w x) held known in
        let d = (on_segment b s).1 in
        let further = reads-further env.serve (serving d count []) in
        record { block = b; held = held; acked = knows.0; heard = d; came = segment-came w K files p st b count held knows.0 (no_node env.serve) s warm knows.2; further = further.0; may = further.1 }

    -- or it comes back, with an endpoint to which all was acknowledged that the client took
    record BackRead (v : Service) : Type 0 where
      given : Option EndpointParts
      n : ℕ
      epoch : ℕ
      served : ℕ
      from : IsFrom given n epoch served (seat_of p)
      una : symbols_taken x ≤ v.block.send.una
      more : served ≤ v.count

    abbrev Reads : Service → Option (List ℕ) → Type 0
    Reads v o = HasRead v o ⊎ BackRead v

    held-read : (row : FrontRow) (b : ControlBlock) → IsInStage p.front row (stage.Held b) → (v : Service) (o : Option (List ℕ)) → Reads v o → HasRead v o
    held-read row b at v o (inl h) = h
    held-read row b at v o (inr h) = absurd (subst (IsFrom h.given h.n h.epoch h.served) (seat-at p row (stage.Held b) at.0 at.1) h.from)

    -- a request is placed: the connection is on its way to a node
    goes : (row : FrontRow) (v : Service) (path : List ℕ) (choice : FirstChoice) → p.front.row ≡ Some row → HasRead v (Some path) → Owes (Does (placed env p.front row rest v path (first.Go choice)))
    goes row v path choice at h behind =
        let f = offering env row v path choice.node in
        let sits = seat-offering p env row v path choice.node (subst (IsFresh p.nodes) at fresh choice.node) in
        let some : 1 ≤ w.requests = subst (SeatKnown w x) sits behind in
        let self : IsSaid v.block v.block = record { ahead = ahead-self v.block.send; una = refl; finished = refl; wnd = refl; recv = refl; reset = refl } in
        let may : may_freeze v.block ≡ true = ⊎_elim (λ (none : Some path ≡ None). absurd (let bad : ◌≡◌ {A = Option (List ℕ)} (Some path) None = none in cc)) (λ (m : may_freeze v.block ≡ true). m) h.may in
        offered-less w K files p st h.block count h.held h.acked f choice.node (row.epoch.0 + 1) v.block v.count sits
        (carries w K files p st h.block count h.held h.acked (no_node env.serve) h.heard v v.block h.came h.further self) (freeze-open v.block may) some

    -- or it waits
    waits : (row : FrontRow) (v : Service) (path : List ℕ) → HasRead v (Some path) → Owes (Does (placed env p.front row rest v path first.Waits))
    waits row v path h behind =
        let next : FrontRest = record rest { target = Some path } in
        by-rest env.serve.c v.block v.count (λ (o : Ending). Then (front_rests p.front row next stage.Waiting o) → To (front_rests p.front row next stage.Waiting o))
        (λ behind.
        let e = (speaks env.serve.c v.block).1 in
        let f = front_rests p.front row next stage.Waiting (ending.Here e v.count) in
        let sits = seat-waits p p.front row next e v.count in
        let k : SeatKnown w x (Waiting e v.count) = subst (SeatKnown w x) sits behind in
        waiting-less w K files p st h.block count h.held h.acked f e v.count sits
        (carries w K files p st h.block count h.held h.acked (no_node env.serve) h.heard v e h.came h.further (speaks-said env.serve.c v.block)) k.1)
        (λ last behind. over-less w K files p st h.block count h.held h.acked (front_rests p.front row next stage.Waiting (ending.Over last)) last (seat-over p p.front row next stage.Waiting last))
        behind

    by-segment : (bytes : List ℕ) (s : Said) → IsWarmWord x s x.phase → KeptBySegment env p.front bytes s Reads Owes
    by-segment bytes s warm = record {
      drops = tt;
      begins = λ none plain. begins env s none (subst (SeatKnown w x) (seat-none p none) known);
      reads = λ row b at. inl (has-read s warm row b at);
      holds = λ row b v at r behind. let h = held-read row b at v None r in held-lasts w K files p st h.block count h.held h.acked
          (no_node env.serve) env.serve p.front row rest h.heard h.came v h.further
          (λ e n same. fits row (serving_settled env.serve v).0 behind e n same);
      hands = λ row b v path choice at h is. goes row v path choice at.0 (held-read row b at v (Some path) h);
      waits = λ row b v path at h is. waits row v path (held-read row b at v (Some path) h);
      stays = λ row b at. line-hears w K files p st row b at.0 at.1 known env bytes s;
      forwards = λ row n e at. tt;
      words = λ row last at. tt;
    }

    held-fires : (row : FrontRow) (b : ControlBlock) → IsInStage p.front row (stage.Held b) → Owes (fires_at env p.front row (stage.Held b))
    held-fires row b at behind =
        let held = seat-at p row (stage.Held b) at.0 at.1 in
        let knows : SeatKnown w x (Held b count) = subst (SeatKnown w x) held known in
        timer-lasts w K files p st b count held knows.0 (no_node env.serve) env.serve.c p.front row rest (λ e n same. fits row (rested (speaks env.serve.c (after_timer b)).1 count) behind e n same)

    -- ---- it comes back

    within-next : (e : ℕ) (q : NodePart) → IsDecidedWithin e q → IsDecidedWithin (e + 1) q
    within-next e q h = (took q.row h.0, refused q.beside.refused h.1) where
      took : (o : Option BackRow) → IsWithin e o → IsWithin (e + 1) o
      took None l = tt
      took (Some r) l = omega (arith, l)

      refused : (o : Option Epoch) → IsRefusedWithin e o → IsRefusedWithin (e + 1) o
      refused None l = tt
      refused (Some d) l = omega (arith, l)

    module _ (said : List (Place × List ℕ)) (given : Option EndpointParts) (n epoch : ℕ) (row : FrontRow) (parts : EndpointParts)
        (found : p.front.row ≡ Some row)
        (back : ComesBack p x n epoch given row parts) where
      abbrev now : FrontPart
      now = back_part p.front row parts

      abbrev next : FrontRow
      next = returned_row parts row

      back-read : (v : Service) (o : Option (List ℕ)) → Reads v o → BackRead v
      back-read v o (inl h) = absurd (subst (IsFrom given n epoch parts.served) h.held back.from)
      back-read v o (inr h) = h

      reads-back : let r = front_reads env.serve (record { service = back_service env row parts; target = None }) in BackRead r.service
      reads-back =
          let h = (reads-further env.serve (back_service env row parts)).0 in
          let v = (front_reads env.serve (record { service = back_service env row parts; target = None })).service in
          let una : v.block.send.una ≡ parts.una = h.una in
          let all : symbols_taken x ≤ parts.una = back.una in
          record { given = given; n = n; epoch = epoch; served = parts.served; from = back.from; una = omega (arith, una, all); more = h.more }

      by-return : KeptByReturn env p.front said row parts Reads Owes
      by-return = record {
        reads = inr reads-back;
        holds = λ v r behind. let h = back-read v None r in
            by-ending env.serve v (λ (o : Ending). To (front_rests now next (back_rest parts) stage.Held o))
            (λ none.
            let e = (speaks env.serve.c v.block).1 in
            let same : e.send.una ≡ v.block.send.una = (speaks-said env.serve.c v.block).una in
            let all : symbols_taken x ≤ v.block.send.una = h.una in
            back-held w K files p st h.given h.n h.epoch h.served h.from (front_rests now next (back_rest parts) stage.Held (ending.Here e v.count)) e v.count
            (seat-held p now next (back_rest parts) e v.count) (omega (arith, same, all)) h.more)
            (λ last. back-over w K files p st h.given h.n h.epoch h.served h.from (front_rests now next (back_rest parts) stage.Held (ending.Over last)) last
            (seat-over p now next (back_rest parts) stage.Held last));
        hands = λ v path choice r is behind. let h = back-read v (Some path) r in
            back-offered w K files p st h.given h.n h.epoch h.served h.from (offering env next v path choice.node) choice.node (next.epoch.0 + 1) v.count
            (seat-offering p env next v path choice.node (within-next row.epoch.0 (p.nodes choice.node)
            (subst (IsFresh p.nodes) found fresh choice.node))) h.more;
        waits = λ v path r is behind. let h = back-read v (Some path) r in
            let more : FrontRest = record (back_rest parts) { target = Some path } in
            by-rest env.serve.c v.block v.count (λ (o : Ending). To (front_rests now next more stage.Waiting o))
            (let e = (speaks env.serve.c v.block).1 in
            let same : e.send.una ≡ v.block.send.una = (speaks-said env.serve.c v.block).una in
            let all : symbols_taken x ≤ v.block.send.una = h.una in
            back-waits w K files p st h.given h.n h.epoch h.served h.from (front_rests now next more stage.Waiting (ending.Here e v.count)) e v.count
            (seat-waits p now next more e v.count) (omega (arith, same, all)) h.more)
            (λ last. back-over w K files p st h.given h.n h.epoch h.served h.from (front_rests now next more stage.Waiting (ending.Over last)) last
            (seat-over p now next more stage.Waiting last));
      }

    away-row : (row : FrontRow) (n : ℕ) (e : Epoch) → IsAwayWith p.front row n e → p.front.row ≡ Some row
    away-row row n e at = ⊎_elim (λ (h : IsInStage p.front row (stage.Offering n e)). h.0) (λ (h : IsInStage p.front row (stage.Moved n e)). h.0) at

    by-rule : KeptByFront env p.front IsAwaited Reads Owes
    by-rule = record {
      drops = tt;
      hears = by-segment;
      fires = λ m. record {
        drops = tt;
        holds = held-fires;
        stays = λ row b at. line-fires w K files p st row b at.0 at.1 known env;
        resends = λ row n e at. tt;
      };
      takes = λ n epoch m row node e at same. taken-lasts w K files p st row node e epoch at.0 at.1 same;
      tags_again = λ n epoch ask m rest found there same some. tt;
      assigns_next = λ n epoch ask m rest found there next. assigned-lasts w K files p st env n epoch ask rest found;
      ends_again = λ n epoch last m row found away again. tt;
      ends = λ n epoch last gone row found away. ended-lasts w K files p st env n epoch last row (gone row found away);
      gives_again = λ n epoch parts m row found past. tt;
      returns = λ n epoch given back row parts at. by-return (given_sent env.serve.c n epoch given) given n epoch row parts (away-row row n at.from at.at)
          (back row parts at);
      admits = λ choice made met row b path at target behind. admits w K files p st row b at.0 at.1 known env choice path (subst (IsFresh p.nodes) at.0 fresh);
    }

    pub front-lasts : (g : FrontGets) → IsAsGiven env p.front g → IsAwaited g → Owes (front_rule env p.front g)
    front-lasts = front-keeps env p.front IsAwaited Reads Owes by-rule
