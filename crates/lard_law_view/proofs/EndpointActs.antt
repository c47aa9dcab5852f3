-- Each rule of the front end takes no less than was taken, and acknowledges no more.
use Rattle.std.proofs.Common.{◌≡◌, ◌≤◌, ◌+◌, ℕ, Bool, true, false, cond, ◌&&◌, ◌||◌, List, [], ◌∷◌, ◌++◌, arith, refl, ap, ◌∙◌, sym, subst}
use Rattle.std.proofs.lemmas.Bool.{and_parts, eqb-true}
use Rattle.lard_law_view.specs.Prelude.{ControlBlock, Ending, IsSendable, IsStream, Over, Place, Reason, ServeEnv, Service, Stream, Turn, cut_off, emits_left, end_reason, final_of, is_clear, is_closed, limit_said, may_end, rested, seq_add, seq_offset, serving_settled, serving_told, snd_nxt, speaks, speaks_symbols, spoken, symbols}
use Rattle.lard_base.specs.declared.place.Reason.TheVariants as reason
use Rattle.lard_law_view.proofs.EndpointStreams.{IsBetween}
use Rattle.lard_law_view.proofs.Acked.{Acks, EndHolds, RepliesMay, ReplyMay, ServingActed, heard_at, heard_by}
use Rattle.lard_law_view.proofs.EndpointArriving.{Holds}
use Rattle.lard_law_view.proofs.EndpointReading.{Spans}
use Rattle.lard_law_view.proofs.EndpointSaying.{Left, Spoke, awaits-acks, emits-spoke, emits_symbols-spoke, replies_may-append}
use Rattle.lard_rules.specs.declared.places.Ending.TheVariants as ending
use Rattle.lard_seq.proofs.Laws.{offset-add}
use Rattle.lard_law_view.proofs.Speaking.{one_small}
use Rattle.lard_rules.proofs.Endings.{rested-keeps, settled-keeps}

-- ---- the end of a turn

-- the last RCV.NXT tells how much was taken
pub ended-heard : (w out : Stream) (b : ControlBlock) (why : Reason) → IsStream w → IsBetween w out b → heard_at w.first (ending.Over (final_of b why)) ≡ heard_by b.recv
ended-heard w out b why is h =
    let sound = h.hears.sound.received in
    let one = one_small b.recv.fin in
    ap (λ i. seq_offset (seq_add i (heard_by b.recv)) w.first) h.hears.first ∙ offset-add w.first (heard_by b.recv) is.number (omega arith)

-- so it does whether the connection ended or not
rested-heard : (w out : Stream) (b : ControlBlock) (count : ℕ) → IsStream w → IsBetween w out b → heard_at w.first (rested b count) ≡ heard_by b.recv
rested-heard w out b count is h = rested-keeps (λ (e : Ending). heard_at w.first e ≡ heard_by b.recv) b count (λ _. ended-heard w out b (end_reason b) is h) (λ _. refl)

-- where both sides closed, all that was sent is acknowledged
closed-acks : (w out : Stream) (b : ControlBlock) (first most : ℕ) → IsBetween w out b → out.first ≡ first → b.send.una ≤ most → is_closed b ≡ true → Acks first most (snd_nxt b)
closed-acks w out b first most h e le t =
    let sound = h.speaks.sound in
    let sent = sound.sent in
    let queued : b.send.nxt ≤ symbols b.send = sound.queued in
    let clear : b.send.una ≡ symbols b.send = eqb-true b.send.una (symbols b.send) (and_parts b.send.finished (is_clear b.send) (and_parts (b.send.finished && is_clear b.send) b.recv.fin t).0).1 in
    let iss : b.send.iss ≡ first = sym (ap (λ x. x.first) h.out_is) ∙ e in
    (b.send.nxt, ap (λ i. seq_add i b.send.nxt) iss, omega arith)

-- an endpoint that ended was reset by a client that aborted, or both sides closed
ended-holds : (w out : Stream) (b : ControlBlock) (first most : ℕ) (aborted : Bool) → IsBetween w out b → out.first ≡ first → Holds most aborted b → may_end b ≡ true
    → EndHolds first most aborted (ending.Over (final_of b (end_reason b)))
ended-holds w out b first most aborted h e k t = go b.reset refl t where
  go : (r : Bool) → b.reset ≡ r → (r || is_closed b) ≡ true → EndHolds first most aborted (ending.Over (final_of b (cond r reason.Peer reason.Closed)))
  go true s u = (λ f. absurd (cc), λ f. k.1 s)
  go false s u = (λ f. closed-acks w out b first most h e k.0 u, λ f. absurd (cc))

-- and so does what comes of it at the end of a turn
rested-holds : (w out : Stream) (b : ControlBlock) (count first most : ℕ) (aborted : Bool) → IsBetween w out b → out.first ≡ first → Holds most aborted b
    → EndHolds first most aborted (rested b count)
rested-holds w out b count first most aborted h e k = rested-keeps (EndHolds first most aborted) b count (λ t. ended-holds w out b first most aborted h e k t) (λ _. k)

-- what leaves it as it was keeps what holds
left-holds : (b d : ControlBlock) (most : ℕ) (aborted : Bool) → Left b d → Holds most aborted b → Holds most aborted d
left-holds b d most aborted l h = (let same = l.1 in let le = h.0 in omega arith, λ t. h.1 (sym l.2 ∙ t))

-- of a client that took so much of what the cluster sends, and whose stream is w
module _ (env : ServeEnv) (w : Stream) (first most : ℕ) (aborted : Bool) (is : IsStream w) where
  abbrev pub Turns : ℕ → Ending × Turn → Type 0
  Turns before given = ServingActed env.c w.first first most aborted before given

  -- these segments go out, and then what the endpoint may send
  pub spoken-acts : (n : ℕ) (s : Service) (before : List (Place × List ℕ)) → n ≤ heard_by s.block.recv → Spans w first s.block → Holds most aborted s.block
      → RepliesMay env.c w.first (heard_by s.block.recv) before → Turns n (spoken env s before)
  spoken-acts n s before grows spans holds replies =
      let said = speaks env.c s.block in
      let out = spans.0 in
      let talk : Spoke env.c w out s.block said = emits-spoke env.c w out (emits_left s.block) s.block spans.2 in
      let same : heard_at w.first (rested said.1 s.count) ≡ heard_by s.block.recv = rested-heard w out said.1 s.count is talk.between ∙ ap heard_by talk.left.0 in
      record {
        grows = omega arith;
        holds = rested-holds w out said.1 s.count first most aborted talk.between spans.1 (left-holds s.block said.1 most aborted talk.left holds);
        sent = subst (λ (m : ℕ). RepliesMay env.c w.first m (before ++ said.0)) (sym same) (replies_may-append env.c w.first (heard_by s.block.recv) before said.0 replies talk.sent);
      }

  -- the RST at the stream limit acknowledges what was taken
  limit-may : (out : Stream) (b : ControlBlock) → IsBetween w out b → IsSendable (limit_said (final_of b reason.Limit)) × ReplyMay w.first (heard_by b.recv) (limit_said (final_of b reason.Limit))
  limit-may out b h = (
    record { seq_fits = omega arith; ack_fits = omega arith; wnd_fits = omega arith; some_mss = tt; small_mss = tt; small_payload = omega arith; no_ack = λ f. absurd (cc) },
    λ _. awaits-acks w out b h,
  )

  -- at the stream limit what has a symbol goes out, and then the RST
  cut_off-acts : (n : ℕ) (s : Service) → n ≤ heard_by s.block.recv → Spans w first s.block → Turns n (cut_off env s)
  cut_off-acts n s grows spans =
      let said = speaks_symbols env.c s.block in
      let out = spans.0 in
      let talk : Spoke env.c w out s.block said = emits_symbols-spoke env.c w out (emits_left s.block) s.block spans.2 in
      let last = final_of said.1 reason.Limit in
      let recv : heard_by said.1.recv ≡ heard_by s.block.recv = ap heard_by talk.left.0 in
      let same : heard_at w.first (ending.Over last) ≡ heard_by s.block.recv = ended-heard w out said.1 reason.Limit is talk.between ∙ recv in
      let may = limit-may out said.1 talk.between in
      let reply : RepliesMay env.c w.first (heard_by said.1.recv) (serving_told env (limit_said last) ∷ []) = ((refl, (limit_said last, refl, may.0, may.1)), tt) in
      record {
        grows = omega arith;
        holds = (λ e. absurd (cc), λ e. absurd (cc));
        sent = subst (λ (m : ℕ). RepliesMay env.c w.first m (said.0 ++ serving_told env (limit_said last) ∷ [])) (sym same)
            (replies_may-append env.c w.first (heard_by s.block.recv) said.0 (serving_told env (limit_said last) ∷ []) talk.sent
            (subst (λ (m : ℕ). RepliesMay env.c w.first m (serving_told env (limit_said last) ∷ [])) recv reply));
      }

  -- either is the end of a turn
  pub settled-acts : (n : ℕ) (s : Service) → n ≤ heard_by s.block.recv → Spans w first s.block → Holds most aborted s.block → Turns n (serving_settled env s)
  settled-acts n s grows spans holds = settled-keeps (Turns n) env s (λ e. spoken-acts n s [] grows spans holds tt) (λ total e. cut_off-acts n s grows spans)
