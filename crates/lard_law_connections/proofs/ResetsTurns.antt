-- In a turn of a place, RST is sent only behind the record of a reset, and a connection ends for the stream limit only there.
use Rattle.std.proofs.Common.{Bool, Err, List, None, Ok, Option, Result, Some, [], ap, arith, cond, drop, false, length, nat_eq, nat_lt, not, refl, slice_index, subst, sym, take, true, ℕ, ◌++◌, ◌+◌, ◌-◌, ◌∙◌, ◌∷◌, ◌≡◌}
use Rattle.std.proofs.lemmas.Bool.{cond_both}
use Rattle.std.proofs.lemmas.List.Sums.{fold-append}
use Rattle.lard_law_view.specs.Prelude.{Client, ControlBlock, Done, Ending, Final, Flags, Found, Front, IsSendable, More, Node, Place, Reading, Ready, Reason, Rec, Said, SegFault, ServeEnv, Service, Step, ToClient, Turn, Verdict, Via, after_emit, after_timer, answer, answered, are_ports, begins_at, block_at, checksum_of, cut_of, cut_off, decoded, emitted, end_reason, ended_at_fin, filled, final_of, flags_byte, flags_of, front_reads, good_path, is_telling, last_ack, last_words, limit_said, may_read, mss_in, reading_left, reading_turn, reads_block, reads_found, refusal, reset_step, serving_consumed, serving_ready_of, serving_settled, serving_told, speaks, speaks_symbols, spelled, spoken, timed, tombstone, with_data, with_mss, word_at}
use Rattle.lard_base.specs.declared.place.Reason.TheVariants.{Closed, Limit, Peer}
use Rattle.lard_base.specs.declared.place.Via.TheVariants.{Own}
use Rattle.lard_block.specs.declared.block.Found.TheVariants as found
use Rattle.lard_endpoint.proofs.Windows.{emitted-tells, timed-tells}
use Rattle.lard_history.proofs.Each.{Each, Each-append, Each-weaker}
use Rattle.lard_history.proofs.Seeing.{same_number}
use Rattle.lard_journal.specs.declared.rec.Rec.TheVariants as rec
use Rattle.lard_law_connections.specs.ResetsLaws.{EndsAfter, HasRstOnly}
use Rattle.lard_law_connections.proofs.LimitsWorking.{KeptByServing}
use Rattle.lard_law_connections.proofs.ResetsRows.{AllKeepRst, KeepsRst, Since, resets-stay, resets_on, since-false}
use Rattle.lard_request.specs.declared.verdict.Code.TheVariants as code
use Rattle.lard_request.specs.declared.verdict.Verdict.TheVariants.{Fault}
use Rattle.lard_rules.specs.declared.places.Ending.TheVariants as ending
use Rattle.lard_rules.proofs.Loops.{KeptBySpeaking, speaks_keep, symbols_keep}
use Rattle.lard_rules.proofs.Runs.{runs_keep}
use Rattle.lard_segment.specs.declared.fault.SegFault.TheVariants as fault
use Rattle.lard_segment.proofs.Again.{again}
use Rattle.lard_rules.proofs.Endings.{answered-keeps, rested-keeps, settled-keeps}

-- ---- the control bits of what was spelled

let_through : (t : Bool) (e : SegFault) (x : Result Said SegFault) (s : Said) → cond t (Err e) x ≡ Ok s → x ≡ Ok s
let_through true e x s h = absurd cc
let_through false e x s h = h

mss-flags : (bytes : List ℕ) (begins : ℕ) (o : Result (Option ℕ) SegFault) (s : Said) → with_mss bytes begins o ≡ Ok s → flags_of (slice_index bytes 13) ≡ s.flags
mss-flags bytes begins (Err e) s h = absurd cc
mss-flags bytes begins (Ok mss) s h = ap (λ (r : Result Said SegFault). flags_in r) h where
  flags_in : Result Said SegFault → Flags
  flags_in (Ok x) = x.flags
  flags_in (Err e) = flags_of (slice_index bytes 13)

data-flags : (bytes : List ℕ) (o : Option ℕ) (s : Said) → with_data bytes o ≡ Ok s → flags_of (slice_index bytes 13) ≡ s.flags
data-flags bytes None s h = absurd cc
data-flags bytes (Some begins) s h = mss-flags bytes begins (mss_in (take (begins - 20) (drop 20 bytes))) s h

-- those of a segment that is read are in byte 13
read-flags : (bytes : List ℕ) (c : ℕ) (s : Said) → decoded bytes c ToClient ≡ Ok s → flags_of (slice_index bytes 13) ≡ s.flags
unfolding decoded
read-flags bytes c s h =
    let a = let_through (nat_lt (length bytes) 20) fault.Short _ s h in
    let b = let_through (not (nat_eq (word_at bytes 16) (checksum_of c ToClient bytes))) fault.Sum _ s a in
    let d = let_through (not (are_ports bytes ToClient)) fault.Port _ s b in
    data-flags bytes (begins_at bytes) s d

spelled-byte : (c : ℕ) (s : Said) → slice_index (spelled c ToClient s) 13 ≡ flags_byte s.flags
unfolding spelled
spelled-byte c s = refl

-- a segment with these control bits alone
bare_with : Flags → Said
bare_with f = record { seq = 0; ack = 0; flags = f; wnd = 0; mss = None; payload = [] }

bits-again : (f : Flags) → flags_of (flags_byte f) ≡ f
unfolding bare_with
bits-again f =
    let s : Said = bare_with f in
    let good : IsSendable s = record { seq_fits = omega arith; ack_fits = omega arith; wnd_fits = omega arith; some_mss = tt; small_mss = tt; small_payload = omega arith; no_ack = λ e. refl } in
    ap flags_of (sym (spelled-byte 0 s)) ∙ read-flags (spelled 0 ToClient s) 0 s (again 0 ToClient s good)

-- they are read as they were spelled
pub same-flags : (c : ℕ) (s t : Said) → decoded (spelled c ToClient s) c ToClient ≡ Ok t → t.flags ≡ s.flags
same-flags c s t e = sym (ap flags_of (sym (spelled-byte c s)) ∙ read-flags (spelled c ToClient s) c t e) ∙ bits-again s.flags

-- ---- segments to a client

-- it goes to client c, with RST only where the connection was reset
abbrev pub SaysTo : ℕ → Bool → Place × List ℕ → Type 0
SaysTo c was s = (s.0 ≡ Client c) × HasRstOnly was c s.1

abbrev pub SayTo : ℕ → Bool → List (Place × List ℕ) → Type 0
SayTo c was ss = Each (SaysTo c was) ss

pub say-more : (c : ℕ) (a b : Bool) (ss : List (Place × List ℕ)) → Since a b → SayTo c a ss → SayTo c b ss
say-more c a b ss h k = Each-weaker (SaysTo c a) (SaysTo c b) (λ s e. (e.0, λ t d r. h (e.1 t d r))) ss k

-- one without RST
pub plain-says : (c : ℕ) (s : Said) → s.flags.rst ≡ false → SaysTo c false (Client c, spelled c ToClient s)
plain-says c s none = (refl, λ t d r. sym (ap (λ (f : Flags). f.rst) (same-flags c s t d) ∙ none) ∙ r)

emitted-plain : (c : ℕ) (b : ControlBlock) (r : Ready) → emitted b ≡ Some r → SaysTo c false (Client c, spelled c ToClient (filled (after_emit b) r))
emitted-plain c b r e = plain-says c (filled (after_emit b) r) (emitted-tells b r e).no_rst

saying-plain : (c : ℕ) → KeptBySpeaking c (λ b ss d. SayTo c false ss)
saying-plain c = record { rests = λ b. tt; says = λ b r ss d e later. (emitted-plain c b r e, later) }

speaks-plain : (c : ℕ) (b : ControlBlock) → SayTo c false (speaks c b).0
speaks-plain c b = speaks_keep c (λ b ss d. SayTo c false ss) (saying-plain c) b

symbols-plain : (c : ℕ) (b : ControlBlock) → SayTo c false (speaks_symbols c b).0
symbols-plain c b = symbols_keep c (λ b ss d. SayTo c false ss) (saying-plain c) (λ b r e held. tt) b

pub timed-plain : (env : ServeEnv) (b : ControlBlock) → SayTo env.c false (serving_ready_of env (after_timer b) (timed b))
timed-plain env b = go (timed b) refl where
  go : (o : Option Ready) → timed b ≡ o → SayTo env.c false (serving_ready_of env (after_timer b) o)
  go None e = tt
  go (Some r) e = (plain-says env.c (filled (after_timer b) r) (timed-tells b r e).no_rst, tt)

-- a place of the cluster may send them
to-fair : (c : ℕ) (was : Bool) (s : Place × List ℕ) (from : Place) → SaysTo c was s → KeepsRst was from s
to-fair c was s from h = subst (λ (p : Place). KeepsRst was from (p, s.1)) (sym h.0) (go from) where
  go : (from : Place) → KeepsRst was from (Client c, s.1)
  go Front = (h.1, tt)
  go (Node n) = (h.1, tt)
  go (Client d) = (tt, tt)

pub are-fair : (c : ℕ) (was : Bool) (from : Place) (ss : List (Place × List ℕ)) → SayTo c was ss → AllKeepRst was from ss
are-fair c was from ss h = Each-weaker (SaysTo c was) (KeepsRst was from) (λ s e. to-fair c was s from e) ss h

-- ---- a turn

abbrev pub EndingAfter : Bool → Ending → Type 0
EndingAfter was (ending.Here b count) = Unit {0}
EndingAfter was (ending.Over last) = EndsAfter was last.reason

-- What goes out of a turn, and how the connection ends in it, stand behind the turn's notes.
pub record TurnResets (c : ℕ) (was : Bool) (given : Ending × Turn) : Type 0 where
  pub says : SayTo c (resets_on c was given.1.notes) given.1.segments
  pub ends : EndingAfter (resets_on c was given.1.notes) given.0

-- where the connection is to be reset, it is told
abbrev pub OverTold : Option ℕ → Bool → Type 0
OverTold None was = Unit {0}
OverTold (Some total) was = was ≡ true

over-more : (o : Option ℕ) (a b : Bool) → Since a b → OverTold o a → OverTold o b
over-more None a b h k = tt
over-more (Some total) a b h k = h k

closes-otherwise : (b : ControlBlock) (was : Bool) → EndsAfter was (end_reason b)
closes-otherwise b was = cond_both b.reset Peer Closed (EndsAfter was) (λ t e. absurd cc) (λ t e. absurd cc)

module _ (env : ServeEnv) (was : Bool) where
  abbrev pub IsBehind : Service → Type 0
  IsBehind s = OverTold s.over (resets_on env.c was s.notes)

  pub noted-behind : (s : Service) (rs : List Rec) → IsBehind s → IsBehind (record s { notes = s.notes ++ rs })
  noted-behind s rs h = subst (OverTold s.over) (sym (fold-append (reset_step env.c) was s.notes rs)) (over-more s.over (resets_on env.c was s.notes) _ (resets-stay env.c rs (resets_on env.c was s.notes)) h)

  pub answered-behind : (via : Via) (v : Verdict) (s : Service) → IsBehind s → IsBehind (answered env via v s)
  answered-behind via v s h =
      let bytes : List ℕ = answer env.files v in
      let total : ℕ = s.block.send.total + length bytes in
      let reset : Rec = rec.Reset env.place env.c total in
      let before : Bool = resets_on env.c was s.notes in
      answered-keeps IsBehind env via v s
      (λ t. fold-append (reset_step env.c) was s.notes (reset ∷ []) ∙ ap (λ (b : Bool). cond b true before) (same_number env.c))
      (λ t. tt)

  pub ended-behind : (s : Service) → IsBehind s → IsBehind (ended_at_fin s)
  ended-behind s h = cond_both s.block.recv.fin _ s IsBehind (λ t. h) (λ t. h)

  pub serving-behind : KeptByServing env IsBehind
  serving-behind = record {
    notes = λ s rs starts h. noted-behind s rs h;
    reads = λ s n h. h;
    ends = ended-behind;
    answers = λ s way v may h. answered-behind way v s h;
  }

  -- ---- the end of a turn

  pub spoken-resets : (s : Service) (before : List (Place × List ℕ)) → SayTo env.c false before → TurnResets env.c was (spoken env s before)
  spoken-resets s before to =
      let now : Bool = resets_on env.c was s.notes in
      let b : ControlBlock = (speaks env.c s.block).1 in
      record {
        says = say-more env.c false now (before ++ (speaks env.c s.block).0) (since-false now) (Each-append (SaysTo env.c false) before (speaks env.c s.block).0 to (speaks-plain env.c s.block));
        ends = rested-keeps (EndingAfter now) b s.count (λ t. closes-otherwise b now) (λ t. tt);
      }

  cut-resets : (s : Service) → resets_on env.c was s.notes ≡ true → TurnResets env.c was (cut_off env s)
  cut-resets s told_so =
      let now : Bool = resets_on env.c was s.notes in
      let said : List (Place × List ℕ) × ControlBlock = speaks_symbols env.c s.block in
      record {
        says = Each-append (SaysTo env.c now) said.0 (serving_told env (limit_said (final_of said.1 Limit)) ∷ []) (say-more env.c false now said.0 (since-false now) (symbols-plain env.c s.block)) ((refl, λ t d r. told_so), tt);
        ends = λ e. told_so;
      }

  pub settled-resets : (s : Service) → IsBehind s → TurnResets env.c was (serving_settled env s)
  settled-resets s h = settled-keeps (TurnResets env.c was) env s (λ e. spoken-resets s [] tt) (λ total e. cut-resets s (subst (λ (o : Option ℕ). OverTold o (resets_on env.c was s.notes)) e h))

  -- ---- the front end reads

  abbrev Reads : Reading → Type 0
  Reads x = IsBehind x.service

  abbrev ReadsSo : Step Reading → Type 0
  ReadsSo (More y) = Reads y
  ReadsSo (Done y) = Reads y

  block-so : (x : Reading) (n : ℕ) (v : Verdict) (o : Option (List ℕ)) → Reads x → ReadsSo (reads_block env x n v o)
  block-so x n v None h = answered-behind Own v (serving_consumed n x.service) h
  block-so x n v (Some path) h = cond_both _ (record x { target = Some path }) x Reads (λ t. h) (λ t. h)

  found-so : (x : Reading) (f : Found) → Reads x → ReadsSo (reads_found env x f)
  found-so x (found.More skip) h = ended-behind (serving_consumed skip x.service) h
  found-so x (found.Block skip len) h = block-so x (skip + len) (block_at x skip len) (good_path env.files (block_at x skip len)) h
  found-so x (found.TooLong skip) h = answered-behind Own (Fault code.FieldsTooLarge) (serving_consumed (length x.service.block.recv.unread) x.service) h

  turn-so : (x : Reading) → Reads x → ReadsSo (reading_turn env x)
  turn-so x h = cond_both (may_read x.service) (reads_found env x (cut_of x.service.block.recv.unread)) (Done x) ReadsSo (λ t. found-so x (cut_of x.service.block.recv.unread) h) (λ t. h)

  pub reads-behind : (x : Reading) → Reads x → Reads (front_reads env x)
  reads-behind x h = runs_keep (reading_turn env) reading_left Reads (record {
    more = λ y z e p. subst ReadsSo e (turn-so y p);
    done = λ y z e p. subst ReadsSo e (turn-so y p);
  }) x h

  -- ---- a connection that ended

  -- RST is told to it where the stream limit ended it alone
  pub tombstone-says : (last : Final) (s : Said) → EndsAfter was last.reason → SayTo env.c was (tombstone env (last_words last.reason last s)).segments
  tombstone-says last s h = go last.reason h where
    go : (why : Reason) → EndsAfter was why → SayTo env.c was (tombstone env (last_words why last s)).segments
    go Closed h = cond_both (is_telling s) (Some (last_ack last)) None (λ (o : Option Said). SayTo env.c was (tombstone env o).segments)
        (λ t. (let k = plain-says env.c (last_ack last) refl in (refl, λ u d r. since-false was (k.1 u d r)), tt)) (λ t. tt)
    go Peer h = tt
    go Limit h = cond_both _ (Some (refusal s.ack)) None (λ (o : Option Said). SayTo env.c was (tombstone env o).segments) (λ t. ((refl, λ u d r. h refl), tt)) (λ t. tt)
