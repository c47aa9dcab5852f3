-- What a turn of a node leaves: its client was told all that came, and an Ask says what its batch is.
use Rattle.std.proofs.Common.{◌≡◌, ◌≢◌, ◌⊎◌, ◌≤◌, ◌<◌, ◌+◌, ◌-◌, ◌*◌, ◌/◌, ◌^◌, ℕ, min, Bool, true, false, List, [], ◌∷◌, ◌++◌, length, take, drop, Option, Some, None, Ok, inl, inr, refl, sym, ap, ◌∙◌, subst, arith}
use Rattle.std.proofs.lemmas.List.{length-take, take-append-drop, take_all}
use Rattle.std.specs.List.{fold}
use Rattle.lard_law_view.specs.Prelude.{Asked, BackConn, BackRow, Body, Client, Conn, ControlBlock, Ending, Entry, FilesAt, Front, Hears, IsStream, Message, Node, NodeDeed, NodeEnv, NodePart, NodeTurn, Numbers, Place, Rec, Received, Service, Stay, Stream, Turn, Verdict, Want, Was, Work, asked_sent, awaited, decoded_message, ended_sent, give_kept, gives_back, goes_on, kept_after, may_give_back, kind_of, named_paths, one_if, parts_of, rcv_nxt, seq_add, seq_offset, sent_of, served_in, serving_settled, tale_at, verdicts, wants_sent, with_work}
use Rattle.lard_law_connections.specs.BytesKeeping.{IsTalk}
use Rattle.lard_law_connections.specs.BytesTurning.{IsNoteOf}
use Rattle.lard_law_connections.proofs.BytesWorking.{Right, Works}
use Rattle.lard_law_connections.proofs.LineHolding.{EndsHeld, IsHeld}
use Rattle.lard_law_connections.proofs.LineSpeaking.{IsTold, heard_by}
use Rattle.lard_laws.specs.Sizes.{BodyIsOfBatch, IsOfBatch, SizeMarks, TakeOver, batch_behind, batch_begins, complete, symbols_acknowledged, take_over_step, to_assign}
use Rattle.lard_law_connections.proofs.AwaitsNodes.{HasServed, settled-served}
use Rattle.lard_law_connections.proofs.PlacesHeads.{kinds-same}
use Rattle.lard_law_connections.proofs.NodeReady.{is-ready}
use Rattle.lard_laws.proofs.SizesReading.{AskSo, Fits, HasGoodBehind, Reach, goes-fit, none-asked}
use Rattle.lard_laws.proofs.SizesTelling.{Acknowledges, IsQuiet, SameRecv, goes-wider, settled-held, settled-recv, settled-told, wider-quiet}
use Rattle.lard_laws.specs.Ways.{good_paths}
use Rattle.lard_laws.proofs.WaysGoods.{good-append}
use Rattle.lard_laws.proofs.WaysShort.{AreShort, short-within, wanted-short}
use Rattle.lard_laws.proofs.WaysSpelling.{ReadsAsk, ask-reads}
use Rattle.lard_handoff_back.specs.declared.row.BackConn.TheVariants as back
use Rattle.lard_history.proofs.Each.{Each, Each-append}
use Rattle.lard_message.specs.declared.kind.Kind.TheVariants as kind
use Rattle.lard_message.specs.declared.message.Body.TheVariants as body
use Rattle.lard_rules.specs.Node.{Drops, Says, Does, message}
use Rattle.lard_rules.specs.Node as node
use Rattle.lard_rules.specs.declared.places.Ending.TheVariants as ending
use Rattle.lard_law_view.proofs.EndpointSends.{AllTo}

-- ---- what a turn leaves

-- one of the requests that were read since a node took the connection is for a file
abbrev pub StayLeft : FilesAt → SizeMarks → Option Stay → Type 0
StayLeft files m None = Unit {0}
StayLeft files m (Some s) = HasGoodBehind files m.taken (take (s.served + length s.batch) (verdicts m.wrote))

-- where the endpoint is here, its client was told all that came, and so it is of its stay
abbrev pub StageLeft : FilesAt → SizeMarks → Option Stay → BackConn → Type 0
StageLeft files m o (back.Here b) = IsTold m.told b × StayLeft files m o
StageLeft files m o _ = Unit {0}

abbrev pub RowLeft : FilesAt → SizeMarks → Option Stay → Option BackRow → Type 0
RowLeft files m o None = Unit {0}
RowLeft files m o (Some row) = StageLeft files m o row.stage

abbrev pub PartLeft : FilesAt → SizeMarks → NodePart → Type 0
PartLeft files m p = RowLeft files m p.stay p.row

-- ---- how many requests were read

-- where a node has the endpoint, those that are answered, and its batch
abbrev pub StayReads : ℕ → Option Stay → Type 0
StayReads u None = Unit {0}
StayReads u (Some s) = u ≡ s.served + length s.batch

abbrev pub StageReads : ℕ → Option Stay → BackConn → Type 0
StageReads u o (back.Here b) = StayReads u o
StageReads u o _ = Unit {0}

abbrev pub RowReads : ℕ → Option Stay → Option BackRow → Type 0
RowReads u o None = Unit {0}
RowReads u o (Some row) = StageReads u o row.stage

-- behind a turn before which u were read, of the requests in these bytes
abbrev pub StayReach : ℕ → List ℕ → ControlBlock → Option Stay → Type 0
StayReach u wrote b None = Unit {0}
StayReach u wrote b (Some s) = Reach u s.served (s.served + length s.batch) (length (verdicts (take b.recv.got wrote)))

abbrev pub StageReach : ℕ → List ℕ → Option Stay → BackConn → Type 0
StageReach u wrote o (back.Here b) = StayReach u wrote b o
StageReach u wrote o _ = Unit {0}

abbrev pub RowReach : ℕ → List ℕ → Option Stay → Option BackRow → Type 0
RowReach u wrote o None = Unit {0}
RowReach u wrote o (Some row) = StageReach u wrote o row.stage

abbrev pub PartReach : ℕ → List ℕ → NodePart → Type 0
PartReach u wrote p = RowReach u wrote p.stay p.row

-- nothing is read where nothing is done
pub reads-reach : (u : ℕ) (wrote : List ℕ) (o : Option Stay) (row : Option BackRow) → RowReads u o row → RowReach u wrote o row
reads-reach u wrote o None h = tt
reads-reach u wrote o (Some row) h = go row.stage h where
  stays : (b : ControlBlock) (o : Option Stay) → StayReads u o → StayReach u wrote b o
  stays b None h = tt
  stays b (Some s) h = inl (sym h)

  go : (d : BackConn) → StageReads u o d → StageReach u wrote o d
  go (back.Here b) h = stays b o h
  go _ h = tt

-- So many requests of a connection were read: where no node has it, each is answered as it is read.
pub record Reads (u : ℕ) (x : Conn) : Type 0 where
  pub here : (n : ℕ) → RowReads u (x.part.nodes n).stay (x.part.nodes n).row
  pub away : ((n : ℕ) → (tale_at x).owner ≢ Some (Node n)) → u ≡ (tale_at x).served

-- ---- what a turn says

module _ (files : FilesAt) (c : ℕ) (x : Conn) (n : ℕ) (u : ℕ) (past : SizeMarks) where
  -- A message was sent before, or it is no Ask, or one of a batch.
  abbrev pub SaysFit : SizeMarks → Place × List ℕ → Type 0
  SaysFit now s = Was x (Node n) s.0 s.1 ⊎ ((m : Message) → decoded_message s.1 ≡ Ok m → BodyIsOfBatch files u now m.body)

  -- behind how many responses a node took it
  abbrev pub past_take_over : TakeOver
  past_take_over = record { served = past.served; taken = past.taken }

  -- what is told behind these notes and segments
  abbrev pub now_told : List Rec → List (Place × List ℕ) → SizeMarks
  now_told notes segments = record {
    numbers = past.numbers;
    wrote = past.wrote;
    served = past.served + served_in notes;
    taken = (fold (take_over_step c) past_take_over notes).taken;
    told = heard_by c past.told segments;
  }

  pub record TurnFits (given : NodePart × NodeTurn) : Type 0 where
    pub each : Each (IsNoteOf c) given.1.notes
    pub to : AllTo (Client c) given.1.segments
    pub left : PartLeft files (now_told given.1.notes given.1.segments) given.0
    pub reach : PartReach u past.wrote given.0
    pub says : Each (SaysFit (now_told given.1.notes given.1.segments)) given.1.messages

  abbrev pub DeedFits : NodeDeed → Type 0
  DeedFits Drops = Unit {0}
  DeedFits (Says ms) = Each (SaysFit past) ms
  DeedFits (Does given) = TurnFits given

-- ---- messages of other kinds

pub no-ask : (files : FilesAt) (u : ℕ) (now : SizeMarks) (b : Body) → kind_of b ≢ kind.Ask → BodyIsOfBatch files u now b
no-ask files u now (body.Ask number queue size paths) not = absurd (not refl)
no-ask files u now _ not = tt

pub other-says : (files : FilesAt) (x : Conn) (n u : ℕ) (past now : SizeMarks) (c e : ℕ) (to : Place) (b : Body) → kind_of b ≢ kind.Ask → SaysFit files c x n u past now (to, message c e b)
other-says files x n u past now c e to b not = inr (λ m d. no-ask files u now m.body (λ ask. not (kinds-same (record { c = c; epoch = record { 0 = e }; body = b }) m d ∙ ask)))

-- ---- paths are short

short-drop : (paths : List (List ℕ)) → AreShort paths → AreShort (drop 1 paths)
short-drop [] h = tt
short-drop (path ∷ paths) h = h.1

short-assign : (gone paths : List (List ℕ)) → AreShort paths → AreShort (to_assign gone paths)
short-assign [] paths h = short-drop paths h
short-assign (g ∷ gs) paths h = h

batch-short : (files : FilesAt) (q : List ℕ) (before : ℕ) → AreShort (good_paths files (batch_behind before (verdicts q)))
batch-short files q before =
    let all : List Verdict = verdicts q in
    let rest : List Verdict = drop before all in
    short-within (good_paths files (take before all)) (good_paths files (take 8 rest)) (good_paths files (drop 8 rest)) (good_paths files all)
    (ap (good_paths files) (sym (take-append-drop before all) ∙ ap (λ (l : List Verdict). take before all ++ l) (sym (take-append-drop 8 rest)))
    ∙ good-append files (take before all) (take 8 rest ++ drop 8 rest)
    ∙ ap (λ (l : List (List ℕ)). good_paths files (take before all) ++ l) (good-append files (take 8 rest) (drop 8 rest))
    ∙ sym (append_assoc_here (good_paths files (take before all)) (good_paths files (take 8 rest)) (good_paths files (drop 8 rest))))
    (wanted-short files q) where
      append_assoc_here : (a b d : List (List ℕ)) → (a ++ b) ++ d ≡ a ++ (b ++ d)
      append_assoc_here [] b d = refl
      append_assoc_here (y ∷ a) b d = ap (λ (l : List (List ℕ)). y ∷ l) (append_assoc_here a b d)

-- ---- what was acknowledged is what came

-- bytes, and the FIN only behind all of them
took-all : (w : Stream) (r : Received) → Hears w r → take (r.got + one_if r.fin) w.bytes ≡ take r.got w.bytes
took-all w r h = go r.fin refl where
  go : (f : Bool) → r.fin ≡ f → take (r.got + one_if f) w.bytes ≡ take r.got w.bytes
  go true e =
      let all : r.got ≡ length w.bytes = (h.final e).0 in
      take_all (r.got + 1) w.bytes (omega (arith, all)) ∙ sym (take_all r.got w.bytes (omega (arith, all)))
  go false e = ap (λ (i : ℕ). take i w.bytes) (let none : r.got + 0 ≡ r.got = omega arith in none)

one-most : (f : Bool) → one_if f ≤ 1
one-most true = omega arith
one-most false = omega arith

offset-is : (w : Stream) (r : Received) → IsStream w → Hears w r → seq_offset (awaited r) w.first ≡ 1 + r.got + one_if r.fin
offset-is w r is h =
    let number = is.number in
    let most = is.most in
    let within = h.within in
    let one = one-most r.fin in
    let first : r.irs ≡ w.first = h.first in
    ap (λ (i : ℕ). seq_offset (seq_add i (1 + r.got + one_if r.fin)) w.first) first ∙ added w.first (1 + r.got + one_if r.fin) number (omega (arith, most, within, one)) where
      added : (b i : ℕ) → b < 2 ^ 32 → i < 2 ^ 32 → seq_offset (seq_add b i) b ≡ i
      added b i small fits = omega arith

pub complete-is : (w : Stream) (r : Received) → IsStream w → Hears w r → (now : SizeMarks) (num : Numbers) → now.numbers ≡ Some num → num.isn ≡ w.first → now.wrote ≡ w.bytes → Acknowledges now.told (awaited r) → complete now ≡ verdicts (take r.got w.bytes)
complete-is w r is h now num numbers first wrote told =
    let ack : symbols_acknowledged now.numbers now.told ≡ 1 + r.got + one_if r.fin =
    (λ i. symbols_acknowledged (numbers i) (told.is i)) ∙ (λ i. seq_offset (told.ack i) (first i)) ∙ offset-is w r is h in
    let less : symbols_acknowledged now.numbers now.told - 1 ≡ r.got + one_if r.fin = omega (arith, ack) in
    (λ i. verdicts (take (less i) (wrote i))) ∙ ap verdicts (took-all w r h)

-- ---- the end of a turn

-- the last batch begins behind whole ones
begins-at : (u i before size served : ℕ) → before ≡ u + 8 * i → before ≤ served → served < before + size → size ≤ 8 → before ≡ u + 8 * ((served - u) / 8)
begins-at u i before size served is le less small = let number : (served - u) / 8 ≡ i = omega (arith, is, le, less, small) in omega (arith, is, number)

batch-some : (files : FilesAt) (es : List Entry) → named_paths files es ≢ [] → 1 ≤ length es
batch-some files [] h = absurd (h refl)
batch-some files (e ∷ es) h = omega arith

-- what is kept of a stay, where its client was told all that came
pub part-left : (files : FilesAt) (now : SizeMarks) (env : NodeEnv) (part : NodePart) (k : Work) (e : Ending) → ((b : ControlBlock) (count : ℕ) → e ≡ ending.Here b count → IsHeld now.told b) → HasServed k.service.count e
    → HasGoodBehind files now.taken (take (k.service.count + length k.batch) (verdicts now.wrote)) → PartLeft files now (kept_after env part k e)
part-left files now env part k (ending.Here b count) held served good =
    ((held b count refl).told_is, subst (λ (i : ℕ). HasGoodBehind files now.taken (take (i + length k.batch) (verdicts now.wrote))) (sym served) good)
part-left files now env part k (ending.Over last) held served good = tt

-- where u requests were read before the turn, and t were answered before the node took the connection
module _ (env : NodeEnv) (x : Conn) (n u t : ℕ) (past : SizeMarks) (w out : Stream) (vs : List Verdict) (talk : IsTalk env w out vs) (num : Numbers) (numbers : past.numbers ≡ Some num) (isn : num.isn ≡ w.first) (wrote : past.wrote ≡ w.bytes)
    (counted : past.served ≡ length vs) where
  abbrev files : FilesAt
  files = env.serve.files

  abbrev c : ℕ
  c = env.serve.c

  abbrev Fit : NodeDeed → Type 0
  Fit d = DeedFits files c x n u past d

  abbrev Say : SizeMarks → Place × List ℕ → Type 0
  Say now s = SaysFit files c x n u past now s

  wants-say : (now : SizeMarks) (ws : List Want) → Each (Say now) (wants_sent env ws)
  wants-say now [] = tt
  wants-say now (y ∷ ys) = (other-says files x n u past now c env.epoch (Node y.node) (body.Fetch y.r y.path) (λ e. let no : kind.Fetch ≡ kind.Ask = e in absurd cc), wants-say now ys)

  pub ended-says : (now : SizeMarks) (over : Option ℕ) (e : Ending) → Each (Say now) (ended_sent env over e)
  ended-says now over (ending.Here b count) = tt
  ended-says now over (ending.Over last) = (other-says files x n u past now c env.epoch Front (body.Ended last.reason last.snd.0 last.rcv.0 (node.reset_count over)) (λ e. let no : kind.Ended ≡ kind.Ask = e in absurd cc), tt)

  -- behind these notes, too
  abbrev pub IsTakenBehind : List Rec → Type 0
  IsTakenBehind notes = (fold (take_over_step c) (past_take_over files c x n u past) notes).taken ≡ t

  module _ (k : Work) (works : Works env w out vs k) (fits : Fits env w out vs u t k) (quiet : IsQuiet past.told k.service.block) (took : IsTakenBehind k.service.notes) where
    -- an Ask is of its batch
    asked-says : (now : SizeMarks) → now.numbers ≡ past.numbers → now.wrote ≡ past.wrote → now.served ≡ k.service.count → now.taken ≡ t → (k.service.block.reset ≡ false → Acknowledges now.told (rcv_nxt k.service.block))
        → (o : Option Asked) → AskSo env w out vs u t k o → Each (Say now) (asked_sent env o)
    asked-says now same_numbers same_wrote served since told None h = tt
    asked-says now same_numbers same_wrote served since told (Some a) h =
        let got : ℕ = k.service.block.recv.got in
        let all : complete now ≡ verdicts (take got w.bytes) =
        complete-is w k.service.block.recv talk.stream works.between.hears now num (same_numbers ∙ numbers) isn (same_wrote ∙ wrote) (told h.calm) in
        let some : 1 ≤ length k.batch = batch-some files k.batch (λ e. h.some (h.names ∙ e)) in
        let rest = h.rest in
        let more = h.answered_more in
        let behind : h.before ≡ u + 8 * h.batches = h.begins in
        let answered : h.before ≤ now.served = omega (arith, served, more) in
        let goes : now.served < h.before + a.size = omega (arith, served, rest, some) in
        let size : a.size ≡ length (batch_behind h.before (verdicts (take got w.bytes))) = h.size_is in
        let most : length (batch_behind h.before (verdicts (take got w.bytes))) ≡ min 8 (length (drop h.before (verdicts (take got w.bytes)))) = length-take 8 (drop h.before (verdicts (take got w.bytes))) in
        let at : h.before ≡ batch_begins u now = begins-at u h.batches h.before a.size now.served behind answered goes (omega (arith, size, most)) in
        let it : IsOfBatch files u now a.size a.paths = record {
          answered = omega (arith, behind, answered);
          goes_on = subst (λ (i : ℕ). now.served < i + a.size) at goes;
          size_is = size ∙ (λ i. length (batch_behind (at i) (sym all i)));
          paths_are = h.paths_are ∙ (λ i. to_assign (good_paths files (drop (sym since i) (take (at i) (sym all i)))) (good_paths files (batch_behind (at i) (sym all i))));
        } in
        let short : AreShort a.paths = subst AreShort (sym h.paths_are) (short-assign (good_paths files (drop t (take h.before (verdicts (take got w.bytes))))) (good_paths files (batch_behind h.before (verdicts (take got w.bytes)))) (batch-short files (take got w.bytes) h.before)) in (
          inr (λ m d.
              let read : ReadsAsk a.number a.size a.paths m.body = ask-reads c env.epoch a.number a.queue a.size a.paths short m d in
              subst (BodyIsOfBatch files u now) (sym read.is) it),
          tt,
        )

    row-reach : (part : NodePart) (e : Ending) → HasServed k.service.count e → SameRecv k.service.block e → PartReach u past.wrote (kept_after env part k e)
    row-reach part (ending.Here b count) served recv =
        subst (λ (j : ℕ). Reach u j (j + length k.batch) (length (verdicts (take b.recv.got past.wrote)))) (sym served)
        (subst (λ (r : Received). Reach u k.service.count (k.service.count + length k.batch) (length (verdicts (take r.got past.wrote)))) (sym recv)
        (subst (λ (l : List ℕ). Reach u k.service.count (k.service.count + length k.batch) (length (verdicts (take k.service.block.recv.got l)))) (sym wrote) fits.reach))
    row-reach part (ending.Over last) served recv = tt

    pub work-fits : (part : NodePart) (before : List (Place × List ℕ)) → ((now : SizeMarks) → Each (Say now) before) → Fit (with_work env part before k)
    work-fits part before first =
        let s : Service = k.service in
        let given : Ending × Turn = serving_settled env.serve s in
        let held : EndsHeld c past.told s.notes given = settled-held env.serve past.told w works.out_now s works.between quiet in
        let segments : List (Place × List ℕ) = given.1.segments in
        let now : SizeMarks = now_told files c x n u past given.1.notes segments in
        let served : now.served ≡ s.count =
        (let a = works.counted in let b = works.noted.served in let d : served_in given.1.notes ≡ served_in s.notes = ap served_in held.noted in omega (arith, a, b, d, counted)) in
        let since : now.taken ≡ t = ap (λ (rs : List Rec). (fold (take_over_step c) (past_take_over files c x n u past) rs).taken) held.noted ∙ took in
        let good : HasGoodBehind files now.taken (take (s.count + length k.batch) (verdicts now.wrote)) =
        subst (λ (m : ℕ × List ℕ). HasGoodBehind files m.0 (take (s.count + length k.batch) (verdicts m.1))) (λ i. (sym since i, sym wrote i)) fits.good in
        record {
          each = subst (Each (IsNoteOf c)) (sym held.noted) works.noted.each;
          to = held.to;
          left = part-left files now env part k given.0 held.held (settled-served env.serve s) good;
          reach = row-reach part given.0 (settled-served env.serve s) (settled-recv env.serve past.told w works.out_now s works.between quiet);
          says = Each-append (Say now) (before ++ asked_sent env k.asked ++ wants_sent env k.wants) (ended_sent env s.over given.0)
              (Each-append (Say now) (before ++ asked_sent env k.asked) (wants_sent env k.wants)
              (Each-append (Say now) before (asked_sent env k.asked) (first now)
              (asked-says now refl refl served since (λ calm. settled-told env.serve past.told w works.out_now s works.between quiet calm) k.asked fits.asked))
              (wants-say now k.wants))
              (ended-says now s.over given.0);
        }

    -- it goes back: nothing was asked that is not answered
    pub back-fits : (part : NodePart) → may_give_back env k ≡ true → Fit (gives_back env part [] k)
    back-fits part back =
        let now : SizeMarks = now_told files c x n u past k.service.notes [] in
        let quiet : k.asked ≡ None = none-asked env w out vs u t k k.asked refl (is-ready env k back).none fits.asked in
        record {
          each = works.noted.each;
          to = tt;
          left = tt;
          reach = tt;
          says = Each-append (Say now) (asked_sent env k.asked ++ wants_sent env k.wants) (sent_of (give_kept env k) ∷ [])
              (Each-append (Say now) (asked_sent env k.asked) (wants_sent env k.wants) (subst (λ (o : Option Asked). Each (Say now) (asked_sent env o)) (sym quiet) tt) (wants-say now k.wants))
              (other-says files x n u past now c env.epoch Front (body.Give (parts_of k.service.block k.service.count)) (λ e. let no : kind.Give ≡ kind.Ask = e in absurd cc), tt);
        }

  -- the stay goes on
  module _ (part : NodePart) (before : List (Place × List ℕ)) (first : (now : SizeMarks) → Each (Say now) before) (k : Work) (works : Works env w out vs k) (right : Right env w out vs k) (fits : Fits env w out vs u t k) (quiet : IsQuiet past.told k.service.block)
      (after : Works env w out vs (goes_on env k)) (took : IsTakenBehind (goes_on env k).service.notes) where
    goes-fits : Fits env w out vs u t (goes_on env k)
    goes-fits = goes-fit env w out vs u t talk.most k works right fits

    goes-quiet : IsQuiet past.told (goes_on env k).service.block
    goes-quiet = wider-quiet past.told k.service.block (goes_on env k).service.block (goes-wider env k) quiet

    pub goes-on-fits : Fit (with_work env part before (goes_on env k))
    goes-on-fits = work-fits (goes_on env k) after goes-fits goes-quiet took part before first

    pub goes-back-fits : may_give_back env (goes_on env k) ≡ true → Fit (gives_back env part [] (goes_on env k))
    goes-back-fits back = back-fits (goes_on env k) after goes-fits goes-quiet took part back
