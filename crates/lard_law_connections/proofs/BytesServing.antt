-- Answering, at any place: the first of what was read is answered, or the connection is to be reset in its place.
use Rattle.std.proofs.Common.{◌≡◌, ◌⊎◌, ◌≤◌, ◌<◌, ◌+◌, ◌^◌, ℕ, Bool, true, false, nat_lt, not, ◌&&◌, ◌||◌, List, [], ◌∷◌, ◌++◌, map, length, Option, Some, None, inl, inr, ⊎_elim, arith, refl, ap, ◌∙◌, sym, subst, append_assoc, append-nil, length-append}
use Rattle.std.specs.List.{concat, list_any}
use Rattle.std.proofs.lemmas.Bool.{and_parts, both_ways, cond_both, ltb-false, not-true}
use Rattle.std.proofs.lemmas.List.{map-append}
use Rattle.std.proofs.lemmas.List.Folds.{concat-append, list_any-append}
use Rattle.lard_law_view.specs.Prelude.{ControlBlock, FilesAt, GoesOn, IsPrefix, Rec, SaysAnswers, ServeEnv, Service, Stream, Tale, TellsOf, Verdict, Via, answer, answer_code, answered, bytes_served_in, closed_behind, closes, consuming, discarding_on, ended_at_fin, finishing, is_reset_record, may_read, passed_over, queued, queueing, served_in, serving_consumed, told_on, verdicts}
use Rattle.lard_law_connections.specs.BytesAgreement.{HasReadPending}
use Rattle.lard_law_connections.specs.BytesRecords.{IsWay}
use Rattle.lard_law_connections.specs.BytesTurning.{AnswersAfter, CountsResponses, IsNoteOf, IsReading, TurnServes}
use Rattle.lard_law_connections.proofs.BytesNext.{answers-next, mute-answers, resets-next, tells-on}
use Rattle.lard_law_connections.proofs.BytesReading.{IsFirst, first-fronts, first-read}
use Rattle.lard_law_connections.proofs.BytesWide.{wide-half}
use Rattle.lard_law_view.specs.Carry.{TellsBy}
use Rattle.lard_history.proofs.Each.{Each, Each-append}
use Rattle.lard_journal.specs.declared.rec.Rec.TheVariants as rec
use Rattle.lard_law_view.proofs.EndpointStreams.{IsBetween, Onward, between-consumed, between-discarded, onward-finished, onward-queued}
use Rattle.lard_rules.proofs.Wide.{closed-wide}
use Rattle.lard_law_view.proofs.RowLists.{TellsBy-append}
use Rattle.lard_law_view.proofs.Growth.{goes_on-same}

or-last : (b c : Bool) → c ≡ true → (b || c) ≡ true
or-last true c e = refl
or-last false c e = e

-- ---- streams that go on

pub goes_on-trans : (x y z : Stream) → GoesOn x y → GoesOn y z → GoesOn x z
goes_on-trans x y z g h = record {
  first = h.first ∙ g.first;
  bytes = (g.bytes.0 ++ h.bytes.0, h.bytes.1 ∙ ap (λ w. w ++ h.bytes.0) g.bytes.1 ∙ append_assoc x.bytes g.bytes.0 h.bytes.0);
  ended = λ e. let same = g.ended e in h.ended (ap (λ s. s.ended) same ∙ e) ∙ same;
}

-- what has not ended did not end before
still-open : (x y : Stream) → GoesOn x y → y.ended ≡ false → x.ended ≡ false
still-open x y g e = go x.ended refl where
  go : (b : Bool) → x.ended ≡ b → x.ended ≡ false
  go true f = ap (λ s. s.ended) (sym (g.ended f)) ∙ e
  go false f = f

-- ---- notes

served-append : (xs ys : List Rec) → served_in (xs ++ ys) ≡ served_in xs + served_in ys
served-append [] ys = omega arith
served-append (rec.Served by c n code size via ∷ xs) ys = let e = served-append xs ys in omega arith
served-append (other ∷ xs) ys = served-append xs ys

size-append : (xs ys : List Rec) → bytes_served_in (xs ++ ys) ≡ bytes_served_in xs + bytes_served_in ys
size-append [] ys = omega arith
size-append (rec.Served by c n code size via ∷ xs) ys = let e = size-append xs ys in omega arith
size-append (other ∷ xs) ys = size-append xs ys

pub counts-nothing : (files : FilesAt) (c : ℕ) (w out : Stream) (vs : List Verdict) → CountsResponses files c w out vs vs out.bytes []
counts-nothing files c w out vs = record { each = tt; served = omega arith; size = omega arith; unless_ended = inr refl; serve = λ t told. tt }

-- more notes
module _ (files : FilesAt) (c : ℕ) (w out : Stream) (vs us us_next : List Verdict) (said said_next : List ℕ) (notes rs : List Rec) (h : CountsResponses files c w out vs us said notes) where
  pub counts-more : Each (IsNoteOf c) rs → length us_next ≡ length us + served_in rs → length said_next ≡ length said + bytes_served_in rs → (out.ended ≡ false) ⊎ (served_in rs ≡ 0)
      → ((t : Tale) → TellsOf w.bytes said us t → TellsBy (AnswersAfter files c) c t rs) → CountsResponses files c w out vs us_next said_next (notes ++ rs)
  counts-more each served size unless answers =
      let a = served-append notes rs in
      let b = size-append notes rs in
      record {
        each = Each-append (IsNoteOf c) notes rs h.each each;
        served = omega (arith, a, h.served, served);
        size = omega (arith, b, h.size, size);
        unless_ended = ⊎_elim (λ e. inl e) (λ e. ⊎_elim (λ f. inl f) (λ f. inr (omega (arith, a, e, f))) unless) h.unless_ended;
        serve = λ t told. TellsBy-append (AnswersAfter files c) c t notes rs (h.serve t told)
            (answers (told_on c t notes) (tells-on c w.bytes out.bytes said vs us notes h.each h.served h.size t told));
      }

-- more that serve and reset nothing
pub counts-mute : (files : FilesAt) (c : ℕ) (w out : Stream) (vs us : List Verdict) (said : List ℕ) (notes rs : List Rec) → CountsResponses files c w out vs us said notes → Each (IsNoteOf c) rs
    → served_in rs ≡ 0 → bytes_served_in rs ≡ 0 → list_any is_reset_record rs ≡ false → CountsResponses files c w out vs us said (notes ++ rs)
counts-mute files c w out vs us said notes rs h each served size calm =
    counts-more files c w out vs us us said said notes rs h each (omega (arith, served)) (omega (arith, size)) (inr served) (λ t told. mute-answers files c t rs each served calm)

-- ---- what was said

says-more : (files : FilesAt) (w out next : Stream) (vs : List Verdict) (v : Verdict) → SaysAnswers files w out vs → GoesOn out next → next.bytes ≡ out.bytes ++ answer files v
    → length out.bytes + length (answer files v) ≤ 2 ^ 30 → ((z : List ℕ) → IsPrefix (vs ++ v ∷ []) (verdicts (w.bytes ++ z))) → SaysAnswers files w next (vs ++ v ∷ [])
says-more files w out next vs v h g e le fronts = record {
  spoken = e
      ∙ ap (λ x. x ++ answer files v) h.spoken
      ∙ ap (λ x. concat (map (answer files) vs) ++ x) (sym (append-nil (answer files v)))
      ∙ sym (concat-append (map (answer files) vs) (answer files v ∷ []))
      ∙ ap concat (sym (map-append (answer files) vs (v ∷ [])));
  fronts = fronts;
  number = subst (λ n. n < 2 ^ 32) (sym g.first) h.number;
  most = omega (arith, ap length e, length-append out.bytes (answer files v));
}

says-same : (files : FilesAt) (w out next : Stream) (vs : List Verdict) → SaysAnswers files w out vs → GoesOn out next → next.bytes ≡ out.bytes → SaysAnswers files w next vs
says-same files w out next vs h g e = record {
  spoken = e ∙ h.spoken;
  fronts = h.fronts;
  number = subst (λ n. n < 2 ^ 32) (sym g.first) h.number;
  most = subst (λ (x : List ℕ). length x ≤ 2 ^ 30) (sym e) h.most;
}

onward-closed : (w out : Stream) (v : Verdict) (b : ControlBlock) → IsBetween w out b → Onward w out out.bytes (closed_behind v b)
onward-closed w out v b h = cond_both (closes v) (finishing (discarding_on b)) b (Onward w out out.bytes)
    (λ t. onward-finished w out (discarding_on b) (between-discarded w out b h))
    (λ t. record { next = out; longer = goes_on-same out; bytes_are = refl; between = h })

-- ---- where it may go on

none-over : (o : Option ℕ) → elim o [ None ↦ true | Some total ↦ false ] ≡ true → o ≡ None
none-over None e = refl
none-over (Some total) e = absurd cc

-- nothing that was answered closes, and nothing is to be reset
pub record MayGo (w : Stream) (vs pend : List Verdict) (s : Service) : Type 0 where
  pub none : s.over ≡ None
  pub unfinished : s.block.send.finished ≡ false
  pub keeps : s.block.recv.discarding ≡ false
  pub read : HasReadPending w s.block vs pend

pub may-go : (w : Stream) (vs pend : List Verdict) (s : Service) → may_read s ≡ true → IsReading w vs pend s.block s.notes s.over → MayGo w vs pend s
may-go w vs pend s may reading =
    let limit : Bool = elim s.over [ None ↦ true | Some total ↦ false ] in
    let rest = and_parts (not s.block.send.finished) limit (and_parts (not s.block.reset) (not s.block.send.finished && limit) may).1 in
    let none = none-over s.over rest.1 in
    let unfinished = not-true s.block.send.finished rest.0 in
    let read : HasReadPending w s.block vs pend = subst (λ (o : Option ℕ). IsReading w vs pend s.block s.notes o) none reading in
    record { none = none; unfinished = unfinished; keeps = keeps-still s.block.recv.discarding refl read unfinished; read = read } where
      keeps-still : (b : Bool) → s.block.recv.discarding ≡ b → HasReadPending w s.block vs pend → s.block.send.finished ≡ false → s.block.recv.discarding ≡ false
      keeps-still true e read f = absurd (both_ways s.block.send.finished f (read.stops e).0)
      keeps-still false e read f = e

-- ---- a verdict is answered

module _ (env : ServeEnv) (w out : Stream) (vs : List Verdict) where
  abbrev pub So : Service → List Verdict → Type 0
  So s pend = TurnServes env.files env.c w out vs s pend

  pub go-on : (s : Service) (pend : List Verdict) (h : So s pend) → s.over ≡ None → s.block.send.finished ≡ false → s.block.recv.discarding ≡ false → MayGo w h.vs_now pend s
  go-on s pend h none unfinished keeps =
      record { none = none; unfinished = unfinished; keeps = keeps; read = subst (λ (o : Option ℕ). IsReading w h.vs_now pend s.block s.notes o) none h.reading }

  -- notes that tell nothing of bytes
  pub noted-serves : (notes : List Rec) (s : Service) (pend : List Verdict) → Each (IsNoteOf env.c) notes → served_in notes ≡ 0 → bytes_served_in notes ≡ 0 → list_any is_reset_record notes ≡ false → So s pend
      → So (record s { notes = s.notes ++ notes }) pend
  noted-serves notes s pend each served size calm h = record {
    out_now = h.out_now;
    vs_now = h.vs_now;
    longer = h.longer;
    says = h.says;
    counted = h.counted;
    between = h.between;
    wide = h.wide;
    noted = counts-mute env.files env.c w out vs h.vs_now h.out_now.bytes s.notes notes h.noted each served size calm;
    reading = reading s.over h.reading;
  } where
    reading : (o : Option ℕ) → IsReading w h.vs_now pend s.block s.notes o → IsReading w h.vs_now pend s.block (s.notes ++ notes) o
    reading None r = r
    reading (Some total) r = list_any-append is_reset_record s.notes notes ∙ ap (λ b. b || list_any is_reset_record notes) r

  -- the verdict on the first that waits is the next on what the client wrote
  next-is : (v : Verdict) (rest : List Verdict) (s : Service) (h : So s (v ∷ rest)) → MayGo w h.vs_now (v ∷ rest) s → IsPrefix (h.vs_now ++ v ∷ []) (verdicts w.bytes)
  next-is v rest s h may = subst (λ (l : List ℕ). IsPrefix (h.vs_now ++ v ∷ []) (verdicts l)) (append-nil w.bytes)
      (first-fronts w h.vs_now v rest s.block (record { read = may.read; keeps = may.keeps }) [])

  -- it would pass the stream limit
  passed-serves : (v : Verdict) (rest others : List Verdict) (s : Service) (h : So s (v ∷ rest)) → MayGo w h.vs_now (v ∷ rest) s → So (passed_over env (s.block.send.total + length (answer env.files v)) s) others
  passed-serves v rest others s h may =
      let total : ℕ = s.block.send.total + length (answer env.files v) in
      let same : total ≡ length h.out_now.bytes + length (answer env.files v) = ap (λ (n : ℕ). n + length (answer env.files v)) (sym h.between.speaks.part.count) in
      record {
        out_now = h.out_now;
        vs_now = h.vs_now;
        longer = h.longer;
        says = h.says;
        counted = h.counted;
        between = h.between;
        wide = h.wide;
        noted = counts-more env.files env.c w out vs h.vs_now h.vs_now h.out_now.bytes h.out_now.bytes s.notes (rec.Reset env.place env.c total ∷ []) h.noted (refl, tt) (omega arith) (omega arith) (inr refl)
            (λ t told. ((λ J e. resets-next env.files env.c w.bytes h.out_now.bytes h.vs_now J (subst (TellsOf w.bytes h.out_now.bytes h.vs_now) (sym e) told) v (next-is v rest s h may) total same), tt));
        reading = list_any-append is_reset_record s.notes (rec.Reset env.place env.c total ∷ []) ∙ or-last (list_any is_reset_record s.notes) true refl;
      }

  -- a response is queued
  queued-serves : (via : Via) (v : Verdict) (rest : List Verdict) (s : Service) (h : So s (v ∷ rest)) → MayGo w h.vs_now (v ∷ rest) s → IsWay env.files v via → s.block.send.total + length (answer env.files v) ≤ 2 ^ 30
      → So (queued env via v (answer env.files v) s) rest
  queued-serves via v rest s h may way le =
      let bytes = answer env.files v in
      let first : IsFirst w h.vs_now v rest s.block = record { read = may.read; keeps = may.keeps } in
      let size : length (h.vs_now ++ v ∷ []) ≡ length h.vs_now + 1 = length-append h.vs_now (v ∷ []) in
      let count : length h.out_now.bytes ≡ s.block.send.total = h.between.speaks.part.count in
      let one : Onward w h.out_now (h.out_now.bytes ++ bytes) (queueing s.block bytes) = onward-queued w h.out_now s.block h.between bytes may.unfinished (omega (arith, count, le)) in
      let two = onward-closed w one.next v (queueing s.block bytes) one.between in
      let longer = goes_on-trans h.out_now one.next two.next one.longer two.longer in
      let said : two.next.bytes ≡ h.out_now.bytes ++ bytes = two.bytes_are ∙ one.bytes_are in
      let counted = h.counted in
      let number : s.count + 1 ≡ length h.vs_now + 1 = ap (λ (n : ℕ). n + 1) counted in
      let open_ : out.ended ≡ false = still-open out h.out_now h.longer (ap (λ x. x.ended) h.between.out_is ∙ may.unfinished) in
      record {
        out_now = two.next;
        vs_now = h.vs_now ++ v ∷ [];
        longer = goes_on-trans out h.out_now two.next h.longer longer;
        says = says-more env.files w h.out_now two.next h.vs_now v h.says longer said (omega (arith, count, le)) (first-fronts w h.vs_now v rest s.block first);
        counted = omega (arith, counted, size);
        between = two.between;
        wide = wide-half _ (closed-wide v (queueing s.block bytes) (record { wnd = h.wide.wnd; wl1 = h.wide.wl1; wl2 = h.wide.wl2 }));
        noted = counts-more env.files env.c w out vs h.vs_now (h.vs_now ++ v ∷ []) h.out_now.bytes two.next.bytes s.notes (rec.Served env.place env.c (s.count + 1) (answer_code env.files v) (length bytes) via ∷ []) h.noted
            (refl, tt) (omega (arith, size)) (omega (arith, ap length said, length-append h.out_now.bytes bytes)) (inl open_)
            (λ t told. ((λ J e. answers-next env.files env.c w.bytes h.out_now.bytes h.vs_now J (subst (TellsOf w.bytes h.out_now.bytes h.vs_now) (sym e) told) v (next-is v rest s h may) (s.count + 1) via number way), tt));
        reading = first-read w h.vs_now v rest s.block (queueing s.block bytes) first refl;
      }

  -- what is left of the first and of the others
  abbrev pub left_of : Option ℕ → Verdict → List Verdict → List Verdict
  left_of None v rest = rest
  left_of (Some total) v rest = v ∷ rest

  pub answered-serves : env.stream ≤ 2 ^ 30 → (via : Via) (v : Verdict) (rest : List Verdict) (s : Service) (h : So s (v ∷ rest)) → MayGo w h.vs_now (v ∷ rest) s → IsWay env.files v via
      → So (answered env via v s) (left_of (answered env via v s).over v rest)
  answered-serves most via v rest s h may way =
      let total = s.block.send.total + length (answer env.files v) in
      cond_both (nat_lt env.stream total) (passed_over env total s) (queued env via v (answer env.files v) s) (λ t. So t (left_of t.over v rest))
      (λ t. passed-serves v rest (v ∷ rest) s h may)
      (λ t. let le : total ≤ env.stream = ltb-false env.stream total t in queued-serves via v rest s h may way (omega (arith, le, most)))

  -- behind the client's FIN the cluster's follows
  finished-serves : (s : Service) (h : So s []) → MayGo w h.vs_now [] s → So (record s { block = finishing s.block }) []
  finished-serves s h may =
      let next = onward-finished w h.out_now s.block h.between in
      record {
        out_now = next.next;
        vs_now = h.vs_now;
        longer = goes_on-trans out h.out_now next.next h.longer next.longer;
        says = says-same env.files w h.out_now next.next h.vs_now h.says next.longer next.bytes_are;
        counted = h.counted;
        between = next.between;
        wide = record { wnd = h.wide.wnd; wl1 = h.wide.wl1; wl2 = h.wide.wl2 };
        noted = subst (λ (said : List ℕ). CountsResponses env.files env.c w out vs h.vs_now said s.notes) (sym next.bytes_are) h.noted;
        reading = subst (λ (o : Option ℕ). IsReading w h.vs_now [] (finishing s.block) s.notes o) (sym may.none)
            (record { cut = may.read.cut; goes_on = may.read.goes_on; stops = λ e. (refl, (may.read.stops e).1, refl); fronts = may.read.fronts });
      }

  pub ended-serves : (s : Service) (h : So s []) → MayGo w h.vs_now [] s → So (ended_at_fin s) []
  ended-serves s h may = cond_both s.block.recv.fin (record s { block = finishing s.block }) s (λ t. So t []) (λ t. finished-serves s h may) (λ t. h)

  -- some of the unread bytes were read, as so many verdicts
  pub consumed-serves : (n : ℕ) (s : Service) (pend : List Verdict) (h : So s []) → s.over ≡ None → HasReadPending w (consuming s.block n) h.vs_now pend → So (serving_consumed n s) pend
  consumed-serves n s pend h none read = record {
    out_now = h.out_now;
    vs_now = h.vs_now;
    longer = h.longer;
    says = h.says;
    counted = h.counted;
    between = between-consumed w h.out_now s.block h.between n;
    wide = record { wnd = h.wide.wnd; wl1 = h.wide.wl1; wl2 = h.wide.wl2 };
    noted = h.noted;
    reading = subst (λ (o : Option ℕ). IsReading w h.vs_now pend (consuming s.block n) s.notes o) (sym none) read;
  }
