-- What was read and what is answered of it: while segments come, while a batch is read, and while its requests are served in order.
use Rattle.std.proofs.Common.{◌≡◌, ℕ, Bool, true, false, cond, ◌||◌, List, [], ◌∷◌, ◌++◌, length, take, drop, arith, refl, ap, ◌∙◌, sym, subst, append_assoc, append-nil, length-append}
use Rattle.std.proofs.lemmas.Bool.{both_ways, cond_both, cond-false}
use Rattle.std.proofs.lemmas.List.{take-append-drop}
use Rattle.std.proofs.lemmas.List.Folds.{list_any-append}
use Rattle.lard_law_view.specs.Prelude.{ControlBlock, Hears, IsPrefix, Received, Said, Stream, Verdict, awaited, batch_of, batch_pieces, begins_after, blocks, bytes_taken, bytes_used, closed_behind, closes, closes_any, consuming, discarding_on, ends, finishing, fresh_bytes, on_segment, until_close, verdicts, verdicts_on}
use Rattle.lard_answers.proofs.Following.{until_close-behind}
use Rattle.lard_answers.proofs.Growing.{IsPrefix-trans, until_close-cons, until_close-nil, verdicts-are, verdicts-grow}
use Rattle.lard_block.proofs.Skips.{cuts-pairs}
use Rattle.lard_law_connections.specs.BytesAgreement.{HasReadPending}
use Rattle.lard_law_view.specs.Agreement as one
use Rattle.lard_law_view.proofs.EndpointStreams.{IsBetween, same-finished, segment-takes}
use Rattle.lard_law_view.proofs.ReadingBytes.{IsJudged, place, read-judged, read-split}
use Rattle.lard_reader.proofs.Taken.{batch-open_cut, batch-verdicts}

-- ---- where nothing waits, it is as where a place answers at once

pub read-alone : (w : Stream) (b : ControlBlock) (vs : List Verdict) → HasReadPending w b vs [] → one.HasRead w b vs
read-alone w b vs h = record {
  cut = λ e z. subst (λ (us : List Verdict). verdicts_on (blocks (take (place b.recv) w.bytes ++ z)) ≡ us ++ verdicts_on (blocks z)) (append-nil vs) (h.cut e refl z);
  goes_on = h.goes_on;
  stops = λ e. let s = h.stops e in (s.0, s.1);
}

-- ---- another endpoint between the same streams

pub read-carried : (w out : Stream) (b d : ControlBlock) (vs pend : List Verdict) → IsBetween w out b → IsBetween w out d → d.recv.discarding ≡ b.recv.discarding
    → (b.recv.discarding ≡ false → place d.recv ≡ place b.recv) → HasReadPending w b vs pend → HasReadPending w d vs pend
read-carried w out b d vs pend h k same at read =
    let finished = same-finished w out b d h k in
    let P : ℕ → Type 0 = λ n. IsJudged (take n w.bytes) (vs ++ pend) in
    record {
      cut = λ e open_. let f : b.recv.discarding ≡ false = sym same ∙ e in subst P (sym (at f)) (read.cut f open_);
      goes_on = λ e. read.goes_on (sym same ∙ e);
      stops = λ e. let s = read.stops (sym same ∙ e) in (finished ∙ s.0, s.1, s.2);
      fronts = read.fronts;
    }

pub read-same : (w out : Stream) (b d : ControlBlock) (vs pend : List Verdict) → IsBetween w out b → IsBetween w out d → d.recv ≡ b.recv → HasReadPending w b vs pend → HasReadPending w d vs pend
read-same w out b d vs pend h k e = read-carried w out b d vs pend h k (ap (λ r. r.discarding) e) (λ _. ap place e)

-- what arrives stands behind the unread bytes
pub read-arrived : (w out : Stream) (b : ControlBlock) (vs pend : List Verdict) (s : Said) → IsBetween w out b → IsBetween w out (on_segment b s).1 → HasReadPending w b vs pend
    → HasReadPending w (on_segment b s).1 vs pend
read-arrived w out b vs pend s h k =
    let r = b.recv in
    let P : Received → Type 0 = λ z. (z.discarding ≡ r.discarding) × (r.discarding ≡ false → place z ≡ place r) in
    let more = fresh_bytes r s.seq s.payload in
    let grown : Received = bytes_taken r more (ends r s.seq s.payload s.flags.fin) in
    let same : P r = (refl, λ _. refl) in
    let size = length-append r.unread more in
    let within = h.hears.sound.within in
    let kept = segment-takes P s b same
    (cond_both (begins_after s.seq (awaited r)) r (cond r.fin r grown) P (λ _. same)
    (λ _. cond_both r.fin r grown P (λ _. same)
    (λ _. (refl, λ e. let unread : length (cond r.discarding r.unread (r.unread ++ more)) ≡ length (r.unread ++ more) = ap length (cond-false r.discarding r.unread (r.unread ++ more) e) in omega arith)))) in
    read-carried w out b (on_segment b s).1 vs pend h k kept.0 kept.1

-- ---- a batch is read

-- the verdicts on what follows bytes that are cut
behind-judged : (x y : List ℕ) (vs : List Verdict) → IsJudged x vs → closes_any vs ≡ false → verdicts (x ++ y) ≡ vs ++ verdicts y
behind-judged x y vs judged open_ =
    verdicts-are (x ++ y) ∙ ap until_close (judged y) ∙ until_close-behind vs (verdicts_on (blocks y)) open_ ∙ ap (λ us. vs ++ us) (sym (verdicts-are y))

prefix-behind : {A : Type 0} (vs xs ys : List A) → IsPrefix xs ys → IsPrefix (vs ++ xs) (vs ++ ys)
prefix-behind vs xs ys h = (h.0, ap (λ l. vs ++ l) h.1 ∙ sym (append_assoc vs xs h.0))

module _ (w : Stream) (b : ControlBlock) (vs : List Verdict) (heard : Hears w b.recv) (keeps : b.recv.discarding ≡ false) (read : HasReadPending w b vs []) where
  abbrev unread : List ℕ
  unread = b.recv.unread

  alone : IsJudged (take (place b.recv) w.bytes) vs
  alone = (read-alone w b vs read).cut keeps

  -- the verdicts of a batch come next of all
  batch-fronts : (n : ℕ) (z : List ℕ) → IsPrefix (vs ++ batch_of n unread) (verdicts (w.bytes ++ z))
  batch-fronts n z =
      let before : List ℕ = take (place b.recv) w.bytes in
      let rest : List ℕ = drop b.recv.got w.bytes in
      let split : w.bytes ++ z ≡ before ++ (unread ++ (rest ++ z)) =
      ap (λ l. l ++ z) (read-split w b.recv heard keeps) ∙ append_assoc before (unread ++ rest) z ∙ ap (λ l. before ++ l) (append_assoc unread rest z) in
      let all : verdicts (w.bytes ++ z) ≡ vs ++ verdicts (unread ++ (rest ++ z)) = ap verdicts split ∙ behind-judged before (unread ++ (rest ++ z)) vs alone (read.goes_on keeps) in
      let first : IsPrefix (batch_of n unread) (verdicts unread) = (drop n (verdicts unread), sym (take-append-drop n (verdicts unread))) in
      let more : IsPrefix (verdicts unread) (verdicts (unread ++ (rest ++ z))) = verdicts-grow unread (rest ++ z) in
      subst (IsPrefix (vs ++ batch_of n unread)) (sym all)
      (prefix-behind vs (batch_of n unread) (verdicts (unread ++ (rest ++ z))) (IsPrefix-trans (batch_of n unread) (verdicts unread) (verdicts (unread ++ (rest ++ z))) first more))

  pub batch-read : (n : ℕ) → HasReadPending w (consuming b (bytes_used n unread)) vs (batch_of n unread)
  batch-read n = record {
    cut = λ e open_. subst (λ (us : List Verdict). IsJudged (take (place (consuming b (bytes_used n unread)).recv) w.bytes) (vs ++ us)) (batch-verdicts n unread)
        (read-judged w b.recv heard keeps (bytes_used n unread) vs (batch_pieces n unread) alone (batch-open_cut cuts-pairs n unread open_));
    goes_on = λ e. read.goes_on keeps;
    stops = λ e. absurd (both_ways b.recv.discarding keeps e);
    fronts = batch-fronts n;
  }

-- ---- the first of a batch is answered

-- nothing follows one that closes
last-closes : (vs : List Verdict) (v : Verdict) (rest us more : List Verdict) → until_close us ≡ (vs ++ v ∷ rest) ++ more → closes v ≡ true → rest ≡ []
last-closes vs v rest [] more e c = let none : [] ≡ (vs ++ v ∷ rest) ++ more = sym until_close-nil ∙ e in absurd (empty vs none) where
  empty : (xs : List Verdict) → [] ≡ (xs ++ v ∷ rest) ++ more → ⊥
  empty [] f = cc
  empty (x ∷ xs) f = cc
last-closes [] v rest (u ∷ us) more e c =
    let all : u ∷ cond (closes u) [] (until_close us) ≡ v ∷ (rest ++ more) = sym (until_close-cons u us) ∙ e in
    let same : u ≡ v = cc in
    let behind : cond (closes u) [] (until_close us) ≡ rest ++ more = cc in
    let shut : closes u ≡ true = ap closes same ∙ c in
    let none : [] ≡ rest ++ more = sym (ap (λ b. cond b [] (until_close us)) shut) ∙ behind in
    front-none rest none where
      front-none : (xs : List Verdict) → [] ≡ xs ++ more → xs ≡ []
      front-none [] f = refl
      front-none (x ∷ xs) f = absurd cc
last-closes (a ∷ vs) v rest (u ∷ us) more e c =
    let all : u ∷ cond (closes u) [] (until_close us) ≡ a ∷ ((vs ++ v ∷ rest) ++ more) = sym (until_close-cons u us) ∙ e in
    let behind : cond (closes u) [] (until_close us) ≡ (vs ++ v ∷ rest) ++ more = cc in
    go (closes u) behind (λ f. last-closes vs v rest us more f c) where
      empty : (xs : List Verdict) → [] ≡ (xs ++ v ∷ rest) ++ more → ⊥
      empty [] f = cc
      empty (x ∷ xs) f = cc

      go : (b : Bool) → cond b [] (until_close us) ≡ (vs ++ v ∷ rest) ++ more → (until_close us ≡ (vs ++ v ∷ rest) ++ more → rest ≡ []) → rest ≡ []
      go true f on = absurd (empty vs f)
      go false f on = on f

-- what comes next of all that is answered, with all that was read behind it
pub record IsFirst (w : Stream) (vs : List Verdict) (v : Verdict) (rest : List Verdict) (b : ControlBlock) : Type 0 where
  pub read : HasReadPending w b vs (v ∷ rest)
  pub keeps : b.recv.discarding ≡ false

first-last : (w : Stream) (vs : List Verdict) (v : Verdict) (rest : List Verdict) (b : ControlBlock) → IsFirst w vs v rest b → closes v ≡ true → rest ≡ []
first-last w vs v rest b f c =
    let front = f.read.fronts [] in
    last-closes vs v rest (verdicts_on (blocks (w.bytes ++ []))) front.0 (sym (verdicts-are (w.bytes ++ [])) ∙ front.1) c

first-assoc : (vs : List Verdict) (v : Verdict) (rest : List Verdict) → vs ++ v ∷ rest ≡ (vs ++ v ∷ []) ++ rest
first-assoc vs v rest = sym (append_assoc vs (v ∷ []) rest)

-- behind its answer
pub first-read : (w : Stream) (vs : List Verdict) (v : Verdict) (rest : List Verdict) (b d : ControlBlock) → IsFirst w vs v rest b → d.recv ≡ b.recv → HasReadPending w (closed_behind v d) (vs ++ v ∷ []) rest
first-read w vs v rest b d f same = cond_both (closes v) (finishing (discarding_on d)) d (λ (e : ControlBlock). HasReadPending w e (vs ++ v ∷ []) rest)
    (λ shut. record {
      cut = λ e. absurd cc;
      goes_on = λ e. absurd cc;
      stops = λ e. (refl, list_any-append closes vs (v ∷ []) ∙ ap (λ b. closes_any vs || (b || false)) shut ∙ or-true (closes_any vs), first-last w vs v rest b f shut);
      fronts = fronts;
    })
    (λ on. record {
      cut = λ e open_ z.
          let was : b.recv.discarding ≡ false = ap (λ r. r.discarding) (sym same) ∙ e in
          subst (λ (us : List Verdict). verdicts_on (blocks (take (place d.recv) w.bytes ++ z)) ≡ us ++ verdicts_on (blocks z)) (first-assoc vs v rest)
          (subst (λ (r : Received). verdicts_on (blocks (take (place r) w.bytes ++ z)) ≡ (vs ++ v ∷ rest) ++ verdicts_on (blocks z)) (sym same)
          (f.read.cut was (ap (λ b. b || closes_any rest) on ∙ open_) z));
      goes_on = λ e. list_any-append closes vs (v ∷ []) ∙ ap (λ b. closes_any vs || (b || false)) on ∙ ap (λ b. b || false) (f.read.goes_on f.keeps);
      stops = λ e. absurd (both_ways d.recv.discarding (ap (λ r. r.discarding) same ∙ f.keeps) e);
      fronts = fronts;
    }) where
      or-true : (b : Bool) → b || true ≡ true
      or-true true = refl
      or-true false = refl

      fronts : (z : List ℕ) → IsPrefix ((vs ++ v ∷ []) ++ rest) (verdicts (w.bytes ++ z))
      fronts z = subst (λ (us : List Verdict). IsPrefix us (verdicts (w.bytes ++ z))) (first-assoc vs v rest) (f.read.fronts z)

-- it is the next of all
pub first-fronts : (w : Stream) (vs : List Verdict) (v : Verdict) (rest : List Verdict) (b : ControlBlock) → IsFirst w vs v rest b → (z : List ℕ) → IsPrefix (vs ++ v ∷ []) (verdicts (w.bytes ++ z))
first-fronts w vs v rest b f z =
    IsPrefix-trans (vs ++ v ∷ []) ((vs ++ v ∷ []) ++ rest) (verdicts (w.bytes ++ z)) (rest, refl)
    (subst (λ (us : List Verdict). IsPrefix us (verdicts (w.bytes ++ z))) (first-assoc vs v rest) (f.read.fronts z))
