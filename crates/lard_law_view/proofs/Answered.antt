-- What the front end got of what a client wrote, it has answered.
use Rattle.std.proofs.Common.{◌≡◌, ◌≤◌, ◌+◌, ◌-◌, ℕ, ◌||◌, Bool, true, false, List, [], ◌∷◌, ◌++◌, length, take, drop, arith, refl, ap, ◌∙◌, sym, append-nil, length-append}
use Rattle.std.proofs.Math.Seq.{take-add, take-length}
use Rattle.lard_law_view.specs.Prelude.{ControlBlock, FilesAt, HoldsIt, IsPrefix, SaysAnswers, Stream, Verdict, blocks, closes, closes_any, until_close, verdicts, verdicts_on}
use Rattle.lard_answers.proofs.Following.{until_close-behind}
use Rattle.lard_answers.proofs.Growing.{until_close-nil, until_close-closed, until_close-open, verdicts-are, verdicts-grow}
use Rattle.lard_law_view.proofs.ReadingBytes.{read-came}

-- ---- verdicts that close

-- nothing stands before what is empty
front-nothing : (vs rest : List Verdict) → [] ≡ vs ++ rest → vs ≡ []
front-nothing [] rest e = refl
front-nothing (v ∷ vs) rest e = absurd (cc)

-- verdicts that are answered up to the first that closes are no more than their front that closes
front-closes : (us vs : List Verdict) → closes_any vs ≡ true → IsPrefix vs (until_close us) → until_close us ≡ vs
front-closes us [] shut h = absurd (cc)
front-closes [] (v ∷ vs) shut h = absurd (let e : [] ≡ v ∷ (vs ++ h.0) = sym until_close-nil ∙ h.1 in cc)
front-closes (u ∷ us) (v ∷ vs) shut h = go (front-closes us vs) (closes u) refl where
  go : (closes_any vs ≡ true → IsPrefix vs (until_close us) → until_close us ≡ vs) → (b : Bool) → closes u ≡ b → until_close (u ∷ us) ≡ v ∷ vs
  go later true e =
      let both : u ∷ [] ≡ v ∷ (vs ++ h.0) = sym (until_close-closed u us e) ∙ h.1 in
      let same : u ≡ v = cc in
      let nothing : [] ≡ vs ++ h.0 = cc in
      let none = front-nothing vs h.0 nothing in
      until_close-closed u us e ∙ ap (λ x. x ∷ []) same ∙ ap (λ xs. v ∷ xs) (sym none)
  go later false e =
      let both : u ∷ until_close us ≡ v ∷ (vs ++ h.0) = sym (until_close-open u us e) ∙ h.1 in
      let same : u ≡ v = cc in
      let rest : until_close us ≡ vs ++ h.0 = cc in
      let shut_later : closes_any vs ≡ true = sym (ap (λ b. b || closes_any vs) (ap closes (sym same) ∙ e)) ∙ shut in
      until_close-open u us e ∙ ap (λ x. x ∷ until_close us) same ∙ ap (λ xs. v ∷ xs) (later shut_later (h.0, rest))

-- ---- what was read

-- fewer bytes have no more verdicts
pub fewer-verdicts : (w : List ℕ) (a k : ℕ) → a ≤ k → length (verdicts (take a w)) ≤ length (verdicts (take k w))
fewer-verdicts w a k le =
    let at : k ≡ a + (k - a) = omega (arith, le) in
    let more = verdicts-grow (take a w) (take (k - a) (drop a w)) in
    let whole : verdicts (take k w) ≡ verdicts (take a w) ++ more.0 = ap verdicts (ap (λ n. take n w) at ∙ take-add a (k - a) w) ∙ more.1 in
    omega (arith, ap length whole, length-append (verdicts (take a w)) more.0)

module _ (w out : Stream) (vs : List Verdict) (b : ControlBlock) (count : ℕ) (files : FilesAt) (says : SaysAnswers files w out vs) (h : HoldsIt w out vs b count) where
  -- where nothing is discarded the verdicts are those on the bytes that came
  came-judged : b.recv.discarding ≡ false → verdicts (take b.recv.got w.bytes) ≡ vs
  came-judged e =
      verdicts-are (take b.recv.got w.bytes)
      ∙ ap (λ xs. until_close (verdicts_on (blocks xs))) (read-came w b.recv h.hears e)
      ∙ ap until_close (h.has_read.cut e b.recv.unread ∙ ap (λ ps. vs ++ verdicts_on ps) (h.stopped.none e))
      ∙ until_close-behind vs [] (h.has_read.goes_on e) ∙ ap (λ xs. vs ++ xs) until_close-nil ∙ append-nil vs

  -- and where something is, they are those on all that the client wrote, since one of them closes
  closed-judged : b.recv.discarding ≡ true → verdicts w.bytes ≡ vs
  closed-judged e =
      let first = says.fronts [] in
      verdicts-are w.bytes
      ∙ front-closes (verdicts_on (blocks w.bytes)) vs (h.has_read.stops e).1 (first.0, sym (verdicts-are w.bytes) ∙ ap verdicts (sym (append-nil w.bytes)) ∙ first.1)

  -- a front end that got all that the client wrote has answered all of it
  pub all-answered : b.recv.got ≡ length w.bytes → verdicts w.bytes ≡ vs
  all-answered all = go b.recv.discarding refl where
    go : (t : Bool) → b.recv.discarding ≡ t → verdicts w.bytes ≡ vs
    go true e = closed-judged e
    go false e = ap verdicts (sym (ap (λ n. take n w.bytes) all ∙ take-length w.bytes)) ∙ came-judged e

  -- and one that got some of it has answered that
  pub came-answered : length (verdicts (take b.recv.got w.bytes)) ≤ length vs
  came-answered = go b.recv.discarding refl where
    go : (t : Bool) → b.recv.discarding ≡ t → length (verdicts (take b.recv.got w.bytes)) ≤ length vs
    go true e =
        let within = h.hears.within in
        let fewer = fewer-verdicts w.bytes b.recv.got (length w.bytes) within in
        let all : length (verdicts (take (length w.bytes) w.bytes)) ≡ length vs = ap (λ xs. length (verdicts xs)) (take-length w.bytes) ∙ ap length (closed-judged e) in
        omega (arith, fewer, all)
    go false e = let same : length (verdicts (take b.recv.got w.bytes)) ≡ length vs = ap length (came-judged e) in omega (arith, same)
