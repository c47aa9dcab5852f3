-- Bytes that are read from the front: what is cut into pieces with some verdicts, and the next verdict.
use Rattle.std.proofs.Common.{◌≡◌, min, ◌+◌, ◌-◌, ℕ, false, cond, List, [], ◌∷◌, ◌++◌, map, length, take, drop, arith, ap, ◌∙◌, sym, subst, append_assoc, length-drop}
use Rattle.std.proofs.Math.Seq.{take-add, drop-append_seam}
use Rattle.std.proofs.lemmas.List.{take_min, drop-take, length-take-le, map-append, take-append-drop, take-append-le}
use Rattle.lard_law_view.specs.Prelude.{Cuts, Head, Hears, IsPrefix, Received, Stream, Verdict, blocks, closes, closes_any, consumed, cut_of, piece_moved, piece_verdict, until_close, verdict, verdicts, verdicts_on}
use Rattle.lard_answers.proofs.Following.{verdicts_on-moved, until_close-behind}
use Rattle.lard_answers.proofs.Growing.{until_close-cons, verdicts-are}
use Rattle.lard_block.specs.declared.block.Found.TheVariants.{Block, More, TooLong}
use Rattle.lard_block.specs.Blocks.{Piece}
use Rattle.lard_block.proofs.Cutting.{more-skips}
use Rattle.lard_block.proofs.Division.{grows, long-last, cuts-block}
use Rattle.lard_block.proofs.Skips.{cuts-pairs}
use Rattle.lard_request.specs.declared.verdict.Code.TheVariants.{FieldsTooLarge}
use Rattle.lard_request.specs.declared.verdict.Verdict.TheVariants.{Fault}

-- these bytes are cut into pieces with these verdicts, whatever follows
abbrev pub IsJudged : List ℕ → List Verdict → Type 0
IsJudged x vs = (z : List ℕ) → verdicts_on (blocks (x ++ z)) ≡ vs ++ verdicts_on (blocks z)

-- the first verdict on these bytes, whatever follows
abbrev pub BeginsWith : List ℕ → Verdict → Type 0
BeginsWith y v = (z : List ℕ) → (ws : List Verdict) × (verdicts_on (blocks (y ++ z)) ≡ v ∷ ws)

-- ---- what is cut

-- where a whole head is awaited, the pairs before it are skipped
pub cuts-more : (q : List ℕ) (skip : ℕ) → cut_of q ≡ More skip → Cuts (take skip q) []
cuts-more q skip e = subst (λ n. Cuts (take n q) []) (more-skips q skip e) (cuts-pairs q)

-- the verdicts on bytes that are cut, and on those behind them
cut-verdicts : (y z : List ℕ) (ps : List Piece) → Cuts y ps → verdicts_on (blocks (y ++ z)) ≡ verdicts_on ps ++ verdicts_on (blocks z)
cut-verdicts y z ps d = ap verdicts_on (d z)
    ∙ map-append piece_verdict ps (map (piece_moved (length y)) (blocks z))
    ∙ ap (λ ws. verdicts_on ps ++ ws) (verdicts_on-moved (length y) (blocks z))

pub judged-on : (x y : List ℕ) (vs : List Verdict) (ps : List Piece) → IsJudged x vs → Cuts y ps → IsJudged (x ++ y) (vs ++ verdicts_on ps)
judged-on x y vs ps c d z = ap (λ w. verdicts_on (blocks w)) (append_assoc x y z)
    ∙ c (y ++ z)
    ∙ ap (λ ws. vs ++ ws) (cut-verdicts y z ps d)
    ∙ sym (append_assoc vs (verdicts_on ps) (verdicts_on (blocks z)))

-- ---- the next verdict

pub begins-block : (q : List ℕ) (skip len : ℕ) → cut_of q ≡ Block skip len → BeginsWith q (verdict (take len (drop skip q)))
begins-block q skip len e z =
    let n = skip + len in (
      verdicts_on (blocks (drop n q ++ z)),
      ap (λ w. verdicts_on (blocks (w ++ z))) (sym (take-append-drop n q)) ∙ ap (λ w. verdicts_on (blocks w)) (append_assoc (take n q) (drop n q) z)
          ∙ cut-verdicts (take n q) (drop n q ++ z) (Head (take len (drop skip q)) n ∷ []) (cuts-block q skip len e),
    )

pub begins-long : (q : List ℕ) (skip : ℕ) → cut_of q ≡ TooLong skip → BeginsWith q (Fault FieldsTooLarge)
begins-long q skip e z =
    let more = grows q z in
    (verdicts_on more.0, ap verdicts_on (more.1 ∙ ap (λ ps. ps ++ more.0) (long-last q skip e)))

-- it comes next of all that is answered, where none before it closes
pub next-front : (x y z : List ℕ) (vs : List Verdict) (v : Verdict) → IsJudged x vs → closes_any vs ≡ false → BeginsWith y v → IsPrefix (vs ++ v ∷ []) (verdicts (x ++ (y ++ z)))
next-front x y z vs v c open_ first =
    let later = first z in
    let rest : List Verdict = cond (closes v) [] (until_close later.0) in (
      rest,
      verdicts-are (x ++ (y ++ z))
          ∙ ap until_close (c (y ++ z) ∙ ap (λ ws. vs ++ ws) later.1)
          ∙ until_close-behind vs (v ∷ later.0) open_
          ∙ ap (λ ws. vs ++ ws) (until_close-cons v later.0)
          ∙ sym (append_assoc vs (v ∷ []) rest),
    )

-- ---- the place of what is unread

-- how many bytes were read
abbrev pub place : Received → ℕ
place r = r.got - length r.unread

module _ (x : Stream) (r : Received) (h : Hears x r) (kept : r.discarding ≡ false) where
  -- the bytes that came are those that were read, and the unread ones behind them
  pub read-came : take r.got x.bytes ≡ take (place r) x.bytes ++ r.unread
  read-came =
      let within = h.sound.within in
      let sum : r.got ≡ place r + length r.unread = omega arith in
      let unread : r.unread ≡ take (length r.unread) (drop (place r) x.bytes) =
      h.part.part kept ∙ ap (λ n. drop (place r) (take n x.bytes)) sum ∙ drop-take (place r) (length r.unread) x.bytes in
      ap (λ n. take n x.bytes) sum ∙ take-add (place r) (length r.unread) x.bytes ∙ ap (λ w. take (place r) x.bytes ++ w) (sym unread)

  -- and behind these come the others
  pub read-split : x.bytes ≡ take (place r) x.bytes ++ (r.unread ++ drop r.got x.bytes)
  read-split =
      sym (take-append-drop r.got x.bytes) ∙ ap (λ w. w ++ drop r.got x.bytes) read-came ∙ append_assoc (take (place r) x.bytes) r.unread (drop r.got x.bytes)

  pub read-more : (n : ℕ) → take (place (consumed r n)) x.bytes ≡ take (place r) x.bytes ++ take n r.unread
  read-more n =
      let within = h.sound.within in
      let size = length-drop n r.unread in
      let m : ℕ = min n (length r.unread) in
      let at : place (consumed r n) ≡ place r + m = omega arith in
      let most = h.within in
      let front : length (take (place r) x.bytes) ≡ place r = length-take-le (place r) x.bytes (omega arith) in
      let rest : drop (place r) x.bytes ≡ r.unread ++ drop r.got x.bytes =
      ap (drop (place r)) read-split ∙ ap (λ k. drop k (take (place r) x.bytes ++ (r.unread ++ drop r.got x.bytes))) (sym front)
      ∙ drop-append_seam (take (place r) x.bytes) (r.unread ++ drop r.got x.bytes) in
      ap (λ k. take k x.bytes) at
      ∙ take-add (place r) m x.bytes
      ∙ ap (λ w. take (place r) x.bytes ++ w) (ap (take m) rest ∙ take-append-le m r.unread (drop r.got x.bytes) (omega arith) ∙ take_min n r.unread)

  -- the next verdict on the unread bytes comes next of all, however the stream goes on
  pub next-verdict : (vs : List Verdict) (v : Verdict) → IsJudged (take (place r) x.bytes) vs → closes_any vs ≡ false → BeginsWith r.unread v
      → (z : List ℕ) → IsPrefix (vs ++ v ∷ []) (verdicts (x.bytes ++ z))
  next-verdict vs v judged open_ first z =
      let P : List ℕ → Type 0 = λ w. IsPrefix (vs ++ v ∷ []) (verdicts w) in
      let read = take (place r) x.bytes in
      let rest = drop r.got x.bytes in
      let split : x.bytes ++ z ≡ read ++ (r.unread ++ (rest ++ z)) =
      ap (λ w. w ++ z) read-split ∙ append_assoc read (r.unread ++ rest) z ∙ ap (λ w. read ++ w) (append_assoc r.unread rest z) in
      subst P (sym split) (next-front read r.unread (rest ++ z) vs v judged open_ first)

  -- pieces that are cut off the unread bytes are judged too
  pub read-judged : (n : ℕ) (vs : List Verdict) (ps : List Piece) → IsJudged (take (place r) x.bytes) vs → Cuts (take n r.unread) ps → IsJudged (take (place (consumed r n)) x.bytes) (vs ++ verdicts_on ps)
  read-judged n vs ps judged cuts =
      let P : List ℕ → Type 0 = λ y. IsJudged y (vs ++ verdicts_on ps) in
      subst P (sym (read-more n)) (judged-on (take (place r) x.bytes) (take n r.unread) vs ps judged cuts)
