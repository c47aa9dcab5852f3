-- Each turn but the last takes something away: two for a byte that was not read, since it becomes a request at most; one for a
-- request that waits, and one until a response would pass the stream limit.
use Rattle.std.proofs.Common.{◌≡◌, ℕ, ◌+◌, ◌≤◌, ◌<◌, Bool, true, false, List, [], ◌∷◌, ◌++◌, length, nat_lt, Option, Some, None, cond, refl, sym, ap, arith}
use Rattle.std.specs.Prelude.{not, ◌&&◌}
use Rattle.std.proofs.lemmas.Bool.{cond_both}
use Rattle.std.proofs.lemmas.List.{length-drop, length_push}
use Rattle.lard_answers.specs.Answers.{answer}
use Rattle.lard_base.specs.declared.place.Via.{Via}
use Rattle.lard_endpoint.specs.Control.{ControlBlock, discarding_on, finishing}
use Rattle.lard_rules.specs.declared.stay.Entry.{Entry}
use Rattle.lard_rules.specs.declared.stay.Next.{Next}
use Rattle.lard_rules.specs.declared.stay.Next.TheVariants.{Serve, Read, Stop}
use Rattle.lard_rules.specs.declared.stay.Progress.{Progress}
use Rattle.lard_rules.specs.declared.stay.Progress.TheVariants.{Named, Reading, Awaited, Ready}
use Rattle.lard_rules.specs.Stay.{NodeEnv, Work, asking, asks_for, entered, enters, work_left, left_over, named_paths, next_by, next_in, next_of, read_entry, reads_batch, reads_these, stay_serves, serves_by, serves_first, serves_with, stay_turn, turned}
use Rattle.lard_reader.specs.Batches.{batch_of, bytes_used}
use Rattle.lard_reader.proofs.Used.{batch-used}
use Rattle.lard_request.specs.declared.verdict.Verdict.{Verdict}
use Rattle.lard_request.specs.Verdict.{closes}
use Rattle.lard_rules.specs.Loop.{More, Done, state_of}
use Rattle.lard_rules.specs.Serving.{answered, closed_behind, serving_consumed, passed_over, queued}

-- ---- what a turn finds

found : (w : Work) (n : Next) → (n ≡ Stop → ⊥) → next_of w ≡ n → (next_in w.batch ≡ n) × (w.service.over ≡ None)
found w n s e = go w.service.block.reset w.service.block.send.finished w.service.over e where
  go : (r f : Bool) (o : Option ℕ) → cond (not r && (not f && (elim o as (λ x. Bool) [ None ↦ true | Some total ↦ false ]))) (next_in w.batch) Stop ≡ n → (next_in w.batch ≡ n) × (o ≡ None)
  go true f o h = absurd (s (sym h))
  go false true o h = absurd (s (sym h))
  go false false None h = (h, refl)
  go false false (Some total) h = absurd (s (sym h))

-- ---- serving

unread-behind : (v : Verdict) (b : ControlBlock) → length (closed_behind v b).recv.unread ≤ length b.recv.unread
unread-behind v b = cond_both (closes v) (finishing (discarding_on b)) b (λ d. length d.recv.unread ≤ length b.recv.unread) (λ t. omega arith) (λ t. omega arith)

ready_falls : (env : NodeEnv) (w : Work) (via : Via) (e : Entry) (es : List Entry) → w.batch ≡ e ∷ es → w.service.over ≡ None
    → work_left (serves_with (answered env.serve via e.verdict w.service) e es w) < work_left w
ready_falls env w via e es is none = go (nat_lt env.serve.stream total) where
  bytes : List ℕ
  bytes = answer env.serve.files e.verdict

  total : ℕ
  total = w.service.block.send.total + length bytes

  go : (t : Bool) → work_left (serves_with (cond t (passed_over env.serve total w.service) (queued env.serve via e.verdict bytes w.service)) e es w) < work_left w
  go true = omega (arith, ap length is, ap left_over none)
  go false = omega (arith, ap length is, ap left_over none, unread-behind e.verdict (record w.service.block { send = record w.service.block.send { rest = w.service.block.send.rest ++ bytes; total = total } }))

pub serve_falls : (env : NodeEnv) (w : Work) → next_of w ≡ Serve → work_left (stay_serves env w) < work_left w
serve_falls env w e = let f = found w Serve (λ h. cc) e in go w.batch refl f.0 f.1 where
  by : (e : Entry) (es : List Entry) (p : Progress) → w.batch ≡ e ∷ es → next_by p ≡ Serve → w.service.over ≡ None → work_left (serves_by env e es w p) < work_left w
  by e es (Ready via) is h none = ready_falls env w via e es is none
  by e es Named is h none = absurd (let f : Stop ≡ Serve = h in cc)
  by e es Reading is h none = absurd (let f : Stop ≡ Serve = h in cc)
  by e es (Awaited node) is h none = absurd (let f : Stop ≡ Serve = h in cc)

  go : (es : List Entry) → w.batch ≡ es → next_in es ≡ Serve → w.service.over ≡ None → work_left (serves_first env w es) < work_left w
  go [] is h none = absurd (let f : Read ≡ Serve = h in cc)
  go (e ∷ es) is h none = by e es e.progress is h none

-- ---- reading

enters-left : (env : NodeEnv) (r : ℕ) (vs : List Verdict) (w : Work) → work_left (enters env false r vs w) ≡ work_left w + length vs
unfolding enters
enters-left env r [] w = omega arith
enters-left env r (v ∷ vs) w =
    let e : Entry = read_entry env.serve.files v in
    omega (arith, enters-left env (r + 1) vs (entered e w), length_push w.batch e)

asks-left : (env : NodeEnv) (size : ℕ) (paths : List (List ℕ)) (w : Work) → work_left (asks_for env size paths w) ≡ work_left w
asks-left env size [] w = refl
asks-left env size (path ∷ paths) w = refl

-- reading goes on where no request of the last batch is left
pub none-left : (es : List Entry) → next_in es ≡ Read → es ≡ []
none-left [] h = refl
none-left (e ∷ es) h = absurd (go e.progress h) where
  go : (p : Progress) → next_by p ≡ Read → ⊥
  go (Ready via) h = cc
  go Named h = cc
  go Reading h = cc
  go (Awaited node) h = cc

pub read_falls : (env : NodeEnv) (w u : Work) → next_of w ≡ Read → reads_batch env false w ≡ More u → work_left u < work_left w
read_falls env w u e h = go (batch_of 8 unread) refl h where
  unread : List ℕ
  unread = w.service.block.recv.unread

  used : ℕ
  used = bytes_used 8 unread

  none : length w.batch ≡ 0
  none = ap (λ (es : List Entry). length es) (none-left w.batch (found w Read (λ h. cc) e).0)

  go : (vs : List Verdict) → batch_of 8 unread ≡ vs → reads_these env false used w vs ≡ More u → work_left u < work_left w
  go [] is h = absurd (let f : Done (state_of (reads_these env false used w [])) ≡ More u = h in cc)
  go (v ∷ vs) is h =
      let rest : Work = record w { service = serving_consumed used w.service } in
      let all : Work = enters env false (w.service.count + 1) (v ∷ vs) rest in
      let same : asking env (length (v ∷ vs)) all ≡ u = cc in
      omega (
        arith,
        ap work_left same,
        asks-left env (length (v ∷ vs)) (named_paths env.serve.files all.batch) all,
        enters-left env (w.service.count + 1) (v ∷ vs) rest,
        none,
        (batch-used 8 unread).0,
        (batch-used 8 unread).1,
        ap length is,
        length-drop used unread,
      )

-- ---- turns

turn_falls : (env : NodeEnv) (w u : Work) (n : Next) → next_of w ≡ n → turned env w n ≡ More u → work_left u < work_left w
turn_falls env w u Serve e h = let s : stay_serves env w ≡ u = cc in omega (arith, serve_falls env w e, ap work_left s)
turn_falls env w u Read e h = go env.leaving h where
  go : (b : Bool) → cond b (Done w) (reads_batch env false w) ≡ More u → work_left u < work_left w
  go true is = absurd (let f : Done w ≡ More u = is in cc)
  go false is = read_falls env w u e is
turn_falls env w u Stop e h = absurd (let f : Done w ≡ More u = h in cc)

pub falls : (env : NodeEnv) (w u : Work) → stay_turn env w ≡ More u → work_left u < work_left w
falls env w u h = turn_falls env w u (next_of w) refl h
