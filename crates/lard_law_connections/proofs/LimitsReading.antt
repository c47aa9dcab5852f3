-- The front end reads until a request is to be placed, and counts what it answers.
use Rattle.std.proofs.Common.{◌≡◌, ◌≤◌, ◌+◌, ◌^◌, ℕ, zero, suc, true, List, length, Option, Some, None, refl, sym, subst}
use Rattle.std.proofs.lemmas.Bool.{cond_both}
use Rattle.lard_law_view.specs.Prelude.{Done, Found, IsControlBlock, More, Reading, ServeEnv, Service, Step, Verdict, answered, block_at, consuming, cut_of, ended_at_fin, front_reads, good_path, may_freeze, may_read, reading_left, reading_turn, reads_block, reads_found, runs_on, serving_consumed, targeted, with_service}
use Rattle.lard_base.specs.declared.place.Via.TheVariants.{Own}
use Rattle.lard_block.specs.declared.block.Found.TheVariants as found
use Rattle.lard_law_connections.specs.LimitsCounts.{Served}
use Rattle.lard_law_connections.proofs.LimitsServing.{IsServing, answered-serving, answered-sound, ended-serving, ended-sound, reads-unfinished, reads-within, reblocked}
use Rattle.lard_request.specs.declared.verdict.Code.TheVariants as code
use Rattle.lard_request.specs.declared.verdict.Verdict.TheVariants.{Fault}
use Rattle.lard_rules.proofs.Endpoints.{consuming-sound}

-- what is to be placed may move, and nothing is to be reset
abbrev pub MayPlace : Option (List ℕ) → Service → Type 0
MayPlace None s = Unit {0}
MayPlace (Some path) s = (may_freeze s.block ≡ true) × (s.over ≡ None)

module _ (env : ServeEnv) (u : Served) (most : env.stream ≤ 2 ^ 30) where
  abbrev pub Reads : Service → Type 0
  Reads s = IsServing env u s × IsControlBlock s.block

  -- while it goes on nothing is to be placed
  abbrev IsOn : Reading → Type 0
  IsOn x = Reads x.service × (x.target ≡ None)

  abbrev pub HasStopped : Reading → Type 0
  HasStopped x = Reads x.service × MayPlace x.target x.service

  abbrev ReadsSo : Step Reading → Type 0
  ReadsSo (More y) = IsOn y
  ReadsSo (Done y) = HasStopped y

  still : (x : Reading) (s : Service) → Reads s → x.target ≡ None → HasStopped (with_service x s)
  still x s h none = (h, subst (λ (o : Option (List ℕ)). MayPlace o s) (sym none) tt)

  consumed-reads : (n : ℕ) (s : Service) → Reads s → Reads (serving_consumed n s)
  consumed-reads n s h = (reblocked env u s (consuming s.block n) refl h.0, consuming-sound s.block n h.1)

  answered-reads : (v : Verdict) (n : ℕ) (s : Service) → may_read s ≡ true → Reads s → Reads (answered env Own v (serving_consumed n s))
  answered-reads v n s may h =
      let c : Reads (serving_consumed n s) = consumed-reads n s h in
      (answered-serving env u Own v (serving_consumed n s) (reads-within s may) c.0, answered-sound env Own v (serving_consumed n s) most (reads-unfinished s may) c.1)

  ended-reads : (n : ℕ) (s : Service) → Reads s → Reads (ended_at_fin (serving_consumed n s))
  ended-reads n s h = let c : Reads (serving_consumed n s) = consumed-reads n s h in (ended-serving env u (serving_consumed n s) c.0, ended-sound (serving_consumed n s) c.1)

  targeted-so : (path : List ℕ) (x : Reading) → may_read x.service ≡ true → IsOn x → HasStopped (targeted path x)
  targeted-so path x may h = cond_both (may_freeze x.service.block) (record x { target = Some path }) x HasStopped (λ t. (h.0, (t, reads-within x.service may))) (λ t. still x x.service h.0 h.1)

  found-so : (x : Reading) → IsOn x → may_read x.service ≡ true → (f : Found) → ReadsSo (reads_found env x f)
  found-so x h may (found.More skip) = still x (ended_at_fin (serving_consumed skip x.service)) (ended-reads skip x.service h.0) h.1
  found-so x h may (found.Block skip len) = by_path (good_path env.files (block_at x skip len)) where
    by_path : (o : Option (List ℕ)) → ReadsSo (reads_block env x (skip + len) (block_at x skip len) o)
    by_path None = (answered-reads (block_at x skip len) (skip + len) x.service may h.0, h.1)
    by_path (Some path) = targeted-so path x may h
  found-so x h may (found.TooLong skip) = (answered-reads (Fault code.FieldsTooLarge) (length x.service.block.recv.unread) x.service may h.0, h.1)

  turn-so : (x : Reading) → IsOn x → ReadsSo (reading_turn env x)
  turn-so x h = cond_both (may_read x.service) (reads_found env x (cut_of x.service.block.recv.unread)) (Done x) ReadsSo
      (λ may. found-so x h may (cut_of x.service.block.recv.unread)) (λ may. still x x.service h.0 h.1)

  -- so many turns
  stops-on : (n : ℕ) (x : Reading) → IsOn x → HasStopped (runs_on n (reading_turn env) x)
  unfolding runs_on
  stops-on zero x h = still x x.service h.0 h.1
  stops-on (suc n) x h = go (reading_turn env x) (turn-so x h) (stops-on n) where
    go : (s : Step Reading) → ReadsSo s → ((y : Reading) → IsOn y → HasStopped (runs_on n (reading_turn env) y)) → HasStopped (elim s as (λ s. Reading) [ More y ↦ runs_on n (reading_turn env) y | Done y ↦ y ])
    go (More y) k later = later y k
    go (Done y) k later = k

  pub reads-so : (s : Service) → Reads s → HasStopped (front_reads env (record { service = s; target = None }))
  reads-so s h = stops-on (reading_left (record { service = s; target = None }) + 1) (record { service = s; target = None }) (h, refl)
