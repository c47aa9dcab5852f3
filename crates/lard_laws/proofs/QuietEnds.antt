-- At the end of each step a connection that is quiet, by the journal, is complete or in the line.
use Rattle.std.proofs.Common.{◌≡◌, ◌⊎◌, ◌<◌, ◌+◌, ◌==◌, ◌||◌, ℕ, Bool, true, false, List, [], ◌∷◌, length, Option, Some, None, Ok, inl, inr, ⊎_elim, refl, ap, ◌∙◌, subst, arith, eqb-true}
use Rattle.std.proofs.lemmas.Bool.{both_ways}
use Rattle.std.specs.FinMap as table
use Rattle.std.specs.List.{list_any}
use Rattle.std.specs.Prelude.{IsSome}
use Rattle.lard_law_view.specs.Prelude.{ClientStands, Config, DispatchStanding, FrontPart, Has, IsComplete, IsReached, IsRowSound, IsStageSound, Machine, Station, Waiting, client_tale, config_check, conn, dispatch_standing, file_at, front_part, line_waits, numbers_of, part_of, tale}
use Rattle.lard_rules.specs.FrontSound.{OpenNodes, open_nodes_of}
use Rattle.lard_laws.proofs.ClientsWriters.{clients-stand}
use Rattle.lard_law_connections.specs.JobsLaws.{HasQueued}
use Rattle.lard_law_connections.proofs.JobsRuns.{reads-are-queued}
use Rattle.lard_law_connections.proofs.LineRuns.{line-is-kept}
use Rattle.lard_law_connections.proofs.PolicyCounted.{books-are-told, reached-counted}
use Rattle.lard_law_connections.proofs.PolicyWaiting.{who}
use Rattle.lard_laws.specs.Quiet.{HasNoJob, JournalsComplete, QuietIsCompleteOrInLine, IsInLine, reads_for}
use Rattle.lard_laws.specs.QuietStill.{AwaitsADisk, IsWaiting}
use Rattle.lard_laws.proofs.QuietStill.{quiet-or-else}
use Rattle.lard_counts.specs.Stores.{jobs}
use Rattle.lard_counts.specs.Stores as stores
use Rattle.lard_law_view.proofs.InSteps.{carried-ends}
use Rattle.lard_history.proofs.Seeing.{same_number}
use Rattle.lard_history.proofs.Tales.{numbers-tale}

-- ---- a connection that waits is in the line

in-line : (c : ℕ) (line : List Waiting) → line_waits line c ≡ true → Has c (who line)
in-line c [] h = let no : false ≡ true = h in absurd cc
in-line c (w ∷ ws) h = go (w.c == c) refl h (in-line c ws) where
  go : (b : Bool) → (w.c == c) ≡ b → (b || line_waits ws c) ≡ true → (line_waits ws c ≡ true → Has c (who ws)) → Has c (who (w ∷ ws))
  go true is t later = inl (eqb-true w.c c is)
  go false is t later = inr (later t)

some-wait : (c : ℕ) (line : List Waiting) → Has c (who line) → 0 < length line
some-wait c [] h = absurd h
some-wait c (w ∷ ws) h = omega arith

-- ---- a job is for its connection

has-job : (n c r : ℕ) (path : List ℕ) (queue : List stores.Waiting) → Has (n, c, r, path) queue → list_any (reads_for c) queue ≡ true
has-job n c r path [] h = absurd h
has-job n c r path (x ∷ xs) h = ⊎_elim
    (λ (e : x ≡ (n, c, r, path)). ap (λ (b : Bool). b || list_any (reads_for c) xs) (ap (reads_for c) e ∙ same_number c))
    (λ (k : Has (n, c, r, path) xs). or-second (reads_for c x) (list_any (reads_for c) xs) (has-job n c r path xs k)) h where
      or-second : (p q : Bool) → q ≡ true → (p || q) ≡ true
      or-second true q f = refl
      or-second false q f = f

-- ---- every state

module _ (config : Config) (files : List (List ℕ × List ℕ)) (checked : config_check config ≡ Ok tt) (m : Machine) (r : IsReached config files m) (c : ℕ) where
  -- where it waits at the front end
  pub waits-for-room : IsWaiting (conn m c) → IsInLine config m.journal c
  unfolding conn part_of
  waits-for-room (row, b, found, at) =
      let place : DispatchStanding = dispatch_standing m.front.dispatch c in
      let nodes : OpenNodes = open_nodes_of m.front.dispatch in
      let p : FrontPart = front_part m.front c in
      let whole : IsRowSound nodes p.rest p.kept place p.row = (reached-counted config files checked m r).sound.each c in
      let of-row : IsStageSound nodes row.epoch.0 p.rest p.kept place row.stage = subst (IsRowSound nodes p.rest p.kept place) found whole in
      let sound = subst (IsStageSound nodes row.epoch.0 p.rest p.kept place) at of-row in
      let in_line : Has c (who m.front.dispatch.books.line) = in-line c m.front.dispatch.books.line (ap (λ (s : DispatchStanding). s.waits) sound.2) in (
        subst (Has c) (line-is-kept config files m checked r) in_line,
        (books-are-told config files m checked r).3 (some-wait c m.front.dispatch.books.line in_line),
      )

  -- where its next request awaits a disk
  disk-has : AwaitsADisk (conn m c) → HasNoJob m.journal c → ⊥
  disk-has (n, row, b, s, e, es, found, at, stays, batch, first) none =
      let queued : HasQueued m.journal n c (s.served + 1) = reads-are-queued config files m r c n row b s e es found at stays batch first in
      both_ways (list_any (reads_for c) (jobs m.journal n)) (none n) (has-job n c (s.served + 1) queued.0 (jobs m.journal n) queued.1)

  pub opened : (o : Option Station) → table.get m.clients c ≡ o → IsSome (numbers_of m.journal c) → ClientStands c o (client_tale (tale m.journal c)) → (s : Station) × (table.get m.clients c ≡ Some s)
  opened None is some stands = absurd (both_ways false refl (subst IsSome (numbers-tale m.journal c ∙ stands.numbers) some))
  opened (Some s) is some stands = (s, is)

pub quiet-complete : (config : Config) (files : List (List ℕ × List ℕ)) → config_check config ≡ Ok tt → (m : Machine) → IsReached config files m → QuietIsCompleteOrInLine config (file_at files) m.journal
unfolding conn part_of
quiet-complete config files checked m r c some calm not_aborted not_reset quiet none =
    let station = opened config files checked m r c (table.get m.clients c) refl some (clients-stand config files m r c) in
    ⊎_elim (λ (done : IsComplete (file_at files) m.journal c). inl done)
    (λ (left : IsWaiting (conn m c) ⊎ AwaitsADisk (conn m c)). ⊎_elim
    (λ (waits : IsWaiting (conn m c)). inr (waits-for-room config files checked m r c waits))
    (λ (reads : AwaitsADisk (conn m c)). absurd (disk-has config files checked m r c reads none)) left)
    (quiet-or-else config files m checked r c station.0 station.1 calm not_aborted not_reset quiet)

pub journals-complete : JournalsComplete
journals-complete config files m checked r = carried-ends config files (QuietIsCompleteOrInLine config (file_at files)) (quiet-complete config files checked) m r
