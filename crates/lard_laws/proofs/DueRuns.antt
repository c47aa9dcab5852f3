-- In every state nothing is due, so it is at the end of each step.
use Rattle.std.proofs.Common.{◌≡◌, ◌⊎◌, ◌<◌, ◌≤◌, ◌+◌, ◌-◌, ◌^◌, ℕ, true, false, List, ◌∷◌, length, take, Option, Some, None, Ok, inl, inr, ⊎_elim, refl, sym, ap, ◌∙◌, subst, arith}
use Rattle.std.proofs.lemmas.Bool.{both_ways}
use Rattle.std.specs.FinMap as table
use Rattle.std.specs.Prelude.{IsSome}
use Rattle.lard_law_view.specs.Prelude.{Client, Config, Conn, FilesAt, Front, Has, HasTimer, IsReached, Letter, Machine, Node, Numbers, Packet, Place, Rec, Station, Stream, Tale, TimerKind, config_check, conn, file_at, front_armed, has_aborted, is_cluster, is_running, is_touched, last_epoch, letters, node_armed, numbers_of, own, owner, part_of, seq_add, served, tale_at, verdicts, was_reset, which_leave, wrote}
use Rattle.lard_base.specs.declared.place.TimerKind.TheVariants as timer
use Rattle.lard_history.proofs.Lifting.{tale-own}
use Rattle.lard_history.proofs.Seeing.{has-each}
use Rattle.lard_history.proofs.Tales.{epoch-tale, numbers-tale, owner-tale, served-tale, wrote-tale}
use Rattle.lard_law_connections.specs.BytesAgreement.{IsOpen, IsTruthful}
use Rattle.lard_law_connections.specs.JobsLaws.{HasQueued}
use Rattle.lard_law_connections.proofs.AwaitsRuns.{connections-await}
use Rattle.lard_law_connections.proofs.BytesClientMoves.{open-at}
use Rattle.lard_law_connections.proofs.BytesRuns.{states-truthful}
use Rattle.lard_law_connections.proofs.JobsRuns.{reads-are-queued}
use Rattle.lard_law_connections.proofs.KeptRuns.{connections-are-kept}
use Rattle.lard_law_connections.proofs.LeaversStays.{none-leaves}
use Rattle.lard_law_connections.proofs.PlacesRuns.{each-placed}
use Rattle.lard_law_connections.proofs.StopsRuns.{each-stops}
use Rattle.lard_law_view.proofs.Acked.{Acks}
use Rattle.lard_law_view.proofs.Carried.{reached-viewed}
use Rattle.lard_law_view.proofs.InSteps.{carried-ends}
use Rattle.lard_laws.specs.Acks.{AcksWhatWasTaken, LetterActs, OpenActs, ReplyActs, StationActs, bounds_of}
use Rattle.lard_laws.specs.BackingRequests.{IsFor}
use Rattle.lard_laws.specs.Due.{AskIsOut, AwaitsAtNode, AwaitsContent, AwaitsDisk, AwaitsTag, FetchIsOut, HasAcknowledged, HasMoreThanServed, NextIsAwaited, JournalsAnswerWhatIsDue, NothingIsDue}
use Rattle.lard_laws.proofs.AcksRuns.{connections-ack}
use Rattle.lard_laws.proofs.ClientsWriters.{clients-stand}
use Rattle.lard_laws.proofs.DueAnswersRuns.{connections-await-answers}
use Rattle.lard_laws.proofs.DueSeats.{AwaitsContentAt, AwaitsTagAt, ComesLaterAt, HoldsBackAt, NextIsAwaitedBy, ReadsAt, next-awaits}
use Rattle.lard_laws.proofs.EndedRuns.{connections-were-closed}
use Rattle.lard_laws.proofs.QuietComplete.{aborted-at, calm-at, reset-at}
use Rattle.lard_laws.proofs.QuietEnds.{opened, waits-for-room}
use Rattle.lard_laws.specs.QuietStill.{IsWaiting}
use Rattle.lard_laws.specs.StepsTimers.{armed_at}
use Rattle.lard_laws.proofs.StepsTimers.{timers-kept}
use Rattle.lard_laws.proofs.WaysRuns.{each-guarded}

-- a number of symbols below 2^32 is the least that gives its sequence number
acked-within : (isn n q heard : ℕ) → seq_add isn n ≡ seq_add isn q → n < 2 ^ 32 → q ≤ heard → n ≤ heard
acked-within isn n q heard same few le = omega (arith, same, few, le)

module _ (config : Config) (files : List (List ℕ × List ℕ)) (checked : config_check config ≡ Ok tt) (m : Machine) (r : IsReached config files m) (c : ℕ) where
  abbrev J : List Rec
  J = m.journal

  abbrev fs : FilesAt
  fs = file_at files

  abbrev x : Conn
  x = conn m c

  -- ---- what is told

  wrote-told : wrote J c ≡ (tale_at x).wrote
  unfolding conn
  wrote-told = wrote-tale J c ∙ ap (λ (u : Tale). u.wrote) (tale-own J c)

  served-told : served J c ≡ (tale_at x).served
  unfolding conn
  served-told = served-tale J c ∙ ap (λ (u : Tale). u.served) (tale-own J c)

  epoch-told : last_epoch J c ≡ (tale_at x).epoch
  unfolding conn
  epoch-told = epoch-tale J c ∙ ap (λ (u : Tale). u.epoch) (tale-own J c)

  owner-told : owner J c ≡ (tale_at x).owner
  unfolding conn
  owner-told = owner-tale J c ∙ ap (λ (u : Tale). u.owner) (tale-own J c)

  numbers-told : numbers_of J c ≡ (tale_at x).numbers
  unfolding conn
  numbers-told = numbers-tale J c ∙ ap (λ (u : Tale). u.numbers) (tale-own J c)

  for-told : (path : List ℕ) → IsFor fs (tale_at x).wrote ((tale_at x).served + 1) path → IsFor fs (wrote J c) (served J c + 1) path
  for-told path f = subst (λ (q : List ℕ). IsFor fs q (served J c + 1) path) (sym wrote-told) (subst (λ (i : ℕ). IsFor fs (tale_at x).wrote (i + 1) path) (sym served-told) f)

  tag-told : (n : ℕ) (path : List ℕ) → AwaitsTagAt fs x n path → AwaitsTag J n c path
  unfolding conn
  tag-told n path a = (a.0, a.1, subst (λ (e : ℕ). AskIsOut (own c J) n c e a.0 (path ∷ a.1)) (sym epoch-told) a.2)

  content-told : (n : ℕ) → AwaitsContentAt fs x n → AwaitsContent J n c (served J c + 1)
  unfolding conn
  content-told n a = (
    a.0,
    a.1,
    subst (λ (e : ℕ). FetchIsOut (own c J) n c e (served J c + 1) a.0 a.1) (sym epoch-told) (subst (λ (i : ℕ). FetchIsOut (own c J) n c (tale_at x).epoch (i + 1) a.0 a.1) (sym served-told) a.2),
  )

  disk-told : (n : ℕ) → ReadsAt fs x n → AwaitsDisk J n c (served J c + 1)
  disk-told n (row, b, st, e, es, found, at, stays, batch, first, number) =
      let queued : HasQueued J n c (st.served + 1) = reads-are-queued config files m r c n row b st e es found at stays batch first in
      subst (λ (i : ℕ). AwaitsDisk J n c (i + 1)) (number ∙ sym served-told) queued

  later-told : (n : ℕ) (path : List ℕ) → ComesLaterAt fs x n path → AwaitsAtNode J n c (served J c + 1) path
  later-told n path a = ⊎_elim (λ (t : AwaitsTagAt fs x n path). inl (tag-told n path t))
      (λ (b : ReadsAt fs x n ⊎ AwaitsContentAt fs x n). inr (⊎_elim (λ (d : ReadsAt fs x n). inl (disk-told n d)) (λ (f : AwaitsContentAt fs x n). inr (content-told n f)) b)) a

  runs : (place : Place) → (kind : TimerKind) → HasTimer place c → is_running J place c kind ≡ armed_at place x.part kind
  unfolding conn
  runs place kind has = timers-kept config files m r c place has kind

  -- INTERIM: no node leaves yet, so none holds one back
  told : (p : Option Place) → NextIsAwaitedBy fs x (which_leave m) p → NextIsAwaited config fs J c p
  told None a = ⊎_elim (λ (t : front_armed x.part.front timer.Offer ≡ true). inl (runs Front timer.Offer tt ∙ t))
      (λ (b : (n : ℕ) × (node_armed (x.part.nodes n) timer.Ended ≡ true)). inr (b.0, runs (Node b.0) timer.Ended tt ∙ b.1)) a
  told (Some Front) a = (
    a.0,
    for-told a.0 a.1,
    ⊎_elim (λ (t : front_armed x.part.front timer.Tcp ≡ true). inl (runs Front timer.Tcp tt ∙ t)) (λ (w : IsWaiting x). inr (waits-for-room config files checked m r c w)) a.2,
  )
  told (Some (Node n)) a = ⊎_elim
      (λ (b : (path : List ℕ) × IsFor fs (tale_at x).wrote ((tale_at x).served + 1) path × ComesLaterAt fs x n path). (b.0, for-told b.0 b.1, later-told n b.0 b.2))
      (λ (b : HoldsBackAt fs x (which_leave m) n). absurd (both_ways (which_leave m n) (none-leaves m (reached-viewed config files m r) n) b.0)) a
  told (Some (Client d)) a = absurd a

  -- ---- what was acknowledged was taken

  module _ (s : Station) (there : x.part.station ≡ Some s) (truth : IsTruthful fs x) (acts : OpenActs x s) where
    o : IsOpen fs x truth.talk truth.pend s
    o = open-at fs x s there truth

    reply : (n : ℕ) → (a : HasAcknowledged J c n) → ReplyActs c (bounds_of x s acts.heard) a.bytes
    unfolding conn
    reply n a = by-place a.from a.by (has-each l (LetterActs c (bounds_of x s acts.heard) x.part) x.letters sent acts.within.packets) where
      l : Letter
      l = record { from = a.from; to = Client c; bytes = a.bytes }

      sent : Has l (letters c m.net)
      sent = subst (λ (net : List Packet). Has l (letters c net)) (reached-viewed config files m r).told a.sent

      by-place : (p : Place) → is_cluster p ≡ true → LetterActs c (bounds_of x s acts.heard) x.part (record { from = p; to = Client c; bytes = a.bytes }) → ReplyActs c (bounds_of x s acts.heard) a.bytes
      by-place Front is h = h
      by-place (Node k) is h = h
      by-place (Client d) is h = absurd (both_ways false refl is)

    pub heard-most : (n : ℕ) → HasAcknowledged J c n → n ≤ acts.heard
    heard-most n a =
        let may : Acks s.client.send.iss acts.heard a.said.ack = reply n a a.said a.decodes a.acks in
        let w : Stream = truth.talk.w in
        let both : Some a.numbers ≡ Some (record { isn = w.first; iss = truth.talk.out.first }) = sym a.opened ∙ numbers-told ∙ o.tale.numbers in
        let first : a.numbers.isn ≡ s.client.send.iss = ap (λ (q : Option Numbers). isn_in a.numbers.isn q) both ∙ ap (λ (v : Stream). v.first) o.client.w_is in
        let same : seq_add s.client.send.iss n ≡ seq_add s.client.send.iss may.0 = ap (λ (i : ℕ). seq_add i n) (sym first) ∙ sym a.is ∙ may.1 in
        let wide : length (wrote J c) ≡ s.client.send.total = ap length (wrote-told ∙ o.tale.wrote) ∙ o.client.speaks.part.count in
        let most = o.client.speaks.sound.most in
        let within = a.within in
        acked-within s.client.send.iss n may.0 acts.heard same (omega (arith, wide, most, within)) may.2 where
          isn_in : ℕ → Option Numbers → ℕ
          isn_in other None = other
          isn_in other (Some q) = q.isn

  -- ---- all of it

  -- its client opened
  there : (n : ℕ) → HasAcknowledged J c n → (s : Station) × (x.part.station ≡ Some s)
  unfolding conn part_of
  there n a = opened config files checked m r c (table.get m.clients c) refl (subst IsSome (sym a.opened) refl) (clients-stand config files m r c)

  more-told : (n : ℕ) → HasMoreThanServed J c n → (tale_at x).served < length (verdicts (take (n - 1) (tale_at x).wrote))
  more-told n more = let number = served-told in let all = ap (λ (q : List ℕ). length (verdicts (take (n - 1) q))) wrote-told in omega (arith, more, number, all)

  pub never-due : (n : ℕ) → is_touched J c ≡ false → has_aborted J c ≡ false → was_reset J c ≡ false → HasAcknowledged J c n → HasMoreThanServed J c n → NextIsAwaited config fs J c (owner J c)
  never-due n calm not_aborted not_reset a more =
      let here = calm-at config files m c calm in
      let s : Station = (there n a).0 in
      let at : x.part.station ≡ Some s = (there n a).1 in
      let truth : IsTruthful fs x = states-truthful config files checked m r c here in
      let acts : AcksWhatWasTaken x = connections-ack config files checked m r c here in
      let took : OpenActs x s = subst (StationActs x) at acts in
      subst (NextIsAwaited config fs J c) (sym owner-told) (told (tale_at x).owner
      (next-awaits fs x truth acts (which_leave m) (each-stops config files m r c) (connections-were-closed config files checked m r c here) (connections-await config files m r c) (connections-are-kept config files m r c) (connections-await-answers config files checked m r c)
      ((each-guarded config files checked m r c).0 here) (each-placed config files checked m r c) (aborted-at config files m c not_aborted) (reset-at config files m c not_reset) s at n
      (heard-most s at truth took n a) (more-told n more)))

pub nothing-due : (config : Config) (files : List (List ℕ × List ℕ)) → config_check config ≡ Ok tt → (m : Machine) → IsReached config files m → NothingIsDue config (file_at files) m.journal
nothing-due config files checked m r c n = never-due config files checked m r c n

pub journals-answer : JournalsAnswerWhatIsDue
journals-answer config files m checked r = carried-ends config files (NothingIsDue config (file_at files)) (nothing-due config files checked) m r
