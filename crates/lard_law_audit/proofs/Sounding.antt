-- A lawful journal is sound, record by record.
use Rattle.std.proofs.Common.{◌≡◌, ℕ, true, is_some, List, [], ◌∷◌, ◌++◌, None, refl, sym, ap, ◌∙◌, append_assoc}
use Rattle.lard_audit.specs.Sound.{IsSound, broken, audit_due_behind, audit_files_of, first_broken, audit_job_at, job_behind, keeps_admission, keeps_cache, keeps_choice, keeps_clock, keeps_network, keeps_owner, keeps_sender, audit_last_of, may_arrive}
use Rattle.lard_law_view.specs.Prelude.{Config, EachMay, MayInNetwork, MayOwn, MaySend, MayTime, Rec, file_at, home, last_epoch, owner, room_of, sent_count, time_of}
use Rattle.lard_counts.specs.Ledger.{Ledger, ledger_admitted, is_in_ledger, ledger}
use Rattle.lard_counts.specs.Stores.{cached, jobs}
use Rattle.lard_history.proofs.Each.{each_weaker}
use Rattle.lard_law_audit.specs.Laws.{LawfulIsSound, RunsAreSound, file_lengths}
use Rattle.lard_law_audit.proofs.Behind.{PairsAt, ReadsAt, pairs-each, reads-behind}
use Rattle.lard_law_audit.proofs.Homes.{HomesIn, homes-in}
use Rattle.lard_law_audit.proofs.Keeping.{admission-kept, cache-kept, choice-kept, clock-kept, network-kept, owner-kept, sender-kept}
use Rattle.lard_law_connections.proofs.PolicyHomes.{stands-so}
use Rattle.lard_law_connections.specs.PolicyLaws.{MayAdmit, MayAssign}
use Rattle.lard_law_connections.specs.PolicyLaws.AssignmentDue.{Nothing}
use Rattle.lard_law_connections.specs.StoresLaws.{MayStore}
use Rattle.lard_laws.proofs.Lawful.{journals-lawful}
use Rattle.lard_laws.specs.Lawful.{IsLawful}

module _ (config : Config) (files : List (List ℕ × List ℕ)) where
  -- What the laws say of a record that stands behind these.
  pub record Stands (past : List Rec) (r : Rec) : Type 0 where
    pub network : MayInNetwork past r
    pub owns : MayOwn past r
    pub sends : MaySend past r
    pub admits : MayAdmit config (ledger config past) r
    pub pairs : PairsAt past r
    pub assigns : MayAssign config (ledger config past) r
    pub homes : HomesIn past
    pub stores : MayStore (file_at files) config.cache past r
    pub reads : ReadsAt past r
    pub tells : MayTime past r
    pub now : (ledger config past).now.0 ≡ time_of past

  -- each by itself, and so all at once
  all-stand : (past rs : List Rec) → EachMay MayInNetwork past rs → EachMay MayOwn past rs → EachMay MaySend past rs → EachMay (λ past r. MayAdmit config (ledger config past) r) past rs → EachMay PairsAt past rs
      → EachMay (λ past r. MayAssign config (ledger config past) r) past rs → EachMay (λ past r. HomesIn past) past rs → EachMay (MayStore (file_at files) config.cache) past rs → EachMay ReadsAt past rs → EachMay MayTime past rs
      → EachMay (λ past r. (ledger config past).now.0 ≡ time_of past) past rs → EachMay Stands past rs
  all-stand past [] a b c d e f g h i j k = tt
  all-stand past (r ∷ rs) a b c d e f g h i j k = (
    record { network = a.0; owns = b.0; sends = c.0; admits = d.0; pairs = e.0; assigns = f.0; homes = g.0; stores = h.0; reads = i.0; tells = j.0; now = k.0 },
    all-stand (past ++ r ∷ []) rs a.1 b.1 c.1 d.1 e.1 f.1 g.1 h.1 i.1 j.1 k.1,
  )

  -- what is so at every moment is so before each record
  each-moment : (P : List Rec → Type 0) (J past rs : List Rec) → past ++ rs ≡ J → ((front rest : List Rec) → J ≡ front ++ rest → P front) → EachMay (λ front r. P front) past rs
  each-moment P J past [] is h = tt
  each-moment P J past (r ∷ rs) is h = (h past (r ∷ rs) (sym is), each-moment P J (past ++ r ∷ []) rs (append_assoc past (r ∷ []) rs ∙ is) h)

  pub homes-told : (past : List Rec) → HomesIn past → (c : ℕ) → is_some (home (ledger config past).loads c) ≡ true → is_in_ledger (ledger config past) c ≡ true
  homes-told past h c some = let told = stands-so config past c in told.0 ∙ h.homes c (sym (ap is_some told.1) ∙ some)

  keeps-all : (past : List Rec) (r : Rec) → Stands past r → broken config (file_lengths files) past r ≡ None
  unfolding broken
  keeps-all past r s =
      let l : Ledger = ledger config past in
      let network : keeps_network (sent_count past) (may_arrive past) r ≡ true = network-kept past r s.network in
      let own : keeps_owner (owner past) (last_epoch past) r ≡ true = owner-kept past r s.owns s.sends in
      let sender : keeps_sender (owner past) r ≡ true = sender-kept past r s.sends in
      let admission : keeps_admission (audit_due_behind (audit_last_of past)) (room_of config) (ledger_admitted l) (is_in_ledger l) r ≡ true = admission-kept config l (audit_due_behind (audit_last_of past)) r s.pairs s.admits in
      let choice : keeps_choice config l.now l.loads l.sets (is_in_ledger l) r ≡ true = choice-kept config l r (homes-told past s.homes) s.assigns in
      let cache : keeps_cache (file_lengths files) (cached (audit_files_of (file_lengths files)) config.cache past) (λ n. audit_job_at (jobs past n) (job_behind (audit_last_of past) n)) r ≡ true = cache-kept files config.cache past r s.reads s.stores in
      let clock : keeps_clock l.now r ≡ true = clock-kept past l r s.now s.tells in
      λ i. first_broken (network i) (own i) (sender i) (admission i) (choice i) (cache i) (clock i)

  pub each-stands : (J : List Rec) → IsLawful config (file_at files) J → EachMay Stands [] J
  each-stands J h =
      let pairs : EachMay PairsAt [] J = pairs-each [] J Nothing refl h.nodes in
      all-stand [] J h.network h.ownership h.sole_sender h.admission pairs h.choices (homes-in J pairs) h.stores (reads-behind (file_at files) config.cache J h.stores h.disks) h.clock
      (each-moment (λ past. (ledger config past).now.0 ≡ time_of past) J [] J refl (λ past rest is. (h.servers past rest is).2))

  sound : (J : List Rec) → IsLawful config (file_at files) J → IsSound config (file_lengths files) J
  sound J h = each_weaker Stands (λ past r. broken config (file_lengths files) past r ≡ None) keeps-all [] J (each-stands J h)

pub lawful-sound : LawfulIsSound
lawful-sound config files J h = sound config files J h

pub runs-sound : RunsAreSound
runs-sound config files m checked r = lawful-sound config files m.journal (journals-lawful config files m checked r)
