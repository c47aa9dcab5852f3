-- Of each connection of a machine within a settle: all that its rules want given is so.
use Rattle.std.proofs.Common.{◌≡◌, ◌≤◌, ℕ, false, List, length, Some, Ok, sym, ap, ◌∙◌, arith}
use Rattle.std.specs.Prelude.{All}
use Rattle.lard_law_view.specs.Prelude.{Config, Conn, Machine, Setting, Station, Tale, config_check, conn, file_at, setting, tale_at, which_leave, with_leaving, wrote}
use Rattle.lard_bound.specs.Units.{Whole, whole_of}
use Rattle.lard_law_settles.proofs.KnownEverything as every
use Rattle.lard_law_settles.proofs.KnownEverything.{known-by}
use Rattle.lard_laws.specs.Records.{IsRunFile}
use Rattle.lard_law_settles.proofs.KnownFrontRuns.{each-front}
use Rattle.lard_law_settles.proofs.KnownEnds.{each-client, each-held, each-met, each-talks, each-waiting}
use Rattle.lard_history.proofs.Tales.{wrote-tale}
use Rattle.lard_law_settles.proofs.KnownCalm.{its-tale, open-free}
use Rattle.lard_law_progress.proofs.AnswersFrontGiven.{FrontGiven}
use Rattle.lard_law_progress.proofs.Given as progress
use Rattle.lard_law_progress.proofs.Leading.{AllGiven}
use Rattle.lard_law_settles.proofs.EnoughRested.{all-events, free-of, free-tale, holds}
use Rattle.lard_law_settles.proofs.EnoughSums.{wholes}
use Rattle.lard_law_settles.proofs.EnoughWithin.{IsWithin}

module _ (config : Config) (files : List (List ℕ × List ℕ)) (checked : config_check config ≡ Ok tt) (are : All IsRunFile files) (m p : Machine) (w : IsWithin config files m p) (q : ℕ) where
  abbrev pub x : Conn
  x = conn p q

  abbrev k : Setting
  k = with_leaving (setting config files) (which_leave p)

  abbrev all : ℕ → Whole
  all = wholes (file_at files) (which_leave m) m.journal

  same : wholes (file_at files) (which_leave m) m.journal q ≡ whole_of (file_at files) (which_leave p) (wrote p.journal q)
  same = λ i. whole_of (file_at files) (sym w.leaving_same i) (sym (w.wrote_same q) i)

  untouched : (tale_at x).touched ≡ false
  untouched = free-tale config files checked are m p w q

  few : length (tale_at x).wrote ≤ 16382
  few =
      let its : (tale_at x).wrote ≡ wrote p.journal q = sym (ap (λ (t : Tale). t.wrote) (its-tale config files checked p w.reached q)) ∙ sym (wrote-tale p.journal q) in
      let same : length (tale_at x).wrote ≡ length (wrote p.journal q) = ap (λ (bytes : List ℕ). length bytes) its in
      let most = w.few q in
      omega (arith, same, most)

  is-known : (st : Station) → x.part.station ≡ Some st → progress.Known k (all q) x st
  unfolding conn
  is-known = known-by config files checked are all p w.reached (all-events config files checked are m p w) q (w.untouched q) same

  front : FrontGiven (file_at files) (all q) x
  front = each-front config files checked p w.reached q untouched (holds config files checked are m p w) (all q)
      (each-held config files checked p w.reached q untouched few k (all q) is-known)
      (each-waiting config files checked p w.reached q untouched few k (all q) is-known)

  beside : every.Beside config files checked are all p w.reached (all-events config files checked are m p w) q (w.untouched q) same
  beside = record {
    held = each-held config files checked p w.reached q untouched few k (all q) is-known;
    waiting = each-waiting config files checked p w.reached q untouched few k (all q) is-known;
    talks = each-talks config files checked p w.reached q untouched few k (all q) is-known;
    client = each-client config files checked p w.reached q untouched few k (all q) is-known front
        (λ st at open_. open-free st.client (free-of config files checked are m p w q st at) open_)
        (each-met config files checked p w.reached q untouched few);
  }

  pub rules-given : AllGiven k all x
  rules-given = every.given-by config files checked are all p w.reached (all-events config files checked are m p w) q (w.untouched q) same beside
