-- The law of places in every run.
use Rattle.std.proofs.Common.{ℕ, List, [], ◌≡◌, Ok, refl}
use Rattle.lard_law_view.specs.Prelude.{Config, Conn, EachMay, IsLaw, IsReached, Machine, MayOwn, MayRestOn, MaySend, OfEach, Setting, blank_conn, config_check, conn, grown, setting, with_leaving}
use Rattle.lard_law_connections.specs.Places.{HasEarlyEpoch}
use Rattle.lard_law_connections.specs.PlacesLaws.{EachConnectionSits, OwnersAreLawful, SendersAreLawful}
use Rattle.lard_law_connections.proofs.LeaversRuns.{each-unreturned}
use Rattle.lard_law_connections.proofs.PlacesEarly.{each-early}
use Rattle.lard_law_connections.proofs.PlacesLaw.{owing}
use Rattle.lard_law_connections.proofs.PlacesRows.{MayStand}
use Rattle.lard_law_connections.proofs.PlacesTelling.{IsLawful, lawful-local}
use Rattle.lard_law_connections.proofs.PlacesTurns.{IsPlaced, IsUnreturned, Owes, owes-placed}
use Rattle.lard_law_view.proofs.Carried.{carried}
use Rattle.lard_law_view.proofs.Guarded.{weaker}
use Rattle.lard_law_view.proofs.InSteps.{carried-records}
use Rattle.lard_history.proofs.Each.{each_weaker}
use Rattle.lard_law_view.proofs.RowLists.{MayBeSeen}

-- What is given of each state: the epoch is early.  INTERIM: and no node leaves yet.
abbrev Given : Conn → Type 0
Given x = HasEarlyEpoch x × IsUnreturned x

abbrev Placed : Conn → Type 0
Placed x = Given x → IsPlaced x

blank-placed : (c : ℕ) → Placed (blank_conn c)
blank-placed c given = record { sits = (refl, λ n. tt); early = tt; letters = tt; lawful = tt; unreturned = given.1 }

places-law : (k : Setting) → IsLaw k Given Placed
places-law k = record {
  begins = blank-placed;
  moves = weaker k (λ x v. MayRestOn Given x → IsPlaced x → Owes x v) (λ x v. MayRestOn Given x → Placed x → Placed (grown x v))
      (λ x v owes may placed given. let before : IsPlaced x = placed may.given in owes-placed x v (owes may before) before given.0 given.1) (owing k Given);
}

module _ (config : Config) (files : List (List ℕ × List ℕ)) (checked : config_check config ≡ Ok tt) where
  each-given : OfEach config files Given
  each-given m r q = (each-early config files checked m r q, each-unreturned config files m r q)

  pub each-placed : OfEach config files IsPlaced
  each-placed m r q = carried config files Given Placed (λ l. places-law (with_leaving (setting config files) l)) each-given m r q (each-given m r q)

pub each-sits : EachConnectionSits
each-sits config files checked m r q = let placed = each-placed config files checked m r q in (placed.sits, placed.early)

-- Each record of a connection may stand among its own, so each may stand in the journal.
lawful : (config : Config) (files : List (List ℕ × List ℕ)) → config_check config ≡ Ok tt → (m : Machine) → IsReached config files m → EachMay IsLawful [] m.journal
unfolding conn
lawful config files checked = carried-records config files IsLawful (λ c. MayBeSeen (MayStand c) c) lawful-local.nobody lawful-local.somebody
    (λ m r q. (each-placed config files checked m r q).lawful)

pub owners-are : OwnersAreLawful
owners-are config files m checked r = each_weaker IsLawful MayOwn (λ past x l. l.0) [] m.journal (lawful config files checked m r)

pub senders-are : SendersAreLawful
senders-are config files m checked r = each_weaker IsLawful MaySend (λ past x l. l.1) [] m.journal (lawful config files checked m r)
