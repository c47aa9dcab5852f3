-- A step of the machine goes on, as far as settling asks: no unit comes back, and where none goes, nothing gets farther.
use Rattle.std.proofs.Common.{◌≡◌, ◌<◌, ◌≤◌, ◌⊎◌, ℕ, true, Option, Some, None, length, sym, ap, ◌∙◌, subst, arith}
use Rattle.lard_agenda.specs.Laws.{is_on_way}
use Rattle.lard_law_view.specs.Prelude.{Conn, Event, IsConnNumber, Machine, Move, Packet, conn, conn_of, file_at, packet_at}
use Rattle.lard_bound.specs.Nears.{JobNear}
use Rattle.lard_bound.specs.Progress.{spot_at}
use Rattle.lard_bound.specs.Spots.{Spot}
use Rattle.lard_bound.specs.Units.{Whole, machine_units}
use Rattle.lard_law_settles.specs.CourseGame.{JobNearOn, Task, game}
use Rattle.lard_law_settles.proofs.CourseLasting.{all-less, all-steady}
use Rattle.lard_law_settles.proofs.CourseOnWay.{AreNew}
use Rattle.lard_law_settles.proofs.CourseOwing.{IsStep}
use Rattle.lard_law_settles.proofs.CourseStaying.{chain-stays, near-stays}
use Rattle.lard_rounds.specs.Rounds.{Goes}

-- Each packet that is on its way is one that there is, and each is of a connection.
pub record IsListed (m : Machine) : Type 0 where
  pub there : (k : ℕ) → is_on_way m.journal k ≡ true → (p : Packet) × (packet_at m.net k ≡ Some p)
  pub numbers : (k : ℕ) (p : Packet) → packet_at m.net k ≡ Some p → (q : ℕ) × (conn_of p.from p.to p.bytes ≡ Some q) × IsConnNumber q

-- What is plain of a step of a settle: the numbers and files stay, and so do packets; what is on its way was, or was sent in it, and
-- all that was sent in it is.
pub record IsPlain (m n : Machine) : Type 0 where
  pub config : n.config ≡ m.config
  pub files : n.files ≡ m.files
  pub more : length m.net ≤ length n.net
  pub packets : (k : ℕ) (p : Packet) → packet_at m.net k ≡ Some p → packet_at n.net k ≡ Some p
  pub way : (k : ℕ) → is_on_way n.journal k ≡ true → (is_on_way m.journal k ≡ true) ⊎ (length m.net < k)
  pub new : AreNew m n
  pub listed : IsListed m
  pub listed_too : IsListed n

some-same : (c q : ℕ) → Some c ≡ Some q → c ≡ q
some-same c q e = cc

module _ (Given : Conn → Type 0) (Came : Conn → Move → Type 0) (Good : Machine → Type 0) (all : ℕ → Whole) (m n : Machine) (e : Event) (step : IsStep Given Came all m n e)
    (plain : IsPlain m n) where
  pub spots : machine_units all m ≤ machine_units all n → (q : ℕ) → IsConnNumber q → spot_at (file_at m.files) (conn n q) ≡ spot_at (file_at m.files) (conn m q)
  spots up q number = all-steady Given Came all m n e step up q number.0 number.1

  job-stays : (t : Task) (d : ℕ) → IsConnNumber t.1.c → machine_units all m ≤ machine_units all n → JobNearOn m t d (spot_at (file_at m.files) (conn m t.1.c)) → JobNearOn n t d (spot_at (file_at n.files) (conn n t.1.c))
  job-stays t d number up near =
      let files : spot_at (file_at n.files) (conn n t.1.c) ≡ spot_at (file_at m.files) (conn n t.1.c) = ap (λ f. spot_at (file_at f) (conn n t.1.c)) plain.files in
      subst (JobNearOn n t d) (sym (files ∙ spots up t.1.c number)) (go (spot_at (file_at m.files) (conn m t.1.c)) near)
    where
      go : (s : Option Spot) → JobNearOn m t d s → JobNearOn n t d s
      go None h = h
      go (Some s) h = subst (λ f. JobNear (file_at f) s t.0 d t.1) (sym plain.files) h

  pub goes-on : Good n → Goes (game all Good) m n
  goes-on good = record {
    good = good;
    more = plain.more;
    less = all-less Given Came all m n e step;
    way = plain.way;
    shrinks = λ up k on.
        let p = plain.listed.there k on in
        let of = plain.listed.numbers k p.0 p.1 in
        let number : (q : ℕ) → conn_of p.0.from p.0.to p.0.bytes ≡ Some q → IsConnNumber q = λ q is. let same : of.0 ≡ q = some-same of.0 q (sym of.1 ∙ is) in subst IsConnNumber same of.2 in
        let same = chain-stays m n plain.files (λ q some in_. spots up q (some, in_)) plain.packets k p.0 p.1 number in omega (arith, same);
    job_shrinks = λ up t on. omega arith;
    stays = λ up d k on near. near-stays m n plain.files (λ q some in_. spots up q (some, in_)) plain.packets d k near;
    job_stays = λ up d t on near. (job-stays t d near.1 up near.0, near.1);
  }
