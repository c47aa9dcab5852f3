-- Of an open client which is not established nothing is known but its SYN, in every run.
use Rattle.std.proofs.Common.{◌≡◌, ◌<◌, ◌≤◌, ◌^◌, ℕ, Bool, true, false, List, [], ◌∷◌, Option, Some, None, refl, sym, ap, ◌∙◌, arith}
use Rattle.lard_base.proofs.Usable.{usable}
use Rattle.lard_law_view.specs.Prelude.{Client, Conn, FilesAt, Front, IsReply, Letter, Node, Place, Said, Setting, Station, Talk, ToClient, Untouched, decoded, double_word_at, seq_add, seq_offset, setting, spelled, with_leaving}
use Rattle.lard_law_connections.specs.BytesAgreement.{IsFair, IsFairOn, IsOpen, IsTruthful}
use Rattle.lard_law_connections.proofs.BytesClientMoves.{open-at}
use Rattle.lard_law_connections.proofs.BytesRuns.{states-truthful}
use Rattle.lard_law_connections.proofs.PlacesRuns.{each-placed}
use Rattle.lard_law_view.proofs.Carried.{carried}
use Rattle.lard_law_view.proofs.Guarded.{untouched-law}
use Rattle.lard_laws.specs.WindowsEarly.{AcksSyn, EarlyOn, IsEarly, LetterIsEarly, StaysEarly, StaysEarlyOn}
use Rattle.lard_laws.specs.WindowsLaws.{OpenClientsSentTheirSyn}
use Rattle.lard_laws.proofs.ClientsFirsts.{four}
use Rattle.lard_laws.proofs.WindowsRefusals.{ack-same, flags-spelled}
use Rattle.lard_laws.proofs.WindowsLetters.{same-said}
use Rattle.lard_laws.proofs.WindowsWordRuns.{clients-start, words-fit}
use Rattle.lard_history.proofs.Each.{Each}
use Rattle.lard_segment.proofs.Again.{again}
use Rattle.lard_seq.proofs.Laws.{offset-add}
use Rattle.lard_laws.proofs.WindowsEarlyMoves.{EarlyAt, Given, IsEarlyIn, IsEarlySo, LetterIs, Spelled, SpelledOn, early-law}

-- ---- what is read of it

-- the number that is acknowledged stands in four bytes
acks-spelled : (c : ℕ) (s t : Said) → spelled c ToClient s ≡ spelled c ToClient t → s.ack < 2 ^ 32 → t.ack < 2 ^ 32 → s.ack ≡ t.ack
unfolding spelled
acks-spelled c s t e small few = sym (four s.ack small) ∙ ap (λ (b : List ℕ). double_word_at b 8) e ∙ four t.ack few

module _ (files : FilesAt) (x : Conn) (s : Station) (there : x.part.station ≡ Some s) (truth : IsTruthful files x) where
  abbrev l : Talk
  l = truth.talk

  abbrev o : IsOpen files x truth.talk truth.pend s
  o = open-at files x s there truth

  abbrev isn : ℕ
  isn = s.client.send.iss

  reads-first : (bytes : List ℕ) → (t : Said) × (bytes ≡ spelled x.c ToClient t) × IsReply l.w l.out l.was_reset t → Spelled x.c isn bytes → AcksSyn x.c isn bytes
  reads-first bytes f r sd read ack =
      let t : Said = f.0 in
      let same : t ≡ sd = same-said t sd (sym (again x.c ToClient t f.2.sendable) ∙ ap (λ b. decoded b x.c ToClient) (sym f.1) ∙ read) in
      let alike : spelled x.c ToClient r.0 ≡ spelled x.c ToClient t = sym r.1 ∙ f.1 in
      let first : r.0.ack ≡ seq_add isn 1 = r.2 (with-ack r.0.flags.ack refl (λ clear. ack-same t.flags r.0.flags (flags-spelled x.c t r.0 (sym alike)) (ap (λ (z : Said). z.flags.ack) same ∙ ack) clear)) in
      let number : t.ack ≡ seq_add isn 1 = sym (acks-spelled x.c r.0 t alike (let e = first in omega (arith, e)) f.2.sendable.ack_fits) ∙ first in
      ap (λ a. seq_offset a isn) (sym (ap (λ (z : Said). z.ack) same) ∙ number) ∙ offset-add isn 1 o.client.speaks.number (omega arith)
    where
      with-ack : (b : Bool) → r.0.flags.ack ≡ b → (r.0.flags.ack ≡ false → ⊥) → r.0.flags.ack ≡ true
      with-ack true e never = e
      with-ack false e never = absurd (never e)

  on-place : (from to : Place) (bytes : List ℕ) → IsFairOn l x.c x.part from to bytes → SpelledOn x.c isn from to bytes → EarlyOn x.c isn from to bytes
  on-place Front (Client d) bytes f r = reads-first bytes f r
  on-place (Node n) (Client d) bytes f r = absurd r
  on-place Front (Node k) bytes f r = absurd r
  on-place (Node j) Front bytes f r = absurd r
  on-place _ _ bytes f r = tt

  letters-read : (ls : List Letter) → Each (IsFair l x.c x.part) ls → Each (LetterIs x.c isn) ls → Each (LetterIsEarly x.c isn) ls
  letters-read [] f r = tt
  letters-read (m ∷ ms) f r = (on-place m.from m.to m.bytes f.0 r.0, letters-read ms f.1 r.1)

  early-read : IsEarlySo x s → IsEarly x s
  early-read h = record { front = h.front; nodes = h.nodes; letters = letters-read x.letters o.fair h.letters }

by-truth : (files : FilesAt) (x : Conn) → IsTruthful files x → IsEarlyIn x → StaysEarly x
by-truth files x truth h = go x.part.station refl h where
  go : (q : Option Station) → x.part.station ≡ q → EarlyAt x q → StaysEarlyOn x q
  go None none e = tt
  go (Some s) there e = λ open_ una. early-read files x s there truth (e open_ una)

-- In every state that events lead to.
pub stays-early : OpenClientsSentTheirSyn
stays-early config files checked m r q untouched =
    let k : Setting = setting config files in
    let small : k.stream ≤ 2 ^ 30 = (usable config checked).stream in
    by-truth k.files _ (states-truthful config files checked m r q untouched)
    (carried config files (Given k small) (Untouched IsEarlyIn) (λ l. untouched-law (with_leaving k l) (Given k small) IsEarlyIn (early-law (with_leaving k l) small))
    (λ m r q. (each-placed config files checked m r q, (states-truthful config files checked m r q, (words-fit config files checked m r q, clients-start config files checked m r q)))) m r q untouched)
