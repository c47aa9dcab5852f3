-- Each segment of the cluster has ACK, or it is the refusal of a segment of the client's.
use Rattle.std.proofs.Common.{◌≡◌, ⊎_elim, ◌≤◌, ◌<◌, ◌^◌, ℕ, Bool, true, false, cond, List, [], ◌∷◌, Option, Some, None, Ok, refl, sym, ap, ◌∙◌, subst, arith}
use Rattle.std.specs.Prelude.{slice_index}
use Rattle.lard_law_view.specs.Prelude.{Client, Conn, FilesAt, Flags, Front, Has, IsReply, IsSendable, Letter, Node, Place, Said, Setting, Station, Talk, ToClient, ToCluster, decoded, flags_byte, refusal, seg_len, seq_add, setting, spelled, with_leaving}
use Rattle.lard_laws.specs.Acks.{LetterActs, OpenActs, bounds_of}
use Rattle.lard_law_connections.specs.BytesAgreement.{ConnAgrees, IsFair, IsFairOn, IsInner, IsNodePlace, IsOpen, IsTruthful, IsConnUnopened}
use Rattle.lard_law_connections.proofs.BytesClientMoves.{has-fair, open-at}
use Rattle.lard_law_connections.proofs.BytesRuns.{states-truthful}
use Rattle.lard_law_view.proofs.Carried.{carried}
use Rattle.lard_laws.specs.WindowsLaws.{RefusalsAnswer}
use Rattle.lard_laws.specs.WindowsRefusals.{BytesRefuse, IsRefusal, IsTurnedDown, RefusesLetter, RefusesOn, RefusesSegments}
use Rattle.lard_history.proofs.Each.{Each, Each-weaker}
use Rattle.lard_law_view.proofs.Acked.{taken_by}
use Rattle.lard_segment.proofs.Again.{again}
use Rattle.lard_laws.proofs.WindowsLetters.{same-said}
use Rattle.lard_laws.proofs.WindowsRefusing.{IsRefused, LetterIs, Nothing, RepliesAre, ReplyIs, ReplyIsOn, replies-law}

-- ---- what is read of it

-- the flags stand in one byte
pub flags-spelled : (c : ℕ) (s t : Said) → spelled c ToClient s ≡ spelled c ToClient t → flags_byte s.flags ≡ flags_byte t.flags
unfolding spelled
flags-spelled c s t e = ap (λ (b : List ℕ). slice_index b 13) e

bit : (b : Bool) (n : ℕ) → cond {A = ℕ} b n 0 ≤ n
bit true n = omega arith
bit false n = omega arith

pub ack-same : (f g : Flags) → flags_byte f ≡ flags_byte g → f.ack ≡ true → g.ack ≡ false → ⊥
ack-same f g same set clear =
    let a : ◌≡◌ {A = ℕ} (cond {A = ℕ} f.ack 16 0) 16 = ap (λ b. cond {A = ℕ} b 16 0) set in
    let z : ◌≡◌ {A = ℕ} (cond {A = ℕ} g.ack 16 0) 0 = ap (λ b. cond {A = ℕ} b 16 0) clear in
    omega (arith, same, a, z, bit g.fin 1, bit g.syn 2, bit g.rst 4, bit g.psh 8)

module _ (files : FilesAt) (x : Conn) (s : Station) (there : x.part.station ≡ Some s) (truth : IsTruthful files x) where
  abbrev l : Talk
  l = truth.talk

  abbrev o : IsOpen files x truth.talk truth.pend s
  o = open-at files x s there truth

  -- a segment of the client's has a number in its field
  word-small : (bytes : List ℕ) (sd : Said) → Has (record { from = Client x.c; to = Front; bytes = bytes }) x.letters → decoded bytes x.c ToCluster ≡ Ok sd → sd.ack < 2 ^ 32
  word-small bytes sd has read =
      let f : IsFairOn l x.c x.part (Client x.c) Front bytes = has-fair (IsFair l x.c x.part) (record { from = Client x.c; to = Front; bytes = bytes }) x.letters has o.fair in
      let same : f.0 ≡ sd = same-said f.0 sd (sym (again x.c ToCluster f.0 f.2.sendable) ∙ ap (λ b. decoded b x.c ToCluster) (sym f.1) ∙ read) in
      subst (λ (t : Said). t.ack < 2 ^ 32) same f.2.sendable.ack_fits

  refuses : (bytes : List ℕ) → (t : Said) × (bytes ≡ spelled x.c ToClient t) × IsReply l.w l.out l.was_reset t → ReplyIs x.c x.letters bytes → BytesRefuse x.c x.letters bytes
  refuses bytes f r sd read rst no_ack = ⊎_elim acked refused r.2 where
    read-so : (t : Said) → IsSendable t → bytes ≡ spelled x.c ToClient t → t ≡ sd
    read-so t fits e = same-said t sd (sym (again x.c ToClient t fits) ∙ ap (λ b. decoded b x.c ToClient) (sym e) ∙ read)

    acked : r.0.flags.ack ≡ true → IsRefusal x.c x.letters sd
    acked a =
        let t : Said = f.0 in
        let same : t ≡ sd = read-so t f.2.sendable f.1 in
        absurd (ack-same r.0.flags t.flags (flags-spelled x.c r.0 t (sym r.1 ∙ f.1)) a (ap (λ (z : Said). z.flags.ack) same ∙ no_ack))

    refused : IsRefused x.c x.letters r.0 → IsRefusal x.c x.letters sd
    refused q =
        let fits : IsSendable (refusal q.said.ack) = record { seq_fits = word-small q.bytes q.said q.has q.read; ack_fits = omega arith; wnd_fits = omega arith; some_mss = tt; small_mss = tt; small_payload = omega arith; no_ack = λ e. refl } in
        let same : refusal q.said.ack ≡ sd = read-so (refusal q.said.ack) fits (r.1 ∙ ap (λ (z : Said). spelled x.c ToClient z) q.same) in
        record {
          bare = subst (λ (z : Said). seg_len z ≡ 0) same refl;
          refuses = record { bytes = q.bytes; said = q.said; has = q.has; read = q.read; acks = q.acks; plain = q.plain; same = sym (ap (λ (z : Said). z.seq) same) };
        }

  on-place : (from to : Place) (bytes : List ℕ) → IsFairOn l x.c x.part from to bytes → ReplyIsOn x.c x.letters from to bytes → RefusesOn x.c x.letters from to bytes
  on-place Front (Client d) bytes f r = refuses bytes f r
  on-place (Node n) (Client d) bytes f r = refuses bytes f r
  on-place _ _ bytes f r = tt

  letters-refuse : (ls : List Letter) → Each (IsFair l x.c x.part) ls → Each (LetterIs x.c x.letters) ls → Each (RefusesLetter x.c x.letters) ls
  letters-refuse [] f r = tt
  letters-refuse (m ∷ ms) f r = (on-place m.from m.to m.bytes f.0 r.0, letters-refuse ms f.1 r.1)

-- before its client opened, there are none
inner-refuse : (c : ℕ) (all ls : List Letter) → Each IsInner ls → Each (RefusesLetter c all) ls
inner-refuse c all ls h = Each-weaker IsInner (RefusesLetter c all) (λ l i. go l.from l.to l.bytes i.1) ls h where
  go : (from to : Place) (bytes : List ℕ) → IsNodePlace to → RefusesOn c all from to bytes
  go Front (Node n) bytes i = tt
  go (Node m) (Node n) bytes i = tt
  go (Client d) (Node n) bytes i = tt
  go from _ bytes i = absurd i

by-truth : (files : FilesAt) (x : Conn) → IsTruthful files x → RepliesAre x → RefusesSegments x
by-truth files x truth h = go x.part.station refl where
  go : (q : Option Station) → x.part.station ≡ q → RefusesSegments x
  go None none = let u : IsConnUnopened x = subst (ConnAgrees files x truth.talk truth.pend) none truth.agrees in inner-refuse x.c x.letters x.letters u.inner
  go (Some s) there = letters-refuse files x s there truth x.letters (open-at files x s there truth).fair h

-- In every state that events lead to.
pub refusals-answer : RefusalsAnswer
refusals-answer config files checked m r q untouched =
    let k : Setting = setting config files in
    by-truth k.files _ (states-truthful config files checked m r q untouched) (carried config files Nothing RepliesAre (λ l. replies-law (with_leaving k l)) (λ n s p. tt) m r q)

-- ---- by the law of acknowledgements

-- the number is one of those that the client took
pub turned-down : (x : Conn) (s : Station) → OpenActs x s → (number : ℕ) → IsTurnedDown x.c x.letters number → (a : ℕ) × (number ≡ seq_add s.iss a) × (a ≤ taken_by s.client)
turned-down x s h number t =
    let acts = has-fair (LetterActs x.c (bounds_of x s h.heard) x.part) (record { from = Client x.c; to = Front; bytes = t.bytes }) x.letters t.has h.within.packets in
    let may = (acts t.said t.read).acks t.acks in
    (may.0, t.same ∙ may.1, may.2)
