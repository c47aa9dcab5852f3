-- What is adopted from an Offer sent all that there was.
use Rattle.std.proofs.Common.{◌≡◌, ⊎_elim, ◌≤◌, ◌<◌, ◌+◌, ◌^◌, ℕ, Bool, true, false, cond, List, [], ◌∷◌, length, Result, Ok, refl, sym, ap, ◌∙◌, subst, arith}
use Rattle.std.proofs.lemmas.Bool.{both_ways}
use Rattle.lard_law_view.specs.Prelude.{Client, Conn, EndpointParts, FilesAt, Front, IsBare, IsConnNumber, IsTrueOf, IsValidParts, Letter, Node, Part, Place, Said, SegFault, SpellsMessage, Stands as StandsIn, Station, Stream, Talk, ToClient, Verdict, Was, adopted, decoded, offer_answer, one_if, seg_len, seq_offset}
use Rattle.lard_laws.proofs.AcksOffers.{IsOfferOf, new-is, new-offer, offered-between}
use Rattle.lard_law_connections.specs.BytesAgreement.{IsFair, IsFairOn, IsOpen}
use Rattle.lard_law_connections.proofs.PlacesTurns.{IsPlaced}
use Rattle.lard_law_connections.proofs.SilenceEndpoints.{adopted-turns}
use Rattle.lard_law_connections.proofs.SilenceRuns.{offer-valid}
use Rattle.lard_laws.specs.Windows.{IsEnd, LetterReaches, LetterReachesOn, StationReaches, SymbolsWereSent}
use Rattle.lard_laws.proofs.WindowsClients.{taken-most}
use Rattle.lard_laws.proofs.WindowsPlaces.{NodeAlone, offered-alone}
use Rattle.lard_endpoint.proofs.Adoption.{Stands, frozen_stands}
use Rattle.lard_handoff_back.specs.declared.table.Adopt.TheVariants.{New}
use Rattle.lard_history.proofs.Each.{Each}
use Rattle.lard_law_view.proofs.EndpointStreams.{IsBetween}
use Rattle.lard_message.specs.declared.message.Body.TheVariants as body
use Rattle.lard_segment.proofs.Again.{again}
use Rattle.lard_seq.proofs.Laws.{offset-add}

-- ---- where a true segment stands

pub true-place : (out : Stream) (s : Said) → out.first < 2 ^ 32 → length out.bytes ≤ 2 ^ 30 → IsTrueOf out s → 0 < length s.payload + one_if s.flags.fin → seq_offset s.seq out.first + length s.payload < 2 ^ 32
true-place out s first few h some = ⊎_elim
    (λ (b : IsBare s). let size : length s.payload ≡ 0 = ap length b.0 in let fin : one_if s.flags.fin ≡ 0 = ap one_if b.1 in absurd (omega (arith, size, fin, some)))
    (λ (t : StandsIn out s).
    let within = t.part.within in
    let at : seq_offset s.seq out.first ≡ 1 + t.place = ap (λ n. seq_offset n out.first) t.number ∙ offset-add out.first (1 + t.place) first (omega (arith, within, few)) in
    omega (arith, at, within, few))
    h.carries

-- ---- what was said so far has no more symbols than there are

module _ (out : Stream) (going : out.ended ≡ false) (first : out.first < 2 ^ 32) (few : length out.bytes ≤ 2 ^ 30) where
  pub true-ends : (s : Said) → IsTrueOf out s → 0 < seg_len s → seq_offset s.seq out.first + seg_len s ≤ 1 + length out.bytes
  true-ends s h some = ⊎_elim bare stands h.carries where
    none : (b : Bool) → b ≡ false → ◌≡◌ {A = ℕ} (cond b 1 0) 0
    none false e = refl
    none true e = absurd (let no : true ≡ false = e in cc)

    syn-first : (b : Bool) → s.flags.syn ≡ b → (0 < cond b 1 0 → seq_offset s.seq out.first ≡ 0)
    syn-first true e = λ one. let at : s.seq ≡ out.first = h.greets e in omega (arith, at)
    syn-first false e = λ one. absurd (omega (arith, one))

    few-syn : (b : Bool) → cond b 1 0 ≤ 1
    few-syn true = omega arith
    few-syn false = omega arith

    bare : IsBare s → seq_offset s.seq out.first + seg_len s ≤ 1 + length out.bytes
    bare b =
        let size : length s.payload ≡ 0 = ap length b.0 in
        let fin = none s.flags.fin b.1 in
        let at = syn-first s.flags.syn refl (omega (arith, some, size, fin)) in
        let one = few-syn s.flags.syn in
        omega (arith, size, fin, at, one)

    stands : StandsIn out s → seq_offset s.seq out.first + seg_len s ≤ 1 + length out.bytes
    stands t = by_fin s.flags.fin refl (by_syn s.flags.syn refl) where
      at_of : seq_offset s.seq out.first ≡ 1 + t.place
      at_of = ap (λ n. seq_offset n out.first) t.number ∙ offset-add out.first (1 + t.place) first (let within = t.part.within in omega (arith, within, few))

      by_syn : (b : Bool) → s.flags.syn ≡ b → ◌≡◌ {A = ℕ} (cond s.flags.syn 1 0) 0
      by_syn false e = ap (λ c. cond {A = ℕ} c 1 0) e
      by_syn true e = absurd (let z : seq_offset s.seq out.first ≡ 0 = syn-first true e (omega arith) in omega (arith, z, at_of))

      by_fin : (b : Bool) → s.flags.fin ≡ b → ◌≡◌ {A = ℕ} (cond s.flags.syn 1 0) 0 → seq_offset s.seq out.first + seg_len s ≤ 1 + length out.bytes
      by_fin true e syn = absurd (both_ways out.ended going (t.final e).1)
      by_fin false e syn = let fin = none s.flags.fin e in let within = t.part.within in omega (arith, at_of, syn, fin, within)

same-said : (a b : Said) → ◌≡◌ {A = Result Said SegFault} (Ok a) (Ok b) → a ≡ b
same-said a b e = cc

-- all segments to the client
module _ (k : Talk) (c : ℕ) (p : Part) (isn iss most : ℕ) (going : k.out.ended ≡ false) (first : k.out.first < 2 ^ 32) (few : length k.out.bytes ≤ 2 ^ 30) (iss_is : k.out.first ≡ iss) where
  abbrev Ends : ℕ
  Ends = 1 + length k.out.bytes

  on-true : (from to : Place) (bytes : List ℕ) → IsFairOn k c p from to bytes → LetterReachesOn c isn iss most from to bytes → LetterReachesOn c isn iss Ends from to bytes
  on-true Front (Client d) bytes f r = λ s e.
      let same : f.0 ≡ s = same-said f.0 s (sym (again c ToClient f.0 f.2.sendable) ∙ ap (λ l. decoded l c ToClient) (sym f.1) ∙ e) in
      record { wide = (r s e).wide; ends = λ rst some. subst (λ (n : ℕ). seq_offset s.seq n + seg_len s ≤ Ends) iss_is (true-ends k.out going first few s (subst (IsTrueOf k.out) same f.2.true_of) some) }
  on-true (Node n) (Client d) bytes f r = λ s e.
      let same : f.0 ≡ s = same-said f.0 s (sym (again c ToClient f.0 f.2.sendable) ∙ ap (λ l. decoded l c ToClient) (sym f.1) ∙ e) in
      record { wide = (r s e).wide; ends = λ rst some. subst (λ (n : ℕ). seq_offset s.seq n + seg_len s ≤ Ends) iss_is (true-ends k.out going first few s (subst (IsTrueOf k.out) same f.2.true_of) some) }
  on-true _ _ bytes f r = tt

  pub letters-true : (ls : List Letter) → Each (IsFair k c p) ls → Each (LetterReaches c isn iss most) ls → Each (LetterReaches c isn iss Ends) ls
  letters-true [] f r = tt
  letters-true (l ∷ ls) f r = (on-true l.from l.to l.bytes f.0 r.0, letters-true ls f.1 r.1)

-- ---- what goes on from an Offer

-- it is an endpoint of the connection, which sent all that there was
pub record GoesOnFrom (x : Conn) (s : Station) (parts : EndpointParts) : Type 0 where
  pub end : IsEnd s.client.send.iss s.iss (adopted parts)
  pub sent : SymbolsWereSent x.c s.client s.iss x.letters parts.una

module _ (files : FilesAt) (x : Conn) (s : Station) (l : Talk) (pend : List Verdict) (o : IsOpen files x l pend s) (h : StationReaches x s)
    (parts : EndpointParts) (valid : IsValidParts parts) where
  isn_is : l.w.first ≡ s.client.send.iss
  isn_is = ap (λ (z : Stream). z.first) o.client.w_is

  pub of-offer : IsOfferOf l pend parts → GoesOnFrom x s parts
  of-offer f =
      let stands : Stands f.block = frozen_stands f.block f.holds.holds.sound f.frozen in
      let count = f.holds.holds.speaks.part.count in
      let una : parts.una ≡ 1 + length l.out.bytes = ap (λ (p : EndpointParts). p.una) f.same ∙ stands.una_is ∙ ap (λ m. 1 + m) (sym count) in
      let going : l.out.ended ≡ false = ap (λ (z : Stream). z.ended) f.holds.holds.out_is ∙ stands.finished_is in
      let between : IsBetween l.w l.out (adopted parts) = offered-between l pend parts f in
      let within = o.client.accepts.within in
      record {
        end = record {
          sound = (adopted-turns parts valid).0;
          irs_is = between.hears.first ∙ isn_is;
          iss_is = sym (ap (λ (z : Stream). z.first) between.out_is) ∙ o.begins;
          bytes = l.out.bytes;
          speaks = between.speaks;
        };
        sent = record {
          taken = let most = taken-most s.client in let eof = open-eof s.client.eof refl in omega (arith, most, eof, within, una);
          all = subst (λ (u : ℕ). Each (LetterReaches x.c s.client.send.iss s.iss u) x.letters) (sym una)
              (letters-true l x.c x.part s.client.send.iss s.iss h.most going o.says.number o.says.most o.begins x.letters o.fair h.letters);
        };
      } where
        open-eof : (b : Bool) → s.client.eof ≡ b → one_if s.client.eof ≡ 0
        open-eof false e = ap one_if e
        open-eof true e = absurd (both_ways l.out.ended (ap (λ (z : Stream). z.ended) f.holds.holds.out_is ∙ (frozen_stands f.block f.holds.holds.sound f.frozen).finished_is) (o.client.accepts.final e).1)

-- ---- what is adopted

module _ (files : FilesAt) (x : Conn) (number : IsConnNumber x.c) (at_place : IsPlaced x) (s : Station) (l : Talk) (pend : List Verdict)
    (o : IsOpen files x l pend s) (h : StationReaches x s)
    (n epoch : ℕ) (parts : EndpointParts) (bytes : List ℕ) (spells : SpellsMessage x.c epoch (body.Offer parts) bytes)
    (was : Was x Front (Node n) bytes) (new : offer_answer epoch (x.part.nodes n).row ≡ New) where
  -- no other place has it
  pub record Adopts : Type 0 where
    pub goes : GoesOnFrom x s parts
    pub alone : NodeAlone n x.part

  pub adopts : Adopts
  adopts =
      let f = new-offer x at_place n epoch parts bytes spells was new in
      record {
        goes = of-offer files x s l pend o h parts (offer-valid x.c epoch parts bytes spells) (new-is files x number at_place s l pend o n epoch parts bytes spells was new);
        alone = offered-alone x at_place n f.row f.node f.named f.found f.staged f.node_is;
      }
