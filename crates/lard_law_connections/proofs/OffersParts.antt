-- The parts of an endpoint that the front end froze are what the journal tells of it.
use Rattle.std.proofs.Common.{◌≡◌, ◌+◌, ◌-◌, ◌≤◌, ℕ, true, List, [], ◌++◌, drop, length, take, Some, arith, refl, ap, ◌∙◌, sym, subst, append-nil}
use Rattle.std.specs.List.{concat}
use Rattle.lard_law_view.specs.Prelude.{ControlBlock, FilesAt, Rec, SaysAnswers, Stream, Tale, Verdict, answers, blocks, may_freeze, numbers_of, parts_of, said_to, served, tale, verdicts_on, wrote}
use Rattle.lard_law_connections.specs.BytesAgreement.{FrontHolds}
use Rattle.lard_law_connections.specs.Offers.{ArePartsOf, IsCutAt}
use Rattle.lard_law_connections.proofs.OffersCutting.{cut-at}
use Rattle.lard_endpoint.proofs.Adoption.{frozen_stands}
use Rattle.lard_history.proofs.Tales.{numbers-tale, served-tale, wrote-tale}
use Rattle.lard_law_view.proofs.Prefix.{said-bytes}

-- what is told of both streams and of the responses
pub record Tells (w out : Stream) (vs : List Verdict) (t : Tale) : Type 0 where
  pub numbers : t.numbers ≡ Some (record { isn = w.first; iss = out.first })
  pub wrote : t.wrote ≡ w.bytes
  pub served : t.served ≡ length vs

module _ (files : FilesAt) (w out : Stream) (vs : List Verdict) (b : ControlBlock) (count : ℕ) (says : SaysAnswers files w out vs) (h : FrontHolds w out vs [] b count) (frozen : may_freeze b ≡ true) where
  pub carries : (J : List Rec) (c : ℕ) → Tells w out vs (tale J c) → ArePartsOf files J c (parts_of b count)
  carries J c told =
      let held = h.holds in
      let s = frozen_stands b held.sound frozen in
      let n : ℕ = b.recv.got - length b.recv.unread in
      let numbers : numbers_of J c ≡ Some (record { isn = w.first; iss = out.first }) = numbers-tale J c ∙ told.numbers in
      let wr : wrote J c ≡ w.bytes = wrote-tale J c ∙ told.wrote in
      let sv : served J c ≡ length vs = served-tale J c ∙ told.served in
      let said : said_to files J c ≡ out.bytes =
      ap (λ n. concat (take n (answers files (wrote J c)))) sv ∙ ap (λ l. concat (take (length vs) (answers files l))) wr ∙ said-bytes files w out vs says in
      let iss : out.first ≡ b.send.iss = ap (λ (y : Stream). y.first) held.out_is in
      let total : length out.bytes ≡ b.send.total = held.speaks.part.count in
      let una : b.send.una ≡ 1 + b.send.total = s.una_is in
      let fits : b.recv.got ≤ length w.bytes = held.hears.within in
      record {
        numbers = numbers ∙ (λ i. Some (record { isn = sym held.hears.first i; iss = iss i }));
        served_is = held.counted ∙ sym sv;
        una_is = una ∙ ap (λ m. 1 + m) (sym total ∙ ap length (sym said));
        within = (held.sound.received.within, subst (λ (l : List ℕ). b.recv.got ≤ length l) (sym wr) fits);
        unread_is = held.hears.part.part s.discarding_is ∙ ap (λ (l : List ℕ). drop n (take b.recv.got l)) (sym wr);
        cut = subst (λ (m : ℕ). IsCutAt n m (wrote J c)) (sym sv) (subst (λ (l : List ℕ). IsCutAt n (length vs) l) (sym wr) (cut-at n w.bytes vs (omega (arith, fits))
            (λ z. held.has_read.cut s.discarding_is refl z ∙ ap (λ (us : List Verdict). us ++ verdicts_on (blocks z)) (append-nil vs)) (held.has_read.goes_on s.discarding_is)));
      }
