-- A turn of a place keeps what its connection agrees on.
use Rattle.std.proofs.Common.{◌≡◌, ℕ, ◌+◌, ◌-◌, ◌≤◌, List, ◌++◌, length, Bool, true, false, refl, sym, ap, ◌∙◌, subst, arith}
use Rattle.std.proofs.lemmas.Bool.{both_ways}
use Rattle.lard_law_view.specs.Prelude.{AtFront, Away, ControlBlock, EndedAs, Final, FrontAgrees, GoesOn, HasRead, HoldsIt, Nowhere, Over, Rec, Seat, Stream, Tale, Verdict, blocks, fin_sent, seq_add, tale, verdicts_on}
use Rattle.lard_history.proofs.Tales.{fin-tale}
use Rattle.lard_law_view.proofs.Growth.{front-length, front-take, heard-grown}

-- ---- while the client's stream goes on

module _ (w v : Stream) (g : GoesOn w v) where
  read-grown : (b : ControlBlock) (vs : List Verdict) → b.recv.got ≤ length w.bytes → HasRead w b vs → HasRead v b vs
  read-grown b vs within h = record {
    cut = λ d z. subst (λ (l : List ℕ). verdicts_on (blocks (l ++ z)) ≡ vs ++ verdicts_on (blocks z))
        (sym (front-take (b.recv.got - length b.recv.unread) w.bytes v.bytes g.bytes (omega (arith, within)))) (h.cut d z);
    goes_on = h.goes_on;
    stops = h.stops;
  }

  acks-grown : (last : Final) → ((n : ℕ) × (last.rcv.0 ≡ seq_add w.first n) × (n ≤ 2 + length w.bytes)) → (n : ℕ) × (last.rcv.0 ≡ seq_add v.first n) × (n ≤ 2 + length v.bytes)
  acks-grown last a =
      let longer : length w.bytes ≤ length v.bytes = front-length w.bytes v.bytes g.bytes in
      (a.0, a.1 ∙ ap (λ (n : ℕ). seq_add n a.0) (sym g.first), (let b = a.2 in omega (arith, b, longer)))

  -- the endpoint that is held
  holds-grown : (out : Stream) (vs : List Verdict) (b : ControlBlock) (count : ℕ) → HoldsIt w out vs b count → HoldsIt v out vs b count
  holds-grown out vs b count h = record {
    counted = h.counted;
    not_reset = h.not_reset;
    sound = h.sound;
    speaks = h.speaks;
    out_is = h.out_is;
    hears = heard-grown w v b.recv g h.hears;
    has_read = read-grown b vs h.hears.within h.has_read;
    stopped = h.stopped;
  }

  -- and the one that was held last
  ended-grown : (out : Stream) (vs : List Verdict) (last : Final) → EndedAs w out vs last → EndedAs v out vs last
  ended-grown out vs last h = record { block = h.block; count = h.count; held = holds-grown out vs h.block h.count h.held; both = h.both; is = h.is }

  pub front-grown : (out : Stream) (vs : List Verdict) (reset : Bool) (f : Seat) → FrontAgrees w out vs reset f → FrontAgrees v out vs reset f
  front-grown out vs reset Nowhere h = h
  front-grown out vs reset (AtFront b count) h = holds-grown out vs b count h
  front-grown out vs reset Away h = h
  front-grown out vs reset (Over last) h = record {
    snd_fits = h.snd_fits;
    acks = acks-grown last h.acks;
    limit = h.limit;
    ended = λ e. ended-grown out vs last (h.ended e);
  }

-- ---- the front end's notes are true

-- a response is queued only before the FIN
pub not-ended : (J : List Rec) (c : ℕ) (t : Tale) (out : Stream) → tale J c ≡ t → out.ended ≡ false → (t.fin_sent ≡ true → out.ended ≡ true) → fin_sent J c ≡ false
not-ended J c t out e open_ fin = fin-tale J c ∙ ap (λ (u : Tale). u.fin_sent) e ∙ go t.fin_sent fin where
  go : (b : Bool) → (b ≡ true → out.ended ≡ true) → b ≡ false
  go true h = absurd (both_ways out.ended open_ (h refl))
  go false h = refl
