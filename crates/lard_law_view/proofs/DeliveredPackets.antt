-- From the move of one connection to the records of its step: the packet that came is the one that was delivered last.
use Rattle.std.proofs.Common.{◌≡◌, ◌⊎◌, ⊎_elim, ℕ, ◌+◌, List, [], ◌∷◌, ◌++◌, length, Option, Some, None, refl, sym, ap, ◌∙◌, subst}
use Rattle.std.proofs.lemmas.List.Sums.{fold-append}
use Rattle.lard_law_view.specs.Prelude.{Came, EachMay, Event, Gets, Letter, MayTake, Packet, Rec, Seen, Tale, accepted, accepted_step, got_step, last_got, letter_of, net_of, net_step, numbers_of, numbers_step, own, packet_at, seq_add, tale_of, tale_step}
use Rattle.lard_base.specs.declared.event.Event.TheVariants as event
use Rattle.lard_history.proofs.Each.{Each}
use Rattle.lard_history.proofs.Lifting.{tale-own}
use Rattle.lard_history.proofs.Tales.{accepted-tale, numbers-tale}
use Rattle.lard_journal.specs.declared.rec.Rec.TheVariants as rec
use Rattle.lard_law_view.proofs.Taking.{GetsBy, TakesBy, TakesNothing, TakesOf}
use Rattle.lard_law_view.specs.WhileUntouched.{TellsBy}
use Rattle.lard_law_view.proofs.Deliveries.{IsDelivered}
use Rattle.lard_law_view.proofs.OfKinds.{each-may}
use Rattle.lard_law_view.proofs.OwnRecords.{behind}

-- ---- records that take nothing

may-pass : (J : List Rec) (r : Rec) → TakesNothing r → MayTake J r
may-pass J (rec.Accepted c bytes) n = absurd n
may-pass J (rec.Eof c) n = absurd n
may-pass J _ n = tt

pub all-may : (J rs : List Rec) → Each TakesNothing rs → EachMay MayTake J rs
all-may = each-may TakesNothing MayTake may-pass

-- ---- records that take of a packet

module _ (c k : ℕ) (net : List Packet) (p : Packet) (at : packet_at net k ≡ Some p) where
  -- while they stand there, the packet is the one that was delivered last, and this is told of the connection
  record Stage (J : List Rec) (t : Tale) : Type 0 where
    last : last_got J ≡ Some k
    packets : net_of J ≡ net
    numbers : numbers_of J c ≡ t.numbers
    taken : accepted J c ≡ t.accepted

  more : (J : List Rec) (t : Tale) (r : Rec) → ((last : Option ℕ) → got_step last r ≡ last) → ((ps : List Packet) → net_step ps r ≡ ps) → Stage J t → Stage (J ++ r ∷ []) (tale_step c t r)
  more J t r still keeps s = record {
    last = fold-append got_step None J (r ∷ []) ∙ still (last_got J) ∙ s.last;
    packets = fold-append net_step [] J (r ∷ []) ∙ keeps (net_of J) ∙ s.packets;
    numbers = fold-append (numbers_step c) None J (r ∷ []) ∙ ap (λ n. numbers_step c n r) s.numbers;
    taken = fold-append (accepted_step c) [] J (r ∷ []) ∙ ap (λ l. accepted_step c l r) s.taken;
  }

  abbrev gets : (J : List Rec) (t : Tale) → Stage J t → GetsBy (letter_of p) c t → Gets J c
  gets J t s g = record {
    number = k;
    last = s.last;
    packet = p;
    sent = ap (λ (ps : List Packet). packet_at ps k) s.packets ∙ at;
    goal = g.goal;
    said = g.said;
    decodes = g.decodes;
    numbers = g.numbers;
    opened = s.numbers ∙ g.opened;
  }

  next : (J : List Rec) (t : Tale) → Stage J t → (iss seq : ℕ) → seq ≡ seq_add iss (1 + length t.accepted) → seq ≡ seq_add iss (1 + length (accepted J c))
  next J t s iss seq e = e ∙ ap (λ (l : List ℕ). seq_add iss (1 + length l)) (sym s.taken)

  takes-all : (J : List Rec) (t : Tale) (rs : List Rec) → Stage J t → TellsBy (TakesBy (letter_of p) c) c t rs → EachMay MayTake J rs
  takes-all J t [] s m = tt
  takes-all J t (rec.Accepted d bytes ∷ rs) s m = (
    subst (λ (q : ℕ). MayTake J (rec.Accepted q bytes)) (sym m.0.0)
        (let y = m.0.1 in (gets J t s y.0, y.1, next J t s y.0.numbers.iss (seq_add y.0.said.seq y.1) y.2, y.3, y.4)),
    takes-all (J ++ rec.Accepted d bytes ∷ []) (tale_step c t (rec.Accepted d bytes)) rs (more J t (rec.Accepted d bytes) (λ last. refl) (λ ps. refl) s) m.1,
  )
  takes-all J t (rec.Eof d ∷ rs) s m = (
    subst (λ (q : ℕ). MayTake J (rec.Eof q)) (sym m.0.0)
        (let y = m.0.1 in (gets J t s y.0, y.1, next J t s y.0.numbers.iss (seq_add y.0.said.seq (length y.0.said.payload)) y.2)),
    takes-all (J ++ rec.Eof d ∷ []) (tale_step c t (rec.Eof d)) rs (more J t (rec.Eof d) (λ last. refl) (λ ps. refl) s) m.1,
  )
  takes-all J t (_ ∷ rs) s m = absurd m.0

-- ---- a step

-- behind a journal of these packets
module _ (J : List Rec) (net : List Packet) (told : net_of J ≡ net) (i : ℕ) where
  -- and the event that delivers one
  delivered : (c k : ℕ) (p : Packet) (at : packet_at net k ≡ Some p) → Stage c k net p at (J ++ rec.Event i (event.Deliver k) ∷ rec.Got k ∷ []) (tale_of c (own c J))
  delivered c k p at =
      let rs : List Rec = rec.Event i (event.Deliver k) ∷ rec.Got k ∷ [] in
      record {
        last = fold-append got_step None J rs;
        packets = fold-append net_step [] J rs ∙ told;
        numbers = fold-append (numbers_step c) None J rs ∙ numbers-tale J c ∙ ap (λ (t : Tale). t.numbers) (tale-own J c);
        taken = fold-append (accepted_step c) [] J rs ∙ accepted-tale J c ∙ ap (λ (t : Tale). t.accepted) (tale-own J c);
      }

  -- the notes of a connection that moves
  pub notes-may : (e : Event) (c : ℕ) (heads : List Seen) (notes : List Rec) → Each (IsDelivered net e) heads → TakesOf c (tale_of c (own c J)) heads notes
      → EachMay MayTake (J ++ rec.Event i e ∷ behind e) notes
  notes-may e c heads notes came takes = ⊎_elim
      (λ n. all-may (J ++ rec.Event i e ∷ behind e) notes n)
      (λ (t : (l : Letter) × (heads ≡ Came l ∷ []) × TellsBy (TakesBy l c) c (tale_of c (own c J)) notes).
      let d : Each (IsDelivered net e) (Came t.0 ∷ []) = subst (Each (IsDelivered net e)) t.1 came in
      subst (λ (z : Event). EachMay MayTake (J ++ rec.Event i z ∷ behind z) notes) (sym d.0.2)
      (takes-all c d.0.0 net d.0.1 d.0.3 (J ++ rec.Event i (event.Deliver d.0.0) ∷ rec.Got d.0.0 ∷ []) (tale_of c (own c J)) notes
      (delivered c d.0.0 d.0.1 d.0.3)
      (subst (λ (l : Letter). TellsBy (TakesBy l c) c (tale_of c (own c J)) notes) (sym d.0.4) t.2)))
      takes
