-- Each record of every run is told so: by what its connection saw, and by what its node's cache and disk have.
use Rattle.std.proofs.Common.{◌≡◌, ℕ, nat_eq, List, [], ◌∷◌, ◌++◌, Option, Some, None, inl, refl, sym, ◌∙◌, subst, append_assoc}
use Rattle.std.proofs.lemmas.Bool.{cond_both}
use Rattle.lard_history.proofs.Each.{Each, Each-append}
use Rattle.lard_history.proofs.Seeing.{has-before, has-behind, has-each, own-append, seen-mine}
use Rattle.lard_journal.specs.declared.rec.Rec.TheVariants as rec
use Rattle.lard_law_connections.proofs.StoresStored.{lawful}
use Rattle.lard_law_view.specs.Prelude.{Came, FilesAt, Has, Packet, Rec, Row, Seen, came_seen, conn, conn_of, file_at, letter_of, net_of, net_step, one_of, own, packet_at, plain, seen_of, seen_on, whose}
use Rattle.lard_laws.proofs.FormedMoves.{each-told}
use Rattle.lard_laws.proofs.FormedNamed.{IsNamed, packets-named}
use Rattle.lard_laws.proofs.FormedStores.{stored-named}
use Rattle.lard_laws.proofs.FormedTold.{IsStoredSo, SeenGives, SeenToldSo}
use Rattle.lard_laws.specs.Formed.{HasPathAndBytes, RecordGives, RecordsHavePathsAndBytes}

-- ---- what a connection sees gives what the journal gives

plain-gives : (r : Rec) → RecordGives r → SeenGives (Row (plain r))
plain-gives (rec.Event i e) h = h
plain-gives (rec.Inner e) h = h
plain-gives _ h = tt

one-gives : (q : ℕ) (o : Option ℕ) (s : Seen) → SeenGives s → Each SeenGives (one_of q o s)
one-gives q None s h = tt
one-gives q (Some c) s h = cond_both (nat_eq c q) (s ∷ []) [] (Each SeenGives) (λ t. (h, tt)) (λ t. tt)

came-gives : (q : ℕ) (o : Option Packet) → Each SeenGives (came_seen q o)
came-gives q None = tt
came-gives q (Some p) = one-gives q (conn_of p.from p.to p.bytes) (Came (letter_of p)) tt

of-gives : (q : ℕ) (net : List Packet) (r : Rec) → RecordGives r → Each SeenGives (seen_of q net r)
of-gives q net (rec.Got k) h = came-gives q (packet_at net k)
of-gives q net r h = one-gives q (whose r) (Row (plain r)) (plain-gives r h)

on-gives : (q : ℕ) (net : List Packet) (rs : List Rec) → Each RecordGives rs → Each SeenGives (seen_on q net rs)
on-gives q net [] h = tt
on-gives q net (r ∷ rs) h = Each-append SeenGives (seen_of q net r) (seen_on q (net_step net r) rs) (of-gives q net r h.0) (on-gives q (net_step net r) rs h.1)

own-gives : (q : ℕ) (J : List Rec) → Each RecordGives J → Each SeenGives (own q J)
unfolding own
own-gives q J h = on-gives q [] J h

-- ---- each record of a journal

module _ (files : FilesAt) (J : List Rec) (seen : (q : ℕ) → Each (SeenToldSo files) (own q J)) where
  -- a record of a connection, as it sees it
  sees : (before later : List Rec) (r : Rec) (c : ℕ) → J ≡ before ++ r ∷ later → whose r ≡ Some c → SeenToldSo files (Row (plain r))
  sees before later r c is its =
      has-each (Row (plain r)) (SeenToldSo files) (own c J)
      (subst (λ (l : List Rec). Has (Row (plain r)) (own c l)) (sym is) (subst (Has (Row (plain r))) (sym (own-append c before (r ∷ later)))
      (has-behind (Row (plain r)) (own c before) (seen_on c (net_of before) (r ∷ later))
      (has-before (Row (plain r)) (seen_of c (net_of before) r) (seen_on c (net_step (net_of before) r) later) (subst (Has (Row (plain r))) (sym (seen-mine c (net_of before) r its)) (inl refl))))))
      (seen c)

  one-told : (before later : List Rec) (r : Rec) → J ≡ before ++ r ∷ later → IsNamed r → IsStoredSo files r → HasPathAndBytes files r
  one-told before later (rec.Wrote c bytes) is named stored = sees before later (rec.Wrote c bytes) c is refl
  one-told before later (rec.Sent k from to bytes) is named stored = sees before later (rec.Sent k from to bytes) named.0 is named.1
  one-told before later (rec.Accepted c bytes) is named stored = sees before later (rec.Accepted c bytes) c is refl
  one-told before later (rec.AssignedFirst c r path n add remove) is named stored = sees before later (rec.AssignedFirst c r path n add remove) c is refl
  one-told before later (rec.AssignedLater c r path n add size queue) is named stored = sees before later (rec.AssignedLater c r path n add size queue) c is refl
  one-told before later (rec.Hit n path) is named stored = stored
  one-told before later (rec.Queued n m c r path) is named stored = stored
  one-told before later (rec.Read n m c r path) is named stored = stored
  one-told before later _ is named stored = tt

  all-told : (before rs : List Rec) → J ≡ before ++ rs → Each IsNamed rs → Each (IsStoredSo files) rs → Each (HasPathAndBytes files) rs
  all-told before [] is named stored = tt
  all-told before (r ∷ rs) is named stored = (one-told before rs r is named.0 stored.0, all-told (before ++ r ∷ []) rs (is ∙ sym (append_assoc before (r ∷ []) rs)) named.1 stored.1)

pub records-told : RecordsHavePathsAndBytes
unfolding conn
records-told config files m short reached gives =
    let seen : (q : ℕ) → Each (SeenToldSo (file_at files)) (own q m.journal) = λ q. (each-told config files short m reached q).seen (own-gives q m.journal gives) in
    all-told (file_at files) m.journal seen [] m.journal refl (packets-named config files m reached) (stored-named (file_at files) config.cache m.journal (lawful config files m reached))
