-- What a move tells of the bytes of its connection.
use Rattle.std.proofs.Common.{◌≡◌, ◌+◌, ◌||◌, ℕ, Bool, true, false, cond, List, [], ◌∷◌, map, length, take, Option, Some, arith, refl, ap, ◌∙◌, sym, append-nil}
use Rattle.std.specs.List.{fold, list_any}
use Rattle.lard_law_view.specs.Prelude.{Came, Conn, Move, Numbers, Place, Rec, Row, Seen, Stream, Tale, Talk, bytes_served_in, grown, is_reset_record, named_records, seen_step, served_in, tale_at, tale_step, told_on}
use Rattle.lard_law_connections.specs.BytesAgreement.{TaleAgreesWithTalk}
use Rattle.lard_law_connections.proofs.BytesLaw.{IsHead}
use Rattle.lard_law_connections.specs.BytesTurning.{IsNoteOf}
use Rattle.lard_law_view.specs.View.{sending}
use Rattle.lard_law_view.proofs.Saying.{AreMessages, GaveAt}
use Rattle.lard_law_view.proofs.Rows.{grown-tale, tale_before}
use Rattle.lard_history.proofs.Each.{Each}
use Rattle.lard_journal.specs.declared.rec.Rec.TheVariants as rec
use Rattle.lard_law_view.proofs.Notes.{Adds, adds-both, adds-none, or-false, same-number}
use Rattle.lard_law_view.proofs.OfKinds.{of-gift}
use Rattle.lard_law_connections.proofs.PlacesRows.{each-named}

-- ---- what is told of bytes

pub record Bytes : Type 0 where
  pub numbers : Option Numbers
  pub wrote : List ℕ
  pub accepted : List ℕ
  pub served : ℕ
  pub served_bytes : ℕ
  pub was_reset : Bool

abbrev pub bytes_of : Tale → Bytes
bytes_of t = record { numbers = t.numbers; wrote = t.wrote; accepted = t.accepted; served = t.served; served_bytes = t.served_bytes; was_reset = t.was_reset }

pub tale-agrees : (k : Talk) (n : ℕ) (t u : Tale) → bytes_of u ≡ bytes_of t → (u.fin_sent ≡ true → k.out.ended ≡ true) → TaleAgreesWithTalk k n t → TaleAgreesWithTalk k n u
tale-agrees k n t u e fin h = record {
  numbers = ap (λ (b : Bytes). b.numbers) e ∙ h.numbers;
  wrote = ap (λ (b : Bytes). b.wrote) e ∙ h.wrote;
  accepted_is = ap (λ (b : Bytes). b.accepted) e ∙ h.accepted_is;
  served = ap (λ (b : Bytes). b.served) e ∙ h.served;
  served_bytes = ap (λ (b : Bytes). b.served_bytes) e ∙ h.served_bytes;
  was_reset = ap (λ (b : Bytes). b.was_reset) e ∙ h.was_reset;
  fin = fin;
}

-- ---- segments, and what is given up, tell nothing of them

pub sends-bytes : (c : ℕ) (place : Place) (ss : List (Place × List ℕ)) (t : Tale) → bytes_of (told_on c t (map (sending place) ss)) ≡ bytes_of t
sends-bytes c place [] t = refl
sends-bytes c place (s ∷ ss) t = sends-bytes c place ss (tale_step c t (sending place s))

gave-bytes : (c d : ℕ) (place : Place) (rs : List Rec) (t : Tale) → Each (GaveAt place d) rs → bytes_of (told_on c t rs) ≡ bytes_of t
gave-bytes c d place [] t h = refl
gave-bytes c d place (r ∷ rs) t h = gave-bytes c d place rs (tale_step c t r) h.1 ∙ of-gift (λ q. bytes_of (tale_step c t q) ≡ bytes_of t) (λ p e epoch. refl) place d r h.0

-- and no FIN
pub gave-fin : (c d : ℕ) (place : Place) (rs : List Rec) (t : Tale) → Each (GaveAt place d) rs → (told_on c t rs).fin_sent ≡ t.fin_sent
gave-fin c d place [] t h = refl
gave-fin c d place (r ∷ rs) t h = gave-fin c d place rs (tale_step c t r) h.1 ∙ of-gift (λ q. (tale_step c t q).fin_sent ≡ t.fin_sent) (λ p e epoch. refl) place d r h.0

-- nor does what is seen before the notes
pub heads-fin : (c : ℕ) (heads : List Seen) (t : Tale) → Each IsHead heads → (fold (seen_step (tale_step c)) t heads).fin_sent ≡ t.fin_sent
heads-fin c [] t h = refl
heads-fin c (Came l ∷ ss) t h = heads-fin c ss t h.1
heads-fin c (Row (rec.Event i e) ∷ ss) t h = heads-fin c ss (tale_step c t (rec.Event i e)) h.1
heads-fin c (Row (rec.Opened d isn iss wnd mss) ∷ ss) t h = heads-fin c ss (tale_step c t (rec.Opened d isn iss wnd mss)) h.1
heads-fin c (Row _ ∷ ss) t h = absurd h.0

-- so a move tells what its heads and its notes tell
pub move-bytes : (x : Conn) (v : Move) → AreMessages x.c v.place v.said.messages → Each (GaveAt v.place x.c) v.said.gave → bytes_of (tale_at (grown x v)) ≡ bytes_of (told_on x.c (tale_before x v) v.said.notes)
move-bytes x v of gave =
    let noted : Tale = told_on x.c (tale_before x v) v.said.notes in
    let sent : Tale = told_on x.c noted (map (sending v.place) v.said.segments) in
    ap bytes_of (grown-tale x v of) ∙ gave-bytes x.c x.c v.place v.said.gave sent gave ∙ sends-bytes x.c v.place v.said.segments noted

-- ---- notes of a place that serves

quiet : (t u v : Tale) (n s : ℕ) (r : Bool) → Adds t [] [] 0 0 false u → Adds u [] [] n s r v → Adds t [] [] n s r v
quiet t u v n s r a b = adds-both t u v [] [] [] [] 0 n n 0 s s false r (omega arith) (omega arith) a b

pub place-notes : (c : ℕ) (t : Tale) (rs : List Rec) → Each (IsNoteOf c) rs → Adds t [] [] (served_in rs) (bytes_served_in rs) (list_any is_reset_record rs) (told_on c t rs)
place-notes c t [] h = adds-none t t refl refl refl refl refl refl refl
place-notes c t (rec.Served place d r code size via ∷ rs) h =
    adds-both t (tale_step c t (rec.Served place d r code size via)) (told_on c (tale_step c t (rec.Served place d r code size via)) rs) [] [] [] [] 1 (served_in rs) (1 + served_in rs) size (bytes_served_in rs) (size + bytes_served_in rs) false (list_any is_reset_record rs) refl refl
    (record {
      numbers = refl;
      wrote = sym (append-nil t.wrote);
      accepted = sym (append-nil t.accepted);
      served = ap (λ (b : Bool). cond b (t.served + 1) t.served) (same-number d c h.0);
      served_bytes = ap (λ (b : Bool). cond b (t.served_bytes + size) t.served_bytes) (same-number d c h.0);
      was_reset = or-false t.was_reset;
      fin_sent = refl;
    })
    (place-notes c (tale_step c t (rec.Served place d r code size via)) rs h.1)
place-notes c t (rec.Reset place d total ∷ rs) h =
    adds-both t (tale_step c t (rec.Reset place d total)) (told_on c (tale_step c t (rec.Reset place d total)) rs) [] [] [] [] 0 (served_in rs) (served_in rs) 0 (bytes_served_in rs) (bytes_served_in rs) true (list_any is_reset_record rs) (omega arith) (omega arith)
    (record {
      numbers = refl;
      wrote = sym (append-nil t.wrote);
      accepted = sym (append-nil t.accepted);
      served = (let n : ℕ = t.served in omega arith);
      served_bytes = (let n : ℕ = t.served_bytes in omega arith);
      was_reset = ap (λ (b : Bool). cond b true t.was_reset) (same-number d c h.0) ∙ or-last t.was_reset;
      fin_sent = refl;
    })
    (place-notes c (tale_step c t (rec.Reset place d total)) rs h.1) where
      or-last : (b : Bool) → true ≡ (b || true)
      or-last true = refl
      or-last false = refl
place-notes c t (rec.Opened d isn iss wnd mss ∷ rs) h = absurd h.0
place-notes c t (rec.Wrote d bytes ∷ rs) h = absurd h.0
place-notes c t (rec.Accepted d bytes ∷ rs) h = absurd h.0
place-notes c t (rec.Sent k from to bytes ∷ rs) h = absurd h.0
place-notes c t (r ∷ rs) h = quiet t _ _ _ _ _ (adds-none t (tale_step c t r) refl refl refl refl refl refl refl) (place-notes c (tale_step c t r) rs h.1)

-- ---- of a node's notes those count that name a connection

pub named-each : (c : ℕ) (rs : List Rec) → Each (IsNoteOf c) rs → Each (IsNoteOf c) (named_records rs)
named-each c rs h = each-named (IsNoteOf c) rs h

-- what counts a record that names a connection, or nothing, counts the same of the named ones
module _ {A : Type 0} (f : List Rec → A) (g : Rec → A → A) (more : (r : Rec) (rs : List Rec) → f (r ∷ rs) ≡ g r (f rs)) (none : (n : ℕ) (path : List ℕ) (a : A) → g (rec.Hit n path) a ≡ a) where
  pub named-same : (c : ℕ) (rs : List Rec) → Each (IsNoteOf c) rs → f (named_records rs) ≡ f rs
  named-same c [] h = refl
  named-same c (rec.Hit n path ∷ rs) h = named-same c rs h.1 ∙ sym (none n path (f rs)) ∙ sym (more (rec.Hit n path) rs)
  named-same c (rec.Served place d r code size via ∷ rs) h = more _ (named_records rs) ∙ ap (g _) (named-same c rs h.1) ∙ sym (more (rec.Served place d r code size via) rs)
  named-same c (rec.Reset place d total ∷ rs) h = more _ (named_records rs) ∙ ap (g _) (named-same c rs h.1) ∙ sym (more (rec.Reset place d total) rs)
  named-same c (rec.Took place d epoch ∷ rs) h = more _ (named_records rs) ∙ ap (g _) (named-same c rs h.1) ∙ sym (more (rec.Took place d epoch) rs)
  named-same c (rec.Queued n m d r path ∷ rs) h = more _ (named_records rs) ∙ ap (g _) (named-same c rs h.1) ∙ sym (more (rec.Queued n m d r path) rs)
  named-same c (rec.Read n m d r path ∷ rs) h = more _ (named_records rs) ∙ ap (g _) (named-same c rs h.1) ∙ sym (more (rec.Read n m d r path) rs)
  named-same c (rec.Waits d ∷ rs) h = more _ (named_records rs) ∙ ap (g _) (named-same c rs h.1) ∙ sym (more (rec.Waits d) rs)
  named-same c (rec.Admitted d ∷ rs) h = more _ (named_records rs) ∙ ap (g _) (named-same c rs h.1) ∙ sym (more (rec.Admitted d) rs)
  named-same c (rec.Released d ∷ rs) h = more _ (named_records rs) ∙ ap (g _) (named-same c rs h.1) ∙ sym (more (rec.Released d) rs)
  named-same c (rec.AssignedFirst d r path n add remove ∷ rs) h = more _ (named_records rs) ∙ ap (g _) (named-same c rs h.1) ∙ sym (more (rec.AssignedFirst d r path n add remove) rs)
  named-same c (rec.AssignedLater d r path n add size queue ∷ rs) h = more _ (named_records rs) ∙ ap (g _) (named-same c rs h.1) ∙ sym (more (rec.AssignedLater d r path n add size queue) rs)
  named-same c (rec.BatchOver d ∷ rs) h = more _ (named_records rs) ∙ ap (g _) (named-same c rs h.1) ∙ sym (more (rec.BatchOver d) rs)
  named-same c (_ ∷ rs) h = absurd h.0

served_by : Rec → ℕ → ℕ
served_by (rec.Served place d r code size via) n = 1 + n
served_by _ n = n

size_by : Rec → ℕ → ℕ
size_by (rec.Served place d r code size via) n = size + n
size_by _ n = n

pub named-resets : (c : ℕ) (rs : List Rec) → Each (IsNoteOf c) rs → list_any is_reset_record (named_records rs) ≡ list_any is_reset_record rs
named-resets = named-same (list_any is_reset_record) (λ r b. is_reset_record r || b) (λ r rs. refl) (λ n path b. refl)

served-more : (r : Rec) (rs : List Rec) → served_in (r ∷ rs) ≡ served_by r (served_in rs)
unfolding served_by
served-more (rec.Served place d k code size via) rs = refl
served-more _ rs = refl

size-more : (r : Rec) (rs : List Rec) → bytes_served_in (r ∷ rs) ≡ size_by r (bytes_served_in rs)
unfolding size_by
size-more (rec.Served place d k code size via) rs = refl
size-more _ rs = refl

pub named-served : (c : ℕ) (rs : List Rec) → Each (IsNoteOf c) rs → served_in (named_records rs) ≡ served_in rs
unfolding served_by
named-served = named-same served_in served_by served-more (λ n path a. refl)

pub named-size : (c : ℕ) (rs : List Rec) → Each (IsNoteOf c) rs → bytes_served_in (named_records rs) ≡ bytes_served_in rs
unfolding size_by
named-size = named-same bytes_served_in size_by size-more (λ n path a. refl)

-- ---- what a turn adds, by what it counted

-- of a place that serves
pub served-tale : (k l : Talk) (n : ℕ) (t u : Tale) (notes : List Rec) → TaleAgreesWithTalk k n t → l.w ≡ k.w → l.out.first ≡ k.out.first → take n l.out.bytes ≡ take n k.out.bytes
    → (k.out.ended ≡ true → l.out.ended ≡ true) → length l.vs ≡ length k.vs + served_in notes → length l.out.bytes ≡ length k.out.bytes + bytes_served_in notes → l.was_reset ≡ (k.was_reset || list_any is_reset_record notes) → Adds t [] [] (served_in notes) (bytes_served_in notes) (list_any is_reset_record notes) u → TaleAgreesWithTalk l n u
served-tale k l n t u notes h w first same ended served size reset adds = record {
  numbers = adds.numbers ∙ h.numbers ∙ (λ i. Some (record { isn = (sym w i).first; iss = sym first i }));
  wrote = adds.wrote ∙ append-nil t.wrote ∙ h.wrote ∙ ap (λ (s : Stream). s.bytes) (sym w);
  accepted_is = adds.accepted ∙ append-nil t.accepted ∙ h.accepted_is ∙ sym same;
  served = adds.served ∙ ap (λ m. m + served_in notes) h.served ∙ sym served;
  served_bytes = adds.served_bytes ∙ ap (λ m. m + bytes_served_in notes) h.served_bytes ∙ sym size;
  was_reset = adds.was_reset ∙ ap (λ b. b || list_any is_reset_record notes) h.was_reset ∙ sym reset;
  fin = λ e. ended (h.fin (sym adds.fin_sent ∙ e));
}
