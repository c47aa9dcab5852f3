-- A client that hears a true segment accepts the next bytes of the cluster's stream, and notes just these.
use Rattle.std.proofs.Common.{◌≡◌, ◌≤◌, ◌<◌, ◌^◌, ℕ, nat_lt, List, [], ◌∷◌, ◌++◌, length, take, drop, Ok, arith, refl, sym, ap, ◌∙◌, subst, append-nil, length-take, length-drop, take-add}
use Rattle.std.proofs.lemmas.Bool.{cond_both, ltb-false}
use Rattle.lard_law_view.specs.Prelude.{AreClientNotes, ClientAgrees, ClientBlock, ClientTurned, Heard, IsTrueOf, Rec, Said, Stream, accepted_in, accepted_note, client_arrived, client_gets, eof_note, station_ready_of, stream_of, written_in}
use Rattle.lard_client.proofs.Accepted.{arrived-order}
use Rattle.lard_journal.specs.declared.rec.Rec.TheVariants as rec
use Rattle.lard_law_view.proofs.Accepting.{arrived-takes}
use Rattle.lard_law_view.proofs.Client.{arriving-continues, reply-fair}
use Rattle.lard_law_view.proofs.ClientAlike.{arrived-alike}
use Rattle.lard_law_view.proofs.ClientSpeaking.{ready-words, turned-speaking}
use Rattle.lard_law_view.proofs.ClientAgreement.{turned}

-- ---- its notes

-- they are of its connection, and say that this part was accepted
record Notes (c : ℕ) (part : List ℕ) (notes : List Rec) : Type 0 where
  wrote : written_in notes ≡ []
  accepted : accepted_in notes ≡ part
  are : AreClientNotes c notes

none-noted : (c d : ℕ) (h : Heard) → d ≡ c → Notes c [] (eof_note d h)
none-noted c d h n =
    cond_both h.eof (rec.Eof d ∷ []) [] (Notes c [])
    (λ t. record { wrote = refl; accepted = refl; are = (n, tt) }) (λ t. record { wrote = refl; accepted = refl; are = tt })

heard-noted : (c d : ℕ) (h : Heard) (payload : List ℕ) → d ≡ c → Notes c (take h.len (drop h.from payload)) (accepted_note d h payload ++ eof_note d h)
heard-noted c d h payload n =
    let part = take h.len (drop h.from payload) in
    let rest = none-noted c d h n in
    cond_both (nat_lt 0 h.len) (rec.Accepted d part ∷ []) [] (λ (notes : List Rec). Notes c part (notes ++ eof_note d h))
    (λ t. record { wrote = rest.wrote; accepted = ap (λ (l : List ℕ). part ++ l) rest.accepted ∙ append-nil part; are = (n, rest.are) })
    (λ t.
    let none : h.len ≡ 0 = omega (arith, ltb-false 0 h.len t) in
    subst (λ (l : List ℕ). Notes c l (eof_note d h)) (ap (λ k. take k (drop h.from payload)) (sym none)) rest)

-- ---- its turn
module _ (c : ℕ) (w out : Stream) (x : ClientBlock) (s : Said) (most : length out.bytes ≤ 2 ^ 30) (number : out.first < 2 ^ 32) (seq_fits : s.seq < 2 ^ 32) (ack_fits : s.ack < 2 ^ 32) (h : ClientAgrees c w out x) (t : IsTrueOf out s) where
  -- what it accepted stands behind what it had accepted before
  taken-next : take (client_arrived x s).1.accepted out.bytes ≡ take x.accepted out.bytes ++ take (client_arrived x s).0.len (drop (client_arrived x s).0.from s.payload)
  taken-next =
      let heard = (client_arrived x s).0 in
      let takes = arrived-takes out x s (record { number = number; most = most }) seq_fits h.accepts t in
      let within = (arrived-order x s seq_fits).within in
      let size : length (take heard.len (drop heard.from s.payload)) ≡ heard.len =
      omega (arith, length-take heard.len (drop heard.from s.payload), length-drop heard.from s.payload) in
      ap (λ n. take n out.bytes) takes.2 ∙ take-add x.accepted heard.len out.bytes
      ∙ ap (λ (l : List ℕ). take x.accepted out.bytes ++ l) (ap (λ n. take n (drop x.accepted out.bytes)) (sym size) ∙ takes.1.same)

  pub hears-turned : ClientTurned c w out x (client_gets x (Ok s))
  hears-turned =
      let heard = (client_arrived x s).0 in
      let y = (client_arrived x s).1 in
      let v = stream_of y.send w.bytes in
      let takes = arrived-takes out x s (record { number = number; most = most }) seq_fits h.accepts t in
      let like = arrived-alike x s in
      let numbered : y.c ≡ c = like.0 ∙ h.numbered in
      let noted = heard-noted c y.c heard s.payload numbered in
      let notes = accepted_note y.c heard s.payload ++ eof_note y.c heard in
      turned-speaking c w out x y notes (station_ready_of y heard.reply)
      (turned c w out x most h y notes (station_ready_of y heard.reply) w.bytes like (arriving-continues x w.bytes s h.speaks) takes.0
      (sym (append-nil w.bytes) ∙ ap (λ (l : List ℕ). w.bytes ++ l) (sym noted.wrote))
      (taken-next ∙ ap (λ (l : List ℕ). take x.accepted out.bytes ++ l) (sym noted.accepted))
      noted.are
      (ready-words c v y heard.reply numbered (λ r e. reply-fair v x s r ack_fits e)))
