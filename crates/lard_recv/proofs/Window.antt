-- What an arrival leaves as it was, and where the window ends.
use Rattle.std.proofs.Common.{◌≡◌, ◌≤◌, ◌+◌, ℕ, Bool, false, List, ◌++◌, length, drop, arith, ap, refl, length-append, length-drop}
use Rattle.std.proofs.lemmas.Bool.{cond_both}
use Rattle.std.proofs.lemmas.List.{length-take}
use Rattle.lard_recv.specs.Recv.{Received, awaited, receive_room, begins_after, fresh_bytes, ends, bytes_taken, arrived, consumed, discarded, window_end}
use Rattle.lard_seq.specs.Seq.{one_if, seq_offset}

-- a segment does not move the first number
pub arrived-irs : (r : Received) (seq : ℕ) (data_ : List ℕ) (fin : Bool) → (arrived r seq data_ fin).irs ≡ r.irs
arrived-irs r seq data_ fin = cond_both (begins_after seq (awaited r)) r _ (λ t. t.irs ≡ r.irs) (λ b. refl)
    (λ b. cond_both r.fin r (bytes_taken r (fresh_bytes r seq data_) (ends r seq data_ fin)) (λ t. t.irs ≡ r.irs) (λ f. refl) (λ f. refl))

-- of what a segment brings no more is taken than there is room for
pub fresh-fits : (r : Received) (seq : ℕ) (data_ : List ℕ) → length (fresh_bytes r seq data_) ≤ receive_room r
fresh-fits r seq data_ = omega (arith, length-take (receive_room r) (drop (seq_offset (awaited r) seq) data_))

-- bytes that are taken fill the window, or leave it behind them
end-taken : (r : Received) (bytes : List ℕ) (fin : Bool) → r.fin ≡ false → length bytes ≤ receive_room r → window_end r ≤ window_end (bytes_taken r bytes fin)
end-taken r bytes fin open_ le =
    let none : one_if r.fin ≡ 0 = ap one_if open_ in
    let size = length-append r.unread bytes in
    cond_both r.discarding r.unread (r.unread ++ bytes) (λ u. window_end r ≤ window_end (record r { got = r.got + length bytes; fin = fin; unread = u }))
    (λ d. omega arith) (λ d. omega arith)

pub end-arrived : (r : Received) (seq : ℕ) (data_ : List ℕ) (fin : Bool) → window_end r ≤ window_end (arrived r seq data_ fin)
end-arrived r seq data_ fin =
    let P : Received → Type 0 = λ t. window_end r ≤ window_end t in
    cond_both (begins_after seq (awaited r)) r _ P (λ b. omega arith)
    (λ b. cond_both r.fin r (bytes_taken r (fresh_bytes r seq data_) (ends r seq data_ fin)) P (λ f. omega arith)
    (λ f. end-taken r (fresh_bytes r seq data_) (ends r seq data_ fin) f (fresh-fits r seq data_)))

-- what is read makes room
pub end-read : (r : Received) (n : ℕ) → (window_end r ≤ window_end (consumed r n)) × (window_end r ≤ window_end (discarded r))
end-read r n = let size = length-drop n r.unread in (omega arith, omega arith)
