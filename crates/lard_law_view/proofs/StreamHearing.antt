-- A receiving half takes the next bytes of a true segment, and keeps what is unread of all that it took.
use Rattle.std.proofs.Common.{◌≡◌, ◌≤◌, ◌<◌, ◌+◌, ◌^◌, ℕ, Bool, true, false, cond, List, [], ◌++◌, length, take, arith, ap, ◌∙◌, sym, subst, refl, length-append, length-drop}
use Rattle.std.proofs.lemmas.Bool.{cond_both}
use Rattle.std.proofs.Math.Seq.{take-add}
use Rattle.std.proofs.lemmas.List.{length-take-le}
use Rattle.std.proofs.lemmas.Grind.{common_steps}
use Rattle.lard_law_view.specs.Prelude.{Hears, IsPartAt, IsStream, IsTrueData, IsUnusedPart, Received, Said, Stands, Stream, arrived, awaited, begins_after, bytes_taken, consumed, discarded, ends, fresh_bytes, gained, restored, seq_add}
use Rattle.lard_endpoint.proofs.Fresh.{gained-part}
use Rattle.lard_endpoint.proofs.Sound.{arrived-sound}
use Rattle.lard_recv.proofs.Unused.{unused-arrived, unused-consumed}

-- ---- a segment arrives

-- what a segment says is true data of the peer
stands-data : (x : Stream) (r : Received) (s : Said) (t : Stands x s) → IsStream x → r.irs ≡ x.first → IsTrueData r x.bytes t.place s.seq s.payload
stands-data x r s t is e = record {
  first = subst (λ n. n < 2 ^ 32) (sym e) is.number;
  most = is.most;
  number = t.number ∙ ap (λ n. seq_add n (1 + t.place)) (sym e);
  part = t.part;
}

-- the first n bytes with the part behind them are the first bytes, so many more
front-more : (n : ℕ) (part all : List ℕ) → IsPartAt n part all → take n all ++ part ≡ take (n + length part) all
front-more n part all p = ap (λ more. take n all ++ more) (sym p.same) ∙ sym (take-add n (length part) all)

-- the FIN is taken only once all bytes are
fin-last : (r : Received) (all : List ℕ) (k seq : ℕ) (data_ : List ℕ) (fin : Bool) → r.got ≤ length all → IsTrueData r all k seq data_
    → (fin ≡ true → k + length data_ ≡ length all) → r.fin ≡ false → (arrived r seq data_ fin).fin ≡ true → (fin ≡ true) × ((arrived r seq data_ fin).got ≡ length all)
fin-last r all k seq data_ fin got t last open_ = grind (arith, common_steps)

-- neither the first number nor, once the FIN came, anything else moves
arrived-first : (r : Received) (seq : ℕ) (data_ : List ℕ) (fin : Bool) → (arrived r seq data_ fin).irs ≡ r.irs
arrived-first r seq data_ fin =
    let P : Received → Type 0 = λ z. z.irs ≡ r.irs in
    let more : Received = bytes_taken r (fresh_bytes r seq data_) (ends r seq data_ fin) in
    cond_both (begins_after seq (awaited r)) r (cond r.fin r more) P (λ b. refl) (λ b. cond_both r.fin r more P (λ f. refl) (λ f. refl))

arrived-after_fin : (r : Received) (seq : ℕ) (data_ : List ℕ) (fin : Bool) → r.fin ≡ true → arrived r seq data_ fin ≡ r
arrived-after_fin r seq data_ fin e =
    let P : Received → Type 0 = λ z. z ≡ r in
    let more : Received = bytes_taken r (fresh_bytes r seq data_) (ends r seq data_ fin) in
    cond_both (begins_after seq (awaited r)) r (cond r.fin r more) P (λ b. refl) (λ b. cond_both r.fin r more P (λ f. refl) (λ f. absurd (cc)))

pub heard-arrived : (x : Stream) (r : Received) (s : Said) → IsStream x → Hears x r → Stands x s → Hears x (arrived r s.seq s.payload s.flags.fin)
heard-arrived x r s is h t =
    let more = gained r s.seq s.payload in
    let z = arrived r s.seq s.payload s.flags.fin in
    let true_data = stands-data x r s t is h.first in
    let part = gained-part r x.bytes t.place s.seq s.payload h.within true_data in
    let unused = unused-arrived r (take r.got x.bytes) s.seq s.payload s.flags.fin h.part in
    let counted : z.got ≡ r.got + length more = sym unused.count ∙ length-append (take r.got x.bytes) more ∙ ap (λ n. n + length more) (length-take-le r.got x.bytes h.within) in
    record {
      first = arrived-first r s.seq s.payload s.flags.fin ∙ h.first;
      sound = arrived-sound r s.seq s.payload s.flags.fin h.sound;
      within = let le = part.within in omega arith;
      part = subst (λ (all : List ℕ). IsUnusedPart z all) (front-more r.got more x.bytes part ∙ ap (λ n. take n x.bytes) (sym counted)) unused;
      final = last r.fin refl;
    }
  where
    last : (b : Bool) → r.fin ≡ b → (arrived r s.seq s.payload s.flags.fin).fin ≡ true → ((arrived r s.seq s.payload s.flags.fin).got ≡ length x.bytes) × (x.ended ≡ true)
    last true b e = let done = h.final b in (ap (λ z. z.got) (arrived-after_fin r s.seq s.payload s.flags.fin b) ∙ done.0, done.1)
    last false b e =
        let done = fin-last r x.bytes t.place s.seq s.payload s.flags.fin h.within (stands-data x r s t is h.first) (λ f. (t.final f).0) b e in
        (done.1, (t.final done.0).1)

-- ---- the beginning, and what its owner does
pub heard-begun : (x : Stream) (irs : ℕ) → irs ≡ x.first → Hears x (restored irs 0 false [])
heard-begun x irs e = record {
  first = e;
  sound = record { received = omega arith; buffered = omega arith; within = omega arith; dropped = λ d. omega arith };
  within = omega arith;
  part = record { count = refl; part = λ d. refl };
  final = λ f. absurd (cc);
}

pub heard-consumed : (x : Stream) (r : Received) (n : ℕ) → Hears x r → Hears x (consumed r n)
heard-consumed x r n h =
    let sound = h.sound in
    let size = length-drop n r.unread in
    record {
      first = h.first;
      sound = record {
        received = sound.received;
        buffered = let le = sound.buffered in omega arith;
        within = let le = sound.within in omega arith;
        dropped = λ d. let none = sound.dropped d in omega arith;
      };
      within = h.within;
      part = unused-consumed r (take r.got x.bytes) n h.part;
      final = h.final;
    }

pub heard-discarded : (x : Stream) (r : Received) → Hears x r → Hears x (discarded r)
heard-discarded x r h = record {
  first = h.first;
  sound = record { received = h.sound.received; buffered = omega arith; within = omega arith; dropped = λ d. omega arith };
  within = h.within;
  part = record { count = h.part.count; part = λ d. absurd (cc) };
  final = h.final;
}
