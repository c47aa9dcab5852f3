-- A batch uses a byte at least for each of its verdicts, and no more bytes than there are.
use Rattle.std.proofs.Common.{◌≡◌, ℕ, zero, suc, ◌+◌, ◌≤◌, Bool, true, false, List, length, drop, take, refl, ap, subst, arith}
use Rattle.std.proofs.lemmas.List.{length-drop}
use Rattle.lard_block.specs.declared.block.Found.{Found}
use Rattle.lard_block.specs.declared.block.Found.TheVariants.{Block, More, TooLong}
use Rattle.lard_block.specs.Blocks.{cut_of, IsWithin}
use Rattle.lard_block.proofs.Cutting.{cut-within}
use Rattle.lard_request.specs.Verdict.{closes, verdict}
use Rattle.lard_reader.specs.Batches.{batch_of, bytes_used}
use Rattle.lard_reader.proofs.Going.{used-zero, used-suc, used-closed, used-open, batch-closed, batch-open, batch-more, batch-long}

abbrev IsUsed : ℕ → List ℕ → Type 0
IsUsed n q = (length (batch_of n q) ≤ bytes_used n q) × (bytes_used n q ≤ length q)

pub batch-used : (n : ℕ) (q : List ℕ) → IsUsed n q
batch-used zero q = (omega arith, omega (arith, used-zero q))
batch-used (suc n) q = go (λ r. batch-used n r) (cut_of q) refl (cut-within q) where
  block : (s l : ℕ) → ((r : List ℕ) → IsUsed n r) → cut_of q ≡ Block s l → IsWithin (Block s l) (length q) → (b : Bool) → closes (verdict (take l (drop s q))) ≡ b → IsUsed (suc n) q
  block s l ih e w true c = let u = used-closed n q s l e c in let v = ap length (batch-closed n q s l e c) in (omega (arith, u, v, w.0), omega (arith, u, w.2))
  block s l ih e w false c =
      let r : List ℕ = drop (s + l) q in
      let i : IsUsed n r = ih r in
      let u = used-open n q s l e c in
      let v = ap length (batch-open n q s l e c) in
      (omega (arith, u, v, w.0, i.0), omega (arith, u, w.2, i.1, length-drop (s + l) q))

  go : ((r : List ℕ) → IsUsed n r) → (f : Found) → cut_of q ≡ f → IsWithin (cut_of q) (length q) → IsUsed (suc n) q
  go ih (Block s l) e w = block s l ih e (subst (λ f. IsWithin f (length q)) e w) (closes (verdict (take l (drop s q)))) refl
  go ih (More s) e w =
      let k : IsWithin (More s) (length q) = subst (λ f. IsWithin f (length q)) e w in
      let u = used-suc n q (More s) e in
      (omega (arith, ap length (batch-more (suc n) q s e)), omega (arith, u, k.0))
  go ih (TooLong s) e w =
      let k : IsWithin (TooLong s) (length q) = subst (λ f. IsWithin f (length q)) e w in
      let u = used-suc n q (TooLong s) e in
      (omega (arith, u, ap length (batch-long n q s e), k), omega (arith, u))
