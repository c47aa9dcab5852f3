-- A node that is closed moves nobody, and no epoch is late for it.
use Rattle.std.proofs.Common.{◌≡◌, ℕ, ◌+◌, ◌≤◌, true, false, List, length, Option, Some, None, refl, sym, subst, arith}
use Rattle.std.proofs.lemmas.Bool.{cond_both}
use Rattle.lard_base.specs.declared.ids.Millis.{Millis}
use Rattle.lard_dispatch.specs.Books.{Dispatcher}
use Rattle.lard_dispatch.specs.Calls.{after_close}
use Rattle.lard_dispatch.proofs.Soundness.{before-close, close-kept}
use Rattle.lard_endpoint.specs.Control.{ControlBlock}
use Rattle.lard_handoff_front.specs.declared.row.FrontConn.{FrontConn}
use Rattle.lard_handoff_front.specs.declared.row.FrontConn.TheVariants as stage
use Rattle.lard_handoff_front.specs.declared.row.FrontRow.{FrontRow}
use Rattle.lard_loads.specs.Tally.{is_open}
use Rattle.lard_resend.specs.declared.kept.Kept.{Kept}
use Rattle.lard_rules.specs.declared.front.FrontRest.{FrontRest}
use Rattle.lard_rules.specs.declared.front.FrontState.{FrontState}
use Rattle.lard_rules.specs.Front.{FrontPart}
use Rattle.lard_rules.specs.FrontPlace.{front_part}
use Rattle.lard_rules.specs.FrontSound.{HasOther, IsAwayAt, IsEarlyAway, IsEarlyHere, IsFrontSound, IsHereWith, IsPartSound, IsRowSound, IsStageSound, DispatchStanding, OpenNodes, dispatch_standing, open_nodes_of, others_open}
use Rattle.lard_rules.proofs.FrontKeeping.{Stays}
use Rattle.lard_rules.proofs.FrontOpen.{close-serve, others-all, others-fall, others-fewer}

-- these nodes, once n is closed
abbrev pub without_node : ℕ → OpenNodes → OpenNodes
without_node n k = record k { left_open = others_open n k.left_open }

module _ (k : OpenNodes) (n : ℕ) where
  here-falls : (e : ℕ) → IsEarlyHere k e → IsEarlyHere (without_node n k) e
  here-falls e h = let less = others-fewer n k.left_open in omega (arith, h, less)

  away-falls : (m e : ℕ) → IsEarlyAway k m e → IsEarlyAway (without_node n k) m e
  away-falls m e h = let less = others-fall m n k.left_open in omega (arith, h, less)

  at-falls : (e : ℕ) (kept : List Kept) (at : DispatchStanding) (m : ℕ) → IsAwayAt k e kept at m → IsAwayAt (without_node n k) e kept at m
  at-falls e kept at m h = record { stands = h.stands; early = away-falls m e h.early; offer = h.offer }

  with-falls : (e : ℕ) (b : ControlBlock) (rest : Option FrontRest) → IsHereWith k e b rest → IsHereWith (without_node n k) e b rest
  with-falls e b None h = h
  with-falls e b (Some rest) h = record { early = here-falls e h.early; serves = h.serves }

  stage-falls : (e : ℕ) (rest : Option FrontRest) (kept : List Kept) (at : DispatchStanding) (x : FrontConn) → IsStageSound k e rest kept at x
      → IsStageSound (without_node n k) e rest kept at x
  stage-falls e rest kept at (stage.Held b) h = (with-falls e b rest h.0, h.1, h.2)
  stage-falls e rest kept at (stage.Waiting b) h = (with-falls e b rest h.0, h.1, h.2, h.3, h.4)
  stage-falls e rest kept at stage.Lent h = h
  stage-falls e rest kept at (stage.Offering m by) h = at-falls e kept at m h
  stage-falls e rest kept at (stage.Moved m by) h = at-falls e kept at m h
  stage-falls e rest kept at (stage.Closed last) h = h

  part-falls : (p : FrontPart) (at : DispatchStanding) → IsPartSound k p at → IsPartSound (without_node n k) p at
  part-falls p at = go p.row where
    go : (o : Option FrontRow) → IsRowSound k p.rest p.kept at o → IsRowSound (without_node n k) p.rest p.kept at o
    go None h = h
    go (Some row) h = stage-falls row.epoch.0 p.rest p.kept at row.stage h

-- what is so of the open nodes behind a closing
closes-so : (d : Dispatcher) (n : ℕ) (P : OpenNodes → Type 0) → (is_open d.books.loads n ≡ true → P (without_node n (open_nodes_of d)))
    → (is_open d.books.loads n ≡ false → P (open_nodes_of d)) → P (open_nodes_of (after_close d n))
closes-so d n P was not = cond_both (is_open d.books.loads n) _ d (λ (x : Dispatcher). P (open_nodes_of x)) was not

-- who comes back from n, which is closed, is as early as it was there, one later
pub back-early : (d : Dispatcher) (n e : ℕ) → IsEarlyAway (open_nodes_of d) n e → IsEarlyHere (open_nodes_of (after_close d n)) (e + 1)
back-early d n e h =
    closes-so d n (λ k. IsEarlyHere k (e + 1)) (λ t. omega (arith, h)) (λ t. let all = others-all n d.books.loads.open_nodes t in omega (arith, h, all))

pub close-stands : (d : Dispatcher) (n c : ℕ) → dispatch_standing (after_close d n) c ≡ dispatch_standing d c
close-stands d n c = cond_both (is_open d.books.loads n) _ d (λ (x : Dispatcher). dispatch_standing x c ≡ dispatch_standing d c) (λ _. refl) (λ _. refl)

pub closes-stay : (now : Millis) (s : FrontState) (n : ℕ) → HasOther s n → IsFrontSound s → Stays now s (record s { dispatch = after_close s.dispatch n })
closes-stay now s n other sound =
    let d : Dispatcher = s.dispatch in
    record {
      sound = record {
        each = λ c. subst (IsPartSound (open_nodes_of (after_close d n)) (front_part s c)) (sym (close-stands d n c))
            (closes-so d n (λ k. IsPartSound k (front_part s c) (dispatch_standing d c)) (λ t. part-falls (open_nodes_of d) n (front_part s c) (dispatch_standing d c) (sound.each c)) (λ t. sound.each c));
        tags = sound.tags;
        some = sound.some;
        books = close-kept d n sound.books other;
        few_open =
            closes-so d n (λ (k : OpenNodes). length k.left_open ≤ k.all) (λ t. let few = sound.few_open in let less = others-fewer n d.books.loads.open_nodes in omega (arith, few, less)) (λ t. sound.few_open);
        served = close-serve d n sound.books sound.served;
      };
      clock = before-close d n now;
    }
