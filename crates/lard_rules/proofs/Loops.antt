-- One induction for each loop of a place: what each of its turns keeps, the loop keeps.
use Rattle.std.proofs.Common.{◌≡◌, ℕ, zero, suc, List, [], ◌∷◌, false, cond, Option, Some, None, refl}
use Rattle.std.proofs.lemmas.Bool.{cond_both}
use Rattle.lard_base.specs.declared.place.Place.{Place}
use Rattle.lard_client.specs.Control.{ClientBlock}
use Rattle.lard_client.specs.Leaving as client
use Rattle.lard_endpoint.specs.Control.{ControlBlock}
use Rattle.lard_endpoint.specs.Leaving as endpoint
use Rattle.lard_rules.specs.Speaking.{client_emits, client_speaks, emits, emits_symbols, has_symbol, speaks, speaks_symbols, to_client, to_front}
use Rattle.lard_segment.specs.declared.segment.Ready.{Ready}

-- ---- speaking

-- Q relates an endpoint, what it says, and the endpoint after that
pub record KeptBySpeaking (c : ℕ) (Q : ControlBlock → List (Place × List ℕ) → ControlBlock → Type 0) : Type 0 where
  pub rests : (b : ControlBlock) → Q b [] b
  pub says : (b : ControlBlock) (r : Ready) (ss : List (Place × List ℕ)) (d : ControlBlock) → endpoint.emitted b ≡ Some r → Q (endpoint.after_emit b) ss d
      → Q b (to_client c (endpoint.after_emit b) r ∷ ss) d

module _ (c : ℕ) (Q : ControlBlock → List (Place × List ℕ) → ControlBlock → Type 0) (kept : KeptBySpeaking c Q) where
  abbrev Said : ControlBlock → List (Place × List ℕ) × ControlBlock → Type 0
  Said b given = Q b given.0 given.1

  emits-keep : (n : ℕ) (b : ControlBlock) → Said b (emits c n b)
  unfolding emits
  emits-keep zero b = kept.rests b
  emits-keep (suc n) b = go (endpoint.emitted b) refl (emits-keep n (endpoint.after_emit b)) where
    go : (o : Option Ready) → endpoint.emitted b ≡ o → Said (endpoint.after_emit b) (emits c n (endpoint.after_emit b))
        → Said b (elim o [
          | None ↦ ([], b)
          | Some r ↦ (to_client c (endpoint.after_emit b) r ∷ (emits c n (endpoint.after_emit b)).0, (emits c n (endpoint.after_emit b)).1)
        ])
    go None e later = kept.rests b
    go (Some r) e later = kept.says b r (emits c n (endpoint.after_emit b)).0 (emits c n (endpoint.after_emit b)).1 e later

  pub speaks_keep : (b : ControlBlock) → Said b (speaks c b)
  speaks_keep b = emits-keep (endpoint.emits_left b) b

  -- and as long as each segment sends a symbol, where a plain ACK may be held back
  symbols-keep : ((b : ControlBlock) (r : Ready) → endpoint.emitted b ≡ Some r → has_symbol r ≡ false → Q b [] (endpoint.after_emit b))
      → (n : ℕ) (b : ControlBlock) → Said b (emits_symbols c n b)
  unfolding emits_symbols
  symbols-keep held zero b = kept.rests b
  symbols-keep held (suc n) b = go (endpoint.emitted b) refl (symbols-keep held n (endpoint.after_emit b)) where
    go : (o : Option Ready) → endpoint.emitted b ≡ o → Said (endpoint.after_emit b) (emits_symbols c n (endpoint.after_emit b))
        → Said b (elim o [
          | None ↦ ([], b)
          | Some r ↦ cond (has_symbol r)
              (to_client c (endpoint.after_emit b) r ∷ (emits_symbols c n (endpoint.after_emit b)).0, (emits_symbols c n (endpoint.after_emit b)).1)
              ([], endpoint.after_emit b)
        ])
    go None e later = kept.rests b
    go (Some r) e later = cond_both (has_symbol r) _ ([], endpoint.after_emit b) (Said b)
        (λ t. kept.says b r (emits_symbols c n (endpoint.after_emit b)).0 (emits_symbols c n (endpoint.after_emit b)).1 e later)
        (λ f. held b r e f)

  pub symbols_keep : ((b : ControlBlock) (r : Ready) → endpoint.emitted b ≡ Some r → has_symbol r ≡ false → Q b [] (endpoint.after_emit b)) → (b : ControlBlock) → Said b (speaks_symbols c b)
  symbols_keep held b = symbols-keep held (endpoint.emits_left b) b

-- a client's segments the same
pub record KeptByTelling (Q : ClientBlock → List (Place × List ℕ) → ClientBlock → Type 0) : Type 0 where
  pub rests : (x : ClientBlock) → Q x [] x
  pub says : (x : ClientBlock) (r : Ready) (ss : List (Place × List ℕ)) (y : ClientBlock) → client.client_emitted x ≡ Some r → Q (client.client_after_emit x) ss y
      → Q x (to_front (client.client_after_emit x) r ∷ ss) y

module _ (Q : ClientBlock → List (Place × List ℕ) → ClientBlock → Type 0) (kept : KeptByTelling Q) where
  abbrev Told : ClientBlock → List (Place × List ℕ) × ClientBlock → Type 0
  Told x given = Q x given.0 given.1

  client-keeps : (n : ℕ) (x : ClientBlock) → Told x (client_emits n x)
  unfolding client_emits
  client-keeps zero x = kept.rests x
  client-keeps (suc n) x = go (client.client_emitted x) refl (client-keeps n (client.client_after_emit x)) where
    go : (o : Option Ready) → client.client_emitted x ≡ o → Told (client.client_after_emit x) (client_emits n (client.client_after_emit x))
        → Told x (elim o [
          | None ↦ ([], x)
          | Some r ↦ (to_front (client.client_after_emit x) r ∷ (client_emits n (client.client_after_emit x)).0, (client_emits n (client.client_after_emit x)).1)
        ])
    go None e later = kept.rests x
    go (Some r) e later = kept.says x r (client_emits n (client.client_after_emit x)).0 (client_emits n (client.client_after_emit x)).1 e later

  pub client_keeps : (x : ClientBlock) → Told x (client_speaks x)
  client_keeps x = client-keeps (client.unsaid x) x
