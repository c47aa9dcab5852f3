-- What stays of a client in a turn of a settle's rounds: its number, its window, and what it holds where it does not hold.
use Rattle.std.proofs.Common.{◌≡◌, ◌&&◌, Bool, true, false, cond, Result, Ok, Err, inl, inr, refl, sym, ap, ◌∙◌, arith}
use Rattle.std.proofs.lemmas.Bool.{cond-false, true≢false}
use Rattle.lard_law_view.specs.Prelude.{ClientBlock, Phase, Said, SegFault, after_next, after_resend, client_after_emit, client_after_timer, client_arrived, client_gets, client_speaks, client_timer, client_told, established, fresh_len, is_holding, is_open_in, reset_by_peer}
use Rattle.lard_law_progress.proofs.Clients.{OnPhase, heard-turned, timer-turned}
use Rattle.lard_rules.proofs.Hearing as hearing
use Rattle.lard_rules.proofs.Hearing.{acked, client-emit-keeps, client-timer-keeps}
use Rattle.lard_rules.proofs.Loops.{client_keeps}

-- its number and its window, and what it holds where it does not hold
pub record Keeps (x y : ClientBlock) : Type 0 where
  pub c : y.c ≡ x.c
  pub wnd : y.wnd ≡ x.wnd
  pub mss : y.mss ≡ x.mss
  pub holding : y.holding ≡ x.holding
  pub held : x.holding ≡ false → y.held ≡ x.held

-- these five are as they were
keeps-as : (x y : ClientBlock) → y.c ≡ x.c → y.wnd ≡ x.wnd → y.mss ≡ x.mss → y.holding ≡ x.holding → y.held ≡ x.held → Keeps x y
keeps-as x y c wnd mss holding held = record { c = c; wnd = wnd; mss = mss; holding = holding; held = λ e. held }

keeps-self : (x : ClientBlock) → Keeps x x
keeps-self x = keeps-as x x refl refl refl refl refl

module _ (x : ClientBlock) where
  pub arrived-keeps : (s : Said) → Keeps x (client_arrived x s).1
  arrived-keeps s = hearing.arrived-keeps x s (λ r. Keeps x r.1) (record {
    refuses = λ is. keeps-self x;
    ignores = λ is. keeps-self x;
    learns = λ is answers plain. keeps-as x (established x s) refl refl refl refl refl;
    takes = λ is. record {
      rests = λ owed. keeps-as x (record x { owed = owed }) refl refl refl refl refl;
      resets = λ t. keeps-as x (reset_by_peer x) refl refl refl refl refl;
      acks = λ owed counts. keeps-as x (acked x s owed) refl refl refl refl refl;
      accepts = λ counts fresh going. record {
        c = refl;
        wnd = refl;
        mss = refl;
        holding = refl;
        held = λ e. let none : cond x.holding (fresh_len (acked x s true) s) 0 ≡ 0 = cond-false x.holding (fresh_len (acked x s true) s) 0 e in omega (arith, none);
      };
    };
  })

  pub emit-keeps : Keeps x (client_after_emit x)
  emit-keeps = client-emit-keeps (Keeps x) x (keeps-self x) (keeps-as x (client_told x) refl refl refl refl refl) (keeps-as x (client_told (record x { send = after_next x.send })) refl refl refl refl refl)

  pub timer-keeps : Keeps x (client_after_timer x)
  timer-keeps = client-timer-keeps (Keeps x) x (keeps-self x) (keeps-as x (client_told (record x { send = after_resend x.send })) refl refl refl refl refl)

keeps-then : (x y z : ClientBlock) → Keeps x y → Keeps y z → Keeps x z
keeps-then x y z h k = record { c = k.c ∙ h.c; wnd = k.wnd ∙ h.wnd; mss = k.mss ∙ h.mss; holding = k.holding ∙ h.holding; held = λ e. k.held (h.holding ∙ e) ∙ h.held e }

pub speaks-keeps : (x : ClientBlock) → Keeps x (client_speaks x).1
speaks-keeps x = client_keeps (λ (y : ClientBlock) ss z. Keeps y z) (record { rests = keeps-self; says = λ y r ss z e later. keeps-then y (client_after_emit y) z (emit-keeps y) later }) x

-- ---- turns

pub gets-keeps : (x : ClientBlock) (given : Result Said SegFault) → Keeps x (client_gets x given).0
gets-keeps x (Err fault) = keeps-self x
gets-keeps x (Ok s) = keeps-then x (client_arrived x s).1 (client_speaks (client_arrived x s).1).1 (arrived-keeps x s) (speaks-keeps (client_arrived x s).1)

pub fires-keeps : (x : ClientBlock) → Keeps x (client_timer x).0
fires-keeps x = keeps-then x (client_after_timer x) (client_speaks (client_after_timer x)).1 (timer-keeps x) (speaks-keeps (client_after_timer x))

-- it goes on as it was, or is reset
pub gets-phase : (x : ClientBlock) (given : Result Said SegFault) → OnPhase x.phase (client_gets x given).0.phase
gets-phase x (Err fault) = inl refl
gets-phase x (Ok s) = (heard-turned x s).takes.phase

pub fires-phase : (x : ClientBlock) → OnPhase x.phase (client_timer x).0.phase
fires-phase x = (timer-turned x).takes.phase

-- one that holds then held before
held-then : (p q : Phase) (a b : Bool) → OnPhase p q → b ≡ a → is_open_in q && b ≡ true → is_open_in p && a ≡ true
held-then p q a b (inl e) same h = ap (λ (r : Phase). is_open_in r && a) (sym e) ∙ ap (λ (o : Bool). is_open_in q && o) (sym same) ∙ h
held-then p q a b (inr e) same h = let shut : is_open_in q ≡ false = ap is_open_in e.1 in absurd (true≢false (sym h ∙ ap (λ o. o && b) shut))

pub holding-then : (x y : ClientBlock) → OnPhase x.phase y.phase → Keeps x y → is_holding y ≡ true → is_holding x ≡ true
holding-then x y on k h = held-then x.phase y.phase x.holding y.holding on k.holding h
