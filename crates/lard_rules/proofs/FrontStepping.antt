-- Each step of the front end leaves its state sound.
use Rattle.std.proofs.Common.{◌≡◌, ℕ, zero, suc, ◌+◌, ◌-◌, nat_eq, true, false, [], length, Some, None, Result, Ok, Err, refl, sym, ap, ◌∙◌, subst, arith}
use Rattle.std.proofs.lemmas.Nat.Bits.{bit_at-zero}
use Rattle.std.specs.Int.{bit_at}
use Rattle.std.specs.List.{range_with_len}
use Rattle.std.specs.FinMap as table
use Rattle.std.specs.FinMap.{get-empty}
use Rattle.std.specs.Ordering.{nat_cmp}
use Rattle.lard_base.specs.declared.config.Config.{Config}
use Rattle.lard_base.specs.Config.{config_check}
use Rattle.lard_dispatch.specs.Books as books
use Rattle.lard_dispatch.proofs.AllCalls.{some-node}
use Rattle.lard_dispatch.proofs.Soundness.{begun-sound}
use Rattle.lard_rules.specs.declared.front.FrontState.{FrontState}
use Rattle.lard_rules.specs.Front.{FrontEnv, ask_of, front_asked, front_gets, front_taken, front_timer}
use Rattle.lard_rules.specs.FrontPlace.{FrontSetting, front_env, front_part, front_step, front_told, message_comes, no_connections}
use Rattle.lard_rules.specs.FrontSound.{HasTag, IsFrontSound, IsRowSound, MayClose, MayCloseBy, MayCloseOn, dispatch_standing, open_nodes_of}
use Rattle.lard_rules.proofs.FrontClosing.{closes-stay}
use Rattle.lard_rules.proofs.FrontDeeds.{IsOf, asked-keeps, gets-keeps, taken-keeps, timer-keeps}
use Rattle.lard_rules.proofs.FrontEnded.{ended-stays}
use Rattle.lard_rules.proofs.FrontKeeping.{Stays, deed-stays, still-stays}
use Rattle.lard_rules.proofs.FrontOpen.{has-open}
use Rattle.lard_rules.proofs.FrontReturning.{returned-stays}
use Rattle.lard_rules.proofs.MessageTold.{IsTold, message-told}
use Rattle.lard_loads.specs.Tally.{home_of}
use Rattle.lard_message.specs.declared.fault.MsgFault.{MsgFault}
use Rattle.lard_message.specs.declared.message.Body.{Body}
use Rattle.lard_message.specs.declared.message.Body.TheVariants as body
use Rattle.lard_message.specs.declared.message.Message.{Message}
use Rattle.lard_message.specs.Message.{IsOfTable}
use Rattle.lard_message.specs.Reading.{decoded_message}
use Rattle.lard_resend.specs.Pending.{list_of}
use Rattle.lard_rules.specs.declared.front.FrontIn.{FrontIn}
use Rattle.lard_rules.specs.declared.front.FrontIn.TheVariants as input
use Rattle.lard_segment.specs.declared.segment.Dir.TheVariants.{ToCluster}
use Rattle.lard_segment.specs.Segment.{decoded}

-- ---- a step

env-of : (k : FrontSetting) (s : FrontState) (c iss : ℕ) → IsOf (front_env k s c iss) s.dispatch
env-of k s c iss = record { first = λ path. refl; later = λ ask. refl }

told-stays : (k : FrontSetting) (s : FrontState) (from c epoch : ℕ) (b : Body) → MayCloseBy s from b → IsOfTable b → IsFrontSound s → Stays k.now s (front_told k s from c epoch b).0
told-stays k s from c epoch body.Taken may table sound = deed-stays s c k.now (front_taken (front_part s c) epoch) sound (taken-keeps s.dispatch c k.now (front_part s c) epoch (sound.tags c) (sound.each c))
told-stays k s from c epoch (body.Ask number queue size paths) may table sound =
    let ask = ask_of c from number queue size paths in
    deed-stays s c k.now (front_asked (front_env k s c 0) (front_part s c) from epoch ask) sound
    (asked-keeps s.dispatch (front_env k s c 0) (env-of k s c 0) (front_part s c) epoch ask refl (record { some = table.1; within = table.2; few = table.0 }) (sound.tags c) (sound.each c))
told-stays k s from c epoch (body.Ended reason snd rcv count) may table sound = ended-stays k s c from epoch (record { reason = reason; snd = record { 0 = snd }; rcv = record { 0 = rcv } }) sound
told-stays k s from c epoch body.Refused may table sound = returned-stays k s from c epoch None may tt sound
told-stays k s from c epoch (body.Give parts) may table sound = returned-stays k s from c epoch (Some parts) may table sound
told-stays k s from c epoch _ may table sound = still-stays s k.now sound

message-stays : (k : FrontSetting) (s : FrontState) (from : ℕ) (r : Result Message MsgFault) → MayCloseOn s from r → IsTold r → IsFrontSound s → Stays k.now s (message_comes k s from r).0
message-stays k s from (Err e) may told sound = still-stays s k.now sound
message-stays k s from (Ok m) may told sound = told-stays k s from m.c m.epoch.0 m.body may told sound

pub step-stays : (k : FrontSetting) (s : FrontState) (in_ : FrontIn) → MayClose s in_ → IsFrontSound s → Stays k.now s (front_step k s in_).0
step-stays k s (input.Segment c iss bytes) may sound =
    let env : FrontEnv = front_env k s c iss.0 in
    deed-stays s c k.now (front_gets env (front_part s c) bytes (decoded bytes c ToCluster)) sound
    (gets-keeps s.dispatch env (env-of k s c iss.0) (front_part s c) (sound.tags c) sound.few_open (has-open s.dispatch sound.books sound.served) bytes (decoded bytes c ToCluster) (sound.each c))
step-stays k s (input.Message from bytes) may sound = message-stays k s from (decoded_message bytes) may (message-told bytes) sound
step-stays k s (input.Drain n) may sound = closes-stay k.now s n may sound
step-stays k s (input.Timer c) may sound =
    let env : FrontEnv = front_env k s c 0 in
    deed-stays s c k.now (front_timer env (front_part s c)) sound (timer-keeps s.dispatch env (env-of k s c 0) (front_part s c) (sound.tags c) (sound.each c))

-- ---- before anything

all-numbered : (from count : ℕ) → length (range_with_len from count) ≡ count
all-numbered from zero = refl
all-numbered from (suc count) = let more = all-numbered (from + 1) count in omega (arith, more)

none-serves : (i : ℕ) → nat_eq (bit_at 0 i) 1 ≡ true → ⊥
none-serves i h = let no : false ≡ true = sym (ap (λ b. nat_eq b 1) (bit_at-zero i)) ∙ h in absurd cc

pub start-sound : (cfg : Config) → config_check cfg ≡ Ok tt → IsFrontSound (no_connections cfg)
start-sound cfg usable = record {
  each = λ c. subst (IsRowSound (open_nodes_of (books.dispatch_begun cfg)) (table.get (no_connections cfg).rests c) (front_part (no_connections cfg) c).kept (dispatch_standing (books.dispatch_begun cfg) c)) (sym (get-empty nat_cmp c))
      (ap list_of (get-empty nat_cmp c), λ i. record { home = ap home_of (get-empty nat_cmp c) i; waits = false });
  tags = λ c. subst HasTag (sym (get-empty nat_cmp c)) tt;
  some = λ c h. let no : None ≡ Some [] = sym (get-empty nat_cmp c) ∙ h in absurd cc;
  books = begun-sound cfg usable (some-node cfg usable);
  few_open = let all = all-numbered 1 cfg.nodes in omega (arith, all);
  served = λ target n some h. absurd (none-serves (n - 1) h);
}

pub begins_sound : (cfg : Config) (s : FrontState) → config_check cfg ≡ Ok tt → s ≡ no_connections cfg → IsFrontSound s
begins_sound cfg s usable e = subst IsFrontSound (sym e) (start-sound cfg usable)
