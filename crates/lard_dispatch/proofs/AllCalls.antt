-- What holds between two calls holds after any number of them.
use Rattle.std.proofs.Common.{◌≡◌, ◌≤◌, List, [], ◌∷◌, nat_le, Bool, true, false, ◌&&◌, cond, Result, Ok, Err, refl, ap, subst, ◌∙◌}
use Rattle.lard_base.specs.Config.{checked_from, config_check, room_of}
use Rattle.lard_base.specs.declared.config.ConfigFault.{ConfigFault}
use Rattle.lard_base.specs.declared.config.ConfigFault.TheVariants.{Range}
use Rattle.lard_base.specs.declared.config.Key.TheVariants.{Nodes, Low, High, Age, Idle, Over, Miss, Cache, Stream}
use Rattle.lard_base.specs.declared.config.Config.{Config}
use Rattle.lard_loads.specs.Tally.{admitted, is_open}
use Rattle.std.proofs.lemmas.Bool.{cond_both, leb-true}
use Rattle.lard_dispatch.specs.Books.{Dispatcher, dispatch_begun}
use Rattle.lard_dispatch.specs.Calls.{is_full}
use Rattle.lard_dispatch.specs.Laws.{Call, IsAllowed, AreAllowed, after_call, after_calls, AdmitsWithinTheRoom, WaitsForRoomAlone}
use Rattle.lard_dispatch.specs.Laws.Call.{First, Later, Ended, Leave, Close}
use Rattle.lard_dispatch.specs.Sound.{IsDispatcherSound}
use Rattle.lard_dispatch.proofs.Soundness.{begun-sound, close-kept, ended-kept, first-kept, is-in, later-kept, leave-kept, not-in}

-- a usable configuration has a node
pub some-node : (cfg : Config) → config_check cfg ≡ Ok tt → 1 ≤ cfg.nodes
some-node cfg h = go (nat_le 1 cfg.nodes) (nat_le cfg.nodes 64) (checked_from cfg (Low ∷ High ∷ Age ∷ Idle ∷ Over ∷ Miss ∷ Cache ∷ Stream ∷ [])) refl h where
  go : (a b : Bool) (rest : Result (Unit {0}) ConfigFault) → nat_le 1 cfg.nodes ≡ a → cond {A = Result (Unit {0}) ConfigFault} (a && b) rest (Err (Range Nodes cfg.nodes)) ≡ Ok tt → 1 ≤ cfg.nodes
  go true b rest e t = leb-true 1 cfg.nodes e
  go false b rest e t = cc

pub call-kept : (d : Dispatcher) (call : Call) → IsDispatcherSound d → IsAllowed d call → IsDispatcherSound (after_call d call)
call-kept d (First c target now) s a = first-kept d c target now s (not-in d.books.loads c a.0) a.1
call-kept d (Later ask now) s a = later-kept d ask now s a
call-kept d (Ended c now) s a = ended-kept d c now s (is-in d.books.loads c a)
call-kept d (Leave c) s a = leave-kept d c s
call-kept d (Close n) s a = close-kept d n s a

pub calls-kept : (d : Dispatcher) (calls : List Call) → IsDispatcherSound d → AreAllowed d calls → IsDispatcherSound (after_calls d calls)
calls-kept d [] s a = s
calls-kept d (call ∷ calls) s a = calls-kept (after_call d call) calls (call-kept d call s a.0) a.1

-- no call changes the configuration
pub config-stays : (d : Dispatcher) (call : Call) → (after_call d call).config ≡ d.config
config-stays d (First c target now) = cond_both (is_full d) _ _ (λ (x : Dispatcher). x.config ≡ d.config) (λ _. refl) (λ _. refl)
config-stays d (Later ask now) = refl
config-stays d (Ended c now) = refl
config-stays d (Leave c) = refl
config-stays d (Close n) = cond_both (is_open d.books.loads n) _ d (λ (x : Dispatcher). x.config ≡ d.config) (λ _. refl) (λ _. refl)

pub configs-stay : (d : Dispatcher) (calls : List Call) → (after_calls d calls).config ≡ d.config
configs-stay d [] = refl
configs-stay d (call ∷ calls) = configs-stay (after_call d call) calls ∙ config-stays d call

pub within-room : AdmitsWithinTheRoom
within-room cfg calls usable allowed =
    subst (λ (c : Config). admitted (after_calls (dispatch_begun cfg) calls).books.loads ≤ room_of c) (configs-stay (dispatch_begun cfg) calls) (calls-kept (dispatch_begun cfg) calls (begun-sound cfg usable (some-node cfg usable)) allowed).room

pub waits-for-room : WaitsForRoomAlone
waits-for-room cfg calls usable allowed =
    let s : IsDispatcherSound (after_calls (dispatch_begun cfg) calls) = calls-kept (dispatch_begun cfg) calls (begun-sound cfg usable (some-node cfg usable)) allowed in
    ((λ h. s.full h ∙ ap room_of (configs-stay (dispatch_begun cfg) calls)), s.apart)
