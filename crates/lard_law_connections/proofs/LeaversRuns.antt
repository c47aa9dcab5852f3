-- Another node is open wherever what comes to the front end closes one, in every run: whoever sends a connection back leaves, and some node is open
-- and stays.
use Rattle.std.proofs.Common.{◌≡◌, ℕ, true, false, List, Some, None, Result, Ok, Err, refl}
use Rattle.lard_law_connections.proofs.Forms.{ComesToFront}
use Rattle.lard_law_connections.proofs.LeaversMoves.{SendersLeave, stays-ungiven, stays-unrefused}
use Rattle.lard_law_connections.proofs.LeaversSenders.{back-leaves, senders-leave}
use Rattle.lard_law_connections.proofs.LeaversStays.{SomeStays, any-other, apart-by, has-nodes, none-leaves, some-stays}
use Rattle.lard_law_connections.proofs.PlacesTurns.{IsUnreturned}
use Rattle.lard_law_view.proofs.Carried.{reached-viewed}
use Rattle.lard_law_view.specs.Prelude.{Body, Config, Conn, Event, FrontIn, IsReached, Machine, MayClose, MayCloseBy, MayCloseOn, Message, MsgFault, OfEach, conn, decoded_message, which_leave}
use Rattle.lard_message.specs.declared.message.Body.TheVariants as body
use Rattle.lard_rules.specs.FrontSound.{HasOther}
use Rattle.lard_rules.specs.declared.front.FrontIn.TheVariants as input

module _ (config : Config) (files : List (List ℕ × List ℕ)) where
  -- where a node leaves, another one is open
  other-opened : (m : Machine) → IsReached config files m → (n : ℕ) → which_leave m n ≡ true → HasOther m.front n
  other-opened m r n leaves =
      let some : SomeStays m = some-stays config files m r (has-nodes m.nodes n leaves) in
      any-other n some.node m.front.dispatch.books.loads.open_nodes (apart-by m some.node n some.stays leaves) some.opened

  pub may-come : (m : Machine) → IsReached config files m → (e : Event) (comes : FrontIn) → ComesToFront m e comes → MayClose m.front comes
  may-come m r e (input.Segment c iss bytes) came = tt
  may-come m r e (input.Timer c) came = tt
  may-come m r e (input.Drain n) came = came
  may-come m r e (input.Message n bytes) came = go (decoded_message bytes) refl where
    go : (given : Result Message MsgFault) → decoded_message bytes ≡ given → MayCloseOn m.front n given
    go (Err fault) reads = tt
    go (Ok msg) reads = by msg.body reads where
      by : (b : Body) → decoded_message bytes ≡ Ok (record { c = msg.c; epoch = msg.epoch; body = b }) → MayCloseBy m.front n b
      by body.Refused spells = other-opened m r n (back-leaves config files m r e n bytes came msg.c msg.epoch.0 None spells)
      by (body.Give parts) spells = other-opened m r n (back-leaves config files m r e n bytes came msg.c msg.epoch.0 (Some parts) spells)
      by _ spells = tt

  -- INTERIM: no node leaves yet, so none refused a connection or gave one back
  pub each-unreturned : OfEach config files IsUnreturned
  each-unreturned m r q =
      let x : Conn = conn m q in
      let leave : SendersLeave (which_leave m) x = senders-leave config files m r q in
      let stay : (n : ℕ) → which_leave m n ≡ false = none-leaves m (reached-viewed config files m r) in
      record { unrefused = λ n. stays-unrefused (which_leave m) x leave n (stay n); ungiven = λ n. stays-ungiven (which_leave m) x leave n (stay n) }
