-- What a client's rules owe, and what a packet that nobody answers does.
use Rattle.std.proofs.Common.{◌≡◌, ℕ, List, [], ◌∷◌, ◌++◌, map, sym, ◌∙◌, subst}
use Rattle.std.proofs.lemmas.List.Sums.{fold-append}
use Rattle.lard_law_view.specs.Prelude.{Client, ClientBlock, Conn, Part, Place, Rec, Seen, Station, Turn, by_client, letter, tale_at, timer_rows, with_station}
use Rattle.lard_law_connections.specs.Places.{LetterMay, Owning, Sits, owning}
use Rattle.lard_law_connections.proofs.PlacesFront.{IsQuiet}
use Rattle.lard_law_connections.proofs.PlacesGrowing.{back-still, front-still}
use Rattle.lard_law_connections.proofs.PlacesRows.{IsPlain, after_all, client-owns, owns-append, plain-after, plain-owns, sends-after}
use Rattle.lard_law_connections.proofs.PlacesTurns.{IsPlaced, Owes, timers-plain}
use Rattle.lard_law_view.specs.View.{sending}
use Rattle.lard_history.proofs.Each.{Each, Each-append, Each-weaker}
use Rattle.lard_journal.specs.declared.rec.Rec.TheVariants as rec
use Rattle.lard_law_view.proofs.PlaceTurns.{IsClientTurn, NotedAt}

client-plain : (e c : ℕ) (r : Rec) → NotedAt (Client e) c r → IsPlain r
client-plain e c (rec.Wrote d bytes) h = tt
client-plain e c (rec.Accepted d bytes) h = tt
client-plain e c (rec.Eof d) h = tt
client-plain e c (rec.Aborted d) h = tt
client-plain e c _ h = absurd h

client-letters : (q : Part) (c : ℕ) (ss : List (Place × List ℕ)) → Each (LetterMay q) (map (letter (Client c)) ss)
client-letters q c [] = tt
client-letters q c (s ∷ ss) = (tt, client-letters q c ss)

-- a client's turn leaves who owns the connection
pub client-owes : (x : Conn) (heads : List Seen) → IsQuiet x heads → IsPlaced x → (s : Station) (given : ClientBlock × Turn) → IsClientTurn x.c given
    → Owes x (record { place = Client x.c; heads = heads; said = by_client given.1; part = with_station x.part s })
client-owes x heads quiet held s given turn =
    let c : ℕ = x.c in
    let w : Owning = owning (tale_at x) in
    let q : Part = with_station x.part s in
    let notes : List Rec = given.1.notes in
    let sends : List Rec = map (sending (Client c)) given.1.segments in
    let timers : List Rec = timer_rows (Client c) c x.part q in
    let plain : Each IsPlain notes = Each-weaker (NotedAt (Client c) c) IsPlain (client-plain c c) notes turn.notes in
    let quiet_timers : Each IsPlain timers = timers-plain (Client c) c x.part q in
    let now : after_all w (notes ++ sends) ≡ w = fold-append _ w notes sends ∙ sends-after _ (Client c) given.1.segments ∙ plain-after w notes plain in
    let same : after_all w (notes ++ sends ++ [] ++ []) ≡ w = fold-append _ w (notes ++ sends ++ []) [] ∙ fold-append _ w (notes ++ sends) [] ∙ now in
    let then : after_all w (notes ++ sends ++ [] ++ [] ++ timers) ≡ w = fold-append _ w (notes ++ sends ++ [] ++ []) timers ∙ plain-after _ timers quiet_timers ∙ same in
    record {
      heads = quiet.may;
      same = quiet.same;
      rows = owns-append c w (notes ++ sends ++ [] ++ []) timers
          (owns-append c w (notes ++ sends ++ []) [] (owns-append c w (notes ++ sends) [] (owns-append c w notes sends (plain-owns c w notes plain) (client-owns c c _ given.1.segments)) tt) tt)
          (plain-owns c _ timers quiet_timers);
      sits = subst (λ (u : Owning). Sits u x.part.nodes x.part.front.row) (sym then) held.sits;
      grows = record { nodes = λ n. back-still (x.part.nodes n).row; refusals = λ n e h. h; returns = λ n h. h; front = front-still x.part.nodes x.part.front.row };
      letters = Each-append (LetterMay q) (map (letter (Client c)) given.1.segments) [] (client-letters q c given.1.segments) tt;
    }
