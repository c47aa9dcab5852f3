-- A note of a move is among the rows that its connection sees.
use Rattle.std.proofs.Common.{◌≡◌, List, [], ◌∷◌, ◌++◌, map, ap, inl, inr, ⊎_elim}
use Rattle.lard_law_view.specs.Prelude.{Conn, Has, Move, Rec, Row, rows_of, timer_rows}
use Rattle.lard_law_view.specs.View.{sending}
use Rattle.lard_history.proofs.Seeing.{has-before}

-- a note is among the rows
has-row : (r : Rec) (rs : List Rec) → Has r rs → Has (Row r) (map Row rs)
has-row r [] h = absurd h
has-row r (y ∷ ys) h = ⊎_elim (λ (e : y ≡ r). inl (ap (λ (z : Rec). Row z) e)) (λ (k : Has r ys). inr (has-row r ys k)) h

pub noted-row : (x : Conn) (v : Move) (r : Rec) → Has r v.said.notes → Has (Row r) (map Row (rows_of x v))
noted-row x v r h =
    let S : List Rec = map (sending v.place) v.said.segments in
    let M : List Rec = map (sending v.place) v.said.messages in
    has-row r (rows_of x v)
    (has-before r (v.said.notes ++ S ++ v.said.gave ++ M) (timer_rows v.place x.c x.part v.part)
    (has-before r (v.said.notes ++ S ++ v.said.gave) M (has-before r (v.said.notes ++ S) v.said.gave (has-before r v.said.notes S h))))
