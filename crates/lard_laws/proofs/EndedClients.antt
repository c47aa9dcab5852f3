-- What a client does keeps what is told of an end: what it writes goes on behind what it wrote.
use Rattle.std.proofs.Common.{◌≡◌, ◌≤◌, ◌^◌, ℕ, List, [], ◌++◌, map, Some, None, refl, ap, ◌∙◌, sym, subst}
use Rattle.std.specs.List.{fold}
use Rattle.lard_law_view.specs.Prelude.{Client, ClientBlock, ClientRules, ClientTurned, Conn, FilesAt, Final, GoesOn, Move, Seen, Setting, Station, Stream, Talk, Turn, client_begins, client_does, client_opens, client_rule, grown, letter, letters_of, seen_step, stream_of, tale_at, tale_step, written_in}
use Rattle.lard_law_connections.specs.BytesAgreement.{ConnAgrees, IsOpen, IsTruthful, IsConnUnopened}
use Rattle.lard_law_connections.proofs.BytesClientMoves.{open-at}
use Rattle.lard_laws.specs.EndedEnds.{EndsAreTrue, IsTrueEnd, LetterEnds, RowEnds, StationEnds, TellsEnds, written_by}
use Rattle.lard_laws.proofs.EndedGrowing.{client-letters, ends-on, inner-letters, row-on}
use Rattle.lard_laws.proofs.EndedTurns.{told-grown, wrote-behind}
use Rattle.lard_law_connections.proofs.LimitsMoves.{Helps}
use Rattle.lard_law_connections.specs.Stops.{ReadingStopsBy}
use Rattle.lard_law_view.proofs.Rows.{tale_before}
use Rattle.lard_history.proofs.Each.{Each-append}
use Rattle.lard_law_view.proofs.EachClient.{client_seen, each-client, of-client}
use Rattle.lard_laws.proofs.ClientComing.{rule-turned}
use Rattle.lard_law_view.proofs.Notes.{client-notes}

-- the client's stream is what it is told to have written
pub written-is : (files : FilesAt) (x : Conn) (s : Station) (l : Talk) (pend : List _) (o : IsOpen files x l pend s) → l.w ≡ written_by x s
written-is files x s l pend o = o.client.w_is ∙ ap (stream_of s.client.send) (sym o.tale.wrote)

module _ (k : Setting) (small : k.stream ≤ 2 ^ 30) where
  -- each move keeps what is told, where it is truthful and is read no further for a reason
  abbrev pub Keeps : Conn → Move → Type 0
  Keeps x v = Helps x v → IsTruthful k.files x → ReadingStopsBy k.leaving k.files x → EndsAreTrue k.files x → EndsAreTrue k.files (grown x v)

  -- ---- a client that opened

  module _ (x : Conn) (s : Station) (there : x.part.station ≡ Some s) (h : IsTruthful k.files x) (told : EndsAreTrue k.files x) where
    abbrev l : Talk
    l = h.talk

    o : IsOpen k.files x l h.pend s
    o = open-at k.files x s there h

    was : TellsEnds (IsTrueEnd k.files (written_by x s) s.iss) x
    was = subst (StationEnds k.files x) there told

    module _ (heads : List Seen) (given : ClientBlock × Turn) (t : ClientTurned x.c l.w l.out s.client given) where
      abbrev v : Move
      v = client_does x s heads given

      abbrev after : Station
      after = record { client = given.0; iss = s.iss }

      turned : Helps x v → (tale_before x v).wrote ≡ (tale_at x).wrote → EndsAreTrue k.files (grown x v)
      turned help quiet = told-grown x v help (IsTrueEnd k.files (written_by x s) s.iss) (IsTrueEnd k.files (written_by (grown x v) after) s.iss) on was
          (record {
            front = row-on (IsTrueEnd k.files (written_by x s) s.iss) (IsTrueEnd k.files (written_by (grown x v) after) s.iss) on x.part.front.row was.front;
            letters = Each-append (LetterEnds (IsTrueEnd k.files (written_by (grown x v) after) s.iss) x.part.front.row) (map (letter (Client x.c)) given.1.segments) []
                (client-letters (IsTrueEnd k.files (written_by (grown x v) after) s.iss) x.part.front.row x.c given.1.segments) tt;
          }) where
            wrote : (tale_at (grown x v)).wrote ≡ t.w_after.bytes
            wrote =
                wrote-behind x v help ∙ (client-notes x.c (tale_before x v) given.1.notes t.notes).wrote ∙ ap (λ (b : List ℕ). b ++ written_in given.1.notes) (quiet ∙ o.tale.wrote) ∙ sym t.wrote

            now : t.w_after ≡ written_by (grown x v) after
            now = t.agrees.w_is ∙ ap (stream_of given.0.send) (sym wrote)

            longer : GoesOn (written_by x s) (written_by (grown x v) after)
            longer = subst (λ (w : Stream). GoesOn w (written_by (grown x v) after)) (written-is k.files x s l h.pend o) (subst (GoesOn l.w) now t.longer)

            on : (last : Final) → IsTrueEnd k.files (written_by x s) s.iss last → IsTrueEnd k.files (written_by (grown x v) after) s.iss last
            on = ends-on k.files (written_by x s) (written_by (grown x v) after) s.iss longer

  -- ---- a client opens

  opens : (x : Conn) (isn iss wnd mss : ℕ) → x.part.station ≡ None → IsTruthful k.files x → EndsAreTrue k.files (grown x (client_begins x isn iss wnd mss))
  opens x isn iss wnd mss none h = record {
    front = subst (RowEnds P) (sym unopened.front) tt;
    packets = Each-append (LetterEnds P x.part.front.row) x.letters (letters_of v) (inner-letters P x.part.front.row x.letters unopened.inner)
        (Each-append (LetterEnds P x.part.front.row) (map (letter (Client x.c)) begun.1.segments) [] (client-letters P x.part.front.row x.c begun.1.segments) tt);
  } where
    unopened : IsConnUnopened x
    unopened = subst (ConnAgrees k.files x h.talk h.pend) none h.agrees

    v : Move
    v = client_begins x isn iss wnd mss

    begun : ClientBlock × Turn
    begun = client_opens x.c isn wnd mss

    P : Final → Type 0
    P = IsTrueEnd k.files (written_by (grown x (client_begins x isn iss wnd mss)) (record { client = (client_opens x.c isn wnd mss).0; iss = iss })) iss

  -- ---- the rules

  pub clients : ClientRules k Keeps
  clients = each-client k Keeps (record {
    opens = λ x isn iss wnd mss rule none help h stops told. opens x isn iss wnd mss none h;
    does = λ x s g there comes help h stops told. turned x s there h told (client_seen x.c g) (client_rule x.c s.client g) (rule-turned k small x s there h help.sound g comes) help
        (of-client x.c (λ (heads : List Seen). (fold (seen_step (tale_step x.c)) (tale_at x) heads).wrote ≡ (tale_at x).wrote) (λ from bytes. refl) (λ e. refl) g);
  })
