-- A move of the front end or of a node keeps what is told of an end, where what the place tells of one is so.
use Rattle.std.proofs.Common.{◌≡◌, ℕ, List, [], ◌∷◌, Option, Some, None, refl, sym, ap, ◌∙◌, subst}
use Rattle.lard_law_view.specs.Prelude.{Client, Conn, FilesAt, Final, Front, IsMachine, Move, Node, Place, Rec, Station, Stream, Tale, grown, letters_of, stream_of, tale_at, tale_step, told_on}
use Rattle.lard_law_connections.proofs.BytesTold.{Bytes, move-bytes}
use Rattle.lard_laws.specs.EndedEnds.{EndsAreTrue, IsTrueEnd, LetterEnds, RowEnds, StationEnds, TellsEnds, written_by}
use Rattle.lard_laws.proofs.EndedGrowing.{letters-on}
use Rattle.lard_law_connections.proofs.LimitsMoves.{Helps}
use Rattle.lard_law_view.proofs.Rows.{tale_before}
use Rattle.lard_law_view.proofs.Saying.{NotedAt}
use Rattle.lard_history.proofs.Each.{Each, Each-append, Each-weaker}
use Rattle.lard_journal.specs.declared.rec.Rec.TheVariants as rec

-- ---- what a place does writes nothing

-- no client wrote
abbrev pub IsUnwritten : Rec → Type 0
IsUnwritten (rec.Wrote d bytes) = ⊥
IsUnwritten _ = Unit {0}

noted-unwritten : (place : Place) (c : ℕ) (r : Rec) → IsMachine place → NotedAt place c r → IsUnwritten r
noted-unwritten Front c (rec.Wrote d bytes) m h = absurd h
noted-unwritten (Node n) c (rec.Wrote d bytes) m h = absurd h
noted-unwritten (Client d) c r m h = absurd m
noted-unwritten _ c _ m h = tt

pub notes-unwritten : (place : Place) (c : ℕ) (rs : List Rec) → IsMachine place → Each (NotedAt place c) rs → Each IsUnwritten rs
notes-unwritten place c rs m h = Each-weaker (NotedAt place c) IsUnwritten (λ r. noted-unwritten place c r m) rs h

unwritten-step : (c : ℕ) (t : Tale) (r : Rec) → IsUnwritten r → (tale_step c t r).wrote ≡ t.wrote
unwritten-step c t (rec.Wrote d bytes) h = absurd h
unwritten-step c t _ h = refl

unwritten-told : (c : ℕ) (t : Tale) (rs : List Rec) → Each IsUnwritten rs → (told_on c t rs).wrote ≡ t.wrote
unwritten-told c t [] h = refl
unwritten-told c t (r ∷ rs) h = unwritten-told c (tale_step c t r) rs h.1 ∙ unwritten-step c t r h.0

module _ (x : Conn) (v : Move) where
  -- What a place tells of an end behind its move: at the front end, and in what is sent.
  pub record PlaceEnds (P : Final → Type 0) : Type 0 where
    pub front : RowEnds P v.part.front.row
    pub letters : Each (LetterEnds P v.part.front.row) (letters_of v)

  module _ (help : Helps x v) where
    -- what is written behind the move
    pub wrote-behind : (tale_at (grown x v)).wrote ≡ (told_on x.c (tale_before x v) v.said.notes).wrote
    wrote-behind = ap (λ (b : Bytes). b.wrote) (move-bytes x v help.own.messages help.own.gave)

    -- what was told stays told
    pub told-grown : (P Q : Final → Type 0) → ((last : Final) → P last → Q last) → TellsEnds P x → PlaceEnds Q → TellsEnds Q (grown x v)
    told-grown P Q on h p = record {
      front = p.front;
      packets = Each-append (LetterEnds Q v.part.front.row) x.letters (letters_of v) (letters-on P Q on v.part.nodes x.part.front.row v.part.front.row help.owes.grows.front x.letters h.packets) p.letters;
    }

    pub place-keeps : (files : FilesAt) → v.part.station ≡ x.part.station → (tale_before x v).wrote ≡ (tale_at x).wrote → Each IsUnwritten v.said.notes
        → ((s : Station) → x.part.station ≡ Some s → TellsEnds (IsTrueEnd files (written_by x s) s.iss) x → PlaceEnds (IsTrueEnd files (written_by x s) s.iss)) → EndsAreTrue files x → EndsAreTrue files (grown x v)
    place-keeps files same heads notes ends h = subst (StationEnds files (grown x v)) (sym same) (go x.part.station refl h) where
      wrote : (tale_at (grown x v)).wrote ≡ (tale_at x).wrote
      wrote = wrote-behind ∙ unwritten-told x.c (tale_before x v) v.said.notes notes ∙ heads

      written : (s : Station) → written_by (grown x v) s ≡ written_by x s
      written s = ap (stream_of s.client.send) wrote

      go : (o : Option Station) → x.part.station ≡ o → StationEnds files x o → StationEnds files (grown x v) o
      go None e k = tt
      go (Some s) e k = subst (λ (w : Stream). TellsEnds (IsTrueEnd files w s.iss) (grown x v)) (sym (written s))
          (told-grown (IsTrueEnd files (written_by x s) s.iss) (IsTrueEnd files (written_by x s) s.iss) (λ last t. t) k (ends s e k))
