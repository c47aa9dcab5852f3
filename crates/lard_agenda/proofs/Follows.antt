-- An agenda goes on record by record.
use Rattle.std.proofs.Common.{◌≡◌, ◌+◌, ◌<◌, arith, List, [], ◌∷◌, ◌++◌, length, take, get_or, refl, sym, ap, ◌∙◌, subst}
use Rattle.std.proofs.lemmas.List.{length-append, take-append-le, take_more}
use Rattle.std.proofs.lemmas.List.Sums.{fold-append}
use Rattle.std.proofs.Math.Seq.{take-length}
use Rattle.std.specs.List.{fold}
use Rattle.lard_journal.specs.declared.rec.Rec.{Rec}
use Rattle.lard_agenda.specs.declared.agenda.Agenda.{Agenda}
use Rattle.lard_agenda.specs.Agenda.{IsAgendaOf, agenda_of, changed_by, noted_by, nothing_noted}

-- one more record is noted
agenda-more : (J : List Rec) (r : Rec) → agenda_of (J ++ r ∷ []) ≡ noted_by (agenda_of J) r
unfolding agenda_of
agenda-more J r = fold-append noted_by nothing_noted J (r ∷ [])

noted-count : (a : Agenda) (J : List Rec) → (fold noted_by a J).noted ≡ a.noted + length J
noted-count a [] = omega arith
noted-count a (r ∷ J) = noted-count (noted_by a r) J ∙ omega arith

-- the agenda of no records
pub begun : (J : List Rec) → IsAgendaOf nothing_noted J
unfolding agenda_of
begun J = record { within = omega arith; agenda = refl }

pub unnoted : (a : Agenda) (J : List Rec) → a ≡ nothing_noted → IsAgendaOf a J
unnoted a J none = subst (λ (b : Agenda). IsAgendaOf b J) (sym none) (begun J)

-- the next record is noted
goes_on : (a : Agenda) (J : List Rec) (d : Rec) → a.noted < length J → IsAgendaOf a J → IsAgendaOf (noted_by a (get_or J a.noted d)) J
goes_on a J d less is = record {
  within = omega (arith, less);
  agenda = ap (λ b. noted_by b (get_or J a.noted d)) is.agenda
      ∙ sym (agenda-more (take a.noted J) (get_or J a.noted d))
      ∙ ap agenda_of (sym (take_more J a.noted d less));
}

-- a turn of the loop: what a record changes is changed, and then it is counted
pub turn : (a b : Agenda) (J : List Rec) (r : Rec) → a.noted < length J → get_or J a.noted r ≡ r → b ≡ changed_by a r → IsAgendaOf a J → IsAgendaOf (record b { noted = b.noted + 1 }) J
turn a b J r less at ok is =
    subst (λ (x : Agenda). IsAgendaOf x J) (ap (noted_by a) at ∙ sym (ap (λ (x : Agenda). record x { noted = x.noted + 1 }) ok)) (goes_on a J r less is)

-- the journal goes on
pub still : (a : Agenda) (J more : List Rec) → IsAgendaOf a J → IsAgendaOf a (J ++ more)
still a J more is = record {
  within = omega (arith, is.within, length-append J more);
  agenda = is.agenda ∙ ap agenda_of (sym (take-append-le a.noted J more is.within));
}

pub whole : (J : List Rec) → IsAgendaOf (agenda_of J) J
unfolding agenda_of
whole J =
    let none : 0 + length J ≡ length J = omega arith in
    let n : (agenda_of J).noted ≡ length J = noted-count nothing_noted J ∙ none in
    record { within = omega (arith, n); agenda = ap agenda_of (sym (subst (λ m. take m J ≡ J) (sym n) (take-length J))) }
