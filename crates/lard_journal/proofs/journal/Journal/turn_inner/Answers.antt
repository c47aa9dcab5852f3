-- One record is turned in its place.
use Rattle.std.proofs.Common.{◌<◌, length, List, ◌∙◌, ap, subst, sym, slice_set}
use Rattle.lard_journal.specs.declared.rec.Rec.{Rec}
use Rattle.lard_journal.specs.Inner.{turned_at}
use Rattle.lard_journal.proofs.Turned.{turned_is}
use Rattle.lard_journal.proofs.journal.Journal.turn_inner.Goals as goal

pub returns : goal.returns
returns c =
    let i : c.args.i < length c.self.inside.records.items = subst (λ (rs : List Rec). c.args.i < length rs) (sym c.self.view_is) c.requires.there in
    ap (slice_set c.self.inside.records.items c.args.i) c.turn_inner.ensures
    ∙ turned_is c.self.inside.records.items c.args.i c.index_mut.result.now i c.index_mut.ensures.value
    ∙ ap (turned_at c.args.i) c.self.view_is
