use Rattle.std.proofs.Common.{sym}
use Rattle.lard_lines.specs.Lines.{is_feed}
use Rattle.lard_lines.proofs.Feeds.{found_from, none_from}
use Rattle.lard_lines.proofs.lines.feed_from.Goals as goal

pub returns-in-Some : goal.returns-in-Some
returns-in-Some c = sym (found_from is_feed c.args.text.now c.args.searched c.in-Some.at c.requires.within c.requires.searched (sym c.in-Some.ensures))

pub returns-in-None : goal.returns-in-None
returns-in-None c = sym (none_from is_feed c.args.text.now c.args.searched c.requires.searched (sym c.in-None.ensures))
