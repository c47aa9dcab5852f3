-- The new entry goes last, and its length is added to the sum.
use Rattle.std.proofs.Common.{◌≡◌, ◌+◌, ◌++◌, ◌∷◌, [], ◌∙◌, sym, ap, subst, length, All, arith}
use Rattle.std.proofs.lemmas.List.Elements.{All-push}
use Rattle.lard_files.specs.Files.{IsFile, files_shown, files_total}
use Rattle.lard_files.proofs.Entries.{IsAllowed, allowed, shown-added, total-added}
use Rattle.lard_files.proofs.files.Files.keep.Goals as goal

pub invariant_of-self-2 : goal.invariant_of-self-2
invariant_of-self-2 c =
    let ok : IsAllowed c.args.self.now c.args.path.now (length c.args.bytes.now) = allowed c.args.self.now c.args.path.now (length c.args.bytes.now) c.requires.allowed in
    let seen : files_shown c.insert.new.self.entries ≡ c.args.self.now ++ (c.args.path.now, c.args.bytes.now) ∷ [] =
    shown-added c.self.inside.files.entries c.insert.new.self.entries c.in_ok-key.key c.in_ok-value.value c.args.self.now c.args.path.now c.args.bytes.now
    c.self.view_is c.in_ok-key.ensures.items c.in_ok-value.ensures ok.absent c.in_ok-insert.ensures.entries in
    let new : files_total (files_shown c.insert.new.self.entries) ≡ files_total c.args.self.now + length c.args.bytes.now =
    ap files_total seen ∙ total-added c.args.self.now c.args.path.now c.args.bytes.now in
    let old : c.self.inside.bytes ≡ files_total c.args.self.now = c.self.invariant.0 ∙ ap files_total c.self.view_is in
    let all : All IsFile (files_shown c.insert.new.self.entries) =
    subst (All IsFile) (sym seen) (All-push IsFile c.args.self.now (c.args.path.now, c.args.bytes.now) (subst (All IsFile) c.self.view_is c.self.invariant.2) (c.requires.path, ok.short)) in
    (omega (arith, new, old), omega (arith, ok.fits, old, new), all)

pub returns-clause-ok : goal.returns-clause-ok
returns-clause-ok c =
    let ok : IsAllowed c.args.self.now c.args.path.now (length c.args.bytes.now) = allowed c.args.self.now c.args.path.now (length c.args.bytes.now) c.requires.allowed in
    shown-added c.self.inside.files.entries c.insert.new.self.entries c.in_ok-key.key c.in_ok-value.value c.args.self.now c.args.path.now c.args.bytes.now
    c.self.view_is c.in_ok-key.ensures.items c.in_ok-value.ensures ok.absent c.in_ok-insert.ensures.entries
