-- The paths that an Ask names, one by one.
use Rattle.std.proofs.Common.{◌≡◌, ℕ, suc, ◌+◌, ◌<◌, List, [], ◌∷◌, ◌++◌, Option, Some, None, length, drop, get_or, sym, ap, ◌∙◌, add-one, append_assoc, drop-cons}
use Rattle.std.proofs.lemmas.List.{append-nil}
use Rattle.lard_answers.specs.Answers.{FilesAt}
use Rattle.lard_rules.specs.declared.stay.Entry.{Entry}
use Rattle.lard_rules.specs.Stay.{and_path, named_path, named_paths}

behind : (o : Option (List ℕ)) (ps rest : List (List ℕ)) → (ps ++ and_path o []) ++ rest ≡ ps ++ and_path o rest
behind None ps rest = ap (λ (xs : List (List ℕ)). xs ++ rest) (append-nil ps)
behind (Some p) ps rest = append_assoc ps (p ∷ []) rest

item : (es : List Entry) (i : ℕ) (e : Entry) → i < length es → e ≡ get_or es i e → drop i es ≡ e ∷ drop (i + 1) es
item es i e l at = rw add-one (drop-cons es i e l ∙ ap (λ (x : Entry). x ∷ drop (suc i) es) (sym at))

-- what was found, with the path of one more request, and what is left
pub named_more : (files : FilesAt) (es : List Entry) (i : ℕ) (e : Entry) (ps new all : List (List ℕ)) → i < length es → e ≡ get_or es i e
    → new ≡ ps ++ and_path (named_path files e) [] → ps ++ named_paths files (drop i es) ≡ all → new ++ named_paths files (drop (i + 1) es) ≡ all
named_more files es i e ps new all l at is so =
    let rest = named_paths files (drop (i + 1) es) in
    ap (λ (xs : List (List ℕ)). xs ++ rest) is
    ∙ behind (named_path files e) ps rest
    ∙ ap (λ (xs : List Entry). ps ++ named_paths files xs) (sym (item es i e l at))
    ∙ so
