-- What the words ask for is one thing, and what its run says.
use Rattle.std.proofs.Common.{◌≡◌, ◌⊎◌, inl, inr, ℕ, List, ◌∷◌, [], true, false, Option, Some, refl, sym, ap, ◌∙◌, subst, arith}
use Rattle.std.specs.Prelude.{bytes_eq, codes}
use Rattle.std.proofs.lemmas.Fmt.{decimal_injective}
use Rattle.lard_app.specs.declared.status.Status.{Status}
use Rattle.lard_app.specs.declared.status.Status.TheVariants.{Done, Usage, Refused, ReadFault, WriteFault, NoMemory, Limit}
use Rattle.lard_app.specs.Generate.{Generated, Prints, run_of}
use Rattle.lard_app.specs.Run.{Ended, ReadsInput}
use Rattle.lard_lab.specs.declared.policy.Policy.{Policy}
use Rattle.lard_lab.specs.declared.policy.Policy.TheVariants.{Rr, Hash, Lard, LardR}
use Rattle.lard_lab.specs.Policy.{policy_word}
use Rattle.lard_app.specs.declared.words.Command.{Command}
use Rattle.lard_app.specs.declared.words.Command.TheVariants as command
use Rattle.lard_app.specs.Words.{AreAudit, AreGenerate, AreLab, AreReplay, IsOne}
use Rattle.lard_summary.specs.Lines.{summary}

-- what was found
pub are-replay : (words : List (List ℕ)) (k : Command) → k ≡ command.Replay → IsOne words (Some k) → AreReplay words
are-replay words k is h = subst (λ (j : Command). IsOne words (Some j)) is h

pub are-generate : (words : List (List ℕ)) (k : Command) (seed clients : ℕ) → k ≡ command.Generate seed clients → IsOne words (Some k) → AreGenerate words seed clients
are-generate words k seed clients is h = subst (λ (j : Command). IsOne words (Some j)) is h

pub are-lab : (words : List (List ℕ)) (k : Command) (policy : Policy) → k ≡ command.Lab policy → IsOne words (Some k) → AreLab words policy
are-lab words k policy is h = subst (λ (j : Command). IsOne words (Some j)) is h

pub are-audit : (words : List (List ℕ)) (k : Command) → k ≡ command.Audit → IsOne words (Some k) → AreAudit words
are-audit words k is h = subst (λ (j : Command). IsOne words (Some j)) is h

one : (a b : List ℕ) → ◌≡◌ {A = List (List ℕ)} (a ∷ []) (b ∷ []) → a ≡ b
one a b h = cc

pub no-replay-audit : (words : List (List ℕ)) → AreReplay words → ¬ (AreAudit words)
no-replay-audit words r a = let both : true ≡ false = ap (λ (w : List ℕ). bytes_eq w (codes "replay")) (one _ _ (sym r ∙ a)) in cc

pub no-audit-generate : (words : List (List ℕ)) (seed clients : ℕ) → AreAudit words → ¬ (AreGenerate words seed clients)
no-audit-generate words seed clients a g = let both = sym a ∙ g.are in cc

pub no-audit-lab : (words : List (List ℕ)) (policy : Policy) → AreAudit words → ¬ (AreLab words policy)
no-audit-lab words policy a l = let both = sym a ∙ l in cc

-- one word is not two, nor are two words three
pub no-replay-lab : (words : List (List ℕ)) (policy : Policy) → AreReplay words → ¬ (AreLab words policy)
no-replay-lab words policy r l = let both = sym r ∙ l in cc

pub no-lab-generate : (words : List (List ℕ)) (policy : Policy) (seed clients : ℕ) → AreLab words policy → ¬ (AreGenerate words seed clients)
no-lab-generate words policy seed clients l g = let both = sym l ∙ g.are in cc

two : (a b c d : List ℕ) → ◌≡◌ {A = List (List ℕ)} (a ∷ b ∷ []) (c ∷ d ∷ []) → b ≡ d
two a b c d h = cc

policy-same : (p q : Policy) → policy_word p ≡ policy_word q → p ≡ q
policy-same Rr Rr e = refl
policy-same Rr Hash e = let both : true ≡ false = ap (λ (w : List ℕ). bytes_eq w (policy_word Rr)) e in cc
policy-same Rr Lard e = let both : true ≡ false = ap (λ (w : List ℕ). bytes_eq w (policy_word Rr)) e in cc
policy-same Rr LardR e = let both : true ≡ false = ap (λ (w : List ℕ). bytes_eq w (policy_word Rr)) e in cc
policy-same Hash Rr e = let both : true ≡ false = ap (λ (w : List ℕ). bytes_eq w (policy_word Hash)) e in cc
policy-same Hash Hash e = refl
policy-same Hash Lard e = let both : true ≡ false = ap (λ (w : List ℕ). bytes_eq w (policy_word Hash)) e in cc
policy-same Hash LardR e = let both : true ≡ false = ap (λ (w : List ℕ). bytes_eq w (policy_word Hash)) e in cc
policy-same Lard Rr e = let both : true ≡ false = ap (λ (w : List ℕ). bytes_eq w (policy_word Lard)) e in cc
policy-same Lard Hash e = let both : true ≡ false = ap (λ (w : List ℕ). bytes_eq w (policy_word Lard)) e in cc
policy-same Lard Lard e = refl
policy-same Lard LardR e = let both : true ≡ false = ap (λ (w : List ℕ). bytes_eq w (policy_word Lard)) e in cc
policy-same LardR Rr e = let both : true ≡ false = ap (λ (w : List ℕ). bytes_eq w (policy_word LardR)) e in cc
policy-same LardR Hash e = let both : true ≡ false = ap (λ (w : List ℕ). bytes_eq w (policy_word LardR)) e in cc
policy-same LardR Lard e = let both : true ≡ false = ap (λ (w : List ℕ). bytes_eq w (policy_word LardR)) e in cc
policy-same LardR LardR e = refl

-- two words are of one policy
pub same-policy : (words : List (List ℕ)) (p q : Policy) → AreLab words p → AreLab words q → p ≡ q
same-policy words p q l m = policy-same p q (two _ _ _ _ (sym l ∙ m))

-- one word is not three
pub not-both : (words : List (List ℕ)) (seed clients : ℕ) → AreReplay words → ¬ (AreGenerate words seed clients)
not-both words seed clients r g = let both = sym r ∙ g.are in cc

three : (a b c d e f : List ℕ) → ◌≡◌ {A = List (List ℕ)} (a ∷ b ∷ c ∷ []) (d ∷ e ∷ f ∷ []) → (b ≡ e) × (c ≡ f)
three a b c d e f h = (cc, cc)

-- three words are of one seed and one number of clients
pub same-words : (words : List (List ℕ)) (seed clients s k : ℕ) → AreGenerate words seed clients → AreGenerate words s k → (seed ≡ s) × (clients ≡ k)
same-words words seed clients s k g h =
    let both = three _ _ _ _ _ _ (sym g.are ∙ h.are) in
    let few = g.few in
    let many = h.few in
    (decimal_injective seed s g.seed_fits h.seed_fits both.0, decimal_injective clients k (omega (arith, few)) (omega (arith, many)) both.1)

pub of-words : (words : List (List ℕ)) (seed clients s k : ℕ) (P : ℕ → ℕ → Type 0) → AreGenerate words seed clients → AreGenerate words s k → P seed clients → P s k
of-words words seed clients s k P g h p = let same = same-words words seed clients s k g h in subst (λ i. P i k) same.0 (subst (P seed) same.1 p)

-- a replay does not end by `Usage`
pub reads-not-usage : (status : Status) (left left_now old new : Option (List ℕ)) → ReadsInput status left left_now old new → ¬ (status ≡ Usage)
reads-not-usage status left left_now old new r is = subst (λ (s : Status). Ended s r.text left_now old new) is r.ended

module _ (seed clients : ℕ) (status : Status) (old new : Option (List ℕ)) (g : Generated seed clients status old new) where
  abbrev Says : Status → Type 0
  Says s = Prints (run_of seed clients).1 s (summary seed clients g.journal) old new

  -- nor does a generated run, which does not read either
  pub generated-not-usage : ¬ (status ≡ Usage)
  generated-not-usage is = subst Says is g.printed

  pub generated-not-read : ¬ (status ≡ ReadFault)
  generated-not-read is = subst Says is g.printed

  -- where writing did not fail, the words alone decide how it ends
  pub generated-settled : ¬ (status ≡ WriteFault) → (status ≡ (run_of seed clients).1) ⊎ (status ≡ NoMemory)
  generated-settled well = go status refl g.printed where
    go : (s : Status) → status ≡ s → Says s → (status ≡ (run_of seed clients).1) ⊎ (status ≡ NoMemory)
    go Done is h = inl (is ∙ sym h.0)
    go (Limit line what) is h = inl (is ∙ sym h.0)
    go NoMemory is h = inr is
    go WriteFault is h = absurd (well is)
    go Usage is h = absurd h
    go ReadFault is h = absurd h
    go (Refused line why) is h = absurd h
