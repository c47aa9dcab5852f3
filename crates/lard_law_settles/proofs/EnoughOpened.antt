-- A client is there only where the journal says that it opened.
use Rattle.std.proofs.Common.{◌≡◌, ℕ, nat_eq, false, cond, List, [], ◌∷◌, ◌++◌, Option, Some, None, Ok, inl, sym, ap, ◌∙◌, subst}
use Rattle.std.specs.List.{fold}
use Rattle.lard_law_view.specs.Prelude.{Config, Has, IsReached, Machine, Numbers, Rec, Station, Tale, config_check, conn, file_at, is_touched, numbers_step, tale, tale_at}
use Rattle.lard_bound.specs.Bound.{opener_step, openers}
use Rattle.lard_law_connections.specs.BytesAgreement.{ConnAgrees, IsOpen, IsTruthful}
use Rattle.lard_law_connections.proofs.BytesRuns.{states-truthful}
use Rattle.lard_history.proofs.Lifting.{tale-own}
use Rattle.lard_history.proofs.Seeing.{by_number, has-before, has-behind, other_number}
use Rattle.lard_history.proofs.Tales.{numbers-tale, touched-tale}
use Rattle.lard_journal.specs.declared.rec.Rec.TheVariants as rec

-- who has first numbers opened
numbers-open : (c : ℕ) (J : List Rec) (k : Option Numbers) (os : List ℕ) → ((n : Numbers) → k ≡ Some n → Has c os) → (n : Numbers) → fold (numbers_step c) k J ≡ Some n → Has c (fold opener_step os J)
numbers-open c [] k os h n e = h n e
numbers-open c (rec.Opened d isn iss wnd mss ∷ J) k os h n e =
    numbers-open c J (cond (nat_eq d c) (Some (record { isn = isn; iss = iss })) k) (os ++ d ∷ []) (λ i is. by_number (Has c (os ++ d ∷ [])) d c
    (λ same. has-behind c os (d ∷ []) (inl same))
    (λ other. has-before c os (d ∷ []) (h i (sym (ap (λ b. cond b (Some (record { isn = isn; iss = iss })) k) (other_number d c other)) ∙ is)))) n e
numbers-open c (r ∷ J) k os h n e = numbers-open c J k os h n e

module _ (config : Config) (files : List (List ℕ × List ℕ)) (checked : config_check config ≡ Ok tt) (p : Machine) (reached : IsReached config files p) (c : ℕ) (untouched : is_touched p.journal c ≡ false) where
  tale-is : tale_at (conn p c) ≡ tale p.journal c
  unfolding conn
  tale-is = sym (tale-own p.journal c)

  truthful : IsTruthful (file_at files) (conn p c)
  truthful = states-truthful config files checked p reached c (ap (λ (t : Tale). t.touched) tale-is ∙ sym (touched-tale p.journal c) ∙ untouched)

  pub opened-there : (s : Station) → (conn p c).part.station ≡ Some s → Has c (openers p.journal)
  opened-there s at =
      let open_ : IsOpen (file_at files) (conn p c) truthful.talk truthful.pend s = subst (ConnAgrees (file_at files) (conn p c) truthful.talk truthful.pend) at truthful.agrees in
      let numbers = numbers-tale p.journal c ∙ ap (λ (t : Tale). t.numbers) (sym tale-is) ∙ open_.tale.numbers in
      numbers-open c p.journal None [] (λ n e. let no : None ≡ Some n = e in absurd cc) _ numbers
