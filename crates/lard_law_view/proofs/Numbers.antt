-- A connection on which something happened has the number of one.
use Rattle.std.proofs.Common.{◌≡◌, Some, None, sym, ap, ◌∙◌, subst, ⊎_elim}
use Rattle.lard_law_view.specs.Prelude.{Conn, FrontRow, Has, IsConnNumber, IsConnSound, Letter, Station, blank_conn}

module _ (x : Conn) where
  -- a packet was sent on it
  pub letter-number : (l : Letter) → IsConnSound x → Has l x.letters → IsConnNumber x.c
  letter-number l h has = ⊎_elim (λ (n : IsConnNumber x.c). n) (λ (e : x ≡ blank_conn x.c). absurd (subst (λ (y : Conn). Has l y.letters) e has)) h.number

  -- its client opened
  pub client-number : (s : Station) → IsConnSound x → x.part.station ≡ Some s → IsConnNumber x.c
  client-number s h is = ⊎_elim (λ (n : IsConnNumber x.c). n)
      (λ (e : x ≡ blank_conn x.c). let no : None ≡ Some s = sym (ap (λ (y : Conn). y.part.station) e) ∙ is in absurd cc)
      h.number

  -- the front end took it
  pub row-number : (row : FrontRow) → IsConnSound x → x.part.front.row ≡ Some row → IsConnNumber x.c
  row-number row h is = ⊎_elim (λ (n : IsConnNumber x.c). n)
      (λ (e : x ≡ blank_conn x.c). let no : None ≡ Some row = sym (ap (λ (y : Conn). y.part.front.row) e) ∙ is in absurd cc)
      h.number
