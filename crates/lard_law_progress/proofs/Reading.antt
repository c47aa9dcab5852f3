-- The front end reads on: responses are queued, the cluster's side is closed or the stream limit reached, or nothing changes but what
-- is unread.
use Rattle.std.proofs.Common.{◌≡◌, ◌⊎◌, ◌<◌, ◌≤◌, ℕ, true, false, List, is_some, Option, None, inl, inr, ⊎_elim, refl, sym, ap, ◌∙◌, arith}
use Rattle.lard_law_view.specs.Prelude.{Sending, ServeEnv, Service, Verdict, answer, answered, ended_at_fin, front_reads, may_freeze, queueing, serving_consumed}
use Rattle.lard_base.specs.declared.place.Via.TheVariants.{Own}
use Rattle.lard_rules.proofs.FrontReads.{reading-keeps}
use Rattle.lard_law_progress.proofs.Stays.{IsAlike, alike-self, alike-then, behind, may-parts, wider}
use Rattle.lard_rules.proofs.Endings.{answered-keeps, at-fin-keeps}

-- nothing is done but that less is unread
pub record IsSame (a b : Service) : Type 0 where
  pub block : IsAlike a.block b.block
  pub count : b.count ≡ a.count
  pub over : b.over ≡ a.over

-- No response comes back. Where none was queued, the cluster's side was closed, the stream limit was reached, or nothing changed.
pub record Further (a b : Service) : Type 0 where
  pub una : b.block.send.una ≡ a.block.send.una
  pub wnd : b.block.send.wnd ≡ a.block.send.wnd
  pub shut : a.block.send.finished ≡ true → b.block.send.finished ≡ true
  pub limit : is_some a.over ≡ true → is_some b.over ≡ true
  pub more : a.count ≤ b.count
  pub way : (a.count < b.count) ⊎ (((a.block.send.finished ≡ false) × (b.block.send.finished ≡ true)) ⊎ ((is_some b.over ≡ true) ⊎ IsSame a b))

pub further-self : (a : Service) → Further a a
further-self a = record { una = refl; wnd = refl; shut = λ e. e; limit = λ e. e; more = omega arith; way = inr (inr (inr (record { block = alike-self a.block; count = refl; over = refl }))) }

further-then : (a b c : Service) → Further a b → Further b c → Further a c
further-then a b c h k =
    let m1 : a.count ≤ b.count = h.more in let m2 : b.count ≤ c.count = k.more in record {
      una = k.una ∙ h.una;
      wnd = k.wnd ∙ h.wnd;
      shut = λ e. k.shut (h.shut e);
      limit = λ e. k.limit (h.limit e);
      more = omega arith;
      way = ⊎_elim
          (λ (t : a.count < b.count). inl (omega arith))
          (λ (e : ((a.block.send.finished ≡ false) × (b.block.send.finished ≡ true)) ⊎ ((is_some b.over ≡ true) ⊎ IsSame a b)). ⊎_elim
          (λ (t : (a.block.send.finished ≡ false) × (b.block.send.finished ≡ true)). inr (inl (t.0, k.shut t.1)))
          (λ (e2 : (is_some b.over ≡ true) ⊎ IsSame a b). ⊎_elim
          (λ (t : is_some b.over ≡ true). inr (inr (inl (k.limit t))))
          (λ (i : IsSame a b). ⊎_elim
          (λ (t : b.count < c.count). inl (omega arith))
          (λ (f : ((b.block.send.finished ≡ false) × (c.block.send.finished ≡ true)) ⊎ ((is_some c.over ≡ true) ⊎ IsSame b c)). ⊎_elim
          (λ (t : (b.block.send.finished ≡ false) × (c.block.send.finished ≡ true)). inr (inl (sym (ap (λ (s : Sending). s.finished) i.block.send) ∙ t.0, t.1)))
          (λ (f2 : (is_some c.over ≡ true) ⊎ IsSame b c). ⊎_elim
          (λ (t : is_some c.over ≡ true). inr (inr (inl t)))
          (λ (j : IsSame b c). inr (inr (inr (record { block = alike-then a.block b.block c.block i.block j.block; count = j.count ∙ i.count; over = j.over ∙ i.over })))) f2) f) k.way) e2) e)
          h.way;
    }

module _ (env : ServeEnv) where
  answers : (v : Verdict) (n : ℕ) (w : Service) → w.over ≡ None → Further w (answered env Own v (serving_consumed n w))
  answers v n w none =
      answered-keeps (Further w) env Own v (serving_consumed n w)
      (λ t. record { una = refl; wnd = refl; shut = λ e. e; limit = λ e. refl; more = omega arith; way = inr (inr (inl refl)) })
      (λ t. let d = behind v (queueing (serving_consumed n w).block (answer env.files v)) in record {
        una = d.0;
        wnd = d.1;
        shut = d.2;
        limit = λ f. absurd (let o : is_some w.over ≡ false = ap (λ (o : Option ℕ). is_some o) none in let bad : true ≡ false = sym f ∙ o in cc);
        more = omega arith;
        way = inl (omega arith);
      })

  stops : (n : ℕ) (w : Service) → w.block.send.finished ≡ false → Further w (ended_at_fin (serving_consumed n w))
  stops n w open_ =
      at-fin-keeps (Further w) (serving_consumed n w)
      (λ t. record { una = refl; wnd = refl; shut = λ e. refl; limit = λ e. e; more = omega arith; way = inr (inl (open_, refl)) })
      (λ t. record {
        una = refl;
        wnd = refl;
        shut = λ e. e;
        limit = λ e. e;
        more = omega arith;
        way = inr (inr (inr (record { block = record { send = refl; awaits = refl; roomy = wider n w.block.recv; owed = refl; last_window = refl; reset = refl }; count = refl; over = refl })));
      })

  -- all that it reads of an endpoint; where a request is to be placed, the endpoint may be frozen
  abbrev Reads : Service → Service → Option (List ℕ) → Type 0
  Reads a w o = Further a w × ((o ≡ None) ⊎ (may_freeze w.block ≡ true))

  pub reads-further : (a : Service) → let r = front_reads env (record { service = a; target = None }) in Reads a r.service r.target
  reads-further a = reading-keeps env (Further a) (Reads a) (record {
    answers = λ v n w may some within h. further-then a w (answered env Own v (serving_consumed n w)) h (answers v n w (may-parts w.block.reset w.block.send.finished w.over may).1);
    ends = λ n w may h. (further-then a w (ended_at_fin (serving_consumed n w)) h (stops n w (may-parts w.block.reset w.block.send.finished w.over may).0), inl refl);
    places = λ path w may h. (h, inr may);
    stops = λ w h. (h, inl refl);
  }) a (further-self a)
