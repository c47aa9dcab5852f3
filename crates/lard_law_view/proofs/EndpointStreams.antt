-- An endpoint between two streams: it speaks one and hears the other, whatever befalls it.
use Rattle.std.proofs.Common.{◌≡◌, ◌≤◌, ◌<◌, ◌+◌, ◌^◌, ℕ, false, List, [], ◌++◌, length, refl, ap, ◌∙◌, sym, subst}
use Rattle.lard_law_view.specs.Prelude.{ControlBlock, GoesOn, Hears, IsControlBlock, IsStream, IsTrueOf, Received, Said, Speaks, Stream, after_emit, after_timer, arrived, consuming, discarding_on, finishing, listening, on_segment, queueing, stream_of}
use Rattle.lard_endpoint.proofs.Sound.{on_segment-sound, after_emit-sound, after_timer-sound}
use Rattle.lard_law_view.proofs.Endpoint.{emit-left, timer-left, arriving-speaks, arriving-hears, listening-begins}
use Rattle.lard_rules.proofs.Hearing.{segment-keeps}
use Rattle.lard_law_view.proofs.StreamHearing.{heard-consumed, heard-discarded}
use Rattle.lard_law_view.proofs.Speaking.{speaks-queued, speaks-closed}

-- it speaks the stream out, and hears w
pub record IsBetween (w out : Stream) (b : ControlBlock) : Type 0 where
  pub same_irs : b.send.irs ≡ b.recv.irs
  pub speaks : Speaks b.send out.bytes
  pub out_is : out ≡ stream_of b.send out.bytes
  pub hears : Hears w b.recv

pub between-sound : (w out : Stream) (b : ControlBlock) → IsBetween w out b → IsControlBlock b
between-sound w out b h = record { received = h.hears.sound; sending = h.speaks.sound; same_irs = h.same_irs }

-- its stream goes on, and ends with these bytes
pub record Onward (w out : Stream) (bytes : List ℕ) (b : ControlBlock) : Type 0 where
  pub next : Stream
  pub longer : GoesOn out next
  pub bytes_are : next.bytes ≡ bytes
  pub between : IsBetween w next b

module _ (w out : Stream) (b : ControlBlock) (h : IsBetween w out b) where
  -- ---- what changes neither stream
  pub between-emitted : IsBetween w out (after_emit b)
  between-emitted =
      let left = emit-left b out.bytes h.speaks in
      record {
        same_irs = (after_emit-sound b (between-sound w out b h)).same_irs;
        speaks = left.0;
        out_is = h.out_is ∙ sym left.1;
        hears = subst (λ (r : Received). Hears w r) (sym left.2) h.hears;
      }

  pub between-timed : IsBetween w out (after_timer b)
  between-timed =
      let left = timer-left b out.bytes h.speaks in
      record {
        same_irs = (after_timer-sound b (between-sound w out b h)).same_irs;
        speaks = left.0;
        out_is = h.out_is ∙ sym left.1;
        hears = subst (λ (r : Received). Hears w r) (sym left.2) h.hears;
      }

  pub between-arrived : (s : Said) → IsStream w → IsTrueOf w s → IsBetween w out (on_segment b s).1
  between-arrived s is t =
      let spoken = arriving-speaks b out.bytes s h.speaks in
      record {
        same_irs = (on_segment-sound b s (between-sound w out b h)).same_irs;
        speaks = spoken.0;
        out_is = h.out_is ∙ sym spoken.1;
        hears = arriving-hears w b s is h.hears t;
      }

  pub between-consumed : (n : ℕ) → IsBetween w out (consuming b n)
  between-consumed n = record { same_irs = h.same_irs; speaks = h.speaks; out_is = h.out_is; hears = heard-consumed w b.recv n h.hears }

  pub between-discarded : IsBetween w out (discarding_on b)
  between-discarded = record { same_irs = h.same_irs; speaks = h.speaks; out_is = h.out_is; hears = heard-discarded w b.recv h.hears }

  -- ---- what its owner has it say
  pub onward-queued : (bytes : List ℕ) → b.send.finished ≡ false → length out.bytes + length bytes ≤ 2 ^ 30 → Onward w out (out.bytes ++ bytes) (queueing b bytes)
  onward-queued bytes open_ le =
      let said = speaks-queued b.send out.bytes bytes open_ le h.speaks in
      let next : Stream = stream_of (queueing b bytes).send (out.bytes ++ bytes) in
      record {
        next = next;
        longer = subst (λ (x : Stream). GoesOn x next) (sym h.out_is) said.1;
        bytes_are = refl;
        between = record { same_irs = h.same_irs; speaks = said.0; out_is = refl; hears = h.hears };
      }

  pub onward-finished : Onward w out out.bytes (finishing b)
  onward-finished =
      let said = speaks-closed b.send out.bytes h.speaks in
      let next : Stream = stream_of (finishing b).send out.bytes in
      record {
        next = next;
        longer = subst (λ (x : Stream). GoesOn x next) (sym h.out_is) said.1;
        bytes_are = refl;
        between = record { same_irs = h.same_irs; speaks = said.0; out_is = refl; hears = h.hears };
      }

-- ---- the beginning
pub between-begun : (w out : Stream) (s : Said) → out.first < 2 ^ 32 → out.bytes ≡ [] → out.ended ≡ false → s.seq ≡ w.first → IsBetween w out (listening s out.first)
between-begun w out s number none open_ first =
    let begun = listening-begins w s out.first number first in
    record {
      same_irs = refl;
      speaks = subst (λ (bytes : List ℕ). Speaks (listening s out.first).send bytes) (sym none) begun.1;
      out_is = λ i. record { first = out.first; bytes = out.bytes; ended = open_ i };
      hears = begun.0;
    }

-- ---- what a segment does to the receiving half

-- it takes the segment's data, or leaves all as it was
pub segment-takes : (P : Received → Type 0) (s : Said) (b : ControlBlock) → P b.recv → P (arrived b.recv s.seq s.payload s.flags.fin) → P (on_segment b s).1.recv
segment-takes P s b h k = segment-keeps b s (λ d. P d.recv) (record { rests = λ owed. h; resets = λ t. h; acks = λ owed c. h; comes = λ c some. k })

-- ---- what was read stays read

-- two endpoints between the same streams have finished alike
pub same-finished : (w out : Stream) (b d : ControlBlock) → IsBetween w out b → IsBetween w out d → d.send.finished ≡ b.send.finished
same-finished w out b d h k = sym (ap (λ x. x.ended) k.out_is) ∙ ap (λ x. x.ended) h.out_is
