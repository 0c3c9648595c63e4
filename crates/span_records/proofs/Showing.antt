-- A record of kind 16 and its events, as one answer. Assumes nothing.
use mathlib.Core.Path.{◌≡◌, refl, ap, ◌∙◌}
use mathlib.Core.List.{List, map}
use Prim.Native.Nat.{ℕ, ◌+◌, ◌*◌}
use native.Mathlib.Omega.{arith}
use lib.ListN.{length, length-append}
use Rattle.wire.specs.Fields.{Inside, Put}
use Rattle.wire.proofs.Writing.{also}
use Rattle.answer.specs.Forms as Forms
use Rattle.answer.specs.Forms.{phase, encode, encode_all, phase_size, event_size}
use Rattle.answer.proofs.Readback.{encode_length}
use Rattle.span_records.specs.Shown.{Shown, head_form, event_form, shown_forms}
use Rattle.span_records.proofs.Trailing.{events_length}

module _ (from to : ℕ) (x : Shown) where
  pub shown_length : length (encode_all (shown_forms from to x)) ≡ phase_size + event_size * length x.events
  unfolding encode_all
  shown_length =
      let head = phase (head_form from to x.held x.whole (length x.events)) in
      omega (arith, length-append (encode head) (encode_all (map event_form x.events)), encode_length head tt, events_length x.events)

  -- the one written, then the others behind it
  pub shown_put : {room now left : List ℕ} {at place next n k : ℕ} {p : Forms.Phase} → n ≡ length x.events → p ≡ head_form from to x.held x.whole n
      → Put room at (encode (phase p)) phase_size now place → Put now place (encode_all (map event_form x.events)) k left next → Inside at (phase_size + k) room
      → Put room at (encode_all (shown_forms from to x)) (phase_size + k) left next
  unfolding encode_all
  shown_put {k = k} e q h w f =
      let same = q ∙ ap (head_form from to x.held x.whole) e in
      also (phase_size + k) (rw same at h) w refl f
