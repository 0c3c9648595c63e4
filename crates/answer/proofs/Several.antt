-- Records one behind the other: one alone, and two lists in a row. Assumes nothing.
use mathlib.Core.Path.{◌≡◌, refl, sym, ap, ◌∙◌}
use mathlib.Core.List.{List, [], ◌∷◌, ◌++◌, append_assoc, append-nil}
use Prim.Native.Nat.{ℕ, ◌+◌}
use lib.ListN.{length, length-append}
use Rattle.answer.specs.Forms.{Form, encode, encode_all}

pub one_form : (f : Form) → encode f ≡ encode_all (f ∷ [])
unfolding encode_all
one_form f = sym (append-nil (encode f))

pub encode_append : (fs gs : List Form) → encode_all (fs ++ gs) ≡ encode_all fs ++ encode_all gs
unfolding encode_all
encode_append [] gs = refl
encode_append (f ∷ fs) gs = ap (λ (s : List ℕ). encode f ++ s) (encode_append fs gs) ∙ sym (append_assoc (encode f) (encode_all fs) (encode_all gs))

pub append_length : (fs gs : List Form) → length (encode_all (fs ++ gs)) ≡ length (encode_all fs) + length (encode_all gs)
append_length fs gs = ap length (encode_append fs gs) ∙ length-append (encode_all fs) (encode_all gs)
