-- No two answers have the same bytes. Assumes nothing.
use mathlib.Core.Path.{◌≡◌, refl, sym, ap, ap₂, ◌∙◌}
use mathlib.Core.List.{List, [], ◌∷◌, ◌++◌}
use Prim.Native.Nat.{ℕ}
use native.Mathlib.Omega.{arith}
use lib.ListN.{length, drop, length-append}
use Rattle.answer.specs.Forms.{Form, encode, encode_all}
use Rattle.answer.specs.Fitting.{Fitting}
use Rattle.answer.proofs.Readback.{encode_length, reads_back, fitting_narrow, fitting_sized, form_at, form_read}

drop_front : (xs ys : List ℕ) → drop (length xs) (xs ++ ys) ≡ ys
drop_front [] ys = refl
drop_front (x ∷ xs) ys = drop_front xs ys

front : (f : Form) (rest : List ℕ) → Fitting f → form_at (encode f ++ rest) 0 ≡ f
front f rest h = form_read (encode f ++ rest) 0 f h (reads_back f (fitting_narrow f h) [] rest)

-- the first record, and what stands behind it
first : (f g : Form) (xs ys : List ℕ) → Fitting f → Fitting g → encode f ++ xs ≡ encode g ++ ys → (f ≡ g) × (xs ≡ ys)
first f g xs ys h k e =
    let same : f ≡ g = sym (front f xs h) ∙ ap (λ (s : List ℕ). form_at s 0) e ∙ front g ys k in (
      same,
      sym (drop_front (encode f) xs) ∙ ap (drop (length (encode f))) e ∙ ap (λ (x : Form). drop (length (encode x)) (encode g ++ ys)) same ∙ drop_front (encode g) ys,
    )

some_bytes : (f : Form) (rest : List ℕ) → Fitting f → length (encode f ++ rest) ≡ 0 → ⊥
some_bytes f rest h e = omega (arith, length-append (encode f) rest, encode_length f (fitting_sized f h))

abbrev pub AllFitting : List Form → Type 0
AllFitting [] = Unit {0}
AllFitting (f ∷ fs) = Fitting f × AllFitting fs

pub answers_once : (fs gs : List Form) → AllFitting fs → AllFitting gs → encode_all fs ≡ encode_all gs → fs ≡ gs
unfolding encode_all
answers_once [] [] h k e = refl
answers_once [] (g ∷ gs) h k e = absurd (some_bytes g (encode_all gs) k.0 (sym (ap length e)))
answers_once (f ∷ fs) [] h k e = absurd (some_bytes f (encode_all fs) h.0 (ap length e))
answers_once (f ∷ fs) (g ∷ gs) h k e =
    let w = first f g (encode_all fs) (encode_all gs) h.0 k.0 e in
    ap₂ (λ (x : Form) (xs : List Form). x ∷ xs) w.0 (answers_once fs gs h.1 k.1 w.1)
