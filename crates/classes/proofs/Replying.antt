-- The replies, by the order of their numbers. Assumes nothing.
use mathlib.Core.Path.{◌≡◌, refl, sym, ap, ◌∙◌}
use mathlib.Core.Bool.{true, false, cond}
use mathlib.Core.List.{List}
use Prim.Native.Nat.{ℕ}
use lib.Dec.{eqb}
use lib.IntN.{ℤ}
use lib.ListN.{length}
use mir.Syntax.{w64}
use Rattle.std.specs.Prelude.{Result, Ok, Err}
use Rattle.wire.specs.Signs.{placed}
use Rattle.records.specs.Book.{inside, instants}
use Rattle.lend.specs.Refusals.{number}
use Rattle.lend.proofs.Refusals.{refuses, number_once}
use Rattle.lend.specs.declared.refusal.Refusal.{Refusal}
use Rattle.rows.specs.Rows.{Row, good_row, good_rows, segments, rows}
use Rattle.rows.proofs.Laws.{rows_none}
use Rattle.classes.specs.Classes.{class_number, class_at, no_class, judged_class, class_reply, number_of, counted, no_count, judged_count, count_reply}
use Rattle.classes.specs.Reading.{class_told, count_told}
use Rattle.classes.specs.declared.Class.{Class}
use Rattle.classes.specs.declared.Class.TheVariants.{Trading, NotTrading, NotKnown, NotShown}
use Rattle.classes.specs.declared.ClassReply.{ClassReply}
use Rattle.classes.specs.declared.CountReply.{CountReply}
use Rattle.classes.specs.declared.counting.Counts.{Counts}

-- ---- no second answer fits: no two answers are told alike

abbrev class_by : ℕ → Class
class_by n = cond (eqb n 1) Trading (cond (eqb n 2) NotTrading (cond (eqb n 3) NotKnown NotShown))

class_back : (x : Class) → class_by (class_number x) ≡ x
class_back Trading = refl
class_back NotTrading = refl
class_back NotKnown = refl
class_back NotShown = refl

pub class_once : (r s : Result Class Refusal) → class_told r ≡ class_told s → r ≡ s
class_once (Ok x) (Ok y) e = ap Ok (sym (class_back x) ∙ ap (λ (r : ClassReply). class_by r.shown) e ∙ class_back y)
class_once (Ok x) (Err w) e = absurd (refuses w (sym (ap (λ (r : ClassReply). r.number) e)))
class_once (Err w) (Ok x) e = absurd (refuses w (ap (λ (r : ClassReply). r.number) e))
class_once (Err w) (Err v) e = ap Err (number_once w v (ap (λ (r : ClassReply). r.number) e))

abbrev counts_by : CountReply → Counts
counts_by r = record { venues = r.venues; trading = r.trading; not_trading = r.not_trading; not_known = r.not_known }

pub count_once : (r s : Result Counts Refusal) → count_told r ≡ count_told s → r ≡ s
count_once (Ok c) (Ok d) e = ap (λ (r : CountReply). Ok (counts_by r)) e
count_once (Ok c) (Err w) e = absurd (refuses w (sym (ap (λ (r : CountReply). r.number) e)))
count_once (Err w) (Ok c) e = absurd (refuses w (ap (λ (r : CountReply). r.number) e))
count_once (Err w) (Err v) e = ap Err (number_once w v (ap (λ (r : CountReply). r.number) e))

module _ (s : List ℕ) where
  module _ (at : ℤ) where
    pub class_outside : (w : Refusal) → inside instants at ≡ false → number w ≡ 10 → class_told (Err w) ≡ class_reply s at
    unfolding class_reply
    class_outside w i e = simp i (ap no_class e)

    pub class_judged : {r : ClassReply} → inside instants at ≡ true → r ≡ judged_class s (placed w64 at) → r ≡ class_reply s at
    unfolding class_reply
    class_judged i e = simp i e

    pub count_outside : (w : Refusal) → inside instants at ≡ false → number w ≡ 10 → count_told (Err w) ≡ count_reply s at
    unfolding count_reply
    count_outside w i e = simp i (ap no_count e)

    pub count_judged : {r : CountReply} → inside instants at ≡ true → r ≡ judged_count s (placed w64 at) → r ≡ count_reply s at
    unfolding count_reply
    count_judged i e = simp i e

  module _ (t : ℕ) where
    pub class_bad : (w : Refusal) → good_row s ≡ false → number w ≡ 15 → class_told (Err w) ≡ judged_class s t
    class_bad w g e = simp g (ap no_class e)

    pub class_good : (x : Class) → good_row s ≡ true → x ≡ class_at (segments s) t → class_told (Ok x) ≡ judged_class s t
    class_good x g e = simp g (ap (λ (x : Class). record { number = 0; shown = class_number x }) e)

    pub count_bad : (w : Refusal) → good_rows s ≡ false → number w ≡ 15 → count_told (Err w) ≡ judged_count s t
    count_bad w g e = simp g (ap no_count e)

    pub count_good : (c : Counts) → good_rows s ≡ true → count_told (Ok c) ≡ counted (rows s) t → count_told (Ok c) ≡ judged_count s t
    count_good c g e = simp g e

    -- no rows
    pub count_none : length s ≡ 0 → no_count 0 ≡ judged_count s t
    unfolding number_of
    count_none z = let n = rows_none s z in count_good _ n.0 (ap (λ (rs : List Row). counted rs t) (sym n.1))
