-- A byte string that is accepted is the encoding of a valid list of records, and every such encoding is accepted. Assumes nothing.
use mathlib.Core.Path.{◌≡◌, refl, sym, ap, ap₂, ◌∙◌}
use mathlib.Core.Bool.{false, cond}
use mathlib.Core.List.{List, [], ◌∷◌, ◌++◌, append_assoc}
use Prim.Native.Nat.{ℕ, zero, suc, ◌+◌, ◌≤◌, ◌<◌}
use native.Mathlib.Decide.{dec_lt}
use native.Mathlib.Omega.{arith}
use borrow.Author.Tests.{ltb-false, le-ltb, le-leb, lt-leb}
use lib.Dec.{ltb, eqb, eqb-suc-zero}
use lib.ListN.{length, drop, length-append, drop_of_length-le}
use Rattle.records.specs.Limits.{Limits}
use Rattle.records.specs.Records.{Record, encode, encode_all, record_at}
use Rattle.records.specs.Book.{next_at, bad_frame, number_of, number_at, number_from, refusal, records_from, records}
use Rattle.records.specs.Valid.{Bytes, Fits, Valid, Countable}
use Rattle.records.proofs.Frames.{framed}
use Rattle.records.proofs.Cascade.{Passed, passed, passed_all, all_passed}
use Rattle.records.proofs.Laid.{bytes_append, laid_bytes}
use Rattle.records.proofs.Encoding.{all_fields, encode_laid, encode_length, framed_stands, splits, encoded, behind, good_frame, read}
use Rattle.records.proofs.Widths.{all_narrow}
use Rattle.records.proofs.Following.{Follow, follow_headed, follow_few, follow_sound, follow_apart, valid_follow}

-- ---- the encoding's elements are bytes

pub encoded_bytes : (rs : List Record) → Bytes (encode_all rs)
unfolding encode_all
encoded_bytes [] = λ k. omega arith
encoded_bytes (r ∷ rs) = bytes_append (encode r) (encode_all rs) (rw (encode_laid r) (laid_bytes (all_fields r))) (encoded_bytes rs)

-- ---- one turn of the walks

-- the first number that is not 0 decides
first_number : (n rest : ℕ) → cond (eqb n 0) rest n ≡ 0 → (n ≡ 0) × (rest ≡ 0)
first_number zero rest e = (refl, e)
first_number (suc n) rest e = let z : suc n ≡ 0 = rw (eqb-suc-zero n) at e in absurd (omega arith)

module _ (s : List ℕ) where
  records_end : (turns at : ℕ) → length s ≤ at → records_from s turns at ≡ []
  unfolding records_from
  records_end zero at h = refl
  records_end (suc turns) at h = simp (le-leb (length s) at h)

  records_turn : (turns at : ℕ) → at < length s → records_from s (suc turns) at ≡ record_at s at ∷ records_from s turns (next_at s at)
  unfolding records_from
  records_turn turns at h = simp (lt-leb (length s) at h)

  module _ (l : Limits) where
    number_end : (turns at : ℕ) (before : List Record) → length s ≤ at → number_from l s turns at before ≡ 0
    unfolding number_from
    number_end zero at before h = refl
    number_end (suc turns) at before h = simp (le-leb (length s) at h)

    number_turn : (turns at : ℕ) (before : List Record) → at < length s → number_at l s at before ≡ 0
        → number_from l s (suc turns) at before ≡ number_from l s turns (next_at s at) (record_at s at ∷ before)
    unfolding number_from
    number_turn turns at before h e = simp (lt-leb (length s) at h, e)

    -- the turn found no number
    turn_passed : (turns at : ℕ) (before : List Record) → at < length s → number_from l s (suc turns) at before ≡ 0
        → (number_at l s at before ≡ 0) × (number_from l s turns (next_at s at) (record_at s at ∷ before) ≡ 0)
    unfolding number_from
    turn_passed turns at before h e =
        first_number (number_at l s at before) (number_from l s turns (next_at s at) (record_at s at ∷ before)) (rw (lt-leb (length s) at h) at e)

    at_passed : (at : ℕ) (before : List Record) → number_at l s at before ≡ 0 → (bad_frame s at ≡ false) × (number_of l before (record_at s at) ≡ 0)
    unfolding number_at
    at_passed at before e = passed (bad_frame s at) 2 (number_of l before (record_at s at)) (omega arith) e

    passed_at : (at : ℕ) (before : List Record) (r : Record) → bad_frame s at ≡ false → record_at s at ≡ r → number_of l before r ≡ 0
        → number_at l s at before ≡ 0
    unfolding number_at
    passed_at at before r b i e = rw b (ap (number_of l before) i ∙ e)

-- ---- from the bytes to the records

module _ (l : Limits) (s : List ℕ) (b : Bytes s) where
  -- from `at` on, after the records before it
  taken : (turns at : ℕ) (before : List Record) → at ≤ length s → length s ≤ at + turns → number_from l s turns at before ≡ 0
      → Follow l before (records_from s turns at) × (encode_all (records_from s turns at) ≡ drop at s)
  unfolding encode_all
  taken zero at before k h e = rw (records_end s zero at (omega arith)) (tt, sym (drop_of_length-le s {i = at} (omega arith)))
  taken (suc turns) at before k h e =
      elim (dec_lt at (length s)) [
        | yes i ↦
            let p = turn_passed s l turns at before i e in
            let q = at_passed s l at before p.0 in
            let f = framed s at q.0 in
            let r = record_at s at in
            let st = framed_stands s b at f in
            let on = taken turns (next_at s at) (r ∷ before) f.whole (omega arith) p.1 in
            rw (records_turn s turns at i)
            ((passed_all l before r q.1, st.1, on.0), ap (λ (t : List ℕ). encode r ++ t) on.1 ∙ sym (splits s b at r st.0 f.whole))
        | no i ↦ rw (records_end s (suc turns) at (omega arith)) (tt, sym (drop_of_length-le s {i = at} (omega arith)))
      ]

-- an accepted byte string is the encoding of its records, and they are valid
pub accepted : (l : Limits) (s : List ℕ) → Bytes s → refusal l s ≡ 0 → Valid l (records s) × (encode_all (records s) ≡ s)
unfolding refusal records
accepted l s b e =
    let p = passed (ltb l.bytes (length s)) 1 _ (omega arith) e in
    let t = taken l s b (length s) 0 [] (omega arith) (omega arith) p.1 in
    let f = t.0 in
    let same : encode_all (records s) ≡ s = t.1 in (
      record {
        short = rw same (ltb-false l.bytes (length s) p.0);
        headed = follow_headed l (records s) f;
        few = follow_few l (records s) f;
        sound = follow_sound l [] (records s) f;
        apart = follow_apart l (records s) f;
      },
      same,
    )

-- ---- from the records to the bytes

-- at `at` s has the encoding of r, and behind it the bytes t
record Step (l : Limits) (before : List Record) (r : Record) (s a t : List ℕ) (at : ℕ) : Type 0 where
  number : number_at l s at before ≡ 0
  reads : record_at s at ≡ r
  left : at < length s
  goes : next_at s at ≡ length (a ++ encode r)
  rest : s ≡ (a ++ encode r) ++ t

module _ (l : Limits) (c : Countable l) where
  one_step : (before : List Record) (r : Record) → Passed l before r → Fits r → (s a t : List ℕ) (at : ℕ) → s ≡ a ++ (encode r ++ t) → at ≡ length a
      → Step l before r s a t at
  one_step before r p f s a t at e i =
      let n = all_narrow l c r f p.fields in
      let st = encoded r n.0 s a t at e i in
      let d = behind r s at st in
      let long : length s ≡ length a + (length (encode r) + length t) = rw (e, length-append a (encode r ++ t), length-append (encode r) t) in
      let m = encode_length r in
      let is = read r n.1 s at st in
      record {
        number = passed_at s l at before r (good_frame r s at st (omega arith)) is (all_passed l before r p);
        reads = is;
        left = omega arith;
        goes = omega (arith, length-append a (encode r));
        rest = e ∙ sym (append_assoc a (encode r) t);
      }

  -- from `at` on, after the records before it
  given : (rs before : List Record) → Follow l before rs → (s a : List ℕ) (turns at : ℕ) → s ≡ a ++ encode_all rs → at ≡ length a → length s ≤ at + turns
      → (number_from l s turns at before ≡ 0) × (records_from s turns at ≡ rs)
  unfolding encode_all
  given [] before f s a turns at e i h =
      let n : length s ≤ at = omega (arith, ap length e, length-append {A = ℕ} a []) in
      (number_end s l turns at before n, records_end s turns at n)
  given (r ∷ rs) before f s a zero at e i h = absurd (omega (arith, (one_step before r f.0 f.1 s a (encode_all rs) at e i).left))
  given (r ∷ rs) before f s a (suc turns) at e i h =
      let n = one_step before r f.0 f.1 s a (encode_all rs) at e i in
      let on = given rs (r ∷ before) f.2 s (a ++ encode r) turns (next_at s at) n.rest n.goes (omega arith) in (
        number_turn s l turns at before n.left n.number ∙ ap (λ (q : Record). number_from l s turns (next_at s at) (q ∷ before)) n.reads ∙ on.0,
        records_turn s turns at n.left ∙ ap₂ ◌∷◌ n.reads on.1,
      )

-- the encoding of a valid list is accepted, and its records are that list
pub valid_accepted : (l : Limits) → Countable l → (rs : List Record) → Valid l rs → (refusal l (encode_all rs) ≡ 0) × (records (encode_all rs) ≡ rs)
unfolding refusal records
valid_accepted l c rs v =
    let s = encode_all rs in
    let g = given l c rs [] (valid_follow l rs v) s [] (length s) 0 refl refl (omega arith) in
    (rw (le-ltb l.bytes (length s) v.short) g.0, g.1)

-- no two valid lists have the same bytes
pub unique : (l : Limits) → Countable l → (rs rs' : List Record) → Valid l rs → Valid l rs' → encode_all rs ≡ encode_all rs' → rs ≡ rs'
unique l c rs rs' v v' e = sym (valid_accepted l c rs v).1 ∙ ap records e ∙ (valid_accepted l c rs' v').1
