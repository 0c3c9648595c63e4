-- A window asked of a book: what is known by each answer. Assumes nothing.
use mathlib.Core.Path.{◌≡◌, refl, sym, ap, ap₂, ◌∙◌}
use mathlib.Core.Bool.{Bool, cond}
use mathlib.Core.List.{List}
use Rattle.std.specs.Prelude.{Option, None, Some, Result, Ok, Err}
use Prim.Native.Nat.{ℕ}
use borrow.Author.Tests.{eq-eqb, ne_eqb}
use lib.IntN.{ℤ}
use mir.Syntax.{w64}
use mir.Val.{SFits, of_z, to_z}
use mir.ValLaws.{to_z-of_z}
use Rattle.zone.specs.declared.Instant.{Instant}
use Rattle.zone.specs.declared.Interval.{Interval}
use Rattle.records.specs.Limits.{base}
use Rattle.records.specs.Book.{refusal, records}
use Rattle.venue.specs.Opening.{coverage_of, opened}
use Rattle.venue.specs.declared.opened.Header.{Header}
use Rattle.venue.proofs.Known.{opened_refused, opened_empty, opened_venue, Known}
use Rattle.query.specs.Judging.{window_refusal, window_of}
use Rattle.query.proofs.Windows.{Windowed, window_between, window_refused}
use Rattle.book_query.specs.Judging.{window_number, judged_by}

-- a venue without data, and a window that passes
pub record Blanked (s : List ℕ) (m n : ℤ) (a b : Instant) : Type 0 where
  pub passed : window_number s m n ≡ 0
  pub uncovered : coverage_of (records s) ≡ None
  pub window : Windowed m n a b

-- a venue, and a window that passes
pub record Named (s : List ℕ) (m n : ℤ) (h : Header) (a b : Instant) : Type 0 where
  pub passed : window_number s m n ≡ 0
  pub known : Known s h
  pub window : Windowed m n a b

-- ---- the answers

abbrev Opened : Type 0
Opened = Result (Option Header) ℕ

abbrev Window : Type 0
Window = Result Interval ℕ

abbrev Judged : Type 0
Judged = Result (Option Header × Interval) ℕ

abbrev number_judged : Judged → ℕ
number_judged (Err n) = n
number_judged (Ok j) = 0

module _ (s : List ℕ) (m n : ℤ) where
  -- ---- the number

  of_book : (refusal base s ≡ 0 → ⊥) → refusal base s ≡ window_number s m n
  unfolding window_number
  of_book e = sym (ap (λ (b : Bool). cond b (window_refusal m n) (refusal base s)) (ne_eqb (refusal base s) 0 e))

  of_window : refusal base s ≡ 0 → window_refusal m n ≡ window_number s m n
  unfolding window_number
  of_window z = sym (ap (λ (b : Bool). cond b (window_refusal m n) (refusal base s)) (eq-eqb (refusal base s) 0 z))

  -- ---- the answers, of a window as it was passed

  pub judged_as : {o : Opened} {j : Judged} → SFits w64 m → SFits w64 n → o ≡ opened s
      → j ≡ judged_by o (window_of (to_z w64 (of_z w64 m)) (to_z w64 (of_z w64 n)))
      → j ≡ judged_by (opened s) (window_of m n)
  judged_as x y e f = f ∙ ap₂ judged_by e (ap₂ window_of (to_z-of_z w64 m x) (to_z-of_z w64 n y))

  pub judged_refused : {k : ℕ} → Err k ≡ judged_by (opened s) (window_of m n) → (k ≡ window_number s m n) × (k ≡ 0 → ⊥)
  judged_refused {k} e = go (opened s) refl (window_of m n) refl e
    where
      window : refusal base s ≡ 0 → (x : ℕ) → Err x ≡ window_of m n → k ≡ x → (k ≡ window_number s m n) × (k ≡ 0 → ⊥)
      window z x j q = let r = window_refused m n j in (q ∙ r.0 ∙ of_window z, λ y. r.1 (sym q ∙ y))

      go : (o : Opened) → o ≡ opened s → (w : Window) → w ≡ window_of m n → ◌≡◌ {A = Judged} (Err k) (judged_by o w)
          → (k ≡ window_number s m n) × (k ≡ 0 → ⊥)
      go (Err x) i w j q =
          let r = opened_refused s x i in
          let p : k ≡ x = ap number_judged q in
          (p ∙ r.0 ∙ of_book r.1, λ y. r.1 (sym r.0 ∙ sym p ∙ y))
      go (Ok None) i (Err x) j q = window (opened_empty s i).0 x j (ap number_judged q)
      go (Ok (Some h)) i (Err x) j q = window (opened_venue s h i).accepted x j (ap number_judged q)
      go (Ok h) i (Ok w) j q = absurd (cc)

  pub judged_blank : {w : Interval} → Ok (None, w) ≡ judged_by (opened s) (window_of m n) → Blanked s m n w.start w.end
  judged_blank {w} e = go (opened s) refl (window_of m n) refl e
    where
      go : (o : Opened) → o ≡ opened s → (x : Window) → x ≡ window_of m n → ◌≡◌ {A = Judged} (Ok (None, w)) (judged_by o x) → Blanked s m n w.start w.end
      go (Err k) i x j q = absurd (cc)
      go (Ok h) i (Err k) j q = absurd (cc)
      go (Ok h) i (Ok x) j q =
          let both : ◌≡◌ {A = Option Header × Interval} (None, w) (h, x) = cc in
          let e : Ok None ≡ opened s = ap (λ (y : Option Header × Interval). Ok y.0) both ∙ i in
          let f : Ok w ≡ window_of m n = ap (λ (y : Option Header × Interval). Ok y.1) both ∙ j in
          let r = opened_empty s e in
          let k = window_between m n f in
          record { passed = sym (of_window r.0) ∙ k.passed; uncovered = r.1; window = k }

  pub judged_venue : {h : Header} {w : Interval} → Ok (Some h, w) ≡ judged_by (opened s) (window_of m n) → Named s m n h w.start w.end
  judged_venue {h} {w} e = go (opened s) refl (window_of m n) refl e
    where
      go : (o : Opened) → o ≡ opened s → (x : Window) → x ≡ window_of m n → ◌≡◌ {A = Judged} (Ok (Some h, w)) (judged_by o x)
          → Named s m n h w.start w.end
      go (Err k) i x j q = absurd (cc)
      go (Ok g) i (Err k) j q = absurd (cc)
      go (Ok g) i (Ok x) j q =
          let both : ◌≡◌ {A = Option Header × Interval} (Some h, w) (g, x) = cc in
          let e : Ok (Some h) ≡ opened s = ap (λ (y : Option Header × Interval). Ok y.0) both ∙ i in
          let f : Ok w ≡ window_of m n = ap (λ (y : Option Header × Interval). Ok y.1) both ∙ j in
          let r = opened_venue s h e in
          let k = window_between m n f in
          record { passed = sym (of_window r.accepted) ∙ k.passed; known = r; window = k }
