-- What the private functions require and answer. Assumes nothing.
use Rattle.std.specs.Prelude.{ℕ, cond, List, eqb, ℤ, length}
use Rattle.wire.specs.Fields.{Inside, Put}
use Rattle.rows.specs.Rows.{segments}
use Rattle.timeline.specs.Asking.{window_answer}
use Rattle.book_query.specs.Judging.{window_number}
use Rattle.listing.specs.Listing.{room_number, row_text, head_line}

-- there is room for a text from `at` on
pub record TextFits (at : ℕ) (vs s : List ℕ) : Type 0 where
  pub inside : Inside at (length vs) s

-- it is written there
abbrev pub Puts : List ℕ → ℕ → List ℕ → List ℕ → ℕ → Type 0
Puts old at vs new next = Put old at vs (length vs) new next

-- the text of a book and a window, by the number that they get
abbrev pub window_text : List ℕ → ℤ → ℤ → List ℕ
window_text s start end =
    let n = room_number (window_number s start end) (window_answer s start end) in
    cond (eqb n 0) (row_text (segments (window_answer s start end))) (head_line n 0)
