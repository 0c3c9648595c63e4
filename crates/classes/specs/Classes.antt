-- A row's class at an instant, and how many rows are of each class. Document 01, "Board". Assumes nothing.
use Rattle.std.specs.Prelude.{ℕ, ◌+◌, cond, List, [], ◌∷◌, eqb, ℤ, length}
use Rattle.std.specs.Prelude.{Option, None, Some}
use Rattle.std.specs.Int.{w64}
use Rattle.wire.specs.Signs.{placed}
use Rattle.records.specs.Book.{inside, instants, trading}
use Rattle.spans.specs.Spans.{Mark, phase, unknown, Span}
use Rattle.rows.specs.Rows.{Seen, Row, good_row, good_rows, segments, rows, shown_at}
use Rattle.classes.specs.declared.Class.{Class}
use Rattle.classes.specs.declared.Class.TheVariants.{Trading, NotTrading, NotKnown, NotShown}
use Rattle.classes.specs.declared.ClassReply.{ClassReply}
use Rattle.classes.specs.declared.CountReply.{CountReply}

-- trading, not trading, not known, or not shown where no segment stands
abbrev pub class_of : Option Mark → Class
class_of None = NotShown
class_of (Some unknown) = NotKnown
class_of (Some (phase p e)) = cond (trading p) Trading NotTrading

abbrev pub class_at : List (Span Seen) → ℕ → Class
class_at ss t = class_of (shown_at ss t)

-- the numbers that are handed over; 0 stands only beside a refusal
abbrev pub class_number : Class → ℕ
class_number Trading = 1
class_number NotTrading = 2
class_number NotKnown = 3
class_number NotShown = 4

-- how many of the rows are of the class x
abbrev pub one : Class → Class → ℕ
one x y = cond (eqb (class_number x) (class_number y)) 1 0

unfoldable pub number_of : Class → List Row → ℕ → ℕ
number_of x [] t = 0
number_of x (r ∷ rs) t = one x (class_at r.segments t) + number_of x rs t

-- a class; 15 for bytes that are no good row; 10 for an instant outside its range
abbrev pub no_class : ℕ → ClassReply
no_class number = record { number = number; shown = 0 }

abbrev pub judged_class : List ℕ → ℕ → ClassReply
judged_class row t = cond (good_row row) (record { number = 0; shown = class_number (class_at (segments row) t) }) (no_class 15)

unfoldable pub class_reply : List ℕ → ℤ → ClassReply
class_reply row at = cond (inside instants at) (judged_class row (placed w64 at)) (no_class 10)

-- each row is a venue; a row that shows nothing adds to nothing else
abbrev pub counted : List Row → ℕ → CountReply
counted rs t =
    record {
      number = 0;
      venues = length rs;
      trading = number_of Trading rs t;
      not_trading = number_of NotTrading rs t;
      not_known = number_of NotKnown rs t;
    }

-- the counts; 15 for bytes that are no good rows; 10 for an instant outside its range
abbrev pub no_count : ℕ → CountReply
no_count number = record { number = number; venues = 0; trading = 0; not_trading = 0; not_known = 0 }

abbrev pub judged_count : List ℕ → ℕ → CountReply
judged_count bytes t = cond (good_rows bytes) (counted (rows bytes) t) (no_count 15)

unfoldable pub count_reply : List ℕ → ℤ → CountReply
count_reply bytes at = cond (inside instants at) (judged_count bytes (placed w64 at)) (no_count 10)
