-- What the functions require and answer: what a segment shows, a row's class in one reading, and rows counted. Assumes nothing.
use Rattle.std.specs.Prelude.{ℕ, ◌+◌, ◌^◌, ◌≤◌, ◌<◌, ◌≡◌, Bool, true, false, cond, List, [], ◌∷◌, length}
use Rattle.std.specs.Prelude.{Option, Some, None, Result, Ok, Err}
use Rattle.lend.specs.Refusals.{number}
use Rattle.lend.specs.declared.refusal.Refusal.{Refusal}
use Rattle.spans.specs.Spans.{Mark, Span, holds}
use Rattle.rows.specs.Rows.{segments_at}
use Rattle.rows.specs.Telling.{mark_of, good_on, mark_at, rows_at}
use Rattle.rows.specs.declared.RowSegment.{RowSegment}
use Rattle.classes.specs.Classes.{class_of, class_at, class_number, one}
use Rattle.classes.specs.declared.Class.{Class}
use Rattle.classes.specs.declared.Class.TheVariants.{Trading, NotTrading, NotKnown, NotShown}
use Rattle.classes.specs.declared.classing.Classed.{Classed}
use Rattle.classes.specs.declared.ClassReply.{ClassReply}
use Rattle.classes.specs.declared.CountReply.{CountReply}
use Rattle.classes.specs.declared.counting.Counts.{Counts}

-- what a segment shows, and from when to when
abbrev pub marks : RowSegment → Span Mark
marks g = record { from = g.from.0; to = g.to.0; body = mark_of g.shows }

-- ---- classes

-- by a segment alone
abbrev pub class_in : RowSegment → ℕ → Class
class_in g t = cond (holds (marks g) t) (class_of (Some (mark_of g.shows))) NotShown

abbrev pub first_of : Class → Class → Class
first_of Trading y = Trading
first_of NotTrading y = NotTrading
first_of NotKnown y = NotKnown
first_of NotShown y = y

-- a row from `at` on that nothing follows: its class x
pub record Only (marks : Bool) (s : List ℕ) (at t : ℕ) (x : Class) : Type 0 where
  pub good : good_on marks s at 0 0 ≡ true
  pub shown : x ≡ class_at (segments_at s at) t
  pub rows : rows_at s (mark_at s at) ≡ []

-- a row that a mark follows, and behind it another row, from b on
pub record Another (marks : Bool) (s : List ℕ) (at t : ℕ) (x : Class) (b : ℕ) : Type 0 where
  pub allowed : marks ≡ true
  pub good : good_on marks s at 0 0 ≡ good_on marks s b 0 0
  pub shown : x ≡ class_at (segments_at s at) t
  pub number : ℕ
  pub rows : rows_at s (mark_at s at) ≡ record { number = number; segments = segments_at s b } ∷ rows_at s (mark_at s b)
  pub after : at < b
  pub inside : b ≤ length s

-- a row from `at` on, by where the next one begins
abbrev pub Followed : Bool → List ℕ → ℕ → ℕ → Class → Option ℕ → Type 0
Followed marks s at t x None = Only marks s at t x
Followed marks s at t x (Some b) = Another marks s at t x b

-- 15, or the class of the row and where the next one begins
abbrev pub Classes : Bool → List ℕ → ℕ → ℕ → Result Classed ℕ → Type 0
Classes marks s at t (Err n) = (n ≡ 15) × (good_on marks s at 0 0 ≡ false)
Classes marks s at t (Ok c) = Followed marks s at t c.shown c.next

-- the class as it is handed over
abbrev pub class_told : Result Class Refusal → ClassReply
class_told (Ok x) = record { number = 0; shown = class_number x }
class_told (Err r) = record { number = number r; shown = 0 }

-- ---- counts

-- each has room for one more
pub record Few (c : Counts) : Type 0 where
  pub venues : c.venues + 1 < 2 ^ 64
  pub trading : c.trading ≤ c.venues
  pub not_trading : c.not_trading ≤ c.venues
  pub not_known : c.not_known ≤ c.venues

pub record Added (c : Counts) (x : Class) (r : Counts) : Type 0 where
  pub venues : r.venues ≡ c.venues + 1
  pub trading : r.trading ≡ c.trading + one Trading x
  pub not_trading : r.not_trading ≡ c.not_trading + one NotTrading x
  pub not_known : r.not_known ≡ c.not_known + one NotKnown x

-- counts as they are handed over: all 0 beside a refusal
abbrev pub count_told : Result Counts Refusal → CountReply
count_told (Ok c) =
    record { number = 0; venues = c.venues; trading = c.trading; not_trading = c.not_trading; not_known = c.not_known }
count_told (Err r) = record { number = number r; venues = 0; trading = 0; not_trading = 0; not_known = 0 }
