-- Windows that are plain and windows that are not, computed from the bytes of books: one statement over a table. Assumes nothing.
use Rattle.std.specs.Prelude.{ℕ, ◌+◌, ◌*◌, ◌≡◌, refl, Bool, true, false, List, [], ◌∷◌, map, ltb, ℤ, pos, negsuc}
use Rattle.wire.specs.Fields.{field, bytes, laid}
use Rattle.wire.specs.Signs.{meant}
use Rattle.zone.specs.Units.{second_ns, instant_of}
use Rattle.zone.specs.Zone.{last_offset, resolve}
use Rattle.zone.specs.Throughout.{reads_changes, reads_throughout}
use Rattle.records.specs.Limits.{base}
use Rattle.records.specs.Records.{Point, Record, coverage, transition, rule, body, encode, encode_all, points_at, times_at}
use Rattle.records.specs.Examples.{book_a}
use Rattle.records.specs.Book.{bad_frame, bad_fields, number_of, number_at, number_from, refusal, records_from, records}
use Rattle.venue.specs.Opening.{transitions_of, rules_of, events_of}
use Rattle.query.specs.Judging.{window_refusal}
use Rattle.day.specs.Governing.{governing_from}
use Rattle.plain.specs.Books.{Plain}
use Rattle.plain.specs.Deciding.{rises, plain_date, reaches, plain_window}
use Rattle.plain.specs.Deciding as Deciding

-- a window of a book, in seconds, and whether it is plain
pub record Case : Type 0 where
  pub book : List Record
  pub start : ℕ
  pub end : ℕ
  pub plain : Bool

-- from a second to another, by a first offset
abbrev covering : ℕ → ℕ → ℤ → Record
covering start end offset = coverage (record { start = pos (start * second_ns); end = pos (end * second_ns); offset = offset })

abbrev changing : ℕ → ℤ → Record
changing at offset = transition (record { at = pos at; offset = offset })

abbrev at : ℕ → ℕ → ℕ → Point
at hour minute phase = record { time = (hour * 60 + minute) * 60 * second_ns; phase = phase }

-- of 2026, on the weekdays of a mask
abbrev weekly : ℕ → List Point → Record
weekly mask points =
    rule
    (record {
      first = pos 20454;
      last = pos 20818;
      code = 0;
      mask = mask;
      label = 0;
      evidence = 1;
      derived = 0;
      uncertainty = record { tag = 0; nanoseconds = pos 0; text = 0 };
      points = points;
    })

-- New York's clock in 2026
abbrev new_york : List Record → List Record
new_york rules = covering 1767225600 1798761600 (negsuc 17999) ∷ changing 1772953200 (negsuc 14399) ∷ changing 1793512800 (negsuc 17999) ∷ rules

-- rules that do not govern weekends, and coverage that ends on Monday 2026-03-09 at 13:00Z
abbrev short : List Record
short =
    covering 1767225600 1773061200 (negsuc 17999) ∷ changing 1772953200 (negsuc 14399)
    ∷ weekly 31 (at 0 0 0 ∷ at 9 30 3 ∷ at 16 0 0 ∷ []) ∷ []

-- a clock that is never changed, and no rules
abbrev still : List Record
still = covering 0 1767225600 (pos 0) ∷ []

-- a clock that goes back over midnight: at 2026-01-05T23:30Z from 00:30 to 23:30
abbrev back : List Record
back = covering 1767225600 1798761600 (pos 3600) ∷ changing 1767655800 (pos 0) ∷ []

-- 02:30 of the date of New York's first change is taken as 03:30, after 03:00
abbrev falling : List Record
falling = new_york (weekly 127 (at 0 0 0 ∷ at 2 30 1 ∷ at 3 0 3 ∷ []) ∷ [])

-- a clock that skips the date 2026-01-06: at its midnight from 11 hours behind to 13 hours ahead
abbrev skipping : List Point → List Record
skipping points = covering 1767225600 1798761600 (negsuc 39599) ∷ changing 1767697200 (pos 46800) ∷ weekly 127 points ∷ []

-- New York's rules of every weekday, and of weekends
abbrev trading : List Record
trading = weekly 31 (at 0 0 0 ∷ at 9 30 3 ∷ at 16 0 0 ∷ []) ∷ weekly 96 (at 0 0 0 ∷ []) ∷ []

abbrev pub table : List Case
table =
    -- document 01's window of Book A
    record { book = book_a; start = 1767571200; end = 1767700800; plain = true }
    -- all of 2026 in New York, from midnight to midnight there
    ∷ record { book = new_york trading; start = 1767243600; end = 1798779600; plain = true }
    -- a clock change, dates that no rule governs, and the end of coverage: 2026-03-06 to 2026-03-09 there
    ∷ record { book = short; start = 1772773200; end = 1773115200; plain = true }
    -- 3,660 dates
    ∷ record { book = still; start = 0; end = 3660 * 86400; plain = true }
    -- over a date that is skipped: its two midnights are one instant, and its point converts to that
    ∷ record { book = skipping (at 0 0 0 ∷ []); start = 1767610800; end = 1767783600; plain = true }
    -- points out of order
    ∷ record { book = falling; start = 1772946000; end = 1773028800; plain = false }
    -- the next date: the date before it is not plain
    ∷ record { book = falling; start = 1773028800; end = 1773115200; plain = false }
    -- the last date before: the date behind it is not plain
    ∷ record { book = falling; start = 1772859600; end = 1772946000; plain = false }
    -- a date with instants that read the one before
    ∷ record { book = back; start = 1767654000; end = 1767700800; plain = false }
    -- over a date that is skipped, with a point that converts to after its next midnight
    ∷ record { book = skipping (at 0 0 0 ∷ at 8 0 3 ∷ []); start = 1767610800; end = 1767783600; plain = false }
    -- 3,661 dates
    ∷ record { book = still; start = 0; end = 3660 * 86400 + 1; plain = false }
    ∷ []

abbrev pub bytes_of : Case → List ℕ
bytes_of c = encode_all c.book

abbrev pub start_of : Case → ℤ
start_of c = pos (c.start * second_ns)

abbrev pub end_of : Case → ℤ
end_of c = pos (c.end * second_ns)

-- ---- each book is accepted, each window passes, and the test answers as the table does

abbrev refused : Case → ℕ
refused c = refusal base (bytes_of c) + window_refusal (start_of c) (end_of c)

pub accepted : map refused table ≡ map (λ (c : Case). 0) table
unfolding field bytes laid meant body encode encode_all points_at times_at bad_frame bad_fields number_of number_at number_from refusal window_refusal
accepted = refl

abbrev pub told : Case → Bool
told c = Deciding.plain (bytes_of c) (start_of c) (end_of c)

pub answers : map told table ≡ map (λ (c : Case). c.plain) table
unfolding field bytes laid meant body encode encode_all points_at times_at records_from records transitions_of rules_of events_of last_offset resolve governing_from reads_changes reads_throughout rises plain_date reaches plain_window
answers = refl

abbrev pub forward : Case → Bool
forward c = ltb (instant_of (start_of c)) (instant_of (end_of c))

pub forwards : map forward table ≡ map (λ (c : Case). true) table
forwards = refl

-- ---- what that says

abbrev pub Says : Bool → Type 0 → Type 0
Says true P = P
Says false P = P → ⊥

abbrev pub Each : (Case → Type 0) → List Case → Type 0
Each P [] = Unit {0}
Each P (c ∷ cs) = P c × Each P cs

-- the window is plain or not, as the table says
abbrev pub CaseHolds : Case → Type 0
CaseHolds c = Says c.plain (Plain (bytes_of c) (start_of c) (end_of c))
