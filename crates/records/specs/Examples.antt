-- Document 01's Book A, and small books that are refused, computed. Assumes nothing.
use Rattle.std.specs.Prelude.{ℕ, ◌*◌, ◌≡◌, refl, List, [], ◌∷◌, ◌++◌, map, ℤ, pos, negsuc, length, take}
use Rattle.wire.specs.Fields.{field, bytes, laid}
use Rattle.wire.specs.Signs.{meant}
use Rattle.zone.specs.Units.{second_ns}
use Rattle.records.specs.Limits.{base}
use Rattle.records.specs.Records.{Coverage, Published, Point, Rule, Record, coverage, transition, rule, event, body, encode, encode_all, points_at, times_at}
use Rattle.records.specs.Book.{bad_frame, bad_fields, number_of, number_at, number_from, refusal, records_from, records}

abbrev exact : Published
exact = record { tag = 0; nanoseconds = pos 0; text = 0 }

abbrev minutes : ℕ → ℕ
minutes m = m * (60 * second_ns)

abbrev point : ℕ → ℕ → Point
point m p = record { time = minutes m; phase = p }

-- a weekly rule for all of 2026
abbrev weekly : ℕ → List Point → Rule
weekly mask points =
    record { first = pos 20454; last = pos 20818; code = 0; mask = mask; label = 0; evidence = 1; derived = 0; uncertainty = exact; points = points }

-- covering all of 2026
abbrev year : Coverage
year = record { start = pos (1767225600 * second_ns); end = pos (1798761600 * second_ns); offset = pos 0 }

abbrev weekdays : Rule
weekdays = weekly 31 (point 0 0 ∷ point 480 3 ∷ point 990 0 ∷ [])

abbrev pub book_a : List Record
book_a = coverage year ∷ rule weekdays ∷ rule (weekly 96 (point 0 0 ∷ [])) ∷ []

abbrev change : ℤ → Record
change at = transition (record { at = at; offset = pos 3600 })

abbrev happening : List ℕ → Record
happening times = event (record { first = pos 20454; last = pos 20818; code = 1; evidence = 1; uncertainty = exact; times = times })

pub record Example : Type 0 where
  pub bytes : List ℕ
  pub number : ℕ

abbrev of : List Record → ℕ → Example
of rs n = record { bytes = encode_all rs; number = n }

-- each with the number that it gets
abbrev pub examples : List Example
examples =
    of [] 0
    ∷ of book_a 0
    -- clock changes 172,800 s apart and one second less; between other records
    ∷ of (book_a ++ change (pos 0) ∷ rule weekdays ∷ change (pos 172800) ∷ []) 0
    ∷ of (book_a ++ change (pos 0) ∷ rule weekdays ∷ change (pos 172799) ∷ []) 9
    -- a first record that is not kind 1; a second kind 1, whatever its fields
    ∷ of (rule weekdays ∷ book_a) 2
    ∷ of (book_a ++ coverage (record { start = pos 0; end = pos 0; offset = pos 57601 }) ∷ []) 3
    -- coverage that ends where it starts; an offset of -57,601 s
    ∷ of (coverage (record { start = pos 0; end = pos 0; offset = pos 0 }) ∷ []) 8
    ∷ of (coverage (record { start = pos 0; end = pos 1; offset = negsuc 57600 }) ∷ []) 4
    -- no point; a first point not at 00:00; points that do not rise; a phase of 8, which comes first
    ∷ of (book_a ++ rule (weekly 31 []) ∷ []) 5
    ∷ of (book_a ++ rule (weekly 31 (point 1 0 ∷ [])) ∷ []) 5
    ∷ of (book_a ++ rule (weekly 31 (point 0 0 ∷ point 5 1 ∷ point 5 2 ∷ [])) ∷ []) 6
    ∷ of (book_a ++ rule (weekly 31 (point 1 0 ∷ point 5 1 ∷ point 5 8 ∷ [])) ∷ []) 4
    -- bit 7 of a mask
    ∷ of (book_a ++ rule (weekly 128 (point 0 0 ∷ [])) ∷ []) 4
    -- an event with no time, at 24:00, with nine times
    ∷ of (book_a ++ happening [] ∷ happening (minutes 1439 ∷ 0 ∷ []) ∷ []) 0
    ∷ of (book_a ++ happening (minutes 1440 ∷ []) ∷ []) 4
    ∷ of (book_a ++ happening (0 ∷ 0 ∷ 0 ∷ 0 ∷ 0 ∷ 0 ∷ 0 ∷ 0 ∷ 0 ∷ []) ∷ []) 4
    -- a byte too few, a byte too many, an unknown kind
    ∷ record { bytes = take 120 (encode_all book_a); number = 2 }
    ∷ record { bytes = encode_all book_a ++ 0 ∷ []; number = 2 }
    ∷ record { bytes = encode_all book_a ++ 2 ∷ 0 ∷ 5 ∷ 0 ∷ []; number = 2 }
    ∷ []

pub numbers : map (λ (e : Example). refusal base e.bytes) examples ≡ map (λ (e : Example). e.number) examples
unfolding field bytes laid meant body encode encode_all points_at times_at bad_frame bad_fields number_of number_at number_from refusal
numbers = refl

-- Book A's bytes give back its records
pub records_A : records (encode_all book_a) ≡ book_a
unfolding field bytes laid meant body encode encode_all points_at times_at records_from records
records_A = refl

pub length_A : length (encode_all book_a) ≡ 124
unfolding bytes laid body encode encode_all
length_A = refl
