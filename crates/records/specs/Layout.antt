-- Where the fields of a record stand, each said once: behind the one before it, so many bytes wide. Assumes nothing.
use Rattle.std.specs.Prelude.{ℕ, ◌+◌, ◌*◌, Bool, cond, ◌||◌, List, eqb, ℤ}
use Rattle.std.specs.Int.{Width}
use Rattle.wire.specs.Fields.{field}
use Rattle.wire.specs.Signs.{signed}

-- a field: how far from the record's first byte, and how many bytes
pub record Place : Type 0 where
  pub from : ℕ
  pub width : ℕ

-- n bytes behind a field
abbrev pub then : Place → ℕ → Place
then p n = record { from = p.from + p.width; width = n }

-- what a field of the record at `at` says, and what it says as a two's complement
abbrev pub number : Place → List ℕ → ℕ → ℕ
number p s at = field p.width s (at + p.from)

abbrev pub integer : Width → Place → List ℕ → ℕ → ℤ
integer w p s at = signed w (number p s at)

-- ---- kinds

abbrev pub coverage_kind : ℕ
coverage_kind = 1

abbrev pub transition_kind : ℕ
transition_kind = 2

abbrev pub rule_kind : ℕ
rule_kind = 3

abbrev pub event_kind : ℕ
event_kind = 4

-- which of them are rules
abbrev pub is_rule : ℕ → Bool
is_rule k = eqb k rule_kind

-- rules and events have a first and a last day, an uncertainty and n points or times
abbrev pub is_dated : ℕ → Bool
is_dated k = is_rule k || eqb k event_kind

-- by the kind of a record: what is so of coverage, of a transition, of a rule, of any other
abbrev pub by : {A : Type 0} → ℕ → A → A → A → A → A
by k covers changes rules happens = cond (eqb k coverage_kind) covers (cond (eqb k transition_kind) changes (cond (is_rule k) rules happens))

-- ---- fields

-- Every record: 2-byte length L of what follows, 2-byte kind
abbrev pub size : Place
size = record { from = 0; width = 2 }

abbrev pub kind : Place
kind = then size 2

abbrev pub head_size : ℕ
head_size = size.width + kind.width

-- Kind 1: coverage start i64, end i64, first offset i32
abbrev pub coverage_start : Place
coverage_start = then kind 8

abbrev pub coverage_end : Place
coverage_end = then coverage_start 8

abbrev pub coverage_offset : Place
coverage_offset = then coverage_end 4

-- Kind 2: instant i64, offset i32
abbrev pub transition_instant : Place
transition_instant = then kind 8

abbrev pub transition_offset : Place
transition_offset = then transition_instant 4

-- Kinds 3 and 4: first, last day i32
abbrev pub day_first : Place
day_first = then kind 4

abbrev pub day_last : Place
day_last = then day_first 4

-- Kind 3: code u8, weekday mask u8, label, evidence, derived u16
abbrev pub rule_code : Place
rule_code = then day_last 1

abbrev pub rule_mask : Place
rule_mask = then rule_code 1

abbrev pub rule_label : Place
rule_label = then rule_mask 2

abbrev pub rule_evidence : Place
rule_evidence = then rule_label 2

abbrev pub rule_derived : Place
rule_derived = then rule_evidence 2

-- Kind 4: code, evidence u16
abbrev pub event_code : Place
event_code = then day_last 2

abbrev pub event_evidence : Place
event_evidence = then event_code 2

-- Kinds 3 and 4 go on, behind a field of their own: uncertainty tag u8, nanoseconds i64, text u16, n u8
abbrev pub before_tag : ℕ → Place
before_tag k = cond (is_rule k) rule_derived event_evidence

abbrev pub tag : ℕ → Place
tag k = then (before_tag k) 1

abbrev pub nanoseconds : ℕ → Place
nanoseconds k = then (tag k) 8

abbrev pub text : ℕ → Place
text k = then (nanoseconds k) 2

abbrev pub count : ℕ → Place
count k = then (text k) 1

-- then n of time u64 and, for kind 3, phase u8
abbrev pub time : ℕ → Place
time k = then (count k) 8

abbrev pub phase : ℕ → Place
phase k = then (time k) 1

-- from one of the n to the next
abbrev pub step : ℕ → ℕ
step k = cond (is_rule k) ((time k).width + (phase k).width) (time k).width

-- ---- lengths

-- L, of what follows it: with n points or times
abbrev pub length_of : ℕ → ℕ → ℕ
length_of k n = by k 22 14 (30 + step rule_kind * n) (26 + step event_kind * n)

-- all bytes of coverage, and of a transition
abbrev pub coverage_size : ℕ
coverage_size = size.width + length_of coverage_kind 0

abbrev pub transition_size : ℕ
transition_size = size.width + length_of transition_kind 0
