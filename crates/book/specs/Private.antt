-- What the private functions answer. Assumes nothing.
use Rattle.std.specs.Prelude.{ℕ, zero, suc, ◌+◌, ◌-◌, ◌^◌, ◌<◌, ◌≡◌, Bool, false, ◌&&◌, ◌||◌, List, ltb}
use Rattle.std.specs.Int.{w64}
use Rattle.wire.specs.Signs.{turned}
use Rattle.book.specs.declared.judge.Seen.{Seen}
use Rattle.zone.specs.Units.{spacing}
use Rattle.records.specs.Layout.{number, by, transition_instant, time, phase, step, transition_kind, is_rule}
use Rattle.records.specs.Book.{bad_time, kind_at, last_phase}

-- one point or time, read from `at` on
abbrev pub bad_item : List ℕ → ℕ → ℕ → Bool
bad_item s k at = bad_time (number (time k) s at) || (is_rule k && ltb last_phase (number (phase k) s at))

-- one of n of them
unfoldable pub bad_from : List ℕ → ℕ → ℕ → ℕ → Bool
bad_from s k at zero = false
bad_from s k at (suc n) = bad_item s k at || bad_from s k (at + step k) n

-- one of n of them comes before `least`, or is not after the one before it
unfoldable pub falls_at : List ℕ → ℕ → ℕ → ℕ → ℕ → Bool
falls_at s k least at zero = false
falls_at s k least at (suc n) = ltb (number (time k) s at) least || falls_at s k (number (time k) s at + 1) (at + step k) n

-- the counts can rise, and the next transition's instant leaves room for the spacing
pub record Room (s : List ℕ) (at : ℕ) (t : Seen) : Type 0 where
  pub coverages : t.coverages < 2 ^ 31
  pub transitions : t.transitions < 2 ^ 31
  pub rules : t.rules < 2 ^ 31
  pub events : t.events < 2 ^ 31
  pub instant : kind_at s at ≡ transition_kind → turned w64 (number transition_instant s at) < 2 ^ 64 - spacing

abbrev pub one_more : List ℕ → ℕ → Seen → Seen
one_more s at t =
    by (kind_at s at) (record { coverages = t.coverages + 1; transitions = t.transitions; rules = t.rules; events = t.events; least = t.least })
    (record { coverages = t.coverages; transitions = t.transitions + 1; rules = t.rules; events = t.events; least = turned w64 (number transition_instant s at) + spacing })
    (record { coverages = t.coverages; transitions = t.transitions; rules = t.rules + 1; events = t.events; least = t.least })
    (record { coverages = t.coverages; transitions = t.transitions; rules = t.rules; events = t.events + 1; least = t.least })

-- how many records of kind k were seen
abbrev pub seen : ℕ → Seen → ℕ
seen k t = by k t.coverages t.transitions t.rules t.events
