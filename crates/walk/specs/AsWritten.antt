-- The walk in document 01's own words, phase rule 4. Assumes nothing.
use Rattle.std.specs.Prelude.{ℕ, zero, suc, min, cond, List, [], ◌∷◌, ◌++◌, ltb}
use Rattle.spans.specs.Spans.{Span, clip, reach}
use Rattle.spans.specs.Timeline.{Venue, midnight, spans}

-- one thing where a list has anything, another where it is empty
abbrev pub if_any : {A B : Type 0} → List A → B → B → B
if_any [] some-thing nothing = nothing
if_any (x ∷ xs) some-thing nothing = some-thing

-- "It takes the cursor's date, clips that date's spans to this part and to the cursor, and advances to the last clipped end. If none
-- advances it goes to next midnight, or stops if that is not later. It stops after 3,660 turns."
unfoldable pub as_written : {A : Type 0} → Venue A → ℕ → ℕ → ℕ → List (Span A)
as_written v hi zero cursor = []
as_written v hi (suc n) cursor =
    let d = v.reads cursor in
    let here = clip cursor hi (spans v d) in
    let advanced = as_written v hi n (reach cursor here) in
    let skipped = as_written v hi n (min hi (midnight v (suc d))) in
    cond (ltb cursor hi) (if_any here (here ++ advanced) (cond (ltb cursor (midnight v (suc d))) skipped [])) []
