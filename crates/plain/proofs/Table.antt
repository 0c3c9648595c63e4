-- The windows of the table are plain, or are not, as it says. Assumes nothing.
use mathlib.Core.Path.{◌≡◌, sym, ◌∙◌}
use mathlib.Core.Bool.{Bool, true, false}
use mathlib.Core.List.{List, [], ◌∷◌, map}
use borrow.Author.Tests.{ltb-true}
use Rattle.zone.specs.Units.{instant_of}
use Rattle.plain.specs.Deciding.{Decides}
use Rattle.plain.specs.Examples.{Case, table, bytes_of, start_of, end_of, told, answers, forward, forwards, Says, Each, CaseHolds}
use Rattle.plain.proofs.Deciding.{no_test, book_decides}

says : {P : Type 0} (b q : Bool) → Decides b P → b ≡ q → Says q P
says b true d e = d.yes e
says b false d e = λ p. no_test (sym e ∙ d.no p)

each : (cs : List Case) → map told cs ≡ map (λ (c : Case). c.plain) cs → map forward cs ≡ map (λ (c : Case). true) cs → Each CaseHolds cs
each [] e f = tt
each (c ∷ cs) e f =
    let h : told c ≡ c.plain = cc in
    let t : map told cs ≡ map (λ (c : Case). c.plain) cs = cc in
    let i : forward c ≡ true = cc in
    let u : map forward cs ≡ map (λ (c : Case). true) cs = cc in (
      says (told c) c.plain (book_decides (bytes_of c) (start_of c) (end_of c) (ltb-true (instant_of (start_of c)) (instant_of (end_of c)) i)) h,
      each cs t u,
    )

pub holds : Each CaseHolds table
holds = each table answers forwards
