use Rattle.std.proofs.Common.{ℕ, refl, sym, ap, ◌∙◌, true, arith}
use Rattle.std.specs.Prelude.{Option}
use Rattle.zone.specs.Clocks.{zone_in}
use Rattle.zone.proofs.Domain.{date_small}
use Rattle.venue.specs.Values.{rules_in}
use Rattle.day.specs.Governing.{governing_rule}
use Rattle.day.specs.Meaning.{ruled}
use Rattle.day.specs.Venues.{book_in}
use Rattle.day.proofs.Points.{stands_at}
use Rattle.walk.specs.Walking.{edges_after}
use Rattle.walk.proofs.Rest.{kept_nothing, kept_rule, begun}
use Rattle.walk.proofs.Shifting.{steady_on}
use Rattle.walk.proofs.turn.begin.Goals as goal

pub governing_near-governed-requires : goal.governing_near-governed-requires
governing_near-governed-requires c =
    let clock = c.args.venue.now.clock in (
      c.requires,
      omega arith,
      omega (arith, c.date_of-date.ensures, date_small clock.offset0 clock.ats.now clock.offsets.now c.args.cursor.0 clock.valid),
    )

pub date_boundaries-clear-requires : goal.date_boundaries-clear-requires
date_boundaries-clear-requires c =
    let clock = c.args.venue.now.clock in (
      omega arith,
      steady_on clock.offset0 clock.ats.now clock.offsets.now clock.valid c.args.cursor.0
          _ c.steady_offset-steady.ensures _ c.date_of-date.ensures,
    )

pub returns-in-None : goal.returns-in-None
returns-in-None c =
    let venue = c.args.venue.now in
    let z = zone_in venue.clock in
    let edges = c.args.edges.now in
    let near = c.governing_near-governed.ensures in (
      begun (book_in venue) z (governing_rule (rules_in venue.rules)) c.args.turns c.args.cursor _ _ true _ c.date_of-date.ensures near.0
          (kept_nothing (book_in venue) z _ _ c.in-None.is),
      near.3,
      record {
        left = refl;
        began = refl;
        at = refl;
        date = c.date_of-date.ensures;
        place = near.2;
        next = refl;
        edges = sym (ap (λ (g : Option ℕ). edges_after (book_in venue) z c.date_of-date.result.0 g edges) c.in-None.is);
        keeps = near.4;
      },
    )

pub returns-in-Some : goal.returns-in-Some
returns-in-Some c =
    let venue = c.args.venue.now in
    let book = book_in venue in
    let z = zone_in venue.clock in
    let near = c.governing_near-governed.ensures in
    let here = c.date_boundaries-clear.ensures in (
      begun book z (governing_rule (rules_in venue.rules)) c.args.turns c.args.cursor c.date_of-date.result _ _ _ c.date_of-date.ensures
          (sym (ap (ruled book) c.in-Some.is) ∙ near.0)
          (kept_rule book z c.date_of-date.result.0 _ _ _ refl (stands_at book near.1 c.in-Some.is) here.0 here.1),
      near.3,
      record {
        left = refl;
        began = refl;
        at = refl;
        date = c.date_of-date.ensures;
        place = sym c.in-Some.is ∙ near.2;
        next = refl;
        edges = here.0;
        keeps = near.4;
      },
    )
