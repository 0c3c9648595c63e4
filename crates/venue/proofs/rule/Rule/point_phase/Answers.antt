use Rattle.std.proofs.Common.{arith}
use Rattle.venue.proofs.Listing.{point_inside, phase_read}
use Rattle.venue.proofs.rule.Rule.point_phase.Goals as goal

pub overflow_mul-place : goal.overflow_mul-place
overflow_mul-place c = omega (arith, point_inside c.args.self.now.listed c.requires c.step_of.ensures.0)

pub overflow_add-place : goal.overflow_add-place
overflow_add-place c = omega (arith, point_inside c.args.self.now.listed c.requires c.step_of.ensures.0)

pub overflow_add-place-2 : goal.overflow_add-place-2
overflow_add-place-2 c = omega (arith, point_inside c.args.self.now.listed c.requires c.step_of.ensures.0, c.time_place.ensures.0)

pub overflow_add-place-3 : goal.overflow_add-place-3
overflow_add-place-3 c = omega (arith, point_inside c.args.self.now.listed c.requires c.step_of.ensures.0, c.time_place.ensures.0)

pub get-requires : goal.get-requires
get-requires c = omega (arith, point_inside c.args.self.now.listed c.requires c.step_of.ensures.0, c.time_place.ensures.0)

pub returns : goal.returns
returns c = phase_read c.args.self.now.listed c.requires (rw (c.step_of.ensures.0, c.time_place.ensures.0) at c.get.ensures)
