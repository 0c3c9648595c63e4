-- The zone that a clock holds. Assumes nothing.
use Rattle.zone.specs.Zone.{Zone, zone_of}
use Rattle.zone.specs.declared.clock.Clock.{Clock}

abbrev pub zone_in : Clock → Zone
zone_in c = zone_of c.offset0 c.ats.now c.offsets.now
