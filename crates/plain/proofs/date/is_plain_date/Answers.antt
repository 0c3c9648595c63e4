use Rattle.plain.proofs.Looking.{midnight_by, date_by}
use Rattle.plain.proofs.date.is_plain_date.Goals as goal

pub returns : goal.returns
returns c = date_by _ _ _ (midnight_by _ _ c.to_utc_at.ensures) (midnight_by _ _ c.midnight_after.ensures) c.in_order.ensures c.reads_throughout.ensures
